-- A list that is read row by row: what was read so far, and what one more row adds.
use Rattle.std.proofs.Common.{◌≡◌, ◌≤◌, ◌+◌, ◌++◌, ◌||◌, ◌⊎◌, ◌∙◌, ℕ, Bool, true, false, cond, List, [], ◌∷◌, length, Option, None, Some, Result, Ok, Err, MatchResult, inl, inr, refl, sym, ap, subst, append_assoc, length-append, arith}
use Rattle.std.proofs.lemmas.List.Sums.{sum_by-append}
use Rattle.std.specs.List.{count_by, list_any}
use Rattle.std.specs.List.Sorted.{IsStrictlySortedBy}
use Rattle.std.specs.Option.{is_none}
use Rattle.std.specs.BTreeMap.{is_at}
use Rattle.net_prefix.specs.PayloadOrder.{payload_cmp}
use Rattle.net_prefix.specs.declared.payload.Vrp.{Vrp}
use Rattle.net_prefix.proofs.PayloadSets.{has-put, put-is_set}
use Rattle.vrp_csv.specs.ExpiredRows.{AreRowsAt, IsLeft, IsLoadAt, IsLoadOfAt, IsRowAt}
use Rattle.vrp_csv.specs.PayloadList.{AreRows, IsLoad, IsRefused, IsRefusedBehind, IsSetOf, IsStop, gives}
use Rattle.vrp_csv.specs.PayloadRows.{IsHeader, IsRow}
use Rattle.vrp_csv.specs.RecordsLeft.{IsNext}
use Rattle.vrp_csv.specs.TakenIn.{TakesIn}
use Rattle.vrp_csv.specs.declared.fault.CsvFault.{CsvFault}
use Rattle.vrp_csv.specs.declared.fault.RowFault.{RowFault}
use Rattle.vrp_csv.specs.declared.fault.RowFault.TheVariants as fault
use Rattle.vrp_csv.specs.declared.list.Loaded.{Loaded}

-- some of the rows were read, and these are left
abbrev pub HasRead : Option ℕ → ℕ → List (List (List ℕ)) → Loaded → Option (List (List (List ℕ))) → Type 0
HasRead second width rows loaded left =
    (rest : List (List (List ℕ))) × (left ≡ Some rest) × (before : List (List (List ℕ))) × (rows ≡ before ++ rest)
    × IsLoadOfAt second width before loaded

pub begins : (second : Option ℕ) (width : ℕ) (rows : List (List (List ℕ))) (loaded : Loaded) (left : Option (List (List (List ℕ)))) → left ≡ Some rows → loaded.set.keys ≡ [] → loaded.rows ≡ 0 → loaded.skipped ≡ 0 → HasRead second width rows loaded left
unfolding IsStrictlySortedBy
begins second width rows loaded left is empty none zero =
    (rows, is, [], refl, ([], tt, rw empty (tt, λ payload. refl), none, zero))

rows_push : (second : Option ℕ) (width : ℕ) (rows : List (List (List ℕ))) (answers : List (Option Vrp)) (row : List (List ℕ)) (answer : Option Vrp) → AreRowsAt second width rows answers → IsRowAt second width row answer → AreRowsAt second width (rows ++ row ∷ []) (answers ++ answer ∷ [])
rows_push second width [] [] row answer h k = (k, tt)
rows_push second width [] (a ∷ answers) row answer h k = absurd h
rows_push second width (r ∷ rows) [] row answer h k = absurd h
rows_push second width (r ∷ rows) (a ∷ answers) row answer h k = (h.0, rows_push second width rows answers row answer h.1 k)

joined : (a b c : Bool) → (a || (b || c)) ≡ (b || (a || c))
joined true true c = refl
joined true false c = refl
joined false b c = refl

any_push : {X : Type 0} (test : X → Bool) (xs : List X) (x : X) → list_any test (xs ++ x ∷ []) ≡ (test x || list_any test xs)
any_push test [] x = refl
any_push test (y ∷ ys) x = ap (λ b. test y || b) (any_push test ys x) ∙ joined (test y) (test x) (list_any test ys)

pub count_push : {X : Type 0} (test : X → Bool) (xs : List X) (x : X) → count_by test (xs ++ x ∷ []) ≡ count_by test xs + cond (test x) 1 0
count_push test xs x = sum_by-append (λ y. cond (test y) 1 0) xs (x ∷ []) ∙ ap (λ n. count_by test xs + n) (omega arith)

pub set_push : (answers : List (Option Vrp)) (answer : Option Vrp) (old new : Loaded) → IsSetOf answers old.set.keys → TakesIn answer old new → IsSetOf (answers ++ answer ∷ []) new.set.keys
set_push answers None old new h t =
    rw t.0 (h.0, λ payload. h.1 payload ∙ sym (any_push (gives payload) answers None))
set_push answers (Some other) old new h t =
    rw t.0 (
      put-is_set old.set.keys other h.0,
      λ payload.
          has-put old.set.keys other payload
          ∙ ap (λ b. is_at (payload_cmp payload) other || b) (h.1 payload)
          ∙ sym (any_push (gives payload) answers (Some other)),
    )

-- a row counts once
pub rows_more : (answer : Option Vrp) (old new : Loaded) → TakesIn answer old new → new.rows ≡ old.rows + 1
rows_more None old new t = t.1
rows_more (Some payload) old new t = t.1

pub skipped_more : (answer : Option Vrp) (old new : Loaded) → TakesIn answer old new → new.skipped ≡ old.skipped + cond (is_none answer) 1 0
skipped_more None old new t = t.2
skipped_more (Some payload) old new t = omega (arith, t.2)

-- what is skipped is at most all
pub skipped_fits : (answer : Option Vrp) (old new : Loaded) → TakesIn answer old new → old.skipped ≤ old.rows → new.skipped ≤ new.rows
skipped_fits None old new t h = omega (arith, t.1, t.2, h)
skipped_fits (Some payload) old new t h = omega (arith, t.1, t.2, h)

load_push : (second : Option ℕ) (width : ℕ) (rows : List (List (List ℕ))) (row : List (List ℕ)) (answer : Option Vrp) (old new : Loaded) → IsLoadOfAt second width rows old → IsRowAt second width row answer → TakesIn answer old new → IsLoadOfAt second width (rows ++ row ∷ []) new
load_push second width rows row answer old new (answers, are, set, count, skipped) is t =
    let more = rows_more answer old new t in
    let over = skipped_more answer old new t in (
      answers ++ answer ∷ [],
      rows_push second width rows answers row answer are is,
      set_push answers answer old new set t,
      omega (arith, more, count, length-append rows (row ∷ [])),
      omega (arith, over, skipped, count_push is_none answers answer),
    )

-- one row more was read
pub takes_more : (second : Option ℕ) (width : ℕ) (rows : List (List (List ℕ))) (row : List (List ℕ)) (answer : Option Vrp) (old new : Loaded) (left after : Option (List (List (List ℕ))))
    → HasRead second width rows old left → ((records : List (List (List ℕ))) → left ≡ Some records → IsNext records true row after) → IsRowAt second width row answer → TakesIn answer old new → HasRead second width rows new after
takes_more second width rows row answer old new left after (rest, is, before, whole, load) next row_is t =
    let (more, rest_is, after_is) = next rest is in (
      more,
      after_is,
      before ++ row ∷ [],
      whole ∙ ap (λ l. before ++ l) rest_is ∙ sym (append_assoc before (row ∷ []) more),
      load_push second width before row answer old new load row_is t,
    )

pub append_nil : {X : Type 0} (xs : List X) → xs ++ [] ≡ xs
append_nil [] = refl
append_nil (x ∷ xs) = ap (λ l. x ∷ l) (append_nil xs)

-- all rows were read
pub takes_all : (second : Option ℕ) (width : ℕ) (rows : List (List (List ℕ))) (loaded : Loaded) (left : Option (List (List (List ℕ)))) → HasRead second width rows loaded left → ((records : List (List (List ℕ))) → left ≡ Some records → records ≡ []) → IsLoadOfAt second width rows loaded
takes_all second width rows loaded left (rest, is, before, whole, load) none =
    rw (whole ∙ ap (λ l. before ++ l) (none rest is) ∙ append_nil before) load

-- what rows say that are left at a second
pub said_by : (second : Option ℕ) (width : ℕ) (rows : List (List (List ℕ))) (answers : List (Option Vrp)) → AreRowsAt second width rows answers → (said : List (Option Vrp)) × AreRows width rows said
said_by None width rows answers h = (answers, h)
said_by (Some second) width [] [] h = ([], tt)
said_by (Some second) width [] (a ∷ answers) h = absurd h
said_by (Some second) width (r ∷ rows) [] h = absurd h
said_by (Some second) width (r ∷ rows) (a ∷ answers) h =
    let more = said_by (Some second) width rows answers h.1 in
    (h.0.0 ∷ more.0, (h.0.1, more.1))

-- reading stopped
pub stops : (second : Option ℕ) (width : ℕ) (rows : List (List (List ℕ))) (loaded : Loaded) (left : Option (List (List (List ℕ)))) (why : RowFault) → HasRead second width rows loaded left → IsStop why → IsRefusedBehind width rows why loaded.rows
stops second width rows loaded left why (rest, is, before, whole, (answers, are, set, count, skipped)) (inl stop) =
    let (said, they) = said_by second width before answers are in
    rw stop (rest, (before, said, whole, they, count))
stops second width rows loaded left why (rest, is, before, whole, (answers, are, set, count, skipped)) (inr stop) =
    let (said, they) = said_by second width before answers are in
    rw stop (rest, (before, said, whole, they, count))

faulty : (second : Option ℕ) (width : ℕ) (rows before : List (List (List ℕ))) (row : List (List ℕ)) (more : List (List (List ℕ))) (loaded : Loaded) (why : RowFault) → rows ≡ before ++ row ∷ more → IsLoadOfAt second width before loaded → IsRow width row (Err why) → IsRefusedBehind width rows why loaded.rows
faulty second width rows before row more loaded fault.Header whole load is = absurd is
faulty second width rows before row more loaded fault.Fields whole (answers, are, set, count, skipped) is = let said = said_by second width before answers are in (row, more, (before, said.0, whole, said.1, count), is)
faulty second width rows before row more loaded fault.Asn whole (answers, are, set, count, skipped) is = let said = said_by second width before answers are in (row, more, (before, said.0, whole, said.1, count), is)
faulty second width rows before row more loaded fault.Prefix whole (answers, are, set, count, skipped) is = let said = said_by second width before answers are in (row, more, (before, said.0, whole, said.1, count), is)
faulty second width rows before row more loaded fault.Max whole (answers, are, set, count, skipped) is = let said = said_by second width before answers are in (row, more, (before, said.0, whole, said.1, count), is)
faulty second width rows before row more loaded fault.Io whole load is = absurd is
faulty second width rows before row more loaded fault.NoMemory whole load is = absurd is
faulty second width rows before row more loaded fault.Csv whole load is = absurd is

-- the next row is faulty, or memory ran out
pub refuses : (second : Option ℕ) (width : ℕ) (rows : List (List (List ℕ))) (row : List (List ℕ)) (loaded : Loaded) (left after : Option (List (List (List ℕ)))) (why : RowFault)
    → HasRead second width rows loaded left → ((records : List (List (List ℕ))) → left ≡ Some records → IsNext records true row after) → (IsRow width row (Err why) ⊎ (why ≡ fault.NoMemory)) → IsRefusedBehind width rows why loaded.rows
refuses second width rows row loaded left after why (rest, is, before, whole, load) next (inl row_is) =
    let (more, rest_is, after_is) = next rest is in
    faulty second width rows before row more loaded why (whole ∙ ap (λ l. before ++ l) rest_is) load row_is
refuses second width rows row loaded left after why read next (inr memory) = stops second width rows loaded left why read (inr memory)

-- what the rows behind a header load is what the records load
pub of_records : (second : Option ℕ) (records : List (List (List ℕ))) (header : List (List ℕ)) (rows : List (List (List ℕ))) (width : ℕ) (r : Result Loaded CsvFault)
    → records ≡ header ∷ rows → IsHeader header → width ≡ length header
    → MatchResult r (λ loaded. IsLoadOfAt second width rows loaded) (λ refused. (count : ℕ) × IsRefusedBehind width rows refused.fault count × (refused.row ≡ count + 1))
    → MatchResult r (λ loaded. IsLoadAt second records loaded) (λ refused. IsRefused records refused.fault refused.row)
of_records second records header rows width (Ok loaded) whole is wide h = rw whole (is, subst (λ n. IsLoadOfAt second n rows loaded) wide h)
of_records second records header rows width (Err refused) whole is wide h = rw whole (inr (inr (is, h.0, subst (λ n. IsRefusedBehind n rows refused.fault h.0) wide h.1, h.2)))

-- what is left of one answer is one
pub left_one : (Expired : Type 0) (said x y : Option Vrp) → IsLeft Expired said x → IsLeft Expired said y → x ≡ y
left_one Expired said x y (inl (over, is)) (inl (over', is')) = is ∙ sym is'
left_one Expired said x y (inl (over, is)) (inr (stands, is')) = absurd (stands over)
left_one Expired said x y (inr (stands, is)) (inl (over, is')) = absurd (stands over)
left_one Expired said x y (inr (stands, is)) (inr (stands', is')) = is ∙ sym is'

-- without a second nothing expires
pub at_none : (records : List (List (List ℕ))) (loaded : Loaded) → IsLoadAt None records loaded → IsLoad records loaded
at_none [] loaded h = h
at_none (header ∷ rows) loaded h = h

pub read_at_none : (records : List (List (List ℕ))) (r : Result Loaded CsvFault) → MatchResult r (λ loaded. IsLoadAt None records loaded) (λ refused. IsRefused records refused.fault refused.row)
    → MatchResult r (λ loaded. IsLoad records loaded) (λ refused. IsRefused records refused.fault refused.row)
read_at_none records (Ok loaded) h = at_none records loaded h
read_at_none records (Err refused) h = h
