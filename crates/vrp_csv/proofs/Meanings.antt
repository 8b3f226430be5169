-- What the records of a list mean is one thing.
use Rattle.std.proofs.Common.{◌≡◌, ◌+◌, ◌++◌, ◌⊎◌, ◌∙◌, ℕ, Bool, true, false, List, [], ◌∷◌, length, Option, None, Some, Result, Ok, Err, inl, inr, refl, sym, ap, subst, arith}
use Rattle.net_prefix.specs.declared.payload.Vrp.{Vrp}
use Rattle.net_prefix.specs.declared.prefix.Prefix.{Prefix}
use Rattle.net_prefix.proofs.PayloadSets.{same_payload, same_set}
use Rattle.net_prefix.proofs.Prefixes.{same_prefix}
use Rattle.net_prefix.proofs.Unique.{writes_one}
use Rattle.net_prefix.specs.MaxLengths.{IsMaxLength}
use Rattle.net_prefix.specs.PrefixText.{Writes}
use Rattle.vrp_csv.specs.ExpiredRows.{AreRowsAt, IsExpired, IsLeft, IsLoadAt, IsRowAt}
use Rattle.vrp_csv.specs.PayloadList.{AreRows, HasFaultBehind, IsLoad, IsRefused, IsRefusedBehind, IsStop}
use Rattle.vrp_csv.specs.PayloadRows.{HasAsn, IsRow, field_of, front_of}
use Rattle.vrp_csv.specs.declared.fault.RowFault.{RowFault}
use Rattle.vrp_csv.specs.declared.fault.RowFault.TheVariants as fault
use Rattle.vrp_csv.specs.declared.list.Loaded.{Loaded}
use Rattle.vrp_csv.proofs.ReadRows.{left_one, said_by}
use Rattle.vrp_csv.proofs.Rows.{max_one}

asn_one : (width : ℕ) (fields : List (List ℕ)) (a b : ℕ) → HasAsn width fields a → HasAsn width fields b → a ≡ b
asn_one width fields a b h k = h.1.1.2 ∙ sym k.1.1.2

prefix_one : (text : List ℕ) (p q : Prefix) → Writes text p.bits p.len → Writes text q.bits q.len → p ≡ q
prefix_one text p q h k = let same = writes_one text p.bits p.len q.bits q.len h k in same_prefix p q same.0 same.1

colon_one : (b : Bool) → b ≡ true → b ≡ false → ⊥
colon_one true h k = cc k
colon_one false h k = cc h

payload_one : (width : ℕ) (fields : List (List ℕ)) (v w : Vrp) → IsRow width fields (Ok (Some v)) → IsRow width fields (Ok (Some w)) → v ≡ w
payload_one width fields v w h k =
    let prefix = prefix_one (field_of fields (front_of width + 1)) v.prefix w.prefix h.0.2 k.0.2 in
    let len = ap (λ (p : Prefix). p.len) prefix in
    same_payload v w prefix (max_one w.prefix.len (field_of fields (front_of width + 2)) v.max_len w.max_len (rw len at h.1) k.1) (asn_one width fields v.asn.0 w.asn.0 h.0.0 k.0.0)

-- a payload's row has no other answer
payload_or_max : (width : ℕ) (fields : List (List ℕ)) (v : Vrp) → IsRow width fields (Ok (Some v)) → IsRow width fields (Err fault.Max) → ⊥
payload_or_max width fields v h (asn, prefix, has, none) =
    let same = prefix_one (field_of fields (front_of width + 1)) v.prefix prefix h.0.2 has.2 in
    let fits : IsMaxLength v.prefix.len v.max_len = (v.reaches, v.short) in
    let len = ap (λ (p : Prefix). p.len) same in
    none v.max_len (rw len at h.1) (rw len at fits)

-- a row has one answer
pub row_one : (width : ℕ) (fields : List (List ℕ)) (a b : Result (Option Vrp) RowFault) → IsRow width fields a → IsRow width fields b → a ≡ b
row_one width fields (Err fault.Header) b h k = absurd h
row_one width fields (Err fault.Io) b h k = absurd h
row_one width fields (Err fault.NoMemory) b h k = absurd h
row_one width fields (Err fault.Csv) b h k = absurd h
row_one width fields a (Err fault.Header) h k = absurd k
row_one width fields a (Err fault.Io) h k = absurd k
row_one width fields a (Err fault.NoMemory) h k = absurd k
row_one width fields a (Err fault.Csv) h k = absurd k
row_one width fields (Ok (Some v)) (Ok (Some w)) h k = ap (λ (x : Vrp). Ok (Some x)) (payload_one width fields v w h k)
row_one width fields (Ok (Some v)) (Ok None) h k = absurd (colon_one _ k.2 h.0.1)
row_one width fields (Ok (Some v)) (Err fault.Fields) h k = absurd (k h.0.0.0)
row_one width fields (Ok (Some v)) (Err fault.Asn) h k = absurd (k.1 v.asn.0 h.0.0.1)
row_one width fields (Ok (Some v)) (Err fault.Prefix) h k = absurd (k.3 v.prefix h.0.2)
row_one width fields (Ok (Some v)) (Err fault.Max) h k = absurd (payload_or_max width fields v h k)
row_one width fields (Ok None) (Ok (Some w)) h k = absurd (colon_one _ h.2 k.0.1)
row_one width fields (Ok None) (Ok None) h k = refl
row_one width fields (Ok None) (Err fault.Fields) h k = absurd (k h.1.0)
row_one width fields (Ok None) (Err fault.Asn) h k = absurd (k.1 h.0 h.1.1)
row_one width fields (Ok None) (Err fault.Prefix) h k = absurd (colon_one _ h.2 k.2)
row_one width fields (Ok None) (Err fault.Max) h k = absurd (colon_one _ h.2 k.2.1)
row_one width fields (Err fault.Fields) (Ok (Some w)) h k = absurd (h k.0.0.0)
row_one width fields (Err fault.Fields) (Ok None) h k = absurd (h k.1.0)
row_one width fields (Err fault.Fields) (Err fault.Fields) h k = refl
row_one width fields (Err fault.Fields) (Err fault.Asn) h k = absurd (h k.0)
row_one width fields (Err fault.Fields) (Err fault.Prefix) h k = absurd (h k.1.0)
row_one width fields (Err fault.Fields) (Err fault.Max) h k = absurd (h k.2.0.0)
row_one width fields (Err fault.Asn) (Ok (Some w)) h k = absurd (h.1 w.asn.0 k.0.0.1)
row_one width fields (Err fault.Asn) (Ok None) h k = absurd (h.1 k.0 k.1.1)
row_one width fields (Err fault.Asn) (Err fault.Fields) h k = absurd (k h.0)
row_one width fields (Err fault.Asn) (Err fault.Asn) h k = refl
row_one width fields (Err fault.Asn) (Err fault.Prefix) h k = absurd (h.1 k.0 k.1.1)
row_one width fields (Err fault.Asn) (Err fault.Max) h k = absurd (h.1 k.0 k.2.0.1)
row_one width fields (Err fault.Prefix) (Ok (Some w)) h k = absurd (h.3 w.prefix k.0.2)
row_one width fields (Err fault.Prefix) (Ok None) h k = absurd (colon_one _ k.2 h.2)
row_one width fields (Err fault.Prefix) (Err fault.Fields) h k = absurd (k h.1.0)
row_one width fields (Err fault.Prefix) (Err fault.Asn) h k = absurd (k.1 h.0 h.1.1)
row_one width fields (Err fault.Prefix) (Err fault.Prefix) h k = refl
row_one width fields (Err fault.Prefix) (Err fault.Max) h k = absurd (h.3 k.1 k.2.2)
row_one width fields (Err fault.Max) (Ok (Some w)) h k = absurd (payload_or_max width fields w k h)
row_one width fields (Err fault.Max) (Ok None) h k = absurd (colon_one _ k.2 h.2.1)
row_one width fields (Err fault.Max) (Err fault.Fields) h k = absurd (k h.2.0.0)
row_one width fields (Err fault.Max) (Err fault.Asn) h k = absurd (k.1 h.0 h.2.0.1)
row_one width fields (Err fault.Max) (Err fault.Prefix) h k = absurd (k.3 h.1 h.2.2)
row_one width fields (Err fault.Max) (Err fault.Max) h k = refl

answer_of : Result (Option Vrp) RowFault → Option Vrp
answer_of (Ok answer) = answer
answer_of (Err why) = None

fault_of : Result (Option Vrp) RowFault → RowFault
fault_of (Ok answer) = fault.Csv
fault_of (Err why) = why

one_answer : (width : ℕ) (fields : List (List ℕ)) (x y : Option Vrp) → IsRow width fields (Ok x) → IsRow width fields (Ok y) → x ≡ y
unfolding answer_of
one_answer width fields x y h k = ap answer_of (row_one width fields (Ok x) (Ok y) h k)

one_fault : (width : ℕ) (fields : List (List ℕ)) (f g : RowFault) → IsRow width fields (Err f) → IsRow width fields (Err g) → f ≡ g
unfolding fault_of
one_fault width fields f g h k = ap fault_of (row_one width fields (Err f) (Err g) h k)

is_good : Result (Option Vrp) RowFault → Bool
is_good (Ok answer) = true
is_good (Err why) = false

good_or_faulty : (width : ℕ) (fields : List (List ℕ)) (x : Option Vrp) (f : RowFault) → IsRow width fields (Ok x) → IsRow width fields (Err f) → ⊥
unfolding is_good
good_or_faulty width fields x f h k = colon_one true refl (sym (sym (ap is_good (row_one width fields (Ok x) (Err f) h k))))

one_left : (second : Option ℕ) (width : ℕ) (fields : List (List ℕ)) (x y : Option Vrp) → IsRowAt second width fields x → IsRowAt second width fields y → x ≡ y
one_left None width fields x y h k = one_answer width fields x y h k
one_left (Some second) width fields x y (said, is, left) (other, is', left') =
    let same = one_answer width fields said other is is' in
    left_one (IsExpired second width fields) other x y (subst (λ (o : Option Vrp). IsLeft (IsExpired second width fields) o x) same left) left'

rows_left : (second : Option ℕ) (width : ℕ) (rows : List (List (List ℕ))) (xs ys : List (Option Vrp)) → AreRowsAt second width rows xs → AreRowsAt second width rows ys → xs ≡ ys
rows_left second width [] [] [] h k = refl
rows_left second width [] [] (y ∷ ys) h k = absurd k
rows_left second width [] (x ∷ xs) ys h k = absurd h
rows_left second width (r ∷ rows) [] ys h k = absurd h
rows_left second width (r ∷ rows) (x ∷ xs) [] h k = absurd k
rows_left second width (r ∷ rows) (x ∷ xs) (y ∷ ys) h k =
    let head = one_left second width r x y h.0 k.0 in
    let tail = rows_left second width rows xs ys h.1 k.1 in
    λ i. head i ∷ tail i

-- records load one set at a second
pub load_one_at : (second : Option ℕ) (records : List (List (List ℕ))) (a b : Loaded) → IsLoadAt second records a → IsLoadAt second records b → (a.set.keys ≡ b.set.keys) × (a.rows ≡ b.rows) × (a.skipped ≡ b.skipped)
load_one_at second [] a b h k = absurd h
load_one_at second (header ∷ rows) a b (is, (xs, are, set, count, skipped)) (is', (ys, are', set', count', skipped')) =
    let same = rows_left second (length header) rows xs ys are are' in
    let set_a = rw same at set in
    let skipped_a = rw same at skipped in (
      same_set a.set.keys b.set.keys set_a.0 set'.0 (λ payload. set_a.1 payload ∙ sym (set'.1 payload)),
      count ∙ sym count',
      skipped_a ∙ sym skipped',
    )

-- records load one set
pub load_one : (records : List (List (List ℕ))) (a b : Loaded) → IsLoad records a → IsLoad records b → (a.set.keys ≡ b.set.keys) × (a.rows ≡ b.rows) × (a.skipped ≡ b.skipped)
load_one [] a b h k = absurd h
load_one (header ∷ rows) a b h k = load_one_at None (header ∷ rows) a b h k

-- the row at a place among good rows is good
among : (width : ℕ) (before : List (List (List ℕ))) (row : List (List ℕ)) (after : List (List (List ℕ))) (answers : List (Option Vrp)) → AreRows width (before ++ row ∷ after) answers → (x : Option Vrp) × IsRow width row (Ok x)
among width [] row after [] h = absurd h
among width [] row after (x ∷ xs) h = (x, h.0)
among width (r ∷ before) row after [] h = absurd h
among width (r ∷ before) row after (x ∷ xs) h = among width before row after xs h.1

good_rows : (width : ℕ) (rows : List (List (List ℕ))) (answers : List (Option Vrp)) (f : RowFault) (count : ℕ) → AreRows width rows answers → HasFaultBehind width rows f count → ⊥
good_rows width rows answers f count are (row, after, (before, earlier, whole, good, len), faulty) =
    let here = among width before row after answers (rw whole at are) in
    good_or_faulty width row here.0 f here.1 faulty

-- rows that load are refused only where reading stops
stopped : (width : ℕ) (rows : List (List (List ℕ))) (answers : List (Option Vrp)) (f : RowFault) (count : ℕ) → AreRows width rows answers → IsRefusedBehind width rows f count → IsStop f
stopped width rows answers fault.Header count are h = absurd h
stopped width rows answers fault.Fields count are h = absurd (good_rows width rows answers fault.Fields count are h)
stopped width rows answers fault.Asn count are h = absurd (good_rows width rows answers fault.Asn count are h)
stopped width rows answers fault.Prefix count are h = absurd (good_rows width rows answers fault.Prefix count are h)
stopped width rows answers fault.Max count are h = absurd (good_rows width rows answers fault.Max count are h)
stopped width rows answers fault.Io count are h = inl refl
stopped width rows answers fault.NoMemory count are h = inr refl
stopped width rows answers fault.Csv count are h = absurd h

-- the same at a second
pub loads_or_stops_at : (second : Option ℕ) (records : List (List (List ℕ))) (loaded : Loaded) (f : RowFault) (row : ℕ) → IsLoadAt second records loaded → IsRefused records f row → IsStop f
loads_or_stops_at second [] loaded f row h k = absurd h
loads_or_stops_at second (header ∷ rows) loaded f row h (inl (place, is, none)) = absurd (none h.0)
loads_or_stops_at second (header ∷ rows) loaded f row h (inr (inl (place, stop))) = stop
loads_or_stops_at second (header ∷ rows) loaded f row h (inr (inr (is, count, behind, place))) =
    let said = said_by second (length header) rows h.1.0 h.1.1 in
    stopped (length header) rows said.0 f count said.1 behind

-- what loads is refused only where reading stops
pub loads_or_stops : (records : List (List (List ℕ))) (loaded : Loaded) (f : RowFault) (row : ℕ) → IsLoad records loaded → IsRefused records f row → IsStop f
loads_or_stops [] loaded f row h k = absurd h
loads_or_stops (header ∷ rows) loaded f row h k = loads_or_stops_at None (header ∷ rows) loaded f row h k

head_of : List (List (List ℕ)) → List (List ℕ)
head_of [] = []
head_of (r ∷ rs) = r

tail_of : List (List (List ℕ)) → List (List (List ℕ))
tail_of [] = []
tail_of (r ∷ rs) = rs

-- of the same rows the first faults are one, and stand behind as many rows
same_place : (width : ℕ) (before other : List (List (List ℕ))) (row place : List (List ℕ)) (after rest : List (List (List ℕ))) (xs ys : List (Option Vrp)) (f g : RowFault)
    → before ++ row ∷ after ≡ other ++ place ∷ rest → AreRows width before xs → AreRows width other ys → IsRow width row (Err f) → IsRow width place (Err g) → (f ≡ g) × (length before ≡ length other)
unfolding head_of tail_of
same_place width [] [] row place after rest xs ys f g e h k p q =
    let same : row ≡ place = ap head_of e in
    (one_fault width place f g (subst (λ r. IsRow width r (Err f)) same p) q, refl)
same_place width [] (o ∷ other) row place after rest xs [] f g e h k p q = absurd k
same_place width [] (o ∷ other) row place after rest xs (y ∷ ys) f g e h k p q =
    let same : row ≡ o = ap head_of e in
    absurd (good_or_faulty width o y f k.0 (subst (λ r. IsRow width r (Err f)) same p))
same_place width (b ∷ before) [] row place after rest [] ys f g e h k p q = absurd h
same_place width (b ∷ before) [] row place after rest (x ∷ xs) ys f g e h k p q =
    let same : b ≡ place = ap head_of e in
    absurd (good_or_faulty width place x g (subst (λ r. IsRow width r (Ok x)) same h.0) q)
same_place width (b ∷ before) (o ∷ other) row place after rest [] ys f g e h k p q = absurd h
same_place width (b ∷ before) (o ∷ other) row place after rest (x ∷ xs) [] f g e h k p q = absurd k
same_place width (b ∷ before) (o ∷ other) row place after rest (x ∷ xs) (y ∷ ys) f g e h k p q =
    let more = same_place width before other row place after rest xs ys f g (ap tail_of e) h.1 k.1 p q in
    (more.0, omega (arith, more.1))

behind_one : (width : ℕ) (rows : List (List (List ℕ))) (f g : RowFault) (n m : ℕ) → HasFaultBehind width rows f n → HasFaultBehind width rows g m → (f ≡ g) × (n ≡ m)
behind_one width rows f g n m (row, after, (before, xs, whole, good, len), faulty) (place, rest, (other, ys, whole', good', len'), faulty') =
    let same = same_place width before other row place after rest xs ys f g (sym whole ∙ whole') good good' faulty faulty' in
    (same.0, len ∙ same.1 ∙ sym len')

-- why rows are refused: reading stopped, or their first fault
refusal : (width : ℕ) (rows : List (List (List ℕ))) (f : RowFault) (n : ℕ) → IsRefusedBehind width rows f n → IsStop f ⊎ HasFaultBehind width rows f n
refusal width rows fault.Header n h = absurd h
refusal width rows fault.Fields n h = inr h
refusal width rows fault.Asn n h = inr h
refusal width rows fault.Prefix n h = inr h
refusal width rows fault.Max n h = inr h
refusal width rows fault.Io n h = inl (inl refl)
refusal width rows fault.NoMemory n h = inl (inr refl)
refusal width rows fault.Csv n h = absurd h

rows_refused : (width : ℕ) (rows : List (List (List ℕ))) (f g : RowFault) (row place n m : ℕ) → row ≡ n + 1 → place ≡ m + 1
    → (IsStop f ⊎ HasFaultBehind width rows f n) → (IsStop g ⊎ HasFaultBehind width rows g m) → IsStop f ⊎ IsStop g ⊎ ((f ≡ g) × (row ≡ place))
rows_refused width rows f g row place n m r p (inl stop) k = inl stop
rows_refused width rows f g row place n m r p (inr h) (inl stop) = inr (inl stop)
rows_refused width rows f g row place n m r p (inr h) (inr k) =
    let same = behind_one width rows f g n m h k in
    inr (inr (same.0, omega (arith, r, p, same.1)))

-- of records that don't load the first fault and its row are one
pub refusal_one : (records : List (List (List ℕ))) (f g : RowFault) (row place : ℕ) → IsRefused records f row → IsRefused records g place → IsStop f ⊎ IsStop g ⊎ ((f ≡ g) × (row ≡ place))
refusal_one records f g row place (inr (inl (zero, stop))) k = inl stop
refusal_one records f g row place (inl h) (inr (inl (zero, stop))) = inr (inl stop)
refusal_one records f g row place (inl (r, is, none)) (inl (p, is', none')) = inr (inr (is ∙ sym is', r ∙ sym p))
refusal_one [] f g row place (inl h) (inr (inr k)) = absurd k
refusal_one (header ∷ rows) f g row place (inl (r, is, none)) (inr (inr k)) = absurd (none k.0)
refusal_one [] f g row place (inr (inr h)) k = absurd h
refusal_one (header ∷ rows) f g row place (inr (inr h)) (inl (p, is, none)) = absurd (none h.0)
refusal_one (header ∷ rows) f g row place (inr (inr h)) (inr (inl (p, stop))) = inr (inl stop)
refusal_one (header ∷ rows) f g row place (inr (inr (is, n, h, r))) (inr (inr (is', m, k, p))) =
    rows_refused (length header) rows f g row place n m r p (refusal (length header) rows f n h) (refusal (length header) rows g m k)
