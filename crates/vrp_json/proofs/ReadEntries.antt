-- A list that is read entry by entry: what was read so far, and what one more entry adds.
use Rattle.std.proofs.Common.{◌≡◌, ◌++◌, ◌⊎◌, ◌∙◌, ℕ, List, [], ◌∷◌, Option, None, Some, Ok, Err, inl, inr, refl, sym, ap, append_assoc, length-append, arith}
use Rattle.std.specs.List.Sorted.{IsStrictlySortedBy}
use Rattle.std.specs.Option.{is_none}
use Rattle.json.specs.Json.{Json, Items, Members, after_end_array, value}
use Rattle.json.specs.Token.{Token}
use Rattle.net_prefix.specs.declared.payload.Vrp.{Vrp}
use Rattle.vrp_csv.specs.TakenIn.{TakesIn}
use Rattle.vrp_csv.specs.declared.list.Loaded.{Loaded}
use Rattle.vrp_csv.proofs.ReadRows.{append_nil, count_push, rows_more, set_push, skipped_more}
use Rattle.vrp_json.specs.ExpiredEntries.{AreEntriesAt, IsEntryAt, IsLoadOfAt}
use Rattle.vrp_json.specs.PayloadDocument.{AreEntries, entries_of}
use Rattle.vrp_json.specs.PayloadEntries.{IsEntry}
use Rattle.vrp_json.specs.Places.{AreRefusedItems, IsAtItems, ReadsItems}
use Rattle.vrp_json.specs.declared.fault.EntryFault.{EntryFault}
use Rattle.vrp_json.specs.declared.fault.JsonFault.{JsonFault}
use Rattle.vrp_json.specs.declared.fault.JsonFault.TheVariants.{Entry, NoMemory}
use Rattle.vrp_json.proofs.Steps.{close_items, next_item}

-- some of the items were read, and the reader stands before the others
abbrev pub HasRead : Option ℕ → Items → Members → Loaded → List Token → Type 0
HasRead second js behind loaded ts =
    (before : List Json) × (left : Items) × (entries_of js ≡ before ++ entries_of left) × IsAtItems left behind ts
    × IsLoadOfAt second before loaded

pub begins : (second : Option ℕ) (js : Items) (behind : Members) (loaded : Loaded) (ts : List Token) → IsAtItems js behind ts → loaded.set.keys ≡ [] → loaded.rows ≡ 0 → loaded.skipped ≡ 0 → HasRead second js behind loaded ts
unfolding IsStrictlySortedBy
begins second js behind loaded ts at empty none zero = ([], js, refl, at, ([], tt, rw empty (tt, λ payload. refl), none, zero))

entries_push : (second : Option ℕ) (entries : List Json) (answers : List (Option Vrp)) (entry : Json) (answer : Option Vrp) → AreEntriesAt second entries answers → IsEntryAt second entry answer → AreEntriesAt second (entries ++ entry ∷ []) (answers ++ answer ∷ [])
entries_push second [] [] entry answer h k = (k, tt)
entries_push second [] (a ∷ answers) entry answer h k = absurd h
entries_push second (e ∷ entries) [] entry answer h k = absurd h
entries_push second (e ∷ entries) (a ∷ answers) entry answer h k = (h.0, entries_push second entries answers entry answer h.1 k)

load_push : (second : Option ℕ) (entries : List Json) (entry : Json) (answer : Option Vrp) (old new : Loaded) → IsLoadOfAt second entries old → IsEntryAt second entry answer → TakesIn answer old new → IsLoadOfAt second (entries ++ entry ∷ []) new
load_push second entries entry answer old new (answers, are, set, count, skipped) is t =
    let more = rows_more answer old new t in
    let over = skipped_more answer old new t in (
      answers ++ answer ∷ [],
      entries_push second entries answers entry answer are is,
      set_push answers answer old new set t,
      omega (arith, more, count, length-append entries (entry ∷ [])),
      omega (arith, over, skipped, count_push is_none answers answer),
    )

-- what entries say that are left at a second
pub said_by : (second : Option ℕ) (entries : List Json) (answers : List (Option Vrp)) → AreEntriesAt second entries answers → (said : List (Option Vrp)) × AreEntries entries said
said_by None entries answers h = (answers, h)
said_by (Some second) [] [] h = ([], tt)
said_by (Some second) [] (a ∷ answers) h = absurd h
said_by (Some second) (e ∷ entries) [] h = absurd h
said_by (Some second) (e ∷ entries) (a ∷ answers) h =
    let more = said_by (Some second) entries answers h.1 in
    (h.0.0 ∷ more.0, (h.0.1, more.1))

module _ (second : Option ℕ) (js : Items) (behind : Members) (old : Loaded) (ts : List Token) (read : HasRead second js behind old ts) where
  -- one entry more was read
  pub takes_more : (entry : Json) (answer : Option Vrp) (new : Loaded) (t : List Token) → after_end_array ts ≡ None → value 126 ts ≡ Some (entry, t) → IsEntryAt second entry answer → TakesIn answer old new → HasRead second js behind new t
  takes_more entry answer new t unclosed is entry_is taken =
      let (before, left, whole, at, load) = read in
      let (more, left_is, there) = next_item left behind ts t entry at unclosed is in (
        before ++ entry ∷ [],
        more,
        whole ∙ ap (λ l. before ++ entries_of l) left_is ∙ sym (append_assoc before (entry ∷ []) (entries_of more)),
        there,
        load_push second before entry answer old new load entry_is taken,
      )

  -- all were read
  pub takes_all : (s : List Token) → after_end_array ts ≡ Some s → ReadsItems second js behind (Ok old) s
  takes_all s end =
      let (before, left, whole, at, load) = read in
      let (none, there) = close_items left behind ts s at end in
      (rw (whole ∙ ap (λ l. before ++ entries_of l) none ∙ append_nil before) load, there)

  refuses : (entry : Json) (why : EntryFault) (place : ℕ) (t : List Token) → after_end_array ts ≡ None → value 126 ts ≡ Some (entry, t) → IsEntry entry (Err why) → place ≡ old.rows → AreRefusedItems (entries_of js) (Entry place why)
  refuses entry why place t unclosed is entry_is here =
      let (before, left, whole, at, (answers, are, set, count, skipped)) = read in
      let (more, left_is, there) = next_item left behind ts t entry at unclosed is in
      let (said, they) = said_by second before answers are in
      (before, entry, entries_of more, said, whole ∙ ap (λ l. before ++ entries_of l) left_is, they, here ∙ count, entry_is)

  -- the next entry is faulty, or memory ran out
  pub stops : (entry : Json) (fault : JsonFault) (place : ℕ) (t : List Token) → after_end_array ts ≡ None → value 126 ts ≡ Some (entry, t) → place ≡ old.rows
      → ((why : EntryFault) × (fault ≡ Entry place why) × IsEntry entry (Err why)) ⊎ (fault ≡ NoMemory) → AreRefusedItems (entries_of js) fault
  stops entry fault place t unclosed is here (inl (why, fault_is, entry_is)) = rw fault_is (refuses entry why place t unclosed is entry_is here)
  stops entry fault place t unclosed is here (inr fault_is) = rw fault_is tt
