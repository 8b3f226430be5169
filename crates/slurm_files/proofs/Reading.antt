-- Entries that are read one after another.
use Rattle.std.proofs.Common.{◌≡◌, ◌⊎◌, ◌<◌, ◌≤◌, ◌+◌, ◌∙◌, ℕ, List, [], ◌∷◌, Vec, map, drop, get_or, length, Option, None, Some, Result, Ok, Err, inl, inr, refl, sym, ap, subst, add-one, drop-cons}
use Rattle.std.proofs.lemmas.List.{drop_all}
use Rattle.json.specs.Json.{Json, array}
use Rattle.json.specs.Value.{items_of, value_view}
use Rattle.json.specs.declared.value.Value.{Value}
use Rattle.json.specs.declared.value.Value.TheVariants.{Array}
use Rattle.json.proofs.Trees.{view-Array}
use Rattle.local_exceptions.specs.declared.fault.ExceptionFault.{ExceptionFault}
use Rattle.slurm_files.specs.SlurmDocument.{Reads, ReadsParts, Said, nothing_said, outcome, Takes, entry_fault, with_entry}
use Rattle.slurm_files.specs.SlurmEntries.{IsEntry}
use Rattle.slurm_files.specs.SlurmParts.{SlurmParts, entries_in, entries_of}
use Rattle.slurm_files.specs.declared.entry.Entry.{Entry}
use Rattle.slurm_files.specs.declared.fault.Cause.{Cause}
use Rattle.slurm_files.specs.declared.fault.Cause.TheVariants as cause
use Rattle.slurm_files.specs.declared.fault.SlurmFault.{SlurmFault}
use Rattle.slurm_files.specs.declared.fault.SlurmFault.TheVariants as fault
use Rattle.slurm_files.specs.declared.member.Member.{Member}
use Rattle.slurm_files.specs.declared.member.Part.{Part}
use Rattle.slurm_files.specs.declared.member.Part.TheVariants as part

-- the values of an array are those that it was made of
pub entries_of-items_of : (js : List Json) → entries_of (items_of js) ≡ js
entries_of-items_of [] = refl
entries_of-items_of (j ∷ js) = ap (λ more. j ∷ more) (entries_of-items_of js)

-- a member that is an array has its entries
in_array : (m : Member) (found : Result Json Cause) (js : List Json) → found ≡ Ok (array (items_of js)) → entries_in m found ≡ Ok js
in_array m found js is = rw (is, entries_of-items_of js) refl

pub entries_of_array : {A : Type 0} (m : Member) (found : Result Json Cause) (v : Value A) (entries : Vec (Value A) A) (slice : List (Value A)) → found ≡ Ok (value_view v) → v ≡ Array entries
    → slice ≡ entries.items → entries_in m found ≡ Ok (map value_view slice)
entries_of_array {A} m found v entries slice here is same =
    in_array m found (map value_view slice)
    (here ∙ ap (λ (x : Value A). Ok (value_view x)) is ∙ ap (λ (j : Json). Ok j) (view-Array entries)
    ∙ ap (λ (vs : List (Value A)). Ok (array (items_of (map value_view vs)))) (sym same))

module _ {X : Type 0} (view : X → Json) where
  -- the entries from a place on begin with the one at the place
  from_place : (xs : List X) (i : ℕ) (x : X) → i < length xs → x ≡ get_or xs i x → map view (drop i xs) ≡ view x ∷ map view (drop (i + 1) xs)
  from_place xs i x less is = rw (add-one, drop-cons xs i x, sym is) refl

  at_place : (part : Part) (xs : List X) (i : ℕ) (x : X) (said : Said) (result : Result Said SlurmFault) → i < length xs → x ≡ get_or xs i x
      → Reads part i (view x ∷ map view (drop (i + 1) xs)) said result → Reads part i (map view (drop i xs)) said result
  at_place part xs i x said result less is h = subst (λ entries. Reads part i entries said result) (sym (from_place xs i x less is)) h

  -- an entry has a fault
  pub stops : (part : Part) (xs : List X) (i : ℕ) (x : X) (said : Said) (why : Cause) → i < length xs → x ≡ get_or xs i x → IsEntry part (view x) (Err why)
      → Reads part i (map view (drop i xs)) said (Err (fault.Entry part i why))
  stops part xs i x said why less is h = at_place part xs i x said (Err (fault.Entry part i why)) less is (Err why, h, refl)

  full : (part : Part) (i : ℕ) (more : List Json) (entry : Entry) (o : Option ExceptionFault) (said : Said) (why : ExceptionFault) → o ≡ Some why
      → Takes (λ after found. Reads part (i + 1) more after found) part i entry o said (Err (fault.Entry part i cause.TooMany))
  full part i more entry None said why is = absurd (cc is)
  full part i more entry (Some other) said why is = refl

  -- there are too many
  pub too_many : (part : Part) (xs : List X) (i : ℕ) (x : X) (said : Said) (entry : Entry) (why : ExceptionFault) → i < length xs → x ≡ get_or xs i x → IsEntry part (view x) (Ok entry)
      → entry_fault entry said ≡ Some why → Reads part i (map view (drop i xs)) said (Err (fault.Entry part i cause.TooMany))
  too_many part xs i x said entry why less is h is_full =
      at_place part xs i x said (Err (fault.Entry part i cause.TooMany)) less is (Ok entry, h, full part i (map view (drop (i + 1) xs)) entry (entry_fault entry said) said why is_full)

  taken : (part : Part) (i : ℕ) (more : List Json) (entry : Entry) (o : Option ExceptionFault) (said after : Said) (result : Result Said SlurmFault) → o ≡ None → after ≡ with_entry entry said
      → Reads part (i + 1) more after result → Takes (λ later found. Reads part (i + 1) more later found) part i entry o said result
  taken part i more entry None said after result is same h = subst (λ (s : Said). Reads part (i + 1) more s result) same h
  taken part i more entry (Some why) said after result is same h = absurd (cc is)

  -- an entry is taken, and reading goes on
  pub goes_on : (part : Part) (xs : List X) (i : ℕ) (x : X) (said after : Said) (entry : Entry) (result : Result Said SlurmFault) → i < length xs → x ≡ get_or xs i x → IsEntry part (view x) (Ok entry)
      → entry_fault entry said ≡ None → after ≡ with_entry entry said → Reads part (i + 1) (map view (drop (i + 1) xs)) after result → Reads part i (map view (drop i xs)) said result
  goes_on part xs i x said after entry result less is h room same more =
      at_place part xs i x said result less is (Ok entry, h, taken part i (map view (drop (i + 1) xs)) entry (entry_fault entry said) said after result room same more)

  -- so far, what is added behind is added to what was said at first
  abbrev Added_to : Part → List X → ℕ → Said → Said → Type 0
  Added_to part xs i said start = (result : Result Said SlurmFault) → Reads part i (map view (drop i xs)) said result → Reads part 0 (map view xs) start result

  -- all entries are taken
  pub ends : (part : Part) (xs : List X) (i : ℕ) (said start : Said) → length xs ≤ i → Added_to part xs i said start → Reads part 0 (map view xs) start (Ok said)
  ends part xs i said start past so_far = so_far (Ok said) (subst (λ (rest : List X). Reads part i (map view rest) said (Ok said)) (sym (drop_all i xs past)) refl)

  -- an entry isn't taken, or there is no memory for it
  pub refused_at : (part : Part) (xs : List X) (i : ℕ) (x : X) (said start : Said) (entry : Entry) (fault_told : SlurmFault) → i < length xs → x ≡ get_or xs i x → IsEntry part (view x) (Ok entry)
      → (fault_told ≡ fault.NoMemory) ⊎ ((why : ExceptionFault) × (entry_fault entry said ≡ Some why) × (fault_told ≡ fault.Entry part i cause.TooMany))
      → Added_to part xs i said start → (fault_told ≡ fault.NoMemory) ⊎ Reads part 0 (map view xs) start (Err fault_told)
  refused_at part xs i x said start entry fault_told less is h (inl memory) so_far = inl memory
  refused_at part xs i x said start entry fault_told less is h (inr (why, is_full, told)) so_far =
      inr (subst (λ (f : SlurmFault). Reads part 0 (map view xs) start (Err f)) (sym told) (so_far (Err (fault.Entry part i cause.TooMany)) (too_many part xs i x said entry why less is h is_full)))

-- ---- the four arrays, one after another

abbrev Added : Part → List Json → Said → Said → Result (Unit {0}) SlurmFault → Type 0
Added p entries said after result = (result ≡ Err fault.NoMemory) ⊎ Reads p 0 entries said (outcome result after)

abbrev ReadAll : SlurmParts → Result Said SlurmFault → Type 0
ReadAll parts result = (result ≡ Err fault.NoMemory) ⊎ ReadsParts parts result

abbrev Fails : Result (Unit {0}) SlurmFault → Type 0
Fails result = result ≡ Err fault.NoMemory

abbrev Lacks : Result Said SlurmFault → Type 0
Lacks result = result ≡ Err fault.NoMemory

fault_of : (why : SlurmFault) → Fails (Err why) → why ≡ fault.NoMemory
fault_of why h = cc

refused : (why : SlurmFault) → Fails (Err why) → Lacks (Err why)
refused why h = ap (λ (x : SlurmFault). Err x) (fault_of why h)

reads : (p : Part) (entries : List Json) (said after : Said) → Added p entries said after (Ok tt) → Reads p 0 entries said (Ok after)
reads p entries said after (inl h) = absurd (cc h)
reads p entries said after (inr h) = h

pub second_refused : (parts : SlurmParts) (start one after : Said) (why : SlurmFault) → start ≡ nothing_said → Added part.PrefixFilters parts.prefix_filters start one (Ok tt)
    → Added part.BgpsecFilters parts.bgpsec_filters one after (Err why) → ReadAll parts (Err why)
second_refused parts start one after why begun first (inl h) = inl (refused why h)
second_refused parts start one after why begun first (inr h) =
    let read = subst (λ (s : Said). Reads part.PrefixFilters 0 parts.prefix_filters s (Ok one)) begun (reads part.PrefixFilters parts.prefix_filters start one first) in
    inr (Ok one, read, (Err why, h, refl))

pub third_refused : (parts : SlurmParts) (start one two after : Said) (why : SlurmFault) → start ≡ nothing_said → Added part.PrefixFilters parts.prefix_filters start one (Ok tt)
    → Added part.BgpsecFilters parts.bgpsec_filters one two (Ok tt) → Added part.PrefixAssertions parts.prefix_assertions two after (Err why) → ReadAll parts (Err why)
third_refused parts start one two after why begun first second (inl h) = inl (refused why h)
third_refused parts start one two after why begun first second (inr h) =
    let read = subst (λ (s : Said). Reads part.PrefixFilters 0 parts.prefix_filters s (Ok one)) begun (reads part.PrefixFilters parts.prefix_filters start one first) in
    inr (Ok one, read, (Ok two, reads part.BgpsecFilters parts.bgpsec_filters one two second, (Err why, h, refl)))

pub fourth_added : (parts : SlurmParts) (start one two three after : Said) (result : Result (Unit {0}) SlurmFault) → start ≡ nothing_said → Added part.PrefixFilters parts.prefix_filters start one (Ok tt)
    → Added part.BgpsecFilters parts.bgpsec_filters one two (Ok tt) → Added part.PrefixAssertions parts.prefix_assertions two three (Ok tt)
    → Added part.BgpsecAssertions parts.bgpsec_assertions three after result → ReadAll parts (outcome result after)
fourth_added parts start one two three after (Ok done) begun first second third (inl h) = absurd (cc h)
fourth_added parts start one two three after (Err why) begun first second third (inl h) = inl (refused why h)
fourth_added parts start one two three after result begun first second third (inr h) =
    let read = subst (λ (s : Said). Reads part.PrefixFilters 0 parts.prefix_filters s (Ok one)) begun (reads part.PrefixFilters parts.prefix_filters start one first) in
    inr (Ok one, read, (Ok two, reads part.BgpsecFilters parts.bgpsec_filters one two second, (Ok three, reads part.PrefixAssertions parts.prefix_assertions two three third, h)))

-- what an answer says of its fault, it says of the answer
pub of_answer : (result : Result (Unit {0}) SlurmFault) (why : SlurmFault) (after : Said) (Q : Result Said SlurmFault → Type 0) → result ≡ Err why → (why ≡ fault.NoMemory) ⊎ Q (Err why) → (result ≡ Err fault.NoMemory) ⊎ Q (outcome result after)
of_answer result why after Q is (inl memory) = inl (is ∙ ap (λ (f : SlurmFault). Err f) memory)
of_answer result why after Q is (inr h) = inr (subst (λ (r : Result (Unit {0}) SlurmFault). Q (outcome r after)) (sym is) h)
