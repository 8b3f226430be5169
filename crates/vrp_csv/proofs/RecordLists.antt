-- The records of a text, one after another.
use Rattle.std.proofs.Common.{◌≡◌, ◌<◌, ◌≤◌, ◌+◌, ◌∙◌, ℕ, zero, suc, Bool, true, false, cond, List, [], ◌∷◌, length, Option, None, Some, option_map, unwrap_or, refl, sym, ap, arith}
use Rattle.csv.specs.Machine.{Read, ends_at_end, is_end, next_record, step}
use Rattle.csv.specs.Reading.{NextIs, ReadRecord, ReadsNext, default_config, pending_of, records, records_from, records_next, source_of, strip_bom}
use Rattle.csv.specs.declared.parser.Config.{Config}
use Rattle.csv.specs.declared.parser.State.{State}
use Rattle.csv.specs.declared.parser.State.TheVariants as st
use Rattle.csv.specs.declared.reader.Reader.{Reader}
use Rattle.vrp_csv.specs.RecordsLeft.{IsNext, records_at, records_left}

rest_of : Option Read → List ℕ → List ℕ
rest_of None other = other
rest_of (Some p) other = p.2

rest_is : (p q : Read) → Some p ≡ Some q → q.2 ≡ p.2
unfolding rest_of
rest_is p q e = sym (ap (λ o. rest_of o []) e)

-- what a record leaves of a text is no longer than the text, and shorter where the text has an octet
shorter_case : (b : Bool) (o : Option Read) (p q : Read) (n : ℕ) → length p.2 ≤ n → ((r : Read) → o ≡ Some r → length r.2 ≤ n) → cond b (Some p) o ≡ Some q → length q.2 ≤ n
shorter_case true o p q n here more e = rw (rest_is p q e) here
shorter_case false o p q n here more e = more q e

no_longer : (cfg : Config) (xs : List ℕ) (s : State) (fields : List (List ℕ)) (field : List ℕ) (p : Read) → next_record cfg s fields field xs ≡ Some p → length p.2 ≤ length xs
unfolding next_record
no_longer cfg [] s fields field p e = shorter_case (ends_at_end s) None _ p 0 (omega arith) (λ r none. absurd (cc none)) e
no_longer cfg (c ∷ rest) s fields field p e =
    let here = shorter_case (is_end (step cfg s c).1) _ _ p (length rest) (omega arith) (λ r more. no_longer cfg rest _ _ _ r more) e in
    omega (arith, here)

shorter : (cfg : Config) (c : ℕ) (rest : List ℕ) (s : State) (p : Read) → next_record cfg s [] [] (c ∷ rest) ≡ Some p → length p.2 ≤ length rest
unfolding next_record
shorter cfg c rest s p e = shorter_case (is_end (step cfg s c).1) _ _ p (length rest) (omega arith) (λ r more. no_longer cfg rest _ _ _ r more) e

-- at the end of a text one record may stand, and no more
last_case : (s : State) (p : Read) (b : Bool) (fields : List (List ℕ)) → cond b (Some (fields, st.StartRecord, [])) None ≡ Some p → (p.1 ≡ st.StartRecord) × (p.2 ≡ [])
last_case s p true fields e = (sym (ap (λ o. state_of o st.StartRecord) e), sym (ap (λ o. text_of o []) e))
  where
    state_of : Option Read → State → State
    state_of None other = other
    state_of (Some q) other = q.1

    text_of : Option Read → List ℕ → List ℕ
    text_of None other = other
    text_of (Some q) other = q.2
last_case s p false fields e = absurd (cc e)

at_end : (cfg : Config) (s : State) (p : Read) → next_record cfg s [] [] [] ≡ Some p → (p.1 ≡ st.StartRecord) × (p.2 ≡ [])
unfolding next_record
at_end cfg s p e = last_case s p (ends_at_end s) ([] ∷ []) e

nothing : (cfg : Config) (n : ℕ) → records_from cfg n st.StartRecord [] ≡ []
unfolding records_from next_record
nothing cfg zero = refl
nothing cfg (suc n) = refl

-- a count above the length of the text is enough for all its records
enough_case : (cfg : Config) (n m : ℕ) (o : Option Read) → ((p : Read) → o ≡ Some p → records_from cfg n p.1 p.2 ≡ records_from cfg m p.1 p.2) → records_next (records_from cfg n) o ≡ records_next (records_from cfg m) o
enough_case cfg n m None h = refl
enough_case cfg n m (Some p) h = ap (λ l. p.0 ∷ l) (h p refl)

at_last : (cfg : Config) (n m : ℕ) (s : State) (p : Read) → next_record cfg s [] [] [] ≡ Some p → records_from cfg n p.1 p.2 ≡ records_from cfg m p.1 p.2
at_last cfg n m s p e =
    let last = at_end cfg s p e in
    rw (last.0, last.1) (nothing cfg n ∙ sym (nothing cfg m))

enough : (cfg : Config) (n m : ℕ) (s : State) (xs : List ℕ) → length xs < n → length xs < m → records_from cfg n s xs ≡ records_from cfg m s xs
unfolding records_from
enough cfg zero m s xs small less = absurd (omega (arith, small))
enough cfg (suc n) zero s xs small less = absurd (omega (arith, less))
enough cfg (suc n) (suc m) s [] small less = enough_case cfg n m (next_record cfg s [] [] []) (at_last cfg n m s)
enough cfg (suc n) (suc m) s (c ∷ rest) small less =
    enough_case cfg n m (next_record cfg s [] [] (c ∷ rest))
    (λ p e. let fits = shorter cfg c rest s p e in enough cfg n m p.1 p.2 (omega (arith, fits, small)) (omega (arith, fits, less)))

one_more : (n : ℕ) → n + 1 ≡ suc n
one_more n = omega arith

left_after : (s : State) (xs : List ℕ) (p : Read) → next_record default_config s [] [] xs ≡ Some p → records_from default_config (length xs) p.1 p.2 ≡ records_at p.1 p.2
left_after s [] p e = at_last default_config 0 (length p.2 + 1) s p e
left_after s (c ∷ rest) p e =
    let fits = shorter default_config c rest s p e in
    enough default_config (length (c ∷ rest)) (length p.2 + 1) p.1 p.2 (omega (arith, fits)) (omega arith)

-- the records of a text are the next one and those of what it leaves
pub next_and_rest : (s : State) (xs : List ℕ) (p : Read) → next_record default_config s [] [] xs ≡ Some p → records_at s xs ≡ p.0 ∷ records_at p.1 p.2
unfolding records_from
next_and_rest s xs p e =
    ap (λ n. records_from default_config n s xs) (one_more (length xs))
    ∙ ap (records_next (records_from default_config (length xs))) e
    ∙ ap (λ l. p.0 ∷ l) (left_after s xs p e)

-- a text without a next record has none
pub no_records : (s : State) (xs : List ℕ) → next_record default_config s [] [] xs ≡ None → records_at s xs ≡ []
unfolding records_from
no_records s xs e =
    ap (λ n. records_from default_config n s xs) (one_more (length xs))
    ∙ ap (records_next (records_from default_config (length xs))) e

one_list : {A : Type 0} {a b : A} → Some a ≡ Some b → a ≡ b
one_list {A} {a} {b} e = ap (λ o. unwrap_or o a) e

found_case : (s s2 : State) (xs ys : List ℕ) (found : Bool) (fields : List (List ℕ)) (rows : List (List (List ℕ))) (o : Option Read)
    → next_record default_config s [] [] xs ≡ o → NextIs o found fields s2 ys → Some (records_at s xs) ≡ Some rows → IsNext rows found fields (Some (records_at s2 ys))
found_case s s2 xs ys found fields rows None is next e = rw next (sym (one_list e) ∙ no_records s xs is)
found_case s s2 xs ys found fields rows (Some p) is next e =
    rw next.0 (records_at s2 ys, sym (one_list e) ∙ next_and_rest s xs p is ∙ rw (next.1, next.2, next.3) refl, refl)

next_case : (s s2 : State) (before after : Option (List ℕ)) (found : Bool) (fields : List (List ℕ)) (rows : List (List (List ℕ)))
    → ReadsNext default_config s before after found fields s2 → option_map (records_at s) before ≡ Some rows → IsNext rows found fields (option_map (records_at s2) after)
next_case s s2 None after found fields rows h e = absurd (cc e)
next_case s s2 (Some xs) None found fields rows h e = absurd h
next_case s s2 (Some xs) (Some ys) found fields rows h e = found_case s s2 xs ys found fields rows (next_record default_config s [] [] xs) refl h e

pending_is_source : {R : Type 0} (remaining : R → Option (List ℕ)) (reader : Reader R) → reader.bom_checked ≡ true → pending_of (remaining reader.rdr) reader ≡ source_of remaining reader
pending_is_source remaining reader checked = rw checked refl

-- what a read of a record takes from the records that are left
pub takes_next : {R : Type 0} (remaining : R → Option (List ℕ)) (old new : Reader R) (found : Bool) (fields : List (List ℕ)) (rows : List (List (List ℕ)))
    → old.config ≡ default_config → ReadRecord remaining old new found fields → records_left remaining old ≡ Some rows → IsNext rows found fields (records_left remaining new)
takes_next remaining old new found fields rows plain read e =
    let h = rw (plain, pending_is_source remaining new read.1) at read.0 in
    next_case old.state new.state (source_of remaining old) (source_of remaining new) found fields rows h e

-- the records that a new reader has left are those of its text
pub all_left : {R : Type 0} (remaining : R → Option (List ℕ)) (reader : Reader R) (rdr : R) (text : List ℕ) → source_of remaining reader ≡ option_map strip_bom (remaining rdr) → reader.state ≡ st.StartRecord → remaining rdr ≡ Some text → records_left remaining reader ≡ Some (records default_config (strip_bom text))
all_left remaining reader rdr text source start is = rw (source, is, start) refl
