-- The places of a prefix: what a slot has there after each change.
use Rattle.std.proofs.Common.{◌≡◌, ◌≢◌, ℕ, ◌+◌, ◌<◌, ◌≤◌, zero, suc, Bool, true, false, not, cond, nat_eq, List, [], ◌∷◌, ◌++◌, map, filter, get_or, set, take, drop, length, All, Option, Some, None, is_some, option_map, option_and_then, IfSome, refl, sym, ◌∙◌, ap, subst, arith}
use Rattle.std.specs.List.{AllByRecursion, IsDistinct, cons_option}
use Rattle.std.specs.Map.{lookup, keys_of}
use Rattle.std.proofs.lemmas.Bool.Decides.{nat_tests}
use Rattle.std.proofs.lemmas.List.{get_or_default, length-map, length_push, take_more}
use Rattle.std.proofs.lemmas.List.Elements.{All-head, All-tail, filter_map-append}
use Rattle.std.proofs.lemmas.List.Edits.{map_over_more}
use Rattle.std.proofs.lemmas.List.Filters.{length-filter_both}
use Rattle.std.proofs.lemmas.Map.Made.{IsDistinct-keys_filter}
use Rattle.decision.specs.BookContents.{AreApart, changed, candidate_of, is_placed}
use Rattle.decision.specs.KeptPlaces.{ArePlaces, candidates_of, with_changes, without_slot}
use Rattle.decision.specs.declared.book.Change.{Change}
use Rattle.decision.specs.declared.candidate.Candidate.{Candidate}

-- equal numbers
pub same_slot : (s t : ℕ) → nat_eq s t ≡ true → s ≡ t
same_slot s t e = grind (arith, nat_tests)

pub slot_itself : (s : ℕ) → nat_eq s s ≡ true
slot_itself s = grind (arith, nat_tests)

pub other_slot : (s t : ℕ) → nat_eq s t ≡ false → s ≢ t
other_slot s t e h = grind (arith, nat_tests)

pub slots_differ : (s t : ℕ) → s ≢ t → nat_eq s t ≡ false
slots_differ s t h = grind (arith, nat_tests)

pub turned : (s t : ℕ) → nat_eq s t ≡ nat_eq t s
turned s t = grind (arith, nat_tests)

-- ---- what is looked up

-- a slot without a place has no candidate
pub none_unplaced : (o : Option (Option Candidate)) → is_some o ≡ false → option_and_then (λ c. c) o ≡ None
none_unplaced None e = refl
none_unplaced (Some c) e = cc

pub placed_of_some : (o : Option (Option Candidate)) (c : Candidate) → option_and_then (λ d. d) o ≡ Some c → is_some o ≡ true
placed_of_some None c e = cc
placed_of_some (Some d) c e = refl

-- ---- a place more

pushed_head : (b : Bool) (x : Option Candidate) (more rest : Option (Option Candidate)) → option_and_then (λ c. c) more ≡ option_and_then (λ c. c) rest
    → option_and_then (λ c. c) (cond b (Some x) more) ≡ option_and_then (λ c. c) (cond b (Some x) rest)
pushed_head true x more rest e = refl
pushed_head false x more rest e = e

pushed_none : (b : Bool) → option_and_then (λ (c : Option Candidate). c) (cond b (Some None) None) ≡ None
pushed_none true = refl
pushed_none false = refl

-- an empty place changes no candidate
pub candidate_pushed : (slot t : ℕ) (ps : List (ℕ × Option Candidate)) → candidate_of (ps ++ (slot, None) ∷ []) t ≡ candidate_of ps t
candidate_pushed slot t [] = pushed_none (nat_eq t slot)
candidate_pushed slot t (p ∷ ps) = pushed_head (nat_eq t p.0) p.1 (lookup (nat_eq t) (ps ++ (slot, None) ∷ [])) (lookup (nat_eq t) ps) (candidate_pushed slot t ps)

placed_head : (b c : Bool) (x : Option Candidate) (more rest : Option (Option Candidate)) → is_some more ≡ cond c true (is_some rest)
    → is_some (cond b (Some x) more) ≡ cond c true (is_some (cond b (Some x) rest))
placed_head true true x more rest e = refl
placed_head true false x more rest e = refl
placed_head false c x more rest e = e

placed_alone : (b : Bool) (x : Option Candidate) → is_some (cond b (Some x) None) ≡ cond b true false
placed_alone true x = refl
placed_alone false x = refl

-- its slot has a place then
pub placed_pushed : (slot t : ℕ) (ps : List (ℕ × Option Candidate)) → is_placed (ps ++ (slot, None) ∷ []) t ≡ cond (nat_eq t slot) true (is_placed ps t)
placed_pushed slot t [] = placed_alone (nat_eq t slot) None
placed_pushed slot t (p ∷ ps) = placed_head (nat_eq t p.0) (nat_eq t slot) p.1 (lookup (nat_eq t) (ps ++ (slot, None) ∷ [])) (lookup (nat_eq t) ps) (placed_pushed slot t ps)

apart_head : (b : Bool) (x : Option Candidate) (rest : Option (Option Candidate)) → is_some (cond b (Some x) rest) ≡ false → (b ≡ false) × (is_some rest ≡ false)
apart_head true x rest e = cc
apart_head false x rest e = (refl, e)

pushed_last : (k slot : ℕ) (ps : List (ℕ × Option Candidate)) → AllByRecursion (λ t. nat_eq k t ≡ false) (keys_of ps) → nat_eq k slot ≡ false
    → AllByRecursion (λ t. nat_eq k t ≡ false) (keys_of (ps ++ (slot, None) ∷ []))
pushed_last k slot [] all e = (e, tt)
pushed_last k slot (p ∷ ps) all e = (all.0, pushed_last k slot ps all.1 e)

pub distinct_pushed : (slot : ℕ) (ps : List (ℕ × Option Candidate)) → is_placed ps slot ≡ false → IsDistinct nat_eq (keys_of ps) → IsDistinct nat_eq (keys_of (ps ++ (slot, None) ∷ []))
unfolding IsDistinct
distinct_pushed slot [] e d = (tt, tt)
distinct_pushed slot (p ∷ ps) e d =
    let parts : (nat_eq slot p.0 ≡ false) × (is_placed ps slot ≡ false) = apart_head (nat_eq slot p.0) p.1 (lookup (nat_eq slot) ps) e in
    (pushed_last p.0 slot ps d.0 (turned p.0 slot ∙ parts.0), distinct_pushed slot ps parts.1 d.1)

-- ---- changes

mapped_head : (f : ℕ → Option Candidate → Option Candidate) (t : ℕ) (p : ℕ × Option Candidate) (more rest : Option (Option Candidate)) (b : Bool) → nat_eq t p.0 ≡ b → more ≡ option_map (f t) rest
    → cond b (Some (f p.0 p.1)) more ≡ option_map (f t) (cond b (Some p.1) rest)
mapped_head f t p more rest true e h = ap (λ k. Some (f k p.1)) (sym (same_slot t p.0 e))
mapped_head f t p more rest false e h = h

pub lookup_mapped : (f : ℕ → Option Candidate → Option Candidate) (t : ℕ) (ps : List (ℕ × Option Candidate)) → lookup (nat_eq t) (map (λ p. (p.0, f p.0 p.1)) ps) ≡ option_map (f t) (lookup (nat_eq t) ps)
lookup_mapped f t [] = refl
lookup_mapped f t (p ∷ ps) = mapped_head f t p (lookup (nat_eq t) (map (λ q. (q.0, f q.0 q.1)) ps)) (lookup (nat_eq t) ps) (nat_eq t p.0) refl (lookup_mapped f t ps)

pub keys_mapped : (f : ℕ → Option Candidate → Option Candidate) (ps : List (ℕ × Option Candidate)) → keys_of (map (λ p. (p.0, f p.0 p.1)) ps) ≡ keys_of ps
keys_mapped f [] = refl
keys_mapped f (p ∷ ps) = ap (λ (ks : List ℕ). p.0 ∷ ks) (keys_mapped f ps)

some_mapped : (f : Option Candidate → Option Candidate) (o : Option (Option Candidate)) → is_some (option_map f o) ≡ is_some o
some_mapped f None = refl
some_mapped f (Some c) = refl

pub placed_changed : (changes : List Change) (t : ℕ) (ps : List (ℕ × Option Candidate)) → is_placed (with_changes changes ps) t ≡ is_placed ps t
placed_changed changes t ps = ap is_some (lookup_mapped (changed changes) t ps) ∙ some_mapped (changed changes t) (lookup (nat_eq t) ps)

other_change : (b : Bool) (slot : ℕ) (change : Change) (candidate : Option Candidate) → nat_eq change.slot slot ≡ b → b ≡ false → cond b change.candidate candidate ≡ candidate
other_change true slot change candidate e h = cc
other_change false slot change candidate e h = refl

differs : (P : ℕ → Bool) (s t : ℕ) → P s ≡ true → P t ≡ false → nat_eq s t ≡ false
differs P s t holds fails = slots_differ s t (λ e. let both : P s ≡ P t = ap P e in cc)

-- changes of other slots leave a candidate as it is
pub unchanged : (P : ℕ → Bool) (t : ℕ) (changes : List Change) (candidate : Option Candidate) → All (λ c. P c.slot ≡ true) changes → P t ≡ false → changed changes t candidate ≡ candidate
unchanged P t [] candidate all fails = refl
unchanged P t (change ∷ changes) candidate all fails =
    ap (λ c. changed changes t c) (other_change (nat_eq change.slot t) t change candidate refl (differs P change.slot t (All-head (λ c. P c.slot ≡ true) change changes all) fails))
    ∙ unchanged P t changes candidate (All-tail (λ c. P c.slot ≡ true) change changes all) fails

joined : (changes : List Change) (t : ℕ) (o : Option (Option Candidate)) → (is_some o ≡ false → changed changes t None ≡ None) → option_and_then (λ c. c) (option_map (changed changes t) o) ≡ changed changes t (option_and_then (λ c. c) o)
joined changes t None same = sym (same refl)
joined changes t (Some c) same = refl

-- the candidate of a slot after changes of slots that have places
pub candidate_changed : (changes : List Change) (t : ℕ) (ps : List (ℕ × Option Candidate)) → All (λ c. is_placed ps c.slot ≡ true) changes → candidate_of (with_changes changes ps) t ≡ changed changes t (candidate_of ps t)
candidate_changed changes t ps all =
    ap (option_and_then (λ c. c)) (lookup_mapped (changed changes) t ps)
    ∙ joined changes t (lookup (nat_eq t) ps) (λ fails. unchanged (is_placed ps) t changes None all fails)

differs_from_placed : (k s : ℕ) (q : ℕ × Option Candidate) (ps : List (ℕ × Option Candidate)) (b : Bool) → nat_eq s q.0 ≡ b → nat_eq k q.0 ≡ false → (is_placed ps s ≡ true → nat_eq s k ≡ false)
    → is_some (cond b (Some q.1) (lookup (nat_eq s) ps)) ≡ true → nat_eq s k ≡ false
differs_from_placed k s q ps true at other rest there = turned s k ∙ ap (nat_eq k) (same_slot s q.0 at) ∙ other
differs_from_placed k s q ps false at other rest there = rest there

-- a slot with a place is none of the others
placed_differs : (k s : ℕ) (ps : List (ℕ × Option Candidate)) → AllByRecursion (λ t. nat_eq k t ≡ false) (keys_of ps) → is_placed ps s ≡ true → nat_eq s k ≡ false
placed_differs k s [] others there = cc
placed_differs k s (q ∷ ps) others there = differs_from_placed k s q ps (nat_eq s q.0) refl others.0 (placed_differs k s ps others.1) there

-- where no slot's candidate is another one, the places are as they were
pub idle_places : (changes : List Change) (ps : List (ℕ × Option Candidate)) → IsDistinct nat_eq (keys_of ps) → ((s : ℕ) → is_placed ps s ≡ true → changed changes s (candidate_of ps s) ≡ candidate_of ps s)
    → with_changes changes ps ≡ ps
unfolding IsDistinct
idle_places changes [] distinct same = refl
idle_places changes (p ∷ ps) distinct same =
    let read : Bool → Option Candidate = λ b. option_and_then (λ c. c) (cond b (Some p.1) (lookup (nat_eq p.0) ps)) in
    let there : is_placed (p ∷ ps) p.0 ≡ true = ap (λ b. is_some (cond b (Some p.1) (lookup (nat_eq p.0) ps))) (slot_itself p.0) in
    let here : candidate_of (p ∷ ps) p.0 ≡ p.1 = ap read (slot_itself p.0) in
    let first : changed changes p.0 p.1 ≡ p.1 = ap (changed changes p.0) (sym here) ∙ same p.0 there ∙ here in
    let rest : with_changes changes ps ≡ ps = idle_places changes ps distinct.1 (λ s placed.
    let other : nat_eq s p.0 ≡ false = placed_differs p.0 s ps distinct.0 placed in
    let behind : candidate_of (p ∷ ps) s ≡ candidate_of ps s = ap (λ b. option_and_then (λ c. c) (cond b (Some p.1) (lookup (nat_eq s) ps))) other in
    let also : is_placed (p ∷ ps) s ≡ true = ap (λ b. is_some (cond b (Some p.1) (lookup (nat_eq s) ps))) other ∙ placed in
    ap (changed changes s) (sym behind) ∙ same s also ∙ behind) in
    ap (λ c. (p.0, c) ∷ with_changes changes ps) first ∙ ap (λ qs. p ∷ qs) rest

-- and each place then is
pub idle_at : (changes : List Change) (ps : List (ℕ × Option Candidate)) (i : ℕ) (d : ℕ × Option Candidate) → i < length ps → with_changes changes ps ≡ ps
    → changed changes (get_or ps i d).0 (get_or ps i d).1 ≡ (get_or ps i d).1
idle_at changes [] i d h same = absurd (omega arith)
idle_at changes (p ∷ ps) zero d h same = ap (λ qs. (get_or qs 0 d).1) same
idle_at changes (p ∷ ps) (suc k) d h same = idle_at changes ps k d (omega arith) (ap (drop 1) same)

-- ---- a place less

gone_head : (slot t : ℕ) (p : ℕ × Option Candidate) (more rest : Option (Option Candidate)) (a b c : Bool) → nat_eq slot p.0 ≡ a → nat_eq t p.0 ≡ b → nat_eq t slot ≡ c
    → more ≡ cond c None rest → (if_kept : List (ℕ × Option Candidate)) → lookup (nat_eq t) if_kept ≡ more
    → lookup (nat_eq t) (cond (not a) (p ∷ if_kept) if_kept) ≡ cond c None (cond b (Some p.1) rest)
gone_head slot t p more rest true true true ea eb ec e kept at = at ∙ e
gone_head slot t p more rest true true false ea eb ec e kept at = let bad : nat_eq t slot ≡ true = ap (nat_eq t) (same_slot slot p.0 ea) ∙ eb in cc
gone_head slot t p more rest true false true ea eb ec e kept at = at ∙ e
gone_head slot t p more rest true false false ea eb ec e kept at = at ∙ e
gone_head slot t p more rest false true true ea eb ec e kept at = let bad : nat_eq slot p.0 ≡ true = ap (λ s. nat_eq s p.0) (sym (same_slot t slot ec)) ∙ eb in cc
gone_head slot t p more rest false true false ea eb ec e kept at = ap (λ b. cond b (Some p.1) (lookup (nat_eq t) kept)) eb
gone_head slot t p more rest false false true ea eb ec e kept at = ap (λ b. cond b (Some p.1) (lookup (nat_eq t) kept)) eb ∙ at ∙ e
gone_head slot t p more rest false false false ea eb ec e kept at = ap (λ b. cond b (Some p.1) (lookup (nat_eq t) kept)) eb ∙ at ∙ e

nothing : (b : Bool) (o : Option (Option Candidate)) → o ≡ None → o ≡ cond b None o
nothing true o e = e
nothing false o e = refl

pub lookup_without : (slot t : ℕ) (ps : List (ℕ × Option Candidate)) → lookup (nat_eq t) (without_slot slot ps) ≡ cond (nat_eq t slot) None (lookup (nat_eq t) ps)
lookup_without slot t [] = nothing (nat_eq t slot) None refl
lookup_without slot t (p ∷ ps) =
    gone_head slot t p (lookup (nat_eq t) (without_slot slot ps)) (lookup (nat_eq t) ps) (nat_eq slot p.0) (nat_eq t p.0) (nat_eq t slot) refl refl refl
    (lookup_without slot t ps) (without_slot slot ps) refl

none_joined : (b : Bool) (o : Option (Option Candidate)) → option_and_then (λ c. c) (cond b None o) ≡ cond b None (option_and_then (λ c. c) o)
none_joined true o = refl
none_joined false o = refl

none_some : (b : Bool) (o : Option (Option Candidate)) → is_some (cond b None o) ≡ cond b false (is_some o)
none_some true o = refl
none_some false o = refl

pub candidate_without : (slot t : ℕ) (ps : List (ℕ × Option Candidate)) → candidate_of (without_slot slot ps) t ≡ cond (nat_eq t slot) None (candidate_of ps t)
candidate_without slot t ps = ap (option_and_then (λ c. c)) (lookup_without slot t ps) ∙ none_joined (nat_eq t slot) (lookup (nat_eq t) ps)

pub placed_without : (slot t : ℕ) (ps : List (ℕ × Option Candidate)) → is_placed (without_slot slot ps) t ≡ cond (nat_eq t slot) false (is_placed ps t)
placed_without slot t ps = ap is_some (lookup_without slot t ps) ∙ none_some (nat_eq t slot) (lookup (nat_eq t) ps)

-- ---- what is true of places stays true

-- of a candidate by cases, and by its equation
pub by_cases : (P : Candidate → Type 0) (o : Option Candidate) → ((c : Candidate) → o ≡ Some c → P c) → IfSome o P
by_cases P None all = tt
by_cases P (Some c) all = all c refl

pub by_equation : (P : Candidate → Type 0) (o : Option Candidate) (c : Candidate) → IfSome o P → o ≡ Some c → P c
by_equation P None c h e = cc
by_equation P (Some d) c h e = let same : d ≡ c = cc in subst P same h

own_head : (s : ℕ) (change : Change) (o : Option Candidate) (b : Bool) → nat_eq change.slot s ≡ b → IfSome change.candidate (λ r. r.slot ≡ change.slot) → IfSome o (λ r. r.slot ≡ s)
    → IfSome (cond b change.candidate o) (λ r. r.slot ≡ s)
own_head s change o true e named own = subst (λ n. IfSome change.candidate (λ r. r.slot ≡ n)) (same_slot change.slot s e) named
own_head s change o false e named own = own

-- changes keep each candidate at its own slot
own_changed : (s : ℕ) (changes : List Change) (o : Option Candidate) → All (λ c. IfSome c.candidate (λ r. r.slot ≡ c.slot)) changes → IfSome o (λ r. r.slot ≡ s) → IfSome (changed changes s o) (λ r. r.slot ≡ s)
own_changed s [] o named own = own
own_changed s (change ∷ changes) o named own =
    own_changed s changes (cond (nat_eq change.slot s) change.candidate o) (All-tail (λ c. IfSome c.candidate (λ r. r.slot ≡ c.slot)) change changes named)
    (own_head s change o (nat_eq change.slot s) refl (All-head (λ c. IfSome c.candidate (λ r. r.slot ≡ c.slot)) change changes named) own)

own_looked_up : (s : ℕ) (changes : List Change) (o : Option (Option Candidate)) → All (λ c. IfSome c.candidate (λ r. r.slot ≡ c.slot)) changes → IfSome (option_and_then (λ c. c) o) (λ r. r.slot ≡ s)
    → IfSome (option_and_then (λ c. c) (option_map (changed changes s) o)) (λ r. r.slot ≡ s)
own_looked_up s changes None named own = tt
own_looked_up s changes (Some c) named own = own_changed s changes c named own

own_after : (changes : List Change) (ps : List (ℕ × Option Candidate)) → ArePlaces ps → All (λ c. IfSome c.candidate (λ r. r.slot ≡ c.slot)) changes → (s : ℕ) → IfSome (candidate_of (with_changes changes ps) s) (λ r. r.slot ≡ s)
own_after changes ps are named s =
    subst (λ o. IfSome (option_and_then (λ c. c) o) (λ r. r.slot ≡ s)) (sym (lookup_mapped (changed changes) s ps))
    (own_looked_up s changes (lookup (nat_eq s) ps) named (by_cases (λ r. r.slot ≡ s) (candidate_of ps s) (λ c e. are.own s c e)))

pub places_changed : (changes : List Change) (ps : List (ℕ × Option Candidate)) → ArePlaces ps → All (λ c. IfSome c.candidate (λ r. r.slot ≡ c.slot)) changes → AreApart (candidate_of (with_changes changes ps)) → ArePlaces (with_changes changes ps)
places_changed changes ps are named apart = record {
  few = subst (λ n. n ≤ 65) (sym (length-map ps (λ p. (p.0, changed changes p.0 p.1)))) are.few;
  distinct = subst (IsDistinct nat_eq) (sym (keys_mapped (changed changes) ps)) are.distinct;
  own = λ s c e. by_equation (λ r. r.slot ≡ s) (candidate_of (with_changes changes ps) s) c (own_after changes ps are named s) e;
  apart = apart;
}

kept_some : (b : Bool) (o : Option Candidate) (c : Candidate) → cond b None o ≡ Some c → o ≡ Some c
kept_some true o c e = cc
kept_some false o c e = e

filter_few : (p : ℕ × Option Candidate → Bool) (ps : List (ℕ × Option Candidate)) → length (filter p ps) ≤ length ps
filter_few p ps = let both = length-filter_both p (λ x. not (p x)) (λ x. refl) ps in omega arith

pub places_without : (slot : ℕ) (ps : List (ℕ × Option Candidate)) → ArePlaces ps → ArePlaces (without_slot slot ps)
places_without slot ps are = record {
  few = let fewer = filter_few (λ p. not (nat_eq slot p.0)) ps in let few = are.few in omega arith;
  distinct = IsDistinct-keys_filter nat_eq (λ p. not (nat_eq slot p.0)) ps are.distinct;
  own = λ s c e. are.own s c (kept_some (nat_eq s slot) (candidate_of ps s) c (sym (candidate_without slot s ps) ∙ e));
  apart = λ s t c d ne is also. are.apart s t c d ne (kept_some (nat_eq s slot) (candidate_of ps s) c (sym (candidate_without slot s ps) ∙ is)) (kept_some (nat_eq t slot) (candidate_of ps t) d (sym (candidate_without slot t ps) ∙ also));
}

pub places_pushed : (slot : ℕ) (ps : List (ℕ × Option Candidate)) → ArePlaces ps → is_placed ps slot ≡ false → length (ps ++ (slot, None) ∷ []) ≤ 65 → ArePlaces (ps ++ (slot, None) ∷ [])
places_pushed slot ps are new few = record {
  few = few;
  distinct = distinct_pushed slot ps new are.distinct;
  own = λ s c e. are.own s c (sym (candidate_pushed slot s ps) ∙ e);
  apart = λ s t c d ne is also. are.apart s t c d ne (sym (candidate_pushed slot s ps) ∙ is) (sym (candidate_pushed slot t ps) ∙ also);
}

pub place_alone : (slot : ℕ) → ArePlaces ((slot, None) ∷ [])
unfolding IsDistinct
place_alone slot = record {
  few = omega arith;
  distinct = (tt, tt);
  own = λ s c e. let none : candidate_of ((slot, None) ∷ []) s ≡ None = pushed_none (nat_eq s slot) in cc;
  apart = λ s t c d ne is also. let none : candidate_of ((slot, None) ∷ []) s ≡ None = pushed_none (nat_eq s slot) in absurd cc;
}

-- ---- loops over the places

none_behind : (b : Bool) (x : Option Candidate) (rest : Option (Option Candidate)) → cond b (Some x) rest ≡ None → (b ≡ false) × (rest ≡ None)
none_behind true x rest e = cc
none_behind false x rest e = (refl, e)

lookup_behind : (slot : ℕ) (ps : List (ℕ × Option Candidate)) (p : ℕ × Option Candidate) → lookup (nat_eq slot) ps ≡ None → nat_eq slot p.0 ≡ false → lookup (nat_eq slot) (ps ++ p ∷ []) ≡ None
lookup_behind slot [] p none differs = ap (λ b. cond b (Some p.1) None) differs
lookup_behind slot (q ∷ ps) p none differs =
    let parts = none_behind (nat_eq slot q.0) q.1 (lookup (nat_eq slot) ps) none in
    ap (λ b. cond b (Some q.1) (lookup (nat_eq slot) (ps ++ p ∷ []))) parts.0 ∙ lookup_behind slot ps p parts.1 differs

pub lookup_next : (slot : ℕ) (ps : List (ℕ × Option Candidate)) (i : ℕ) (d : ℕ × Option Candidate) → i < length ps → lookup (nat_eq slot) (take i ps) ≡ None → (get_or ps i d).0 ≢ slot → lookup (nat_eq slot) (take (i + 1) ps) ≡ None
lookup_next slot ps i d h none differs = ap (lookup (nat_eq slot)) (take_more ps i d h) ∙ lookup_behind slot (take i ps) (get_or ps i d) none (slots_differ slot (get_or ps i d).0 (λ e. differs (sym e)))

pub lookup_here : (slot : ℕ) (ps : List (ℕ × Option Candidate)) (i : ℕ) (d : ℕ × Option Candidate) → i < length ps → lookup (nat_eq slot) (take i ps) ≡ None → (get_or ps i d).0 ≡ slot → Some (get_or ps i d).1 ≡ lookup (nat_eq slot) ps
lookup_here slot [] i d h none is = absurd (omega arith)
lookup_here slot (p ∷ ps) zero d h none is = ap (λ b. cond b (Some p.1) (lookup (nat_eq slot) ps)) (sym (ap (nat_eq slot) is ∙ slot_itself slot))
lookup_here slot (p ∷ ps) (suc k) d h none is =
    let parts = none_behind (nat_eq slot p.0) p.1 (lookup (nat_eq slot) (take k ps)) none in
    lookup_here slot ps k d (omega arith) parts.1 is ∙ ap (λ b. cond b (Some p.1) (lookup (nat_eq slot) ps)) (sym parts.0)

-- the candidates of one place more
pub candidates_next : (ps : List (ℕ × Option Candidate)) (i : ℕ) (d : ℕ × Option Candidate) → i < length ps → candidates_of (take (i + 1) ps) ≡ candidates_of (take i ps) ++ cons_option (get_or ps i d).1 []
candidates_next ps i d h = ap candidates_of (take_more ps i d h) ∙ filter_map-append (λ p. p.1) (take i ps) (get_or ps i d ∷ [])

-- one place more after its changes
pub changes_next : (changes : List Change) (ps qs : List (ℕ × Option Candidate)) (i : ℕ) (d : ℕ × Option Candidate) → i < length ps → length qs ≡ length ps → qs ≡ with_changes changes (take i ps) ++ drop i ps
    → set qs i ((get_or qs i d).0, changed changes (get_or qs i d).0 (get_or qs i d).1) ≡ with_changes changes (take (i + 1) ps) ++ drop (i + 1) ps
changes_next changes ps qs i d h long is =
    map_over_more (λ p. (p.0, changed changes p.0 p.1)) ps qs i (get_or qs i d) h is (get_or_default qs i d (get_or qs i d) (omega arith))

-- places at which each slot has what it has at others have their best
pub same_best : (ps qs : List (ℕ × Option Candidate)) → ((t : ℕ) → candidate_of ps t ≡ candidate_of qs t) → (best : Option ℕ) → option_and_then (candidate_of ps) best ≡ option_and_then (candidate_of qs) best
same_best ps qs same None = refl
same_best ps qs same (Some t) = same t

pub added_case : (b : Bool) (slot : ℕ) (ps : List (ℕ × Option Candidate)) (t : ℕ) → candidate_of (cond b (ps ++ (slot, None) ∷ []) ps) t ≡ candidate_of ps t
added_case true slot ps t = candidate_pushed slot t ps
added_case false slot ps t = refl

-- an empty place more or not leaves the best
pub best_added : (b : Bool) (slot : ℕ) (ps qs : List (ℕ × Option Candidate)) (best : Option ℕ) → qs ≡ cond b (ps ++ (slot, None) ∷ []) ps → option_and_then (candidate_of qs) best ≡ option_and_then (candidate_of ps) best
best_added b slot ps qs best is = same_best qs ps (λ t. ap (λ xs. candidate_of xs t) is ∙ added_case b slot ps t) best

pub length_next : (xs ys : List Candidate) (c : Candidate) (i : ℕ) → xs ≡ ys ++ c ∷ [] → length ys ≤ i → length xs ≤ i + 1
length_next xs ys c i is few = let long : length (ys ++ c ∷ []) ≡ length ys + 1 = length_push ys c in let same : length xs ≡ length (ys ++ c ∷ []) = ap length is in omega arith

pub length_same : (xs ys : List Candidate) (i : ℕ) → xs ≡ ys → length ys ≤ i → length xs ≤ i + 1
length_same xs ys i is few = let same : length xs ≡ length ys = ap length is in omega arith

pub is_none : (o : Option Candidate) → is_some o ≡ false → o ≡ None
is_none None e = refl
is_none (Some c) e = cc
