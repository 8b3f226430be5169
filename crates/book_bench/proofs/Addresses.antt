-- Candidates that have their slots for addresses.
use Rattle.std.proofs.Common.{◌≡◌, ℕ, ◌+◌, ◌<◌, ◌≤◌, Bool, true, false, cond, nat_eq, not, ◌&&◌, List, [], ◌∷◌, ◌++◌, length, All, Option, None, Some, IfSome, option_and_then, option_map, refl, sym, ◌∙◌, ap, subst, arith}
use Rattle.std.proofs.lemmas.Bool.Decides.{nat_tests}
use Rattle.std.proofs.lemmas.List.Elements.{All-cons, All-head, All-nil, All-push, All-tail}
use Rattle.std.proofs.lemmas.List.Kept.{AllPairs-cons}
use Rattle.std.specs.Map.{lookup}
use Rattle.book_bench.specs.Addressed.{AreAddressed, IsOwn, IsSound}
use Rattle.decision.specs.BookContents.{AreApart, Kept, candidate_of, changed, is_placed}
use Rattle.decision.specs.KeptPlaces.{IsKept, alone, with_changes, without_slot}
use Rattle.decision.specs.Selection.{AreDistinct, DifferInRank}
use Rattle.decision.specs.declared.book.Change.{Change}
use Rattle.decision.specs.declared.candidate.Candidate.{Candidate}
use Rattle.decision.proofs.NewPlaces.{kept_added, kept_alone}
use Rattle.decision.proofs.PlaceLists.{added_case, candidate_without, lookup_mapped}

by_equation : (s : ℕ) (o : Option Candidate) (c : Candidate) → IfSome o (λ d. d.address ≡ s) → o ≡ Some c → c.address ≡ s
by_equation s None c h e = cc
by_equation s (Some d) c h e = let same : d ≡ c = cc in subst (λ x. x.address ≡ s) same h

same_number : (s t : ℕ) → nat_eq s t ≡ true → s ≡ t
same_number s t e = grind (arith, nat_tests)

own_address : (n : ℕ) (o : Option Candidate) → IfSome o (λ c. (c.slot ≡ n) × (c.address ≡ n)) → IfSome o (λ c. c.address ≡ n)
own_address n None own = tt
own_address n (Some c) own = own.1

pub own_slot : (n : ℕ) (o : Option Candidate) → IfSome o (λ c. (c.slot ≡ n) × (c.address ≡ n)) → IfSome o (λ c. c.slot ≡ n)
own_slot n None own = tt
own_slot n (Some c) own = own.0

-- what keeps a slot's address
abbrev pub Keeps : (ℕ → Option Candidate → Option Candidate) → Type 0
Keeps f = (s : ℕ) (o : Option Candidate) → IfSome o (λ c. c.address ≡ s) → IfSome (f s o) (λ c. c.address ≡ s)

change_case : (change : Change) (s : ℕ) (o : Option Candidate) (b : Bool) → nat_eq change.slot s ≡ b → IsOwn change → IfSome o (λ c. c.address ≡ s) → IfSome (cond b change.candidate o) (λ c. c.address ≡ s)
change_case change s o true e own old = subst (λ n. IfSome change.candidate (λ c. c.address ≡ n)) (same_number change.slot s e) (own_address change.slot change.candidate own)
change_case change s o false e own old = old

pub keeps_one : (change : Change) → IsOwn change → Keeps (λ s o. changed (change ∷ []) s o)
keeps_one change own s o old = change_case change s o (nat_eq change.slot s) refl own old

pub keeps_two : (first second : Change) → IsOwn first → IsOwn second → Keeps (λ s o. changed (first ∷ second ∷ []) s o)
keeps_two first second own also s o old = keeps_one second also s (changed (first ∷ []) s o) (keeps_one first own s o old)

-- candidates of different addresses are apart
apart_addressed : (offers : ℕ → Option Candidate) → AreAddressed offers → AreApart offers
apart_addressed offers all s t c d ne is also same address = ne (sym (by_equation s (offers s) c (all s) is) ∙ address ∙ by_equation t (offers t) d (all t) also)

kept_case : (f : ℕ → Option Candidate → Option Candidate) → Keeps f → (s : ℕ) (o : Option (Option Candidate)) → IfSome (option_and_then (λ d. d) o) (λ c. c.address ≡ s) → IfSome (option_and_then (λ d. d) (option_map (f s) o)) (λ c. c.address ≡ s)
kept_case f keeps s None old = tt
kept_case f keeps s (Some d) old = keeps s d old

changed_addressed : (changes : List Change) → Keeps (λ s o. changed changes s o) → (ps : List (ℕ × Option Candidate)) → AreAddressed (candidate_of ps) → AreAddressed (candidate_of (with_changes changes ps))
changed_addressed changes keeps ps old s =
    subst (λ o. IfSome (option_and_then (λ d. d) o) (λ c. c.address ≡ s)) (sym (lookup_mapped (changed changes) s ps)) (kept_case (λ t o. changed changes t o) keeps s (lookup (nat_eq s) ps) (old s))

pub apart_changed : (changes : List Change) → Keeps (λ s o. changed changes s o) → (k : Kept) → IsSound k → AreApart (candidate_of (with_changes changes k.places))
apart_changed changes keeps k sound = apart_addressed (candidate_of (with_changes changes k.places)) (changed_addressed changes keeps k.places sound.addressed)

-- after the changes
pub sound_changed : (changes : List Change) → Keeps (λ s o. changed changes s o) → (k w : Kept) → IsSound k → IsKept w → w.places ≡ with_changes changes k.places → IsSound w
sound_changed changes keeps k w sound kept is = record {
  kept = kept;
  addressed = subst (λ ps. AreAddressed (candidate_of ps)) (sym is) (changed_addressed changes keeps k.places sound.addressed);
}

-- with a place more, where there was room
pub sound_added : (ok : Bool) (slot : ℕ) (k w : Kept) → IsSound k → w.places ≡ cond (ok && not (is_placed k.places slot)) (k.places ++ (slot, None) ∷ []) k.places → w.best ≡ k.best
    → (length k.places ≤ 65 → length w.places ≤ 65) → IsSound w
sound_added ok slot k w sound is best few = record {
  kept = kept_added ok slot k w sound.kept is best few;
  addressed = λ s. subst (λ o. IfSome o (λ c. c.address ≡ s)) (sym (ap (λ ps. candidate_of ps s) is ∙ added_case (ok && not (is_placed k.places slot)) slot k.places s)) (sound.addressed s);
}

none_alone : (b : Bool) → option_and_then (λ (d : Option Candidate). d) (cond b (Some None) None) ≡ None
none_alone true = refl
none_alone false = refl

-- with one place
pub sound_alone : (slot : ℕ) (k : Kept) → k ≡ alone slot → IsSound k
sound_alone slot k is = subst IsSound (sym is) (record {
  kept = kept_alone slot;
  addressed = λ s. subst (λ o. IfSome o (λ c. c.address ≡ s)) (sym (none_alone (nat_eq s slot))) tt;
})

left_case : (s : ℕ) (b : Bool) (o : Option Candidate) → IfSome o (λ c. c.address ≡ s) → IfSome (cond b None o) (λ c. c.address ≡ s)
left_case s true o old = tt
left_case s false o old = old

-- where a slot has left
pub sound_left : (slot : ℕ) (k w : Kept) → IsSound k → IsKept w → w.places ≡ without_slot slot k.places → IsSound w
sound_left slot k w sound kept is = record {
  kept = kept;
  addressed = λ s. subst (λ o. IfSome o (λ c. c.address ≡ s)) (sym (ap (λ ps. candidate_of ps s) is ∙ candidate_without slot s k.places)) (left_case s (nat_eq s slot) (candidate_of k.places s) (sound.addressed s));
}

-- of one change, and of two
pub one_all : (P : Change → Type 0) (change : Change) → P change → All P (change ∷ [])
one_all P change h = All-cons P change [] h (All-nil P)

pub two_all : (P : Change → Type 0) (first second : Change) → P first → P second → All P (first ∷ second ∷ [])
two_all P first second h k = All-cons P first (second ∷ []) h (one_all P second k)

-- ---- candidates whose addresses rise

abbrev pub Rise : List Candidate → Type 0
Rise [] = Unit {0}
Rise (c ∷ cs) = All (λ d. c.address < d.address) cs × Rise cs

pub rise_more : (cs : List Candidate) (c : Candidate) (n : ℕ) → Rise cs → All (λ d. d.address < n) cs → c.address ≡ n → Rise (cs ++ c ∷ [])
rise_more [] c n rise below is = (All-nil (λ d. c.address < d.address), tt)
rise_more (d ∷ cs) c n rise below is =
    let low : d.address < n = All-head (λ e. e.address < n) d cs below in
    (All-push (λ e. d.address < e.address) cs c rise.0 (omega arith), rise_more cs c n rise.1 (All-tail (λ e. e.address < n) d cs below) is)

pub distinct_rising : (cs : List Candidate) → Rise cs → AreDistinct cs
distinct_rising [] rise = λ i j d low high. absurd (omega arith)
distinct_rising (c ∷ cs) rise =
    AllPairs-cons DifferInRank c cs (λ k d h degree address. let low = rise.0 k d h in absurd (omega (arith, low, address))) (distinct_rising cs rise.1)

pub below_more : (cs : List Candidate) (n : ℕ) → All (λ d. d.address < n) cs → All (λ d. d.address < n + 1) cs
below_more cs n below = λ k d h. let low = below k d h in omega (arith, low)

pub below_pushed : (cs : List Candidate) (c : Candidate) (n : ℕ) → All (λ d. d.address < n) cs → c.address ≡ n → All (λ d. d.address < n + 1) (cs ++ c ∷ [])
below_pushed cs c n below is = All-push (λ d. d.address < n + 1) cs c (below_more cs n below) (omega (arith, is))
