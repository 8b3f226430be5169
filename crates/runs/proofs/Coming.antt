use Rattle.std.proofs.Common.{◌≡◌, ◌≤◌, ◌==◌, ◌<◌, ℕ, List, [], ◌++◌, length, true, false, inl, inr, refl, sym, ap, ◌∙◌, subst, arith, append_assoc}
use Rattle.std.proofs.lemmas.Bool.{cases_eq, eq-eqb, eqb-true}
use Rattle.std.proofs.lemmas.List.{nil_from_length}
use Rattle.runs.specs.SpeakerState.{SpeakerState}

-- Octets that come piece by piece.

-- what pieces make of a speaker: of two of them, what both make one after the other
abbrev pub Joins : (List ℕ → SpeakerState → SpeakerState → Type 0) → Type 0
Joins Hears = (a b : List ℕ) (old mid new : SpeakerState) → Hears a old mid → Hears b mid new → Hears (a ++ b) old new

-- octets that have come so far, with those that are still to come
pub record HasCome (Hears : List ℕ → SpeakerState → SpeakerState → Type 0) (octets rest : List ℕ) (first now : SpeakerState) : Type 0 where
  pub done : List ℕ
  pub whole : done ++ rest ≡ octets
  pub heard : Hears done first now
  pub counted : now.chosen_before ≡ first.chosen_before
  pub rises : first.chosen ≤ now.chosen

pub HasCome-start : (Hears : List ℕ → SpeakerState → SpeakerState → Type 0) (octets : List ℕ) (first : SpeakerState) → Hears [] first first → HasCome Hears octets octets first first
HasCome-start Hears octets first nothing = record { done = []; whole = refl; heard = nothing; counted = refl; rises = omega arith }

pub HasCome-more : (Hears : List ℕ → SpeakerState → SpeakerState → Type 0) (octets rest taken next : List ℕ) (first now new : SpeakerState) → Joins Hears → HasCome Hears octets rest first now → taken ++ next ≡ rest → Hears taken now new
    → new.chosen_before ≡ now.chosen_before → now.chosen ≤ new.chosen → HasCome Hears octets next first new
HasCome-more Hears octets rest taken next first now new joins h split more same later = record {
  done = h.done ++ taken;
  whole = append_assoc h.done taken next ∙ ap (λ x. h.done ++ x) split ∙ h.whole;
  heard = joins h.done taken first now new h.heard more;
  counted = same ∙ h.counted;
  rises = let before = h.rises in omega (arith, before, later);
}

-- all octets have come, or the rest is dropped
pub HasCome-end : (Hears : List ℕ → SpeakerState → SpeakerState → Type 0) (octets rest : List ℕ) (first now new : SpeakerState) → Joins Hears → HasCome Hears octets rest first now → Hears rest now new → Hears octets first new
HasCome-end Hears octets rest first now new joins h last = subst (λ x. Hears x first new) h.whole (joins h.done rest first now new h.heard last)

pub some_left : (n : ℕ) → false ≡ (n == 0) → 0 < n
some_left n is = elim (cases_eq n 0) [
  | inl none ↦ absurd (let back = eq-eqb n 0 none in cc)
  | inr some ↦ omega (arith, some)
]

pub none_left : (octets : List ℕ) → true ≡ (length octets == 0) → octets ≡ []
none_left octets is = nil_from_length octets (eqb-true (length octets) 0 (sym is))
