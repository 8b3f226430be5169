-- The candidates of a prefix, slot by slot.
use Rattle.std.proofs.Common.{◌≡◌, ◌<◌, ◌≤◌, ◌+◌, ◌↔◌, ◌++◌, ℕ, List, [], ◌∷◌, Contains, length, length-append, subst, sym, ap, ◌∙◌, inl, inr, ◌⊎◌, arith}
use Rattle.std.proofs.lemmas.Bool.{cases_lt}
use Rattle.std.proofs.lemmas.List.Elements.{Contains-append_left, Contains-push, Contains-push_cases}
use Rattle.decision.specs.declared.candidate.Candidate.{Candidate}
use Rattle.net_prefix.specs.declared.prefix.Prefix.{Prefix}
use Rattle.routing.specs.Candidates.{AreCandidates, HasNoneAt, IsCandidate, IsOnlyCandidateAt}
use Rattle.routing.specs.Tables.{Tables}

-- the list has those of the slots below this one
pub record AreCandidatesBelow (t : Tables) (prefix : Prefix) (n : ℕ) (cs : List Candidate) : Type 0 where
  pub few : length cs ≤ n
  pub here : (c : Candidate) → Contains cs c → IsCandidate t prefix c × (c.slot < n)
  pub all : (c : Candidate) → IsCandidate t prefix c → c.slot < n → Contains cs c

pub candidates_none : (t : Tables) (prefix : Prefix) → AreCandidatesBelow t prefix 0 []
candidates_none t prefix = record {
  few = omega arith;
  here = λ c at. let never = at.1 in absurd (omega (arith, never));
  all = λ c is below. absurd (omega (arith, below));
}

pub candidates_push : (t : Tables) (prefix : Prefix) (n : ℕ) (cs : List Candidate) (c : Candidate) → AreCandidatesBelow t prefix n cs → IsOnlyCandidateAt t prefix n c → AreCandidatesBelow t prefix (n + 1) (cs ++ c ∷ [])
candidates_push t prefix n cs c are only = record {
  few = let few = are.few in omega (arith, few, length-append cs (c ∷ []));
  here = λ d at. here d (Contains-push_cases cs c d at);
  all = λ d is below. elim (cases_lt d.slot n) [
    | inl under ↦ Contains-append_left cs (c ∷ []) d (are.all d is under)
    | inr least ↦
        let same : d ≡ c = only.alone d (omega (arith, below, least)) is in
        subst (λ (x : Candidate). Contains (cs ++ c ∷ []) x) (sym same) (Contains-push cs c)
  ];
}
  where
    here : (d : Candidate) → Contains cs d ⊎ (c ≡ d) → IsCandidate t prefix d × (d.slot < n + 1)
    here d (inl at) = let is = are.here d at in let below = is.1 in (is.0, omega (arith, below))
    here d (inr same) =
        let at = only.at_slot in
        subst (λ (x : Candidate). IsCandidate t prefix x × (x.slot < n + 1)) same (only.is_one, omega (arith, at))

pub candidates_same : (t : Tables) (prefix : Prefix) (n : ℕ) (cs : List Candidate) → AreCandidatesBelow t prefix n cs → HasNoneAt t prefix n → AreCandidatesBelow t prefix (n + 1) cs
candidates_same t prefix n cs are none = record {
  few = let few = are.few in omega (arith, few);
  here = λ c at. let is = are.here c at in let below = is.1 in (is.0, omega (arith, below));
  all = λ c is below. elim (cases_lt c.slot n) [
    | inl under ↦ are.all c is under
    | inr least ↦ absurd (none c (omega (arith, below, least)) is)
  ];
}

below_all : (t : Tables) (prefix : Prefix) (c : Candidate) → IsCandidate t prefix c → c.slot < 65
below_all t prefix c (inl peer) = let below = peer.slot_is in omega (arith, below)
below_all t prefix c (inr local) = let at : c.slot ≡ 64 = ap (λ (x : Candidate). x.slot) local.made in omega (arith, at)

pub candidates_all : (t : Tables) (prefix : Prefix) (n : ℕ) (cs : List Candidate) → n ≡ 65 → AreCandidatesBelow t prefix n cs → AreCandidates t prefix cs
candidates_all t prefix n cs all are = λ c. (
  λ at. (are.here c at).0,
  λ is. let below = below_all t prefix c is in are.all c is (omega (arith, below, all)),
)
