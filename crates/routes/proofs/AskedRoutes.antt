-- What a slot's route makes, or that it makes nothing.
use Rattle.std.proofs.Common.{◌≡◌, ◌<◌, ℕ, Option, Some, None, ap, sym, subst, inl, inr, arith}
use Rattle.bgp_fsm.specs.declared.session.Session.{Session}
use Rattle.decision.specs.declared.candidate.Candidate.{Candidate}
use Rattle.net_prefix.specs.declared.prefix.Prefix.{Prefix}
use Rattle.routing.specs.Candidates.{HasNoneAt}
use Rattle.routing.specs.Offers.{LacksRoute}
use Rattle.routing.specs.Tables.{Tables}
use Rattle.routing.proofs.CandidateLists.{none_routed, of_peer}

-- a slot that isn't there makes no candidate
pub none_beyond : (t : Tables) (prefix : Prefix) (slot : ℕ) → 64 < slot → HasNoneAt t prefix slot
none_beyond t prefix slot beyond c at (inl is) = let below = is.slot_is in absurd (omega (arith, below, at, beyond))
none_beyond t prefix slot beyond c at (inr is) = let local : c.slot ≡ 64 = ap (λ (x : Candidate). x.slot) is.made in absurd (omega (arith, local, at, beyond))

differ : {P : Type 0} (found : Option Session) (session : Session) → found ≡ None → found ≡ Some session → P
differ found session none some = absurd (cc)

none_linked : (t : Tables) (prefix : Prefix) (slot : ℕ) → slot < 64 → t.sessions slot ≡ None → HasNoneAt t prefix slot
none_linked t prefix slot below none c at one =
    let is = of_peer t prefix c (subst (λ s. s < 64) (sym at) below) one in
    differ (t.sessions slot) is.session none (subst (λ s. t.sessions s ≡ Some is.session) at is.session_is)

-- nor does one without a route
pub none_lacking : (t : Tables) (prefix : Prefix) (slot : ℕ) → LacksRoute t slot prefix → HasNoneAt t prefix slot
none_lacking t prefix slot (inl none) = none_routed t prefix slot none
none_lacking t prefix slot (inr none) = none_linked t prefix slot none.0 none.1
