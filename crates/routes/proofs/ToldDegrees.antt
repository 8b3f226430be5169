-- The degree of a peer's route is the LOCAL_PREF with which internal peers are told it.
use Rattle.std.proofs.Common.{◌≡◌, ◌<◌, ◌-◌, ◌^◌, ◌==◌, ℕ, Bool, true, false, cond, min, Option, Some, None, MatchOption, arith, sym, ap, subst}
use Rattle.std.specs.Bool.{⊤}
use Rattle.std.proofs.lemmas.Bool.{ne_eqb}
use Rattle.bgp_attr.specs.PathAttributes.{PathAttributes}
use Rattle.bgp_attr.specs.PeerKinds.{kind_between}
use Rattle.bgp_attr.specs.declared.peer.PeerKind.{PeerKind}
use Rattle.bgp_attr.specs.declared.peer.PeerKind.TheVariants.{External, Internal}
use Rattle.bgp_conf.specs.PeerPolicies.{import_action}
use Rattle.decision.specs.declared.candidate.Candidate.{Candidate}
use Rattle.export_rules.specs.Export.{local_pref_of}
use Rattle.net_prefix.specs.declared.prefix.Prefix.{Prefix}
use Rattle.policy.specs.declared.rule.Action.{Action}
use Rattle.policy.specs.declared.rule.Action.TheVariants.{Reject, Accept}
use Rattle.routing.specs.Candidates.{IsPeerCandidate, degree_by, degree_of, seen_of, taken}
use Rattle.routing.specs.Export.{SetsDegree}
use Rattle.routing.specs.Tables.{Tables}

made_small : (kind : PeerKind) (attrs : PathAttributes) (d : ℕ) → degree_of kind attrs ≡ Some d → MatchOption attrs.local_pref ⊤ (λ n. n < 2 ^ 32) → d < 2 ^ 32
made_small (External peer) attrs d is small = let same : 100 ≡ d = cc in omega (arith, sym same)
made_small Internal attrs d is small = subst (λ (o : Option ℕ). MatchOption o ⊤ (λ n. n < 2 ^ 32)) is small

set_small : (external : Bool) (set : Option ℕ) (d : ℕ) → MatchOption set ⊤ (λ n. n < 2 ^ 32) → d < 2 ^ 32 → degree_by external set d < 2 ^ 32
set_small true None d sets small = small
set_small true (Some n) d sets small = sets
set_small false set d sets small = small

taken_small : (action : Action) (made c : Candidate) → taken action made ≡ Some c → SetsDegree action → made.degree < 2 ^ 32 → c.degree < 2 ^ 32
taken_small Reject made c is sets small = absurd (cc)
taken_small (Accept set med prepend) made c is sets small =
    let same : degree_by made.external set made.degree ≡ c.degree = ap (λ (o : Option Candidate). cand_degree o) is in
    subst (λ n. n < 2 ^ 32) same (set_small made.external set made.degree sets small)
  where
    cand_degree : Option Candidate → ℕ
    cand_degree None = 0
    cand_degree (Some x) = x.degree

told : (b : Bool) (d : ℕ) → b ≡ false → d < 2 ^ 32 → cond b 100 (min d (2 ^ 32 - 1)) ≡ d
told true d is small = absurd (cc)
told false d is small = omega (arith, small)

pub told_degree : (t : Tables) (prefix : Prefix) (c : Candidate) → (is : IsPeerCandidate t prefix c) → MatchOption is.attrs.local_pref ⊤ (λ n. n < 2 ^ 32)
    → SetsDegree (import_action t.conf is.made.slot (seen_of t.conf.own t.payloads is.made.slot prefix is.attrs)) → local_pref_of c ≡ c.degree
told_degree t prefix c is small sets =
    told (c.slot == 64) c.degree (ne_eqb c.slot 64 (λ e. omega (arith, is.slot_is, e)))
    (taken_small _ _ c is.judged sets (made_small (kind_between t.conf.own is.by_attrs.peer.asn) is.attrs is.made.degree is.by_attrs.degree_is small))
