use Rattle.std.proofs.Common.{◌≡◌, ◌==◌, sym, ap, ◌∙◌, rules}
use Rattle.std.proofs.lemmas.Slice.Eq.{slice_eq-Decides}
use Rattle.std.specs.Bool.{Decides}
use Rattle.std.specs.Cmp.{unsigned_Decides}
use Rattle.net_prefix.specs.declared.asn.Asn.{Asn}
use Rattle.holdings.proofs.same.is_same_segment.Goals as goal

asn_exact : (a b : Asn) → Decides (a.0 == b.0) (a ≡ b)
asn_exact a b = (λ h i. record { 0 = (unsigned_Decides a.0 b.0).0 h i }, λ e. (unsigned_Decides a.0 b.0).1 (ap (λ (x : Asn). x.0) e))

pub returns-then-eq : goal.returns-then-eq
returns-then-eq g c = λ h.
    let kinds : c.args.a.now.kind ≡ c.args.b.now.kind = search rules in
    let ases = (slice_eq-Decides asn_exact c.asns.result.now c.asns-then-eq.result.now c.eq-then-eq.result c.eq-then-eq.ensures).0 (search rules) in
    let asns : c.args.a.now.asns ≡ c.args.b.now.asns = sym c.asns.ensures.value ∙ ases ∙ c.asns-then-eq.ensures.value in
    λ i. record { kind = kinds i; asns = asns i }
