use Rattle.std.proofs.Common.{arith, subst, sym, ℕ, Option, ◌≡◌, true}
use Rattle.std.specs.Prelude.{MatchOption, ⊤}
use Rattle.bgp_attr.specs.AttributeFaults.{is_host}
use Rattle.bgp_attr.specs.AttributeReading.{attributes_in}
use Rattle.bgp_attr.proofs.AttributeSpellings.{next_hop_sound}
use Rattle.bgp_attr.proofs.reading.with_numbers.Goals as goal

pub invariant_of-result : goal.invariant_of-result
unfolding attributes_in
invariant_of-result g c =
    subst (λ (o : Option ℕ). MatchOption o ⊤ (λ address. is_host address ≡ true)) (sym c.number_of.ensures) (next_hop_sound c.args.kind c.args.octets.now (λ i. omega (arith, c.type_inv.octets i)) c.requires.faultless)
