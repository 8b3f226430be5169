use Rattle.std.proofs.lemmas.Result.{err_from_is_err_and}
use Rattle.bgp_attr.proofs.Faults.{needs_memory}
use Rattle.bgp_attr.proofs.reading.read_attrs.Goals as goal

pub returns-in_err-take_attributes-clause-memory : goal.returns-in_err-take_attributes-clause-memory
returns-in_err-take_attributes-clause-memory g c =
    let p = err_from_is_err_and c.from_residual-in_err-take_attributes.result c.from_residual-in_err-take_attributes.ensures.1 in
    rw p.1 (λ none. needs_memory c.args.kind c.args.octets.now c.in_ok-check_attributes.ensures c.in_err-take_attributes.ensures.memory)
