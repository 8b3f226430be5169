use Rattle.std.proofs.Common.{◌<◌, length, sym, ◌∙◌}
use Rattle.bgp_attr.specs.ReceivedAttributes.{split_of}
use Rattle.bgp_attr.specs.UnknownAttributes.{unknown_in}
use Rattle.bgp_attr.proofs.UnknownLists.{no_unknown, some_unknown}
use Rattle.bgp_attr.proofs.UnknownReading.{on_refusal}
use Rattle.bgp_attr.proofs.reading.unknown_of.Goals as goal

pub returns-then-has_kept-clause-memory : goal.returns-then-has_kept-clause-memory
returns-then-has_kept-clause-memory g c =
    on_refusal (0 < length (unknown_in (split_of c.args.octets.now).0)) c.read_unknown.result (some_unknown (split_of c.args.octets.now).0 (sym c.has_kept.ensures ∙ c.if-has_kept.true))

pub returns-else-has_kept-clause-found : goal.returns-else-has_kept-clause-found
returns-else-has_kept-clause-found g c = c.new.ensures ∙ sym (no_unknown (split_of c.args.octets.now).0 (sym c.has_kept.ensures ∙ c.if-has_kept.false))
