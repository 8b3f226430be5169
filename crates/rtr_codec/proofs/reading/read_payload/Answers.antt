use Rattle.std.proofs.Common.{ap, sym, ◌∙◌}
use Rattle.std.specs.Option.{option_and_then}
use Rattle.rtr_codec.specs.PduContents.{payload_with}
use Rattle.rtr_codec.proofs.Payloads.{prefix_of-is, prefix_of-none, payload_answer}
use Rattle.rtr_codec.proofs.reading.read_payload.Goals as goal

pub returns-in-Ok : goal.returns-in-Ok
returns-in-Ok c =
    c.ok.ensures.value
    ∙ payload_answer c.in-Ok.prefix c.args.max_len c.args.asn c.new-in-Ok.result c.new-in-Ok.ensures
    ∙ sym (ap (option_and_then (payload_with c.args.max_len c.args.asn)) (prefix_of-is c.args.bits c.args.len c.in-Ok.prefix c.in-Ok.ensures.0 c.in-Ok.ensures.1))

pub returns-in-Err : goal.returns-in-Err
returns-in-Err c =
    sym (ap (option_and_then (payload_with c.args.max_len c.args.asn)) (prefix_of-none c.args.bits c.args.len c.in-Err.field-0 c.in-Err.ensures))
