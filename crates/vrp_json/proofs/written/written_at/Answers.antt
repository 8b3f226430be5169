use Rattle.std.proofs.Common.{◌∙◌, [], sym, arith}
use Rattle.vrp_json.proofs.Steps.{kinds}
use Rattle.vrp_json.proofs.WrittenTold.{of_members, untold_value}
use Rattle.vrp_json.proofs.written.written_at.Goals as goal

pub returns-then-not-open_object : goal.returns-then-not-open_object
returns-then-not-open_object c = λ j at.
    untold_value j ((kinds 128 c.args.reader.now j [] (omega arith) at).0 ∙ sym c.if-not-open_object.ensures.opens)

pub returns : goal.returns
returns c =
    of_members c.written_of.result c.args.reader.now c.open_object.new.reader (c.open_object.ensures.passed c.if-not-open_object.false) c.written_of.ensures
