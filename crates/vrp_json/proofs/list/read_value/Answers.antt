use Rattle.std.proofs.Common.{◌∙◌, [], sym, arith}
use Rattle.vrp_json.proofs.Documents.{no_list, of_object}
use Rattle.vrp_json.proofs.Steps.{enter_object, kinds}
use Rattle.vrp_json.proofs.list.read_value.Goals as goal

pub returns-then-not-open_object : goal.returns-then-not-open_object
returns-then-not-open_object c = λ j at.
    no_list j ((kinds 128 c.args.reader.now j [] (omega arith) at).0 ∙ sym c.if-not-open_object.ensures.opens)

pub returns : goal.returns
returns c = λ j at.
    let (ms, is, members) = enter_object j c.args.reader.now c.open_object.new.reader at (c.open_object.ensures.passed c.if-not-open_object.false) in
    of_object c.args.second j ms c.read_members.result is (c.read_members.ensures ms members)
