use Rattle.std.proofs.Common.{◌∙◌, inl, refl, sym, arith}
use Rattle.vrp_json.proofs.Documents.{of_items}
use Rattle.vrp_json.proofs.Steps.{enter_array, kinds}
use Rattle.vrp_json.proofs.list.read_roas.Goals as goal

pub returns-then-not-open_array : goal.returns-then-not-open_array
returns-then-not-open_array c = λ j behind at.
    let (after, value, there) = at in
    inl (refl, (kinds 127 c.args.reader.now j after (omega arith) value).1 ∙ sym c.if-not-open_array.ensures.opens)

pub returns : goal.returns
returns c = λ j behind at.
    let (js, is, items) = enter_array j behind c.args.reader.now c.open_array.new.reader at (c.open_array.ensures.passed c.if-not-open_array.false) in
    of_items c.args.second j js behind c.read_entries.result c.read_entries.new.reader is (c.read_entries.ensures js behind items)
