use Rattle.std.proofs.Common.{Some}
use Rattle.rib_out.specs.Held.{asked_at, held_at}
use Rattle.routes.proofs.SlotMarks.{new_of, new_where, not_new_of, not_new_where}
use Rattle.routes.proofs.packing.is_new_to.Goals as goal

pub returns-clause-yes : goal.returns-clause-yes
returns-clause-yes g c =
    let is = rw c.as_slice.ensures.value at c.has_just.ensures in
    new_of _ c.args.adj_out.now c.args.prefix (Some c.args.octets.now.items) (new_where c.has_just.result (held_at c.args.adj_out.now c.args.prefix) c.args.octets.now.items (asked_at c.args.adj_out.now c.args.prefix) is)

pub returns-clause-no : goal.returns-clause-no
returns-clause-no g c =
    let is = rw c.as_slice.ensures.value at c.has_just.ensures in
    not_new_of _ c.args.adj_out.now c.args.prefix (Some c.args.octets.now.items) (not_new_where c.has_just.result (held_at c.args.adj_out.now c.args.prefix) c.args.octets.now.items (asked_at c.args.adj_out.now c.args.prefix) is)
