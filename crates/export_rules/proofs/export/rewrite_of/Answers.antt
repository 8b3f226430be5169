use Rattle.export_rules.proofs.Rewritten.{written_inside, written_outside}
use Rattle.export_rules.proofs.export.rewrite_of.Goals as goal

pub returns-then-is_internal : goal.returns-then-is_internal
returns-then-is_internal c = λ attrs.
    rw (c.next_hop_set.ensures, c.local_pref_of.ensures, c.in-Accept.is)
    (written_inside c.args.route.now attrs c.args.peer.now c.in-Accept.degree c.in-Accept.med c.in-Accept.prepend c.if-is_kept_from.ensures c.if-is_internal.ensures)

pub returns-else-is_internal : goal.returns-else-is_internal
returns-else-is_internal c = λ attrs.
    rw (c.in_front.ensures, c.in-Accept.is)
    (written_outside c.args.route.now attrs c.args.peer.now c.in-Accept.degree c.in-Accept.med c.in-Accept.prepend c.if-is_kept_from.ensures c.if-is_internal.ensures)
