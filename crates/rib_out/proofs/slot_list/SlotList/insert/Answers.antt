use Rattle.std.proofs.Common.{sym, ◌∙◌}
use Rattle.rib_out.proofs.AlikeLists.{on_ok, put_keeps, put_only}
use Rattle.rib_out.proofs.slot_list.SlotList.insert.Goals as goal

pub returns-clause-kept : goal.returns-clause-kept
returns-clause-kept g c = λ a was.
    put_keeps c.args.entry a c.self.inside.entries c.insert.new.self (on_ok c.insert.result _ c.insert.ensures.updates (sym c.is_err.ensures.value ∙ c.if-is_err.false)) (rw (← c.self.view_is) at was)

pub returns-clause-only : goal.returns-clause-only
returns-clause-only g c = λ a there.
    rw (← c.self.view_is) (put_only c.args.entry a c.self.inside.entries c.insert.new.self (on_ok c.insert.result _ c.insert.ensures.updates (sym c.is_err.ensures.value ∙ c.if-is_err.false)) there)
