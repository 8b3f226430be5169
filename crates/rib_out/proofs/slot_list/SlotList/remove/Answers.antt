use Rattle.rib_out.specs.Alike.{alike}
use Rattle.rib_out.proofs.AlikeLists.{removed_apart, removed_fewer, removed_none, removed_others}
use Rattle.rib_out.proofs.slot_list.SlotList.remove.Goals as goal

pub returns-clause-fewer : goal.returns-clause-fewer
returns-clause-fewer g c = λ a there. rw (← c.self.view_is) (removed_fewer (alike c.args.number c.args.prefix) a c.self.inside.entries c.remove.new.self c.remove.ensures.updates there)

pub returns-clause-none : goal.returns-clause-none
returns-clause-none g c = λ a was. removed_none (alike c.args.number c.args.prefix) a c.self.inside.entries c.remove.new.self c.remove.ensures.updates (rw (← c.self.view_is) at was)

pub returns-clause-others : goal.returns-clause-others
returns-clause-others g c = λ a apart. rw (← c.self.view_is) (removed_others (alike c.args.number c.args.prefix) a c.self.inside.entries c.remove.new.self c.remove.ensures.updates apart)

pub returns-clause-kept : goal.returns-clause-kept
returns-clause-kept g c = λ n p apart. rw (← c.self.view_is) (removed_apart c.args.number n c.args.prefix p c.self.inside.entries c.remove.new.self c.remove.ensures.updates apart)
