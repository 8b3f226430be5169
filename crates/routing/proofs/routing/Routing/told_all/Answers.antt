use Rattle.std.proofs.Common.{rules, ◌<◌, length}
use Rattle.routing.proofs.ToldPrefixes.{ToldSo-more}
use Rattle.routing.proofs.routing.Routing.told_all.Goals as goal

pub loop-prefix-preserved : goal.loop-prefix-preserved
loop-prefix-preserved g c =
    let within : c.loop-prefix.prefix-index < length c.args.prefixes.now = search rules in
    let h = c.loop-prefix.invariant in
    record {
      told = ToldSo-more c.args.slot c.args.prefixes.now c.loop-prefix.prefix-index c.prefix-item.result _ c.loop-prefix.self-inside.waiting c.set.new.self within c.prefix-item.is h.told c.set.ensures.here c.set.ensures.others;
      ribs = h.ribs;
      alike = h.alike;
    }

pub returns-clause-others : goal.returns-clause-others
returns-clause-others g c = λ s p w off was. c.loop-prefix.invariant.told.others s p w off (rw (← c.self.view_is) at was)
