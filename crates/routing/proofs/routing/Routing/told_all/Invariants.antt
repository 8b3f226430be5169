use Rattle.std.proofs.Common.{◌≡◌}
use Rattle.routing.proofs.ToldPrefixes.{ToldSo}
use Rattle.routing.proofs.routing.Routing.told_all.Given as goal

-- nothing waits of those that were told so far
abbrev pub invariant-loop-prefix : goal.invariant-loop-prefix
invariant-loop-prefix g l = record {
  told : ToldSo l.slot l.prefixes l.prefix-index l.initial.self-inside.waiting l.self-inside.waiting;
  ribs : l.self-inside.ribs ≡ l.initial.self-inside.ribs;
  alike : l.self-inside.alike ≡ l.initial.self-inside.alike;
}
