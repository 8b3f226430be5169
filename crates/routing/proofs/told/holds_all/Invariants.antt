use Rattle.std.proofs.Common.{◌≡◌, true, false, drop, Some}
use Rattle.net_prefix.specs.declared.prefix.Prefix.{Prefix}
use Rattle.rib_out.specs.Held.{held_at, is_among}
use Rattle.routing.proofs.told.holds_all.Given as goal

-- of those that were looked at just these octets are held
abbrev pub invariant-loop-prefix : goal.invariant-loop-prefix
invariant-loop-prefix g l =
    (q : Prefix) → is_among q l.named ≡ true → is_among q (drop l.prefix-index l.named) ≡ false → held_at l.adj_out q ≡ Some l.octets.items
