use Rattle.std.proofs.Common.{◌≡◌, ◌<◌, ℕ, None}
use Rattle.live_book.specs.NeighborBests.{AreFair, HaveStood, is_kept, slots_of, to_settle_at}
use Rattle.live_book.proofs.comparing.settle_each.Given as goal

abbrev pub invariant-loop-index : goal.invariant-loop-index
invariant-loop-index l = record {
  slots : slots_of l.places ≡ slots_of l.fn.places;
  fair : AreFair l.places;
  stood : HaveStood is_kept l.fn.places l.places;
  closed : (k : ℕ) → k < l.index → to_settle_at l.places k ≡ None;
}
