use Rattle.std.proofs.Common.{◌≤◌, ◌<◌, length, All}
use Rattle.book_bench.proofs.Addresses.{Rise}
use Rattle.book_bench.proofs.given.candidates.Given as goal

abbrev pub invariant-loop-slot : goal.invariant-loop-slot
invariant-loop-slot l = record {
  rise : Rise l.candidates.items;
  below : All (λ d. d.address < l.slot) l.candidates.items;
  few : length l.candidates.items ≤ l.slot;
}
