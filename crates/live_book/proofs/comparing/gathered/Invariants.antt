use Rattle.std.proofs.Common.{take}
use Rattle.live_book.specs.NeighborBests.{AreFew, contenders_of}
use Rattle.live_book.proofs.comparing.gathered.Given as goal

abbrev pub invariant-loop-place : goal.invariant-loop-place
invariant-loop-place l = AreFew (contenders_of l.round (take l.place-index l.places)) l.few
