use Rattle.std.proofs.Common.{◌==◌, ap}
use Rattle.std.proofs.lemmas.Nat.Bits.{bit_at_ones}
use Rattle.rib_out.proofs.NothingWaits.{none_queued}
use Rattle.rib_out.proofs.waiting.Waiting.new.Goals as goal

pub returns-clause-none : goal.returns-clause-none
returns-clause-none g c = λ s p whole o. none_queued c.in_ok-all_empty.field-0.items s o p c.in_ok-all_empty.ensures

pub returns-clause-whole : goal.returns-clause-whole
returns-clause-whole g c = λ s few. ap (λ n. n == 1) (bit_at_ones 64 s few)
