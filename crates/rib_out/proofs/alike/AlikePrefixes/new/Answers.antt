use Rattle.std.proofs.Common.{◌==◌, ap}
use Rattle.std.proofs.lemmas.Nat.Bits.{bit_at_ones}
use Rattle.rib_out.specs.Alike.{alike, octets_number}
use Rattle.rib_out.proofs.NothingWaits.{none_listed}
use Rattle.rib_out.proofs.alike.AlikePrefixes.new.Goals as goal

pub returns-clause-none : goal.returns-clause-none
returns-clause-none g c = λ s o p. none_listed c.in_ok-all_empty.field-0.items s (alike (octets_number o) p) c.in_ok-all_empty.ensures

pub returns-clause-whole : goal.returns-clause-whole
returns-clause-whole g c = λ s few. ap (λ n. n == 1) (bit_at_ones 64 s few)
