use Rattle.std.proofs.Common.{◌≡◌, ◌==◌, false, nat_lt, ap, sym, ◌∙◌, arith}
use Rattle.std.proofs.lemmas.Bool.Decides.{nat_tests}
use Rattle.std.proofs.lemmas.Nat.Bits.{bit_at_above}
use Rattle.loc_rib.proofs.sent_marks.is_in.Goals as goal

pub returns-else-slot-lt64-clause-has : goal.returns-else-slot-lt64-clause-has
returns-else-slot-lt64-clause-has c =
    let out : nat_lt c.args.slot 64 ≡ false = grind (arith, nat_tests) in
    out ∙ sym (ap (λ n. n == 1) (bit_at_above c.args.slots 64 c.args.slot (omega arith) (omega arith)))
