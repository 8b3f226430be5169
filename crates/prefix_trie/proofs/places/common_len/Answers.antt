use Rattle.std.proofs.Common.{bit_xor, arith}
use Rattle.std.proofs.lemmas.Nat.{leading_length, xor_of_32}
use Rattle.prefix_trie.proofs.Forks.{split_at}
use Rattle.prefix_trie.proofs.places.common_len.Goals as goal

pub returns : goal.returns
returns c =
    let zeros = leading_length 32 (bit_xor c.args.low c.args.high) (xor_of_32 c.args.low c.args.high (omega (arith, c.ranges.low)) (omega (arith, c.ranges.high))) in
    split_at c.args.low c.args.high _ zeros.0 c.requires zeros.1 zeros.2 zeros.3
