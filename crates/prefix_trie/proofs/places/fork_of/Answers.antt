use Rattle.std.proofs.Common.{◌/◌, arith}
use Rattle.std.proofs.Math.Nat.{mul-mod_left}
use Rattle.net_prefix.specs.Cover.{block_size}
use Rattle.net_prefix.specs.declared.prefix.Prefix.{Prefix}
use Rattle.prefix_trie.proofs.Forks.{fork_low, fork_high}
use Rattle.prefix_trie.proofs.places.fork_of.Goals as goal

pub invariant_of-result : goal.invariant_of-result
invariant_of-result c = record {
  short = omega (arith, c.common_len-len.ensures.short);
  no_host_bits = rw c.block_start-bits.ensures (mul-mod_left (c.args.low.bits / block_size c.common_len-len.result) (block_size c.common_len-len.result));
}

pub returns-clause-low : goal.returns-clause-low
returns-clause-low c =
    let fork : Prefix = record {
      bits = c.block_start-bits.result;
      len = c.common_len-len.result;
      short = omega (arith, c.common_len-len.ensures.short);
      no_host_bits = rw c.block_start-bits.ensures (mul-mod_left (c.args.low.bits / block_size c.common_len-len.result) (block_size c.common_len-len.result));
    } in
    fork_low fork c.args.low c.args.high c.requires c.common_len-len.ensures c.block_start-bits.ensures

pub returns-clause-high : goal.returns-clause-high
returns-clause-high c =
    let fork : Prefix = record {
      bits = c.block_start-bits.result;
      len = c.common_len-len.result;
      short = omega (arith, c.common_len-len.ensures.short);
      no_host_bits = rw c.block_start-bits.ensures (mul-mod_left (c.args.low.bits / block_size c.common_len-len.result) (block_size c.common_len-len.result));
    } in
    fork_high fork c.args.low c.args.high c.requires c.common_len-len.ensures c.block_start-bits.ensures
