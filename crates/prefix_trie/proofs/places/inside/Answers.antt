use Rattle.std.proofs.Common.{arith}
use Rattle.net_prefix.specs.Cover.{block_size}
use Rattle.net_prefix.proofs.Blocks.{room}
use Rattle.prefix_trie.proofs.Blocks.{bits_whole, end_by_halves, high_from, low_from}
use Rattle.prefix_trie.proofs.places.inside.Goals as goal

pub returns-then-key-top : goal.returns-then-key-top
returns-then-key-top c =
    let key = c.args.key in
    let top = c.args.top in
    room (block_size key.len) key.bits top.bits key.no_host_bits (bits_whole top key.len (omega arith)) c.if-key-top.true

pub returns-then-from-half : goal.returns-then-from-half
returns-then-from-half c = low_from c.args.top c.args.key c.requires c.if-key-top.false (omega arith)

pub returns-then-from-half-2 : goal.returns-then-from-half-2
returns-then-from-half-2 c =
    let short = c.args.key.short in
    let ends = end_by_halves c.args.top (omega arith) in
    high_from c.args.top c.args.key c.requires (omega arith) (omega arith)

pub returns-else-from-half-2 : goal.returns-else-from-half-2
returns-else-from-half-2 c =
    let short = c.args.key.short in
    let ends = end_by_halves c.args.top (omega arith) in
    omega arith
