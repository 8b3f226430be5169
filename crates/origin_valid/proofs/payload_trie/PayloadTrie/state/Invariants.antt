use Rattle.std.proofs.Common.{◌≡◌, length}
use Rattle.origin_valid.specs.Validity.{validity}
use Rattle.origin_valid.proofs.States.{judged}
use Rattle.origin_valid.proofs.payload_trie.PayloadTrie.state.Given as goal

abbrev pub invariant-loop-payloads : goal.invariant-loop-payloads
invariant-loop-payloads g l = validity l.self l.prefix l.origin ≡ judged l.prefix l.origin l.state l.covering.left

abbrev pub decreases-loop-payloads : goal.decreases-loop-payloads
decreases-loop-payloads g l = length l.covering.left
