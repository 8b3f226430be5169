use Rattle.origin_valid.proofs.StatesUnder.{judged_alone, judged_under}
use Rattle.origin_valid.proofs.payload_trie.PayloadTrie.state_under.Goals as goal

pub returns-then-is_empty : goal.returns-then-is_empty
returns-then-is_empty g c =
    judged_alone c.args.prefix.now c.args.origin c.args.exceptions.now c.args.self.now c.state.result (c.is_empty.ensures.0 c.if-is_empty.true) c.state.ensures

pub returns : goal.returns
returns g c =
    judged_under c.args.prefix.now c.args.origin c.args.exceptions.now c.args.self.now c.assertions.result.now.keys c.kept_state.result c.asserted_state.result c.both.result
    c.assertions.ensures c.kept_state.ensures c.asserted_state.ensures c.both.ensures
