use Rattle.origin_valid.proofs.SetWalks.{out_more}
use Rattle.origin_valid.proofs.payload_trie.PayloadTrie.take_out_all.Goals as goal

pub loop-payload-preserved : goal.loop-payload-preserved
loop-payload-preserved g c = out_more c.args.self.now c.loop-payload.self c.take_out.new.self c.loop-payload.yielded c.in-Some.payload c.loop-payload.invariant c.take_out.ensures
