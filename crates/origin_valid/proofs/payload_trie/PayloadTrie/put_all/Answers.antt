use Rattle.std.proofs.Common.{◌≡◌, rules}
use Rattle.origin_valid.proofs.SetWalks.{on_err, put_more, put_some}
use Rattle.origin_valid.proofs.payload_trie.PayloadTrie.put_all.Goals as goal

pub loop-payload-preserved : goal.loop-payload-preserved
loop-payload-preserved g c = put_more c.args.self.now c.loop-payload.self c.put.new.self c.loop-payload.yielded c.in-Some.payload c.loop-payload.invariant c.in_ok-put.ensures.ok

pub returns-in_err-put-clause-err : goal.returns-in_err-put-clause-err
returns-in_err-put-clause-err g c =
    let from : c.into_iter-payload-iterator.result ≡ c.args.announced.now.keys = search rules in
    on_err c.from_residual.result
    (put_some c.args.self.now c.loop-payload.self c.put.new.self c.args.announced.now.keys c.into_iter-payload-iterator.result c.loop-payload.payload-iterator c.loop-payload.yielded
    c.loop-payload.yielded_by from c.loop-payload.invariant c.in_err-put.ensures.err)
