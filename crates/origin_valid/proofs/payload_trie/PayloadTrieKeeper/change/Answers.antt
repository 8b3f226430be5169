use Rattle.vrp_delta.specs.Delta.{Change}
use Rattle.vrp_delta.specs.Keeping.{IsChangeOf}
use Rattle.origin_valid.proofs.SetWalks.{changed, undone}
use Rattle.origin_valid.proofs.payload_trie.PayloadTrieKeeper.change.Goals as goal

pub returns-in-Err-clause-err : goal.returns-in-Err-clause-err
returns-in-Err-clause-err g c =
    let change : Change = record { withdrawn = c.delta.inside.withdrawn.keys; announced = c.delta.inside.announced.keys } in
    let is : IsChangeOf c.args.self.now change = rw c.delta.view_is c.requires in
    undone c.args.self.now c.put_all.new.self c.take_out_all.new.self change is c.rises.ensures c.rises-in-Err.ensures c.in-Err.ensures.err c.take_out_all.ensures

pub returns-clause-ok : goal.returns-clause-ok
returns-clause-ok g c =
    let change : Change = record { withdrawn = c.delta.inside.withdrawn.keys; announced = c.delta.inside.announced.keys } in
    let is : IsChangeOf c.args.self.now change = rw c.delta.view_is c.requires in
    rw (← c.delta.view_is) (changed c.args.self.now c.put_all.new.self c.take_out_all-2.new.self change is c.in_default.ensures.ok c.take_out_all-2.ensures)
