use Rattle.std.proofs.Common.{Some, None}
use Rattle.prefix_trie.proofs.Nexts.{is_next, rising_at}
use Rattle.prefix_trie.proofs.node.Tree.after.Goals as goal

pub returns-in-Some : goal.returns-in-Some
returns-in-Some g c =
    let rising = rising_at c.self.inside.root c.self.view_is c.self.invariant in
    rw c.in-Some.is (is_next (Some c.in-Some.key) c.args.self.now.entries c.above.result rising c.above.ensures)

pub returns-in-None : goal.returns-in-None
returns-in-None g c =
    let rising = rising_at c.self.inside.root c.self.view_is c.self.invariant in
    rw c.in-None.is (is_next None c.args.self.now.entries c.first.result rising c.first.ensures)
