use Rattle.std.proofs.Common.{sym}
use Rattle.prefix_trie.proofs.CoverNodes.{covering_towards, towards_covering}
use Rattle.prefix_trie.proofs.trie.Trie.covering.Goals as goal

pub returns-clause-least : goal.returns-clause-least
returns-clause-least g c = rw (sym c.self.view_is, c.new.ensures.nodes_left) (covering_towards c.args.prefix.now c.self.inside.tree.entries c.is_address.ensures c.self.invariant.addresses)

pub returns-clause-most : goal.returns-clause-most
returns-clause-most g c = rw (sym c.self.view_is, c.new.ensures.nodes_left) (towards_covering c.args.prefix.now c.self.inside.tree.entries c.is_address.ensures c.self.invariant.addresses)
