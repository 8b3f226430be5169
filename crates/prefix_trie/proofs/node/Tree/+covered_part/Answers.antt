use Rattle.std.proofs.Common.{sym, ◌∙◌}
use Rattle.prefix_trie.proofs.AtNode.{at_node}
use Rattle.prefix_trie.proofs.Covered.{covered_high, covered_low, covered_outside, covered_over}
use Rattle.prefix_trie.proofs.node.Tree.+covered_part.Goals as goal

pub returns-in-Same : goal.returns-in-Same
returns-in-Same g t c =
    let n = c.in-Fork.node.value in
    let f = at_node c.self.view_is c.self.invariant c.in-Fork.is in
    let stands = rw c.deref.ensures at c.place_of.ensures in
    sym (covered_over c.args.self.now n.prefix n.value n.low n.high f.entries f.parts c.args.key c.place_of.result stands c.in-Same.is)

pub returns-in-Low : goal.returns-in-Low
returns-in-Low g t c =
    let n = c.in-Fork.node.value in
    let f = at_node c.self.view_is c.self.invariant c.in-Fork.is in
    let at = rw (c.in-Low.is, c.deref.ensures) at c.place_of.ensures in
    let low = rw c.deref-in-Low.ensures at c.covered_part.ensures in
    low ∙ sym (covered_low c.args.self.now n.prefix n.value n.low n.high f.entries f.parts c.args.key at)

pub returns-in-High : goal.returns-in-High
returns-in-High g t c =
    let n = c.in-Fork.node.value in
    let f = at_node c.self.view_is c.self.invariant c.in-Fork.is in
    let at = rw (c.in-High.is, c.deref.ensures) at c.place_of.ensures in
    let high = rw c.deref-in-High.ensures at c.covered_part-in-High.ensures in
    high ∙ sym (covered_high c.args.self.now n.prefix n.value n.low n.high f.entries f.parts c.args.key at)

pub returns-in-Before : goal.returns-in-Before
returns-in-Before g t c =
    let n = c.in-Fork.node.value in
    let f = at_node c.self.view_is c.self.invariant c.in-Fork.is in
    let stands = rw c.deref.ensures at c.place_of.ensures in
    sym (covered_outside c.args.self.now n.prefix n.value n.low n.high f.entries f.parts c.args.key c.place_of.result stands c.in-Before.is)
