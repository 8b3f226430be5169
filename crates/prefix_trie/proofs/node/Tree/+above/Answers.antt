use Rattle.std.proofs.Common.{sym, ap, ◌∙◌, option_map}
use Rattle.prefix_trie.specs.TrieWalks.{seen}
use Rattle.prefix_trie.proofs.AtNode.{at_node}
use Rattle.prefix_trie.proofs.Firsts.{first_behind, first_high, first_low_none, first_over}
use Rattle.prefix_trie.proofs.node.Tree.+above.Goals as goal

pub returns-in-None-above : goal.returns-in-None-above
returns-in-None-above g t c =
    let n = c.in-Fork.node.value in
    let f = at_node c.self.view_is c.self.invariant c.in-Fork.is in
    let at = rw (c.in-Low.is, c.deref.ensures) at c.place_of.ensures in
    let none = sym (rw c.deref-in-Low.ensures at c.above.ensures) ∙ ap (option_map seen) c.in-None-above.is in
    let high = rw c.deref-in-None-above.ensures at c.first-in-None-above.ensures in
    high ∙ sym (first_low_none c.args.self.now n.prefix n.value n.low n.high f.entries f.parts c.args.key at none)

pub returns-in-High : goal.returns-in-High
returns-in-High g t c =
    let n = c.in-Fork.node.value in
    let f = at_node c.self.view_is c.self.invariant c.in-Fork.is in
    let at = rw (c.in-High.is, c.deref.ensures) at c.place_of.ensures in
    let high = rw c.deref-in-High.ensures at c.above-in-High.ensures in
    high ∙ sym (first_high c.args.self.now n.prefix n.value n.low n.high f.entries f.parts c.args.key at)

pub returns-in-OverLow : goal.returns-in-OverLow
returns-in-OverLow g t c =
    let n = c.in-Fork.node.value in
    let f = at_node c.self.view_is c.self.invariant c.in-Fork.is in
    let stands = rw c.deref.ensures at c.place_of.ensures in
    c.first-in-OverLow.ensures ∙ sym (first_over c.args.self.now n.prefix n.value n.low n.high f.entries f.parts c.args.key c.place_of.result stands c.in-OverLow.is)

pub returns-in-Behind : goal.returns-in-Behind
returns-in-Behind g t c =
    let n = c.in-Fork.node.value in
    let f = at_node c.self.view_is c.self.invariant c.in-Fork.is in
    let at = rw (c.in-Behind.is, c.deref.ensures) at c.place_of.ensures in
    sym (first_behind c.args.self.now n.prefix n.value n.low n.high f.entries f.parts c.args.key at)
