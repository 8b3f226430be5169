use Rattle.std.proofs.Common.{sym, ◌∙◌}
use Rattle.prefix_trie.proofs.AtNode.{at_node, found_here, found_outside, found_in_low, found_in_high}
use Rattle.prefix_trie.proofs.node.Tree.+get.Goals as goal

pub returns-in-Same : goal.returns-in-Same
returns-in-Same g t c =
    let f = at_node c.self.view_is c.self.invariant c.in-Fork.is in
    let at = rw (c.in-Same.is, c.deref.ensures) at c.place_of.ensures in
    c.as_ref.ensures.value ∙ rw (c.deref-in-Same.ensures, f.entries, at) (sym (found_here _ _ _ _ f.parts))

pub returns-in-Low : goal.returns-in-Low
returns-in-Low g t c =
    let f = at_node c.self.view_is c.self.invariant c.in-Fork.is in
    let at = rw (c.in-Low.is, c.deref.ensures) at c.place_of.ensures in
    c.get.ensures ∙ rw (c.deref-in-Low.ensures, f.entries) (sym (found_in_low _ _ _ _ f.parts _ at))

pub returns-in-High : goal.returns-in-High
returns-in-High g t c =
    let f = at_node c.self.view_is c.self.invariant c.in-Fork.is in
    let at = rw (c.in-High.is, c.deref.ensures) at c.place_of.ensures in
    c.get-in-High.ensures ∙ rw (c.deref-in-High.ensures, f.entries) (sym (found_in_high _ _ _ _ f.parts _ at))

pub returns-in-OverLow : goal.returns-in-OverLow
returns-in-OverLow g t c =
    let f = at_node c.self.view_is c.self.invariant c.in-Fork.is in
    let at = rw c.deref.ensures at c.place_of.ensures in
    rw f.entries (sym (found_outside _ _ _ _ f.parts c.args.key c.place_of.result at c.in-OverLow.is))
