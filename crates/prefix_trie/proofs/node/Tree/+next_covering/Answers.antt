use Rattle.std.proofs.Common.{◌≡◌, ◌<◌, ◌+◌, ◌*◌, ◌++◌, Some, refl, sym, ap, ◌∙◌, append-nil, arith}
use Rattle.prefix_trie.specs.CoverWalks.{all_covering}
use Rattle.prefix_trie.specs.Falls.{depth_below}
use Rattle.prefix_trie.specs.Nodes.{depth, here}
use Rattle.prefix_trie.proofs.AtNode.{at_node}
use Rattle.prefix_trie.proofs.Covers.{covering_high, covering_low, covering_outside, covering_same}
use Rattle.prefix_trie.proofs.Partings.{towards_high, towards_low, towards_empty, towards_outside, towards_same}
use Rattle.prefix_trie.proofs.node.Tree.+next_covering.Goals as goal

pub next_covering-step-requires : goal.next_covering-step-requires
next_covering-step-requires g t c κs within =
    let n = c.in-Fork.node.value in
    let f = at_node c.self.view_is c.self.invariant c.in-Fork.is in
    let is : 3 * (depth c.args.self.now.root + 1) + 0 ≡ t = c.decreases in
    let own : depth c.args.self.now.root ≡ depth (Some n.prefix) = ap depth f.root in
    let deeper = depth_below n.prefix _ n.low.root f.parts.low_root in
    let less : 3 * (depth c.deref-in-None.result.now.low.root + 1) + 0 < t = rw c.deref-in-None.ensures (omega (arith, is, own, deeper)) in
    (less, within)

pub overflow_add-result : goal.overflow_add-result
overflow_add-result g t c =
    let n = c.in-Fork.node.value in
    let f = at_node c.self.view_is c.self.invariant c.in-Fork.is in
    let few = rw c.deref-in-None.ensures at c.next_covering-step.ensures.few in
    let deeper = depth_below n.prefix _ n.low.root f.parts.low_root in
    omega (arith, few, deeper)

pub returns-in-Some-clause-covering : goal.returns-in-Some-clause-covering
returns-in-Some-clause-covering g t c =
    let n = c.in-Fork.node.value in
    let f = at_node c.self.view_is c.self.invariant c.in-Fork.is in
    let at = rw (c.in-Low.is, c.deref.ensures) at c.place_of.ensures in
    let value = rw c.deref-in-Low.ensures at c.in-Some.is in
    rw (c.deref-in-Some.ensures, c.deref-in-Some-2.ensures) (covering_low c.args.self.now n.prefix n.value n.low n.high f.entries f.parts c.args.key at ∙ ap (λ w. here n.prefix w ++ all_covering c.args.key n.low.entries) value)

pub returns-in-None-clause-covering : goal.returns-in-None-clause-covering
returns-in-None-clause-covering g t c =
    let n = c.in-Fork.node.value in
    let f = at_node c.self.view_is c.self.invariant c.in-Fork.is in
    let at = rw (c.in-Low.is, c.deref.ensures) at c.place_of.ensures in
    let value = rw c.deref-in-Low.ensures at c.in-None.is in
    let rest = rw c.deref-in-None.ensures at c.next_covering-step.ensures.covering in
    covering_low c.args.self.now n.prefix n.value n.low n.high f.entries f.parts c.args.key at ∙ ap (λ w. here n.prefix w ++ all_covering c.args.key n.low.entries) value ∙ rest

pub next_covering-step-requires-in-None-value : goal.next_covering-step-requires-in-None-value
next_covering-step-requires-in-None-value g t c κs within =
    let n = c.in-Fork.node.value in
    let f = at_node c.self.view_is c.self.invariant c.in-Fork.is in
    let is : 3 * (depth c.args.self.now.root + 1) + 0 ≡ t = c.decreases in
    let own : depth c.args.self.now.root ≡ depth (Some n.prefix) = ap depth f.root in
    let deeper = depth_below n.prefix _ n.high.root f.parts.high_root in
    let less : 3 * (depth c.deref-in-None-value.result.now.high.root + 1) + 0 < t = rw c.deref-in-None-value.ensures (omega (arith, is, own, deeper)) in
    (less, within)

pub overflow_add-result-in-None-value : goal.overflow_add-result-in-None-value
overflow_add-result-in-None-value g t c =
    let n = c.in-Fork.node.value in
    let f = at_node c.self.view_is c.self.invariant c.in-Fork.is in
    let few = rw c.deref-in-None-value.ensures at c.next_covering-step-in-None-value.ensures.few in
    let deeper = depth_below n.prefix _ n.high.root f.parts.high_root in
    omega (arith, few, deeper)

pub returns-in-Some-value-clause-covering : goal.returns-in-Some-value-clause-covering
returns-in-Some-value-clause-covering g t c =
    let n = c.in-Fork.node.value in
    let f = at_node c.self.view_is c.self.invariant c.in-Fork.is in
    let at = rw (c.in-High.is, c.deref.ensures) at c.place_of.ensures in
    let value = rw c.deref-in-High.ensures at c.in-Some-value.is in
    rw (c.deref-in-Some-value.ensures, c.deref-in-Some-value-2.ensures) (covering_high c.args.self.now n.prefix n.value n.low n.high f.entries f.parts c.args.key at ∙ ap (λ w. here n.prefix w ++ all_covering c.args.key n.high.entries) value)

pub returns-in-None-value-clause-covering : goal.returns-in-None-value-clause-covering
returns-in-None-value-clause-covering g t c =
    let n = c.in-Fork.node.value in
    let f = at_node c.self.view_is c.self.invariant c.in-Fork.is in
    let at = rw (c.in-High.is, c.deref.ensures) at c.place_of.ensures in
    let value = rw c.deref-in-High.ensures at c.in-None-value.is in
    let rest = rw c.deref-in-None-value.ensures at c.next_covering-step-in-None-value.ensures.covering in
    covering_high c.args.self.now n.prefix n.value n.low n.high f.entries f.parts c.args.key at ∙ ap (λ w. here n.prefix w ++ all_covering c.args.key n.high.entries) value ∙ rest

pub returns-in-Same-clause-covering : goal.returns-in-Same-clause-covering
returns-in-Same-clause-covering g t c =
    let n = c.in-Fork.node.value in
    let f = at_node c.self.view_is c.self.invariant c.in-Fork.is in
    let at = rw (c.in-Same.is, c.deref.ensures) at c.place_of.ensures in
    let own = rw c.deref-in-Same.ensures at c.entry.ensures in
    rw (at, own) (covering_same c.args.self.now n.prefix n.value n.low n.high f.entries f.parts ∙ sym (append-nil (here n.prefix n.value)))

pub returns-in-OverLow : goal.returns-in-OverLow
returns-in-OverLow g t c =
    let n = c.in-Fork.node.value in
    let f = at_node c.self.view_is c.self.invariant c.in-Fork.is in
    let stands = rw c.deref.ensures at c.place_of.ensures in
    let own : depth c.args.self.now.root ≡ depth (Some n.prefix) = ap depth f.root in
    let short = n.prefix.short in
    record {
      covering = covering_outside c.args.self.now n.prefix n.value n.low n.high f.entries f.parts c.args.key c.place_of.result stands c.in-OverLow.is;
      none = λ e. refl;
      nodes = towards_outside c.args.self.now n.prefix n.value n.low n.high f.entries f.parts c.args.key c.place_of.result stands c.in-OverLow.is;
      over = λ e. refl;
      few = omega (arith, own, short);
      counted = omega arith;
    }

pub returns-in-Some-clause-nodes : goal.returns-in-Some-clause-nodes
returns-in-Some-clause-nodes g t c =
    let n = c.in-Fork.node.value in
    let f = at_node c.self.view_is c.self.invariant c.in-Fork.is in
    let at = rw (c.in-Low.is, c.deref.ensures) at c.place_of.ensures in
    rw c.deref-in-Some-2.ensures (towards_low c.args.self.now n.prefix n.value n.low n.high f.entries f.parts c.args.key at)

pub returns-in-None-clause-nodes : goal.returns-in-None-clause-nodes
returns-in-None-clause-nodes g t c =
    let n = c.in-Fork.node.value in
    let f = at_node c.self.view_is c.self.invariant c.in-Fork.is in
    let at = rw (c.in-Low.is, c.deref.ensures) at c.place_of.ensures in
    let own = towards_low c.args.self.now n.prefix n.value n.low n.high f.entries f.parts c.args.key at in
    let rest = rw c.deref-in-None.ensures at c.next_covering-step.ensures.nodes in
    omega (arith, own, rest)

pub returns-in-Some-value-clause-nodes : goal.returns-in-Some-value-clause-nodes
returns-in-Some-value-clause-nodes g t c =
    let n = c.in-Fork.node.value in
    let f = at_node c.self.view_is c.self.invariant c.in-Fork.is in
    let at = rw (c.in-High.is, c.deref.ensures) at c.place_of.ensures in
    rw c.deref-in-Some-value-2.ensures (towards_high c.args.self.now n.prefix n.value n.low n.high f.entries f.parts c.args.key at)

pub returns-in-None-value-clause-nodes : goal.returns-in-None-value-clause-nodes
returns-in-None-value-clause-nodes g t c =
    let n = c.in-Fork.node.value in
    let f = at_node c.self.view_is c.self.invariant c.in-Fork.is in
    let at = rw (c.in-High.is, c.deref.ensures) at c.place_of.ensures in
    let own = towards_high c.args.self.now n.prefix n.value n.low n.high f.entries f.parts c.args.key at in
    let rest = rw c.deref-in-None-value.ensures at c.next_covering-step-in-None-value.ensures.nodes in
    omega (arith, own, rest)

pub returns-in-Same-clause-nodes : goal.returns-in-Same-clause-nodes
returns-in-Same-clause-nodes g t c =
    let n = c.in-Fork.node.value in
    let f = at_node c.self.view_is c.self.invariant c.in-Fork.is in
    let at = rw (c.in-Same.is, c.deref.ensures) at c.place_of.ensures in
    rw at (towards_same c.args.self.now n.prefix n.value n.low n.high f.entries f.parts)

pub returns-in_default-clause-nodes : goal.returns-in_default-clause-nodes
returns-in_default-clause-nodes g t c = towards_empty c.args.key c.self.inside.root c.args.self.now c.self.view_is c.in_default.not-Fork
