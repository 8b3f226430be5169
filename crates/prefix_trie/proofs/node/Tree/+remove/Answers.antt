use Rattle.std.proofs.Common.{ap, ◌∙◌}
use Rattle.prefix_trie.proofs.AtNode.{found_outside, opened}
use Rattle.prefix_trie.proofs.Changes.{removed_here, removed_high, removed_low, removed_none, seen_at, sides_here, sides_high, sides_low}
use Rattle.prefix_trie.proofs.node.Tree.+remove.Goals as goal

pub mended-requires : goal.mended-requires
mended-requires g t c =
    let n = c.in-Fork.node.value in
    let f = opened c.replace.result c.in-Fork.node c.in-Fork.ensures.same c.in-Fork.ensures.whole in
    let seen = seen_at c.replace.result c.args.self.now n f c.replace.ensures.value in
    rw (c.deref_mut.ensures.value, c.take-removed.ensures.after) (sides_here c.args.self.now n.prefix n.value n.low n.high seen f.parts)

pub mended-requires-in-Low : goal.mended-requires-in-Low
mended-requires-in-Low g t c =
    let n = c.in-Fork.node.value in
    let f = opened c.replace.result c.in-Fork.node c.in-Fork.ensures.same c.in-Fork.ensures.whole in
    let seen = seen_at c.replace.result c.args.self.now n f c.replace.ensures.value in
    let at = rw (c.in-Low.is, c.deref.ensures) at c.place_of.ensures in
    let out = rw c.deref_mut-in-Low.ensures.value at c.remove-removed.ensures in
    rw c.deref_mut-in-Low.ensures.value (sides_low c.args.self.now n.prefix n.value n.low n.high seen f.parts c.remove-removed.result c.args.key c.remove-removed.new.self at out)

pub mended-requires-in-High : goal.mended-requires-in-High
mended-requires-in-High g t c =
    let n = c.in-Fork.node.value in
    let f = opened c.replace.result c.in-Fork.node c.in-Fork.ensures.same c.in-Fork.ensures.whole in
    let seen = seen_at c.replace.result c.args.self.now n f c.replace.ensures.value in
    let at = rw (c.in-High.is, c.deref.ensures) at c.place_of.ensures in
    let out = rw c.deref_mut-in-High.ensures.value at c.remove-removed-in-High.ensures in
    rw c.deref_mut-in-High.ensures.value (sides_high c.args.self.now n.prefix n.value n.low n.high seen f.parts c.remove-removed-in-High.result c.args.key c.remove-removed-in-High.new.self at out)

pub returns-in-Same : goal.returns-in-Same
returns-in-Same g t c =
    let n = c.in-Fork.node.value in
    let f = opened c.replace.result c.in-Fork.node c.in-Fork.ensures.same c.in-Fork.ensures.whole in
    let seen = seen_at c.replace.result c.args.self.now n f c.replace.ensures.value in
    let at = rw (c.in-Same.is, c.deref.ensures) at c.place_of.ensures in
    let was = c.take-removed.ensures.value ∙ ap (λ m. m.value) c.deref_mut.ensures.value in
    let mended = rw (c.deref_mut.ensures.value, c.take-removed.ensures.after) at c.mended.ensures in
    rw (was, at) (removed_here c.args.self.now n.prefix n.value n.low n.high seen f.parts c.mended.result mended.inside mended.entries)

pub returns-in-Low : goal.returns-in-Low
returns-in-Low g t c =
    let n = c.in-Fork.node.value in
    let f = opened c.replace.result c.in-Fork.node c.in-Fork.ensures.same c.in-Fork.ensures.whole in
    let seen = seen_at c.replace.result c.args.self.now n f c.replace.ensures.value in
    let at = rw (c.in-Low.is, c.deref.ensures) at c.place_of.ensures in
    let out = rw c.deref_mut-in-Low.ensures.value at c.remove-removed.ensures in
    let mended = rw c.deref_mut-in-Low.ensures.value at c.mended-in-Low.ensures in
    removed_low c.args.self.now n.prefix n.value n.low n.high seen f.parts c.mended-in-Low.result mended.inside c.remove-removed.result c.args.key c.remove-removed.new.self at out mended.entries

pub returns-in-High : goal.returns-in-High
returns-in-High g t c =
    let n = c.in-Fork.node.value in
    let f = opened c.replace.result c.in-Fork.node c.in-Fork.ensures.same c.in-Fork.ensures.whole in
    let seen = seen_at c.replace.result c.args.self.now n f c.replace.ensures.value in
    let at = rw (c.in-High.is, c.deref.ensures) at c.place_of.ensures in
    let out = rw c.deref_mut-in-High.ensures.value at c.remove-removed-in-High.ensures in
    let mended = rw c.deref_mut-in-High.ensures.value at c.mended-in-High.ensures in
    removed_high c.args.self.now n.prefix n.value n.low n.high seen f.parts c.mended-in-High.result mended.inside c.remove-removed-in-High.result c.args.key c.remove-removed-in-High.new.self at out mended.entries

pub returns-in-OverLow : goal.returns-in-OverLow
returns-in-OverLow g t c =
    let n = c.in-Fork.node.value in
    let f = opened c.replace.result c.in-Fork.node c.in-Fork.ensures.same c.in-Fork.ensures.whole in
    let seen = seen_at c.replace.result c.args.self.now n f c.replace.ensures.value in
    let stands = rw c.deref.ensures at c.place_of.ensures in
    removed_none c.args.self.now c.gathered.result n.prefix n.value n.low n.high seen c.args.key c.gathered.ensures.entries c.gathered.ensures.root (found_outside n.prefix n.value n.low n.high f.parts c.args.key c.place_of.result stands c.in-OverLow.is)
