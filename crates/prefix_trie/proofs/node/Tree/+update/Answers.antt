use Rattle.std.specs.Fn.{FnOnceReturnsAtMut}
use Rattle.prefix_trie.proofs.AtNode.{found_outside, opened}
use Rattle.prefix_trie.proofs.Changes.{seen_at}
use Rattle.prefix_trie.proofs.Updates.{parts_changed, parts_high_updated, parts_low_updated, updated_here, updated_high, updated_low, updated_none}
use Rattle.prefix_trie.proofs.node.Tree.+update.Goals as goal

pub gathered-requires : goal.gathered-requires
gathered-requires g t c =
    let step = λ (v w : g.row.V.Denot). FnOnceReturnsAtMut g.F.FnOnce c.args.change v tt w in
    let n = c.in-Fork.node.value in
    let f = opened c.replace.result c.in-Fork.node c.in-Fork.ensures.same c.in-Fork.ensures.whole in
    let h = rw c.deref_mut.ensures.value at c.changed-updated.ensures in
    rw c.deref_mut.ensures.value (parts_changed step c.changed-updated.result n.prefix n.value c.changed-updated.new.value n.low n.high f.parts h)

pub returns-in-Same : goal.returns-in-Same
returns-in-Same g t c =
    let step = λ (v w : g.row.V.Denot). FnOnceReturnsAtMut g.F.FnOnce c.args.change v tt w in
    let n = c.in-Fork.node.value in
    let f = opened c.replace.result c.in-Fork.node c.in-Fork.ensures.same c.in-Fork.ensures.whole in
    let seen = seen_at c.replace.result c.args.self.now n f c.replace.ensures.value in
    let at = rw (c.in-Same.is, c.deref.ensures) at c.place_of.ensures in
    let h = rw c.deref_mut.ensures.value at c.changed-updated.ensures in
    let entries = rw c.deref_mut.ensures.value at c.gathered.ensures.entries in
    let root = rw c.deref_mut.ensures.value at c.gathered.ensures.root in
    rw at (updated_here step c.changed-updated.result c.args.self.now c.gathered.result n.prefix n.value c.changed-updated.new.value n.low n.high seen f.parts h entries root)

pub gathered-requires-in-Low : goal.gathered-requires-in-Low
gathered-requires-in-Low g t c =
    let step = λ (v w : g.row.V.Denot). FnOnceReturnsAtMut g.F.FnOnce c.args.change v tt w in
    let n = c.in-Fork.node.value in
    let f = opened c.replace.result c.in-Fork.node c.in-Fork.ensures.same c.in-Fork.ensures.whole in
    let at = rw (c.in-Low.is, c.deref.ensures) at c.place_of.ensures in
    let u = rw c.deref_mut-in-Low.ensures.value at c.update-updated.ensures in
    rw c.deref_mut-in-Low.ensures.value (parts_low_updated step c.update-updated.result n.prefix n.value c.args.key n.low c.update-updated.new.self n.high f.parts at u)

pub returns-in-Low : goal.returns-in-Low
returns-in-Low g t c =
    let step = λ (v w : g.row.V.Denot). FnOnceReturnsAtMut g.F.FnOnce c.args.change v tt w in
    let n = c.in-Fork.node.value in
    let f = opened c.replace.result c.in-Fork.node c.in-Fork.ensures.same c.in-Fork.ensures.whole in
    let seen = seen_at c.replace.result c.args.self.now n f c.replace.ensures.value in
    let at = rw (c.in-Low.is, c.deref.ensures) at c.place_of.ensures in
    let u = rw c.deref_mut-in-Low.ensures.value at c.update-updated.ensures in
    let entries = rw c.deref_mut-in-Low.ensures.value at c.gathered-in-Low.ensures.entries in
    let root = rw c.deref_mut-in-Low.ensures.value at c.gathered-in-Low.ensures.root in
    updated_low step c.update-updated.result c.args.self.now c.gathered-in-Low.result n.prefix n.value n.low n.high seen f.parts c.args.key c.update-updated.new.self at u entries root

pub gathered-requires-in-High : goal.gathered-requires-in-High
gathered-requires-in-High g t c =
    let step = λ (v w : g.row.V.Denot). FnOnceReturnsAtMut g.F.FnOnce c.args.change v tt w in
    let n = c.in-Fork.node.value in
    let f = opened c.replace.result c.in-Fork.node c.in-Fork.ensures.same c.in-Fork.ensures.whole in
    let at = rw (c.in-High.is, c.deref.ensures) at c.place_of.ensures in
    let u = rw c.deref_mut-in-High.ensures.value at c.update-updated-in-High.ensures in
    rw c.deref_mut-in-High.ensures.value (parts_high_updated step c.update-updated-in-High.result n.prefix n.value c.args.key n.low n.high c.update-updated-in-High.new.self f.parts at u)

pub returns-in-High : goal.returns-in-High
returns-in-High g t c =
    let step = λ (v w : g.row.V.Denot). FnOnceReturnsAtMut g.F.FnOnce c.args.change v tt w in
    let n = c.in-Fork.node.value in
    let f = opened c.replace.result c.in-Fork.node c.in-Fork.ensures.same c.in-Fork.ensures.whole in
    let seen = seen_at c.replace.result c.args.self.now n f c.replace.ensures.value in
    let at = rw (c.in-High.is, c.deref.ensures) at c.place_of.ensures in
    let u = rw c.deref_mut-in-High.ensures.value at c.update-updated-in-High.ensures in
    let entries = rw c.deref_mut-in-High.ensures.value at c.gathered-in-High.ensures.entries in
    let root = rw c.deref_mut-in-High.ensures.value at c.gathered-in-High.ensures.root in
    updated_high step c.update-updated-in-High.result c.args.self.now c.gathered-in-High.result n.prefix n.value n.low n.high seen f.parts c.args.key c.update-updated-in-High.new.self at u entries root

pub returns-in-OverLow : goal.returns-in-OverLow
returns-in-OverLow g t c =
    let step = λ (v w : g.row.V.Denot). FnOnceReturnsAtMut g.F.FnOnce c.args.change v tt w in
    let n = c.in-Fork.node.value in
    let f = opened c.replace.result c.in-Fork.node c.in-Fork.ensures.same c.in-Fork.ensures.whole in
    let seen = seen_at c.replace.result c.args.self.now n f c.replace.ensures.value in
    let stands = rw c.deref.ensures at c.place_of.ensures in
    updated_none step c.args.self.now c.gathered-in-OverLow.result n.prefix n.value n.low n.high seen c.args.key c.gathered-in-OverLow.ensures.entries c.gathered-in-OverLow.ensures.root (found_outside n.prefix n.value n.low n.high f.parts c.args.key c.place_of.result stands c.in-OverLow.is)
