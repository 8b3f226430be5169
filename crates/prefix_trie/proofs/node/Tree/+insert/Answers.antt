use Rattle.std.proofs.Common.{ap, ◌∙◌}
use Rattle.prefix_trie.proofs.AtNode.{opened}
use Rattle.prefix_trie.proofs.Changes.{IsSeen, inserted_before, inserted_behind, inserted_here, inserted_high, inserted_low, inserted_over_high, inserted_over_low, parts_before, parts_behind, parts_here, parts_high, parts_low, parts_over_high, parts_over_low, seen_at}
use Rattle.prefix_trie.proofs.node.Tree.+insert.Goals as goal

pub gathered-requires : goal.gathered-requires
gathered-requires g t c =
    let n = c.in-Fork.node.value in
    let f = opened c.replace.result c.in-Fork.node c.in-Fork.ensures.same c.in-Fork.ensures.whole in
    rw (c.deref_mut.ensures.value, c.replace-before.ensures.after) (parts_here n.prefix n.value c.args.value n.low n.high f.parts)

pub returns-in-Same : goal.returns-in-Same
returns-in-Same g t c =
    let n = c.in-Fork.node.value in
    let f = opened c.replace.result c.in-Fork.node c.in-Fork.ensures.same c.in-Fork.ensures.whole in
    let seen = seen_at c.replace.result c.args.self.now n f c.replace.ensures.value in
    let at = rw (c.in-Same.is, c.deref.ensures) at c.place_of.ensures in
    let before = c.replace-before.ensures.value ∙ ap (λ m. m.value) c.deref_mut.ensures.value in
    let entries = rw (c.deref_mut.ensures.value, c.replace-before.ensures.after) at c.gathered.ensures.entries in
    let root = rw c.deref_mut.ensures.value at c.gathered.ensures.root in
    rw (before, at) (inserted_here c.args.self.now c.gathered.result n.prefix n.value n.low n.high seen f.parts c.args.value entries root)

pub gathered-requires-in-Low : goal.gathered-requires-in-Low
gathered-requires-in-Low g t c =
    let n = c.in-Fork.node.value in
    let f = opened c.replace.result c.in-Fork.node c.in-Fork.ensures.same c.in-Fork.ensures.whole in
    let at = rw (c.in-Low.is, c.deref.ensures) at c.place_of.ensures in
    let put = rw c.deref_mut-in-Low.ensures.value at c.insert-result.ensures in
    rw c.deref_mut-in-Low.ensures.value (parts_low c.insert-result.result n.prefix n.value c.args.key c.args.value n.low c.insert-result.new.self n.high f.parts at put)

pub returns-in-Low : goal.returns-in-Low
returns-in-Low g t c =
    let n = c.in-Fork.node.value in
    let f = opened c.replace.result c.in-Fork.node c.in-Fork.ensures.same c.in-Fork.ensures.whole in
    let seen = seen_at c.replace.result c.args.self.now n f c.replace.ensures.value in
    let at = rw (c.in-Low.is, c.deref.ensures) at c.place_of.ensures in
    let put = rw c.deref_mut-in-Low.ensures.value at c.insert-result.ensures in
    let entries = rw c.deref_mut-in-Low.ensures.value at c.gathered-in-Low.ensures.entries in
    let root = rw c.deref_mut-in-Low.ensures.value at c.gathered-in-Low.ensures.root in
    inserted_low c.args.self.now c.gathered-in-Low.result n.prefix n.value n.low n.high seen f.parts c.insert-result.result c.args.key c.args.value c.insert-result.new.self at put entries root

pub gathered-requires-in-High : goal.gathered-requires-in-High
gathered-requires-in-High g t c =
    let n = c.in-Fork.node.value in
    let f = opened c.replace.result c.in-Fork.node c.in-Fork.ensures.same c.in-Fork.ensures.whole in
    let at = rw (c.in-High.is, c.deref.ensures) at c.place_of.ensures in
    let put = rw c.deref_mut-in-High.ensures.value at c.insert-result-in-High.ensures in
    rw c.deref_mut-in-High.ensures.value (parts_high c.insert-result-in-High.result n.prefix n.value c.args.key c.args.value n.low n.high c.insert-result-in-High.new.self f.parts at put)

pub returns-in-High : goal.returns-in-High
returns-in-High g t c =
    let n = c.in-Fork.node.value in
    let f = opened c.replace.result c.in-Fork.node c.in-Fork.ensures.same c.in-Fork.ensures.whole in
    let seen = seen_at c.replace.result c.args.self.now n f c.replace.ensures.value in
    let at = rw (c.in-High.is, c.deref.ensures) at c.place_of.ensures in
    let put = rw c.deref_mut-in-High.ensures.value at c.insert-result-in-High.ensures in
    let entries = rw c.deref_mut-in-High.ensures.value at c.gathered-in-High.ensures.entries in
    let root = rw c.deref_mut-in-High.ensures.value at c.gathered-in-High.ensures.root in
    inserted_high c.args.self.now c.gathered-in-High.result n.prefix n.value n.low n.high seen f.parts c.insert-result-in-High.result c.args.key c.args.value c.insert-result-in-High.new.self at put entries root

pub put_over_low-requires : goal.put_over_low-requires
put_over_low-requires g t c =
    let n = c.in-Fork.node.value in
    let f = opened c.replace.result c.in-Fork.node c.in-Fork.ensures.same c.in-Fork.ensures.whole in
    let seen = seen_at c.replace.result c.args.self.now n f c.replace.ensures.value in
    let at = rw (c.in-OverLow.is, c.deref.ensures) at c.place_of.ensures in
    let again : IsSeen c.gathered-in-OverLow.result n.prefix n.value n.low n.high = record { entries = c.gathered-in-OverLow.ensures.entries; root = c.gathered-in-OverLow.ensures.root } in
    parts_over_low c.args.self.now c.gathered-in-OverLow.result n.prefix n.value n.low n.high seen again f.parts c.args.key c.args.value at

pub returns-in-OverLow : goal.returns-in-OverLow
returns-in-OverLow g t c =
    let n = c.in-Fork.node.value in
    let f = opened c.replace.result c.in-Fork.node c.in-Fork.ensures.same c.in-Fork.ensures.whole in
    let seen = seen_at c.replace.result c.args.self.now n f c.replace.ensures.value in
    let at = rw (c.in-OverLow.is, c.deref.ensures) at c.place_of.ensures in
    let again : IsSeen c.gathered-in-OverLow.result n.prefix n.value n.low n.high = record { entries = c.gathered-in-OverLow.ensures.entries; root = c.gathered-in-OverLow.ensures.root } in
    inserted_over_low c.args.self.now c.gathered-in-OverLow.result n.prefix n.value n.low n.high seen again f.parts c.put_over_low.result c.args.key c.args.value c.put_over_low.new.self at c.put_over_low.ensures

pub put_over_high-requires : goal.put_over_high-requires
put_over_high-requires g t c =
    let n = c.in-Fork.node.value in
    let f = opened c.replace.result c.in-Fork.node c.in-Fork.ensures.same c.in-Fork.ensures.whole in
    let seen = seen_at c.replace.result c.args.self.now n f c.replace.ensures.value in
    let at = rw (c.in-OverHigh.is, c.deref.ensures) at c.place_of.ensures in
    let again : IsSeen c.gathered-in-OverHigh.result n.prefix n.value n.low n.high = record { entries = c.gathered-in-OverHigh.ensures.entries; root = c.gathered-in-OverHigh.ensures.root } in
    parts_over_high c.args.self.now c.gathered-in-OverHigh.result n.prefix n.value n.low n.high seen again f.parts c.args.key c.args.value at

pub returns-in-OverHigh : goal.returns-in-OverHigh
returns-in-OverHigh g t c =
    let n = c.in-Fork.node.value in
    let f = opened c.replace.result c.in-Fork.node c.in-Fork.ensures.same c.in-Fork.ensures.whole in
    let seen = seen_at c.replace.result c.args.self.now n f c.replace.ensures.value in
    let at = rw (c.in-OverHigh.is, c.deref.ensures) at c.place_of.ensures in
    let again : IsSeen c.gathered-in-OverHigh.result n.prefix n.value n.low n.high = record { entries = c.gathered-in-OverHigh.ensures.entries; root = c.gathered-in-OverHigh.ensures.root } in
    inserted_over_high c.args.self.now c.gathered-in-OverHigh.result n.prefix n.value n.low n.high seen again f.parts c.put_over_high.result c.args.key c.args.value c.put_over_high.new.self at c.put_over_high.ensures

pub put_before-requires : goal.put_before-requires
put_before-requires g t c =
    let n = c.in-Fork.node.value in
    let f = opened c.replace.result c.in-Fork.node c.in-Fork.ensures.same c.in-Fork.ensures.whole in
    let seen = seen_at c.replace.result c.args.self.now n f c.replace.ensures.value in
    let at = rw (c.in-Before.is, c.deref.ensures) at c.place_of.ensures in
    let again : IsSeen c.gathered-in-Before.result n.prefix n.value n.low n.high = record { entries = c.gathered-in-Before.ensures.entries; root = c.gathered-in-Before.ensures.root } in
    let low = c.fork_of-fork.ensures.low in
    let high = rw c.deref-in-Before.ensures at c.fork_of-fork.ensures.high in
    parts_before c.args.self.now c.gathered-in-Before.result n.prefix n.value n.low n.high seen again f.parts c.args.key c.args.value c.fork_of-fork.result at low high

pub returns-in-Before : goal.returns-in-Before
returns-in-Before g t c =
    let n = c.in-Fork.node.value in
    let f = opened c.replace.result c.in-Fork.node c.in-Fork.ensures.same c.in-Fork.ensures.whole in
    let seen = seen_at c.replace.result c.args.self.now n f c.replace.ensures.value in
    let at = rw (c.in-Before.is, c.deref.ensures) at c.place_of.ensures in
    let again : IsSeen c.gathered-in-Before.result n.prefix n.value n.low n.high = record { entries = c.gathered-in-Before.ensures.entries; root = c.gathered-in-Before.ensures.root } in
    let low = c.fork_of-fork.ensures.low in
    let high = rw c.deref-in-Before.ensures at c.fork_of-fork.ensures.high in
    inserted_before c.args.self.now c.gathered-in-Before.result n.prefix n.value n.low n.high seen again f.parts c.put_before.result c.args.key c.args.value c.put_before.new.self c.fork_of-fork.result at low high c.put_before.ensures

pub put_behind-requires : goal.put_behind-requires
put_behind-requires g t c =
    let n = c.in-Fork.node.value in
    let f = opened c.replace.result c.in-Fork.node c.in-Fork.ensures.same c.in-Fork.ensures.whole in
    let seen = seen_at c.replace.result c.args.self.now n f c.replace.ensures.value in
    let at = rw (c.in-Behind.is, c.deref.ensures) at c.place_of.ensures in
    let again : IsSeen c.gathered-in-Behind.result n.prefix n.value n.low n.high = record { entries = c.gathered-in-Behind.ensures.entries; root = c.gathered-in-Behind.ensures.root } in
    let low = rw c.deref-in-Behind.ensures at c.fork_of-fork-in-Behind.ensures.low in
    let high = c.fork_of-fork-in-Behind.ensures.high in
    parts_behind c.args.self.now c.gathered-in-Behind.result n.prefix n.value n.low n.high seen again f.parts c.args.key c.args.value c.fork_of-fork-in-Behind.result at low high

pub returns-in-Behind : goal.returns-in-Behind
returns-in-Behind g t c =
    let n = c.in-Fork.node.value in
    let f = opened c.replace.result c.in-Fork.node c.in-Fork.ensures.same c.in-Fork.ensures.whole in
    let seen = seen_at c.replace.result c.args.self.now n f c.replace.ensures.value in
    let at = rw (c.in-Behind.is, c.deref.ensures) at c.place_of.ensures in
    let again : IsSeen c.gathered-in-Behind.result n.prefix n.value n.low n.high = record { entries = c.gathered-in-Behind.ensures.entries; root = c.gathered-in-Behind.ensures.root } in
    let low = rw c.deref-in-Behind.ensures at c.fork_of-fork-in-Behind.ensures.low in
    let high = c.fork_of-fork-in-Behind.ensures.high in
    inserted_behind c.args.self.now c.gathered-in-Behind.result n.prefix n.value n.low n.high seen again f.parts c.put_behind.result c.args.key c.args.value c.put_behind.new.self c.fork_of-fork-in-Behind.result at low high c.put_behind.ensures
