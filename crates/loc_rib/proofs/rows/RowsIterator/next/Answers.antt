use Rattle.std.proofs.Common.{◌<◌, length, arith, rules, sym, ap, ◌∙◌}
use Rattle.decision.specs.BookContents.{rows_of}
use Rattle.prefix_trie.specs.TrieWalks.{all_above, all_after}
use Rattle.loc_rib.proofs.RowWalks.{row_none, row_some}
use Rattle.loc_rib.proofs.rows.RowsIterator.next.Goals as goal

pub returns-in-Some-clause-steps : goal.returns-in-Some-clause-steps
returns-in-Some-clause-steps g c =
    rw (c.in-Some.is, ← c.self.view_is) (row_some c.self.inside.after (rows_of c.self.inside.ribs.now.book) _ c.is_chosen.ensures.rising (sym c.in-Some.is ∙ c.row_after-row.ensures))

pub returns-in-Some-clause-goes : goal.returns-in-Some-clause-goes
returns-in-Some-clause-goes g c =
    let more = row_some c.self.inside.after (rows_of c.self.inside.ribs.now.book) _ c.is_chosen.ensures.rising (sym c.in-Some.is ∙ c.row_after-row.ensures) in
    let fewer : length (all_above c.in-Some.prefix (rows_of c.self.inside.ribs.now.book)) < length (all_after c.self.inside.after (rows_of c.self.inside.ribs.now.book)) = omega (arith, ap length more) in
    rw (c.in-Some.is, ← c.self.view_is) (search (rules, fewer))

pub returns-in_default-clause-steps : goal.returns-in_default-clause-steps
returns-in_default-clause-steps g c =
    let none = row_none c.self.inside.after (rows_of c.self.inside.ribs.now.book) (sym c.in_default.is ∙ c.row_after-row.ensures) in
    rw (c.in_default.is, ← c.self.view_is) (none, none)
