use Rattle.std.proofs.Common.{List, true, sym, ap, subst, ◌∙◌}
use Rattle.std.specs.List.Sorted.{IsStrictlySortedBy}
use Rattle.std.specs.Map.{keys_of}
use Rattle.std.specs.Set.{sorted_merge}
use Rattle.net_prefix.specs.PrefixOrder.{prefix_cmp}
use Rattle.net_prefix.specs.declared.prefix.Prefix.{Prefix}
use Rattle.rib_out.proofs.HeldTables.{keys_of-octets_of}
use Rattle.routing.specs.Waiting.{first_of}
use Rattle.routing.proofs.MergedPrefixes.{merged_rises}
use Rattle.routing.proofs.waiting.KnownPrefixes.new.Goals as goal

pub returns-clause-all : goal.returns-clause-all
returns-clause-all g c = λ i.
    sorted_merge prefix_cmp true ((sym c.next_best.ensures ∙ ap keys_of c.rows-later_best.ensures.all) i)
    ((sym c.next_held.ensures ∙ ap keys_of c.held-later_held.ensures.all ∙ keys_of-octets_of c.args.adj_out.now) i)

pub returns-clause-rising : goal.returns-clause-rising
returns-clause-rising g c =
    let P : List Prefix → Type 0 = λ xs. IsStrictlySortedBy prefix_cmp xs in
    let best : P (keys_of c.rows-later_best.result) = c.rows-later_best.ensures.rising in
    let held : P (keys_of c.held-later_held.result) = c.held-later_held.ensures.rising in
    merged_rises (first_of c.next_best.result (keys_of c.next_best.new.routes)) (first_of c.next_held.result (keys_of c.next_held.new.routes))
    (subst P c.next_best.ensures best) (subst P c.next_held.ensures held)
