use Rattle.std.proofs.Common.{◌≡◌, true, ap, sym, ◌∙◌}
use Rattle.std.specs.BTreeMap.{insert_entry}
use Rattle.std.specs.Option.{is_some}
use Rattle.std.specs.Ordering.{nat_cmp}
use Rattle.std.specs.Result.{is_ok}
use Rattle.decision.proofs.NewPlaces.{kept_added}
use Rattle.decision.specs.BookContents.{is_placed}
use Rattle.rib_rows.proofs.RowSteps.{offer_made, place_made, place_there, row_put}
use Rattle.rib_rows.specs.PrefixRows.{IsRow}
use Rattle.rib_in.proofs.RouteLists.{one_announced, other_announced}
use Rattle.rib_in.specs.LatestRoutes.{route_in}
use Rattle.rib_in.specs.PrefixRoutes.{IsAnnounced, with_first}
use Rattle.rib_rows.proofs.row.Row.put.Given.{Over}
use Rattle.rib_rows.proofs.row.Row.put.Goals as goal

replaced : (g : Over) (c : goal.In_default g) → IsAnnounced c.args.slot c.args.attrs.value c.self.inside.routes c.replace.new.self
replaced g c =
    let has : is_some (route_in c.self.inside.routes c.args.slot) ≡ true = sym c.replace.ensures.there ∙ ap is_ok c.in_default.is in
    rw c.replace.ensures.new (other_announced c.args.slot c.args.attrs.value c.self.inside.routes has)

replaced_row : (g : Over) (c : goal.In_default g) → IsRow (record { routes = c.replace.new.self; kept = g.B.Book.kept c.self.inside.book })
replaced_row g c =
    let has : is_some (route_in c.self.inside.routes c.args.slot) ≡ true = sym c.replace.ensures.there ∙ ap is_ok c.in_default.is in
    let there : is_placed (g.B.Book.kept c.self.inside.book).places c.args.slot ≡ true = c.self.invariant.placed c.args.slot ∙ has in
    row_put c.args.slot c.args.attrs.value (record { routes = c.self.inside.routes; kept = g.B.Book.kept c.self.inside.book }) (record { routes = c.replace.new.self; kept = g.B.Book.kept c.self.inside.book })
    c.self.invariant (replaced g c) c.self.invariant.kept (place_there c.args.slot (g.B.Book.kept c.self.inside.book).places there)

pub invariant_of-self : goal.invariant_of-self
invariant_of-self g c = replaced_row g c

pub returns-in_default-clause-ok : goal.returns-in_default-clause-ok
returns-in_default-clause-ok g c = rw (← c.self.view_is) (replaced g c)

pub returns-in_default-clause-row : goal.returns-in_default-clause-row
returns-in_default-clause-row g c = replaced_row g c

announced : (g : Over) (c : goal.After-put g) → IsAnnounced c.args.slot c.args.attrs.value c.self.inside.routes c.put.new.self
announced g c =
    let is : c.put.new.self ≡ insert_entry nat_cmp c.self.inside.routes c.args.slot c.args.attrs.value =
    c.put.ensures ∙ ap (λ first. with_first c.replace.new.self first) c.in_ok-route.ensures
    ∙ ap (λ l. insert_entry nat_cmp l c.args.slot c.in-Err.attrs.value) c.in-Err.ensures.err ∙ ap (insert_entry nat_cmp c.self.inside.routes c.args.slot) c.in-Err.ensures.back in
    rw is (one_announced c.args.slot c.args.attrs.value c.self.inside.routes)

announced_row : (g : Over) (c : goal.After-put g) → IsRow (record { routes = c.put.new.self; kept = g.B.Book.kept c.add.new.self })
announced_row g c =
    row_put c.args.slot c.args.attrs.value (record { routes = c.self.inside.routes; kept = g.B.Book.kept c.self.inside.book }) (record { routes = c.put.new.self; kept = g.B.Book.kept c.add.new.self })
    c.self.invariant (announced g c)
    (kept_added (is_ok c.add.result) c.args.slot (g.B.Book.kept c.self.inside.book) (g.B.Book.kept c.add.new.self) c.self.invariant.kept c.add.ensures.places c.add.ensures.best c.add.ensures.few)
    (place_made (is_ok c.add.result) c.args.slot (g.B.Book.kept c.self.inside.book).places (g.B.Book.kept c.add.new.self).places (ap is_ok c.in_ok-add.was) c.add.ensures.places)

pub invariant_of-self-2 : goal.invariant_of-self-2
invariant_of-self-2 g c = announced_row g c

pub returns-clause-ok : goal.returns-clause-ok
returns-clause-ok g c = rw (← c.self.view_is) (announced g c)

pub returns-clause-offers : goal.returns-clause-offers
returns-clause-offers g c = rw (← c.self.view_is) (offer_made _ c.args.slot (g.B.Book.kept c.self.inside.book).places (g.B.Book.kept c.add.new.self).places c.add.ensures.places)

pub returns-clause-row : goal.returns-clause-row
returns-clause-row g c = announced_row g c
