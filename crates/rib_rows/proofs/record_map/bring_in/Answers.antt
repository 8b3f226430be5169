use Rattle.std.proofs.Common.{◌≡◌, ◌==◌, if◌then◌else◌, Option, None, Some, false, option_map, option_and_then, ap, sym, subst, ◌∙◌}
use Rattle.std.specs.Option.{IfSome, IsSome, option_copied_mut}
use Rattle.prefix_table.specs.Tables.{IsPut}
use Rattle.prefix_trie.specs.TrieMap.{found}
use Rattle.holdings.specs.Holdings.{holds_any}
use Rattle.rib_rows.proofs.RecordTables.{best_picked, record_brought, record_found, record_routed, records_put, row_found, row_lacking, row_others, row_there, same_put, same_read, same_sent, sent_none, sent_same, through_lent}
use Rattle.rib_rows.proofs.RowSteps.{always_err, first_offers, first_routes, row_first, some_there, through_back, through_brought, through_err}
use Rattle.rib_rows.specs.PrefixRows.{IsRow, PrefixRow, best_of, first_route, offer_of, route_of}
use Rattle.rib_rows.specs.Records.{PrefixRecord, routed, sent_in}
use Rattle.rib_rows.proofs.record_map.bring_in.Given.{Over}
use Rattle.rib_rows.proofs.record_map.bring_in.Goals as goal
use Rattle.rib_rows.proofs.record_map.bring_in.Goals.{After-rows-in-Some-1, In_ok-insert}

-- where there is a record
written : (g : Over) (c : After-rows-in-Some-1 g) → IsPut c.args.rows.now.entries (c.get_mut.follows.lender c.bring.new.self).entries c.args.prefix (Some c.bring.new.self)
written g c = through_lent c.get_mut.result c.in-Some.record _ c.in-Some.is (c.get_mut.follows.holds c.bring.new.self)

had : (g : Over) (c : After-rows-in-Some-1 g) → found c.args.rows.now.entries c.args.prefix ≡ Some c.in-Some.record.now
had g c = sym c.get_mut.ensures.value ∙ ap option_copied_mut c.in-Some.is

there : (g : Over) (c : After-rows-in-Some-1 g) → found (routed c.args.rows.now.entries) c.args.prefix ≡ c.in-Some.record.now.row
there g c = row_there c.args.rows.now.entries c.args.prefix c.in-Some.record.now c.requires.0 (had g c)

pub returns-in-Some-clause-rows : goal.returns-in-Some-clause-rows
returns-in-Some-clause-rows g c =
    records_put (written g c) c.requires
    (record_brought c.bring.result c.in-Some.record.now c.bring.new.self (through_brought c.bring.result _ _ c.bring.ensures.brought (λ is. is.1))
    (through_back c.bring.result _ (λ _. c.bring.new.self ≡ c.in-Some.record.now) c.bring.ensures.back (λ other is. is.0)) c.bring.ensures.err
    (record_found c.args.rows.now.entries c.args.prefix c.in-Some.record.now c.requires (had g c)) c.bring.ensures.row c.bring.ensures.sent)

pub returns-in-Some-clause-others : goal.returns-in-Some-clause-others
returns-in-Some-clause-others g c = row_others (written g c)

pub returns-in-Some-clause-brought : goal.returns-in-Some-clause-brought
returns-in-Some-clause-brought g c =
    through_brought c.bring.result _ _ c.bring.ensures.brought
    (λ is. (
      ap (λ (o : Option PrefixRow). route_of o c.args.slot) (there g c) ∙ is.0,
      λ s. ap (λ o. route_of o s) (row_found (written g c)) ∙ is.2 s ∙ ap (λ o. if c.args.slot == s then Some c.args.attrs.value else route_of o s) (sym (there g c)),
    ))

pub returns-in-Some-clause-back : goal.returns-in-Some-clause-back
returns-in-Some-clause-back g c =
    through_back c.bring.result _ _ c.bring.ensures.back
    (λ other is. (
      same_put (written g c) (ap (λ r. Some r) is.0 ∙ sym (had g c)),
      is.1,
      subst (λ (o : Option PrefixRow). IsSome (route_of o c.args.slot)) (sym (there g c)) is.2,
    ))

pub returns-in-Some-clause-offers : goal.returns-in-Some-clause-offers
returns-in-Some-clause-offers g c = λ s. ap (λ o. offer_of o s) (row_found (written g c)) ∙ c.bring.ensures.offers s ∙ ap (λ o. offer_of o s) (sym (there g c))

pub returns-in-Some-clause-best : goal.returns-in-Some-clause-best
returns-in-Some-clause-best g c =
    best_picked (c.get_mut.follows.lender c.bring.new.self).entries
    ∙ same_read (written g c) (λ (r : PrefixRecord). best_of r.row) (c.bring.ensures.best ∙ ap (option_and_then (λ (r : PrefixRecord). best_of r.row)) (sym (had g c)))
    ∙ sym (best_picked c.args.rows.now.entries)

pub returns-in-Some-clause-err : goal.returns-in-Some-clause-err
returns-in-Some-clause-err g c = through_err c.bring.result _ _ c.bring.ensures.err (λ same. same_put (written g c) (ap (λ r. Some r) same ∙ sym (had g c)))

pub returns-in-Some-clause-lacked : goal.returns-in-Some-clause-lacked
returns-in-Some-clause-lacked g c =
    through_err c.bring.result _ _ c.bring.ensures.lacked (λ none. ap (λ (o : Option PrefixRow). route_of o c.args.slot) (there g c) ∙ none)

pub returns-in-Some-clause-sent : goal.returns-in-Some-clause-sent
returns-in-Some-clause-sent g c =
    same_sent (written g c) (sent_same c.in-Some.record.now c.bring.new.self c.bring.ensures.sent ∙ ap (option_and_then sent_in) (sym (had g c)))

-- where there was none
lacking : (g : Over) (c : In_ok-insert g) → found c.args.rows.now.entries c.args.prefix ≡ None
lacking g c = sym c.get_mut.ensures.value ∙ ap option_copied_mut c.in_default.is

lacked : (g : Over) (c : In_ok-insert g) → found (routed c.args.rows.now.entries) c.args.prefix ≡ None
lacked g c = row_lacking c.args.rows.now.entries c.args.prefix c.requires.0 (lacking g c)

fresh : (g : Over) (c : In_ok-insert g) → c.in_ok-record.record.row ≡ Some (first_route c.args.slot c.args.attrs.value)
fresh g c = c.in_ok-record.ensures.row

begun : (g : Over) (c : In_ok-insert g)
    → IsPut c.args.rows.now.entries c.insert.new.self.entries c.args.prefix (Some c.in_ok-record.record)
begun g c = subst (λ es. IsPut es c.insert.new.self.entries c.args.prefix (Some c.in_ok-record.record)) c.get_mut.follows.holds-at-none c.in_ok-insert.ensures.put

pub returns-clause-rows : goal.returns-clause-rows
returns-clause-rows g c =
    records_put (begun g c) c.requires
    (record_routed c.in_ok-record.record (subst (λ o. IfSome o IsRow) (sym (fresh g c)) (row_first c.args.slot c.args.attrs.value))
    (some_there c.in_ok-record.record.row (first_route c.args.slot c.args.attrs.value) (fresh g c)) c.in_ok-record.ensures.compact)

pub returns-clause-others : goal.returns-clause-others
returns-clause-others g c = row_others (begun g c)

pub returns-clause-brought : goal.returns-clause-brought
returns-clause-brought g c = (
  ap (λ (o : Option PrefixRow). route_of o c.args.slot) (lacked g c),
  λ s. ap (λ o. route_of o s) (row_found (begun g c))
      ∙ first_routes c.args.slot c.args.attrs.value c.in_ok-record.record.row (found (routed c.args.rows.now.entries) c.args.prefix)
      (ap (option_map (λ (r : PrefixRow). r.routes)) (fresh g c)) (lacked g c) s,
)

pub returns-clause-offers : goal.returns-clause-offers
returns-clause-offers g c = λ s.
    ap (λ o. offer_of o s) (row_found (begun g c))
    ∙ first_offers c.args.slot c.args.attrs.value c.in_ok-record.record.row (found (routed c.args.rows.now.entries) c.args.prefix) (fresh g c) (lacked g c) s

pub returns-clause-best : goal.returns-clause-best
returns-clause-best g c =
    best_picked c.insert.new.self.entries
    ∙ same_read (begun g c) (λ (r : PrefixRecord). best_of r.row) (ap best_of (fresh g c) ∙ ap (option_and_then (λ (r : PrefixRecord). best_of r.row)) (sym (lacking g c)))
    ∙ sym (best_picked c.args.rows.now.entries)

pub returns-clause-sent : goal.returns-clause-sent
returns-clause-sent g c =
    let unheld : holds_any c.in_ok-record.record.sent ≡ false = c.in_ok-record.ensures.sent in
    same_sent (begun g c) (sent_none c.in_ok-record.record unheld ∙ ap (option_and_then sent_in) (sym (lacking g c)))

pub returns-in_err-record-clause-lacked : goal.returns-in_err-record-clause-lacked
returns-in_err-record-clause-lacked g c =
    let none : found c.args.rows.now.entries c.args.prefix ≡ None = sym c.get_mut.ensures.value ∙ ap option_copied_mut c.in_default.is in
    always_err c.from_residual.result _ (ap (λ (o : Option PrefixRow). route_of o c.args.slot) (row_lacking c.args.rows.now.entries c.args.prefix c.requires.0 none))

pub returns-in_err-insert-clause-lacked : goal.returns-in_err-insert-clause-lacked
returns-in_err-insert-clause-lacked g c =
    let none : found c.args.rows.now.entries c.args.prefix ≡ None = sym c.get_mut.ensures.value ∙ ap option_copied_mut c.in_default.is in
    always_err c.from_residual-in_err-insert.result _ (ap (λ (o : Option PrefixRow). route_of o c.args.slot) (row_lacking c.args.rows.now.entries c.args.prefix c.requires.0 none))
