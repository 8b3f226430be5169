use Rattle.std.proofs.Common.{◌≡◌, ◌==◌, if◌then◌else◌, Option, None, Some, false, option_map, option_and_then, ap, sym, subst, ◌∙◌}
use Rattle.std.specs.Option.{option_copied_mut}
use Rattle.decision.specs.BookContents.{AreApart}
use Rattle.prefix_table.specs.Tables.{IsPut}
use Rattle.prefix_trie.specs.TrieMap.{found}
use Rattle.holdings.specs.Bounded.{IsCompact}
use Rattle.holdings.specs.Holdings.{holds_any}
use Rattle.rib_rows.proofs.RecordTables.{compact_same, now_found, put_twice, record_after, record_found, record_routed, records_put, row_found, row_lacking, row_others, row_there, same_put, same_sent, sent_none, sent_same, through_lent}
use Rattle.rib_rows.proofs.RowSteps.{always_err, apart_same, first_offers, first_routes, row_kept, through_err, through_ok}
use Rattle.rib_rows.specs.PrefixRows.{PrefixRow, best_of, first_route, offer_of, route_of}
use Rattle.rib_rows.specs.Records.{PrefixRecord, routed, sent_in}
use Rattle.rib_rows.proofs.record_map.announce_in.Given.{Over}
use Rattle.rib_rows.proofs.record_map.announce_in.Goals as goal
use Rattle.rib_rows.proofs.record_map.announce_in.Goals.{After-rows-in-Some-1, After-rows-in-Some-get_mut-1}

pub announce-requires-clause-apart : goal.announce-requires-clause-apart
announce-requires-clause-apart g c =
    let had : found c.args.rows.now.entries c.args.prefix ≡ Some c.in-Some.record.now = sym c.get_mut.ensures.value ∙ ap option_copied_mut c.in-Some.is in
    subst (λ o. AreApart (λ s. if c.args.slot == s then c.args.candidate else offer_of o s)) (row_there c.args.rows.now.entries c.args.prefix c.in-Some.record.now c.requires.rows.0 had) c.requires.apart

-- where there is a record
written : (g : Over) (c : After-rows-in-Some-1 g) → IsPut c.args.rows.now.entries (c.get_mut.follows.lender c.announce.new.self).entries c.args.prefix (Some c.announce.new.self)
written g c = through_lent c.get_mut.result c.in-Some.record _ c.in-Some.is (c.get_mut.follows.holds c.announce.new.self)

had : (g : Over) (c : After-rows-in-Some-1 g) → found c.args.rows.now.entries c.args.prefix ≡ Some c.in-Some.record.now
had g c = sym c.get_mut.ensures.value ∙ ap option_copied_mut c.in-Some.is

there : (g : Over) (c : After-rows-in-Some-1 g) → found (routed c.args.rows.now.entries) c.args.prefix ≡ c.in-Some.record.now.row
there g c = row_there c.args.rows.now.entries c.args.prefix c.in-Some.record.now c.requires.rows.0 (had g c)

pub returns-in-Some-clause-rows : goal.returns-in-Some-clause-rows
returns-in-Some-clause-rows g c =
    records_put (written g c) c.requires.rows
    (record_after c.announce.result _ _ c.in-Some.record.now c.announce.new.self c.announce.ensures.routes c.announce.ensures.err
    (record_found c.args.rows.now.entries c.args.prefix c.in-Some.record.now c.requires.rows (had g c)) c.announce.ensures.row c.announce.ensures.sent)

pub returns-in-Some-clause-others : goal.returns-in-Some-clause-others
returns-in-Some-clause-others g c = row_others (written g c)

pub returns-in-Some-clause-routes : goal.returns-in-Some-clause-routes
returns-in-Some-clause-routes g c =
    through_ok c.announce.result _ _ c.announce.ensures.routes
    (λ is s. ap (λ o. route_of o s) (row_found (written g c)) ∙ is.1 s ∙ ap (λ o. if c.args.slot == s then Some c.args.attrs.value else route_of o s) (sym (there g c)))

pub returns-in-Some-clause-offers : goal.returns-in-Some-clause-offers
returns-in-Some-clause-offers g c =
    through_ok c.announce.result _ _ c.announce.ensures.offers
    (λ is s. ap (λ o. offer_of o s) (row_found (written g c)) ∙ is s ∙ ap (λ o. if c.args.slot == s then c.args.candidate else offer_of o s) (sym (there g c)))

pub returns-in-Some-clause-err : goal.returns-in-Some-clause-err
returns-in-Some-clause-err g c =
    through_err c.announce.result _ _ c.announce.ensures.err (λ same. (same_put (written g c) (ap (λ r. Some r) same.0 ∙ sym (had g c)), same.1))

pub returns-in-Some-clause-absent : goal.returns-in-Some-clause-absent
returns-in-Some-clause-absent g c =
    through_err c.announce.result _ _ c.announce.ensures.absent (λ none. ap (λ (o : Option PrefixRow). route_of o c.args.slot) (there g c) ∙ none)

pub returns-in-Some-clause-another : goal.returns-in-Some-clause-another
returns-in-Some-clause-another g c = λ another.
    c.announce.ensures.another (λ same. another (ap best_of (row_found (written g c)) ∙ same ∙ ap best_of (sym (there g c))))

pub returns-in-Some-clause-same : goal.returns-in-Some-clause-same
returns-in-Some-clause-same g c = λ same. c.announce.ensures.same (ap (λ (o : Option PrefixRow). offer_of o c.args.slot) (sym (there g c)) ∙ same)

pub returns-in-Some-clause-made : goal.returns-in-Some-clause-made
returns-in-Some-clause-made g c =
    through_ok c.announce.result _ _ c.announce.ensures.made (λ counts another. counts (λ same. another (ap (λ (o : Option PrefixRow). offer_of o c.args.slot) (there g c) ∙ same)))

pub returns-in-Some-clause-sent : goal.returns-in-Some-clause-sent
returns-in-Some-clause-sent g c =
    same_sent (written g c) (sent_same c.in-Some.record.now c.announce.new.self c.announce.ensures.sent ∙ ap (option_and_then sent_in) (sym (had g c)))

-- where there was none
lacking : (g : Over) (c : After-rows-in-Some-get_mut-1 g) → found c.args.rows.now.entries c.args.prefix ≡ None
lacking g c = sym c.get_mut.ensures.value ∙ ap option_copied_mut c.in_default.is

lacked : (g : Over) (c : After-rows-in-Some-get_mut-1 g) → found (routed c.args.rows.now.entries) c.args.prefix ≡ None
lacked g c = row_lacking c.args.rows.now.entries c.args.prefix c.requires.rows.0 (lacking g c)

placed : (g : Over) (c : After-rows-in-Some-get_mut-1 g) → IsPut c.args.rows.now.entries c.insert.new.self.entries c.args.prefix (Some c.in_ok-record.record)
placed g c = subst (λ es. IsPut es c.insert.new.self.entries c.args.prefix (Some c.in_ok-record.record)) c.get_mut.follows.holds-at-none c.in_ok-insert.ensures.put

one_value : (x y : PrefixRecord) → (let some : Option PrefixRecord = Some x in some) ≡ Some y → x ≡ y
one_value x y same = cc

same_one : (g : Over) (c : After-rows-in-Some-get_mut-1 g) → c.in-Some-get_mut.record.now ≡ c.in_ok-record.record
same_one g c = one_value c.in-Some-get_mut.record.now c.in_ok-record.record (sym (ap option_copied_mut c.in-Some-get_mut.is) ∙ c.get_mut-2.ensures.value ∙ now_found (placed g c))

begun : (g : Over) (c : After-rows-in-Some-get_mut-1 g) → IsPut c.args.rows.now.entries (c.get_mut-2.follows.lender c.offer.new.self).entries c.args.prefix (Some c.offer.new.self)
begun g c = put_twice (placed g c) (through_lent c.get_mut-2.result c.in-Some-get_mut.record _ c.in-Some-get_mut.is (c.get_mut-2.follows.holds c.offer.new.self))

fresh : (g : Over) (c : After-rows-in-Some-get_mut-1 g) → c.in-Some-get_mut.record.now.row ≡ Some (first_route c.args.slot c.args.attrs.value)
fresh g c = ap (λ (r : PrefixRecord). r.row) (same_one g c) ∙ c.in_ok-record.ensures.row

pub offer-requires-clause-apart : goal.offer-requires-clause-apart
offer-requires-clause-apart g c =
    let none : found c.args.rows.now.entries c.args.prefix ≡ None = sym c.get_mut.ensures.value ∙ ap option_copied_mut c.in_default.is in
    let begun : IsPut c.args.rows.now.entries c.insert.new.self.entries c.args.prefix (Some c.in_ok-record.record) = subst (λ es. IsPut es c.insert.new.self.entries c.args.prefix (Some c.in_ok-record.record)) c.get_mut.follows.holds-at-none c.in_ok-insert.ensures.put in
    let same = one_value c.in-Some-get_mut.record.now c.in_ok-record.record (sym (ap option_copied_mut c.in-Some-get_mut.is) ∙ c.get_mut-2.ensures.value ∙ now_found begun) in
    let first : c.in-Some-get_mut.record.now.row ≡ Some (first_route c.args.slot c.args.attrs.value) = ap (λ (r : PrefixRecord). r.row) same ∙ c.in_ok-record.ensures.row in
    apart_same c.args.slot c.args.candidate (offer_of (found (routed c.args.rows.now.entries) c.args.prefix)) (offer_of c.in-Some-get_mut.record.now.row)
    (first_offers c.args.slot c.args.attrs.value c.in-Some-get_mut.record.now.row (found (routed c.args.rows.now.entries) c.args.prefix) first
    (row_lacking c.args.rows.now.entries c.args.prefix c.requires.rows.0 none)) c.requires.apart

pub returns-in_err-record-clause-absent : goal.returns-in_err-record-clause-absent
returns-in_err-record-clause-absent g c =
    let none : found c.args.rows.now.entries c.args.prefix ≡ None = sym c.get_mut.ensures.value ∙ ap option_copied_mut c.in_default.is in
    always_err c.from_residual.result _ (ap (λ (o : Option PrefixRow). route_of o c.args.slot) (row_lacking c.args.rows.now.entries c.args.prefix c.requires.rows.0 none))

pub returns-in_err-insert-clause-absent : goal.returns-in_err-insert-clause-absent
returns-in_err-insert-clause-absent g c =
    let none : found c.args.rows.now.entries c.args.prefix ≡ None = sym c.get_mut.ensures.value ∙ ap option_copied_mut c.in_default.is in
    always_err c.from_residual-in_err-insert.result _ (ap (λ (o : Option PrefixRow). route_of o c.args.slot) (row_lacking c.args.rows.now.entries c.args.prefix c.requires.rows.0 none))

pub returns-in-Some-get_mut-clause-rows : goal.returns-in-Some-get_mut-clause-rows
returns-in-Some-get_mut-clause-rows g c =
    records_put (begun g c) c.requires.rows
    (record_routed c.offer.new.self c.offer.ensures.row
    (row_kept c.offer.new.self.row c.in-Some-get_mut.record.now.row (first_route c.args.slot c.args.attrs.value) c.offer.ensures.routes (fresh g c))
    (compact_same c.in-Some-get_mut.record.now c.offer.new.self (subst (λ (r : PrefixRecord). IsCompact r.sent.holdings) (sym (same_one g c)) c.in_ok-record.ensures.compact) c.offer.ensures.sent))

pub returns-in-Some-get_mut-clause-others : goal.returns-in-Some-get_mut-clause-others
returns-in-Some-get_mut-clause-others g c = row_others (begun g c)

pub returns-in-Some-get_mut-clause-routes : goal.returns-in-Some-get_mut-clause-routes
returns-in-Some-get_mut-clause-routes g c = λ s.
    ap (λ o. route_of o s) (row_found (begun g c))
    ∙ first_routes c.args.slot c.args.attrs.value c.offer.new.self.row (found (routed c.args.rows.now.entries) c.args.prefix)
    (c.offer.ensures.routes ∙ ap (option_map (λ (r : PrefixRow). r.routes)) (fresh g c)) (lacked g c) s

pub returns-in-Some-get_mut-clause-offers : goal.returns-in-Some-get_mut-clause-offers
returns-in-Some-get_mut-clause-offers g c = λ s.
    ap (λ o. offer_of o s) (row_found (begun g c)) ∙ c.offer.ensures.offers s
    ∙ ap (λ o. if c.args.slot == s then c.args.candidate else o)
    (first_offers c.args.slot c.args.attrs.value c.in-Some-get_mut.record.now.row (found (routed c.args.rows.now.entries) c.args.prefix) (fresh g c) (lacked g c) s)

pub returns-in-Some-get_mut-clause-another : goal.returns-in-Some-get_mut-clause-another
returns-in-Some-get_mut-clause-another g c = λ another.
    c.offer.ensures.another (λ same. another (ap best_of (row_found (begun g c)) ∙ same ∙ ap best_of (fresh g c) ∙ ap best_of (sym (lacked g c))))

pub returns-in-Some-get_mut-clause-same : goal.returns-in-Some-get_mut-clause-same
returns-in-Some-get_mut-clause-same g c = λ same.
    c.offer.ensures.same
    (first_offers c.args.slot c.args.attrs.value c.in-Some-get_mut.record.now.row (found (routed c.args.rows.now.entries) c.args.prefix) (fresh g c) (lacked g c) c.args.slot ∙ same)

pub returns-in-Some-get_mut-clause-made : goal.returns-in-Some-get_mut-clause-made
returns-in-Some-get_mut-clause-made g c = λ another.
    c.offer.ensures.made (λ same. another
    (sym (first_offers c.args.slot c.args.attrs.value c.in-Some-get_mut.record.now.row (found (routed c.args.rows.now.entries) c.args.prefix) (fresh g c) (lacked g c) c.args.slot) ∙ same))

pub returns-in-Some-get_mut-clause-sent : goal.returns-in-Some-get_mut-clause-sent
returns-in-Some-get_mut-clause-sent g c =
    let unheld : holds_any c.in-Some-get_mut.record.now.sent ≡ false = ap (λ (r : PrefixRecord). holds_any r.sent) (same_one g c) ∙ c.in_ok-record.ensures.sent in
    same_sent (begun g c)
    (sent_same c.in-Some-get_mut.record.now c.offer.new.self c.offer.ensures.sent ∙ sent_none c.in-Some-get_mut.record.now unheld ∙ ap (option_and_then sent_in) (sym (lacking g c)))
