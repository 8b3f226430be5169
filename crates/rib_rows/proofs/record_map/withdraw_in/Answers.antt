use Rattle.std.proofs.Common.{◌≡◌, ◌==◌, if◌then◌else◌, Option, None, Some, option_and_then, ap, sym, ◌∙◌}
use Rattle.std.specs.Option.{option_copied_mut}
use Rattle.prefix_table.specs.Tables.{IsPut}
use Rattle.prefix_trie.specs.TrieMap.{found}
use Rattle.rib_rows.proofs.RecordTables.{compact_same, nothing_left, put_twice, record_found, record_needed, records_put, row_found, row_lacking, row_others, row_there, row_unneeded, same_sent, sent_same, sent_unneeded, through_lent}
use Rattle.rib_rows.specs.PrefixRows.{PrefixRow, best_of, offer_of, route_of}
use Rattle.rib_rows.specs.Records.{routed, sent_in}
use Rattle.rib_rows.proofs.record_map.withdraw_in.Goals as goal

pub returns-in_default-clause-routes : goal.returns-in_default-clause-routes
returns-in_default-clause-routes g c = λ s.
    let none : found c.args.rows.now.entries c.args.prefix ≡ None = sym c.get_mut.ensures.value ∙ ap option_copied_mut c.in_default.is in
    ap (λ es. route_of (found (routed es) c.args.prefix) s) c.get_mut.follows.holds-at-none
    ∙ nothing_left (c.args.slot == s) (route_of (found (routed c.args.rows.now.entries) c.args.prefix) s) (ap (λ o. route_of o s) (row_lacking c.args.rows.now.entries c.args.prefix c.requires.0 none))

pub returns-in_default-clause-offers : goal.returns-in_default-clause-offers
returns-in_default-clause-offers g c = λ s.
    let none : found c.args.rows.now.entries c.args.prefix ≡ None = sym c.get_mut.ensures.value ∙ ap option_copied_mut c.in_default.is in
    ap (λ es. offer_of (found (routed es) c.args.prefix) s) c.get_mut.follows.holds-at-none
    ∙ nothing_left (c.args.slot == s) (offer_of (found (routed c.args.rows.now.entries) c.args.prefix) s) (ap (λ o. offer_of o s) (row_lacking c.args.rows.now.entries c.args.prefix c.requires.0 none))

pub returns-in_default-clause-gone : goal.returns-in_default-clause-gone
returns-in_default-clause-gone g c = λ some.
    let none : found c.args.rows.now.entries c.args.prefix ≡ None = sym c.get_mut.ensures.value ∙ ap option_copied_mut c.in_default.is in
    absurd (some (ap (λ o. offer_of o c.args.slot) (row_lacking c.args.rows.now.entries c.args.prefix c.requires.0 none)))

pub returns-then-not-is_needed-clause-rows : goal.returns-then-not-is_needed-clause-rows
returns-then-not-is_needed-clause-rows g c =
    let had : found c.args.rows.now.entries c.args.prefix ≡ Some c.in-Some.record.now = sym c.get_mut.ensures.value ∙ ap option_copied_mut c.in-Some.is in
    let put : IsPut c.args.rows.now.entries c.remove.new.self.entries c.args.prefix None =
    put_twice (through_lent c.get_mut.result c.in-Some.record _ c.in-Some.is (c.get_mut.follows.holds c.withdraw.new.self)) c.remove.ensures.put in
    records_put put c.requires tt

pub returns-then-not-is_needed-clause-others : goal.returns-then-not-is_needed-clause-others
returns-then-not-is_needed-clause-others g c =
    let had : found c.args.rows.now.entries c.args.prefix ≡ Some c.in-Some.record.now = sym c.get_mut.ensures.value ∙ ap option_copied_mut c.in-Some.is in
    let put : IsPut c.args.rows.now.entries c.remove.new.self.entries c.args.prefix None =
    put_twice (through_lent c.get_mut.result c.in-Some.record _ c.in-Some.is (c.get_mut.follows.holds c.withdraw.new.self)) c.remove.ensures.put in
    row_others put

pub returns-then-not-is_needed-clause-routes : goal.returns-then-not-is_needed-clause-routes
returns-then-not-is_needed-clause-routes g c =
    let had : found c.args.rows.now.entries c.args.prefix ≡ Some c.in-Some.record.now = sym c.get_mut.ensures.value ∙ ap option_copied_mut c.in-Some.is in
    let there : found (routed c.args.rows.now.entries) c.args.prefix ≡ c.in-Some.record.now.row = row_there c.args.rows.now.entries c.args.prefix c.in-Some.record.now c.requires.0 had in
    let put : IsPut c.args.rows.now.entries c.remove.new.self.entries c.args.prefix None =
    put_twice (through_lent c.get_mut.result c.in-Some.record _ c.in-Some.is (c.get_mut.follows.holds c.withdraw.new.self)) c.remove.ensures.put in
    let now : found (routed c.remove.new.self.entries) c.args.prefix ≡ c.withdraw.new.self.row =
    row_found put ∙ sym (row_unneeded c.withdraw.new.self c.is_needed.result c.is_needed.ensures c.if-not-is_needed.true) in
    (λ s. ap (λ o. route_of o s) now ∙ c.withdraw.ensures.routes s ∙ ap (λ o. if c.args.slot == s then None else route_of o s) (sym there))

pub returns-then-not-is_needed-clause-offers : goal.returns-then-not-is_needed-clause-offers
returns-then-not-is_needed-clause-offers g c =
    let had : found c.args.rows.now.entries c.args.prefix ≡ Some c.in-Some.record.now = sym c.get_mut.ensures.value ∙ ap option_copied_mut c.in-Some.is in
    let there : found (routed c.args.rows.now.entries) c.args.prefix ≡ c.in-Some.record.now.row = row_there c.args.rows.now.entries c.args.prefix c.in-Some.record.now c.requires.0 had in
    let put : IsPut c.args.rows.now.entries c.remove.new.self.entries c.args.prefix None =
    put_twice (through_lent c.get_mut.result c.in-Some.record _ c.in-Some.is (c.get_mut.follows.holds c.withdraw.new.self)) c.remove.ensures.put in
    let now : found (routed c.remove.new.self.entries) c.args.prefix ≡ c.withdraw.new.self.row =
    row_found put ∙ sym (row_unneeded c.withdraw.new.self c.is_needed.result c.is_needed.ensures c.if-not-is_needed.true) in
    (λ s. ap (λ o. offer_of o s) now ∙ c.withdraw.ensures.offers s ∙ ap (λ o. if c.args.slot == s then None else offer_of o s) (sym there))

pub returns-then-not-is_needed-clause-another : goal.returns-then-not-is_needed-clause-another
returns-then-not-is_needed-clause-another g c =
    let had : found c.args.rows.now.entries c.args.prefix ≡ Some c.in-Some.record.now = sym c.get_mut.ensures.value ∙ ap option_copied_mut c.in-Some.is in
    let there : found (routed c.args.rows.now.entries) c.args.prefix ≡ c.in-Some.record.now.row = row_there c.args.rows.now.entries c.args.prefix c.in-Some.record.now c.requires.0 had in
    let put : IsPut c.args.rows.now.entries c.remove.new.self.entries c.args.prefix None =
    put_twice (through_lent c.get_mut.result c.in-Some.record _ c.in-Some.is (c.get_mut.follows.holds c.withdraw.new.self)) c.remove.ensures.put in
    let now : found (routed c.remove.new.self.entries) c.args.prefix ≡ c.withdraw.new.self.row =
    row_found put ∙ sym (row_unneeded c.withdraw.new.self c.is_needed.result c.is_needed.ensures c.if-not-is_needed.true) in
    (λ another. c.withdraw.ensures.another (λ same. another (ap best_of now ∙ same ∙ ap best_of (sym there))))

pub returns-then-not-is_needed-clause-never : goal.returns-then-not-is_needed-clause-never
returns-then-not-is_needed-clause-never g c =
    let had : found c.args.rows.now.entries c.args.prefix ≡ Some c.in-Some.record.now = sym c.get_mut.ensures.value ∙ ap option_copied_mut c.in-Some.is in
    let there : found (routed c.args.rows.now.entries) c.args.prefix ≡ c.in-Some.record.now.row = row_there c.args.rows.now.entries c.args.prefix c.in-Some.record.now c.requires.0 had in
    (λ never. c.withdraw.ensures.never (ap (λ (o : Option PrefixRow). offer_of o c.args.slot) (sym there) ∙ never))

pub returns-then-not-is_needed-clause-gone : goal.returns-then-not-is_needed-clause-gone
returns-then-not-is_needed-clause-gone g c =
    let had : found c.args.rows.now.entries c.args.prefix ≡ Some c.in-Some.record.now = sym c.get_mut.ensures.value ∙ ap option_copied_mut c.in-Some.is in
    let there : found (routed c.args.rows.now.entries) c.args.prefix ≡ c.in-Some.record.now.row = row_there c.args.rows.now.entries c.args.prefix c.in-Some.record.now c.requires.0 had in
    (λ some. c.withdraw.ensures.gone (λ none. some (ap (λ (o : Option PrefixRow). offer_of o c.args.slot) there ∙ none)))

pub returns-then-not-is_needed-clause-sent : goal.returns-then-not-is_needed-clause-sent
returns-then-not-is_needed-clause-sent g c =
    let had : found c.args.rows.now.entries c.args.prefix ≡ Some c.in-Some.record.now = sym c.get_mut.ensures.value ∙ ap option_copied_mut c.in-Some.is in
    let put : IsPut c.args.rows.now.entries c.remove.new.self.entries c.args.prefix None =
    put_twice (through_lent c.get_mut.result c.in-Some.record _ c.in-Some.is (c.get_mut.follows.holds c.withdraw.new.self)) c.remove.ensures.put in
    same_sent put (sym (sent_unneeded c.withdraw.new.self c.is_needed.result c.is_needed.ensures c.if-not-is_needed.true) ∙ sent_same c.in-Some.record.now c.withdraw.new.self c.withdraw.ensures.sent ∙ ap (option_and_then sent_in) (sym had))

pub returns-else-not-is_needed-clause-rows : goal.returns-else-not-is_needed-clause-rows
returns-else-not-is_needed-clause-rows g c =
    let had : found c.args.rows.now.entries c.args.prefix ≡ Some c.in-Some.record.now = sym c.get_mut.ensures.value ∙ ap option_copied_mut c.in-Some.is in
    let put : IsPut c.args.rows.now.entries (c.get_mut.follows.lender c.withdraw.new.self).entries c.args.prefix (Some c.withdraw.new.self) = through_lent c.get_mut.result c.in-Some.record _ c.in-Some.is (c.get_mut.follows.holds c.withdraw.new.self) in
    records_put put c.requires (record_needed c.withdraw.new.self c.is_needed.result c.withdraw.ensures.row c.is_needed.ensures c.if-not-is_needed.false (compact_same c.in-Some.record.now c.withdraw.new.self (record_found c.args.rows.now.entries c.args.prefix c.in-Some.record.now c.requires had).compact c.withdraw.ensures.sent))

pub returns-else-not-is_needed-clause-others : goal.returns-else-not-is_needed-clause-others
returns-else-not-is_needed-clause-others g c =
    let had : found c.args.rows.now.entries c.args.prefix ≡ Some c.in-Some.record.now = sym c.get_mut.ensures.value ∙ ap option_copied_mut c.in-Some.is in
    let put : IsPut c.args.rows.now.entries (c.get_mut.follows.lender c.withdraw.new.self).entries c.args.prefix (Some c.withdraw.new.self) = through_lent c.get_mut.result c.in-Some.record _ c.in-Some.is (c.get_mut.follows.holds c.withdraw.new.self) in
    row_others put

pub returns-else-not-is_needed-clause-routes : goal.returns-else-not-is_needed-clause-routes
returns-else-not-is_needed-clause-routes g c =
    let had : found c.args.rows.now.entries c.args.prefix ≡ Some c.in-Some.record.now = sym c.get_mut.ensures.value ∙ ap option_copied_mut c.in-Some.is in
    let there : found (routed c.args.rows.now.entries) c.args.prefix ≡ c.in-Some.record.now.row = row_there c.args.rows.now.entries c.args.prefix c.in-Some.record.now c.requires.0 had in
    let put : IsPut c.args.rows.now.entries (c.get_mut.follows.lender c.withdraw.new.self).entries c.args.prefix (Some c.withdraw.new.self) = through_lent c.get_mut.result c.in-Some.record _ c.in-Some.is (c.get_mut.follows.holds c.withdraw.new.self) in
    let now : found (routed (c.get_mut.follows.lender c.withdraw.new.self).entries) c.args.prefix ≡ c.withdraw.new.self.row = row_found put in
    (λ s. ap (λ o. route_of o s) now ∙ c.withdraw.ensures.routes s ∙ ap (λ o. if c.args.slot == s then None else route_of o s) (sym there))

pub returns-else-not-is_needed-clause-offers : goal.returns-else-not-is_needed-clause-offers
returns-else-not-is_needed-clause-offers g c =
    let had : found c.args.rows.now.entries c.args.prefix ≡ Some c.in-Some.record.now = sym c.get_mut.ensures.value ∙ ap option_copied_mut c.in-Some.is in
    let there : found (routed c.args.rows.now.entries) c.args.prefix ≡ c.in-Some.record.now.row = row_there c.args.rows.now.entries c.args.prefix c.in-Some.record.now c.requires.0 had in
    let put : IsPut c.args.rows.now.entries (c.get_mut.follows.lender c.withdraw.new.self).entries c.args.prefix (Some c.withdraw.new.self) = through_lent c.get_mut.result c.in-Some.record _ c.in-Some.is (c.get_mut.follows.holds c.withdraw.new.self) in
    let now : found (routed (c.get_mut.follows.lender c.withdraw.new.self).entries) c.args.prefix ≡ c.withdraw.new.self.row = row_found put in
    (λ s. ap (λ o. offer_of o s) now ∙ c.withdraw.ensures.offers s ∙ ap (λ o. if c.args.slot == s then None else offer_of o s) (sym there))

pub returns-else-not-is_needed-clause-another : goal.returns-else-not-is_needed-clause-another
returns-else-not-is_needed-clause-another g c =
    let had : found c.args.rows.now.entries c.args.prefix ≡ Some c.in-Some.record.now = sym c.get_mut.ensures.value ∙ ap option_copied_mut c.in-Some.is in
    let there : found (routed c.args.rows.now.entries) c.args.prefix ≡ c.in-Some.record.now.row = row_there c.args.rows.now.entries c.args.prefix c.in-Some.record.now c.requires.0 had in
    let put : IsPut c.args.rows.now.entries (c.get_mut.follows.lender c.withdraw.new.self).entries c.args.prefix (Some c.withdraw.new.self) = through_lent c.get_mut.result c.in-Some.record _ c.in-Some.is (c.get_mut.follows.holds c.withdraw.new.self) in
    let now : found (routed (c.get_mut.follows.lender c.withdraw.new.self).entries) c.args.prefix ≡ c.withdraw.new.self.row = row_found put in
    (λ another. c.withdraw.ensures.another (λ same. another (ap best_of now ∙ same ∙ ap best_of (sym there))))

pub returns-else-not-is_needed-clause-never : goal.returns-else-not-is_needed-clause-never
returns-else-not-is_needed-clause-never g c =
    let had : found c.args.rows.now.entries c.args.prefix ≡ Some c.in-Some.record.now = sym c.get_mut.ensures.value ∙ ap option_copied_mut c.in-Some.is in
    let there : found (routed c.args.rows.now.entries) c.args.prefix ≡ c.in-Some.record.now.row = row_there c.args.rows.now.entries c.args.prefix c.in-Some.record.now c.requires.0 had in
    (λ never. c.withdraw.ensures.never (ap (λ (o : Option PrefixRow). offer_of o c.args.slot) (sym there) ∙ never))

pub returns-else-not-is_needed-clause-gone : goal.returns-else-not-is_needed-clause-gone
returns-else-not-is_needed-clause-gone g c =
    let had : found c.args.rows.now.entries c.args.prefix ≡ Some c.in-Some.record.now = sym c.get_mut.ensures.value ∙ ap option_copied_mut c.in-Some.is in
    let there : found (routed c.args.rows.now.entries) c.args.prefix ≡ c.in-Some.record.now.row = row_there c.args.rows.now.entries c.args.prefix c.in-Some.record.now c.requires.0 had in
    (λ some. c.withdraw.ensures.gone (λ none. some (ap (λ (o : Option PrefixRow). offer_of o c.args.slot) there ∙ none)))

pub returns-else-not-is_needed-clause-sent : goal.returns-else-not-is_needed-clause-sent
returns-else-not-is_needed-clause-sent g c =
    let had : found c.args.rows.now.entries c.args.prefix ≡ Some c.in-Some.record.now = sym c.get_mut.ensures.value ∙ ap option_copied_mut c.in-Some.is in
    let put : IsPut c.args.rows.now.entries (c.get_mut.follows.lender c.withdraw.new.self).entries c.args.prefix (Some c.withdraw.new.self) = through_lent c.get_mut.result c.in-Some.record _ c.in-Some.is (c.get_mut.follows.holds c.withdraw.new.self) in
    same_sent put (sent_same c.in-Some.record.now c.withdraw.new.self c.withdraw.ensures.sent ∙ ap (option_and_then sent_in) (sym had))

pub withdraw-requires : goal.withdraw-requires
withdraw-requires g c =
    let had : found c.args.rows.now.entries c.args.prefix ≡ Some c.in-Some.record.now = sym c.get_mut.ensures.value ∙ ap option_copied_mut c.in-Some.is in
    (record_found c.args.rows.now.entries c.args.prefix c.in-Some.record.now c.requires had).row
