use Rattle.std.proofs.Common.{◌≡◌, None, Some, option_map, ap, sym, ◌∙◌}
use Rattle.std.specs.Option.{option_copied}
use Rattle.prefix_trie.specs.TrieMap.{found}
use Rattle.holdings.specs.Holdings.{octets_by}
use Rattle.rib_out.specs.Slots.{has_slot}
use Rattle.rib_rows.specs.Records.{held_of}
use Rattle.loc_rib.proofs.SentTables.{sent_found}
use Rattle.loc_rib.proofs.ribs.Ribs.held.Goals as goal

pub returns-in_err-record-clause-none : goal.returns-in_err-record-clause-none
returns-in_err-record-clause-none g c =
    let es = c.self.inside.rows.entries in
    rw (c.from_residual.ensures, ← c.self.view_is)
    (sent_found es c.self.invariant.0.0 c.args.slot c.args.prefix ∙ ap (λ o. held_of o c.args.slot) (sym c.get.ensures.value ∙ ap option_copied c.in_err-record.was))

pub returns-in_err-sent-clause-none : goal.returns-in_err-sent-clause-none
returns-in_err-sent-clause-none g c =
    let es = c.self.inside.rows.entries in
    let kept = c.in_ok-record.record.now.sent in
    let there : found es c.args.prefix ≡ Some c.in_ok-record.record.now = sym c.get.ensures.value ∙ ap option_copied c.in_ok-record.was in
    let none : octets_by kept c.args.slot ≡ None = sym c.held.ensures ∙ ap option_copied c.in_err-sent.was in
    rw (c.from_residual-in_err-sent.ensures, ← c.self.view_is)
    (sent_found es c.self.invariant.0.0 c.args.slot c.args.prefix ∙ ap (λ o. held_of o c.args.slot) there
    ∙ ap (option_map (λ octets. record { octets = octets; asked = has_slot kept.asked c.args.slot })) none)

pub returns-clause-some : goal.returns-clause-some
returns-clause-some g c =
    let es = c.self.inside.rows.entries in
    let kept = c.in_ok-record.record.now.sent in
    let there : found es c.args.prefix ≡ Some c.in_ok-record.record.now = sym c.get.ensures.value ∙ ap option_copied c.in_ok-record.was in
    let some : octets_by kept c.args.slot ≡ Some c.in_ok-sent.sent.now = sym c.held.ensures ∙ ap option_copied c.in_ok-sent.was in
    rw (← c.self.view_is)
    (sent_found es c.self.invariant.0.0 c.args.slot c.args.prefix ∙ ap (λ o. held_of o c.args.slot) there
    ∙ ap (option_map (λ octets. record { octets = octets; asked = has_slot kept.asked c.args.slot })) some
    ∙ ap (λ asked. Some (record { octets = c.in_ok-sent.sent.now; asked = asked })) (sym c.is_asked.ensures))
