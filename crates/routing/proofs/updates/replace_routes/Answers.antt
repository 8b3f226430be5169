use Rattle.std.proofs.Common.{◌≡◌, ◌==◌, true, cond, refl, sym, subst}
use Rattle.bgp_attr.specs.PathAttributes.{PathAttributes}
use Rattle.bgp_msg.specs.MessageSpelling.{front_prefixes}
use Rattle.bgp_msg.specs.UpdateMeaning.{UpdateBody}
use Rattle.decision.specs.BookContents.{AreApart, offer_at}
use Rattle.net_prefix.specs.declared.prefix.Prefix.{Prefix}
use Rattle.routing.specs.Brought.{AreReady}
use Rattle.routing.specs.Candidates.{judged_at}
use Rattle.routing.specs.Chosen.{OncePerPrefix}
use Rattle.routing.specs.Updates.{is_among, is_only_withdrawn}
use Rattle.routing.specs.Tables.{payloads_under}
use Rattle.routing.specs.Taken.{IsTaken}
use Rattle.routing.proofs.BroughtPrefixes.{offers_left, offers_taken, ready_left, routes_taken}
use Rattle.routing.proofs.HeardOffers.{apart_heard, left_of, sound_heard}
use Rattle.routing.proofs.NamedPrefixes.{most_named}
use Rattle.routing.proofs.updates.replace_routes.Goals as goal

pub announce_each-requires-clause-ready : goal.announce_each-requires-clause-ready
announce_each-requires-clause-ready g c =
    subst (λ (a : PathAttributes). AreReady c.args.sender.slot a c.withdraw_each.new.routing.adj_in c.in_ok-named.named.items) (sym c.deref-2.ensures)
    (ready_left c.args.sender.slot c.in_ok-shared.shared.value (front_prefixes c.args.withdrawn.octets.now).0 (front_prefixes c.args.announced.octets.now).0 c.in_ok-named.named.items c.args.routing.now c.bring_all.new.routing c.withdraw_each.new.routing c.in_ok-named.ensures.brought c.withdraw_each.ensures.routes)

pub announce_each-requires-clause-apart : goal.announce_each-requires-clause-apart
announce_each-requires-clause-apart g c =
    let made = rw c.deref.ensures at c.candidate-candidate.ensures.made in
    let withdrawn = (front_prefixes c.args.withdrawn.octets.now).0 in
    let announced = (front_prefixes c.args.announced.octets.now).0 in
    let only = is_only_withdrawn withdrawn announced in
    let went = offers_left c.args.sender.slot c.in_ok-shared.shared.value announced only c.in_ok-named.named.items c.args.routing.now c.bring_all.new.routing c.withdraw_each.new.routing c.in_ok-named.ensures.brought c.withdraw_each.ensures.offers in
    subst (λ (a : PathAttributes). (prefix : Prefix) → AreApart (λ s. cond (c.args.sender.slot == s) (judged_at c.args.conf.now (payloads_under c.args.conf.now c.args.payloads.now) a c.candidate-candidate.result prefix) (offer_at c.withdraw_each.new.routing.book s prefix))) (sym c.deref-2.ensures)
    (apart_heard c.args.conf.now (payloads_under c.args.conf.now c.args.payloads.now) c.args.sender.slot c.args.sender.identifier c.in_ok-shared.shared.value c.candidate-candidate.result only (offer_at c.args.routing.now.book) (offer_at c.withdraw_each.new.routing.book) c.requires.sound went made)

pub returns-clause-sound : goal.returns-clause-sound
returns-clause-sound g c =
    let made = rw c.deref.ensures at c.candidate-candidate.ensures.made in
    let come = rw c.deref-2.ensures at c.announce_each.ensures.offers in
    let withdrawn = (front_prefixes c.args.withdrawn.octets.now).0 in
    let announced = (front_prefixes c.args.announced.octets.now).0 in
    let only = is_only_withdrawn withdrawn announced in
    let taken = offers_taken c.args.sender.slot c.in_ok-shared.shared.value (judged_at c.args.conf.now (payloads_under c.args.conf.now c.args.payloads.now) c.in_ok-shared.shared.value c.candidate-candidate.result) withdrawn announced c.in_ok-named.named.items c.args.routing.now c.bring_all.new.routing c.withdraw_each.new.routing c.announce_each.new.routing c.in_ok-named.ensures.brought c.withdraw_each.ensures.offers come in
    sound_heard c.args.conf.now (payloads_under c.args.conf.now c.args.payloads.now) c.args.sender.slot c.args.sender.identifier c.in_ok-shared.shared.value c.candidate-candidate.result only (λ p. is_among p announced) (offer_at c.args.routing.now.book) (left_of c.args.sender.slot only (offer_at c.args.routing.now.book)) (offer_at c.announce_each.new.routing.book) c.requires.sound (λ s p. refl) made taken

pub returns-clause-taken : goal.returns-clause-taken
returns-clause-taken g c =
    let made = rw c.deref.ensures at c.candidate-candidate.ensures.made in
    let come_routes = rw c.deref-2.ensures at c.announce_each.ensures.routes in
    let come_offers = rw c.deref-2.ensures at c.announce_each.ensures.offers in
    let withdrawn = (front_prefixes c.args.withdrawn.octets.now).0 in
    let announced = (front_prefixes c.args.announced.octets.now).0 in
    let update : UpdateBody = record { withdrawn = withdrawn; attrs = c.in_ok-shared.shared.value; announced = announced } in
    let only = is_only_withdrawn withdrawn announced in
    let brought = c.in_ok-named.ensures.brought in
    let gone : OncePerPrefix (λ p. only p ≡ true) c.args.routing.now.chosen c.withdraw_each.new.routing.chosen = subst (λ n. OncePerPrefix (λ p. only p ≡ true) n c.withdraw_each.new.routing.chosen) brought.chosen c.withdraw_each.ensures.chosen in
    let taken : IsTaken c.args.conf.now (payloads_under c.args.conf.now c.args.payloads.now) c.args.sender update c.args.routing.now c.announce_each.new.routing = record {
      found = c.candidate-candidate.result;
      made = made;
      routes = routes_taken c.args.sender.slot c.in_ok-shared.shared.value withdrawn announced c.in_ok-named.named.items c.args.routing.now c.bring_all.new.routing c.withdraw_each.new.routing c.announce_each.new.routing brought c.withdraw_each.ensures.routes come_routes;
      offers = offers_taken c.args.sender.slot c.in_ok-shared.shared.value (judged_at c.args.conf.now (payloads_under c.args.conf.now c.args.payloads.now) c.in_ok-shared.shared.value c.candidate-candidate.result) withdrawn announced c.in_ok-named.named.items c.args.routing.now c.bring_all.new.routing c.withdraw_each.new.routing c.announce_each.new.routing brought c.withdraw_each.ensures.offers come_offers;
      chosen = most_named update _ _ _ gone (rw brought.all at c.announce_each.ensures.chosen);
    } in
    subst (λ (a : PathAttributes). IsTaken c.args.conf.now (payloads_under c.args.conf.now c.args.payloads.now) c.args.sender (record { withdrawn = withdrawn; attrs = a; announced = announced }) c.args.routing.now c.announce_each.new.routing) c.in_ok-shared.ensures taken
