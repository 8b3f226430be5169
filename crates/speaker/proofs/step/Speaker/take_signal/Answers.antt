use Rattle.std.proofs.Common.{[], ◌∷◌, ◌∙◌, refl, sym, ap, arith}
use Rattle.bgp_fsm.specs.declared.input.Input.TheVariants.{Up}
use Rattle.runs.specs.Runs.{turn, call_of, Up_call, Fail_call, Bytes_call, Tick_call, Cache_up_call, Cache_fail_call}
use Rattle.runs.specs.FirstRefusal.{awaits_up, may_fail, may_bring_octets}
use Rattle.runs.specs.declared.event.Report.{Report}
use Rattle.speaker.specs.Ready.{IsReady}
use Rattle.speaker.proofs.CacheSteps.{ready_cached}
use Rattle.speaker.proofs.Commands.{accepted, accepted_configured, awaits_none, holds_signalled, open_or, open_stands, peer_of}
use Rattle.speaker.proofs.Events.{holds_dropped, holds_nothing, ready_starved}
use Rattle.routing.proofs.Results.{OnErr-got, OnOk-got}
use Rattle.speaker.proofs.step.Speaker.take_signal.Goals as goal

pub returns-in-Up-clause-ready : goal.returns-in-Up-clause-ready
returns-in-Up-clause-ready g c = λ config r a few.
    let may = rw c.in-Up.is at c.requires.accepted in
    let both = accepted_configured _ _ awaits_up may in
    let peer = both.0 in
    let found = both.1 in
    rw (c.in-Up.is, c.nothing-report.ensures) (record { call = Up_call c.in-Up.slot; asked_is = refl; opened_is = refl; starved_is = refl; cache_opened_is = refl; cache_starved_is = refl; fair = tt; holds = holds_signalled config r (turn (Up_call c.in-Up.slot) [] ∷ r) c.in-Up.slot found.0 Up c.args.self.now c.input.new.self a peer.0 peer.1 (λ x. refl) found.1 refl (λ e. awaits_none _ found.2) (c.input.ensures.moves found.0 found.1) refl refl refl (λ t. refl) (c.input.ensures.chosen found.0 found.1) 0 (omega (arith, few)) (omega arith) })

pub returns-in-Fail-clause-ready : goal.returns-in-Fail-clause-ready
returns-in-Fail-clause-ready g c = λ config r a few.
    let may = rw c.in-Fail.is at c.requires.accepted in
    let found = accepted _ may_fail may in
    rw (c.in-Fail.is, c.nothing-report.ensures) (record { call = Fail_call c.in-Fail.slot; asked_is = refl; opened_is = refl; starved_is = refl; cache_opened_is = refl; cache_starved_is = refl; fair = tt; holds = c.fail.ensures.fails config r found.0 a found.1 few })

pub returns-then-is_err-clause-ready : goal.returns-then-is_err-clause-ready
returns-then-is_err-clause-ready g c = λ config r a few.
    let may = rw c.in-Bytes.is at c.requires.accepted in
    let found = accepted _ may_bring_octets may in
    let stands = open_stands _ (sym (c.is_open.ensures found.0 found.1) ∙ c.if-is_open.true) in
    let peer = peer_of config r c.in-Bytes.slot found.0 c.args.self.now a found.1 stands.1 in
    let until = OnErr-got c.hear.result _ c.hear.ensures.starved c.if-is_err.ensures.value in
    rw (c.in-Bytes.is, c.nothing-report.ensures) (ready_starved config r c.in-Bytes.slot c.slot_bit.result _ peer.0 c.args.self.now c.hear.new.self c.slot_bit.ensures until peer.1 a few)

pub returns-else-is_err-clause-ready : goal.returns-else-is_err-clause-ready
returns-else-is_err-clause-ready g c = λ config r a few.
    let may = rw c.in-Bytes.is at c.requires.accepted in
    let found = accepted _ may_bring_octets may in
    let stands = open_stands _ (sym (c.is_open.ensures found.0 found.1) ∙ c.if-is_open.true) in
    let peer = peer_of config r c.in-Bytes.slot found.0 c.args.self.now a found.1 stands.1 in
    let heard = OnOk-got c.hear.result _ c.hear.ensures.heard c.if-is_err.ensures.value in
    rw (c.in-Bytes.is, c.nothing-report.ensures) (record { call = Bytes_call c.in-Bytes.slot _; asked_is = refl; opened_is = refl; starved_is = refl; cache_opened_is = refl; cache_starved_is = refl; fair = tt; holds = heard config r [] peer.0 peer.1 (holds_nothing config r c.in-Bytes.slot c.args.self.now a few) })

pub returns-else-is_open-clause-ready : goal.returns-else-is_open-clause-ready
returns-else-is_open-clause-ready g c = λ config r a few.
    let may = rw c.in-Bytes.is at c.requires.accepted in
    let found = accepted _ may_bring_octets may in
    let shut = open_or _ (sym (c.is_open.ensures found.0 found.1) ∙ c.if-is_open.false) in
    rw (c.in-Bytes.is, c.nothing-report.ensures) (record { call = Bytes_call c.in-Bytes.slot _; asked_is = refl; opened_is = refl; starved_is = refl; cache_opened_is = refl; cache_starved_is = refl; fair = tt; holds = holds_dropped config r c.in-Bytes.slot found.0 _ c.args.self.now a found.1 shut few })

pub returns-in-CacheUp-clause-ready : goal.returns-in-CacheUp-clause-ready
returns-in-CacheUp-clause-ready g c = λ config r a few.
    rw (c.in-CacheUp.is, c.nothing-report.ensures) (record { call = Cache_up_call; asked_is = refl; opened_is = refl; starved_is = refl; cache_opened_is = refl; cache_starved_is = refl; fair = tt; holds = c.cache_up.ensures.holds config r a few })

pub returns-in-CacheFail-clause-ready : goal.returns-in-CacheFail-clause-ready
returns-in-CacheFail-clause-ready g c = λ config r a few.
    rw (c.in-CacheFail.is, c.nothing-report.ensures) (record { call = Cache_fail_call; asked_is = refl; opened_is = refl; starved_is = refl; cache_opened_is = refl; cache_starved_is = refl; fair = tt; holds = c.cache_fail.ensures.holds config r a few })

pub returns-in-CacheBytes-clause-ready : goal.returns-in-CacheBytes-clause-ready
returns-in-CacheBytes-clause-ready g c = λ config r a few.
    rw (c.in-CacheBytes.is, c.nothing-report.ensures)
    (ready_cached config r _ c.hear_cache.result c.args.self.now c.hear_cache.new.self c.hear_cache.ensures.heard c.hear_cache.ensures.starved a few)

pub returns-in-Tick-clause-ready : goal.returns-in-Tick-clause-ready
returns-in-Tick-clause-ready g c = λ config r a few.
    let ticks = c.tick-report.ensures.ticks config r a few in
    rw (c.in-Tick.is)
    (record { call = Tick_call c.in-Tick.now; asked_is = refl; opened_is = sym (ap (λ (x : Report). x.opened) ticks.1); starved_is = sym (ap (λ (x : Report). x.starved) ticks.1); cache_opened_is = sym (ap (λ (x : Report). x.cache_opened) ticks.1); cache_starved_is = sym (ap (λ (x : Report). x.cache_starved) ticks.1); fair = tt; holds = ticks.0 })

pub unreachable-requires : goal.unreachable-requires
unreachable-requires g c = let is = rw c.in-Command.is at c.requires.signals in cc
