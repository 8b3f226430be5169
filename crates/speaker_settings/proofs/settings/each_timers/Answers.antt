use Rattle.std.proofs.Common.{◌≡◌, ℕ, List, Vec, Global, get_or, take, take_all, subst, sym, ◌∙◌, arith}
use Rattle.std.proofs.lemmas.Grind.{common_steps}
use Rattle.std.proofs.lemmas.List.{take_more}
use Rattle.bgp_fsm.specs.declared.timers.PeerTimers.{PeerTimers}
use Rattle.toml.specs.View.{items_view, view}
use Rattle.toml.specs.declared.value.Value.{Value}
use Rattle.settings_keys.proofs.Faults.{passes_on_in_memory}
use Rattle.speaker_settings.specs.ToldSettings.{AreTimers, IsSlotTimers}
use Rattle.speaker_settings.proofs.Timers.{are_timers-push, no_timers}
use Rattle.speaker_settings.proofs.settings.each_timers.Goals as goal

pub loop-entry-preserved : goal.loop-entry-preserved
loop-entry-preserved c =
    let vs = c.args.entries.now in
    let i = c.loop-entry.entry-index in
    let v = c.entry-item.result in
    let at : get_or vs i v ≡ v = grind (arith, common_steps) in
    rw (rw c.if-is_err.ensures.negation at c.push.ensures.items)
    (rw (take_more vs i v c.loop-entry-test.true, at) (are_timers-push (take i vs) _ v c.in_ok-told.told c.loop-entry.invariant c.in_ok-told.ensures))

pub returns-in_err-told : goal.returns-in_err-told
returns-in_err-told c =
    let vs = c.args.entries.now in
    let i = c.loop-entry.entry-index in
    let v = c.entry-item.result in
    let at : get_or vs i v ≡ v = grind (arith, common_steps) in
    let needs = λ (timers : Vec (ℕ × PeerTimers) Global). AreTimers (items_view vs) timers.items in
    passes_on_in_memory _ needs c.from_residual.result _ c.from_residual.ensures.1 c.in_err-told.ensures (λ none timers told.
    no_timers vs i v c.loop-entry-test.true (λ t is. none t (subst (λ (x : Value). IsSlotTimers (view x) t) at is)) timers.items told)

pub returns : goal.returns
returns c =
    let vs = c.args.entries.now in
    let ts = c.loop-entry.timers.items in
    let all : take c.loop-entry.entry-index vs ≡ vs = take_all c.loop-entry.entry-index vs (omega (arith, c.loop-entry.auto.entry-index-end, c.loop-entry-test.false)) in
    subst (λ (xs : List Value). AreTimers (items_view xs) ts) all c.loop-entry.invariant
