use Rattle.std.proofs.Common.{◌∷◌, sym, ap, subst}
use Rattle.bgp_peer.specs.SessionInputs.{Ticked}
use Rattle.runs.specs.Agreement.{HoldsBy}
use Rattle.runs.specs.Runs.{cache_history, configuration_of, history}
use Rattle.runs.specs.SpeakerState.{SpeakerState}
use Rattle.runs.specs.declared.event.Report.{Report}
use Rattle.speaker.proofs.Events.{holds_ticked}
use Rattle.speaker.proofs.TimerEnds.{report_ticked, ticks}
use Rattle.speaker.proofs.step.Speaker.tick.Goals as goal

pub returns-clause-ticks : goal.returns-clause-ticks
returns-clause-ticks g c = λ config r holds few.
    let first = holds_ticked config r c.args.now c.args.self.now holds few in
    let H : SpeakerState → Type 0 = λ s. HoldsBy config (configuration_of config r) c.args.now (cache_history r) (λ t. Ticked c.args.now ∷ history config t r) 0 (record s { moment = c.args.now }) in
    let cached = c.cache_tick.ensures.ticks config r (subst H (sym c.self.view_is) first) in
    let all = ticks config r c.args.now c.end_all_timers.result c.cache_tick.new.self c.end_all_timers.new.self c.cache_tick.ensures.moment cached.0 c.end_all_timers.ensures.ends in
    (all.0, report_ticked config r c.args.now _ _ _ _ all.1 (ap (λ (x : Report). x.starved) c.nothing-report.ensures) cached.1 (ap (λ (x : Report). x.cache_starved) c.nothing-report.ensures))
