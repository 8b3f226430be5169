-- What is heard outlasts the next moment.
use Rattle.std.proofs.Common.{◌≡◌, ◌≤◌, ◌⊎◌, ◌+◌, ℕ, true, false, arith}
use Rattle.std.proofs.lemmas.Grind.{common_steps}
use Rattle.bgp_fsm.specs.declared.input.Input.{Input}
use Rattle.bgp_fsm.specs.declared.session.Session.{Session}
use Rattle.bgp_fsm.specs.declared.state.State.TheVariants.{Established}
use Rattle.bgp_fsm.specs.declared.timers.Timer.TheVariants.{Hold}
use Rattle.bgp_fsm.specs.SessionTable.{session_after}
use Rattle.bgp_fsm.specs.StateTests.{is_message}
use Rattle.bgp_fsm.specs.TimerMoments.{has_ended}
use Rattle.speaker_turns.specs.Outlasting.{IsHoldTime, OutlastsAStep}

pub outlasts_a_step : OutlastsAStep
outlasts_a_step now next input s lawful is stays near = grind (arith, common_steps)
