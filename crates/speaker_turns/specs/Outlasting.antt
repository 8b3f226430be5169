-- What is heard outlasts the next moment.
use Rattle.std.specs.Prelude.{◌≡◌, ◌≤◌, ◌⊎◌, ◌+◌, ℕ, true, false}
use Rattle.bgp_fsm.specs.declared.input.Input.{Input}
use Rattle.bgp_fsm.specs.declared.session.Session.{Session}
use Rattle.bgp_fsm.specs.declared.state.State.TheVariants.{Established}
use Rattle.bgp_fsm.specs.declared.timers.Timer.TheVariants.{Hold}
use Rattle.bgp_fsm.specs.SessionTable.{session_after}
use Rattle.bgp_fsm.specs.StateTests.{is_message}
use Rattle.bgp_fsm.specs.TimerMoments.{has_ended}

-- a hold time that two OPENs agree on: none, or three seconds at least (RFC 4271 section 4.2)
abbrev pub IsHoldTime : ℕ → Type 0
IsHoldTime seconds = (seconds ≡ 0) ⊎ (3 ≤ seconds)

-- the hold timer of a session that a message leaves Established hasn't ended at any moment up to two seconds later
abbrev pub OutlastsAStep : Type 0
OutlastsAStep =
    (now next : ℕ) (input : Input) (s : Session) → IsHoldTime s.hold_time → is_message input ≡ true → (session_after now input s).state ≡ Established
    → next ≤ now + 2 → has_ended Hold next (session_after now input s).timers ≡ false
