-- The timers of a session (RFC 4271 sections 8.1.3 and 10): when each ends, in seconds.
use Rattle.std.specs.Prelude.{◌/◌, ◌==◌, ◌&&◌, not, ℕ, Bool, Option, None, if◌then◌else◌}
use Rattle.moments.specs.Moments.{from_now, has_come}
use Rattle.bgp_fsm.specs.declared.timers.Timer.{Timer}
use Rattle.bgp_fsm.specs.declared.timers.Timer.TheVariants.{Hold, ConnectRetry, IdleHold, Keepalive}
use Rattle.bgp_fsm.specs.declared.timers.Timers.{Timers}
use Rattle.bgp_fsm.specs.declared.timers.PeerTimers.{PeerTimers}

-- how long a session waits for the peer's OPEN (section 8.2.2)
abbrev pub open_hold : ℕ
open_hold = 240

-- how long a session waits for a connection (section 10), and before it begins again (own), where nothing else is wanted of it
abbrev pub usual : PeerTimers
usual = record { connect_retry = 120; idle_hold = 30 }

-- each of a peer's timers runs for a second at least
abbrev pub are_lawful : PeerTimers → Bool
are_lawful times = not (times.connect_retry == 0) && not (times.idle_hold == 0)

-- no timer runs
abbrev pub stopped : Timers
stopped = record { hold = None; connect_retry = None; idle_hold = None; keepalive = None }

-- only this timer runs, so many seconds from now
abbrev pub only_hold : ℕ → ℕ → Timers
only_hold now seconds = record { hold = from_now now seconds; connect_retry = None; idle_hold = None; keepalive = None }

abbrev pub only_connect_retry : ℕ → ℕ → Timers
only_connect_retry now seconds = record { hold = None; connect_retry = from_now now seconds; idle_hold = None; keepalive = None }

abbrev pub only_idle_hold : ℕ → ℕ → Timers
only_idle_hold now seconds = record { hold = None; connect_retry = None; idle_hold = from_now now seconds; keepalive = None }

-- where an enabled peer's session falls to Idle, it begins again so many seconds from now
abbrev pub falling : Bool → ℕ → ℕ → Timers
falling enabled now seconds = if enabled then only_idle_hold now seconds else stopped

-- the hold time and a third of it from now; a hold time of 0 runs no timer (sections 4.2 and 4.4)
abbrev pub hold_end : ℕ → ℕ → Option ℕ
hold_end hold now = if hold == 0 then None else from_now now hold

abbrev pub keepalive_end : ℕ → ℕ → Option ℕ
keepalive_end hold now = if hold == 0 then None else from_now now (hold / 3)

-- both of these timers begin
abbrev pub opened_timers : ℕ → ℕ → Timers
opened_timers hold now = record { hold = hold_end hold now; connect_retry = None; idle_hold = None; keepalive = keepalive_end hold now }

-- one of them begins again
abbrev pub hold_again : ℕ → ℕ → Timers → Timers
hold_again hold now timers = record { hold = hold_end hold now; connect_retry = timers.connect_retry; idle_hold = timers.idle_hold; keepalive = timers.keepalive }

abbrev pub keepalive_again : ℕ → ℕ → Timers → Timers
keepalive_again hold now timers = record { hold = timers.hold; connect_retry = timers.connect_retry; idle_hold = timers.idle_hold; keepalive = keepalive_end hold now }

-- when a timer ends
abbrev pub end_of : Timer → Timers → Option ℕ
end_of Hold timers = timers.hold
end_of ConnectRetry timers = timers.connect_retry
end_of IdleHold timers = timers.idle_hold
end_of Keepalive timers = timers.keepalive

-- the timer has ended
abbrev pub has_ended : Timer → ℕ → Timers → Bool
has_ended timer now timers = has_come (end_of timer timers) now
