-- For how long the timers run that an operator may set: of the peer of each slot (RFC 4271 section 8), and of the cache session (RFC 8210 section 6).
use Rattle.std.specs.Prelude.{◌&&◌, ℕ, Bool, nat_le, nat_lt, replicate, slice_get, slice_set, unwrap_or, if◌then◌else◌}
use Rattle.std.specs.List.{list_all}
use Rattle.bgp_fsm.specs.TimerMoments as session
use Rattle.bgp_fsm.specs.TimerMoments.{usual}
use Rattle.bgp_fsm.specs.declared.timers.PeerTimers.{PeerTimers}
use Rattle.runs.specs.declared.config.SlotTimers.{SlotTimers}

-- those of the peer of a slot, and the usual ones behind the last slot
abbrev pub times_at : SlotTimers → ℕ → PeerTimers
times_at timers slot = unwrap_or (slice_get timers.slots slot) usual

-- the usual ones in each slot
abbrev pub usual_timers : SlotTimers
usual_timers = record { slots = replicate 64 usual }

-- the peer of a slot has these
abbrev pub with_times : SlotTimers → ℕ → PeerTimers → SlotTimers
with_times timers slot times = if nat_lt slot 64 then record { slots = slice_set timers.slots slot times } else timers

-- each of them runs for a second at least
abbrev pub are_lawful : SlotTimers → Bool
are_lawful timers = list_all (λ times. session.are_lawful times) timers.slots

-- the seconds that a Retry Interval may be
abbrev pub is_retry : ℕ → Bool
is_retry seconds = nat_le 1 seconds && nat_le seconds 7200
