-- What sockets may be ready for, as far as the system has told.
use Rattle.std.specs.Prelude.{◌≡◌, ◌==◌, ◌-◌, ◌^◌, ℕ, Bool, MatchBool, true, false, ◌||◌, Option, Some, None, option_map, unwrap_or}
use Rattle.mio.specs.Event.{event_token, is_error, is_readable, is_read_closed, is_writable, is_write_closed}
use Rattle.mio.specs.declared.event.event.Event.{Event}
use Rattle.slab.specs.Slab.{Slab, Updates, get}
use Rattle.net_wires.specs.declared.readiness.Readiness.{Readiness}

-- for reading and for writing
abbrev pub for_both : Readiness
for_both = record { may_read = true; may_write = true; is_ending = false }

-- for what was known, and for what is told
abbrev pub joined : Readiness → Readiness → Readiness
joined told known = record { may_read = told.may_read || known.may_read; may_write = told.may_write || known.may_write; is_ending = told.is_ending || known.is_ending }

-- not for reading, and not for writing
abbrev pub not_to_read : Readiness → Readiness
not_to_read known = record known { may_read = false }

abbrev pub not_to_write : Readiness → Readiness
not_to_write known = record known { may_write = false }

-- what the socket of a key may be ready for; one that isn't watched may be for both
abbrev pub readiness_of : Slab Readiness → Option ℕ → Readiness
readiness_of sockets None = for_both
readiness_of sockets (Some key) = unwrap_or (get sockets key) for_both

-- what is known of the socket of a key changes so, and of no other
abbrev pub Changes : (Readiness → Readiness) → Option ℕ → Slab Readiness → Slab Readiness → Type 0
Changes by None old new = new ≡ old
Changes by (Some key) old new = Updates old new key (option_map by (get old key))

-- the socket of a key isn't watched any more
abbrev pub Forgets : Option ℕ → Slab Readiness → Slab Readiness → Type 0
Forgets None old new = new ≡ old
Forgets (Some key) old new = Updates old new key None

-- every socket may be ready for both
abbrev pub AllMayBeReady : Slab Readiness → Type 0
AllMayBeReady sockets = (key : Option ℕ) → readiness_of sockets key ≡ for_both

-- what may be ready still may be
pub record MayStill (old new : Readiness) : Type 0 where
  pub reading : old.may_read ≡ true → new.may_read ≡ true
  pub writing : old.may_write ≡ true → new.may_write ≡ true

abbrev pub AllMayStill : Slab Readiness → Slab Readiness → Type 0
AllMayStill old new = (key : Option ℕ) → MayStill (readiness_of old key) (readiness_of new key)

-- what an event tells of its socket; an end or a failure is told by a read, by a write and by the state of an attempt alike
abbrev pub told_by : Event → Readiness
told_by event = record {
  may_read = is_readable event || is_read_closed event || is_error event;
  may_write = is_writable event || is_write_closed event || is_error event;
  is_ending = is_read_closed event || is_error event;
}

-- the number that names the listener
abbrev pub listener_number : ℕ
listener_number = 2 ^ 64 - 1

-- an event is kept in mind: of the listener, at which a connection may wait, or of a socket, which may be ready for what it tells
abbrev pub IsHeard : Slab Readiness → Bool → Event → Type 0
IsHeard sockets may_accept event =
    let number = (event_token event).0 in
    MatchBool (number == listener_number) (may_accept ≡ true) (MayStill (told_by event) (readiness_of sockets (Some number)))
