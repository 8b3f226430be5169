-- How long a client may be silent before it loses its place (own).
use Rattle.std.specs.Prelude.{◌+◌, ℕ, Bool, false, max, nat_le, if◌then◌else◌}
use Rattle.net_prefix.specs.declared.transport.Transport.{Transport}
use Rattle.net_prefix.specs.declared.transport.Transport.TheVariants.{None as NoClient, Opening, Listening, Open, Closing}
use Rattle.cache_turns.specs.declared.patience.Moments.{Moments}
use Rattle.cache_turns.specs.declared.patience.Patience.{Patience}

-- how long a connection stands whose session the cache has closed
abbrev pub closing_seconds : ℕ
closing_seconds = 60

-- so many seconds have passed since a moment
abbrev pub have_passed : ℕ → ℕ → ℕ → Bool
have_passed seconds since now = nat_le (since + seconds) now

-- a connection comes
abbrev pub arriving_at : ℕ → Moments
arriving_at now = record { came = now; heard = now }

-- octets come: they count while the session is open, and never for a moment before the last one
abbrev pub heard_at : ℕ → Transport → Moments → Moments
heard_at now Open moments = record moments { heard = max moments.heard now }
heard_at now Closing moments = moments
heard_at now Listening moments = moments
heard_at now Opening moments = moments
heard_at now NoClient moments = moments

-- a client has lost its place: in an open session where its first whole PDU, or later any octets, are overdue; in a closed one where it was closed so long ago
abbrev pub outlasts : Patience → Moments → Transport → Bool → ℕ → Bool
outlasts patience moments Open awaits_first_pdu now =
    if awaits_first_pdu then have_passed patience.first moments.came now else have_passed patience.idle moments.heard now
outlasts patience moments Closing awaits_first_pdu now = have_passed closing_seconds moments.heard now
outlasts patience moments Listening awaits_first_pdu now = false
outlasts patience moments Opening awaits_first_pdu now = false
outlasts patience moments NoClient awaits_first_pdu now = false
