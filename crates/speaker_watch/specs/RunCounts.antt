-- What a run of a speaker counts (own).
use Rattle.std.specs.Prelude.{◌+◌, ◌-◌, ◌^◌, ℕ, Bool, true, List, [], ◌∷◌, Option, None, Some, min, nat_le}
use Rattle.speaker_figures.specs.NoticeCounts.{counting, none_counted as no_notices, one_more}
use Rattle.speaker_figures.specs.declared.figures.SpeakerFigures.{SpeakerFigures}
use Rattle.speaker_watch.specs.declared.counts.Counts.{Counts}
use Rattle.speaker_watch.specs.declared.counts.Standing.{Standing}
use Rattle.watched_wires.specs.declared.events.Seen.{Seen}
use Rattle.watched_wires.specs.declared.events.Seen.TheVariants.{NoAttempt, AttemptFailed, Refused, AttemptEnded, Ended, Received, Sent}
use Rattle.watched_wires.specs.declared.events.WireEvent.{WireEvent}

abbrev pub none_counted : Counts
none_counted = record { received = no_notices; sent = no_notices; turns = 0; counted = None; routes = 0; payloads = 0 }

-- this was seen: NOTIFICATIONs are counted by their codes
abbrev pub seeing : Seen → Counts → Counts
seeing NoAttempt counts = counts
seeing (AttemptFailed why) counts = counts
seeing (Refused why) counts = counts
seeing (AttemptEnded why) counts = counts
seeing (Ended why) counts = counts
seeing (Received notice) counts = record counts { received = counting notice.code counts.received }
seeing (Sent notice) counts = record counts { sent = counting notice.code counts.sent }

-- all of these, in order
abbrev pub seeing_all : List WireEvent → Counts → Counts
seeing_all [] counts = counts
seeing_all (event ∷ events) counts = seeing_all events (seeing event.seen counts)

-- a turn was taken, in which they were
abbrev pub taking : List WireEvent → Counts → Counts
taking events counts = seeing_all events (record counts { turns = one_more counts.turns })

-- routes and payloads are to be counted again: they weren't yet, or so many seconds ago
abbrev pub is_to_count : ℕ → Option ℕ → ℕ → Bool
is_to_count every None now = true
is_to_count every (Some counted) now = nat_le every (now - counted)

-- the figures of a run behind a turn, as it stands there
abbrev pub figures_of : Counts → Standing → SpeakerFigures
figures_of counts standing = record {
  sessions = standing.sessions;
  cache = standing.cache;
  routes = counts.routes;
  payloads = counts.payloads;
  received = counts.received;
  sent = counts.sent;
  octets_in = standing.octets_in;
  octets_out = standing.octets_out;
  lost = standing.lost;
  closed = standing.closed;
  turns = counts.turns;
}
