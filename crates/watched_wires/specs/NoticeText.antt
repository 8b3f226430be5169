-- The text that a NOTIFICATION tells (RFC 9003), as far as its octets are kept.
use Rattle.std.specs.Prelude.{◌≡◌, ℕ, List, take, true}
use Rattle.watched_wires.specs.ShutdownText.{Communicates, is_of_shutdown}
use Rattle.watched_wires.specs.declared.notice.Notice.{Notice}

-- the first of its data
abbrev pub kept_of : Notice → List ℕ
kept_of notice = take notice.first.count notice.first.octets

-- it is one that may have a Shutdown Communication, and all of its data are one of this text
abbrev pub TellsText : Notice → List ℕ → Type 0
TellsText notice text = (is_of_shutdown notice.code notice.subcode ≡ true) × (notice.left ≡ 0) × Communicates (kept_of notice) text
