-- The sessions of a speaker, and the place of each: those of the slots in order, and that with the cache behind them.
use Rattle.std.specs.Prelude.{ℕ, nat_lt, if◌then◌else◌}
use Rattle.speaker_turns.specs.declared.end.End.{End}
use Rattle.speaker_turns.specs.declared.end.End.TheVariants.{Peer, Cache}

-- the session that belongs to a place
abbrev pub end_at : ℕ → End
end_at place = if nat_lt place 64 then Peer place else Cache

-- how many places there are
unfoldable pub place_count : ℕ
place_count = 65

-- the place of a session; that of a slot that isn't there is none of them
abbrev pub place_of : End → ℕ
place_of (Peer slot) = if nat_lt slot 64 then slot else 65
place_of Cache = 64
