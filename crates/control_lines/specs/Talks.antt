-- What becomes of an exchange with an operator at a visit (own).
use Rattle.std.specs.Prelude.{◌≡◌, ◌≢◌, ◌==◌, ◌≤◌, ◌-◌, ◌&&◌, ◌⊎◌, ◌++◌, ◌∷◌, if◌then◌else◌, ℕ, Bool, true, false, not, nat_le, nat_lt, List, [], Option, None, Some, codes, drop, length}
use Rattle.std.specs.Io.KnownBytes.{Appends, Consumes, Keeps}
use Rattle.control_lines.specs.Lines.{GathersLine, line_feed}
use Rattle.control_lines.specs.declared.line_buffer.Heard.{Heard}
use Rattle.control_lines.specs.declared.line_buffer.Heard.TheVariants.{Part, Whole, TooLong}
use Rattle.control_lines.specs.declared.talk.Talk.{Talk}
use Rattle.control_lines.specs.declared.talk.Wish.{Wish}
use Rattle.control_lines.specs.declared.talk.Wish.TheVariants.{Nothing, Answer, More}

-- nothing has come or gone
abbrev pub silent : Talk
silent = record { line = []; chunk = []; saying = []; wish = Nothing; is_leaving = false }

-- what the operator waits for, as others see it: nothing where what was said isn't all written, or the operator is to go
abbrev pub shown_wish : Talk → Wish
shown_wish talk = if length talk.saying == 0 && not talk.is_leaving then talk.wish else Nothing

-- what it waits for behind what is said
abbrev pub wish_behind : Bool → Wish
wish_behind true = More
wish_behind false = Nothing

-- these octets are said, with more to come or not, and the line is answered; where there is no memory for them the operator is to go
abbrev pub Says : Bool → List ℕ → Talk → Talk → Type 0
Says goes_on octets old new =
    (new.line ≡ []) × (new.chunk ≡ old.chunk) × (new.wish ≡ wish_behind goes_on)
    × (((new.saying ≡ octets) × (new.is_leaving ≡ old.is_leaving)) ⊎ ((new.saying ≡ []) × (new.is_leaving ≡ true)))

-- they are where an answer is waited for, or more of one, and else nothing is
abbrev pub SaysIf : Wish → Bool → List ℕ → Talk → Talk → Type 0
SaysIf Nothing goes_on octets old new = new ≡ old
SaysIf Answer goes_on octets old new = Says goes_on octets old new
SaysIf More goes_on octets old new = Says goes_on octets old new

-- its next line is to come
abbrev pub awaits_line : Wish → Bool
awaits_line Nothing = true
awaits_line Answer = false
awaits_line More = false

-- a line has begun that isn't whole
abbrev pub has_begun : Talk → Bool
has_begun talk = awaits_line talk.wish && (not talk.is_leaving && nat_lt 0 (length talk.line))

-- what is said of a line that is too long
abbrev pub too_long : List ℕ
too_long = codes "refused: a line has at most 1024 octets" ++ line_feed ∷ []

-- what octets of a line lead to: it goes on, it is to be answered, or the operator is to go and is told why, if there is memory
abbrev pub Follows : Heard → Talk → Talk → Type 0
Follows Part old new = (new.wish ≡ old.wish) × (new.saying ≡ old.saying) × (new.is_leaving ≡ old.is_leaving)
Follows Whole old new = (new.wish ≡ Answer) × (new.saying ≡ old.saying) × (new.is_leaving ≡ old.is_leaving)
Follows TooLong old new = (new.wish ≡ old.wish) × (new.is_leaving ≡ true) × ((new.saying ≡ too_long) ⊎ (new.saying ≡ []))

-- of these octets so many go to the line, up to its line feed at most, and the others stay
pub record Hears (octets : List ℕ) (old new : Talk) : Type 0 where
  pub count : ℕ
  pub heard : Heard
  pub few : count ≤ length octets
  pub gathers : GathersLine old.line octets count heard new.line
  pub left : new.chunk ≡ drop count octets
  pub follows : Follows heard old new

-- nothing came or went: what may be read of the stream is as it was, and so is what it took
abbrev pub Rests : Talk → Talk → Option (List ℕ) → Option (List ℕ) → Option (List ℕ) → Option (List ℕ) → Type 0
Rests old new before after taken taken_behind = (new ≡ old) × Keeps before after × Keeps taken taken_behind

-- the first octets of what was said were written: the stream took just them, and nothing was read of it
pub record Writes (old new : Talk) (before after taken taken_behind : Option (List ℕ)) : Type 0 where
  pub octets : List ℕ
  pub some : octets ≢ []
  pub front : old.saying ≡ octets ++ new.saying
  pub same : new ≡ record old { saying = new.saying }
  pub took : Appends taken taken_behind octets
  pub unread : Keeps before after

-- a line goes on by octets that had come already
pub record HearsMore (old new : Talk) (before after taken taken_behind : Option (List ℕ)) : Type 0 where
  pub some : old.chunk ≢ []
  pub unread : after ≡ before
  pub unwritten : taken_behind ≡ taken
  pub hears : Hears old.chunk old new

-- or else by those that the stream gives
pub record HearsNew (old new : Talk) (before after taken taken_behind : Option (List ℕ)) : Type 0 where
  pub none : old.chunk ≡ []
  pub came : List ℕ
  pub some : came ≢ []
  pub read : Consumes before after came
  pub unwritten : Keeps taken taken_behind
  pub hears : Hears came old new

-- what listening led to: nothing came, also where the operator is gone; or octets did
abbrev pub Listening : Option Bool → Talk → Talk → Option (List ℕ) → Option (List ℕ) → Option (List ℕ) → Option (List ℕ) → Type 0
Listening None old new before after taken taken_behind = Rests old new before after taken taken_behind
Listening (Some false) old new before after taken taken_behind = Rests old new before after taken taken_behind
Listening (Some true) old new before after taken taken_behind = HearsMore old new before after taken taken_behind ⊎ HearsNew old new before after taken taken_behind

-- what writing led to: nothing went, also where the operator is gone; or octets did
abbrev pub Writing : Option Bool → Talk → Talk → Option (List ℕ) → Option (List ℕ) → Option (List ℕ) → Option (List ℕ) → Type 0
Writing None old new before after taken taken_behind = Rests old new before after taken taken_behind
Writing (Some false) old new before after taken taken_behind = Rests old new before after taken taken_behind
Writing (Some true) old new before after taken taken_behind = Writes old new before after taken taken_behind

-- all is written, and a line is to come
abbrev pub Awaits : Talk → Type 0
Awaits talk = (awaits_line talk.wish ≡ true) × (talk.saying ≡ []) × (talk.is_leaving ≡ false)

-- what an exchange was: nothing came or went, also where the operator is gone, or octets were written, or read
abbrev pub Exchanges : Option Bool → Talk → Talk → Option (List ℕ) → Option (List ℕ) → Option (List ℕ) → Option (List ℕ) → Type 0
Exchanges None old new before after taken taken_behind = Rests old new before after taken taken_behind
Exchanges (Some false) old new before after taken taken_behind = Rests old new before after taken taken_behind
Exchanges (Some true) old new before after taken taken_behind =
    Writes old new before after taken taken_behind ⊎ (Awaits old × Listening (Some true) old new before after taken taken_behind)

-- that long ago is too long
abbrev pub is_late : ℕ → ℕ → Bool
is_late moved now = nat_le 60 (now - moved)

-- when the operator moved last: now, unless its line only goes on, which it may for a minute
abbrev pub MovedAt : Bool → ℕ → ℕ → ℕ → Type 0
MovedAt true now at moved = (moved ≡ at) × (is_late at now ≡ false)
MovedAt false now at moved = moved ≡ now

-- who stays when octets came or went, or none did, and a line goes on or not: unless it only goes on the operator moved just now,
-- and else it hasn't been still for too long
abbrev pub Stays : Option Bool → Bool → Bool → ℕ → ℕ → ℕ → Type 0
Stays None has_moved goes_on now at moved = ((has_moved && not goes_on) ≡ false) × (is_late at now ≡ true)
Stays (Some stays) has_moved goes_on now at moved = (stays ≡ has_moved) × MovedAt (not (has_moved && not goes_on)) now at moved

-- a line goes on that had begun too long ago
pub record IsSlow (now at : ℕ) (old new : Talk) (before after taken taken_behind : Option (List ℕ)) : Type 0 where
  pub begun : (has_begun old && has_begun new) ≡ true
  pub late : is_late at now ≡ true
  pub goes_on : Exchanges (Some true) old new before after taken taken_behind

-- a visit at a moment to one who moved last at another: who stays has moved, or not been still for too long; of who goes nothing came
-- or went, unless it was a line that takes too long
abbrev pub Visits : Option Bool → ℕ → ℕ → ℕ → Talk → Talk → Option (List ℕ) → Option (List ℕ) → Option (List ℕ) → Option (List ℕ) → Type 0
Visits None now at moved old new before after taken taken_behind =
    Rests old new before after taken taken_behind ⊎ IsSlow now at old new before after taken taken_behind
Visits (Some false) now at moved old new before after taken taken_behind =
    Rests old new before after taken taken_behind × (moved ≡ at) × (is_late at now ≡ false)
Visits (Some true) now at moved old new before after taken taken_behind = Exchanges (Some true) old new before after taken taken_behind × MovedAt (has_begun old && has_begun new) now at moved
