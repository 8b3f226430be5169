-- What has come of an operator (own).
use Rattle.std.specs.Prelude.{◌≡◌, ◌≢◌, ◌++◌, ◌∷◌, ℕ, Bool, false, List, [], Option, Some}
use Rattle.std.specs.Io.KnownBytes.{Appends, Consumes}
use Rattle.control_lines.specs.Lines.{line_feed}
use Rattle.control_lines.specs.Talks.{Exchanges, SaysIf, shown_wish}
use Rattle.control_lines.specs.declared.talk.Talk.{Talk}
use Rattle.control_lines.specs.declared.talk.Wish.{Wish}
use Rattle.control_lines.specs.declared.talk.Wish.TheVariants.{Nothing, Answer, More}

-- what has come of the line, with its line feed where it is whole
abbrev pub line_so_far : Wish → List ℕ → List ℕ
line_so_far Nothing line = line
line_so_far Answer line = line ++ line_feed ∷ []
line_so_far More line = line

-- the octets that have come and are of no line that was answered
abbrev pub unanswered : Talk → List ℕ
unanswered talk = line_so_far talk.wish talk.line ++ talk.chunk

-- at a visit of one who stays just the octets that the stream gave are put behind those that had come, and none is lost
abbrev pub VisitsLoseNone : Type 0
VisitsLoseNone = (has_moved : Bool) (old new : Talk) (before after taken taken_behind : Option (List ℕ)) → Exchanges (Some has_moved) old new before after taken taken_behind → new.is_leaving ≡ false
    → (octets : List ℕ) × Consumes before after octets × (unanswered new ≡ unanswered old ++ octets)

-- an answer takes away its line, which is whole, with its line feed, and what came behind it stays
abbrev pub AnswersTakeTheirLine : Type 0
AnswersTakeTheirLine = (goes_on : Bool) (octets : List ℕ) (old new : Talk) → shown_wish old ≡ Answer → SaysIf (shown_wish old) goes_on octets old new → unanswered old ≡ (old.line ++ line_feed ∷ []) ++ unanswered new

-- of what was said to one who is visited and stays the stream took the first octets, or none, and the others are still to be written
abbrev pub VisitsWriteInOrder : Type 0
VisitsWriteInOrder = (has_moved : Bool) (old new : Talk) (before after taken taken_behind : Option (List ℕ)) → Exchanges (Some has_moved) old new before after taken taken_behind → old.saying ≢ []
    → (octets : List ℕ) × Appends taken taken_behind octets × (old.saying ≡ octets ++ new.saying)
