-- The lines of a stream of octets: what stands in front of a line feed (own).
use Rattle.std.specs.Prelude.{◌≡◌, ◌<◌, ◌≤◌, ◌+◌, ◌++◌, ◌∷◌, ℕ, List, [], Contains, length, take}
use Rattle.control_lines.specs.declared.line_buffer.Heard.{Heard}
use Rattle.control_lines.specs.declared.line_buffer.Heard.TheVariants.{Part, Whole, TooLong}

-- the most octets of a line, without its line feed
unfoldable pub most_of_a_line : ℕ
most_of_a_line = 1024

-- the octet of a line feed
abbrev pub line_feed : ℕ
line_feed = 10

-- the octets have no line feed
abbrev pub IsWithin : List ℕ → Type 0
IsWithin octets = ¬ (Contains octets line_feed)

-- so many of these octets were taken, behind those that had come of the line: all of them, which don't end it, or just those up to
-- the first line feed, which does; a line that stays as it was has too many octets with those that stand before a line feed
abbrev pub GathersLine : List ℕ → List ℕ → ℕ → Heard → List ℕ → Type 0
GathersLine old octets count Part new = (count ≡ length octets) × IsWithin octets × (new ≡ old ++ octets) × (length new ≤ most_of_a_line)
GathersLine old octets count Whole new =
    (part : List ℕ) × (take count octets ≡ part ++ line_feed ∷ []) × IsWithin part × (new ≡ old ++ part) × (length new ≤ most_of_a_line)
GathersLine old octets count TooLong new =
    (part rest : List ℕ) × (octets ≡ part ++ rest) × IsWithin part × (most_of_a_line < length old + length part) × (new ≡ old)
