-- The lines of a file.
use Rattle.std.specs.Prelude.{◌≡◌, ◌==◌, ◌||◌, ◌&&◌, ◌-◌, ℕ, Bool, true, false, List, [], ◌∷◌, Option, Some, IfSome, drop, if◌then◌else◌, length, nat_eq, take}
use Rattle.std.specs.Cmp.Lexicographic.{pointwise}
use Rattle.std.specs.Io.BufRead.{drop_through}

-- the octet stands in front of the first line
abbrev pub in_front : ℕ → List (List ℕ) → List (List ℕ)
in_front octet [] = (octet ∷ []) ∷ []
in_front octet (line ∷ more) = (octet ∷ line) ∷ more

-- the lines of a text, each with its line feed
abbrev pub lines : List ℕ → List (List ℕ)
lines [] = []
lines (octet ∷ text) = if octet == 10 then (octet ∷ []) ∷ lines text else in_front octet (lines text)

-- nothing stands on the line but its end: a line feed, or a carriage return and a line feed
abbrev pub is_blank : List ℕ → Bool
is_blank [] = true
is_blank (octet ∷ []) = octet == 10
is_blank (octet ∷ next ∷ []) = octet == 13 && next == 10
is_blank (octet ∷ next ∷ other ∷ line) = false

-- the line begins with `#`
abbrev pub is_comment : List ℕ → Bool
is_comment [] = false
is_comment (octet ∷ line) = octet == 35

-- the line is passed over
abbrev pub says_nothing : List ℕ → Bool
says_nothing line = is_blank line || is_comment line

-- the line has this end
abbrev pub has_end : List ℕ → List ℕ → Bool
has_end end line = pointwise nat_eq (drop (length line - length end) line) end

-- a line without a carriage return and a line feed at its end, or without a line feed there
abbrev pub without_end : List ℕ → List ℕ
without_end line = if has_end (13 ∷ 10 ∷ []) line then take (length line - 2) line else if has_end (10 ∷ []) line then take (length line - 1) line else line

-- where it is known which octets are left, the first of their lines was read, and those behind it are left; there was none
-- where no octets were
abbrev pub ReadsLine : Option (List ℕ) → Bool → List ℕ → Option (List ℕ) → Type 0
ReadsLine old false line new = IfSome old (λ text. text ≡ [])
ReadsLine old true line new = IfSome old (λ text. (lines text ≡ line ∷ lines (drop_through 10 text)) × (new ≡ Some (drop_through 10 text)))
