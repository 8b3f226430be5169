-- The text with which a peer shuts a session down (RFC 9003), and how a log has it (own).
use Rattle.std.specs.Prelude.{◌≡◌, ◌==◌, ◌&&◌, ◌||◌, ◌∷◌, ℕ, Bool, List, IsUtf8, length, not}
use Rattle.std.specs.Char.{is_control}
use Rattle.std.specs.Int.{is_in_range}

-- a NOTIFICATION of Cease whose subcode is Administrative Shutdown or Administrative Reset may have a Shutdown Communication
abbrev pub is_of_shutdown : ℕ → ℕ → Bool
is_of_shutdown code subcode = code == 6 && (subcode == 2 || subcode == 4)

-- the data are a Shutdown Communication of this text: one octet of length, and so many octets of UTF-8
abbrev pub Communicates : List ℕ → List ℕ → Type 0
Communicates octets text = (octets ≡ length text ∷ text) × IsUtf8 text

-- marks of direction, separators of lines and of paragraphs, and the mark of byte order (Unicode)
abbrev pub is_mark : ℕ → Bool
is_mark c = c == 0x061C || (c == 0x200E || (c == 0x200F || (is_in_range 0x2028 0x202E c || (is_in_range 0x2066 0x2069 c || c == 0xFEFF))))

-- a log has the character as it is: neither a control character, a quote, a backslash nor such a mark
abbrev pub is_plain : ℕ → Bool
is_plain c = not (is_control c || (c == 34 || (c == 92 || is_mark c)))
