-- Octets of a line.
use Rattle.std.proofs.Common.{◌≡◌, ◌<◌, ◌+◌, ℕ, List, [], length, take, drop, sym}
use Rattle.std.proofs.lemmas.List.{append-nil, take-append-drop}
use Rattle.control_lines.specs.Lines.{GathersLine, IsWithin, most_of_a_line}
use Rattle.control_lines.specs.declared.line_buffer.Heard.TheVariants.{TooLong}

-- those before a line feed are too many
pub too_long_before : (old octets new : List ℕ) (count end : ℕ) → IsWithin (take end octets) → most_of_a_line < length old + length (take end octets) → new ≡ old → GathersLine old octets count TooLong new
too_long_before old octets new count end within many same = (take end octets, drop end octets, sym (take-append-drop end octets), within, many, same)

-- all are, and there is none
pub too_long_all : (old octets new : List ℕ) (count : ℕ) → IsWithin octets → most_of_a_line < length old + length octets → new ≡ old → GathersLine old octets count TooLong new
too_long_all old octets new count within many same = (octets, [], sym (append-nil octets), within, many, same)
