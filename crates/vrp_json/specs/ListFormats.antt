-- By its first octet a list is told to be JSON or comma-separated values (our own choice).
use Rattle.std.specs.Prelude.{ℕ, Bool, ◌||◌, ◌==◌, List, [], ◌∷◌, if◌then◌else◌}
use Rattle.vrp_json.specs.declared.format.ListFormat.{ListFormat}
use Rattle.vrp_json.specs.declared.format.ListFormat.TheVariants.{Csv, Json}

-- white space of JSON (RFC 8259 section 2)
abbrev pub is_space : ℕ → Bool
is_space octet = octet == 32 || (octet == 9 || (octet == 10 || octet == 13))

-- the format of a list that begins with this octet
abbrev pub of_first : ℕ → ListFormat
of_first octet = if octet == 123 then Json else Csv

-- the format of a list: an object where the first octet that is no white space is an opening brace
abbrev pub format_of : List ℕ → ListFormat
format_of [] = Csv
format_of (octet ∷ rest) = if is_space octet then format_of rest else of_first octet
