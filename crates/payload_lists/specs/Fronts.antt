-- How a list begins, as far as it was read.
use Rattle.std.specs.Prelude.{◌≡◌, ◌⊎◌, ℕ, Bool, true, false, List, [], ◌∷◌, Option, if◌then◌else◌}
use Rattle.std.specs.Io.KnownBytes.{Consumes, IsAtEnd}
use Rattle.vrp_json.specs.ListFormats.{is_space}

-- whether octets tell the format of a list that begins with them: one of them is no white space
abbrev pub tells_format : List ℕ → Bool
tells_format [] = false
tells_format (octet ∷ rest) = if is_space octet then tells_format rest else true

-- of a list this was read, where what it had and what is left are known; it tells the format, or is the whole list
abbrev pub IsFront : Option (List ℕ) → List ℕ → Option (List ℕ) → Type 0
IsFront list front left = Consumes list left front × (IsAtEnd left ⊎ (tells_format front ≡ true))
