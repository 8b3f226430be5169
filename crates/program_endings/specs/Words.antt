-- The words behind a program's name.
use Rattle.std.specs.Prelude.{◌≡◌, ◌<◌, ◌^◌, ◌==◌, ℕ, Bool, false, List, [], ◌∷◌, String, string_bytes}
use Rattle.std.specs.declared.alloc.Global.{Global}
use Rattle.std.specs.Str.Parse.{IsNumeral, digits_value}

-- the text is one decimal digit or more, which write this number within u64
abbrev pub WritesTurns : List ℕ → ℕ → Type 0
WritesTurns text turns = IsNumeral 10 text × (turns ≡ digits_value 10 text) × (turns < 2 ^ 64)

-- the word begins with a hyphen
abbrev pub is_option : List ℕ → Bool
is_option [] = false
is_option (octet ∷ octets) = octet == 45

-- the words are the path of the settings and a number of turns; without it there are as many as a number of 64 bits can say
abbrev pub IsCall : List (String Global) → List ℕ → ℕ → Type 0
IsCall [] path turns = ⊥
IsCall (settings ∷ []) path turns = (is_option (string_bytes settings) ≡ false) × (path ≡ string_bytes settings) × (turns ≡ 18446744073709551615)
IsCall (settings ∷ count ∷ []) path turns = (path ≡ string_bytes settings) × WritesTurns (string_bytes count) turns
IsCall (settings ∷ count ∷ more ∷ words) path turns = ⊥
