-- The words of a line (own).
use Rattle.std.specs.Prelude.{◌≡◌, ◌==◌, ◌<◌, ◌^◌, ℕ, ⊤, List, ◌∷◌, Option, MatchOption, Result, Ok, Err, codes, length}
use Rattle.std.specs.List.{slice_split}
use Rattle.std.specs.Net.Addr.{ipv4_bits}
use Rattle.std.specs.Net.Grammar.{IsIpv4Text}
use Rattle.std.specs.Str.Parse.{IsNumeral, digits_value}
use Rattle.std.specs.declared.net.ipv4_addr.Ipv4Addr.{Ipv4Addr}
use Rattle.bgp_attr.specs.declared.peer.Mode.{Mode}
use Rattle.bgp_attr.specs.declared.peer.Mode.TheVariants.{Active, Passive}
use Rattle.command_lines.specs.declared.command_line.LineFault.{LineFault}
use Rattle.command_lines.specs.declared.command_line.LineFault.TheVariants.{BadLine, NoMemory}

-- what stands between single spaces
abbrev pub words_in : List ℕ → List (List ℕ)
words_in text = slice_split (λ octet. octet == 32) text

-- decimal digits alone, which write this number
abbrev pub WritesNumber : List ℕ → ℕ → Type 0
WritesNumber word number = IsNumeral 10 word × (number ≡ digits_value 10 word)

-- the same of a number of so many bits
abbrev pub WritesBits : ℕ → List ℕ → ℕ → Type 0
WritesBits bits word number = WritesNumber word number × (number < 2 ^ bits)

-- the word may name something: it isn't empty
abbrev pub IsName : List ℕ → Type 0
IsName word = 0 < length word

-- this is the first of the words
abbrev pub Begin : List (List ℕ) → List ℕ → Type 0
Begin words word = (rest : List (List ℕ)) × (words ≡ word ∷ rest)

-- what was found is so, or nothing is
abbrev pub Finds : {X : Type 0} → (X → Type 0) → Option X → Type 0
Finds {X} IsSo found = MatchOption found ((x : X) → ¬ (IsSo x)) IsSo

-- what was read is so; or the line is bad, and this holds; or there was no memory
abbrev pub Reads : {X : Type 0} → (X → Type 0) → Type 0 → Result X LineFault → Type 0
Reads IsSo IsBad (Ok x) = IsSo x
Reads IsSo IsBad (Err BadLine) = IsBad
Reads IsSo IsBad (Err NoMemory) = ⊤

-- four numbers with dots between them
abbrev pub WritesAddress : List ℕ → ℕ → Type 0
WritesAddress word bits = (address : Ipv4Addr) × IsIpv4Text word address × (bits ≡ ipv4_bits address)

-- the word for which side connects
abbrev pub mode_word : Mode → List ℕ
mode_word Active = codes "active"
mode_word Passive = codes "passive"
