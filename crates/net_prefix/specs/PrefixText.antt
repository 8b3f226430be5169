-- The text of a prefix, as 10.0.0.0/16 (RFC 4632 section 3.1).
use Rattle.std.specs.Prelude.{◌≡◌, ◌≢◌, ◌<◌, ◌^◌, ◌++◌, ℕ, List, Option, codes, decimal, Result, MatchOption, MatchResult}
use Rattle.std.specs.Net.Text.{ipv4_text}
use Rattle.net_prefix.specs.declared.fault.PrefixFault.{PrefixFault}
use Rattle.net_prefix.specs.declared.fault.PrefixFault.TheVariants.{LenOver32, HostBits, Text, MaxRange, Cut}
use Rattle.net_prefix.specs.declared.prefix.Prefix.{Prefix}
use Rattle.net_prefix.specs.PrefixFaults.{IsNoPrefix}
use Rattle.net_prefix.specs.PrefixSpelling.{address_octets}

-- the octets of the address in decimal with dots between them, a slash and the length: no leading zeros
unfoldable pub text_of : ℕ → ℕ → List ℕ
text_of bits len = ipv4_text (address_octets bits) ++ codes "/" ++ decimal len

-- the text writes this address, and this length of one or two digits
abbrev pub Writes : List ℕ → ℕ → ℕ → Type 0
Writes text bits len = (bits < 2 ^ 32) × (len < 100) × (text ≡ text_of bits len)

-- the address and the length that a text writes, where it writes them
abbrev pub WritesParts : List ℕ → Option (ℕ × ℕ) → Type 0
WritesParts text answer =
    MatchOption answer ((bits len : ℕ) → ¬ (Writes text bits len)) (λ parts. Writes text parts.0 parts.1)

-- the address that a text writes, where it writes one
abbrev pub WritesAddress : List ℕ → Option ℕ → Type 0
WritesAddress text answer =
    MatchOption answer
    ((bits : ℕ) → bits < 2 ^ 32 → text ≢ ipv4_text (address_octets bits))
    (λ bits. text ≡ ipv4_text (address_octets bits))

-- the length of at most two digits that a text writes, where it writes one
abbrev pub WritesLength : List ℕ → Option ℕ → Type 0
WritesLength text answer =
    MatchOption answer ((len : ℕ) → len < 100 → text ≢ decimal len) (λ len. (len < 100) × (text ≡ decimal len))

-- why the text names no prefix: first that it writes no address and length, then why these are no prefix
abbrev pub NamesNone : List ℕ → PrefixFault → Type 0
NamesNone text LenOver32 = (bits : ℕ) × (len : ℕ) × Writes text bits len × IsNoPrefix bits len LenOver32
NamesNone text HostBits = (bits : ℕ) × (len : ℕ) × Writes text bits len × IsNoPrefix bits len HostBits
NamesNone text Text = (bits len : ℕ) → ¬ (Writes text bits len)
NamesNone text MaxRange = ⊥
NamesNone text Cut = ⊥

-- the answer for a text: the prefix that it names, or why it names none
abbrev pub Parses : List ℕ → Result Prefix PrefixFault → Type 0
Parses text answer =
    MatchResult answer (λ prefix. Writes text prefix.bits prefix.len) (λ fault. NamesNone text fault)

-- the answer is the prefix of this address and length
abbrev pub ParsesAgain : ℕ → ℕ → Result Prefix PrefixFault → Type 0
ParsesAgain bits len answer =
    MatchResult answer (λ prefix. (prefix.bits ≡ bits) × (prefix.len ≡ len)) (λ fault. ⊥)
