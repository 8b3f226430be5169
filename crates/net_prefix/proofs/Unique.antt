use Rattle.std.proofs.Common.{◌≡◌, ◌<◌, ◌^◌, ◌++◌, ◌/◌, ◌%◌, ℕ, List, [], ◌∷◌, get_or, Result, Ok, Err, arith, refl, sym, ap, ◌∙◌}
use Rattle.std.specs.Net.Text.{ipv4_text}
use Rattle.std.specs.declared.net.ipv4_addr.Ipv4Addr.{Ipv4Addr}
use Rattle.std.proofs.NetLemmas.Theorems.{IsIpv4Text_unique}
use Rattle.std.proofs.lemmas.Fmt.{decimal_injective}
use Rattle.net_prefix.specs.declared.fault.PrefixFault.{PrefixFault}
use Rattle.net_prefix.specs.declared.fault.PrefixFault.TheVariants.{LenOver32, HostBits, Text, MaxRange, Cut}
use Rattle.net_prefix.specs.declared.prefix.Prefix.{Prefix}
use Rattle.net_prefix.specs.Cover.{HasNoHostBits}
use Rattle.net_prefix.specs.PrefixFaults.{IsPrefix}
use Rattle.net_prefix.specs.PrefixSpelling.{address_octets}
use Rattle.net_prefix.specs.PrefixText.{text_of, Writes, Parses, ParsesAgain}
use Rattle.net_prefix.proofs.Texts.{NoSlash, no_slash_address, text_parts, is_dotted}

-- A text writes one address and one length.

same_front : (xs ys us vs : List ℕ) → NoSlash xs → NoSlash us → xs ++ (47 ∷ ys) ≡ us ++ (47 ∷ vs) → (xs ≡ us) × (ys ≡ vs)
same_front [] ys [] vs h k e = (refl, cc)
same_front [] ys (u ∷ us) vs h k e = absurd (k.0 (cc))
same_front (x ∷ xs) ys [] vs h k e = absurd (h.0 (cc))
same_front (x ∷ xs) ys (u ∷ us) vs h k e =
    let tails : xs ++ (47 ∷ ys) ≡ us ++ (47 ∷ vs) = cc in
    let same = same_front xs ys us vs h.1 k.1 tails in
    ((cc), same.1)

same_bits : (b c : ℕ) → b < 2 ^ 32 → c < 2 ^ 32 → address_octets b ≡ address_octets c → b ≡ c
same_bits b c small_b small_c e =
    let first : b / 2 ^ 24 % 256 ≡ c / 2 ^ 24 % 256 = ap (λ (xs : List ℕ). get_or xs 0 0) e in
    let second : b / 2 ^ 16 % 256 ≡ c / 2 ^ 16 % 256 = ap (λ (xs : List ℕ). get_or xs 1 0) e in
    let third : b / 2 ^ 8 % 256 ≡ c / 2 ^ 8 % 256 = ap (λ (xs : List ℕ). get_or xs 2 0) e in
    let fourth : b % 256 ≡ c % 256 = ap (λ (xs : List ℕ). get_or xs 3 0) e in
    omega arith

same_octets : (b c : ℕ) → ipv4_text (address_octets b) ≡ ipv4_text (address_octets c) → address_octets b ≡ address_octets c
same_octets b c e =
    let one : Ipv4Addr = record { octets = address_octets b } in
    let other : Ipv4Addr = record { octets = address_octets c } in
    ap (λ (a : Ipv4Addr). a.octets) (IsIpv4Text_unique (ipv4_text (address_octets b)) one other (is_dotted b _ refl) (is_dotted c _ e))

-- a text writes one address and one length
pub writes_one : (text : List ℕ) (b l c m : ℕ) → Writes text b l → Writes text c m → (b ≡ c) × (l ≡ m)
writes_one text b l c m h k =
    let same = same_front _ _ _ _ (no_slash_address b) (no_slash_address c) (sym (text_parts b l) ∙ sym h.2 ∙ k.2 ∙ text_parts c m) in (
      same_bits b c h.0 k.0 (same_octets b c same.0),
      decimal_injective l m (omega (arith, h.1)) (omega (arith, k.1)) same.1,
    )

-- what a prefix is printed as is parsed as the same prefix
pub parses_again : (bits len : ℕ) (answer : Result Prefix PrefixFault) → bits < 2 ^ 32 → IsPrefix bits len → Parses (text_of bits len) answer → ParsesAgain bits len answer
parses_again bits len (Ok prefix) small h found =
    writes_one (text_of bits len) prefix.bits prefix.len bits len found (small, omega (arith, h.0), refl)
parses_again bits len (Err LenOver32) small h found =
    let same = writes_one (text_of bits len) found.0 found.1 bits len found.2 (small, omega (arith, h.0), refl) in
    omega (arith, same.1, found.3, h.0)
parses_again bits len (Err HostBits) small h found =
    let same = writes_one (text_of bits len) found.0 found.1 bits len found.2 (small, omega (arith, h.0), refl) in
    let P : ℕ → ℕ → Type 0 = λ b l. HasNoHostBits b l in
    found.3.1 (rw (same.0, same.1) h.1)
parses_again bits len (Err Text) small h found = found bits len (small, omega (arith, h.0), refl)
parses_again bits len (Err MaxRange) small h found = found
parses_again bits len (Err Cut) small h found = found
