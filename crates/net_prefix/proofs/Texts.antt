use Rattle.std.proofs.Common.{◌≡◌, ◌≢◌, ◌<◌, ◌^◌, ◌++◌, ◌/◌, ◌%◌, ℕ, zero, suc, List, [], ◌∷◌, length, get_or, decimal, codes, Option, MatchOption, Bor, arith, refl, sym, ap, ◌∙◌, append_assoc, lit<}
use Rattle.std.specs.List.{AllByRecursion}
use Rattle.std.specs.Str.Parse.{AllDigits}
use Rattle.std.specs.Net.Addr.{ipv4_octets, ipv4_bits}
use Rattle.std.specs.Net.Grammar.{IsDotted}
use Rattle.std.specs.Net.Text.{ipv4_text}
use Rattle.std.specs.declared.net.ipv4_addr.Ipv4Addr.{Ipv4Addr}
use Rattle.std.proofs.lemmas.Fmt.{decimal_is_IsNumeral}
use Rattle.std.proofs.lemmas.Nat.{be_bytes_4}
use Rattle.std.proofs.lemmas.Str.Parse.{digit_from_value}
use Rattle.std.proofs.lemmas.Str.Pattern.{IsSplitOnceResult, split_after}
use Rattle.net_prefix.specs.PrefixSpelling.{address_octets}
use Rattle.net_prefix.specs.PrefixText.{text_of}

-- Where the slash stands in the text of a prefix, and what stands before it.

abbrev pub NoSlash : List ℕ → Type 0
NoSlash text = AllByRecursion (λ c. c ≢ 47) text

no_slash_append : (xs ys : List ℕ) → NoSlash xs → NoSlash ys → NoSlash (xs ++ ys)
no_slash_append [] ys h k = k
no_slash_append (x ∷ xs) ys h k = (h.0, no_slash_append xs ys h.1 k)

no_slash_digits : (ds : List ℕ) → AllDigits 10 ds → NoSlash ds
no_slash_digits [] h = tt
no_slash_digits (d ∷ ds) h =
    let range = digit_from_value d h.0 in
    ((λ e. omega (arith, range.0, e)), no_slash_digits ds h.1)

no_slash_decimal : (n : ℕ) → n < 256 → NoSlash (decimal n)
no_slash_decimal n small = no_slash_digits _ (decimal_is_IsNumeral n (omega arith)).0.1

no_slash_at : (xs : List ℕ) (i : ℕ) → NoSlash xs → i < length xs → get_or xs i 0 ≢ 47
no_slash_at [] i h below = absurd (omega arith)
no_slash_at (x ∷ xs) zero h below = h.0
no_slash_at (x ∷ xs) (suc i) h below = no_slash_at xs i h.1 (omega arith)

dot : NoSlash (codes ".")
dot = ((λ e. omega (arith, e)), tt)

pub no_slash_address : (bits : ℕ) → NoSlash (ipv4_text (address_octets bits))
no_slash_address bits =
    let a = no_slash_decimal (bits / 2 ^ 24 % 256) (omega arith) in
    let b = no_slash_decimal (bits / 2 ^ 16 % 256) (omega arith) in
    let c = no_slash_decimal (bits / 2 ^ 8 % 256) (omega arith) in
    let d = no_slash_decimal (bits % 256) (omega arith) in
    no_slash_append _ _ (no_slash_append _ _ (no_slash_append _ _ (no_slash_append _ _ (no_slash_append _ _ (no_slash_append _ _ a dot) b) dot) c) dot) d

-- the text before its slash is that of the address, and the text behind it that of the length
pub text_parts : (bits len : ℕ) → text_of bits len ≡ ipv4_text (address_octets bits) ++ (47 ∷ decimal len)
unfolding text_of
text_parts bits len = append_assoc (ipv4_text (address_octets bits)) (47 ∷ []) (decimal len)

-- what `split_once` gives at the slash
pub split_at_slash : (text : List ℕ) (bits len : ℕ) (r : Option (Bor (List ℕ) × Bor (List ℕ))) → IsSplitOnceResult 47 text r → text ≡ text_of bits len → MatchOption r ⊥ (λ x. (x.0.now ≡ ipv4_text (address_octets bits)) × (x.1.now ≡ decimal len))
split_at_slash text bits len r h e =
    split_after 47 text (ipv4_text (address_octets bits)) (decimal len) r h (lit< tt) (e ∙ text_parts bits len)
    (λ i below. no_slash_at _ i (no_slash_address bits) below)

four_small : (a b c d : ℕ) → a < 256 → b < 256 → c < 256 → d < 256 → (i : ℕ) → get_or (a ∷ (b ∷ (c ∷ (d ∷ [])))) i 0 < 256
four_small a b c d ha hb hc hd zero = ha
four_small a b c d ha hb hc hd (suc zero) = hb
four_small a b c d ha hb hc hd (suc (suc zero)) = hc
four_small a b c d ha hb hc hd (suc (suc (suc zero))) = hd
four_small a b c d ha hb hc hd (suc (suc (suc (suc i)))) = lit< tt

-- the octets of an address are those of its number
pub octets_of_bits : (a : Ipv4Addr) (text : List ℕ) → IsDotted text (ipv4_octets a) → address_octets (ipv4_bits a) ≡ ipv4_octets a
unfolding ipv4_bits
octets_of_bits a text h =
    let small = four_small h.a h.b h.c h.d h.fit.0 h.fit.1 h.fit.2 h.fit.3 in
    be_bytes_4 (ipv4_octets a) _ (ap length h.value) (λ i. rw h.value (small i)) refl

-- the text of an address writes its number
pub writes_bits : (a : Ipv4Addr) (text : List ℕ) → IsDotted text (ipv4_octets a) → text ≡ ipv4_text (address_octets (ipv4_bits a))
writes_bits a text h = h.spelled ∙ ap ipv4_text (sym (octets_of_bits a text h ∙ h.value))

-- the text of a number's octets is one of an address
pub is_dotted : (bits : ℕ) (text : List ℕ) → text ≡ ipv4_text (address_octets bits) → IsDotted text (address_octets bits)
is_dotted bits text e = record {
  a = bits / 2 ^ 24 % 256;
  b = bits / 2 ^ 16 % 256;
  c = bits / 2 ^ 8 % 256;
  d = bits % 256;
  fit = (omega arith, omega arith, omega arith, omega arith);
  value = refl;
  spelled = e;
}

-- the parts that `split_once` gives write the whole text
pub whole_text : (text address digits : List ℕ) (bits len : ℕ) → text ≡ address ++ (47 ∷ digits) → address ≡ ipv4_text (address_octets bits) → digits ≡ decimal len → text ≡ text_of bits len
whole_text text address digits bits len e is_address is_len =
    e ∙ ap (λ xs. xs ++ (47 ∷ digits)) is_address
    ∙ ap (λ ys. ipv4_text (address_octets bits) ++ (47 ∷ ys)) is_len
    ∙ sym (text_parts bits len)
