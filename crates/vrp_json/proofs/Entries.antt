-- What the members of an entry say, and that they say one thing.
use Rattle.std.proofs.Common.{◌≡◌, ◌<◌, ◌^◌, ◌∙◌, ℕ, false, List, None, Some, Err, inl, inr, refl, sym, arith}
use Rattle.json.specs.Find.{as_number, as_str}
use Rattle.json.specs.Json.{Json, null, boolean, number, string, array, object}
use Rattle.json.proofs.Found.{Some_inj, not_found}
use Rattle.net_prefix.specs.Cover.{HasNoHostBits}
use Rattle.net_prefix.specs.MaxLengths.{IsMaxLength, IsNoMaxLength}
use Rattle.net_prefix.specs.PrefixText.{NamesNone, Writes}
use Rattle.net_prefix.specs.declared.fault.PrefixFault.{PrefixFault}
use Rattle.net_prefix.specs.declared.fault.PrefixFault.TheVariants.{LenOver32, HostBits, Text, MaxRange, Cut}
use Rattle.net_prefix.specs.declared.prefix.Prefix.{Prefix}
use Rattle.net_prefix.proofs.Unique.{writes_one}
use Rattle.vrp_csv.specs.PayloadRows.{WritesNumber}
use Rattle.vrp_json.specs.PayloadEntries.{GivesMax, HasAsn, HasPrefixWord, IsEntry, max_word, prefix_word, word_of}
use Rattle.vrp_json.specs.declared.fault.EntryFault.TheVariants as fault
use Rattle.vrp_csv.proofs.Digits.{two_digits}

-- the word of a number is its text
pub word_of_number : (j : Json) (s : List ℕ) → as_number j ≡ Some s → word_of j ≡ Some s
word_of_number null s h = not_found s h
word_of_number (boolean b) s h = not_found s h
word_of_number (number t) s h = h
word_of_number (string t) s h = not_found s h
word_of_number (array js) s h = not_found s h
word_of_number (object ms) s h = not_found s h

-- the word of another value is its text
pub word_of_text : (j : Json) → as_number j ≡ None → word_of j ≡ as_str j
word_of_text null h = refl
word_of_text (boolean b) h = refl
word_of_text (number t) h = not_found t (sym h)
word_of_text (string t) h = refl
word_of_text (array js) h = refl
word_of_text (object ms) h = refl

-- a text that names no prefix writes none
pub writes_none : (text : List ℕ) (fault : PrefixFault) → NamesNone text fault → (prefix : Prefix) → Writes text prefix.bits prefix.len → ⊥
writes_none text LenOver32 h prefix w =
    let same = writes_one text h.0 h.1 prefix.bits prefix.len h.2 w in
    omega (arith, same.1, h.3, prefix.short)
writes_none text HostBits h prefix w =
    let same = writes_one text h.0 h.1 prefix.bits prefix.len h.2 w in
    let P : ℕ → ℕ → Type 0 = λ b l. HasNoHostBits b l in
    h.3.1 (rw (same.0, same.1) prefix.no_host_bits)
writes_none text Text h prefix w = h prefix.bits prefix.len w
writes_none text MaxRange h prefix w = h
writes_none text Cut h prefix w = h

-- an entry gives one maximum length
pub max_one : (entry : Json) (n m : ℕ) → GivesMax entry n → GivesMax entry m → n ≡ m
max_one entry n m (word, is, h) (other, also, k) =
    let same : word ≡ other = Some_inj word other (sym is ∙ also) in
    (rw same at h).2 ∙ sym k.2

-- where the number that is given is no maximum length, none is
pub no_other_max : (entry : Json) (len n : ℕ) → GivesMax entry n → IsNoMaxLength len n → (m : ℕ) → GivesMax entry m → IsMaxLength len m → ⊥
no_other_max entry len n w (inl low) m v h = omega (arith, low, max_one entry n m w v, h.0)
no_other_max entry len n w (inr high) m v h = omega (arith, high, max_one entry n m w v, h.1)

-- where the member's number has none of the digits that are allowed, no maximum length is given
pub none_given : (entry : Json) (word : List ℕ) → Some word ≡ max_word entry → ((number : ℕ) → number < 2 ^ 32 → ¬ (WritesNumber 2 word number)) → (max_len : ℕ) → GivesMax entry max_len → ⊥
none_given entry word is none m (other, also, w) =
    let same : other ≡ word = Some_inj other word (sym also ∙ sym is) in
    let here = rw same at w in
    none m (omega (arith, two_digits word m here)) here

-- an entry without a prefix text has a faulty prefix
pub no_prefix_word : (entry : Json) (asn : ℕ) → HasAsn entry asn → None ≡ prefix_word entry → IsEntry entry (Err fault.Prefix)
no_prefix_word entry asn has none = (asn, has, λ word is. not_found word (none ∙ is))

-- an entry whose prefix text names no prefix has a faulty prefix
pub bad_prefix : (entry : Json) (asn : ℕ) (word : List ℕ) (why : PrefixFault) → HasAsn entry asn → HasPrefixWord entry false word → NamesNone word why → IsEntry entry (Err fault.Prefix)
bad_prefix entry asn word why has (is, colon) names = (
  asn,
  has,
  λ other also.
      let same : other ≡ word = Some_inj other word (sym also ∙ is) in
      (rw same colon, λ prefix w. writes_none word why names prefix (rw same at w)),
)
