-- What a row's fields say, and that they say one thing.
use Rattle.std.proofs.Common.{◌≡◌, ◌<◌, ◌∙◌, ℕ, List, Bor, length, Option, None, option_map, inl, inr, sym, ap, arith}
use Rattle.csv.specs.Records.{field_at}
use Rattle.csv.proofs.RecordFacts.{field-there}
use Rattle.net_prefix.specs.Cover.{HasNoHostBits}
use Rattle.net_prefix.specs.MaxLengths.{IsMaxLength, IsNoMaxLength}
use Rattle.net_prefix.specs.PrefixText.{NamesNone, Writes}
use Rattle.net_prefix.specs.declared.fault.PrefixFault.{PrefixFault}
use Rattle.net_prefix.specs.declared.fault.PrefixFault.TheVariants.{LenOver32, HostBits, Text, MaxRange, Cut}
use Rattle.net_prefix.specs.declared.prefix.Prefix.{Prefix}
use Rattle.net_prefix.proofs.Unique.{writes_one}
use Rattle.vrp_csv.specs.PayloadRows.{WritesMax}

-- a row of four fields or more has its first three
pub no_field : (fields : List (List ℕ)) (place width : ℕ) (r : Option (Bor (List ℕ))) → length fields ≡ width → place < width → option_map (λ (s : Bor (List ℕ)). s.now) r ≡ field_at fields place → r ≡ None → ⊥
no_field fields place width r len near value none =
    field-there fields place (omega (arith, len, near)) (sym value ∙ ap (option_map (λ (s : Bor (List ℕ)). s.now)) none)

-- a text that names no prefix writes none
pub writes_none : (text : List ℕ) (fault : PrefixFault) → NamesNone text fault → (prefix : Prefix) → Writes text prefix.bits prefix.len → ⊥
writes_none text LenOver32 h prefix w =
    let same = writes_one text h.0 h.1 prefix.bits prefix.len h.2 w in
    omega (arith, same.1, h.3, prefix.short)
writes_none text HostBits h prefix w =
    let same = writes_one text h.0 h.1 prefix.bits prefix.len h.2 w in
    let P : ℕ → ℕ → Type 0 = λ b l. HasNoHostBits b l in
    h.3.1 (rw (same.0, same.1) prefix.no_host_bits)
writes_none text Text h prefix w = h prefix.bits prefix.len w
writes_none text MaxRange h prefix w = h
writes_none text Cut h prefix w = h

-- a text writes one maximum length
pub max_one : (len : ℕ) (text : List ℕ) (n m : ℕ) → WritesMax len text n → WritesMax len text m → n ≡ m
max_one len text n m (inl a) (inl b) = a.1 ∙ sym b.1
max_one len text n m (inl a) (inr b) = absurd (omega (arith, ap length a.0, b.0.0))
max_one len text n m (inr a) (inl b) = absurd (omega (arith, ap length b.0, a.0.0))
max_one len text n m (inr a) (inr b) = a.2 ∙ sym b.2

-- where the number that is written is no maximum length, none is
pub no_other_max : (len : ℕ) (text : List ℕ) (n : ℕ) → WritesMax len text n → IsNoMaxLength len n → (m : ℕ) → WritesMax len text m → IsMaxLength len m → ⊥
no_other_max len text n w (inl low) m v h = omega (arith, low, max_one len text n m w v, h.0)
no_other_max len text n w (inr high) m v h = omega (arith, high, max_one len text n m w v, h.1)
