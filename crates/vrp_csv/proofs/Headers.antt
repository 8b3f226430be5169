-- Headers, field by field.
use Rattle.std.proofs.Common.{◌≡◌, ◌≤◌, ◌⊎◌, ◌++◌, ℕ, List, [], ◌∷◌, length, codes, Some, unwrap_or, inl, inr, refl, ap, arith}
use Rattle.csv.specs.Records.{field_at}
use Rattle.vrp_csv.specs.PayloadRows.{IsHeader, NamesExtended, NamesPayloads, NamesShort, extended_names, payload_names, short_names}

one_field : (a b : List ℕ) → Some a ≡ Some b → a ≡ b
one_field a b h = ap (λ o. unwrap_or o []) h

pub three : (fields : List (List ℕ)) → NamesShort fields → length fields ≡ 3 → IsHeader fields
unfolding field_at
three [] h len = absurd (omega (arith, len))
three (a ∷ []) h len = absurd (omega (arith, len))
three (a ∷ b ∷ []) h len = absurd (omega (arith, len))
three (a ∷ b ∷ c ∷ []) h len = inr (inr (inr (λ i. one_field a _ h.0 i ∷ one_field b _ h.1 i ∷ one_field c _ h.2 i ∷ [])))
three (a ∷ b ∷ c ∷ d ∷ more) h len = absurd (omega (arith, len))

pub four : (fields : List (List ℕ)) → NamesPayloads fields → length fields ≡ 4 → IsHeader fields
unfolding field_at
four [] h len = absurd (omega (arith, len))
four (a ∷ []) h len = absurd (omega (arith, len))
four (a ∷ b ∷ []) h len = absurd (omega (arith, len))
four (a ∷ b ∷ c ∷ []) h len = absurd (omega (arith, len))
four (a ∷ b ∷ c ∷ d ∷ []) h len = inl (λ i. one_field a _ h.0 i ∷ one_field b _ h.1 i ∷ one_field c _ h.2 i ∷ one_field d _ h.3 i ∷ [])
four (a ∷ b ∷ c ∷ d ∷ e ∷ more) h len = absurd (omega (arith, len))

pub five : (fields : List (List ℕ)) → NamesPayloads fields → length fields ≡ 5 → field_at fields 4 ≡ Some (codes "Expires") → IsHeader fields
unfolding field_at
five [] h len last = absurd (omega (arith, len))
five (a ∷ []) h len last = absurd (omega (arith, len))
five (a ∷ b ∷ []) h len last = absurd (omega (arith, len))
five (a ∷ b ∷ c ∷ []) h len last = absurd (omega (arith, len))
five (a ∷ b ∷ c ∷ d ∷ []) h len last = absurd (omega (arith, len))
five (a ∷ b ∷ c ∷ d ∷ e ∷ []) h len last =
    inr (inl (λ i. one_field a _ h.0 i ∷ one_field b _ h.1 i ∷ one_field c _ h.2 i ∷ one_field d _ h.3 i ∷ one_field e _ last i ∷ []))
five (a ∷ b ∷ c ∷ d ∷ e ∷ f ∷ more) h len last = absurd (omega (arith, len))

pub six : (fields : List (List ℕ)) → NamesExtended fields → length fields ≡ 6 → IsHeader fields
unfolding field_at
six [] h len = absurd (omega (arith, len))
six (a ∷ []) h len = absurd (omega (arith, len))
six (a ∷ b ∷ []) h len = absurd (omega (arith, len))
six (a ∷ b ∷ c ∷ []) h len = absurd (omega (arith, len))
six (a ∷ b ∷ c ∷ d ∷ []) h len = absurd (omega (arith, len))
six (a ∷ b ∷ c ∷ d ∷ e ∷ []) h len = absurd (omega (arith, len))
six (a ∷ b ∷ c ∷ d ∷ e ∷ f ∷ []) h len =
    inr (inr (inl (λ i. one_field a _ h.0 i ∷ one_field b _ h.1 i ∷ one_field c _ h.2 i ∷ one_field d _ h.3 i ∷ one_field e _ h.4 i ∷ one_field f _ h.5 i ∷ [])))
six (a ∷ b ∷ c ∷ d ∷ e ∷ f ∷ g ∷ more) h len = absurd (omega (arith, len))

named : (more : List (List ℕ)) → NamesPayloads (payload_names ++ more)
unfolding field_at
named more = (refl, refl, refl, refl)

extended : NamesExtended extended_names
unfolding field_at
extended = (refl, refl, refl, refl, refl, refl)

short : NamesShort short_names
unfolding field_at
short = (refl, refl, refl)

last_field : field_at (payload_names ++ codes "Expires" ∷ []) 4 ≡ Some (codes "Expires")
unfolding field_at
last_field = refl

-- the kinds of header
abbrev pub HeaderKind : List (List ℕ) → Type 0
HeaderKind fields =
    (NamesPayloads fields × (length fields ≡ 4))
    ⊎ (NamesPayloads fields × (length fields ≡ 5) × (field_at fields 4 ≡ Some (codes "Expires")))
    ⊎ (NamesExtended fields × (length fields ≡ 6))
    ⊎ (NamesShort fields × (length fields ≡ 3))

pub kind_from_header : (fields : List (List ℕ)) → IsHeader fields → HeaderKind fields
kind_from_header fields (inl h) = inl (rw h (named []), ap length h)
kind_from_header fields (inr (inl h)) = inr (inl (rw h (named (codes "Expires" ∷ [])), ap length h, rw h last_field))
kind_from_header fields (inr (inr (inl h))) = inr (inr (inl (rw h extended, ap length h)))
kind_from_header fields (inr (inr (inr h))) = inr (inr (inr (rw h short, ap length h)))

-- a header has three fields or more
pub wide_header : (fields : List (List ℕ)) → IsHeader fields → 3 ≤ length fields
wide_header fields (inl h) = omega (arith, ap length h)
wide_header fields (inr (inl h)) = omega (arith, ap length h)
wide_header fields (inr (inr (inl h))) = omega (arith, ap length h)
wide_header fields (inr (inr (inr h))) = omega (arith, ap length h)
