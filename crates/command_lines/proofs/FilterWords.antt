-- Which filter words are.
use Rattle.std.proofs.Common.{◌∙◌, ◌≡◌, ◌∷◌, ℕ, List, Option, None, Some, codes, refl, subst, sym}
use Rattle.net_prefix.specs.declared.asn.Asn.{Asn}
use Rattle.net_prefix.specs.declared.prefix.Prefix.{Prefix}
use Rattle.command_lines.proofs.FirstWords.{apart}
use Rattle.command_lines.specs.CommandWords.{IsAsWord, IsFilter, IsPrefixAndAs, IsPrefixWord}

-- words are no filter where none of its three kinds fits
none_of : (words : List (List ℕ)) (kind : List ℕ) (behind : List (List ℕ)) → words ≡ kind ∷ behind
    → (kind ≡ codes "prefix" → (prefix : Prefix) → ¬ (IsPrefixWord behind prefix))
    → (kind ≡ codes "as" → (asn : Asn) → ¬ (IsAsWord behind asn))
    → (kind ≡ codes "both" → (both : Prefix × Asn) → ¬ (IsPrefixAndAs behind both.0 both.1))
    → (parts : Option Prefix × Option Asn) → ¬ (IsFilter words parts.0 parts.1)
none_of words kind behind are no_prefix no_as no_both (None, None) is = is
none_of words kind behind are no_prefix no_as no_both (Some prefix, None) is =
    let first : kind ≡ codes "prefix" = let one = is.1 in cc in
    let rest : is.0 ≡ behind = let one = is.1 in cc in
    no_prefix first prefix (subst (λ words. IsPrefixWord words prefix) rest is.2)
none_of words kind behind are no_prefix no_as no_both (None, Some asn) is =
    let first : kind ≡ codes "as" = let one = is.1 in cc in
    let rest : is.0 ≡ behind = let one = is.1 in cc in
    no_as first asn (subst (λ words. IsAsWord words asn) rest is.2)
none_of words kind behind are no_prefix no_as no_both (Some prefix, Some asn) is =
    let first : kind ≡ codes "both" = let one = is.1 in cc in
    let rest : is.0 ≡ behind = let one = is.1 in cc in
    no_both first (prefix, asn) (subst (λ words. IsPrefixAndAs words prefix asn) rest is.2)

pub prefix_none : (words : List (List ℕ)) (kind : List ℕ) (behind : List (List ℕ)) → words ≡ kind ∷ behind → kind ≡ codes "prefix" → ((prefix : Prefix) → ¬ (IsPrefixWord behind prefix))
    → (parts : Option Prefix × Option Asn) → ¬ (IsFilter words parts.0 parts.1)
prefix_none words kind behind are is none =
    none_of words kind behind are (λ _. none) (λ same. absurd (apart (codes "prefix") (codes "as") refl refl (sym is ∙ same)))
    (λ same. absurd (apart (codes "prefix") (codes "both") refl refl (sym is ∙ same)))

pub as_none : (words : List (List ℕ)) (kind : List ℕ) (behind : List (List ℕ)) → words ≡ kind ∷ behind → kind ≡ codes "as" → ((asn : Asn) → ¬ (IsAsWord behind asn))
    → (parts : Option Prefix × Option Asn) → ¬ (IsFilter words parts.0 parts.1)
as_none words kind behind are is none =
    none_of words kind behind are (λ same. absurd (apart (codes "as") (codes "prefix") refl refl (sym is ∙ same))) (λ _. none)
    (λ same. absurd (apart (codes "as") (codes "both") refl refl (sym is ∙ same)))

pub both_none : (words : List (List ℕ)) (kind : List ℕ) (behind : List (List ℕ)) → words ≡ kind ∷ behind → kind ≡ codes "both"
    → ((both : Prefix × Asn) → ¬ (IsPrefixAndAs behind both.0 both.1)) → (parts : Option Prefix × Option Asn) → ¬ (IsFilter words parts.0 parts.1)
both_none words kind behind are is none =
    none_of words kind behind are (λ same. absurd (apart (codes "both") (codes "prefix") refl refl (sym is ∙ same)))
    (λ same. absurd (apart (codes "both") (codes "as") refl refl (sym is ∙ same))) (λ _. none)
