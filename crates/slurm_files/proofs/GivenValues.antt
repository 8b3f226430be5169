-- What the members of an entry give, as they are read.
use Rattle.std.proofs.Common.{◌≡◌, ◌<◌, ◌^◌, ◌∙◌, ℕ, List, None, Some, sym, subst, arith}
use Rattle.json.specs.Find.{as_number, get}
use Rattle.json.specs.Json.{Json}
use Rattle.json.proofs.Found.{Some_inj, not_found}
use Rattle.vrp_csv.specs.PayloadRows.{WritesNumber}
use Rattle.vrp_csv.proofs.Digits.{two_digits}
use Rattle.slurm_files.specs.GivenMembers.{IsNumber}

-- what is no number gives none
pub no_number : (value : Json) (most : ℕ) → None ≡ as_number value → (n : ℕ) → IsNumber most value n → ⊥
no_number value most none n (word, is, w) = not_found word (none ∙ is)

-- a number that isn't written in so many digits
pub none_written : (value : Json) (word : List ℕ) (most : ℕ) → Some word ≡ as_number value → ((n : ℕ) → n < 2 ^ 32 → ¬ (WritesNumber most word n)) → (n : ℕ) → n < 2 ^ 32 → IsNumber most value n → ⊥
none_written value word most is none n less (other, also, w) =
    let same : other ≡ word = Some_inj other word (sym also ∙ sym is) in
    none n less (rw same at w)

pub none_short : (value : Json) (word : List ℕ) → Some word ≡ as_number value → ((n : ℕ) → n < 2 ^ 32 → ¬ (WritesNumber 2 word n)) → (n : ℕ) → IsNumber 2 value n → ⊥
none_short value word is none n (other, also, w) =
    let same : other ≡ word = Some_inj other word (sym also ∙ sym is) in
    let here = rw same at w in
    none n (omega (arith, two_digits word n here)) here

-- the member of this name has the value that was found
pub has_value : (name word : List ℕ) (entry v : Json) → name ≡ word → Some v ≡ get name entry → get word entry ≡ Some v
has_value name word entry v same is = sym (subst (λ (n : List ℕ). Some v ≡ get n entry) same is)
