-- Octets of a line that are ASCII are a text.
use Rattle.std.proofs.Common.{◌≡◌, ◌≤◌, ℕ, Bor, IsAscii, IsUtf8, List, MatchOption, MatchResult, Result, Ok, Err, arith, slice_index}
use Rattle.std.proofs.lemmas.Str.{IsUtf8-from_ascii}
use Rattle.std.specs.Result.{result_ok}

pub not_ascii : (octets : List ℕ) → (i : ℕ) × (128 ≤ slice_index octets i) → ¬ (IsAscii octets)
not_ascii octets other ascii = let at = ascii other.0 in omega (arith, other.1, at)

pub text_read : {E : Type 0} (Fails : E → Type 0) (octets : List ℕ) (read : Result (Bor (List ℕ)) E) → IsAscii octets → MatchResult read (λ text. (text.now ≡ octets) × IsUtf8 octets) (λ why. ¬ (IsUtf8 octets) × Fails why)
    → MatchOption (result_ok read) (¬ (IsAscii octets)) (λ text. text.now ≡ octets)
text_read Fails octets (Ok text) ascii is = is.0
text_read Fails octets (Err why) ascii is = absurd (is.0 (IsUtf8-from_ascii octets ascii))
