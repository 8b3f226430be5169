-- What words that stand alone write.
use Rattle.std.proofs.Common.{◌≡◌, ◌∷◌, [], ℕ, Bor, List, Option, None, Some, MatchOption, Result, Ok, Err, ap, is_some, subst}
use Rattle.std.specs.Net.Grammar.{IsIpv4Text, Parses}
use Rattle.std.specs.Result.{result_ok}
use Rattle.std.specs.declared.net.ipv4_addr.Ipv4Addr.{Ipv4Addr}
use Rattle.command_lines.specs.CommandWords.{IsNamed}
use Rattle.command_lines.specs.Words.{Finds, IsName, WritesAddress}

-- a text that writes no address
pub no_address : {E : Type 0} (text : List ℕ) (answer : Result Ipv4Addr E) → Parses IsIpv4Text text answer → result_ok answer ≡ None → (bits : ℕ) → ¬ (WritesAddress text bits)
no_address text (Ok address) parses none = absurd (let wrong = ap is_some none in cc)
no_address text (Err why) parses none = λ bits writes. parses writes.0 writes.1

-- what is found in a word is found in the words where it stands alone
pub found_alone : {X : Type 0} (Is : List ℕ → X → Type 0) (words : List (List ℕ)) (word : List ℕ) (found : Option X) → words ≡ word ∷ [] → Finds (Is word) found
    → Finds (λ x. (other : List ℕ) × (words ≡ other ∷ []) × Is other x) found
found_alone Is words word None alone none = λ x is.
    let same : is.0 ≡ word = let stands = is.1 in cc in
    none x (subst (λ other. Is other x) same is.2)
found_alone Is words word (Some x) alone is = (word, alone, is)

-- the same of a name
pub name_alone : (words : List (List ℕ)) (word : List ℕ) (found : Option (Bor (List ℕ))) → words ≡ word ∷ [] → MatchOption found (¬ (IsName word)) (λ name. (name.now ≡ word) × IsName name.now)
    → MatchOption found ((name : List ℕ) → ¬ (IsNamed words name)) (λ name. IsNamed words name.now)
name_alone words word None alone none = λ name is.
    let same : name ≡ word = let stands = is.0 in cc in
    none (subst IsName same is.1)
name_alone words word (Some name) alone is = (let same = is.0 in cc, is.1)
