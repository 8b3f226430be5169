-- What is read of a line.
use Rattle.std.proofs.Common.{◌≡◌, ◌∷◌, ℕ, Global, List, Result, Ok, Err, Vec, codes, sym, subst}
use Rattle.std.specs.Result.{IsErrAnd}
use Rattle.policy.specs.declared.rule.Rule.{Rule}
use Rattle.command_lines.proofs.FirstWords.{policy_none}
use Rattle.command_lines.specs.CommandWords.{SayNone, SaysLine}
use Rattle.command_lines.specs.RuleWords.{AreNoRules, AreRules, rule_groups}
use Rattle.command_lines.specs.Words.{Reads}
use Rattle.command_lines.specs.declared.command_line.CommandLine.{CommandLine}
use Rattle.command_lines.specs.declared.command_line.LineFault.{LineFault}
use Rattle.command_lines.specs.declared.command_line.LineFault.TheVariants.{BadLine, NoMemory}

-- what the words of a line are read as
abbrev pub ReadsLine : List (List ℕ) → Result CommandLine LineFault → Type 0
ReadsLine words read = Reads (SaysLine words) (SayNone words) read

-- the same of words that are the same
pub reads_as : (words other : List (List ℕ)) (read : Result CommandLine LineFault) → words ≡ other → ReadsLine other read → ReadsLine words read
reads_as words other read same is = subst (λ ws. ReadsLine ws read) (sym same) is

-- what rules are read as
abbrev pub ReadsRules : List (List ℕ) → Result (Vec Rule Global) LineFault → Type 0
ReadsRules body read = Reads (λ rules. AreRules (rule_groups body) rules.items) (AreNoRules (rule_groups body)) read

-- a policy whose rules weren't read
pub policy_fault : (words : List (List ℕ)) (name : List ℕ) (body : List (List ℕ)) (read : Result CommandLine LineFault) (fault : LineFault) → words ≡ name ∷ body
    → IsErrAnd read (λ told. told ≡ fault) → ReadsRules body (Err fault) → ReadsLine (codes "policy" ∷ words) read
policy_fault words name body (Ok line) fault are told rules = absurd told
policy_fault words name body (Err BadLine) fault are told rules =
    let none : AreNoRules (rule_groups body) = subst (λ why. ReadsRules body (Err why)) (sym told) rules in
    policy_none words (λ other those is.
    let same : is.0 ≡ body = let stands = is.1 in cc in
    none those (subst (λ (ws : List (List ℕ)). AreRules (rule_groups ws) those) same is.3))
policy_fault words name body (Err NoMemory) fault are told rules = tt
