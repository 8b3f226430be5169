-- The words of a policy's rules (own).
use Rattle.std.specs.Prelude.{◌≡◌, ◌∷◌, [], ℕ, ⊤, Bool, List, Option, None, Some, codes, nat_eq}
use Rattle.std.specs.Cmp.Lexicographic.{pointwise}
use Rattle.std.specs.List.{slice_split}
use Rattle.std.specs.Option.{option_map}
use Rattle.net_prefix.specs.PrefixText.{Writes}
use Rattle.net_prefix.specs.declared.asn.Asn.{Asn}
use Rattle.origin_valid.specs.declared.validity.Validity.{Validity}
use Rattle.origin_valid.specs.declared.validity.Validity.TheVariants.{Valid, Invalid, NotFound}
use Rattle.policy.specs.declared.rule.Action.{Action}
use Rattle.policy.specs.declared.rule.Action.TheVariants.{Reject, Accept}
use Rattle.policy.specs.declared.rule.PrefixRange.{PrefixRange}
use Rattle.policy.specs.declared.rule.Rule.{Rule}
use Rattle.command_lines.specs.Words.{WritesBits}

-- rules stand apart by a semicolon
abbrev pub are_apart : List ℕ → Bool
are_apart word = pointwise nat_eq word (codes ";")

-- the words of each rule
abbrev pub rule_groups : List (List ℕ) → List (List (List ℕ))
rule_groups words = slice_split are_apart words

-- `prefix P G L`, if it is there, and the words behind it
abbrev pub IsPrefixTest : List (List ℕ) → Option PrefixRange → List (List ℕ) → Type 0
IsPrefixTest words None rest = words ≡ rest
IsPrefixTest words (Some range) rest =
    (prefix : List ℕ) × (from : List ℕ) × (to : List ℕ) × (words ≡ codes "prefix" ∷ prefix ∷ from ∷ to ∷ rest)
    × Writes prefix range.prefix.bits range.prefix.len × WritesBits 8 from range.from × WritesBits 8 to range.to

abbrev pub state_word : Validity → List ℕ
state_word Valid = codes "valid"
state_word Invalid = codes "invalid"
state_word NotFound = codes "notfound"

-- `state S`, if it is there, and the words behind it
abbrev pub IsStateTest : List (List ℕ) → Option Validity → List (List ℕ) → Type 0
IsStateTest words None rest = words ≡ rest
IsStateTest words (Some state) rest = words ≡ codes "state" ∷ state_word state ∷ rest

-- a name and a number of so many bits, if they are there, and the words behind them
abbrev pub IsNumbered : ℕ → List ℕ → List (List ℕ) → Option ℕ → List (List ℕ) → Type 0
IsNumbered bits name words None rest = words ≡ rest
IsNumbered bits name words (Some number) rest = (word : List ℕ) × (words ≡ name ∷ word ∷ rest) × WritesBits bits word number

-- `reject`, or `accept` and what it sets
abbrev pub IsAction : List (List ℕ) → Action → Type 0
IsAction words Reject = words ≡ codes "reject" ∷ []
IsAction words (Accept degree med prepend) =
    (degrees : List (List ℕ)) × (meds : List (List ℕ)) × (prepends : List (List ℕ)) × (words ≡ codes "accept" ∷ degrees)
    × IsNumbered 32 (codes "degree") degrees degree meds × IsNumbered 32 (codes "med") meds med prepends × IsNumbered 8 (codes "prepend") prepends prepend []

-- the number of an AS
abbrev pub number_of : Option Asn → Option ℕ
number_of asn = option_map (λ (a : Asn). a.0) asn

-- tests in their order, and an action
pub record IsRule (words : List (List ℕ)) (rule : Rule) : Type 0 where
  pub states : List (List ℕ)
  pub origins : List (List ℕ)
  pub paths : List (List ℕ)
  pub froms : List (List ℕ)
  pub actions : List (List ℕ)
  pub prefix : IsPrefixTest words rule.condition.prefix states
  pub state : IsStateTest states rule.condition.state origins
  pub origin : IsNumbered 32 (codes "origin") origins (number_of rule.condition.origin) paths
  pub path : IsNumbered 32 (codes "path") paths (number_of rule.condition.path) froms
  pub from : IsNumbered 8 (codes "from") froms rule.condition.from actions
  pub action : IsAction actions rule.action

-- each group of words is a rule, in order
abbrev pub AreRules : List (List (List ℕ)) → List Rule → Type 0
AreRules [] [] = ⊤
AreRules [] (rule ∷ rules) = ⊥
AreRules (words ∷ groups) [] = ⊥
AreRules (words ∷ groups) (rule ∷ rules) = IsRule words rule × AreRules groups rules

-- the words are rules of none
abbrev pub AreNoRules : List (List (List ℕ)) → Type 0
AreNoRules groups = (rules : List Rule) → ¬ (AreRules groups rules)
