-- How what the peers hold of one prefix is kept.
use Rattle.std.specs.Prelude.{ℕ, List, [], ◌∷◌}
use Rattle.holdings.specs.Holdings.{Holding}
use Rattle.holdings.specs.declared.kept.Form.{Form}
use Rattle.holdings.specs.declared.kept.Form.TheVariants.{Nothing, One, Many}

-- what is kept, where these slots hold the only attributes
abbrev pub kept_as : {A : Type 0} → Form A → ℕ → List Holding
kept_as Nothing slots = []
kept_as (One octets) slots = record { octets = octets; slots = slots } ∷ []
kept_as (Many list) slots = list.value
