use Rattle.std.proofs.Common.{◌≡◌, map}
use Rattle.toml.specs.View.{table_view}
use Rattle.settings_keys.specs.KnownKeys.{first_unknown}
use Rattle.settings_keys.proofs.FirstUnknown.{first_of}
use Rattle.settings_keys.proofs.known.first_unknown.Given as goal

-- the first of the keys that are left is the first of all
abbrev pub invariant-loop-key : goal.invariant-loop-key
invariant-loop-key l =
    (goal.iterator-loop-key).can_next l.key-iterator ×
    (goal.iterator-loop-key).is_finite l.key-iterator ×
    (first_of (map (λ name. name.now) l.known) l.key-iterator ≡ first_unknown (map (λ name. name.now) l.known) (table_view l.table))
