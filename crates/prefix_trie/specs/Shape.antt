-- What a part of a trie is seen as: its entries, and the prefix of its first node.
use Rattle.std.specs.Prelude.{List, [], ◌∷◌, Option, None, Some}
use Rattle.net_prefix.specs.declared.prefix.Prefix.{Prefix}

pub record Shape (V : Type 0) : Type 0 where
  pub entries : List (Prefix × V)
  pub root : Option Prefix

-- nothing
abbrev pub no_shape : {V : Type 0} → Shape V
no_shape = record { entries = []; root = None }

-- one entry
abbrev pub one_shape : {V : Type 0} → Prefix → V → Shape V
one_shape p v = record { entries = (p, v) ∷ []; root = Some p }
