-- What a node of a trie is seen as, and what holds of it.
use Rattle.std.specs.Prelude.{ℕ, ◌≡◌, ◌-◌, ◌<◌, ◌++◌, Bool, true, false, List, [], ◌∷◌, Option, None, Some, Result, MatchResult, IfOk, OnErr, IfErr, is_ok, cond, length, ◌%◌}
use Rattle.std.specs.declared.alloc.AllocFailed.{AllocFailed}
use Rattle.std.specs.List.{AllByRecursion}
use Rattle.net_prefix.specs.Cover.{block_size}
use Rattle.net_prefix.specs.declared.prefix.Prefix.{Prefix}
use Rattle.prefix_trie.specs.declared.node.Link.{Link}
use Rattle.prefix_trie.specs.declared.node.Link.TheVariants.{Empty, Fork}
use Rattle.prefix_trie.specs.Shape.{Shape}
use Rattle.prefix_trie.specs.TrieMap.{IsRising, Updates, found, with_entry, without}
use Rattle.prefix_trie.specs.Places.{IsInside, IsLow, IsHigh}

-- the entry of a prefix that has a value
abbrev pub here : {V : Type 0} → Prefix → Option V → List (Prefix × V)
here p None = []
here p (Some v) = (p, v) ∷ []

-- the entry of the node, and then those below it
abbrev pub all_of : {V : Type 0} → Prefix → Option V → Shape V → Shape V → List (Prefix × V)
all_of p v low high = here p v ++ (low.entries ++ high.entries)

-- how many lengths a part of a trie may still have
abbrev pub depth : Option Prefix → ℕ
depth None = 0
depth (Some p) = 33 - p.len

-- the prefix of the first node has P, if there is one
abbrev pub RootIs : (Prefix → Type 0) → Option Prefix → Type 0
RootIs P None = Unit {0}
RootIs P (Some p) = P p

-- each entry's prefix has P
abbrev pub EachIs : {V : Type 0} → (Prefix → Type 0) → List (Prefix × V) → Type 0
EachIs P entries = AllByRecursion (λ e. P e.0) entries

-- what holds of the sides of a node: each is in its half, and the entries rise
pub record AreSides {V : Type 0} (p : Prefix) (v : Option V) (low high : Shape V) : Type 0 where
  pub low_entries : EachIs (IsLow p) low.entries
  pub high_entries : EachIs (IsHigh p) high.entries
  pub low_root : RootIs (IsLow p) low.root
  pub high_root : RootIs (IsHigh p) high.root
  pub rising : IsRising (all_of p v low high)

-- the same, and a node without a value has entries on both sides
pub record AreParts {V : Type 0} (p : Prefix) (v : Option V) (low high : Shape V) : Type 0 where
  pub low_entries : EachIs (IsLow p) low.entries
  pub high_entries : EachIs (IsHigh p) high.entries
  pub low_root : RootIs (IsLow p) low.root
  pub high_root : RootIs (IsHigh p) high.root
  pub rising : IsRising (all_of p v low high)
  pub full : v ≡ None → (0 < length low.entries) × (0 < length high.entries)

-- what a node is seen as
abbrev pub shape : {V A : Type 0} → Link V A → Shape V
shape Empty = record { entries = []; root = None }
shape (Fork n) = record { entries = all_of n.value.prefix n.value.value n.value.low n.value.high; root = Some n.value.prefix }

-- what holds of a node: its parts
abbrev pub IsTrie : {V A : Type 0} → Link V A → Type 0
IsTrie Empty = Unit {0}
IsTrie (Fork n) = AreParts n.value.prefix n.value.value n.value.low n.value.high

-- an entry was put, and these are the entries and the first prefix that it leaves; or it is handed back
abbrev pub IsPut : {V : Type 0} → Result (Option V) (AllocFailed V) → Shape V → Shape V → V → Prefix → List (Prefix × V) → Type 0
IsPut result old new value root entries =
    MatchResult result (λ before. (before ≡ None) × (new.entries ≡ entries) × (new.root ≡ Some root)) (λ failed. (failed.value ≡ value) × (new ≡ old))

-- a value was put at a prefix: what was there comes back, and the first prefix stays in each block that it was in;
-- or the value is handed back, since there was none there and no memory for it
pub record IsInserted {V : Type 0} (result : Result (Option V) (AllocFailed V)) (old new : Shape V) (p : Prefix) (v : V) : Type 0 where
  pub entries : new.entries ≡ cond (is_ok result) (with_entry old.entries p v) old.entries
  pub before : IfOk result (λ before. before ≡ found old.entries p)
  pub absent : OnErr result (found old.entries p ≡ None)
  pub returned : IfErr result (λ failed. failed.value ≡ v)
  pub inside : (base len : ℕ) → base % block_size len ≡ 0 → IsInside base len p → RootIs (IsInside base len) old.root → RootIs (IsInside base len) new.root

-- the value at a prefix was taken out
pub record IsRemoved {V : Type 0} (result : Option V) (old new : Shape V) (p : Prefix) : Type 0 where
  pub removed : result ≡ found old.entries p
  pub entries : new.entries ≡ without old.entries p
  pub inside : (base len : ℕ) → RootIs (IsInside base len) old.root → RootIs (IsInside base len) new.root

-- a value was changed by a step, if there was one
abbrev pub ChangesValue : {V : Type 0} → (V → V → Type 0) → Bool → Option V → Option V → Type 0
ChangesValue {V} step changed None new = (changed ≡ false) × (new ≡ None)
ChangesValue {V} step changed (Some v) new = (changed ≡ true) × ((w : V) × step v w × (new ≡ Some w))

-- the value at a prefix was changed by a step, if there was one
pub record IsUpdated {V : Type 0} (step : V → V → Type 0) (changed : Bool) (old new : Shape V) (p : Prefix) : Type 0 where
  pub updates : Updates step changed (found old.entries p) old.entries new.entries p
  pub same_root : new.root ≡ old.root
