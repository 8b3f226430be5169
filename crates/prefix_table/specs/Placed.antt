-- The places of prefixes, and the values that stand there.
use Rattle.std.specs.Prelude.{◌≡◌, ℕ, List, Some, IsSome}
use Rattle.net_prefix.specs.declared.prefix.Prefix.{Prefix}
use Rattle.prefix_trie.specs.TrieMap.{IsRising, found}
use Rattle.slab.specs.Slab.{Slab, get}
use Rattle.prefix_table.specs.Picked.{picked}
use Rattle.prefix_table.specs.RecentPlaces.{spot_at, spot_of}
use Rattle.prefix_table.specs.declared.recent.RecentPlace.{RecentPlace}
use Rattle.prefix_table.specs.declared.recent.RecentPlaces.{RecentPlaces}

-- each spot that remembers a prefix is the spot of it, and remembers the place that the prefix has
abbrev pub AreRemembered : List (Prefix × ℕ) → RecentPlaces → Type 0
AreRemembered places recent = (k : ℕ) (r : RecentPlace) → spot_at recent k ≡ Some r → (spot_of r.prefix ≡ k) × (found places r.prefix ≡ Some r.place)

-- the places by prefix, and which of them are remembered
pub record PlacesState : Type 0 where
  pub entries : List (Prefix × ℕ)
  pub recent : RecentPlaces

-- the prefixes with the values at their places
abbrev pub placed : {V : Type 0} → List (Prefix × ℕ) → Slab V → List (Prefix × V)
placed places values = picked (λ n. get values n) places

-- each place has a value, no two prefixes have one place, and each value is that of some prefix
pub record ArePlaced {V : Type 0} (places : List (Prefix × ℕ)) (values : Slab V) : Type 0 where
  pub rising : IsRising places
  pub there : (p : Prefix) (n : ℕ) → found places p ≡ Some n → IsSome (get values n)
  pub apart : (p q : Prefix) (n : ℕ) → found places p ≡ Some n → found places q ≡ Some n → p ≡ q
  pub owned : (n : ℕ) → IsSome (get values n) → (p : Prefix) × (found places p ≡ Some n)
