-- What a peer holds behind a prefix.
use Rattle.std.proofs.Common.{◌≡◌, ◌&&◌, ℕ, Bool, true, false, cond, List, [], ◌∷◌, filter, refl, sym, ap, subst}
use Rattle.std.proofs.lemmas.List.Kept.{IsStrictlySortedBy-filter}
use Rattle.std.specs.BTreeMap.Range.{entries_between}
use Rattle.std.specs.declared.ops.Bound.TheVariants.{Excluded, Unbounded}
use Rattle.std.specs.List.Sorted.{IsStrictlySortedBy}
use Rattle.std.specs.Map.{keys_of}
use Rattle.std.specs.Ordering.{is_lt}
use Rattle.net_prefix.specs.PrefixOrder.{prefix_cmp}
use Rattle.net_prefix.specs.declared.prefix.Prefix.{Prefix}
use Rattle.prefix_trie.specs.TrieWalks.{all_above}
use Rattle.rib_out.specs.Held.{HeldRoute, IsRising, octets_of}
use Rattle.rib_out.proofs.HeldTables.{keys_of-octets_of}

-- a range without bounds is the whole table
pub all_between : {V : Type 0} (table : List (Prefix × V)) → entries_between prefix_cmp Unbounded Unbounded table ≡ table
all_between [] = refl
all_between (e ∷ table) = ap (λ l. e ∷ l) (all_between table)

kept_step : {V : Type 0} (b : Bool) (e : Prefix × V) (es fs : List (Prefix × V)) → es ≡ fs → cond (b && true) (e ∷ es) es ≡ cond b (e ∷ fs) fs
kept_step true e es fs more = ap (λ l. e ∷ l) more
kept_step false e es fs more = more

-- one from behind a prefix on has what stands above it
pub all_between-above : {V : Type 0} (p : Prefix) (table : List (Prefix × V)) → entries_between prefix_cmp (Excluded p) Unbounded table ≡ all_above p table
all_between-above p [] = refl
all_between-above p (e ∷ table) = kept_step (is_lt (prefix_cmp p e.0)) e (entries_between prefix_cmp (Excluded p) Unbounded table) (all_above p table) (all_between-above p table)

abbrev between : Prefix → List (Prefix × HeldRoute) → List (Prefix × HeldRoute)
between p table = entries_between prefix_cmp (Excluded p) Unbounded table

above_step : (p : Prefix) (e : Prefix × HeldRoute) (table : List (Prefix × HeldRoute)) (b : Bool) → octets_of (between p table) ≡ all_above p (octets_of table)
    → octets_of (cond (b && true) (e ∷ between p table) (between p table)) ≡ cond b ((e.0, e.1.octets) ∷ all_above p (octets_of table)) (all_above p (octets_of table))
above_step p e table true more = ap (λ l. (e.0, e.1.octets) ∷ l) more
above_step p e table false more = more

-- a range from a prefix on has the entries above it
pub above_between : (p : Prefix) (table : List (Prefix × HeldRoute)) → octets_of (entries_between prefix_cmp (Excluded p) Unbounded table) ≡ all_above p (octets_of table)
above_between p [] = refl
above_between p (e ∷ table) = above_step p e table (is_lt (prefix_cmp p e.0)) (above_between p table)

keys_step : (p : Prefix) (e : Prefix × List ℕ) (es : List (Prefix × List ℕ)) (ks : List Prefix) (b : Bool) → keys_of (all_above p es) ≡ ks → keys_of (cond b (e ∷ all_above p es) (all_above p es)) ≡ cond b (e.0 ∷ ks) ks
keys_step p e es ks true more = ap (λ l. e.0 ∷ l) more
keys_step p e es ks false more = more

keys_above : (p : Prefix) (es : List (Prefix × List ℕ)) → keys_of (all_above p es) ≡ filter (λ q. is_lt (prefix_cmp p q)) (keys_of es)
keys_above p [] = refl
keys_above p (e ∷ es) = keys_step p e es (filter (λ q. is_lt (prefix_cmp p q)) (keys_of es)) (is_lt (prefix_cmp p e.0)) (keys_above p es)

pub rising_octets : (table : List (Prefix × HeldRoute)) → IsRising table → IsRising (octets_of table)
rising_octets table rising = subst (IsStrictlySortedBy prefix_cmp) (sym (keys_of-octets_of table)) rising

pub rising_above : (p : Prefix) (table : List (Prefix × HeldRoute)) → IsRising table → IsRising (all_above p (octets_of table))
rising_above p table rising =
    subst (IsStrictlySortedBy prefix_cmp) (sym (keys_above p (octets_of table)))
    (IsStrictlySortedBy-filter prefix_cmp (λ q. is_lt (prefix_cmp p q)) (keys_of (octets_of table)) (rising_octets table rising))
