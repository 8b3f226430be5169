-- What stands behind a row.
use Rattle.std.proofs.Common.{◌≡◌, ◌&&◌, Bool, true, false, cond, List, [], ◌∷◌, Option, Some, None, filter, refl, ap, ◌∙◌}
use Rattle.std.proofs.lemmas.List.Kept.{IsStrictlySortedBy-filter}
use Rattle.std.specs.BTreeMap.Range.{range_contains}
use Rattle.std.specs.Ordering.{is_lt}
use Rattle.std.specs.declared.ops.Bound.TheVariants.{Excluded, Unbounded}
use Rattle.local_exceptions.specs.ExceptionSets.{ExceptionSets, under}
use Rattle.net_prefix.specs.PayloadOrder.{payload_cmp}
use Rattle.net_prefix.specs.PayloadSets.{IsPayloadSet}
use Rattle.net_prefix.specs.declared.payload.Vrp.{Vrp}
use Rattle.net_prefix.specs.declared.prefix.Prefix.{Prefix}
use Rattle.prefix_trie.specs.TrieWalks.{all_after}
use Rattle.speaker.specs.Shown.{payloads_behind}

-- behind nothing there is nothing
pub none_after : {X : Type 0} (after : Option Prefix) → [] ≡ all_after {V = X} after []
none_after None = refl
none_after (Some p) = refl

-- a range without bounds is the whole set
pub all_members : (set : List Vrp) → filter (range_contains payload_cmp Unbounded Unbounded) set ≡ set
all_members [] = refl
all_members (member ∷ set) = ap (λ l. member ∷ l) (all_members set)

above_step : (last member : Vrp) (rest above : List Vrp) (b : Bool) → rest ≡ above → cond (b && true) (member ∷ rest) rest ≡ cond b (member ∷ above) above
above_step last member rest above true same = ap (λ l. member ∷ l) same
above_step last member rest above false same = same

-- a range from a payload on has those above it
pub members_above : (last : Vrp) (set : List Vrp) → filter (range_contains payload_cmp (Excluded last) Unbounded) set ≡ payloads_behind (Some last) set
members_above last [] = refl
members_above last (member ∷ set) =
    above_step last member (filter (range_contains payload_cmp (Excluded last) Unbounded) set) (payloads_behind (Some last) set) (is_lt (payload_cmp last member)) (members_above last set)

pub rising_members : (last : Vrp) (set : List Vrp) → IsPayloadSet set → IsPayloadSet (payloads_behind (Some last) set)
rising_members last set rising = IsStrictlySortedBy-filter payload_cmp (λ member. is_lt (payload_cmp last member)) set rising

-- payloads in force behind a row, of the same exceptions and the same loaded payloads
pub in_force_as : (after : Option Vrp) (e f : ExceptionSets) (one two rows : List Vrp) → rows ≡ payloads_behind after (under e one) → e ≡ f → one ≡ two → rows ≡ payloads_behind after (under f two)
in_force_as after e f one two rows is exceptions loaded = is ∙ (λ i. payloads_behind after (under (exceptions i) (loaded i)))
