-- What is left of the `reach` entries where one is taken out.
use Rattle.std.proofs.Common.{◌≡◌, ℕ, cond, not, List, [], ◌∷◌, refl, sym, ap, subst}
use Rattle.std.specs.BTreeMap.{is_at}
use Rattle.std.specs.List.{AllByRecursion}
use Rattle.std.specs.List.Sorted.{IsStrictlySortedBy}
use Rattle.std.specs.Map.{keys_of, remove_entry}
use Rattle.std.specs.Ordering.{is_eq}
use Rattle.std.specs.declared.cmp.Ordering.{Ordering}
use Rattle.std.specs.declared.cmp.Ordering.TheVariants.{Less, Equal, Greater}
use Rattle.net_prefix.proofs.PayloadSets.{prefix_cmp_exact}
use Rattle.net_prefix.specs.PrefixOrder.{prefix_cmp}
use Rattle.net_prefix.specs.declared.prefix.Prefix.{Prefix}
use Rattle.prefix_trie.specs.TrieMap.{IsRising, without}

-- each entry stands behind the prefix
abbrev AreBehind : Prefix → List (Prefix × ℕ) → Type 0
AreBehind prefix entries = AllByRecursion (λ other. prefix_cmp prefix other ≡ Less) (keys_of entries)

without_behind : (prefix : Prefix) (entries : List (Prefix × ℕ)) → AreBehind prefix entries → without entries prefix ≡ entries
without_behind prefix [] h = refl
without_behind prefix (e ∷ es) h = rw h.0 (ap (λ l. e ∷ l) (without_behind prefix es h.1))

without_case : (prefix : Prefix) (e : Prefix × ℕ) (es : List (Prefix × ℕ)) (o : Ordering) → prefix_cmp prefix e.0 ≡ o → AreBehind e.0 es → without es prefix ≡ remove_entry (is_at (prefix_cmp prefix)) es
    → cond (not (is_eq o)) (e ∷ without es prefix) (without es prefix) ≡ cond (is_eq o) es (e ∷ remove_entry (is_at (prefix_cmp prefix)) es)
without_case prefix e es Less is behind more = ap (λ l. e ∷ l) more
without_case prefix e es Equal is behind more =
    without_behind prefix es (subst (λ (p : Prefix). AreBehind p es) (sym (prefix_cmp_exact prefix e.0 is)) behind)
without_case prefix e es Greater is behind more = ap (λ l. e ∷ l) more

-- of rising entries, those without all that are at a prefix are those without the first that is
pub without-remove_entry : (prefix : Prefix) (entries : List (Prefix × ℕ)) → IsRising entries → without entries prefix ≡ remove_entry (is_at (prefix_cmp prefix)) entries
unfolding IsStrictlySortedBy
without-remove_entry prefix [] rising = refl
without-remove_entry prefix (e ∷ es) rising = without_case prefix e es (prefix_cmp prefix e.0) refl rising.0 (without-remove_entry prefix es rising.1)
