-- Laws of the order of filters.
use Rattle.std.proofs.Common.{◌≡◌, ◌&&◌, ℕ, Bool, true, false, List, Option, None, Some, not, refl, sym, ap, subst, ◌∙◌, arith}
use Rattle.std.proofs.lemmas.Bool.Decides.{nat_tests}
use Rattle.std.specs.BTreeMap.{is_at}
use Rattle.std.specs.Cmp.{IsTotalOrder}
use Rattle.std.specs.List.{list_any}
use Rattle.std.specs.List.Sorted.{IsStrictlySortedBy}
use Rattle.std.specs.Ordering.{is_eq, nat_cmp, ordering_then}
use Rattle.std.specs.Set.{remove_key}
use Rattle.std.specs.declared.cmp.Ordering.{Ordering}
use Rattle.std.specs.declared.cmp.Ordering.TheVariants.{Less, Equal, Greater}
use Rattle.net_prefix.specs.PrefixOrder.{prefix_cmp}
use Rattle.net_prefix.specs.declared.asn.Asn.{Asn}
use Rattle.net_prefix.specs.declared.prefix.Prefix as declared
use Rattle.net_prefix.proofs.PayloadSets.{any-filter, prefix_cmp_exact, remove_key-filter}
use Rattle.local_exceptions.specs.FilterLengths.{but_for, is_other}
use Rattle.local_exceptions.specs.FilterOrder.{filter_cmp}
use Rattle.local_exceptions.specs.Filters.{has_filter, out_filter}
use Rattle.local_exceptions.specs.declared.filter.Filter.{Filter}
use Rattle.local_exceptions.specs.declared.filter.Filter.TheVariants.{Prefix, As, Both}
use Rattle.local_exceptions.specs.contracts.filter.FilterOrd.TheImpl as own
use Rattle.local_exceptions.specs.contracts.filter.FilterOrd.TheImpl.Laws.{total-law}

-- the derived order is the one that is told
pub same_order : (a b : Filter) → own.ghosts.cmp a b ≡ filter_cmp a b
same_order (Prefix p) (Prefix q) = refl
same_order (Prefix p) (As a) = refl
same_order (Prefix p) (Both q a) = refl
same_order (As a) (Prefix p) = refl
same_order (As a) (As b) = refl
same_order (As a) (Both p b) = refl
same_order (Both p a) (Prefix q) = refl
same_order (Both p a) (As b) = refl
same_order (Both p a) (Both q b) = refl

same_orders : own.ghosts.cmp ≡ filter_cmp
same_orders = λ i a b. same_order a b i

equal_parts : (o p : Ordering) → ordering_then o p ≡ Equal → (o ≡ Equal) × (p ≡ Equal)
equal_parts Less p h = absurd cc
equal_parts Equal p h = (refl, h)
equal_parts Greater p h = absurd cc

same_number : (a b : ℕ) → nat_cmp a b ≡ Equal → a ≡ b
same_number a b h = grind (arith, nat_tests)

same_asn : (a b : Asn) → nat_cmp a.0 b.0 ≡ Equal → a ≡ b
same_asn a b h = let e = same_number a.0 b.0 h in λ i. record { 0 = e i }

-- filters at one place of the order are one
pub filter_cmp_exact : (a b : Filter) → filter_cmp a b ≡ Equal → a ≡ b
filter_cmp_exact (Prefix p) (Prefix q) h = ap (λ (x : declared.Prefix). Prefix x) (prefix_cmp_exact p q h)
filter_cmp_exact (Prefix p) (As a) h = absurd cc
filter_cmp_exact (Prefix p) (Both q a) h = absurd cc
filter_cmp_exact (As a) (Prefix p) h = absurd cc
filter_cmp_exact (As a) (As b) h = ap (λ (x : Asn). As x) (same_asn a b h)
filter_cmp_exact (As a) (Both p b) h = absurd cc
filter_cmp_exact (Both p a) (Prefix q) h = absurd cc
filter_cmp_exact (Both p a) (As b) h = absurd cc
filter_cmp_exact (Both p a) (Both q b) h =
    let parts = equal_parts (prefix_cmp p q) (nat_cmp a.0 b.0) h in
    let prefix = prefix_cmp_exact p q parts.0 in
    let asn = same_asn a b parts.1 in
    λ i. Both (prefix i) (asn i)

-- the order of filters is a total order
pub filter_cmp_total : IsTotalOrder filter_cmp
filter_cmp_total = subst (λ (R : Filter → Filter → Ordering). IsTotalOrder R) same_orders total-law

-- what is looked up by the derived order is looked up by the one that is told
pub has_filter-own : (filters : List Filter) (f : Filter) → list_any (is_at (own.ghosts.cmp f)) filters ≡ has_filter filters f
has_filter-own filters f = λ i. list_any (is_at (λ x. same_order f x i)) filters

-- what the removal of a filter leaves is the filters without it
pub remove_key-out : (filters : List Filter) (f : Filter) → IsStrictlySortedBy own.ghosts.cmp filters → remove_key (is_at (own.ghosts.cmp f)) filters ≡ out_filter f filters
remove_key-out filters f h = (λ i. remove_key (is_at (λ x. same_order f x i)) filters) ∙ remove_key-filter filter_cmp_total f filters (subst (λ (R : Filter → Filter → Ordering). IsStrictlySortedBy R filters) same_orders h)

-- the filters without one have the others
pub has_filter-out : (filters : List Filter) (f q : Filter) → has_filter (out_filter f filters) q ≡ (not (is_at (filter_cmp f) q) && has_filter filters q)
has_filter-out filters f q =
    any-filter filter_cmp_total (λ member. not (is_at (filter_cmp f) member)) q
    (λ x at. ap (λ (k : Filter). not (is_at (filter_cmp f) k)) (sym (filter_cmp_exact q x at))) filters

another_case : (b h : Bool) → not b ≡ true → h ≡ (not b && h)
another_case true h n = absurd cc
another_case false h n = refl

same_case : (b h : Bool) → not b ≡ false → false ≡ (not b && h)
same_case true h n = refl
same_case false h n = absurd cc

-- but for a filter, another one is there as before
pub has_another : (filters : List Filter) (but : Option Filter) (q : Filter) → is_other but q ≡ true → has_filter filters q ≡ has_filter (but_for but filters) q
has_another filters None q other = refl
has_another filters (Some f) q other = another_case (is_at (filter_cmp f) q) (has_filter filters q) other ∙ sym (has_filter-out filters f q)

-- and it itself isn't
pub has_same : (filters : List Filter) (but : Option Filter) (q : Filter) → is_other but q ≡ false → false ≡ has_filter (but_for but filters) q
has_same filters None q same = absurd cc
has_same filters (Some f) q same = same_case (is_at (filter_cmp f) q) (has_filter filters q) same ∙ sym (has_filter-out filters f q)

-- which filter is another one, by the derived order
pub other_own : (f q : Filter) → is_at (own.ghosts.cmp f) q ≡ is_at (filter_cmp f) q
other_own f q = ap is_eq (same_order f q)
