use Rattle.std.proofs.Common.{◌≡◌, ◌⊎◌, ℕ, Bool, IsTrue, true, false, Option, Some, None, refl, sym, ap, ◌∙◌, subst, inl, inr}
use Rattle.std.proofs.lemmas.Cmp.{tied_itself}
use Rattle.std.specs.Option.{IsSome}
use Rattle.std.specs.Ordering.{is_gt}
use Rattle.std.specs.declared.cmp.Ordering.{Ordering}
use Rattle.std.specs.declared.cmp.Ordering.TheVariants.{Less, Equal, Greater}
use Rattle.net_prefix.specs.Cover.{Covers}
use Rattle.net_prefix.specs.PrefixOrder.{IsAbove, prefix_cmp}
use Rattle.net_prefix.specs.declared.prefix.Prefix.{Prefix}
use Rattle.net_prefix.proofs.Covering.{covers_between, first_of_covered}
use Rattle.net_prefix.proofs.PayloadSets.{prefix_cmp_exact, prefix_cmp_total}
use Rattle.origin_valid.proofs.CoverFacts.{covers-itself, covers_from, covers_to}
use Rattle.prefix_trie.specs.CoverWalks.{covers}
use Rattle.rib_in.specs.LatestRoutes.{HasRoute, RouteTable, route_at}
use Rattle.routing.specs.Offers.{IsNextWithin}

-- The prefixes with routes that one prefix covers, one after another.

-- what a prefix covers is itself or behind it
covered : (stretch q : Prefix) → covers stretch q ≡ true → (stretch ≡ q) ⊎ IsAbove (Some stretch) q
covered stretch q over = first_of_covered stretch q (covers_to stretch q over)

not_above : (stretch q : Prefix) → covers stretch q ≡ true → is_gt (prefix_cmp stretch q) ≡ false
not_above stretch q over = elim (covered stretch q over) [
  | inl one ↦ subst (λ x. is_gt (prefix_cmp stretch x) ≡ false) one (ap is_gt (tied_itself prefix_cmp_total stretch))
  | inr less ↦ ap is_gt less
]

none_if : {X : Type 0} (o : Option X) → (IsSome o → ⊥) → o ≡ None
none_if None not = refl
none_if (Some x) not = absurd (not refl)

-- the prefix itself has a route
pub first_is : (adj_in : RouteTable) (stretch : Prefix) → HasRoute adj_in stretch → IsNextWithin adj_in stretch None (Some stretch)
first_is adj_in stretch there = (there, covers-itself stretch, tt, λ slot q over above routed. not_above stretch q over)

-- it has none: the first is the next one behind it
pub first_behind : (adj_in : RouteTable) (stretch : Prefix) (found : Option Prefix) → ((s : ℕ) → route_at adj_in s stretch ≡ None) → IsNextWithin adj_in stretch (Some stretch) found → IsNextWithin adj_in stretch None found
first_behind adj_in stretch None bare next = λ slot q over any. elim (covered stretch q over) [
  | inl one ↦ subst (λ x. route_at adj_in slot x ≡ None) one (bare slot)
  | inr behind ↦ next slot q over behind
]
first_behind adj_in stretch (Some p) bare next = (
  next.0,
  next.1,
  tt,
  λ slot q over any routed. elim (covered stretch q over) [
    | inl one ↦ absurd (let there = subst (λ x. IsSome (route_at adj_in slot x)) (sym one) routed in let no = subst (λ o. IsSome o) (bare slot) there in cc)
    | inr behind ↦ next.3 slot q over behind routed
  ],
)

-- the next one behind a covered one lies outside: between them none is covered
same_or_less : (p q : Prefix) (o : Ordering) → prefix_cmp p q ≡ o → is_gt o ≡ false → (p ≡ q) ⊎ (prefix_cmp p q ≡ Less)
same_or_less p q Less at not = inr at
same_or_less p q Equal at not = inl (prefix_cmp_exact p q at)
same_or_less p q Greater at not = absurd (cc)

covered_before : (stretch a p q : Prefix) → covers stretch a ≡ true → IsAbove (Some a) p → covers stretch q ≡ true → is_gt (prefix_cmp p q) ≡ false → covers stretch p ≡ true
covered_before stretch a p q low above high least = elim (same_or_less p q (prefix_cmp p q) refl least) [
  | inl one ↦ subst (λ x. covers stretch x ≡ true) (sym one) high
  | inr less ↦ covers_from stretch p (covers_between stretch a p q (covers_to stretch a low) (covers_to stretch q high) above less)
]

pub none_past : (adj_in : RouteTable) (stretch a p : Prefix) → covers stretch a ≡ true → IsAbove (Some a) p → covers stretch p ≡ false
    → ((s : ℕ) (q : Prefix) → IsAbove (Some a) q → IsSome (route_at adj_in s q) → is_gt (prefix_cmp p q) ≡ false) → IsNextWithin adj_in stretch (Some a) None
none_past adj_in stretch a p low above out least slot q over behind =
    none_if (route_at adj_in slot q) (λ routed. let never = sym (covered_before stretch a p q low above over (least slot q behind routed)) ∙ out in cc)

-- what the code's test of cover says
pub outside : (p q : Prefix) → (Covers p.bits p.len q.bits q.len → IsTrue false) → covers p q ≡ false
outside p q never = by_test (covers p q) refl
  where
    by_test : (b : Bool) → covers p q ≡ b → b ≡ false
    by_test false is = refl
    by_test true is = let no = never (covers_to p q is) in absurd (cc)
