use Rattle.std.proofs.Common.{◌≡◌, ◌<◌, ◌≤◌, ◌+◌, ℕ, true, Option, Some, None, arith, ◌-◌, ◌^◌, false, refl}
use Rattle.std.specs.declared.cmp.Ordering.TheVariants.{Less}
use Rattle.std.specs.Ordering.{is_gt}
use Rattle.std.proofs.lemmas.Bool.Decides.{nat_tests}
use Rattle.net_prefix.specs.declared.prefix.Prefix.{Prefix}
use Rattle.net_prefix.proofs.Prefixes.{same_prefix}
use Rattle.rib_out.proofs.Prefixes.{parts_from_is_prefix}
use Rattle.rib_out.specs.Held.{is_prefix}
use Rattle.net_prefix.specs.PrefixOrder.{prefix_cmp, IsAbove}
use Rattle.routing.specs.Places.{rank_of}
use Rattle.std.specs.Option.{IsSome}

-- The order of prefixes by their places.

-- a prefix below another has a lower place
pub rank_from_less : (p q : Prefix) → prefix_cmp p q ≡ Less → rank_of p < rank_of q
rank_from_less p q h = let a = p.short in let b = q.short in grind (arith, nat_tests)

-- a prefix of a higher place stands above
pub less_from_rank : (p q : Prefix) → rank_of p < rank_of q → prefix_cmp p q ≡ Less
less_from_rank p q h = let a = p.short in let b = q.short in grind (arith, nat_tests)

pub greater_from_rank : (p q : Prefix) → rank_of q < rank_of p → is_gt (prefix_cmp p q) ≡ true
greater_from_rank p q h = let a = p.short in let b = q.short in grind (arith, nat_tests)

-- a place has one prefix
pub same_from_rank : (p q : Prefix) → rank_of p ≡ rank_of q → p ≡ q
same_from_rank p q h = let a = p.short in let b = q.short in same_prefix p q (omega (arith, h, a, b)) (omega (arith, h, a, b))

pub same_from_is_prefix : (p q : Prefix) → is_prefix p q ≡ true → p ≡ q
same_from_is_prefix p q h = let parts = parts_from_is_prefix p q h in same_prefix p q parts.0 parts.1

-- behind a walk up to a prefix
abbrev pub reached : Option Prefix → ℕ
reached None = 0
reached (Some p) = rank_of p + 1

pub above_from_rank : (after : Option Prefix) (q : Prefix) → reached after ≤ rank_of q → IsAbove after q
above_from_rank None q h = tt
above_from_rank (Some p) q h = less_from_rank p q (omega (arith, h))

pub rank_from_above : (after : Option Prefix) (q : Prefix) → IsAbove after q → reached after ≤ rank_of q
rank_from_above None q h = omega arith
rank_from_above (Some p) q h = omega (arith, rank_from_less p q h)

-- One slot served: a walk over prefixes in rising order, in which the peer is told what it is owed.

-- a place is one of 38 bits
abbrev pub IsPlace : Option Prefix → Type 0
IsPlace None = Unit {0}
IsPlace (Some p) = rank_of p < 2 ^ 38

-- how many places are left above
abbrev pub left_above : Option Prefix → ℕ
left_above after = 2 ^ 39 - reached after

pub left-smaller : (after : Option Prefix) (p : Prefix) → IsPlace after → IsAbove after p → rank_of p < 2 ^ 38 → left_above (Some p) < left_above after
left-smaller after p place above below = omega (arith, rank_from_above after p above, below)

-- a prefix between the last one and the next one has nothing
pub none_between : {X : Type 0} (p q : Prefix) (found : Option X) → (IsSome found → is_gt (prefix_cmp p q) ≡ false) → rank_of q < rank_of p → found ≡ None
none_between p q None least under = refl
none_between p q (Some x) least under = let high = greater_from_rank p q under in let low = least refl in cc
