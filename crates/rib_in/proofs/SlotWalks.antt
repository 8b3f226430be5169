-- The least prefix to which a slot has a route, and walks over prefixes.
use Rattle.std.proofs.Common.{◌≡◌, ℕ, ◌-◌, ◌+◌, ◌^◌, ◌<◌, ◌==◌, ◌≢◌, Bool, true, false, cond, [], ◌∷◌, Option, None, Some, IsSome, length, refl, sym, ap, ◌∙◌, arith}
use Rattle.std.proofs.lemmas.Bool.{eq-eqb, eqb-true}
use Rattle.std.specs.Borrow.{Bor}
use Rattle.std.specs.Option.{is_some, option_copied}
use Rattle.std.specs.Ordering.{nat_cmp, is_eq, is_gt, is_lt, ordering_then}
use Rattle.std.specs.declared.cmp.Ordering.{Ordering}
use Rattle.std.specs.declared.cmp.Ordering.TheVariants.{Less, Equal, Greater}
use Rattle.net_prefix.specs.PrefixOrder.{IsAbove, prefix_cmp}
use Rattle.net_prefix.specs.declared.prefix.Prefix.{Prefix}
use Rattle.net_prefix.proofs.Ranks.{less_rank, rank}
use Rattle.bgp_attr.specs.PathAttributes.{PathAttributes}
use Rattle.rib_in.specs.LatestRoutes.{RouteList, RouteTable, is_route, route_at, route_in}
use Rattle.rib_in.proofs.RouteLists.{here, not_at}
use Rattle.rib_in.proofs.Walks.{above_from, is_above}

-- where there are routes, some slot has one
pub some_route : (routes : RouteList) → 0 < length routes → (s : ℕ) × IsSome (route_in routes s)
some_route [] h = absurd (omega arith)
some_route (e ∷ es) h = (e.0, rw (here e.0) refl)

pub some_copied : {V : Type 0} (r : Option (Bor V)) → is_some r ≡ is_some (option_copied r)
some_copied None = refl
some_copied (Some v) = refl

-- ---- walks
-- how many places are above a prefix, or in all
abbrev pub left_above : Option Prefix → ℕ
left_above None = 2 ^ 38 + 1
left_above (Some p) = 2 ^ 38 - rank p

pub left-smaller : (after : Option Prefix) (p : Prefix) → p.bits < 2 ^ 32 → IsAbove after p → left_above (Some p) < left_above after
left-smaller None p address above = omega arith
left-smaller (Some last) p address above = let short = p.short in let less = less_rank last p above in omega arith

by_above : {P : Type 0} (last : Option Prefix) (q : Prefix) (b : Bool) → is_above last q ≡ b → (IsAbove last q → P) → (is_above last q ≡ false → P) → P
by_above last q true is above below = above (above_from last q is)
by_above last q false is above below = below is

by_route : (o : Option PathAttributes) → (IsSome o → ⊥) → o ≡ None
by_route None never = refl
by_route (Some a) never = absurd (never refl)

-- ---- an ended session
-- the routes of the other slots are as they were, and no prefix up to the last one has one of the slot
pub record Drops (slot : ℕ) (last : Option Prefix) (old now : RouteTable) : Type 0 where
  pub others : (s : ℕ) (p : Prefix) → s ≢ slot → route_at now s p ≡ route_at old s p
  pub gone : (p : Prefix) → is_above last p ≡ false → route_at now slot p ≡ None

pub drops_first : (slot : ℕ) (table : RouteTable) → Drops slot None table table
drops_first slot table = record { others = λ s p other. refl; gone = λ p above. absurd cc }

-- another slot's route is another
pub other_route : (o : Ordering) (slot s : ℕ) → s ≢ slot → is_eq (ordering_then o (nat_cmp slot s)) ≡ false
other_route Less slot s other = refl
other_route Equal slot s other = not_at s slot other
other_route Greater slot s other = refl

out_case : (slot : ℕ) (last : Option Prefix) (p q : Prefix) (old now : RouteTable) (r : Ordering) → prefix_cmp p q ≡ r → is_lt r ≡ false → Drops slot last old now
    → ((x : Prefix) → IsAbove last x → IsSome (route_at now slot x) → is_gt (prefix_cmp p x) ≡ false)
    → cond (is_eq (ordering_then r (nat_cmp slot slot))) None (route_at now slot q) ≡ None
out_case slot last p q old now Less is below h least = absurd cc
out_case slot last p q old now Equal is below h least = rw (here slot) refl
out_case slot last p q old now Greater is below h least =
    by_above last q (is_above last q) refl (λ later.
    by_route (route_at now slot q) (λ has. let no_gt = least q later has in let gt : is_gt (prefix_cmp p q) ≡ true = ap is_gt is in let clash : true ≡ false = sym gt ∙ no_gt in cc)) (λ before. h.gone q before)

pub drops_more : (slot : ℕ) (last : Option Prefix) (p : Prefix) (old now new : RouteTable) → Drops slot last old now
    → ((x : Prefix) → IsAbove last x → IsSome (route_at now slot x) → is_gt (prefix_cmp p x) ≡ false)
    → ((s : ℕ) (q : Prefix) → route_at new s q ≡ cond (is_route slot p s q) None (route_at now s q)) → Drops slot (Some p) old new
drops_more slot last p old now new h least out = record {
  others = λ s q other. out s q ∙ ap (λ b. cond b None (route_at now s q)) (other_route (prefix_cmp p q) slot s other) ∙ h.others s q other;
  gone = λ q below. out slot q ∙ out_case slot last p q old now (prefix_cmp p q) refl below h least;
}

dropped_case : (slot s : ℕ) (p : Prefix) (last : Option Prefix) (old now : RouteTable) (b : Bool) → (s == slot) ≡ b → Drops slot last old now
    → ((q : Prefix) → IsAbove last q → route_at now slot q ≡ None) → route_at now s p ≡ cond b None (route_at old s p)
dropped_case slot s p last old now true is h none =
    ap (λ n. route_at now n p) (eqb-true s slot is) ∙ by_above last p (is_above last p) refl (λ later. none p later) (λ before. h.gone p before)
dropped_case slot s p last old now false is h none = h.others s p (λ e. let yes = eq-eqb s slot e in let clash : true ≡ false = sym yes ∙ is in cc)

pub dropped : (slot : ℕ) (last : Option Prefix) (old now : RouteTable) → Drops slot last old now → ((q : Prefix) → IsAbove last q → route_at now slot q ≡ None)
    → (s : ℕ) (p : Prefix) → route_at now s p ≡ cond (s == slot) None (route_at old s p)
dropped slot last old now h none s p = dropped_case slot s p last old now (s == slot) refl h none

-- so that the slot has none
pub gone_all : (slot : ℕ) (last : Option Prefix) (old now : RouteTable) → Drops slot last old now → ((q : Prefix) → IsAbove last q → route_at now slot q ≡ None) → (p : Prefix) → route_at now slot p ≡ None
gone_all slot last old now h none p = by_above last p (is_above last p) refl (λ later. none p later) (λ before. h.gone p before)
