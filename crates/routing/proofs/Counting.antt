use Rattle.std.proofs.Common.{◌≡◌, ◌≤◌, ◌+◌, ◌&&◌, ◌||◌, ℕ, Bool, true, false, not, List, [], ◌∷◌, ◌++◌, length, Option, Some, None, cond, refl, sym, ap, ◌∙◌, subst, arith}
use Rattle.std.specs.Option.{IsSome}
use Rattle.std.specs.Ordering.{is_eq}
use Rattle.bgp_msg.specs.MessageSpelling.{front_prefixes}
use Rattle.net_prefix.specs.PrefixOrder.{IsAbove, prefix_cmp}
use Rattle.net_prefix.specs.declared.prefix.Prefix.{Prefix}
use Rattle.net_prefix.proofs.PayloadSets.{prefix_cmp_total}
use Rattle.rib_out.proofs.Prefixes.{is_prefix-refl}
use Rattle.rib_in.specs.LatestRoutes.{RouteTable, is_route, route_at}
use Rattle.routing.specs.Updates.{is_among}
use Rattle.routing.specs.Chosen.{AreDifferent, Ends, OncePerPrefix}
use Rattle.routing.specs.RoutingState.{RoutingState}
use Rattle.routing.proofs.HeardOffers.{both_true}
use Rattle.routing.proofs.RouteChanges.{among_push}

-- How often a best route is chosen, while prefixes are walked.

-- ---- rising prefixes
-- prefixes of each of which this holds, none above the last one; a best route was chosen once at most for each
pub record Counts (holds : Prefix → Type 0) (last : Option Prefix) (before now : ℕ) : Type 0 where
  pub prefixes : List Prefix
  pub different : AreDifferent holds prefixes
  pub passed : (q : Prefix) → IsAbove last q → is_among q prefixes ≡ false
  pub most : now ≤ before + length prefixes
  pub rises : before ≤ now

pub counts_none : (holds : Prefix → Type 0) (count : ℕ) → Counts holds None count count
counts_none holds count = record { prefixes = []; different = tt; passed = λ q above. refl; most = omega arith; rises = omega arith }

-- what is above a prefix is above those below it
further : (last : Option Prefix) (p q : Prefix) → IsAbove last p → IsAbove (Some p) q → IsAbove last q
further None p q at above = tt
further (Some l) p q at above = prefix_cmp_total.trans l p q at above

other_first : (b c : Bool) → b ≡ false → c ≡ false → (b || c) ≡ false
other_first true c here there = here
other_first false c here there = there

-- the next prefix
pub counts_more : (holds : Prefix → Type 0) (last : Option Prefix) (p : Prefix) (before now new : ℕ) → Counts holds last before now → IsAbove last p → holds p → new ≤ now + 1 → now ≤ new → Counts holds (Some p) before new
counts_more holds last p before now new h above here once later =
    let most = h.most in
    let rises = h.rises in
    record {
      prefixes = p ∷ h.prefixes;
      different = (h.passed p above, here, h.different);
      passed = λ q after. other_first (is_eq (prefix_cmp p q)) (is_among q h.prefixes) (ap is_eq after) (h.passed q (further last p q above after));
      most = omega (arith, most, once);
      rises = omega (arith, rises, later);
    }

-- what holds of each of them in other words, does so of different ones
pub different_as : (holds says : Prefix → Type 0) (prefixes : List Prefix) → ((p : Prefix) → holds p → says p) → AreDifferent holds prefixes → AreDifferent says prefixes
different_as holds says [] each h = tt
different_as holds says (p ∷ prefixes) each h = (h.0, each p h.1, different_as holds says prefixes each h.2)

-- ---- a session that has ended
-- a route of the slot that is there now was there before
abbrev pub WereThere : ℕ → RouteTable → RouteTable → Type 0
WereThere slot old now = (p : Prefix) → IsSome (route_at now slot p) → IsSome (route_at old slot p)

pub there_case : {X : Type 0} (b : Bool) (o : Option X) → IsSome (cond b None o) → IsSome o
there_case true o there = absurd (cc)
there_case false o there = there

pub there_more : (slot : ℕ) (p : Prefix) (old now new : RouteTable) → WereThere slot old now → ((s : ℕ) (q : Prefix) → route_at new s q ≡ cond (is_route slot p s q) None (route_at now s q)) → WereThere slot old new
there_more slot p old now new were out q there = were q (there_case (is_route slot p slot q) (route_at now slot q) (subst (λ o. IsSome o) (out slot q) there))

-- where it leaves Established, a best route is chosen once at most for each of its routes
pub ends_all : (slot : ℕ) (t u : RoutingState) (after : ℕ) → u ≡ record t { waiting = u.waiting; alike = u.alike } → Ends slot u.adj_in u.chosen after → Ends slot t.adj_in t.chosen after
ends_all slot t u after rest all =
    let few = all.2 in
    let count = ap (λ (r : RoutingState). r.chosen) rest in (
      all.0,
      subst (λ table. AreDifferent (λ p. IsSome (route_at table slot p)) all.0) (ap (λ (r : RoutingState). r.adj_in) rest) all.1,
      omega (arith, few, count),
    )

-- ---- the prefixes of an UPDATE
either_still : (b c d : Bool) → (c ≡ true → d ≡ true) → (b || c) ≡ true → (b || d) ≡ true
either_still true c d still here = refl
either_still false c d still there = still there

pub among_all : (p : Prefix) (seen rest : List Prefix) → is_among p seen ≡ true → is_among p (seen ++ rest) ≡ true
among_all p [] rest h = absurd (cc)
among_all p (d ∷ seen) rest h = either_still (is_eq (prefix_cmp d p)) (is_among p seen) (is_among p (seen ++ rest)) (among_all p seen rest) h

-- a best route was chosen once at most for each different one of those seen that are taken
pub record CountsNamed (taken : Prefix → Bool) (seen : List Prefix) (before now : ℕ) : Type 0 where
  pub prefixes : List Prefix
  pub different : AreDifferent (λ p. (is_among p seen && taken p) ≡ true) prefixes
  pub out : (q : Prefix) → is_among q seen ≡ false → is_among q prefixes ≡ false
  pub most : now ≤ before + length prefixes

pub named_none : (taken : Prefix → Bool) (count : ℕ) → CountsNamed taken [] count count
named_none taken count = record { prefixes = []; different = tt; out = λ q none. refl; most = omega arith }

both_still : (a b t : Bool) → (a ≡ true → b ≡ true) → (a && t) ≡ true → (b && t) ≡ true
both_still true b t still is = rw (still refl) is
both_still false b t still is = absurd (cc)

neither_first : (a b : Bool) → (a || b) ≡ false → a ≡ false
neither_first true b h = absurd (cc)
neither_first false b h = refl

neither_second : (a b : Bool) → (a || b) ≡ false → b ≡ false
neither_second true b h = absurd (cc)
neither_second false b h = h

-- those seen are among those seen with one more
pub still_seen : (q : Prefix) (seen : List Prefix) (e : Prefix) → is_among q (seen ++ e ∷ []) ≡ false → is_among q seen ≡ false
still_seen q seen e h = neither_first (is_among q seen) (is_eq (prefix_cmp e q)) (sym (among_push q seen e) ∙ h)

-- one for which none was chosen
pub named_still : (taken : Prefix → Bool) (seen : List Prefix) (e : Prefix) (before now new : ℕ) → CountsNamed taken seen before now → new ≡ now → CountsNamed taken (seen ++ e ∷ []) before new
named_still taken seen e before now new h same =
    let most = h.most in record {
      prefixes = h.prefixes;
      different = different_as (λ p. (is_among p seen && taken p) ≡ true) (λ p. (is_among p (seen ++ e ∷ []) && taken p) ≡ true) h.prefixes (λ p. both_still (is_among p seen) (is_among p (seen ++ e ∷ [])) (taken p) (among_all p seen (e ∷ []))) h.different;
      out = λ q none. h.out q (still_seen q seen e none);
      most = omega (arith, most, same);
    }

last_among : (seen : List Prefix) (e : Prefix) → is_among e (seen ++ e ∷ []) ≡ true
last_among seen e = among_push e seen e ∙ either_way (is_among e seen) (is_prefix-refl e)
  where
    either_way : (b : Bool) → is_eq (prefix_cmp e e) ≡ true → (b || is_eq (prefix_cmp e e)) ≡ true
    either_way true here = refl
    either_way false here = here

-- one that is taken: none is chosen for one that was seen before
pub named_more : (taken : Prefix → Bool) (seen : List Prefix) (e : Prefix) (before now new : ℕ) → CountsNamed taken seen before now → taken e ≡ true → new ≤ now + 1 → (is_among e seen ≡ true → new ≡ now)
    → CountsNamed taken (seen ++ e ∷ []) before new
named_more taken seen e before now new h takes once again = by_test (is_among e seen) refl
  where
    by_test : (b : Bool) → is_among e seen ≡ b → CountsNamed taken (seen ++ e ∷ []) before new
    by_test true there = named_still taken seen e before now new h (again there)
    by_test false first =
        let most = h.most in record {
          prefixes = e ∷ h.prefixes;
          different = (
            h.out e first,
            rw (last_among seen e) takes,
            different_as (λ p. (is_among p seen && taken p) ≡ true) (λ p. (is_among p (seen ++ e ∷ []) && taken p) ≡ true) h.prefixes (λ p. both_still (is_among p seen) (is_among p (seen ++ e ∷ [])) (taken p) (among_all p seen (e ∷ []))) h.different,
          );
          out = λ q none.
              let parts = sym (among_push q seen e) ∙ none in
              other_first (is_eq (prefix_cmp e q)) (is_among q h.prefixes) (neither_second (is_among q seen) (is_eq (prefix_cmp e q)) parts) (h.out q (neither_first (is_among q seen) (is_eq (prefix_cmp e q)) parts));
          most = omega (arith, most, once);
        }

-- so it is of all of them, at any place
pub named_all : (taken : Prefix → Bool) (prefixes seen rest : List Prefix) (before now : ℕ) → seen ++ rest ≡ prefixes → CountsNamed taken seen before now
    → OncePerPrefix (λ p. (is_among p prefixes && taken p) ≡ true) before now
named_all taken prefixes seen rest before now whole h = (
  h.prefixes,
  different_as (λ p. (is_among p seen && taken p) ≡ true) (λ p. (is_among p prefixes && taken p) ≡ true) h.prefixes
      (λ p. both_still (is_among p seen) (is_among p prefixes) (taken p) (λ there. subst (λ all. is_among p all ≡ true) whole (among_all p seen rest there))) h.different,
  h.most,
)

pub named_each : (prefixes seen rest : List Prefix) (before now : ℕ) → seen ++ rest ≡ prefixes → CountsNamed (λ p. true) seen before now → OncePerPrefix (λ p. is_among p prefixes ≡ true) before now
named_each prefixes seen rest before now whole h =
    let all = named_all (λ p. true) prefixes seen rest before now whole h in
    (all.0, different_as (λ p. (is_among p prefixes && true) ≡ true) (λ p. is_among p prefixes ≡ true) all.0 (λ p. both_true (is_among p prefixes) true) all.1, all.2)

-- of what is withdrawn, what these octets don't announce as well
abbrev pub only_in : List ℕ → Prefix → Bool
only_in octets prefix = not (is_among prefix (front_prefixes octets).0)
