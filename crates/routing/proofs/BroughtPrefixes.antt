use Rattle.std.proofs.Common.{◌≡◌, ◌==◌, ◌&&◌, ◌||◌, ◌⊎◌, ℕ, Bool, true, false, not, List, [], ◌∷◌, ◌++◌, Option, Some, None, cond, refl, sym, ap, ◌∙◌, subst, inl, inr}
use Rattle.std.specs.Option.{IfNone, IfSome, IsSome, is_some, option_map}
use Rattle.std.specs.Ordering.{is_eq}
use Rattle.std.proofs.lemmas.Bool.{cases_eq, eq-eqb, eqb-true, ne_eqb}
use Rattle.bgp_attr.specs.PathAttributes.{PathAttributes}
use Rattle.decision.specs.BookContents.{offer_at}
use Rattle.decision.specs.declared.candidate.Candidate.{Candidate}
use Rattle.net_prefix.specs.PrefixOrder.{prefix_cmp}
use Rattle.net_prefix.specs.declared.prefix.Prefix.{Prefix}
use Rattle.rib_in.specs.LatestRoutes.{RouteTable, is_route, route_at}
use Rattle.rib_out.proofs.Prefixes.{is_prefix-refl}
use Rattle.routing.specs.Brought.{AreReady, IsBrought, IsPartial, IsReady, NamedPrefix, new_of, prefixes_of}
use Rattle.routing.specs.RoutingState.{RoutingState, StayWhole}
use Rattle.routing.specs.Updates.{is_among, is_only_withdrawn}
use Rattle.routing.proofs.HeardOffers.{left_of}
use Rattle.routing.proofs.Marking.{no_none, none_if}
use Rattle.routing.proofs.Places.{same_from_is_prefix}
use Rattle.routing.proofs.RouteChanges.{IsSet, among_push, is_route-parts, one_more}

-- The announced prefixes of an UPDATE, one after another, while room is made for them.

pub prefixes_push : (named : List NamedPrefix) (n : NamedPrefix) → prefixes_of (named ++ n ∷ []) ≡ prefixes_of named ++ n.prefix ∷ []
prefixes_push [] n = refl
prefixes_push (m ∷ named) n = ap (λ ps. m.prefix ∷ ps) (prefixes_push named n)

-- a new prefix behind them
new_behind : (b : Bool) (m e : Prefix) (more named : List Prefix) → more ≡ named ++ e ∷ [] → cond b more (m ∷ more) ≡ cond b named (m ∷ named) ++ e ∷ []
new_behind true m e more named is = is
new_behind false m e more named is = ap (λ ps. m ∷ ps) is

new_push : (named : List NamedPrefix) (n : NamedPrefix) → n.replacing ≡ None → new_of (named ++ n ∷ []) ≡ new_of named ++ n.prefix ∷ []
new_push [] n none = rw none refl
new_push (m ∷ named) n none = new_behind (is_some m.replacing) m.prefix n.prefix (new_of (named ++ n ∷ [])) (new_of named) (new_push named n none)

-- another one
old_push : (named : List NamedPrefix) (n : NamedPrefix) → is_some n.replacing ≡ true → new_of (named ++ n ∷ []) ≡ new_of named
old_push [] n some = rw some refl
old_push (m ∷ named) n some = ap (λ ps. cond (is_some m.replacing) ps (m.prefix ∷ ps)) (old_push named n some)

ready_push : (slot : ℕ) (attrs : PathAttributes) (adj_in : RouteTable) (named : List NamedPrefix) (n : NamedPrefix) → AreReady slot attrs adj_in named → IsReady slot attrs adj_in n → AreReady slot attrs adj_in (named ++ n ∷ [])
ready_push slot attrs adj_in [] n h here = (here, tt)
ready_push slot attrs adj_in (m ∷ named) n h here = (h.0, ready_push slot attrs adj_in named n h.1 here)

-- where routes with these attributes come, those that are ready still are
come_some : (b : Bool) (attrs : PathAttributes) (o : Option PathAttributes) → IsSome o → IsSome (cond b (Some attrs) o)
come_some true attrs o there = refl
come_some false attrs o there = there

come_same : (b : Bool) (attrs : PathAttributes) (o : Option PathAttributes) → o ≡ Some attrs → cond b (Some attrs) o ≡ Some attrs
come_same true attrs o is = refl
come_same false attrs o is = is

pub ready_still : (slot : ℕ) (attrs : PathAttributes) (old new : RouteTable) (come : Prefix → Bool) (n : NamedPrefix) → ((p : Prefix) → route_at new slot p ≡ cond (come p) (Some attrs) (route_at old slot p)) → IsReady slot attrs old n
    → IsReady slot attrs new n
ready_still slot attrs old new come n routes = by_case n.replacing refl
  where
    by_case : (o : Option PathAttributes) → n.replacing ≡ o → IsReady slot attrs old (record { prefix = n.prefix; replacing = o }) → IsReady slot attrs new (record { prefix = n.prefix; replacing = o })
    by_case None is ready = routes n.prefix ∙ come_same (come n.prefix) attrs (route_at old slot n.prefix) ready
    by_case (Some a) is ready = (ready.0, subst (λ o. IsSome o) (sym (routes n.prefix)) (come_some (come n.prefix) attrs (route_at old slot n.prefix) ready.1))

pub all_still : (slot : ℕ) (attrs : PathAttributes) (old new : RouteTable) (come : Prefix → Bool) (named : List NamedPrefix) → ((p : Prefix) → route_at new slot p ≡ cond (come p) (Some attrs) (route_at old slot p)) → AreReady slot attrs old named
    → AreReady slot attrs new named
all_still slot attrs old new come [] routes h = tt
all_still slot attrs old new come (n ∷ named) routes h = (ready_still slot attrs old new come n routes h.0, all_still slot attrs old new come named routes h.1)

pub brought_none : (slot : ℕ) (attrs : PathAttributes) (t : RoutingState) → IsBrought slot attrs [] [] t t
brought_none slot attrs t = record {
  all = refl;
  ready = tt;
  routes = λ s p. none_here (s == slot) (Some attrs) (route_at t.adj_in s p);
  lacked = λ p there. absurd (cc);
  offers = λ s p. refl;
  chosen = refl;
}
  where
    none_here : {X : Type 0} (b : Bool) (x y : X) → y ≡ cond (b && false) x y
    none_here true x y = refl
    none_here false x y = refl

-- one that is to be replaced
pub brought_old : (slot : ℕ) (attrs : PathAttributes) (seen : List Prefix) (named : List NamedPrefix) (first now : RoutingState) (n : NamedPrefix) (a : PathAttributes) → n.replacing ≡ Some a → a ≡ attrs → IsSome (route_at now.adj_in slot n.prefix)
    → IsBrought slot attrs seen named first now → IsBrought slot attrs (seen ++ n.prefix ∷ []) (named ++ n ∷ []) first now
brought_old slot attrs seen named first now n a is same there h =
    let news : new_of (named ++ n ∷ []) ≡ new_of named = old_push named n (ap is_some is) in
    record {
      all = prefixes_push named n ∙ ap (λ ps. ps ++ n.prefix ∷ []) h.all;
      ready = ready_push slot attrs now.adj_in named n h.ready (subst (λ o. IsReady slot attrs now.adj_in (record { prefix = n.prefix; replacing = o })) (sym is) (same, there));
      routes = λ s p. h.routes s p ∙ ap (λ ps. cond (s == slot && is_among p ps) (Some attrs) (route_at first.adj_in s p)) (sym news);
      lacked = λ p among. h.lacked p (subst (λ ps. is_among p ps ≡ true) news among);
      offers = h.offers;
      chosen = h.chosen;
    }

-- one to which the slot has no route
either : (a b : Bool) → (a || b) ≡ true → (a ≡ true) ⊎ (b ≡ true)
either true b is = inl refl
either false b is = inr is

was_none : {X : Type 0} (b : Bool) (x : X) (o now : Option X) → now ≡ cond b (Some x) o → now ≡ None → o ≡ None
was_none true x o now is none = absurd (let never = sym is ∙ none in cc)
was_none false x o now is none = sym is ∙ none

lacked_more : (slot : ℕ) (attrs : PathAttributes) (seen : List Prefix) (named : List NamedPrefix) (first now : RoutingState) (e : Prefix) → IsBrought slot attrs seen named first now → route_at now.adj_in slot e ≡ None → offer_at now.book slot e ≡ None
    → (p : Prefix) → is_among p (new_of named ++ e ∷ []) ≡ true → (route_at first.adj_in slot p ≡ None) × (offer_at first.book slot p ≡ None)
lacked_more slot attrs seen named first now e h route offer p among = elim (either (is_among p (new_of named)) (is_eq (prefix_cmp e p)) (sym (among_push p (new_of named) e) ∙ among)) [
  | inl before ↦ h.lacked p before
  | inr here ↦
      let same : e ≡ p = same_from_is_prefix e p here in (
        was_none (slot == slot && is_among p (new_of named)) attrs (route_at first.adj_in slot p) (route_at now.adj_in slot p) (h.routes slot p) (subst (λ q. route_at now.adj_in slot q ≡ None) same route),
        sym (h.offers slot p) ∙ subst (λ q. offer_at now.book slot q ≡ None) same offer,
      )
]

pub brought_new : (slot : ℕ) (attrs : PathAttributes) (seen : List Prefix) (named : List NamedPrefix) (first now new : RoutingState) (n : NamedPrefix) → n.replacing ≡ None
    → route_at now.adj_in slot n.prefix ≡ None → offer_at now.book slot n.prefix ≡ None → ((s : ℕ) (p : Prefix) → route_at new.adj_in s p ≡ cond (is_route slot n.prefix s p) (Some attrs) (route_at now.adj_in s p))
    → ((s : ℕ) (p : Prefix) → offer_at new.book s p ≡ offer_at now.book s p) → new.chosen ≡ now.chosen → IsBrought slot attrs seen named first now → IsBrought slot attrs (seen ++ n.prefix ∷ []) (named ++ n ∷ []) first new
brought_new slot attrs seen named first now new n none route offer come offers chosen h =
    let news : new_of (named ++ n ∷ []) ≡ new_of named ++ n.prefix ∷ [] = new_push named n none in
    let here : is_route slot n.prefix slot n.prefix ≡ true = is_route-parts slot n.prefix slot n.prefix ∙ rw (eq-eqb slot slot refl) (is_prefix-refl n.prefix) in
    record {
      all = prefixes_push named n ∙ ap (λ ps. ps ++ n.prefix ∷ []) h.all;
      ready =
          ready_push slot attrs new.adj_in named n (all_still slot attrs now.adj_in new.adj_in (λ p. is_route slot n.prefix slot p) named (λ p. come slot p) h.ready)
          (subst (λ o. IsReady slot attrs new.adj_in (record { prefix = n.prefix; replacing = o })) (sym none) (come slot n.prefix ∙ ap (λ b. cond b (Some attrs) (route_at now.adj_in slot n.prefix)) here));
      routes = λ s p.
          come s p
          ∙ ap (λ b. cond b (Some attrs) (route_at now.adj_in s p)) (is_route-parts slot n.prefix s p)
          ∙ ap (λ r. cond (s == slot && is_eq (prefix_cmp n.prefix p)) (Some attrs) r) (h.routes s p)
          ∙ one_more (s == slot) (is_among p (new_of named)) (is_eq (prefix_cmp n.prefix p)) (Some attrs) (route_at first.adj_in s p)
          ∙ ap (λ b. cond (s == slot && b) (Some attrs) (route_at first.adj_in s p)) (sym (among_push p (new_of named) n.prefix))
          ∙ ap (λ ps. cond (s == slot && is_among p ps) (Some attrs) (route_at first.adj_in s p)) (sym news);
      lacked = λ p among. lacked_more slot attrs seen named first now n.prefix h route offer p (subst (λ ps. is_among p ps ≡ true) news among);
      offers = λ s p. offers s p ∙ h.offers s p;
      chosen = chosen ∙ h.chosen;
    }

-- what was brought may be taken back
both : (a b : Bool) → (a && b) ≡ true → (a ≡ true) × (b ≡ true)
both true b is = (refl, is)
both false b is = absurd (cc)

pub partial_of : (slot : ℕ) (attrs : PathAttributes) (seen : List Prefix) (named : List NamedPrefix) (first now : RoutingState) → IsBrought slot attrs seen named first now → IsPartial slot named first now
partial_of slot attrs seen named first now h = record {
  routes = λ s p. by_case s p (s == slot && is_among p (new_of named)) refl (h.routes s p);
  lacked = λ p among. h.offers slot p ∙ (h.lacked p among).1;
  offers = h.offers;
  chosen = h.chosen;
}
  where
    by_case : (s : ℕ) (p : Prefix) (b : Bool) → (s == slot && is_among p (new_of named)) ≡ b → route_at now.adj_in s p ≡ cond b (Some attrs) (route_at first.adj_in s p) → cond b None (route_at now.adj_in s p) ≡ route_at first.adj_in s p
    by_case s p true is now_is = let parts = both (s == slot) (is_among p (new_of named)) is in sym (ap (λ x. route_at first.adj_in x p) (eqb-true s slot parts.0) ∙ (h.lacked p parts.1).0)
    by_case s p false is now_is = now_is

-- also where the last one was listed, and no route came
pub partial_new : (slot : ℕ) (attrs : PathAttributes) (seen : List Prefix) (named : List NamedPrefix) (first now new : RoutingState) (n : NamedPrefix) → n.replacing ≡ None
    → route_at now.adj_in slot n.prefix ≡ None → offer_at now.book slot n.prefix ≡ None → ((s : ℕ) (p : Prefix) → route_at new.adj_in s p ≡ route_at now.adj_in s p)
    → ((s : ℕ) (p : Prefix) → offer_at new.book s p ≡ offer_at now.book s p) → new.chosen ≡ now.chosen → IsBrought slot attrs seen named first now → IsPartial slot (named ++ n ∷ []) first new
partial_new slot attrs seen named first now new n none route offer same offers chosen h =
    let news : new_of (named ++ n ∷ []) ≡ new_of named ++ n.prefix ∷ [] = new_push named n none in
    record {
      routes = λ s p. ap (λ ps. cond (s == slot && is_among p ps) None (route_at new.adj_in s p)) news ∙ by_case s p (s == slot && is_among p (new_of named ++ n.prefix ∷ [])) refl;
      lacked = λ p among. offers slot p ∙ h.offers slot p ∙ (lacked_more slot attrs seen named first now n.prefix h route offer p (subst (λ ps. is_among p ps ≡ true) news among)).1;
      offers = λ s p. offers s p ∙ h.offers s p;
      chosen = chosen ∙ h.chosen;
    }
  where
    fewer : (a b c : Bool) → (a && (b || c)) ≡ false → (a && b) ≡ false
    fewer true true c is = is
    fewer true false c is = refl
    fewer false b c is = refl

    by_case : (s : ℕ) (p : Prefix) (b : Bool) → (s == slot && is_among p (new_of named ++ n.prefix ∷ [])) ≡ b → cond b None (route_at new.adj_in s p) ≡ route_at first.adj_in s p
    by_case s p true is =
        let parts = both (s == slot) (is_among p (new_of named ++ n.prefix ∷ [])) is in
        sym (ap (λ x. route_at first.adj_in x p) (eqb-true s slot parts.0) ∙ (lacked_more slot attrs seen named first now n.prefix h route offer p parts.1).0)
    by_case s p false is =
        let out = fewer (s == slot) (is_among p (new_of named)) (is_eq (prefix_cmp n.prefix p)) (ap (λ b. s == slot && b) (sym (among_push p (new_of named) n.prefix)) ∙ is) in
        same s p ∙ h.routes s p ∙ ap (λ b. cond b (Some attrs) (route_at first.adj_in s p)) out

-- ---- and is taken back, one after another
pub partial_passed : (slot : ℕ) (n : NamedPrefix) (rest : List NamedPrefix) (first now : RoutingState) → is_some n.replacing ≡ true → IsPartial slot (n ∷ rest) first now → IsPartial slot rest first now
partial_passed slot n rest first now some h =
    let news : new_of (n ∷ rest) ≡ new_of rest = ap (λ b. cond b (new_of rest) (n.prefix ∷ new_of rest)) some in
    record {
      routes = λ s p. ap (λ ps. cond (s == slot && is_among p ps) None (route_at now.adj_in s p)) (sym news) ∙ h.routes s p;
      lacked = λ p among. h.lacked p (subst (λ ps. is_among p ps ≡ true) (sym news) among);
      offers = h.offers;
      chosen = h.chosen;
    }

twice : {X : Type 0} (a r e : Bool) (x y : X) → cond (a && r) x (cond (a && e) x y) ≡ cond (a && (e || r)) x y
twice true true true x y = refl
twice true true false x y = refl
twice true false true x y = refl
twice true false false x y = refl
twice false r e x y = refl

none_both : {X : Type 0} (b : Bool) (o : Option X) → o ≡ None → cond b None o ≡ None
none_both true o is = refl
none_both false o is = is

pub partial_gone : (slot : ℕ) (n : NamedPrefix) (rest : List NamedPrefix) (first now new : RoutingState) → is_some n.replacing ≡ false
    → ((s : ℕ) (p : Prefix) → route_at new.adj_in s p ≡ cond (is_route slot n.prefix s p) None (route_at now.adj_in s p)) → ((s : ℕ) (p : Prefix) → offer_at new.book s p ≡ cond (is_route slot n.prefix s p) None (offer_at now.book s p))
    → (offer_at now.book slot n.prefix ≡ None → new.chosen ≡ now.chosen) → IsPartial slot (n ∷ rest) first now → IsPartial slot rest first new
partial_gone slot n rest first now new none routes offers never h =
    let news : new_of (n ∷ rest) ≡ n.prefix ∷ new_of rest = ap (λ b. cond b (new_of rest) (n.prefix ∷ new_of rest)) none in
    let among_here : is_among n.prefix (n.prefix ∷ new_of rest) ≡ true = rw (is_prefix-refl n.prefix) refl in
    let here : offer_at now.book slot n.prefix ≡ None = h.lacked n.prefix (subst (λ ps. is_among n.prefix ps ≡ true) (sym news) among_here) in
    record {
      routes = λ s p.
          ap (λ r. cond (s == slot && is_among p (new_of rest)) None r) (routes s p ∙ ap (λ b. cond b None (route_at now.adj_in s p)) (is_route-parts slot n.prefix s p))
          ∙ twice (s == slot) (is_among p (new_of rest)) (is_eq (prefix_cmp n.prefix p)) None (route_at now.adj_in s p)
          ∙ ap (λ ps. cond (s == slot && is_among p ps) None (route_at now.adj_in s p)) (sym news)
          ∙ h.routes s p;
      lacked = λ p among. offers slot p ∙ none_both (is_route slot n.prefix slot p) (offer_at now.book slot p) (h.lacked p (subst (λ ps. is_among p ps ≡ true) (sym news) (later (is_eq (prefix_cmp n.prefix p)) (is_among p (new_of rest)) among)));
      offers = λ s p. offers s p ∙ stays s p here (is_route slot n.prefix s p) refl ∙ h.offers s p;
      chosen = never here ∙ h.chosen;
    }
  where
    later : (a b : Bool) → b ≡ true → (a || b) ≡ true
    later true b is = refl
    later false b is = is

    stays : (s : ℕ) (p : Prefix) → offer_at now.book slot n.prefix ≡ None → (b : Bool) → is_route slot n.prefix s p ≡ b → cond b None (offer_at now.book s p) ≡ offer_at now.book s p
    stays s p here true is =
        let parts = both (s == slot) (is_eq (prefix_cmp n.prefix p)) (sym (is_route-parts slot n.prefix s p) ∙ is) in
        sym (ap (λ x. offer_at now.book x p) (eqb-true s slot parts.0) ∙ ap (λ q. offer_at now.book slot q) (sym (same_from_is_prefix n.prefix p parts.1)) ∙ here)
    stays s p here false is = refl

pub partial_none : (slot : ℕ) (first now : RoutingState) → IsPartial slot [] first now → StayWhole first.adj_in now.adj_in first.book now.book first.chosen now.chosen
partial_none slot first now h = record { routes = λ s p. none_left (s == slot) (route_at now.adj_in s p) ∙ h.routes s p; offers = h.offers; chosen = h.chosen }
  where
    none_left : {X : Type 0} (b : Bool) (o : Option X) → o ≡ cond (b && false) None o
    none_left true o = refl
    none_left false o = refl

pub some_mapped : {X Y : Type 0} (f : X → Y) (o : Option X) → is_some (option_map f o) ≡ is_some o
some_mapped f None = refl
some_mapped f (Some x) = refl

-- ---- and then announced
same_slot : (slot s : ℕ) → (slot == s) ≡ (s == slot)
same_slot slot s = elim (cases_eq s slot) [
  | inl same ↦ eq-eqb slot s (sym same) ∙ sym (eq-eqb s slot same)
  | inr other ↦ ne_eqb slot s (λ same. other (sym same)) ∙ sym (ne_eqb s slot other)
]

-- a route that is there already
pub route_there : (slot : ℕ) (e : Prefix) (attrs : PathAttributes) (adj_in : RouteTable) → route_at adj_in slot e ≡ Some attrs → (s : ℕ) (p : Prefix) → route_at adj_in s p ≡ cond (is_route slot e s p) (Some attrs) (route_at adj_in s p)
route_there slot e attrs adj_in there s p = by_case (is_route slot e s p) refl
  where
    by_case : (b : Bool) → is_route slot e s p ≡ b → route_at adj_in s p ≡ cond b (Some attrs) (route_at adj_in s p)
    by_case true is =
        let parts = both (s == slot) (is_eq (prefix_cmp e p)) (sym (is_route-parts slot e s p) ∙ is) in
        ap (λ x. route_at adj_in x p) (eqb-true s slot parts.0) ∙ ap (λ q. route_at adj_in slot q) (sym (same_from_is_prefix e p parts.1)) ∙ there
    by_case false is = refl

-- the change of one slot's candidate
one_change : {X : Type 0} (a b : Bool) (x y : X) → cond a (cond b x y) y ≡ cond (b && a) x y
one_change true true x y = refl
one_change true false x y = refl
one_change false true x y = refl
one_change false false x y = refl

pub changed_one : (slot : ℕ) (e : Prefix) (found : Option Candidate) (old : ℕ → Prefix → Option Candidate) (s : ℕ) (p : Prefix) → cond (is_eq (prefix_cmp e p)) (cond (slot == s) found (old s p)) (old s p) ≡ cond (is_route slot e s p) found (old s p)
changed_one slot e found old s p =
    one_change (is_eq (prefix_cmp e p)) (slot == s) found (old s p)
    ∙ ap (λ b. cond (b && is_eq (prefix_cmp e p)) found (old s p)) (same_slot slot s)
    ∙ ap (λ b. cond b found (old s p)) (sym (is_route-parts slot e s p))

pub changed_same : (slot : ℕ) (found : Option Candidate) (old : ℕ → Option Candidate) → old slot ≡ found → (s : ℕ) → cond (slot == s) found (old s) ≡ old s
changed_same slot found old is s = by_case (slot == s) refl
  where
    by_case : (b : Bool) → (slot == s) ≡ b → cond b found (old s) ≡ old s
    by_case true at = sym is ∙ ap old (eqb-true slot s at)
    by_case false at = refl

-- ---- the whole UPDATE
new_among : (p : Prefix) (named : List NamedPrefix) → is_among p (new_of named) ≡ true → is_among p (prefixes_of named) ≡ true
new_among p [] there = absurd (cc)
new_among p (n ∷ named) there = new_case (is_some n.replacing) (is_eq (prefix_cmp n.prefix p)) (is_among p (new_of named)) (is_among p (prefixes_of named)) p n.prefix (new_of named) refl refl (new_among p named) there
  where
    new_case : (b here behind all : Bool) (p e : Prefix) (news : List Prefix) → is_eq (prefix_cmp e p) ≡ here → is_among p news ≡ behind → (behind ≡ true → all ≡ true) → is_among p (cond b news (e ∷ news)) ≡ true → (here || all) ≡ true
    new_case b true behind all p e news at after so there = refl
    new_case true false behind all p e news at after so there = so (sym after ∙ there)
    new_case false false behind all p e news at after so there = so (sym after ∙ sym (ap (λ x. x || is_among p news) at) ∙ there)

-- its routes
pub routes_taken : (slot : ℕ) (attrs : PathAttributes) (withdrawn announced : List Prefix) (named : List NamedPrefix) (old brought left new : RoutingState) → IsBrought slot attrs announced named old brought
    → IsSet slot (is_only_withdrawn withdrawn announced) (λ p. None) (route_at brought.adj_in) (route_at left.adj_in)
    → IsSet slot (λ p. is_among p (prefixes_of named)) (λ p. Some attrs) (route_at left.adj_in) (route_at new.adj_in)
    → IsSet slot (λ p. is_among p announced) (λ p. Some attrs) (left_of slot (is_only_withdrawn withdrawn announced) (route_at old.adj_in)) (route_at new.adj_in)
routes_taken slot attrs withdrawn announced named old brought left new h gone come s p =
    come s p ∙ ap (λ ps. cond (s == slot && is_among p ps) (Some attrs) (route_at left.adj_in s p)) h.all ∙ by_case (s == slot && is_among p announced) refl
  where
    out : (a b c : Bool) → (c ≡ true → b ≡ true) → (a && b) ≡ false → (a && c) ≡ false
    out true false true so is = sym (so refl)
    out true b false so is = refl
    out true true true so is = is
    out false b c so is = refl

    by_case : (b : Bool) → (s == slot && is_among p announced) ≡ b → cond b (Some attrs) (route_at left.adj_in s p) ≡ cond b (Some attrs) (left_of slot (is_only_withdrawn withdrawn announced) (route_at old.adj_in) s p)
    by_case true is = refl
    by_case false is =
        let none : (s == slot && is_among p (new_of named)) ≡ false = out (s == slot) (is_among p announced) (is_among p (new_of named)) (λ there. ap (is_among p) (sym h.all) ∙ new_among p named there) is in
        gone s p ∙ ap (λ r. cond (s == slot && is_only_withdrawn withdrawn announced p) None r) (h.routes s p ∙ ap (λ b. cond b (Some attrs) (route_at old.adj_in s p)) none)

-- its candidates
pub offers_taken : (slot : ℕ) (attrs : PathAttributes) (found : Prefix → Option Candidate) (withdrawn announced : List Prefix) (named : List NamedPrefix) (old brought left new : RoutingState) → IsBrought slot attrs announced named old brought
    → IsSet slot (is_only_withdrawn withdrawn announced) (λ p. None) (offer_at brought.book) (offer_at left.book)
    → IsSet slot (λ p. is_among p (prefixes_of named)) found (offer_at left.book) (offer_at new.book)
    → IsSet slot (λ p. is_among p announced) found (left_of slot (is_only_withdrawn withdrawn announced) (offer_at old.book)) (offer_at new.book)
offers_taken slot attrs found withdrawn announced named old brought left new h gone come s p =
    come s p
    ∙ ap (λ ps. cond (s == slot && is_among p ps) (found p) (offer_at left.book s p)) h.all
    ∙ ap (λ o. cond (s == slot && is_among p announced) (found p) o) (gone s p ∙ ap (λ o. cond (s == slot && is_only_withdrawn withdrawn announced p) None o) (h.offers s p))

-- what goes behind is withdrawn alone
pub offers_left : (slot : ℕ) (attrs : PathAttributes) (announced : List Prefix) (gone : Prefix → Bool) (named : List NamedPrefix) (old brought left : RoutingState) → IsBrought slot attrs announced named old brought
    → IsSet slot gone (λ p. None) (offer_at brought.book) (offer_at left.book) → IsSet slot gone (λ p. None) (offer_at old.book) (offer_at left.book)
offers_left slot attrs announced gone named old brought left h went s p = went s p ∙ ap (λ o. cond (s == slot && gone p) None o) (h.offers s p)

-- the announced ones are ready still
ready_kept : (slot : ℕ) (attrs : PathAttributes) (old new : RouteTable) (n : NamedPrefix) → route_at new slot n.prefix ≡ route_at old slot n.prefix → IsReady slot attrs old n → IsReady slot attrs new n
ready_kept slot attrs old new n same ready = kept_case n.replacing ready
  where
    kept_case : (o : Option PathAttributes) → IsReady slot attrs old (record { prefix = n.prefix; replacing = o }) → IsReady slot attrs new (record { prefix = n.prefix; replacing = o })
    kept_case None ready = same ∙ ready
    kept_case (Some a) ready = (ready.0, subst (λ o. IsSome o) (sym same) ready.1)

all_kept : (slot : ℕ) (attrs : PathAttributes) (old new : RouteTable) (named : List NamedPrefix) → ((p : Prefix) → is_among p (prefixes_of named) ≡ true → route_at new slot p ≡ route_at old slot p) → AreReady slot attrs old named → AreReady slot attrs new named
all_kept slot attrs old new [] same h = tt
all_kept slot attrs old new (n ∷ named) same h = (
  ready_kept slot attrs old new n (same n.prefix (ap (λ b. b || is_among n.prefix (prefixes_of named)) (is_prefix-refl n.prefix))) h.0,
  all_kept slot attrs old new named (λ p there. same p (later (is_eq (prefix_cmp n.prefix p)) (is_among p (prefixes_of named)) there)) h.1,
)
  where
    later : (a b : Bool) → b ≡ true → (a || b) ≡ true
    later true b is = refl
    later false b is = is

pub ready_left : (slot : ℕ) (attrs : PathAttributes) (withdrawn announced : List Prefix) (named : List NamedPrefix) (old brought left : RoutingState) → IsBrought slot attrs announced named old brought
    → IsSet slot (is_only_withdrawn withdrawn announced) (λ p. None) (route_at brought.adj_in) (route_at left.adj_in) → AreReady slot attrs left.adj_in named
ready_left slot attrs withdrawn announced named old brought left h gone =
    all_kept slot attrs brought.adj_in left.adj_in named (λ p there. gone slot p ∙ ap (λ b. cond b None (route_at brought.adj_in slot p)) (stays (slot == slot) (is_among p withdrawn) (is_among p announced) (ap (is_among p) (sym h.all) ∙ there))) h.ready
  where
    stays : (a b c : Bool) → c ≡ true → (a && (b && not c)) ≡ false
    stays true true true is = refl
    stays true false c is = refl
    stays true true false is = sym is
    stays false b c is = refl

-- one to which the slot had none, or whose attributes came back
pub brought_back : {R : Type 0} (back : Option R) (value : R → PathAttributes) (slot : ℕ) (attrs : PathAttributes) (seen : List Prefix) (named : List NamedPrefix) (first now new : RoutingState) (e : Prefix)
    → IfNone back (route_at now.adj_in slot e ≡ None) → IfNone back ((s : ℕ) (p : Prefix) → route_at new.adj_in s p ≡ cond (is_route slot e s p) (Some attrs) (route_at now.adj_in s p))
    → IfSome back (λ r. (new ≡ now) × (value r ≡ attrs) × IsSome (route_at now.adj_in slot e))
    → ((s : ℕ) (p : Prefix) → IsSome (offer_at now.book s p) → IsSome (route_at now.adj_in s p)) → ((s : ℕ) (p : Prefix) → offer_at new.book s p ≡ offer_at now.book s p) → new.chosen ≡ now.chosen
    → IsBrought slot attrs seen named first now → IsBrought slot attrs (seen ++ e ∷ []) (named ++ record { prefix = e; replacing = option_map value back } ∷ []) first new
brought_back None value slot attrs seen named first now new e absent come back routed offers chosen h =
    let offer : offer_at now.book slot e ≡ None = none_if _ (λ some. no_none _ absent (routed slot e some)) in
    brought_new slot attrs seen named first now new (record { prefix = e; replacing = None }) refl absent offer come offers chosen h
brought_back (Some r) value slot attrs seen named first now new e absent come back routed offers chosen h =
    subst (λ t. IsBrought slot attrs (seen ++ e ∷ []) (named ++ record { prefix = e; replacing = Some (value r) } ∷ []) first t) (sym back.0)
    (brought_old slot attrs seen named first now (record { prefix = e; replacing = Some (value r) }) (value r) refl back.1 back.2 h)

-- where no route comes and none goes, the same goes again
pub partial_still : (slot : ℕ) (named : List NamedPrefix) (first now new : RoutingState) → ((s : ℕ) (p : Prefix) → route_at new.adj_in s p ≡ route_at now.adj_in s p) → ((s : ℕ) (p : Prefix) → offer_at new.book s p ≡ offer_at now.book s p)
    → new.chosen ≡ now.chosen → IsPartial slot named first now → IsPartial slot named first new
partial_still slot named first now new routes offers chosen h = record {
  routes = λ s p. ap (λ o. cond (s == slot && is_among p (new_of named)) None o) (routes s p) ∙ h.routes s p;
  lacked = λ p among. offers slot p ∙ h.lacked p among;
  offers = λ s p. offers s p ∙ h.offers s p;
  chosen = chosen ∙ h.chosen;
}
