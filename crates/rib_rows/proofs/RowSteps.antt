-- What a call makes of the row of one prefix.
use Rattle.std.proofs.Common.{◌≡◌, ◌<◌, ℕ, Bool, true, false, not, cond, ◌&&◌, List, [], ◌∷◌, ◌++◌, length, nat_eq, All, Option, Some, None, Result, Ok, Err, IfOk, OnOk, OnErr, is_some, option_map, refl, sym, ap, ◌∙◌, subst, arith}
use Rattle.std.proofs.lemmas.Cmp.{nat_cmp_total}
use Rattle.std.specs.BTreeMap.{is_at}
use Rattle.std.specs.Map.{lookup}
use Rattle.std.specs.Option.{IfNone, IfSome, IsSome}
use Rattle.std.specs.Ordering.{nat_cmp}
use Rattle.bgp_attr.specs.PathAttributes.{PathAttributes}
use Rattle.decision.proofs.BestPlaces.{best_kept}
use Rattle.decision.proofs.Laws.{selected_member}
use Rattle.decision.proofs.NewPlaces.{kept_alone}
use Rattle.decision.proofs.PlaceLists.{added_case, candidate_changed, candidate_pushed, candidate_without, idle_places, none_unplaced, other_slot, placed_changed, placed_pushed, placed_without, same_slot, turned, unchanged}
use Rattle.decision.specs.BookContents.{AreApart, IsBestOf, Kept, candidate_of, changed, is_placed}
use Rattle.decision.specs.KeptPlaces.{IsKept, with_changes, without_slot}
use Rattle.decision.specs.declared.book.Change.{Change}
use Rattle.decision.specs.declared.candidate.Candidate.{Candidate}
use Rattle.rib_in.proofs.Ordered.{lookup-others}
use Rattle.rib_in.proofs.RouteLists.{any_length, any_route, here, no_length, not_at}
use Rattle.rib_in.specs.LatestRoutes.{RouteList, route_among, route_in}
use Rattle.rib_in.specs.PrefixRoutes.{IsAnnounced, is_only, others_of}
use Rattle.rib_rows.specs.PrefixRows.{IsRow, PrefixRow, first_route, offer_of, route_of}

pub is_some-from : {X : Type 0} (o : Option X) → IsSome o → is_some o ≡ true
is_some-from None there = absurd (cc)
is_some-from (Some x) there = refl

pub is_some-to : {X : Type 0} (o : Option X) → is_some o ≡ true → IsSome o
is_some-to None is = absurd (cc)
is_some-to (Some x) is = refl

pub none_there : {X : Type 0} (o : Option X) → o ≡ None → IsSome o → ⊥
none_there None is there = absurd (cc)
none_there (Some x) is there = absurd (cc)

pub none_from : {X : Type 0} (o : Option X) → is_some o ≡ false → o ≡ None
none_from None is = refl
none_from (Some x) is = absurd (cc)

-- the order and the test of slots are one
pub slot_test : (slot s : ℕ) → is_at (nat_cmp slot) s ≡ nat_eq slot s
slot_test slot s = by (nat_eq slot s) refl
  where
    by : (b : Bool) → nat_eq slot s ≡ b → is_at (nat_cmp slot) s ≡ b
    by true is = subst (λ t. is_at (nat_cmp slot) t ≡ true) (same_slot slot s is) (here slot)
    by false is = not_at s slot (λ same. other_slot slot s is (sym same))

-- ---- a first route
first_case : (place : Option Candidate) (a : PathAttributes) (b c : Bool) → c ≡ b → is_some (cond b (Some place) None) ≡ is_some (cond c (Some a) None)
first_case place a true true is = refl
first_case place a true false is = absurd (cc)
first_case place a false true is = absurd (cc)
first_case place a false false is = refl

pub row_first : (slot : ℕ) (a : PathAttributes) → IsRow (first_route slot a)
row_first slot a = record {
  any = omega arith;
  kept = kept_alone slot;
  placed = λ s. first_case None a (nat_eq s slot) (is_at (nat_cmp s) slot) (slot_test s slot);
}

-- ---- a route that comes
put_case : (a : PathAttributes) (b c place : Bool) (o : Option PathAttributes) → c ≡ b → place ≡ is_some o → cond b true place ≡ is_some (cond c (Some a) o)
put_case a true true place o is at = refl
put_case a true false place o is at = absurd (cc)
put_case a false true place o is at = absurd (cc)
put_case a false false place o is at = at

pub row_put : (slot : ℕ) (a : PathAttributes) (old new : PrefixRow) → IsRow old → IsAnnounced slot a old.routes new.routes → IsKept new.kept
    → ((s : ℕ) → is_placed new.kept.places s ≡ cond (nat_eq s slot) true (is_placed old.kept.places s)) → IsRow new
row_put slot a old new is put kept places = record {
  any = any_route slot a new.routes (put slot ∙ ap (λ b. cond b (Some a) (route_in old.routes slot)) (here slot));
  kept = kept;
  placed = λ s.
      places s
      ∙ put_case a (nat_eq s slot) (is_at (nat_cmp slot) s) (is_placed old.kept.places s) (route_in old.routes s) (slot_test slot s ∙ turned slot s) (is.placed s)
      ∙ ap is_some (sym (put s));
}

there_case : (slot s : ℕ) (ps : List (ℕ × Option Candidate)) (b : Bool) → nat_eq s slot ≡ b → is_placed ps slot ≡ true → is_placed ps s ≡ cond b true (is_placed ps s)
there_case slot s ps true is there = ap (is_placed ps) (same_slot s slot is) ∙ there
there_case slot s ps false is there = refl

-- the place of a route that is replaced is there
pub place_there : (slot : ℕ) (ps : List (ℕ × Option Candidate)) → is_placed ps slot ≡ true → (s : ℕ) → is_placed ps s ≡ cond (nat_eq s slot) true (is_placed ps s)
place_there slot ps there s = there_case slot s ps (nat_eq s slot) refl there

-- and that of another one is made
pub place_made : (ok : Bool) (slot : ℕ) (ps qs : List (ℕ × Option Candidate)) → ok ≡ true → qs ≡ cond (ok && not (is_placed ps slot)) (ps ++ (slot, None) ∷ []) ps
    → (s : ℕ) → is_placed qs s ≡ cond (nat_eq s slot) true (is_placed ps s)
place_made false slot ps qs done is s = absurd (cc)
place_made true slot ps qs done is s = by (is_placed ps slot) refl is
  where
    by : (b : Bool) → is_placed ps slot ≡ b → qs ≡ cond (not b) (ps ++ (slot, None) ∷ []) ps → is_placed qs s ≡ cond (nat_eq s slot) true (is_placed ps s)
    by true at same = ap (λ xs. is_placed xs s) same ∙ place_there slot ps at s
    by false at more = ap (λ xs. is_placed xs s) more ∙ placed_pushed slot s ps

-- it makes no candidate
pub offer_made : (b : Bool) (slot : ℕ) (ps qs : List (ℕ × Option Candidate)) → qs ≡ cond b (ps ++ (slot, None) ∷ []) ps → (s : ℕ) → candidate_of qs s ≡ candidate_of ps s
offer_made b slot ps qs is s = ap (λ xs. candidate_of xs s) is ∙ added_case b slot ps s

-- ---- candidates that change
pub row_changed : (changes : List Change) (old new : PrefixRow) → IsRow old → new.routes ≡ old.routes → new.kept.places ≡ with_changes changes old.kept.places → IsKept new.kept → IsRow new
row_changed changes old new is routes places kept = record {
  any = subst (λ r. 0 < length r) (sym routes) is.any;
  kept = kept;
  placed = λ s. ap (λ ps. is_placed ps s) places ∙ placed_changed changes s old.kept.places ∙ is.placed s ∙ ap (λ r. is_some (route_in r s)) (sym routes);
}

-- the changes are of slots with places
pub changes_placed : (changes : List Change) (row : PrefixRow) → IsRow row → All (λ c. IsSome (route_in row.routes c.slot)) changes → All (λ c. is_placed row.kept.places c.slot ≡ true) changes
changes_placed changes row is routed k d at = is.placed _ ∙ is_some-from (route_in row.routes _) (routed k d at)

pub change_offers : (changes : List Change) (row : PrefixRow) → IsRow row → All (λ c. IsSome (route_in row.routes c.slot)) changes
    → (s : ℕ) → candidate_of (with_changes changes row.kept.places) s ≡ changed changes s (candidate_of row.kept.places s)
change_offers changes row is routed s = candidate_changed changes s row.kept.places (changes_placed changes row is routed)

pub change_apart : (changes : List Change) (row : PrefixRow) → IsRow row → All (λ c. IsSome (route_in row.routes c.slot)) changes
    → AreApart (λ s. changed changes s (candidate_of row.kept.places s)) → AreApart (candidate_of (with_changes changes row.kept.places))
change_apart changes row is routed apart = λ s t c d ne at also.
    apart s t c d ne (sym (change_offers changes row is routed s) ∙ at) (sym (change_offers changes row is routed t) ∙ also)

pub change_idle : (changes : List Change) (row : PrefixRow) → IsRow row → ((s : ℕ) → changed changes s (candidate_of row.kept.places s) ≡ candidate_of row.kept.places s)
    → with_changes changes row.kept.places ≡ row.kept.places
change_idle changes row is same = idle_places changes row.kept.places is.kept.0.distinct (λ s there. same s)

-- ---- a route that goes
left_case : (b c place : Bool) (o : Option PathAttributes) → c ≡ b → place ≡ is_some o → cond b false place ≡ is_some (cond c None o)
left_case true true place o is at = refl
left_case true false place o is at = absurd (cc)
left_case false true place o is at = absurd (cc)
left_case false false place o is at = at

pub row_left : (slot : ℕ) (old new : PrefixRow) → IsRow old → is_only slot old.routes ≡ false → new.routes ≡ others_of slot old.routes → new.kept.places ≡ without_slot slot old.kept.places → IsKept new.kept
    → IsRow new
row_left slot old new is more routes places kept = record {
  any = subst (λ r. 0 < length r) (sym routes) (any_length (length (others_of slot old.routes)) more);
  kept = kept;
  placed = λ s.
      ap (λ ps. is_placed ps s) places ∙ placed_without slot s old.kept.places
      ∙ left_case (nat_eq s slot) (is_at (nat_cmp slot) s) (is_placed old.kept.places s) (route_in old.routes s) (slot_test slot s ∙ turned slot s) (is.placed s)
      ∙ ap is_some (sym (lookup-others nat_cmp_total s slot old.routes))
      ∙ ap (λ r. is_some (route_in r s)) (sym routes);
}

pub routes_left : (slot : ℕ) (old new : RouteList) → new ≡ others_of slot old → (s : ℕ) → route_in new s ≡ cond (nat_eq slot s) None (route_in old s)
routes_left slot old new is s =
    ap (λ r. route_in r s) is ∙ lookup-others nat_cmp_total s slot old ∙ ap (λ b. cond b None (route_in old s)) (slot_test slot s)

pub offers_left : (slot : ℕ) (ps qs : List (ℕ × Option Candidate)) → qs ≡ without_slot slot ps → (s : ℕ) → candidate_of qs s ≡ cond (nat_eq slot s) None (candidate_of ps s)
offers_left slot ps qs is s =
    ap (λ xs. candidate_of xs s) is ∙ candidate_without slot s ps ∙ ap (λ b. cond b None (candidate_of ps s)) (turned s slot)

-- ---- the best one
pub offered_best : (f : ℕ → Option Candidate) (best : Option Candidate) (c : Candidate) → IsBestOf f best → best ≡ Some c → IsSome (f c.slot)
offered_best f None c is at = absurd (cc)
offered_best f (Some d) c is at =
    let offered : f d.slot ≡ Some d = (is.1 d).0 (selected_member is.0 (Some d) is.2) in
    let same : d ≡ c = cc in
    subst (λ (x : Candidate). IsSome (f x.slot)) same (rw offered refl)

placed_offer : (o : Option (Option Candidate)) (place : Bool) → is_some o ≡ place → (place ≡ false → ⊥) → is_some o ≡ true
placed_offer None true is some = absurd (cc)
placed_offer None false is some = absurd (some refl)
placed_offer (Some c) place is some = refl

-- a candidate is one of a route
pub offer_routed : (row : PrefixRow) → IsRow row → (s : ℕ) → IsSome (candidate_of row.kept.places s) → IsSome (route_in row.routes s)
offer_routed row is s there =
    is_some-to (route_in row.routes s)
    (sym (is.placed s) ∙ placed_offer (lookup (nat_eq s) row.kept.places) (is_placed row.kept.places s) refl
    (λ none. none_there (candidate_of row.kept.places s) (none_unplaced (lookup (nat_eq s) row.kept.places) none) there))

-- so the best one is
pub best_routed : (row : PrefixRow) → IsRow row → (c : Candidate) → row.kept.best ≡ Some c → IsSome (route_in row.routes c.slot)
best_routed row is c at = offer_routed row is c.slot (offered_best (candidate_of row.kept.places) row.kept.best c (best_kept row.kept is.kept) at)

pub none_best : (f : ℕ → Option Candidate) (best : Option Candidate) → IsBestOf f best → ((s : ℕ) → f s ≡ None) → best ≡ None
none_best f None is none = refl
none_best f (Some d) is none = absurd (none_there (f d.slot) (none d.slot) (offered_best f (Some d) d is refl))

-- where a slot has the only route, the others have none
pub only_route : (slot : ℕ) (routes : RouteList) → is_only slot routes ≡ true → (s : ℕ) → cond (nat_eq slot s) None (route_in routes s) ≡ None
only_route slot routes only s = sym (routes_left slot routes [] (sym (no_length (others_of slot routes) only)) s)

-- and no candidates
pub only_offer : (slot : ℕ) (row : PrefixRow) → IsRow row → is_only slot row.routes ≡ true → (s : ℕ) → cond (nat_eq slot s) None (candidate_of row.kept.places s) ≡ None
only_offer slot row is only s = by (nat_eq slot s) (only_route slot row.routes only s)
  where
    by : (b : Bool) → cond b None (route_in row.routes s) ≡ None → cond b None (candidate_of row.kept.places s) ≡ None
    by true none = refl
    by false none = none_unplaced (lookup (nat_eq s) row.kept.places) (is.placed s ∙ ap is_some none)

-- so that nothing is left to choose among
pub ended_best : (slot : ℕ) (row : PrefixRow) (kept : Kept) → IsRow row → is_only slot row.routes ≡ true → kept.places ≡ without_slot slot row.kept.places → IsKept kept → kept.best ≡ None
ended_best slot row kept is only places book =
    none_best (candidate_of kept.places) kept.best (best_kept kept book) (λ s. offers_left slot row.kept.places kept.places places s ∙ only_offer slot row is only s)

-- candidates that are as others are apart as they are
pub apart_same : (slot : ℕ) (candidate : Option Candidate) (old new : ℕ → Option Candidate) → ((s : ℕ) → new s ≡ old s) → AreApart (λ s. cond (nat_eq slot s) candidate (old s)) → AreApart (λ s. cond (nat_eq slot s) candidate (new s))
apart_same slot candidate old new same apart = subst {A = ℕ → Option Candidate} (λ f. AreApart (λ s. cond (nat_eq slot s) candidate (f s))) (λ i s. sym (same s) i) apart

-- where there is no row, nothing can change
pub offers_unplaced : (changes : List Change) (row : Option PrefixRow) → row ≡ None → All (λ c. IsSome (route_of row c.slot)) changes → (s : ℕ) → offer_of row s ≡ changed changes s (offer_of row s)
offers_unplaced changes row none routed s =
    sym (unchanged (λ t. is_some (route_of row t)) s changes (offer_of row s) (λ k d at. is_some-from (route_of row _) (routed k d at)) (ap (λ o. is_some (route_of o s)) none))

-- a prefix's first route
first_case-of : (a : PathAttributes) (b c : Bool) → b ≡ c → cond b (Some a) None ≡ cond c (Some a) None
first_case-of a b c is = ap (λ x. cond x (Some a) None) is

pub first_routes : (slot : ℕ) (a : PathAttributes) (row old : Option PrefixRow) → option_map (λ r. r.routes) row ≡ Some ((slot, a) ∷ []) → old ≡ None → (s : ℕ) → route_of row s ≡ cond (nat_eq slot s) (Some a) (route_of old s)
first_routes slot a row old is none s =
    ap (λ o. route_among o s) is ∙ first_case-of a (is_at (nat_cmp s) slot) (nat_eq slot s) (slot_test s slot ∙ turned s slot)
    ∙ ap (λ o. cond (nat_eq slot s) (Some a) (route_of o s)) (sym none)

-- makes no candidate
pub first_offers : (slot : ℕ) (a : PathAttributes) (row old : Option PrefixRow) → row ≡ Some (first_route slot a) → old ≡ None → (s : ℕ) → offer_of row s ≡ offer_of old s
first_offers slot a row old is none s = ap (λ o. offer_of o s) is ∙ candidate_pushed slot s [] ∙ ap (λ o. offer_of o s) (sym none)

pub row_kept : (o p : Option PrefixRow) (row : PrefixRow) → option_map (λ r. r.routes) o ≡ option_map (λ r. r.routes) p → p ≡ Some row → IsSome o
row_kept (Some r) p row same is = refl
row_kept None None row same is = absurd (cc)
row_kept None (Some other) row same is = absurd (cc)

-- what follows from a success's answer, or a failure's
pub through_ok : {T E : Type 0} (r : Result T E) (P Q : Type 0) → OnOk r P → (P → Q) → OnOk r Q
through_ok (Ok x) P Q h f = f h
through_ok (Err e) P Q h f = tt

pub through_err : {T E : Type 0} (r : Result T E) (P Q : Type 0) → OnErr r P → (P → Q) → OnErr r Q
through_err (Ok x) P Q h f = tt
through_err (Err e) P Q h f = f h

pub some_there : {X : Type 0} (o : Option X) (x : X) → o ≡ Some x → IsSome o
some_there None x is = absurd (cc)
some_there (Some y) x is = refl

pub always_ok : {T E : Type 0} (r : Result T E) (P : Type 0) → P → OnOk r P
always_ok (Ok x) P h = h
always_ok (Err e) P h = tt

pub always_err : {T E : Type 0} (r : Result T E) (P : Type 0) → P → OnErr r P
always_err (Ok x) P h = tt
always_err (Err e) P h = h

-- what follows from what is answered, or from nothing
pub through_none : {T : Type 0} (r : Option T) (P Q : Type 0) → IfNone r P → (P → Q) → IfNone r Q
through_none None P Q h f = f h
through_none (Some x) P Q h f = tt

pub through_some : {T : Type 0} (r : Option T) (P Q : T → Type 0) → IfSome r P → ((x : T) → P x → Q x) → IfSome r Q
through_some None P Q h f = tt
through_some (Some x) P Q h f = f x h

-- what follows where a success answers nothing, or something
pub through_brought : {T E : Type 0} (r : Result (Option T) E) (P Q : Type 0) → IfOk r (λ back. IfNone back P) → (P → Q) → IfOk r (λ back. IfNone back Q)
through_brought (Ok back) P Q h f = through_none back P Q h f
through_brought (Err e) P Q h f = tt

pub through_back : {T E : Type 0} (r : Result (Option T) E) (P Q : T → Type 0) → IfOk r (λ back. IfSome back P) → ((x : T) → P x → Q x) → IfOk r (λ back. IfSome back Q)
through_back (Ok back) P Q h f = through_some back P Q h f
through_back (Err e) P Q h f = tt
