-- What stands under the clients' keys, one step of a turn after another.
use Rattle.std.proofs.Common.{arith, ◌≡◌, ◌≢◌, refl, sym, ap, subst, ◌∙◌, zero, suc, length, ℕ, ◌+◌, ◌<◌, List, [], ◌∷◌, ◌++◌, Option, Some, None, IsSome, Bool, true, false, if◌then◌else◌, ◌⊎◌, inl, inr, add-one}
use Rattle.std.proofs.Math.ListN.{get_or, set}
use Rattle.std.proofs.lemmas.List.{get_or-set_same, length-set}
use Rattle.rtr_cache.specs.CacheTable.{Conn}
use Rattle.rtr_cache.specs.CacheState.{CacheState, OthersStay, client_at}
use Rattle.cache_turns.specs.Serving.{Attends, Connection, Sides}
use Rattle.cache_turns.specs.Turns.{EachHasAClient, TellsCache, Turns, Visits, VisitsBelow, VisitsLink, link_at, link_left, settled, sides}
use Rattle.cache_turns.specs.declared.link.Visit.{Visit}

-- one more place with nothing at it changes no place
pub same_places : {X : Type 0} → (xs : List (Option X)) (at : ℕ) → get_or (xs ++ None ∷ []) at None ≡ get_or xs at None
same_places [] zero = refl
same_places [] (suc at) = refl
same_places (x ∷ xs) zero = refl
same_places (x ∷ xs) (suc at) = same_places xs at

-- so it is where a push has gone well or not
pub pushed_places : {X : Type 0} → (ok : Bool) (xs ys start : List (Option X)) → ys ≡ (if ok then xs ++ None ∷ [] else xs) → ((at : ℕ) → get_or xs at None ≡ get_or start at None) → (at : ℕ) → get_or ys at None ≡ get_or start at None
pushed_places {X} true xs ys start is same at = ap (λ (l : List (Option X)). get_or l at None) is ∙ same_places xs at ∙ same at
pushed_places {X} false xs ys start is same at = ap (λ (l : List (Option X)). get_or l at None) is ∙ same at

-- a place that is emptied has nothing at it, and each other what it had
emptied : {X : Type 0} → (xs : List (Option X)) (place at : ℕ) → (get_or (set xs place None) at None ≡ None) ⊎ ((at ≢ place) × (get_or (set xs place None) at None ≡ get_or xs at None))
emptied [] place at = inl refl
emptied (x ∷ xs) zero zero = inl refl
emptied (x ∷ xs) zero (suc at) = inr (λ wrong. cc, refl)
emptied (x ∷ xs) (suc place) zero = inr (λ wrong. cc, refl)
emptied (x ∷ xs) (suc place) (suc at) = behind (emptied xs place at)
  where
    behind : ((get_or (set xs place None) at None ≡ None) ⊎ ((at ≢ place) × (get_or (set xs place None) at None ≡ get_or xs at None))) → (get_or (set xs place None) at None ≡ None) ⊎ ((suc at ≢ suc place) × (get_or (set xs place None) at None ≡ get_or xs at None))
    behind (inl none) = inl none
    behind (inr same) = inr (λ wrong. same.0 (omega (arith, wrong)), same.1)

-- a place that has nothing at it is emptied: nothing changes
pub emptied_again : {X : Type 0} → (xs : List (Option X)) (place : ℕ) → get_or xs place None ≡ None → set xs place None ≡ xs
emptied_again [] place none = refl
emptied_again {X} (x ∷ xs) zero none = ap (λ (y : Option X). y ∷ xs) (sym none)
emptied_again {X} (x ∷ xs) (suc place) none = ap (λ (ys : List (Option X)). x ∷ ys) (emptied_again xs place none)

-- no other place changes
pub set_other : {X : Type 0} → (xs : List (Option X)) (place : ℕ) (x : Option X) (at : ℕ) → at ≢ place → get_or (set xs place x) at None ≡ get_or xs at None
set_other [] place y at differs = refl
set_other (x ∷ xs) zero y zero differs = absurd (differs refl)
set_other (x ∷ xs) zero y (suc at) differs = refl
set_other (x ∷ xs) (suc place) y zero differs = refl
set_other (x ∷ xs) (suc place) y (suc at) differs = set_other xs place y at (λ same. differs (ap (λ (n : ℕ). suc n) same))

no_link : {X : Type 0} → (found : Option X) → found ≡ None → IsSome found → ⊥
no_link found is there = let wrong : false ≡ true = rw is at there in cc

-- while a connection is taken out, each other one has its client
pub each_other : (old new : CacheState) (links left : List (Option Connection)) (key : ℕ) → EachHasAClient old links → left ≡ set links key None → OthersStay old key new → EachHasAClient new left
each_other old new links left key each taken_out stay other there = by_place (emptied links key other)
  where
    still : IsSome (get_or (set links key None) other None)
    still = subst (λ (l : List (Option Connection)). IsSome (get_or l other None)) taken_out there

    by_place : ((get_or (set links key None) other None ≡ None) ⊎ ((other ≢ key) × (get_or (set links key None) other None ≡ get_or links other None))) → IsSome (client_at new other)
    by_place (inl none) = absurd (no_link {X = Connection} _ none still)
    by_place (inr same) =
        subst (λ (c : Option Conn). IsSome c) (sym (stay other same.0))
        (each other (subst (λ (l : Option Connection). IsSome l) same.1 still))

-- a client without a connection goes: each connection has its client
pub sent_away : (old new : CacheState) (links : List (Option Connection)) (key : ℕ) → EachHasAClient old links → get_or links key None ≡ None → OthersStay old key new → EachHasAClient new links
sent_away old new links key each none stay = each_other old new links links key each (sym (emptied_again links key none)) stay

-- a visit to a connection, which was taken out for it
pub visited : (now : ℕ) (old new : Turns) (places : List (Option Connection)) (key : ℕ) (link after : Connection) (visit : Visit) (behind : Sides) → link_at old key ≡ Some link → key < length old.links → places ≡ set old.links key None → Attends old.patience now key link (sides old) visit after behind → new.patience ≡ old.patience → new.counts ≡ settled visit after.number (record old.counts { wire = behind.wire }) → TellsCache visit behind.cache key new.cache → new.links ≡ set places key (link_left visit after) → Visits now old key new
visited now old new places key link after visit behind here within taken_out attends patience counts tells links =
    subst (λ (l : Option Connection). VisitsLink now old key l new) (sym here)
    (record {
      visit = visit;
      left = after;
      behind = behind;
      attends = attends;
      patience = patience;
      counts = counts ∙ ap (λ (n : ℕ). settled visit n (record old.counts { wire = behind.wire })) attends.stands.number;
      tells = tells;
      stands = ap (λ (l : List (Option Connection)). get_or l key None) links ∙ get_or-set_same places key (link_left visit after) None inside;
      others = λ other differs. ap (λ (l : List (Option Connection)). get_or l other None) links ∙ (set_other places key (link_left visit after) other differs ∙ (ap (λ (l : List (Option Connection)). get_or l other None) taken_out ∙ set_other old.links key None other differs));
    })
  where
    inside : key < length places
    inside = omega (arith, within, ap (λ (l : List (Option Connection)). length l) taken_out, length-set old.links key None)

-- one key more is visited
pub visited_next : (now key : ℕ) (old mid next : Turns) → VisitsBelow now key old mid → Visits now mid key next → VisitsBelow now (key + 1) old next
visited_next now key old mid next before here = subst (λ (n : ℕ). VisitsBelow now n old next) (sym (add-one key)) (mid, before, here)
