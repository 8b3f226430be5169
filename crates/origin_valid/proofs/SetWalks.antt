-- What a walk over payloads leaves of a set.
use Rattle.std.proofs.Common.{◌≡◌, ◌&&◌, ◌||◌, ◌++◌, Bool, true, false, not, List, [], ◌∷◌, Result, Ok, Err, OnErr, map, refl, sym, ap, ◌∙◌}
use Rattle.std.proofs.lemmas.Bool.{or_parts}
use Rattle.std.proofs.lemmas.List.Folds.{list_any-append}
use Rattle.std.proofs.lemmas.Map.Iter.{rest_so_far}
use Rattle.std.specs.Borrow.{Bor}
use Rattle.std.specs.BTreeMap.{is_at}
use Rattle.std.specs.Iterator.{Yields}
use Rattle.std.specs.Map.Iter.{TakesFirst, deref}
use Rattle.net_prefix.specs.PayloadOrder.{payload_cmp}
use Rattle.net_prefix.specs.PayloadSets.{IsPayloadSet, has, out, put}
use Rattle.net_prefix.specs.declared.payload.Vrp.{Vrp}
use Rattle.net_prefix.proofs.PayloadSets.{has-out, has-put, same_set}
use Rattle.vrp_delta.proofs.Changing.{is_at-turned}
use Rattle.vrp_delta.specs.Delta.{Change, IsApplied}
use Rattle.vrp_delta.specs.Keeping.{IsChangeOf}

map_push : (xs : List (Bor Vrp)) (x : Bor Vrp) → map (deref {X = Vrp}) (xs ++ x ∷ []) ≡ map deref xs ++ x.now ∷ []
map_push [] x = refl
map_push (y ∷ xs) x = ap (λ l. y.now ∷ l) (map_push xs x)

last : (b c : Bool) → (b || (c || false)) ≡ (b || c)
last true c = refl
last false true = refl
last false false = refl

has_push : (xs : List (Bor Vrp)) (x : Bor Vrp) (q : Vrp) → has (map deref (xs ++ x ∷ [])) q ≡ (has (map deref xs) q || is_at (payload_cmp q) x.now)
has_push xs x q =
    ap (λ l. has l q) (map_push xs x) ∙ list_any-append (is_at (payload_cmp q)) (map deref xs) (x.now ∷ []) ∙ last (has (map deref xs) q) (is_at (payload_cmp q) x.now)

left_by : (o y c : Bool) → (not c && (o && not y)) ≡ (o && not (y || c))
left_by true true true = refl
left_by true true false = refl
left_by true false true = refl
left_by true false false = refl
left_by false true true = refl
left_by false true false = refl
left_by false false true = refl
left_by false false false = refl

-- one more payload was taken out
pub out_more : (old set new : List Vrp) (xs : List (Bor Vrp)) (x : Bor Vrp) → ((q : Vrp) → has set q ≡ (has old q && not (has (map deref xs) q))) → new ≡ out x.now set
    → (q : Vrp) → has new q ≡ (has old q && not (has (map deref (xs ++ x ∷ [])) q))
out_more old set new xs x so_far is q =
    ap (λ l. has l q) is ∙ has-out set x.now q ∙ ap (λ b. not b && has set q) (is_at-turned x.now q) ∙ ap (λ b. not (is_at (payload_cmp q) x.now) && b) (so_far q)
    ∙ left_by (has old q) (has (map deref xs) q) (is_at (payload_cmp q) x.now) ∙ ap (λ b. has old q && not b) (sym (has_push xs x q))

joined_by : (o y c : Bool) → (c || (o || y)) ≡ (o || (y || c))
joined_by true y true = refl
joined_by true y false = refl
joined_by false true true = refl
joined_by false true false = refl
joined_by false false true = refl
joined_by false false false = refl

-- one more payload was put in
pub put_more : (old set new : List Vrp) (xs : List (Bor Vrp)) (x : Bor Vrp) → ((q : Vrp) → has set q ≡ (has old q || has (map deref xs) q)) → new ≡ put x.now set
    → (q : Vrp) → has new q ≡ (has old q || has (map deref (xs ++ x ∷ [])) q)
put_more old set new xs x so_far is q =
    ap (λ l. has l q) is ∙ has-put set x.now q ∙ ap (λ b. is_at (payload_cmp q) x.now || b) (so_far q)
    ∙ joined_by (has old q) (has (map deref xs) q) (is_at (payload_cmp q) x.now) ∙ ap (λ b. has old q || b) (sym (has_push xs x q))

or_none : (b : Bool) → (b || false) ≡ b
or_none true = refl
or_none false = refl

-- where the walk ended early, nothing else is changed
pub put_some : (old set new all s t : List Vrp) (xs : List (Bor Vrp)) → Yields (TakesFirst (deref {X = Vrp})) s xs t → s ≡ all
    → ((q : Vrp) → has set q ≡ (has old q || has (map deref xs) q)) → new ≡ set → (q : Vrp) → has all q ≡ false → has new q ≡ has old q
put_some old set new all s t xs yielded from so_far is q none =
    let parts : has all q ≡ (has (map deref xs) q || has t q) =
    ap (λ l. has l q) (sym from ∙ rest_so_far deref xs s t yielded) ∙ list_any-append (is_at (payload_cmp q)) (map deref xs) t in
    ap (λ l. has l q) is ∙ so_far q ∙ ap (λ b. has old q || b) (or_parts (has (map deref xs) q) (has t q) (sym parts ∙ none)).0 ∙ or_none (has old q)

pub on_err : {X Y P : Type 0} (r : Result X Y) → P → OnErr r P
on_err (Ok x) p = tt
on_err (Err y) p = p

-- ---- a whole change
applied_case : (o w a : Bool) → (w ≡ true → o ≡ true) → (a ≡ true → o ≡ false) → ((o || a) && not w) ≡ ((o && not w) || a)
applied_case true true true known new = let none = new refl in absurd cc
applied_case true true false known new = refl
applied_case true false true known new = refl
applied_case true false false known new = refl
applied_case false true a known new = let there = known refl in absurd cc
applied_case false false true known new = refl
applied_case false false false known new = refl

-- what is announced was put in, and then what is withdrawn taken out
pub changed : (old set new : List Vrp) (change : Change) → IsChangeOf old change → ((q : Vrp) → has set q ≡ (has old q || has change.announced q))
    → ((q : Vrp) → has new q ≡ (has set q && not (has change.withdrawn q))) → IsApplied old change new
changed old set new change is put out q =
    out q ∙ ap (λ b. b && not (has change.withdrawn q)) (put q)
    ∙ applied_case (has old q) (has change.withdrawn q) (has change.announced q) (is.withdraws_known q) (is.announces_unknown q)

undone_case : (o s a : Bool) → (a ≡ true → o ≡ false) → (a ≡ false → s ≡ o) → (s && not a) ≡ o
undone_case true s true new same = let none = new refl in absurd cc
undone_case true s false new same = rw (same refl) refl
undone_case false true true new same = refl
undone_case false false true new same = refl
undone_case false s false new same = rw (same refl) refl

-- some of what is announced was put in, and all of it taken out again
pub undone : (old set new : List Vrp) (change : Change) → IsChangeOf old change → IsPayloadSet old → IsPayloadSet new → ((q : Vrp) → has change.announced q ≡ false → has set q ≡ has old q)
    → ((q : Vrp) → has new q ≡ (has set q && not (has change.announced q))) → new ≡ old
undone old set new change is old_is new_is put out =
    same_set new old new_is old_is (λ q. out q ∙ undone_case (has old q) (has set q) (has change.announced q) (is.announces_unknown q) (put q))
