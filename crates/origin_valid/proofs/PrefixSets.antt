-- What holds of the payloads of a prefix when one is put in or taken out.
use Rattle.std.proofs.Common.{◌≡◌, ◌⊎◌, ◌==◌, Bool, true, false, List, [], ◌∷◌, Result, Ok, Err, OnOk, OnErr, IsTrue, ◌↔◌, inl, inr, length, refl, sym, ap, subst, ◌∙◌, arith}
use Rattle.std.proofs.lemmas.Bool.{eqb-true, eq-eqb}
use Rattle.std.specs.BTreeMap.{is_at}
use Rattle.std.specs.BTreeSet.{insert_key}
use Rattle.std.specs.Cmp.{tied_itself}
use Rattle.std.specs.List.{AllByRecursion}
use Rattle.std.specs.List.Sorted.{IsStrictlySortedBy}
use Rattle.std.specs.Ordering.{is_eq}
use Rattle.std.specs.Set.{remove_key}
use Rattle.std.specs.declared.cmp.Ordering.{Ordering}
use Rattle.std.specs.declared.cmp.Ordering.TheVariants.{Less, Equal, Greater}
use Rattle.net_prefix.specs.PayloadOrder.{payload_cmp}
use Rattle.net_prefix.specs.PayloadSets.{IsPayloadSet, out, put}
use Rattle.net_prefix.specs.declared.payload.Vrp.{Vrp}
use Rattle.net_prefix.proofs.PayloadSets.{out-is_set, payload_cmp_exact, payload_cmp_total, put-is_set, remove_key-out}
use Rattle.origin_valid.specs.KeptPayloads.{MayPut, is_only}

-- one payload
pub one_set : (p : Vrp) (s : List Vrp) → s ≡ [] → IsPayloadSet (p ∷ s)
unfolding IsStrictlySortedBy
one_set p s none = rw none (tt, tt)

abbrev Below : Vrp → List Vrp → Type 0
Below p s = AllByRecursion (λ q. payload_cmp p q ≡ Less) s

pub below_first : (p : Vrp) (s : List Vrp) → IsPayloadSet (p ∷ s) → Below p s
unfolding IsStrictlySortedBy
below_first p s h = h.0

pub tail_set : (p : Vrp) (s : List Vrp) → IsPayloadSet (p ∷ s) → IsPayloadSet s
unfolding IsStrictlySortedBy
tail_set p s h = h.1

pub cons_set : (p : Vrp) (s : List Vrp) → Below p s → IsPayloadSet s → IsPayloadSet (p ∷ s)
unfolding IsStrictlySortedBy
cons_set p s below h = (below, h)

out_above : (p : Vrp) (s : List Vrp) → Below p s → out p s ≡ s
out_above p [] h = refl
out_above p (q ∷ s) h = rw h.0 (ap (λ l. q ∷ l) (out_above p s h.1))

-- without the first
pub out_first : (p : Vrp) (s : List Vrp) → IsPayloadSet (p ∷ s) → out p (p ∷ s) ≡ s
out_first p s h = rw (tied_itself payload_cmp_total p) (out_above p s (below_first p s h))

-- without another one
pub out_other : (p q : Vrp) (s : List Vrp) → is_at (payload_cmp q) p ≡ false → out q (p ∷ s) ≡ p ∷ out q s
out_other p q s h = rw h refl

-- two payloads are one
pub at_one : (p q : Vrp) → is_at (payload_cmp q) p ≡ true → p ≡ q
at_one p q h = sym (payload_cmp_exact q p (equal (payload_cmp q p) h)) where
  equal : (o : Ordering) → is_eq o ≡ true → o ≡ Equal
  equal Less h = absurd cc
  equal Equal h = refl
  equal Greater h = absurd cc

no_length : (s : List Vrp) → length s ≡ 0 → s ≡ []
no_length [] h = refl
no_length (p ∷ s) h = absurd (omega arith)

empty_case : (s : List Vrp) (b : Bool) → (IsTrue b ↔ (length s ≡ 0)) → b ≡ (length s == 0)
empty_case s true h = sym (eq-eqb (length s) 0 (h.0 refl))
empty_case s false h = false_case (length s == 0) refl where
  false_case : (t : Bool) → (length s == 0) ≡ t → false ≡ t
  false_case true e = h.1 (eqb-true (length s) 0 e)
  false_case false e = refl

-- the first is the only one where no others stand behind it
pub only_first : (p q : Vrp) (s : List Vrp) (b : Bool) → IsPayloadSet (p ∷ s) → is_at (payload_cmp q) p ≡ true → (IsTrue b ↔ (length s ≡ 0)) → b ≡ is_only q (p ∷ s)
only_first p q s b h at is =
    subst (λ x. b ≡ is_only x (p ∷ s)) (at_one p q at) (empty_case s b is ∙ ap (λ l. length l == 0) (sym (out_first p s h)))

-- ---- taking out
pub left_others : (p q : Vrp) (s new : List Vrp) → IsPayloadSet (p ∷ s) → is_at (payload_cmp q) p ≡ false → new ≡ remove_key (is_at (payload_cmp q)) s
    → (p ∷ new ≡ out q (p ∷ s)) × IsPayloadSet (p ∷ new)
left_others p q s new h apart is =
    let made : p ∷ new ≡ out q (p ∷ s) = ap (λ l. p ∷ l) (is ∙ remove_key-out s q (tail_set p s h)) ∙ sym (out_other p q s apart) in
    (made, subst IsPayloadSet (sym made) (out-is_set (p ∷ s) q h))

pub left_behind : (p q next : Vrp) (s new : List Vrp) → IsPayloadSet (p ∷ s) → is_at (payload_cmp q) p ≡ true → s ≡ next ∷ new
    → (next ∷ new ≡ out q (p ∷ s)) × IsPayloadSet (next ∷ new)
left_behind p q next s new h at is =
    let made : s ≡ out q (p ∷ s) = subst (λ x. s ≡ out x (p ∷ s)) (at_one p q at) (sym (out_first p s h)) in
    (sym is ∙ made, subst IsPayloadSet is (tail_set p s h))

-- ---- putting in
put_below : (p : Vrp) (s : List Vrp) → Below p s → insert_key payload_cmp s p ≡ p ∷ s
put_below p [] h = refl
put_below p (q ∷ s) h = rw h.0 refl

pub put_first : (p k : Vrp) (s new : List Vrp) → IsPayloadSet (p ∷ s) → payload_cmp k p ≡ Less → new ≡ insert_key payload_cmp s p
    → (k ∷ new ≡ put k (p ∷ s)) × IsPayloadSet (k ∷ new)
put_first p k s new h less is =
    let made : k ∷ new ≡ put k (p ∷ s) = ap (λ l. k ∷ l) (is ∙ put_below p s (below_first p s h)) ∙ rw less refl in
    (made, subst IsPayloadSet (sym made) (put-is_set (p ∷ s) k h))

pub put_behind : (p k : Vrp) (s new : List Vrp) → IsPayloadSet (p ∷ s) → payload_cmp k p ≡ Greater → (new ≡ insert_key payload_cmp s k) ⊎ (new ≡ s)
    → MayPut k (p ∷ s) (p ∷ new) × IsPayloadSet (p ∷ new)
put_behind p k s new h greater (inl is) =
    let made : p ∷ new ≡ put k (p ∷ s) = rw greater (ap (λ l. p ∷ l) is) in
    (inl made, subst IsPayloadSet (sym made) (put-is_set (p ∷ s) k h))
put_behind p k s new h greater (inr is) = (inr (ap (λ l. p ∷ l) is), subst (λ l. IsPayloadSet (p ∷ l)) (sym is) h)

pub put_same : (p k : Vrp) (s : List Vrp) → payload_cmp k p ≡ Equal → put k (p ∷ s) ≡ p ∷ s
put_same p k s same = rw same refl

-- what a call did, whether it answered Ok or Err
pub either : {X Y P Q : Type 0} (r : Result X Y) → OnOk r P → OnErr r Q → P ⊎ Q
either (Ok x) p q = inl p
either (Err y) p q = inr q
