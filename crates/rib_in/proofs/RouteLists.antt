-- What holds of the routes to one prefix when one is put in, replaced or taken out.
use Rattle.std.proofs.Common.{◌≡◌, ℕ, ◌<◌, ◌==◌, Bool, true, false, not, cond, [], ◌∷◌, Option, Some, None, IsSome, Box, length, suc, refl, sym, ap, subst, ◌∙◌, arith}
use Rattle.std.proofs.lemmas.Bool.{eqb-true}
use Rattle.std.proofs.lemmas.Bool.Decides.{nat_tests}
use Rattle.std.proofs.lemmas.Cmp.{eq_by_cmp_equiv, nat_cmp_total}
use Rattle.std.proofs.lemmas.Map.{keys-set_value, lookup-set_value}
use Rattle.std.proofs.lemmas.Map.Entries.{length-keys_of}
use Rattle.std.specs.BTreeMap.{is_at, insert_entry}
use Rattle.std.specs.List.{AllByRecursion}
use Rattle.std.specs.List.Sorted.{IsStrictlySortedBy}
use Rattle.std.specs.Map.{keys_of, set_value}
use Rattle.std.specs.Option.{is_some}
use Rattle.std.specs.Ordering.{is_eq, nat_cmp}
use Rattle.std.specs.declared.cmp.Ordering.TheVariants.{Less, Greater}
use Rattle.bgp_attr.specs.PathAttributes.{PathAttributes}
use Rattle.rib_in.specs.LatestRoutes.{RouteList, route_in}
use Rattle.rib_in.specs.PrefixRoutes.{AreRoutes, HasRisingSlots, IsAnnounced, higher_of, is_next_only, is_only, others_of}
use Rattle.bgp_attr.proofs.EntryLists.{equal_from, lookup-insert_entry, some-insert_entry, sorted-insert_entry}
use Rattle.rib_in.proofs.Ordered.{sorted-others}

abbrev pub first_slot : RouteList → ℕ
first_slot [] = 0
first_slot (e ∷ es) = e.0

pub here : (s : ℕ) → is_at (nat_cmp s) s ≡ true
here s = grind (arith, nat_tests)

pub not_at : (s t : ℕ) → (s ≡ t → ⊥) → is_at (nat_cmp t) s ≡ false
not_at s t h = grind (arith, nat_tests)

is_slot : (s t : ℕ) → is_at (nat_cmp t) s ≡ true → s ≡ t
is_slot s t h = grind (arith, nat_tests)

abbrev Above : ℕ → RouteList → Type 0
Above s es = AllByRecursion (λ t. nat_cmp s t ≡ Less) (keys_of es)

others_above : (s : ℕ) (es : RouteList) → Above s es → others_of s es ≡ es
others_above s [] h = refl
others_above s (e ∷ es) h = rw h.0 (ap (λ l. e ∷ l) (others_above s es h.1))

above_first : (s : ℕ) (a : PathAttributes) (es : RouteList) → HasRisingSlots ((s, a) ∷ es) → Above s es
unfolding IsStrictlySortedBy
above_first s a es h = h.0

pub no_length : (es : RouteList) → (length es == 0) ≡ true → es ≡ []
no_length [] h = refl
no_length (e ∷ es) h = let none : length (e ∷ es) ≡ 0 = eqb-true (length (e ∷ es)) 0 h in absurd (omega arith)

some_length : (n : ℕ) → 0 < n → (n == 0) ≡ false
some_length n h = grind (arith, nat_tests)

pub any_length : (n : ℕ) → (n == 0) ≡ false → 0 < n
any_length n h = grind (arith, nat_tests)

pub any_route : (s : ℕ) (a : PathAttributes) (es : RouteList) → route_in es s ≡ Some a → 0 < length es
any_route s a [] h = absurd cc
any_route s a (e ∷ es) h = omega arith

-- ---- one route
pub one_route : {A : Type 0} (s : ℕ) (a : PathAttributes) → AreRoutes {A = A} s a None
unfolding IsStrictlySortedBy
one_route s a = record { any = tt; rising = (tt, tt) }

-- ---- looking
without_first : (s : ℕ) (a : PathAttributes) (es : RouteList) → HasRisingSlots ((s, a) ∷ es) → others_of s ((s, a) ∷ es) ≡ es
without_first s a es h = rw (here s) (others_above s es (above_first s a es h))

pub only_first : {A : Type 0} (s t : ℕ) (a : PathAttributes) (higher : Option (Box RouteList A)) (b : Bool) → AreRoutes s a higher → s ≡ t → is_some higher ≡ not b → b ≡ is_only t ((s, a) ∷ higher_of higher)
only_first s t a None true h e same = subst (λ n. true ≡ is_only n ((s, a) ∷ [])) e (ap (λ l. length l == 0) (sym (without_first s a [] h.rising)))
only_first s t a None false h e same = absurd cc
only_first s t a (Some b) true h e same = absurd cc
only_first s t a (Some b) false h e same =
    subst (λ n. false ≡ is_only n ((s, a) ∷ b.value)) e (sym (ap (λ l. length l == 0) (without_first s a b.value h.rising) ∙ some_length (length b.value) h.any))

-- no slot is the only one where there are others behind the first
alone_so : {A : Type 0} (s t : ℕ) (a : PathAttributes) (b : Box RouteList A) (at : Bool) → AreRoutes s a (Some b) → is_at (nat_cmp t) s ≡ at → false ≡ is_only t ((s, a) ∷ b.value)
alone_so s t a b true h is = only_first s t a (Some b) false h (is_slot s t is) refl
alone_so s t a b false h is = rw is (sym (some_length (suc (length (others_of t b.value))) (omega arith)))

pub not_alone : {A : Type 0} (s t : ℕ) (a : PathAttributes) (b : Box RouteList A) → AreRoutes s a (Some b) → false ≡ is_only t ((s, a) ∷ b.value)
not_alone s t a b h = alone_so s t a b (is_at (nat_cmp t) s) h refl

pub next_only : {A : Type 0} (s t : ℕ) (a : PathAttributes) (b : Box RouteList A) (r : Bool) → AreRoutes s a (Some b) → r ≡ is_only t b.value → r ≡ is_next_only t ((s, a) ∷ b.value)
next_only s t a b r h is = rw (some_length (length b.value) h.any) is

-- ---- replacing
pub replaced : {A : Type 0} (s : ℕ) (a x : PathAttributes) (test : ℕ → Bool) (b c : Box RouteList A) → AreRoutes s a (Some b) → c.value ≡ set_value test b.value x → AreRoutes s a (Some c)
unfolding IsStrictlySortedBy
replaced s a x test b c h is =
    let keys : keys_of c.value ≡ keys_of b.value = ap keys_of is ∙ keys-set_value test b.value x in
    let long : length c.value ≡ length b.value = sym (length-keys_of c.value) ∙ ap length keys ∙ length-keys_of b.value in
    record { any = rw long h.any; rising = rw keys h.rising }

is_some-there : (o : Option PathAttributes) → is_some o ≡ true → IsSome o
is_some-there None h = absurd cc
is_some-there (Some a) h = refl

pub other_announced : (slot : ℕ) (a : PathAttributes) (routes : RouteList) → is_some (route_in routes slot) ≡ true → IsAnnounced slot a routes (set_value (is_at (nat_cmp slot)) routes a)
other_announced slot a routes has s =
    lookup-set_value (eq_by_cmp_equiv nat_cmp_total) (is_at (nat_cmp slot)) (λ x y at. ap is_eq (nat_cmp_total.congr slot x y (equal_from (nat_cmp slot x) at))) s a routes (is_some-there (route_in routes slot) has)

-- ---- putting in
pub one_announced : (slot : ℕ) (a : PathAttributes) (routes : RouteList) → IsAnnounced slot a routes (insert_entry nat_cmp routes slot a)
one_announced slot a routes s = lookup-insert_entry nat_cmp_total s slot a routes

pub put_before : {A : Type 0} (k s : ℕ) (a x : PathAttributes) (es : RouteList) (b : Box RouteList A) → nat_cmp k s ≡ Less → HasRisingSlots ((s, x) ∷ es) → b.value ≡ (s, x) ∷ es → AreRoutes k a (Some b)
put_before k s a x es b less rising is = record {
  any = rw is (omega arith);
  rising = rw is (rw less at (sorted-insert_entry nat_cmp_total k a ((s, x) ∷ es) rising));
}

pub put_behind : {A : Type 0} (k s : ℕ) (a x : PathAttributes) (es : RouteList) (b : Box RouteList A) → nat_cmp k s ≡ Greater → HasRisingSlots ((s, x) ∷ es) → b.value ≡ insert_entry nat_cmp es k a → AreRoutes s x (Some b)
put_behind k s a x es b greater rising is = record {
  any = rw is (some-insert_entry nat_cmp_total k a es);
  rising = rw is (rw greater at (sorted-insert_entry nat_cmp_total k a ((s, x) ∷ es) rising));
}

-- ---- taking out
-- where there are others behind the slot's route, it isn't the only one
pub only_higher : {A : Type 0} (s t : ℕ) (a : PathAttributes) (b : Box RouteList A) → AreRoutes s a (Some b) → s ≡ t → is_only t ((s, a) ∷ b.value) ≡ true → ⊥
only_higher s t a b h same only = let clash : false ≡ true = only_first s t a (Some b) false h same refl ∙ only in cc

pub left_first : (s t : ℕ) (a : PathAttributes) (es new : RouteList) → HasRisingSlots ((s, a) ∷ es) → s ≡ t → new ≡ es → new ≡ others_of t ((s, a) ∷ es)
left_first s t a es new h e is = subst (λ n. new ≡ others_of n ((s, a) ∷ es)) e (is ∙ sym (without_first s a es h))

pub left_behind : (s t : ℕ) (a : PathAttributes) (es new : RouteList) → (s ≡ t → ⊥) → new ≡ others_of t es → (s, a) ∷ new ≡ others_of t ((s, a) ∷ es)
left_behind s t a es new apart is = rw (not_at s t apart) (ap (λ l. (s, a) ∷ l) is)

pub routes_left : {A : Type 0} (s t : ℕ) (a : PathAttributes) (b c : Box RouteList A) → AreRoutes s a (Some b) → (s ≡ t → ⊥) → is_only t b.value ≡ false → c.value ≡ others_of t b.value → AreRoutes s a (Some c)
routes_left s t a b c h apart more is = record {
  any = rw is (any_length (length (others_of t b.value)) more);
  rising = rw is (rw (not_at s t apart) at (sorted-others nat_cmp_total t ((s, a) ∷ b.value) h.rising));
}

only_there : (b c : Bool) → cond b false c ≡ true → c ≡ true
only_there true c h = absurd cc
only_there false c h = h

-- where the next route is that of the slot and the last one, nothing stays behind the first
pub nothing_left : {A : Type 0} (s t : ℕ) (a : PathAttributes) (higher : Option (Box RouteList A)) → (s ≡ t → ⊥) → is_next_only t ((s, a) ∷ higher_of higher) ≡ true → (s, a) ∷ [] ≡ others_of t ((s, a) ∷ higher_of higher)
nothing_left s t a None apart h = absurd cc
nothing_left s t a (Some b) apart h = left_behind s t a b.value [] apart (sym (no_length (others_of t b.value) (only_there (length b.value == 0) (is_only t b.value) h)))
