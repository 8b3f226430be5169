use Rattle.std.proofs.Common.{nat_eq, arith, ◌≡◌, ◌≢◌, ◌==◌, ◌&&◌, ◌||◌, ℕ, Bool, true, false, List, [], ◌∷◌, ◌++◌, Option, cond, refl, sym, ap, subst, ◌∙◌, append_assoc}
use Rattle.std.specs.Ordering.{nat_cmp, ordering_then, is_eq}
use Rattle.std.specs.declared.cmp.Ordering.{Ordering}
use Rattle.std.specs.declared.cmp.Ordering.TheVariants.{Less, Equal, Greater}
use Rattle.std.proofs.lemmas.Bool.{eq-eqb, ne_eqb}
use Rattle.std.proofs.lemmas.Bool.Decides.{nat_tests}
use Rattle.std.proofs.lemmas.List.{append-nil}
use Rattle.bgp_conf.proofs.PrefixOrder.{is_eq-nat_cmp}
use Rattle.net_prefix.specs.PrefixOrder.{prefix_cmp}
use Rattle.net_prefix.specs.declared.prefix.Prefix.{Prefix}
use Rattle.rib_in.specs.LatestRoutes.{is_route}
use Rattle.routing.specs.Updates.{is_among}
use Rattle.routing.proofs.Places.{same_from_is_prefix}

-- What the prefixes of an UPDATE make of the routes of its slot.

-- what there is of each slot and prefix
abbrev pub Found : Type 0 → Type 0
Found X = ℕ → Prefix → Option X

-- what there is of the slot and of each prefix that is so becomes this of the prefix, and nothing else changes
abbrev pub IsSet : {X : Type 0} → ℕ → (Prefix → Bool) → (Prefix → Option X) → Found X → Found X → Type 0
IsSet slot is what old new = (s : ℕ) (p : Prefix) → new s p ≡ cond (s == slot && is p) (what p) (old s p)

both_equal : (o p : Ordering) → is_eq (ordering_then o p) ≡ (is_eq p && is_eq o)
both_equal Less Less = refl
both_equal Less Equal = refl
both_equal Less Greater = refl
both_equal Equal Less = refl
both_equal Equal Equal = refl
both_equal Equal Greater = refl
both_equal Greater Less = refl
both_equal Greater Equal = refl
both_equal Greater Greater = refl

pub is_route-parts : (slot : ℕ) (e : Prefix) (s : ℕ) (p : Prefix) → is_route slot e s p ≡ (s == slot && is_eq (prefix_cmp e p))
is_route-parts slot e s p = rw (both_equal (prefix_cmp e p) (nat_cmp slot s), is_eq-nat_cmp slot s) refl

or_false : (b : Bool) → b ≡ (b || false)
or_false true = refl
or_false false = refl

or_assoc : (a b c : Bool) → (a || (b || c)) ≡ ((a || b) || c)
or_assoc true b c = refl
or_assoc false b c = refl

pub among_push : (p : Prefix) (seen : List Prefix) (e : Prefix) → is_among p (seen ++ e ∷ []) ≡ (is_among p seen || is_eq (prefix_cmp e p))
among_push p [] e = sym (or_false (is_eq (prefix_cmp e p)))
among_push p (d ∷ seen) e = rw (among_push p seen e) (or_assoc (is_eq (prefix_cmp d p)) (is_among p seen) (is_eq (prefix_cmp e p)))

pub one_more : {X : Type 0} (at seen now : Bool) (what old : X) → cond (at && now) what (cond (at && seen) what old) ≡ cond (at && (seen || now)) what old
one_more true true true what old = refl
one_more true true false what old = refl
one_more true false now what old = refl
one_more false seen now what old = refl

none_set : {X : Type 0} (b : Bool) (what r : X) → r ≡ cond (b && false) what r
none_set true what r = refl
none_set false what r = refl

-- these prefixes so far, of those that are taken, with those that are still to come
pub record Sets {X : Type 0} (slot : ℕ) (taken : Prefix → Bool) (prefixes seen rest : List Prefix) (what : Prefix → Option X) (old now : Found X) : Type 0 where
  pub whole : seen ++ rest ≡ prefixes
  pub set : IsSet slot (λ p. is_among p seen && taken p) what old now

pub Sets-start : {X : Type 0} (slot : ℕ) (taken : Prefix → Bool) (prefixes rest : List Prefix) (what : Prefix → Option X) (old : Found X) → rest ≡ prefixes → Sets slot taken prefixes [] rest what old old
Sets-start slot taken prefixes rest what old all = record { whole = all; set = λ s p. none_set (s == slot) (what p) (old s p) }

pub seen_next : (prefixes seen rest next : List Prefix) (e : Prefix) → seen ++ rest ≡ prefixes → rest ≡ e ∷ next → (seen ++ e ∷ []) ++ next ≡ prefixes
seen_next prefixes seen rest next e whole is = let here = rw is at whole in append_assoc seen (e ∷ []) next ∙ here

pub second_true : (a b : Bool) → (a && b) ≡ true → b ≡ true
second_true true b h = h
second_true false b h = absurd (cc)

same_what : {X : Type 0} (b : Bool) (x y r : X) → (b ≡ true → x ≡ y) → cond b x r ≡ cond b y r
same_what true x y r same = same refl
same_what false x y r same = refl

-- one more, which is taken
taken_more : (seen now t : Bool) → (now ≡ true → t ≡ true) → ((seen && t) || now) ≡ ((seen || now) && t)
taken_more true true t is = rw (is refl) refl
taken_more true false true is = refl
taken_more true false false is = refl
taken_more false true t is = sym (is refl)
taken_more false false t is = refl

pub Sets-more : {X : Type 0} (slot : ℕ) (taken : Prefix → Bool) (prefixes seen rest next : List Prefix) (e : Prefix) (what : Prefix → Option X) (old now new : Found X)
    → Sets slot taken prefixes seen rest what old now → rest ≡ e ∷ next → taken e ≡ true
    → ((s : ℕ) (p : Prefix) → new s p ≡ cond (is_route slot e s p) (what e) (now s p)) → Sets slot taken prefixes (seen ++ e ∷ []) next what old new
Sets-more slot taken prefixes seen rest next e what old now new h is takes set = record {
  whole = seen_next prefixes seen rest next e h.whole is;
  set = λ s p.
      rw (set s p, is_route-parts slot e s p, h.set s p, among_push p seen e)
      (here (s == slot) s p
      ∙ one_more (s == slot) (is_among p seen && taken p) (is_eq (prefix_cmp e p)) (what p) (old s p)
      ∙ ap (λ b. cond (s == slot && b) (what p) (old s p)) (taken_more (is_among p seen) (is_eq (prefix_cmp e p)) (taken p) (λ same. subst (λ q. taken q ≡ true) (same_from_is_prefix e p same) takes)));
}
  where
    here : (at : Bool) (s : ℕ) (p : Prefix) → cond (at && is_eq (prefix_cmp e p)) (what e) (cond (at && (is_among p seen && taken p)) (what p) (old s p))
        ≡ cond (at && is_eq (prefix_cmp e p)) (what p) (cond (at && (is_among p seen && taken p)) (what p) (old s p))
    here at s p = same_what (at && is_eq (prefix_cmp e p)) (what e) (what p) _ (λ same. ap what (same_from_is_prefix e p (second_true at _ same)))

-- one more, which isn't
passed_more : (seen now t : Bool) → (now ≡ true → t ≡ false) → (seen && t) ≡ ((seen || now) && t)
passed_more true now t is = refl
passed_more false true t is = sym (is refl)
passed_more false false t is = refl

pub Sets-passed : {X : Type 0} (slot : ℕ) (taken : Prefix → Bool) (prefixes seen rest next : List Prefix) (e : Prefix) (what : Prefix → Option X) (old now : Found X)
    → Sets slot taken prefixes seen rest what old now → rest ≡ e ∷ next → taken e ≡ false → Sets slot taken prefixes (seen ++ e ∷ []) next what old now
Sets-passed slot taken prefixes seen rest next e what old now h is passes = record {
  whole = seen_next prefixes seen rest next e h.whole is;
  set = λ s p.
      h.set s p
      ∙ rw (among_push p seen e)
      (ap (λ b. cond (s == slot && b) (what p) (old s p)) (passed_more (is_among p seen) (is_eq (prefix_cmp e p)) (taken p) (λ same. subst (λ q. taken q ≡ false) (same_from_is_prefix e p same) passes)));
}

pub Sets-end : {X : Type 0} (slot : ℕ) (taken : Prefix → Bool) (prefixes seen rest : List Prefix) (what : Prefix → Option X) (old now : Found X) → Sets slot taken prefixes seen rest what old now → rest ≡ []
    → IsSet slot (λ p. is_among p prefixes && taken p) what old now
Sets-end slot taken prefixes seen rest what old now h none = let here = rw none at h.whole in let all : seen ≡ prefixes = sym (append-nil seen) ∙ here in rw (← all) h.set

-- where all are
each_taken : (b : Bool) → (b && true) ≡ b
each_taken true = refl
each_taken false = refl

pub Sets-all : {X : Type 0} (slot : ℕ) (prefixes seen rest : List Prefix) (what : Prefix → Option X) (old now : Found X) → Sets slot (λ p. true) prefixes seen rest what old now → rest ≡ []
    → IsSet slot (λ p. is_among p prefixes) what old now
Sets-all slot prefixes seen rest what old now h none s p =
    Sets-end slot (λ p. true) prefixes seen rest what old now h none s p ∙ ap (λ b. cond (s == slot && b) (what p) (old s p)) (each_taken (is_among p prefixes))

-- what there is of the slot and a prefix that was seen and taken
pub set_here : {X : Type 0} (slot : ℕ) (taken : Prefix → Bool) (prefixes seen rest : List Prefix) (what : Prefix → Option X) (old now : Found X) (e : Prefix) → Sets slot taken prefixes seen rest what old now
    → is_among e seen ≡ true → taken e ≡ true → now slot e ≡ what e
set_here slot taken prefixes seen rest what old now e h there takes = h.set slot e ∙ rw (eq-eqb slot slot refl, there, takes) refl

-- no other slot's is another
pub set_others : {X : Type 0} (slot : ℕ) (is : Prefix → Bool) (what : Prefix → Option X) (old new : Found X) → IsSet slot is what old new → (s : ℕ) (p : Prefix) → s ≢ slot → new s p ≡ old s p
set_others slot is what old new set s p other = set s p ∙ rw (ne_eqb s slot other) refl

-- ---- whether a prefix is named
same_test : (e p : Prefix) → (nat_eq e.bits p.bits && nat_eq e.len p.len) ≡ is_eq (prefix_cmp e p)
same_test e p = grind (arith, nat_tests)

pub among_first : (e p : Prefix) (rest next : List Prefix) (b : Bool) → b ≡ (nat_eq e.bits p.bits && nat_eq e.len p.len) → rest ≡ e ∷ next → is_among p rest ≡ (b || is_among p next)
among_first e p rest next b test is = rw (is, test, same_test e p) refl
