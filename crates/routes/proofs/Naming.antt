use Rattle.std.proofs.Common.{◌≡◌, ◌⊎◌, ◌≤◌, ◌<◌, ◌+◌, ◌^◌, ◌||◌, ℕ, Bool, true, false, List, [], ◌∷◌, ◌++◌, length, length-append, Option, Some, None, MatchOption, refl, sym, ap, ◌∙◌, subst, arith, inl, inr}
use Rattle.std.specs.Prelude.{All}
use Rattle.std.specs.List.{AllByRecursion}
use Rattle.std.proofs.lemmas.List.Elements.{All-push}
use Rattle.std.specs.List.Sorted.{IsStrictlySortedBy}
use Rattle.std.specs.declared.cmp.Ordering.TheVariants.{Less}
use Rattle.std.proofs.lemmas.Bool.{cases_lt}
use Rattle.bgp_msg.specs.MessageSpelling.{wire_form}
use Rattle.net_prefix.specs.PrefixOrder.{prefix_cmp}
use Rattle.net_prefix.specs.PrefixSpelling.{spelling_of}
use Rattle.net_prefix.specs.declared.prefix.Prefix.{Prefix}
use Rattle.rib_out.specs.Held.{is_among, is_prefix}
use Rattle.rib_out.proofs.Prefixes.{is_prefix-refl}
use Rattle.routing.specs.Packing.{IsBehind, IsPack}
use Rattle.routing.specs.Places.{rank_of}
use Rattle.routing.proofs.Places.{less_from_rank, same_from_is_prefix, same_from_rank}
use Rattle.routing.proofs.RouteChanges.{among_push}

-- The prefixes that one UPDATE names, found one after another.

-- the octets of one prefix in an UPDATE
abbrev pub taken_by : Prefix → ℕ
taken_by p = length (spelling_of p.bits p.len)

-- it holds of the next prefix, which stands behind those that are named
abbrev pub IsComing : (Prefix → Type 0) → List Prefix → Option Prefix → Type 0
IsComing There named next = MatchOption next (Unit {0}) (λ p. There p × ((q : Prefix) → is_among q named ≡ true → rank_of q < rank_of p))

-- none but the next one and those behind it is left
abbrev pub IsLeftFrom : (Prefix → Type 0) → List Prefix → Option Prefix → Type 0
IsLeftFrom There named next = (q : Prefix) → There q → is_among q named ≡ false → MatchOption next ⊥ (λ p. rank_of p ≤ rank_of q)

-- it begins with this prefix
abbrev pub IsBegun : Prefix → List Prefix → Option Prefix → Type 0
IsBegun least named next = ((named ≡ []) × (next ≡ Some least)) ⊎ (is_among least named ≡ true)

-- prefixes are named in rising order, and there is so much room left
pub record Names (There : Prefix → Type 0) (most : ℕ) (least : Prefix) (named : List Prefix) (room : ℕ) (next : Option Prefix) : Type 0 where
  pub each : (q : Prefix) → is_among q named ≡ true → There q
  pub rising : IsStrictlySortedBy prefix_cmp named
  pub taken : room + length (wire_form named) ≡ most
  pub places : All (λ q. rank_of q < 2 ^ 38) named
  pub coming : IsComing There named next
  pub begun : IsBegun least named next
  pub rest : IsLeftFrom There named next

nothing_sorted : IsStrictlySortedBy prefix_cmp []
unfolding IsStrictlySortedBy
nothing_sorted = tt

pub Names-start : (There : Prefix → Type 0) (most : ℕ) (least : Prefix) → There least → ((q : Prefix) → There q → rank_of least ≤ rank_of q) → Names There most least [] most (Some least)
Names-start There most least here lowest = record {
  each = λ q never. absurd (cc);
  rising = nothing_sorted;
  taken = omega arith;
  places = λ k d h. absurd (omega (arith, h));
  coming = (here, λ q never. absurd (cc));
  begun = inl (refl, refl);
  rest = λ q there out. lowest q there;
}

wire_push : (named : List Prefix) (p : Prefix) → length (wire_form (named ++ p ∷ [])) ≡ length (wire_form named) + taken_by p
wire_push [] p = omega (arith, length-append (spelling_of p.bits p.len) [])
wire_push (d ∷ named) p =
    omega (arith, length-append (spelling_of d.bits d.len) (wire_form (named ++ p ∷ [])), length-append (spelling_of d.bits d.len) (wire_form named), wire_push named p)

pub wire_one : (p : Prefix) → length (wire_form (p ∷ [])) ≡ taken_by p
wire_one p = omega (arith, length-append (spelling_of p.bits p.len) [])

all_push : (P : Prefix → Type 0) (named : List Prefix) (p : Prefix) → AllByRecursion P named → P p → AllByRecursion P (named ++ p ∷ [])
all_push P [] p all here = (here, tt)
all_push P (d ∷ named) p all here = (all.0, all_push P named p all.1 here)

first_among : (d : Prefix) (named : List Prefix) → is_among d (d ∷ named) ≡ true
first_among d named = rw (is_prefix-refl d) refl

later_among : (b c : Bool) → c ≡ true → (b || c) ≡ true
later_among true c is = refl
later_among false c is = is

rising_push : (named : List Prefix) (p : Prefix) → IsStrictlySortedBy prefix_cmp named → ((q : Prefix) → is_among q named ≡ true → rank_of q < rank_of p) → IsStrictlySortedBy prefix_cmp (named ++ p ∷ [])
unfolding IsStrictlySortedBy
rising_push [] p rising below = (tt, tt)
rising_push (d ∷ named) p rising below = (
  all_push (λ y. prefix_cmp d y ≡ Less) named p rising.0 (less_from_rank d p (below d (first_among d named))),
  rising_push named p rising.1 (λ q among. below q (later_among (is_prefix d q) (is_among q named) among)),
)

either : (b c : Bool) → (b || c) ≡ true → (b ≡ true) ⊎ (c ≡ true)
either true c is = inl refl
either false c is = inr is

neither : (b c : Bool) → (b || c) ≡ false → (b ≡ false) × (c ≡ false)
neither true c is = absurd (cc)
neither false c is = (refl, is)

-- who is among those with one more
pub among_either : (q : Prefix) (named : List Prefix) (p : Prefix) → is_among q (named ++ p ∷ []) ≡ true → (is_among q named ≡ true) ⊎ (p ≡ q)
among_either q named p is =
    elim (either (is_among q named) (is_prefix p q) (sym (among_push q named p) ∙ is)) [
      | inl before ↦ inl before
      | inr here ↦ inr (same_from_is_prefix p q here)
    ]

still : (b c : Bool) → b ≡ true → (b || c) ≡ true
still true c is = refl
still false c is = absurd (cc)

among_still : (q : Prefix) (named : List Prefix) (p : Prefix) → is_among q named ≡ true → is_among q (named ++ p ∷ []) ≡ true
among_still q named p is = among_push q named p ∙ still (is_among q named) (is_prefix p q) is

among_last : (named : List Prefix) (p : Prefix) → is_among p (named ++ p ∷ []) ≡ true
among_last named p = among_push p named p ∙ later_among (is_among p named) (is_prefix p p) (is_prefix-refl p)

coming_of : (There : Prefix → Type 0) (named : List Prefix) (p : Prefix) (next : Option Prefix) → ((q : Prefix) → is_among q named ≡ true → rank_of q < rank_of p)
    → MatchOption next (Unit {0}) (λ n. There n × (rank_of p < rank_of n)) → IsComing There (named ++ p ∷ []) next
coming_of There named p None below is = tt
coming_of There named p (Some n) below is = (
  is.0,
  λ q among.
      elim (among_either q named p among) [
        | inl before ↦ omega (arith, below q before, is.1)
        | inr same ↦ rw (← same) is.1
      ],
)

left_of : (There : Prefix → Type 0) (named : List Prefix) (p : Prefix) (next : Option Prefix) → ((q : Prefix) → There q → is_among q named ≡ false → rank_of p ≤ rank_of q)
    → IsBehind There p next → IsLeftFrom There (named ++ p ∷ []) next
left_of There named p next rest behind q there out = by_next next behind
  where
    parts : (is_among q named ≡ false) × (is_prefix p q ≡ false)
    parts = neither (is_among q named) (is_prefix p q) (sym (among_push q named p) ∙ out)

    above : rank_of p < rank_of q
    above = elim (cases_lt (rank_of p) (rank_of q)) [
      | inl less ↦ less
      | inr more ↦
          let low = rest q there parts.0 in
          let same : p ≡ q = same_from_rank p q (omega (arith, low, more)) in
          let is : is_prefix p q ≡ true = rw (← same) (is_prefix-refl p) in
          let not = parts.1 in absurd (cc)
    ]

    by_next : (n : Option Prefix) → IsBehind There p n → MatchOption n ⊥ (λ x. rank_of x ≤ rank_of q)
    by_next None behind = behind q there above
    by_next (Some x) behind = behind q there above

-- one more is named
pub Names-more : (There : Prefix → Type 0) (most : ℕ) (least : Prefix) (named : List Prefix) (room : ℕ) (p : Prefix) (next : Option Prefix)
    → Names There most least named room (Some p) → taken_by p ≤ room → MatchOption next (Unit {0}) (λ n. There n × (rank_of p < rank_of n)) → IsBehind There p next
    → (left : ℕ) → left + taken_by p ≡ room → rank_of p < 2 ^ 38 → Names There most least (named ++ p ∷ []) left next
Names-more There most least named room p next h fits coming behind left is place = record {
  each = λ q among.
      elim (among_either q named p among) [
        | inl before ↦ h.each q before
        | inr same ↦ subst There same h.coming.0
      ];
  rising = rising_push named p h.rising h.coming.1;
  taken = omega (arith, h.taken, wire_push named p, is);
  places = All-push (λ q. rank_of q < 2 ^ 38) named p h.places place;
  coming = coming_of There named p next h.coming.1 coming;
  begun = inr (elim h.begun [
    | inl first ↦ subst (λ x. is_among x (named ++ p ∷ []) ≡ true) (the_least p least first.1) (among_last named p)
    | inr among ↦ among_still least named p among
  ]);
  rest = left_of There named p next h.rest behind;
}
  where
    the_least : (a b : Prefix) → Some a ≡ Some b → a ≡ b
    the_least a b is = cc

some_among : (least : Prefix) (named : List Prefix) → is_among least named ≡ true → 0 < length named
some_among least [] is = absurd (cc)
some_among least (d ∷ named) is = omega arith

-- there is no other
pub Names-end : (There : Prefix → Type 0) (most : ℕ) (least : Prefix) (named : List Prefix) (room : ℕ) → Names There most least named room None → IsPack There most named
Names-end There most least named room h = record {
  some = some_among least named (least_named h.begun);
  each = h.each;
  rising = h.rising;
  fits = omega (arith, h.taken);
  behind = λ q there out. absurd (h.rest q there out);
  full = λ q there out. absurd (h.rest q there out);
}
  where
    least_named : IsBegun least named None → is_among least named ≡ true
    least_named (inl first) = absurd (let never = first.1 in cc)
    least_named (inr among) = among

-- the next one is too long
pub Names-full : (There : Prefix → Type 0) (most : ℕ) (least : Prefix) (named : List Prefix) (room : ℕ) (p : Prefix) → Names There most least named room (Some p) → 5 ≤ most → taken_by p ≤ 5 → room < taken_by p
    → IsPack There most named
Names-full There most least named room p h wide short full = record {
  some = some_among least named (least_named h.begun);
  each = h.each;
  rising = h.rising;
  fits = omega (arith, h.taken);
  behind = λ q there out d among. omega (arith, h.coming.1 d among, h.rest q there out);
  full = λ q there out lowest.
      let same : p ≡ q = same_from_rank p q (omega (arith, h.rest q there out, lowest p h.coming.0 (not_named (is_among p named) refl))) in
      rw (← same) (omega (arith, h.taken, wire_one p, full));
}
  where
    least_named : IsBegun least named (Some p) → is_among least named ≡ true
    least_named (inl first) =
        let none : length (wire_form named) ≡ 0 = ap (λ l. length (wire_form l)) first.0 in
        absurd (omega (arith, h.taken, none, wide, short, full))
    least_named (inr among) = among

    not_named : (b : Bool) → is_among p named ≡ b → b ≡ false
    not_named true is = absurd (let below = h.coming.1 p is in omega (arith, below))
    not_named false is = refl

-- each prefix takes an octet at least
pub named_few : (named : List Prefix) → length named ≤ length (wire_form named)
named_few [] = omega arith
named_few (d ∷ named) = omega (arith, length-append (spelling_of d.bits d.len) (wire_form named), named_few named)
