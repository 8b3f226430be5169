-- What a change makes of the values at their places.
use Rattle.std.proofs.Common.{◌≡◌, ◌⊎◌, ◌≢◌, ℕ, Bool, true, false, cond, List, Option, None, Some, IsSome, inl, inr, option_and_then, refl, sym, ap, ◌∙◌, subst}
use Rattle.std.proofs.lemmas.Bool.{cases_eq}
use Rattle.std.specs.Option.{OnSome}
use Rattle.std.specs.Ordering.{is_eq, is_lt}
use Rattle.net_prefix.specs.PrefixOrder.{prefix_cmp}
use Rattle.net_prefix.specs.declared.prefix.Prefix.{Prefix}
use Rattle.prefix_trie.proofs.MapLaws.{is_at-refl, one_prefix}
use Rattle.prefix_trie.specs.TrieMap.{IsRising, found}
use Rattle.prefix_trie.specs.TrieWalks.{all_after}
use Rattle.slab.proofs.SlabLemmas.{Updates-with_value}
use Rattle.slab.specs.Slab.{Slab, Updates, get, with_value}
use Rattle.prefix_table.proofs.Picked.{picked_filter, picked_found, picked_rising}
use Rattle.prefix_table.specs.Placed.{ArePlaced, placed}
use Rattle.prefix_table.specs.Tables.{IsPut}

is_there : {X : Type 0} (o : Option X) (x : X) → o ≡ Some x → IsSome o
is_there o x is = subst IsSome (sym is) refl

nothing_there : {X P : Type 0} (o : Option X) → o ≡ None → IsSome o → P
nothing_there None none is = absurd (cc)
nothing_there (Some x) none is = absurd (cc)

pub on_some : {X : Type 0} (P : Type 0) (o : Option X) → P → OnSome o P
on_some P None p = tt
on_some P (Some x) p = p

module _ {V : Type 0} where
  placed_found : (places : List (Prefix × ℕ)) (values : Slab V) → IsRising places → (q : Prefix) → found (placed places values) q ≡ option_and_then (get values) (found places q)
  placed_found places values rising q = picked_found (get values) places rising q

  -- the value at the place of a prefix is what is found of it
  pub read_there : (places : List (Prefix × ℕ)) (values : Slab V) → ArePlaced places values → (p : Prefix) (place : ℕ) → Some place ≡ found places p → get values place ≡ found (placed places values) p
  read_there places values are p place is = ap (option_and_then (get values)) is ∙ sym (placed_found places values are.rising p)

  pub read_nowhere : (places : List (Prefix × ℕ)) (values : Slab V) → ArePlaced places values → (p : Prefix) → None ≡ found places p → None ≡ found (placed places values) p
  read_nowhere places values are p none = ap (option_and_then (get values)) none ∙ sym (placed_found places values are.rising p)

  -- of the places above a prefix, they are the values above it
  pub placed_after : (after : Option Prefix) (places : List (Prefix × ℕ)) (values : Slab V) → placed (all_after after places) values ≡ all_after after (placed places values)
  placed_after None places values = refl
  placed_after (Some p) places values = picked_filter (get values) (λ q. is_lt (prefix_cmp p q)) places

  vacant_case : (values : Slab V) (o : Option ℕ) → ((n : ℕ) → o ≡ Some n → IsSome (get values n)) → option_and_then (get values) o ≡ None → o ≡ None
  vacant_case values None there none = refl
  vacant_case values (Some n) there none = nothing_there (get values n) none (there n refl)

  -- a prefix without a value has no place
  no_place : (places : List (Prefix × ℕ)) (values : Slab V) → ArePlaced places values → (p : Prefix) → found (placed places values) p ≡ None → found places p ≡ None
  no_place places values are p none = vacant_case values (found places p) (λ n. are.there p n) (sym (placed_found places values are.rising p) ∙ none)

  -- room that is made in the slab changes nothing
  pub roomy_placed : (places : List (Prefix × ℕ)) (values roomy : Slab V) (room : ℕ) → roomy ≡ record values { capacity = room } → ArePlaced places values → ArePlaced places roomy
  roomy_placed places values roomy room same are = subst (ArePlaced places) (sym same) (record { rising = are.rising; there = are.there; apart = are.apart; owned = are.owned })

  read_case : (values new : Slab V) (o : Option ℕ) → ((n : ℕ) → o ≡ Some n → get new n ≡ get values n) → option_and_then (get new) o ≡ option_and_then (get values) o
  read_case values new None same = refl
  read_case values new (Some n) same = same n refl

  -- ---- a value is written

  module _ (places : List (Prefix × ℕ)) (old new : Slab V) (are : ArePlaced places old) (p : Prefix) (at : ℕ) (w : V) (is : found places p ≡ Some at) (written : Updates old new at (Some w)) where
    written_some : (n : ℕ) → IsSome (get new n) → IsSome (get old n)
    written_some n some =
        elim (cases_eq n at) [
          | inl same ↦ are.there p n (is ∙ ap Some (sym same))
          | inr differs ↦ subst IsSome (written.others n differs) some
        ]

    some_written : (n : ℕ) → IsSome (get old n) → IsSome (get new n)
    some_written n some =
        elim (cases_eq n at) [
          | inl same ↦ is_there (get new n) w (ap (get new) same ∙ written.changed)
          | inr differs ↦ subst IsSome (sym (written.others n differs)) some
        ]

    written_placed : ArePlaced places new
    written_placed = record {
      rising = are.rising;
      there = λ q n here. some_written n (are.there q n here);
      apart = are.apart;
      owned = λ n some. are.owned n (written_some n some);
    }

    other_place : (q : Prefix) (n : ℕ) → found places q ≡ Some n → is_eq (prefix_cmp p q) ≡ false → n ≢ at
    other_place q n here other same =
        let one : p ≡ q = are.apart p q at is (here ∙ ap Some same) in
        let clash : true ≡ false = sym (is_at-refl p) ∙ ap (λ k. is_eq (prefix_cmp p k)) one ∙ other in
        absurd (cc)

    written_case : (q : Prefix) (b : Bool) → is_eq (prefix_cmp p q) ≡ b → option_and_then (get new) (found places q) ≡ cond b (Some w) (option_and_then (get old) (found places q))
    written_case q true same = ap (λ k. option_and_then (get new) (found places k)) (sym (one_prefix p q same)) ∙ ap (option_and_then (get new)) is ∙ written.changed
    written_case q false other = read_case old new (found places q) (λ n here. written.others n (other_place q n here other))

    written_put : IsPut (placed places old) (placed places new) p (Some w)
    written_put = record {
      was_rising = picked_rising (get old) places are.rising;
      rising = picked_rising (get new) places are.rising;
      puts = λ q.
          placed_found places new are.rising q ∙ written_case q (is_eq (prefix_cmp p q)) refl
          ∙ ap (cond (is_eq (prefix_cmp p q)) (Some w)) (sym (placed_found places old are.rising q));
    }

  module _ (places : List (Prefix × ℕ)) (values : Slab V) (are : ArePlaced places values) (p : Prefix) (at : ℕ) (is : Some at ≡ found places p) (w : V) where
    lent : Updates values (with_value values at w) at (Some w)
    lent = Updates-with_value values at w (are.there p at (sym is))

    pub lent_placed : ArePlaced places (with_value values at w)
    lent_placed = written_placed places values (with_value values at w) are p at w (sym is) lent

    pub lent_put : IsPut (placed places values) (placed places (with_value values at w)) p (Some w)
    lent_put = written_put places values (with_value values at w) are p at w (sym is) lent

  -- ---- a prefix gets a place, or loses it

  module _ (before after : List (Prefix × ℕ)) (old new : Slab V) (are : ArePlaced before old) (rising : IsRising after) (p : Prefix) (at : ℕ) where
    module _ (puts : (q : Prefix) → found after q ≡ cond (is_eq (prefix_cmp p q)) (Some at) (found before q)) (w : V) (vacant : get old at ≡ None) (updates : Updates old new at (Some w)) where
      put_place : (q : Prefix) (n : ℕ) (b : Bool) → is_eq (prefix_cmp p q) ≡ b → found after q ≡ Some n → ((q ≡ p) × (n ≡ at)) ⊎ ((found before q ≡ Some n) × (n ≢ at))
      put_place q n true same here =
          let now : Some at ≡ Some n = ap (λ b. cond b (Some at) (found before q)) (sym same) ∙ sym (puts q) ∙ here in
          inl (sym (one_prefix p q same), cc)
      put_place q n false other here =
          let was : found before q ≡ Some n = ap (λ b. cond b (Some at) (found before q)) (sym other) ∙ sym (puts q) ∙ here in
          inr (was, λ same. nothing_there (get old n) (ap (get old) same ∙ vacant) (are.there q n was))

      place_of : (q : Prefix) (n : ℕ) → found after q ≡ Some n → ((q ≡ p) × (n ≡ at)) ⊎ ((found before q ≡ Some n) × (n ≢ at))
      place_of q n here = put_place q n (is_eq (prefix_cmp p q)) refl here

      own_place : found after p ≡ Some at
      own_place = puts p ∙ ap (λ b. cond b (Some at) (found before p)) (is_at-refl p)

      kept_case : found before p ≡ None → (q : Prefix) (n : ℕ) (b : Bool) → is_eq (prefix_cmp p q) ≡ b → found before q ≡ Some n → found after q ≡ Some n
      kept_case absent q n true same here = absurd (let clash = sym absent ∙ ap (found before) (one_prefix p q same) ∙ here in cc)
      kept_case absent q n false other here = puts q ∙ ap (λ b. cond b (Some at) (found before q)) other ∙ here

      put_placed : found before p ≡ None → ArePlaced after new
      put_placed absent = record {
        rising = rising;
        there = λ q n here.
            elim (place_of q n here) [
              | inl own ↦ is_there (get new n) w (ap (get new) own.1 ∙ updates.changed)
              | inr was ↦ subst IsSome (sym (updates.others n was.1)) (are.there q n was.0)
            ];
        apart = λ q r n one two.
            elim (place_of q n one) [
              | inl own ↦
                  elim (place_of r n two) [
                    | inl also ↦ own.0 ∙ sym also.0
                    | inr was ↦ absurd (was.1 own.1)
                  ]
              | inr was ↦
                  elim (place_of r n two) [
                    | inl own ↦ absurd (was.1 own.1)
                    | inr also ↦ are.apart q r n was.0 also.0
                  ]
            ];
        owned = λ n some.
            elim (cases_eq n at) [
              | inl same ↦ (p, own_place ∙ ap Some (sym same))
              | inr differs ↦
                  let owner = are.owned n (subst IsSome (updates.others n differs) some) in
                  (owner.0, kept_case absent owner.0 n (is_eq (prefix_cmp p owner.0)) refl owner.1)
            ];
      }

      read_put : (q : Prefix) (b : Bool) → is_eq (prefix_cmp p q) ≡ b → option_and_then (get new) (cond b (Some at) (found before q)) ≡ cond b (Some w) (option_and_then (get old) (found before q))
      read_put q true same = updates.changed
      read_put q false other = read_case old new (found before q) (λ n here. updates.others n (λ same. nothing_there (get old n) (ap (get old) same ∙ vacant) (are.there q n here)))

      put_put : IsPut (placed before old) (placed after new) p (Some w)
      put_put = record {
        was_rising = picked_rising (get old) before are.rising;
        rising = picked_rising (get new) after rising;
        puts = λ q.
            placed_found after new rising q ∙ ap (option_and_then (get new)) (puts q) ∙ read_put q (is_eq (prefix_cmp p q)) refl
            ∙ ap (cond (is_eq (prefix_cmp p q)) (Some w)) (sym (placed_found before old are.rising q));
      }

    module _ (puts : (q : Prefix) → found after q ≡ cond (is_eq (prefix_cmp p q)) None (found before q)) (is : Some at ≡ found before p) (updates : Updates old new at None) where
      left_case : (q : Prefix) (n : ℕ) (b : Bool) → is_eq (prefix_cmp p q) ≡ b → found after q ≡ Some n → (found before q ≡ Some n) × (n ≢ at)
      left_case q n true same here = absurd (let clash = sym here ∙ puts q ∙ ap (λ b. cond b None (found before q)) same in cc)
      left_case q n false other here =
          let there : found before q ≡ Some n = ap (λ b. cond b None (found before q)) (sym other) ∙ sym (puts q) ∙ here in (
            there,
            λ same.
                let one : p ≡ q = are.apart p q at (sym is) (there ∙ ap Some same) in
                let clash : true ≡ false = sym (is_at-refl p) ∙ ap (λ k. is_eq (prefix_cmp p k)) one ∙ other in
                absurd (cc),
          )

      left : (q : Prefix) (n : ℕ) → found after q ≡ Some n → (found before q ≡ Some n) × (n ≢ at)
      left q n here = left_case q n (is_eq (prefix_cmp p q)) refl here

      stays_case : (q : Prefix) (n : ℕ) (b : Bool) → is_eq (prefix_cmp p q) ≡ b → n ≢ at → found before q ≡ Some n → found after q ≡ Some n
      stays_case q n true same differs here =
          let one : Some at ≡ Some n = is ∙ ap (found before) (one_prefix p q same) ∙ here in
          absurd (differs (cc))
      stays_case q n false other differs here = puts q ∙ ap (λ b. cond b None (found before q)) other ∙ here

      pub removed_placed : ArePlaced after new
      removed_placed = record {
        rising = rising;
        there = λ q n here. let had = left q n here in subst IsSome (sym (updates.others n had.1)) (are.there q n had.0);
        apart = λ q r n one two. are.apart q r n (left q n one).0 (left r n two).0;
        owned = λ n some.
            elim (cases_eq n at) [
              | inl same ↦ nothing_there (get new n) (ap (get new) same ∙ updates.changed) some
              | inr differs ↦
                  let owner = are.owned n (subst IsSome (updates.others n differs) some) in
                  (owner.0, stays_case owner.0 n (is_eq (prefix_cmp p owner.0)) refl differs owner.1)
            ];
      }

      read_left : (q : Prefix) (b : Bool) → is_eq (prefix_cmp p q) ≡ b → option_and_then (get new) (found after q) ≡ cond b None (option_and_then (get old) (found before q))
      read_left q true same = ap (option_and_then (get new)) (puts q ∙ ap (λ b. cond b None (found before q)) same)
      read_left q false other =
          let same : found after q ≡ found before q = puts q ∙ ap (λ b. cond b None (found before q)) other in
          ap (option_and_then (get new)) same ∙ read_case old new (found before q) (λ n here. updates.others n (left q n (same ∙ here)).1)

      pub removed_put : IsPut (placed before old) (placed after new) p None
      removed_put = record {
        was_rising = picked_rising (get old) before are.rising;
        rising = picked_rising (get new) after rising;
        puts = λ q.
            placed_found after new rising q ∙ read_left q (is_eq (prefix_cmp p q)) refl
            ∙ ap (cond (is_eq (prefix_cmp p q)) None) (sym (placed_found before old are.rising q));
      }

  -- ---- a value comes, room being made first

  module _
      (places after : List (Prefix × ℕ)) (values roomy new : Slab V) (room : ℕ) (same : roomy ≡ record values { capacity = room })
      (are : ArePlaced places values) (rising : IsRising after) (p : Prefix) (place key : ℕ) (w : V)
      (puts : (q : Prefix) → found after q ≡ cond (is_eq (prefix_cmp p q)) (Some place) (found places q))
      (place_is : place ≡ roomy.vacant_key) (key_is : key ≡ roomy.vacant_key) (vacant : get roomy place ≡ None) (updates : Updates roomy new key (Some w)) where
    at_place : Updates roomy new place (Some w)
    at_place = subst (λ k. Updates roomy new k (Some w)) (key_is ∙ sym place_is) updates

    pub came_placed : found (placed places values) p ≡ None → ArePlaced after new
    came_placed none = put_placed places after roomy new (roomy_placed places values roomy room same are) rising p place puts w vacant at_place (no_place places values are p none)

    pub came_put : IsPut (placed places values) (placed after new) p (Some w)
    came_put =
        subst (λ before. IsPut before (placed after new) p (Some w)) (ap (placed places) same)
        (put_put places after roomy new (roomy_placed places values roomy room same are) rising p place puts w vacant at_place)

  -- ---- a prefix without a place is taken out

  module _ (before after : List (Prefix × ℕ)) (values : Slab V) (are : ArePlaced before values) (rising : IsRising after) (p : Prefix) (puts : (q : Prefix) → found after q ≡ cond (is_eq (prefix_cmp p q)) None (found before q)) (absent : None ≡ found before p) where
    untouched_case : (q : Prefix) (b : Bool) → is_eq (prefix_cmp p q) ≡ b → cond b None (found before q) ≡ found before q
    untouched_case q true same = absent ∙ ap (found before) (one_prefix p q same)
    untouched_case q false other = refl

    untouched : (q : Prefix) → found after q ≡ found before q
    untouched q = puts q ∙ untouched_case q (is_eq (prefix_cmp p q)) refl

    pub absent_placed : ArePlaced after values
    absent_placed = record {
      rising = rising;
      there = λ q n here. are.there q n (sym (untouched q) ∙ here);
      apart = λ q r n one two. are.apart q r n (sym (untouched q) ∙ one) (sym (untouched r) ∙ two);
      owned = λ n some. let owner = are.owned n some in (owner.0, untouched owner.0 ∙ owner.1);
    }

    read_absent : (q : Prefix) (b : Bool) → is_eq (prefix_cmp p q) ≡ b → option_and_then (get values) (cond b None (found before q)) ≡ cond b None (option_and_then (get values) (found before q))
    read_absent q true same = refl
    read_absent q false other = refl

    pub absent_put : IsPut (placed before values) (placed after values) p None
    absent_put = record {
      was_rising = picked_rising (get values) before are.rising;
      rising = picked_rising (get values) after rising;
      puts = λ q.
          placed_found after values rising q ∙ ap (option_and_then (get values)) (puts q) ∙ read_absent q (is_eq (prefix_cmp p q)) refl
          ∙ ap (cond (is_eq (prefix_cmp p q)) None) (sym (placed_found before values are.rising q));
    }
