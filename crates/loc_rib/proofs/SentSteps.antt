-- One more of some prefixes is passed.
use Rattle.std.proofs.Common.{◌≡◌, ◌<◌, ◌||◌, ◌+◌, ◌==◌, ◌&&◌, ℕ, Bool, true, false, cond, List, ◌∷◌, length, drop, get_or, Option, refl, sym, ap, ◌∙◌, subst}
use Rattle.std.proofs.lemmas.List.{drop_more}
use Rattle.std.proofs.lemmas.List.Folds.{list_any_at}
use Rattle.std.specs.Ordering.{is_eq}
use Rattle.net_prefix.specs.PrefixOrder.{prefix_cmp}
use Rattle.net_prefix.specs.declared.prefix.Prefix.{Prefix}
use Rattle.prefix_trie.proofs.MapLaws.{is_at-refl, one_prefix}
use Rattle.prefix_trie.specs.TrieMap.{found}
use Rattle.rib_out.specs.Held.{HeldRoute, is_among, is_prefix}
use Rattle.rib_rows.specs.Records.{PrefixRecord, RecordTable, held_of}

both_true : (a : Bool) → (a && true) ≡ a
both_true true = refl
both_true false = refl

both_false : (a : Bool) → (a && false) ≡ false
both_false true = refl
both_false false = refl

neither : (b c : Bool) → b ≡ false → c ≡ false → (b || c) ≡ false
neither true c is none = absurd (cc)
neither false c is none = none

-- what is told of one prefix, and then of the rest, is told of all
told_case : {X : Type 0} (a b c : Bool) (step : X → X) (h : X) → step (step h) ≡ step h → cond (a && c) (step (cond (a && b) (step h) h)) (cond (a && b) (step h) h) ≡ cond (a && (b || c)) (step h) h
told_case false b c step h once = refl
told_case true true true step h once = once
told_case true true false step h once = refl
told_case true false c step h once = refl

module _ (prefixes : List Prefix) (i : ℕ) (x : Prefix) (within : i < length prefixes) (is : x ≡ get_or prefixes i x) where
  item_among : is_among x prefixes ≡ true
  item_among = list_any_at (λ q. is_prefix q x) prefixes i x within (ap (λ q. is_prefix q x) (sym is) ∙ is_at-refl x)

  rest_is : (p : Prefix) → is_among p (drop i prefixes) ≡ (is_prefix x p || is_among p (drop (i + 1) prefixes))
  rest_is p = ap (is_among p) (drop_more prefixes i x within) ∙ ap (λ y. is_among p (y ∷ drop (i + 1) prefixes)) (sym is)

  -- a prefix that isn't among them is another
  apart : (p : Prefix) → is_among p prefixes ≡ false → (b : Bool) → is_prefix x p ≡ b → is_prefix x p ≡ false
  apart p out true same = absurd (let yes : true ≡ false = sym item_among ∙ ap (λ q. is_among q prefixes) (one_prefix x p same) ∙ out in cc)
  apart p out false other = other

  module _ (old new : RecordTable) (others : (p : Prefix) → is_prefix x p ≡ false → found new p ≡ found old p) where
    -- what is held stays
    pub same_more : ((s : ℕ) → held_of (found new x) s ≡ held_of (found old x) s) → (p : Prefix) (s : ℕ) → held_of (found new p) s ≡ held_of (found old p) s
    same_more here p s = by (is_prefix x p) refl
      where
        by : (b : Bool) → is_prefix x p ≡ b → held_of (found new p) s ≡ held_of (found old p) s
        by true same = subst (λ q. held_of (found new q) s ≡ held_of (found old q) s) (one_prefix x p same) (here s)
        by false other = ap (λ o. held_of o s) (others p other)

    -- the records of other prefixes stay
    pub others_more : (first : RecordTable) → ((p : Prefix) → is_among p prefixes ≡ false → found old p ≡ found first p) → (p : Prefix) → is_among p prefixes ≡ false → found new p ≡ found first p
    others_more first before p out = others p (apart p out (is_prefix x p) refl) ∙ before p out

    -- what holds of the records that were passed
    pub passed_more : (P : Option PrefixRecord → Type 0) → ((p : Prefix) → is_among p prefixes ≡ true → is_among p (drop i prefixes) ≡ false → P (found old p)) → P (found new x)
        → (p : Prefix) → is_among p prefixes ≡ true → is_among p (drop (i + 1) prefixes) ≡ false → P (found new p)
    passed_more P before here p among out = by (is_prefix x p) refl
      where
        by : (b : Bool) → is_prefix x p ≡ b → P (found new p)
        by true same = subst (λ q. P (found new q)) (one_prefix x p same) here
        by false other = subst P (sym (others p other)) (before p among (rest_is p ∙ neither (is_prefix x p) (is_among p (drop (i + 1) prefixes)) other out))

    -- and of all of them
    pub each_more : (P : Option PrefixRecord → Type 0) → ((p : Prefix) → is_among p prefixes ≡ true → P (found old p)) → P (found new x) → (p : Prefix) → is_among p prefixes ≡ true → P (found new p)
    each_more P before here p among = by (is_prefix x p) refl
      where
        by : (b : Bool) → is_prefix x p ≡ b → P (found new p)
        by true same = subst (λ q. P (found new q)) (one_prefix x p same) here
        by false other = subst P (sym (others p other)) (before p among)

    pub item_ready : (P : Option PrefixRecord → Type 0) → ((p : Prefix) → is_among p prefixes ≡ true → P (found old p)) → P (found old x)
    item_ready P each = each x item_among

    module _ (slot : ℕ) (step : Option HeldRoute → Option HeldRoute) (once : (o : Option HeldRoute) → step (step o) ≡ step o)
        (here : (s : ℕ) → held_of (found new x) s ≡ cond (s == slot) (step (held_of (found old x) s)) (held_of (found old x) s)) where
      moved_case : (p : Prefix) (s : ℕ) (b : Bool) → is_prefix x p ≡ b → held_of (found new p) s ≡ cond (s == slot && b) (step (held_of (found old p) s)) (held_of (found old p) s)
      moved_case p s true same =
          subst (λ q. held_of (found new q) s ≡ cond (s == slot && true) (step (held_of (found old q) s)) (held_of (found old q) s)) (one_prefix x p same)
          (here s ∙ ap (λ b. cond b (step (held_of (found old x) s)) (held_of (found old x) s)) (sym (both_true (s == slot))))
      moved_case p s false other =
          ap (λ o. held_of o s) (others p other) ∙ ap (λ b. cond b (step (held_of (found old p) s)) (held_of (found old p) s)) (sym (both_false (s == slot)))

      -- what was told so far, and what is left, is all
      pub held_more : (p : Prefix) (s : ℕ) (all : Option HeldRoute)
          → cond (s == slot && is_among p (drop i prefixes)) (step (held_of (found old p) s)) (held_of (found old p) s) ≡ all
          → cond (s == slot && is_among p (drop (i + 1) prefixes)) (step (held_of (found new p) s)) (held_of (found new p) s) ≡ all
      held_more p s all before =
          ap (λ o. cond (s == slot && is_among p (drop (i + 1) prefixes)) (step o) o) (moved_case p s (is_prefix x p) refl)
          ∙ told_case (s == slot) (is_prefix x p) (is_among p (drop (i + 1) prefixes)) step (held_of (found old p) s) (once (held_of (found old p) s))
          ∙ ap (λ b. cond (s == slot && b) (step (held_of (found old p) s)) (held_of (found old p) s)) (sym (rest_is p))
          ∙ before
