-- Walks over the records that change what is held of each prefix.
use Rattle.std.proofs.Common.{◌≡◌, ◌==◌, ℕ, Bool, true, false, if◌then◌else◌, Option, Some, None, option_map, refl, sym, ap, ◌∙◌, subst}
use Rattle.std.specs.Ordering.{is_eq, is_gt, is_lt}
use Rattle.std.specs.declared.cmp.Ordering.{Ordering}
use Rattle.std.specs.declared.cmp.Ordering.TheVariants.{Less, Equal, Greater}
use Rattle.decision.specs.BookContents.{is_prefix}
use Rattle.net_prefix.proofs.PayloadSets.{prefix_cmp_exact, prefix_cmp_total}
use Rattle.net_prefix.specs.PrefixOrder.{IsAbove, prefix_cmp}
use Rattle.net_prefix.specs.declared.prefix.Prefix.{Prefix}
use Rattle.prefix_trie.proofs.MapLaws.{IsLeast, least_after, none_after}
use Rattle.prefix_trie.specs.TrieMap.{found}
use Rattle.prefix_trie.specs.TrieWalks.{all_after, first_key}
use Rattle.rib_in.proofs.Walks.{above_from, above_to, is_above}
use Rattle.rib_out.specs.Held.{HeldRoute}
use Rattle.rib_rows.specs.Records.{AreRecords, PrefixRecord, RecordTable, asked_again, held_of, routed}

-- what a slot holds of a prefix where one slot holds nothing any more, and where it asks again
abbrev pub cleared : ℕ → ℕ → Option HeldRoute → Option HeldRoute
cleared slot s o = if s == slot then None else o

abbrev pub asked : ℕ → ℕ → Option HeldRoute → Option HeldRoute
asked slot s o = if s == slot then option_map asked_again o else o

none_either : {X : Type 0} (b : Bool) → (let none : Option X = None in if b then none else none) ≡ None
none_either true = refl
none_either false = refl

pub cleared_none : (slot s : ℕ) → cleared slot s None ≡ None
cleared_none slot s = none_either (s == slot)

pub asked_none : (slot s : ℕ) → asked slot s None ≡ None
asked_none slot s = none_either (s == slot)

by_above : {P : Type 0} (last : Option Prefix) (q : Prefix) (b : Bool) → is_above last q ≡ b → (IsAbove last q → P) → (is_above last q ≡ false → P) → P
by_above last q true is later before = later (above_from last q is)
by_above last q false is later before = before is

above_further : (last : Option Prefix) (p q : Prefix) → IsAbove last p → prefix_cmp p q ≡ Less → is_above last q ≡ true
above_further None p q above less = refl
above_further (Some l) p q above less = ap is_lt (prefix_cmp_total.trans l p q above less)

-- what is held of each prefix up to the last one was changed by a step, and the records above it are as they were
pub record Walks (step : ℕ → Option HeldRoute → Option HeldRoute) (last : Option Prefix) (old now : RecordTable) : Type 0 where
  pub rows : AreRecords now
  pub same : (p : Prefix) → found (routed now) p ≡ found (routed old) p
  pub held : (p : Prefix) (s : ℕ) → is_above last p ≡ false → held_of (found now p) s ≡ step s (held_of (found old p) s)
  pub left : (p : Prefix) → is_above last p ≡ true → found now p ≡ found old p

-- where the record of the least prefix above the last one changes
pub record Changes (step : ℕ → Option HeldRoute → Option HeldRoute) (p : Prefix) (now new : RecordTable) : Type 0 where
  pub rows : AreRecords new
  pub others : (q : Prefix) → is_prefix p q ≡ false → found new q ≡ found now q
  pub same : (q : Prefix) → found (routed new) q ≡ found (routed now) q
  pub held : (s : ℕ) → held_of (found new p) s ≡ step s (held_of (found now p) s)

module _ (step : ℕ → Option HeldRoute → Option HeldRoute) (nothing : (s : ℕ) → step s None ≡ None) (last : Option Prefix) (old now : RecordTable) (h : Walks step last old now) where
  -- where there is no record above the last one, nothing is held
  left_none : (q : Prefix) (s : ℕ) → is_above last q ≡ true → found now q ≡ None → held_of (found now q) s ≡ step s (held_of (found old q) s)
  left_none q s above none = ap (λ o. held_of o s) none ∙ sym (nothing s) ∙ ap (λ o. step s (held_of o s)) (sym none ∙ h.left q above)

  module _ (p : Prefix) (new : RecordTable) (least : IsLeast (λ _. true) last now p) (changes : Changes step p now new) where
    none_between : (q : Prefix) (o : Option PrefixRecord) → prefix_cmp p q ≡ Greater → IsAbove last q → found now q ≡ o → found now q ≡ None
    none_between q None greater later is = is
    none_between q (Some r) greater later is =
        let no : is_gt (prefix_cmp p q) ≡ false = least.least q r later is refl in
        let clash : true ≡ false = sym (ap is_gt greater) ∙ no in
        absurd cc

    held_case : (q : Prefix) (s : ℕ) (r : Ordering) → prefix_cmp p q ≡ r → is_lt r ≡ false → held_of (found new q) s ≡ step s (held_of (found old q) s)
    held_case q s Less is below = absurd cc
    held_case q s Equal is below =
        subst (λ k. held_of (found new k) s ≡ step s (held_of (found old k) s)) (prefix_cmp_exact p q is)
        (changes.held s ∙ ap (λ o. step s (held_of o s)) (h.left p (above_to last p least.above)))
    held_case q s Greater is below =
        ap (λ o. held_of o s) (changes.others q (ap is_eq is))
        ∙ by_above last q (is_above last q) refl (λ later. left_none q s (above_to last q later) (none_between q (found now q) is later refl)) (λ before. h.held q s before)

    left_case : (q : Prefix) → prefix_cmp p q ≡ Less → found new q ≡ found old q
    left_case q less = changes.others q (ap is_eq less) ∙ h.left q (above_further last p q least.above less)

    walks_on : Walks step (Some p) old new
    walks_on = record {
      rows = changes.rows;
      same = λ q. changes.same q ∙ h.same q;
      held = λ q s below. held_case q s (prefix_cmp p q) refl below;
      left = λ q above. left_case q (above_from (Some p) q above);
    }

  -- a walk goes on to the first prefix above the last one
  pub walks_more : (p : Prefix) (new : RecordTable) → Some p ≡ first_key (all_after last now) → Changes step p now new → Walks step (Some p) old new
  walks_more p new first changes = walks_on p new (least_after last now h.rows.0 p first) changes

  pub above_last : (p : Prefix) → Some p ≡ first_key (all_after last now) → IsAbove last p
  above_last p first = (least_after last now h.rows.0 p first).above

  -- and ends where there is none
  pub walked : None ≡ first_key (all_after last now) → (p : Prefix) (s : ℕ) → held_of (found now p) s ≡ step s (held_of (found old p) s)
  walked first p s = by_above last p (is_above last p) refl (λ later. left_none p s (above_to last p later) (none_after last now first p later)) (λ before. h.held p s before)
