-- What a change of one spot leaves of what is remembered.
use Rattle.std.proofs.Common.{arith, ◌≡◌, ◌<◌, ◌≢◌, ℕ, zero, suc, get_or, replicate, Bool, true, false, cond, List, Option, None, Some, inl, inr, refl, sym, ap, ◌∙◌, subst}
use Rattle.std.proofs.lemmas.Bool.{cases_eq}
use Rattle.std.specs.Ordering.{is_eq}
use Rattle.net_prefix.specs.PrefixOrder.{prefix_cmp}
use Rattle.net_prefix.specs.declared.prefix.Prefix.{Prefix}
use Rattle.prefix_trie.proofs.MapLaws.{is_at-refl, one_prefix}
use Rattle.prefix_trie.specs.TrieMap.{found}
use Rattle.prefix_table.specs.Placed.{AreRemembered}
use Rattle.prefix_table.specs.RecentPlaces.{IsSpotSet, place_there, remembered, spot_at, spot_of}
use Rattle.prefix_table.specs.declared.recent.RecentPlace.{RecentPlace}
use Rattle.prefix_table.specs.declared.recent.RecentPlaces.{RecentPlaces}

-- each spot is one of the 1024
pub spot_within : (p : Prefix) → spot_of p < 1024
unfolding spot_of
spot_within p = omega arith

-- each of any number of empty spots is empty
pub none_at : {X : Type 0} (n k : ℕ) → get_or (replicate n (let none : Option X = None in none)) k None ≡ None
none_at zero k = refl
none_at (suc n) zero = refl
none_at (suc n) (suc k) = none_at n k

-- ---- what is remembered is so

-- of no prefix
pub none_remembered : (places : List (Prefix × ℕ)) (recent : RecentPlaces) → ((k : ℕ) → spot_at recent k ≡ None) → AreRemembered places recent
none_remembered places recent none k r here = absurd (let clash = sym (none k) ∙ here in cc)

some_value : {X : Type 0} (x y : X) → (let some : Option X = Some x in some) ≡ Some y → x ≡ y
some_value x y same = cc

remembered_case : (places : List (Prefix × ℕ)) (recent : RecentPlaces) (q : Prefix) (n : ℕ) (o : Option RecentPlace) → AreRemembered places recent → spot_at recent (spot_of q) ≡ o → place_there o q ≡ Some n → found places q ≡ Some n
remembered_case places recent q n None are is here = absurd (cc)
remembered_case places recent q n (Some r) are is here = by (is_eq (prefix_cmp r.prefix q)) refl here
  where
    by : (b : Bool) → is_eq (prefix_cmp r.prefix q) ≡ b → cond b (Some r.place) None ≡ Some n → found places q ≡ Some n
    by true same here = ap (found places) (sym (one_prefix r.prefix q same)) ∙ (are (spot_of q) r is).1 ∙ here
    by false other here = absurd (cc)

-- each prefix that is remembered has the place that is remembered
pub remembered_found : (places : List (Prefix × ℕ)) (recent : RecentPlaces) (q : Prefix) (n : ℕ) → AreRemembered places recent → remembered recent q ≡ Some n → found places q ≡ Some n
remembered_found places recent q n are here = remembered_case places recent q n (spot_at recent (spot_of q)) are refl here

module _ (before after : List (Prefix × ℕ)) (old new : RecentPlaces) (p : Prefix) (o : Option ℕ) (puts : (q : Prefix) → found after q ≡ cond (is_eq (prefix_cmp p q)) o (found before q)) (are : AreRemembered before old) (forgets : IsSpotSet old new p None) where
  apart_case : (k : ℕ) (r : RecentPlace) (b : Bool) → k ≢ spot_of p → is_eq (prefix_cmp p r.prefix) ≡ b → (spot_of r.prefix ≡ k) × (found before r.prefix ≡ Some r.place) → found after r.prefix ≡ Some r.place
  apart_case k r true differs same was = absurd (differs (sym was.0 ∙ ap spot_of (sym (one_prefix p r.prefix same))))
  apart_case k r false differs other was = puts r.prefix ∙ ap (λ b. cond b o (found before r.prefix)) other ∙ was.1

  -- where a prefix that is forgotten was changed, the others have what they had
  pub forgets_remembered : AreRemembered after new
  forgets_remembered k r here =
      elim (cases_eq k (spot_of p)) [
        | inl same ↦ absurd (let clash = sym forgets.own ∙ ap (spot_at new) (sym same) ∙ here in cc)
        | inr differs ↦
            let was = are k r (sym (forgets.others k differs) ∙ here) in
            (was.0, apart_case k r (is_eq (prefix_cmp p r.prefix)) differs refl was)
      ]

pub keeps_remembered : (places : List (Prefix × ℕ)) (old new : RecentPlaces) (p : Prefix) (place : ℕ) → AreRemembered places old → Some place ≡ found places p → IsSpotSet old new p (Some (record { prefix = p; place = place })) → AreRemembered places new
keeps_remembered places old new p place are is keeps k r here =
    elim (cases_eq k (spot_of p)) [
      | inl same ↦
          let one = some_value _ r (sym keeps.own ∙ ap (spot_at new) (sym same) ∙ here) in
          subst (λ (r : RecentPlace). (spot_of r.prefix ≡ k) × (found places r.prefix ≡ Some r.place)) one (sym same, sym is)
      | inr differs ↦ are k r (sym (keeps.others k differs) ∙ here)
    ]

-- a prefix that was given a place has it
pub own_place : (before after : List (Prefix × ℕ)) (p : Prefix) (place : ℕ) → ((q : Prefix) → found after q ≡ cond (is_eq (prefix_cmp p q)) (Some place) (found before q)) → Some place ≡ found after p
own_place before after p place puts = sym (puts p ∙ ap (λ b. cond b (Some place) (found before p)) (is_at-refl p))
