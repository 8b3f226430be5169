-- What a slot's peer holds of each prefix, by the records, and what a change of them makes of it.
use Rattle.std.proofs.Common.{◌≡◌, ◌≢◌, ◌==◌, ◌&&◌, ◌||◌, ℕ, Bool, true, false, cond, not, List, [], ◌∷◌, All, Option, None, Some, IfSome, IsSome, is_some, map, option_map, option_and_then, refl, sym, ap, ◌∙◌, subst, arith}
use Rattle.std.proofs.lemmas.Bool.Decides.{nat_tests}
use Rattle.std.proofs.lemmas.List.Elements.{All-nil}
use Rattle.std.proofs.lemmas.Map.Made.{keys_of-map_values, lookup-map_values}
use Rattle.std.specs.BTreeMap.{is_at}
use Rattle.std.specs.List.Sorted.{IsStrictlySortedBy}
use Rattle.std.specs.Map.{keys_of}
use Rattle.std.specs.Option.{option_map_or}
use Rattle.net_prefix.specs.PrefixOrder.{prefix_cmp}
use Rattle.net_prefix.specs.declared.prefix.Prefix.{Prefix}
use Rattle.prefix_trie.specs.TrieMap.{IsRising, found}
use Rattle.rib_out.proofs.HeldTables.{asked_at-all_asked, held_at-all_asked}
use Rattle.rib_out.specs.Held.{HeldRoute, all_asked, asked_at, held_at, is_among, octets_of}
use Rattle.holdings.specs.Holdings.{HoldingsState, held_by, holds_any, octets_by}
use Rattle.rib_out.specs.Slots.{has_slot}
use Rattle.prefix_table.proofs.Picked.{map_picked, picked_alike, picked_found, picked_rising, picked_twice, same_found}
use Rattle.rib_rows.proofs.RecordTables.{needed_found, none_held, records_needed}
use Rattle.prefix_table.specs.Picked.{picked}
use Rattle.rib_rows.specs.PrefixRows.{RowTable, adj_in_of, book_of}
use Rattle.rib_rows.specs.Records.{AreRecords, AreSound, IsNeeded, IsRecord, PrefixRecord, RecordTable, asked_again, held_of, renewed, routed, sent_in, sent_of}
use Rattle.loc_rib.specs.RibTables.{RibTables}
use Rattle.loc_rib.specs.SentTables.{AreMarked, IsMarked, SentTable, sent_to}

-- ---- what is held by the records

held_case : (s : ℕ) (r : PrefixRecord) (b : Bool) → holds_any r.sent ≡ b → option_and_then (λ h. held_by h s) (cond b (Some r.sent) None) ≡ held_by r.sent s
held_case s r true is = refl
held_case s r false is = sym (none_held r.sent is s)

read_case : (s : ℕ) (r : PrefixRecord) → option_and_then (λ h. held_by h s) (sent_in r) ≡ held_by r.sent s
read_case s r = held_case s r (holds_any r.sent) refl

found_case : (s : ℕ) (o : Option PrefixRecord) → option_and_then (λ h. held_by h s) (option_and_then sent_in o) ≡ held_of o s
found_case s None = refl
found_case s (Some r) = read_case s r

pub sent_read : (es : RecordTable) (s : ℕ) → sent_to (sent_of es) s ≡ picked (λ r. held_by r.sent s) es
unfolding sent_to
sent_read es s = picked_twice sent_in (λ h. held_by h s) es ∙ picked_alike (λ r. option_and_then (λ h. held_by h s) (sent_in r)) (λ r. held_by r.sent s) (read_case s) es

pub none_sent : (s : ℕ) → sent_to [] s ≡ []
unfolding sent_to
none_sent s = refl

-- the octets of what is held, and whether it was asked for again
abbrev pub octets_in : Option HeldRoute → Option (List ℕ)
octets_in o = option_map (λ route. route.octets) o

abbrev pub asked_in : Option HeldRoute → Bool
asked_in o = option_map_or (λ route. route.asked) o false

module _ (es : RecordTable) (rising : IsRising es) where
  pub sent_rising : (s : ℕ) → IsRising (sent_to (sent_of es) s)
  unfolding sent_to
  sent_rising s = picked_rising (λ h. held_by h s) (sent_of es) (picked_rising sent_in es rising)

  pub sent_found : (s : ℕ) (p : Prefix) → found (sent_to (sent_of es) s) p ≡ held_of (found es p) s
  unfolding sent_to
  sent_found s p =
      picked_found (λ h. held_by h s) (sent_of es) (picked_rising sent_in es rising) p ∙ ap (option_and_then (λ h. held_by h s)) (picked_found sent_in es rising p) ∙ found_case s (found es p)

-- ---- tables of what is held

pub none_found : {X : Type 0} (t : List (Prefix × X)) → IsRising t → ((p : Prefix) → found t p ≡ None) → t ≡ []
unfolding IsStrictlySortedBy
none_found t rising none = same_found t [] rising tt none

pub asked_rising : (t : List (Prefix × HeldRoute)) → IsRising t → IsRising (all_asked t)
asked_rising t rising = subst (IsStrictlySortedBy prefix_cmp) (sym (keys_of-map_values asked_again t)) rising

asked_found : (t : List (Prefix × HeldRoute)) (p : Prefix) → found (all_asked t) p ≡ option_map asked_again (found t p)
asked_found t p = lookup-map_values asked_again (is_at (prefix_cmp p)) t

again_case : (o : Option HeldRoute) → asked_in o ≡ is_some (octets_in o) → option_map asked_again o ≡ o
again_case None asked = refl
again_case (Some route) asked = ap (λ b. Some (record { octets = route.octets; asked = b })) (sym asked)

-- asking for all once more changes nothing where all was asked for
pub asked_once : (t : List (Prefix × HeldRoute)) → IsRising t → ((p : Prefix) → asked_at t p ≡ is_some (held_at t p)) → all_asked t ≡ t
asked_once t rising asked = same_found (all_asked t) t (asked_rising t rising) rising (λ p. asked_found t p ∙ again_case (found t p) (asked p))

held_none : (o : Option HeldRoute) → octets_in o ≡ None → o ≡ None
held_none None none = refl
held_none (Some route) none = absurd (cc)

pub nothing_held : (t : List (Prefix × HeldRoute)) → IsRising t → ((p : Prefix) → held_at t p ≡ None) → t ≡ []
nothing_held t rising none = none_found t rising (λ p. held_none (found t p) (none p))

pub octets_rising : (t : List (Prefix × HeldRoute)) → IsRising t → IsRising (octets_of t)
octets_rising t rising = subst (IsStrictlySortedBy prefix_cmp) (sym (keys_of-map_values (λ (route : HeldRoute). route.octets) t)) rising

octets_case : (o : Option (List ℕ)) (asked : Bool) → o ≡ octets_in (option_map (λ octets. record { octets = octets; asked = asked }) o)
octets_case None asked = refl
octets_case (Some octets) asked = refl

-- the octets that a slot's peer holds
pub octets_read : (s : ℕ) (es : RecordTable) → picked (λ r. octets_by r.sent s) es ≡ octets_of (picked (λ r. held_by r.sent s) es)
octets_read s es =
    picked_alike (λ r. octets_by r.sent s) (λ r. octets_in (held_by r.sent s)) (λ r. octets_case (octets_by r.sent s) (has_slot r.sent.asked s)) es
    ∙ sym (map_picked (λ (r : PrefixRecord). held_by r.sent s) (λ (route : HeldRoute). route.octets) es)

-- ---- records that change

module _ (old new : RecordTable) (rising : IsRising old) (also : IsRising new) where
  pub routed_same : ((p : Prefix) → found (routed new) p ≡ found (routed old) p) → routed new ≡ routed old
  routed_same same = same_found (routed new) (routed old) (picked_rising (λ r. r.row) new also) (picked_rising (λ r. r.row) old rising) same

  -- the routes stay, and the candidates, and how often one was chosen
  pub rest_same : (count : ℕ) → ((p : Prefix) → found (routed new) p ≡ found (routed old) p)
      → (let tables : RibTables = record { adj_in = adj_in_of (routed new); book = book_of (routed new); chosen = count; sent = sent_of new } in tables)
      ≡ record { adj_in = adj_in_of (routed old); book = book_of (routed old); chosen = count; sent = sent_of new }
  rest_same count same = ap (λ (rows : RowTable). record { adj_in = adj_in_of rows; book = book_of rows; chosen = count; sent = sent_of new }) (routed_same same)

  pub sent_same : (s : ℕ) → ((p : Prefix) → held_of (found new p) s ≡ held_of (found old p) s) → sent_to (sent_of new) s ≡ sent_to (sent_of old) s
  sent_same s same =
      same_found (sent_to (sent_of new) s) (sent_to (sent_of old) s) (sent_rising new also s) (sent_rising old rising s) (λ p. sent_found new also s p ∙ same p ∙ sym (sent_found old rising s p))

  clear_case : (s : ℕ) (b : Bool) → ((p : Prefix) → held_of (found new p) s ≡ cond b None (held_of (found old p) s)) → sent_to (sent_of new) s ≡ cond b [] (sent_to (sent_of old) s)
  clear_case s true put = none_found (sent_to (sent_of new) s) (sent_rising new also s) (λ p. sent_found new also s p ∙ put p)
  clear_case s false put = sent_same s put

  -- a slot's peer holds nothing
  pub sent_cleared : (slot : ℕ) → ((p : Prefix) (s : ℕ) → held_of (found new p) s ≡ cond (s == slot) None (held_of (found old p) s)) → (s : ℕ) → sent_to (sent_of new) s ≡ cond (s == slot) [] (sent_to (sent_of old) s)
  sent_cleared slot put s = clear_case s (s == slot) (λ p. put p s)

  ask_case : (s : ℕ) (b : Bool) → ((p : Prefix) → held_of (found new p) s ≡ cond b (option_map asked_again (held_of (found old p) s)) (held_of (found old p) s))
      → sent_to (sent_of new) s ≡ cond b (all_asked (sent_to (sent_of old) s)) (sent_to (sent_of old) s)
  ask_case s true put =
      same_found (sent_to (sent_of new) s) (all_asked (sent_to (sent_of old) s)) (sent_rising new also s) (asked_rising (sent_to (sent_of old) s) (sent_rising old rising s))
      (λ p. sent_found new also s p ∙ put p ∙ ap (option_map asked_again) (sym (sent_found old rising s p)) ∙ sym (asked_found (sent_to (sent_of old) s) p))
  ask_case s false put = sent_same s put

  -- a slot's peer asks for all again
  pub sent_asked : (slot : ℕ) → ((p : Prefix) (s : ℕ) → held_of (found new p) s ≡ cond (s == slot) (option_map asked_again (held_of (found old p) s)) (held_of (found old p) s))
      → (s : ℕ) → sent_to (sent_of new) s ≡ cond (s == slot) (all_asked (sent_to (sent_of old) s)) (sent_to (sent_of old) s)
  sent_asked slot put s = ask_case s (s == slot) (λ p. put p s)

same_slot : (s : ℕ) → (s == s) ≡ true
same_slot s = grind (arith, nat_tests)

other_slot : (s slot : ℕ) → s ≢ slot → (s == slot) ≡ false
other_slot s slot other = by (s == slot) refl
  where
    by : (b : Bool) → (s == slot) ≡ b → (s == slot) ≡ false
    by true is = absurd (other (grind (arith, nat_tests)))
    by false is = is

octets_put : (b : Bool) (o w : Option HeldRoute) → octets_in (cond b w o) ≡ cond b (octets_in w) (octets_in o)
octets_put true o w = refl
octets_put false o w = refl

asked_put : (b : Bool) (o w : Option HeldRoute) → asked_in (cond b w o) ≡ cond b (asked_in w) (asked_in o)
asked_put true o w = refl
asked_put false o w = refl

-- what a slot's peer holds of some prefixes changes
module _ (old new : RecordTable) (rising : IsRising old) (also : IsRising new) (slot : ℕ) (among : Prefix → Bool) (step : Option HeldRoute → Option HeldRoute)
    (put : (p : Prefix) (s : ℕ) → held_of (found new p) s ≡ cond (s == slot && among p) (step (held_of (found old p) s)) (held_of (found old p) s)) where
  own_put : (p : Prefix) → found (sent_to (sent_of new) slot) p ≡ cond (among p) (step (found (sent_to (sent_of old) slot) p)) (found (sent_to (sent_of old) slot) p)
  own_put p =
      sent_found new also slot p ∙ put p slot
      ∙ ap (λ b. cond (b && among p) (step (held_of (found old p) slot)) (held_of (found old p) slot)) (same_slot slot)
      ∙ ap (λ o. cond (among p) (step o) o) (sym (sent_found old rising slot p))

  pub put_held : (p : Prefix) → held_at (sent_to (sent_of new) slot) p ≡ cond (among p) (octets_in (step (found (sent_to (sent_of old) slot) p))) (held_at (sent_to (sent_of old) slot) p)
  put_held p = ap octets_in (own_put p) ∙ octets_put (among p) (found (sent_to (sent_of old) slot) p) (step (found (sent_to (sent_of old) slot) p))

  pub put_asked : (p : Prefix) → asked_at (sent_to (sent_of new) slot) p ≡ cond (among p) (asked_in (step (found (sent_to (sent_of old) slot) p))) (asked_at (sent_to (sent_of old) slot) p)
  put_asked p = ap asked_in (own_put p) ∙ asked_put (among p) (found (sent_to (sent_of old) slot) p) (step (found (sent_to (sent_of old) slot) p))

  -- what the others hold stays
  pub put_others : (s : ℕ) → s ≢ slot → sent_to (sent_of new) s ≡ sent_to (sent_of old) s
  put_others s other =
      sent_same old new rising also s (λ p. put p s ∙ ap (λ b. cond (b && among p) (step (held_of (found old p) s)) (held_of (found old p) s)) (other_slot s slot other))

octets_renewed : (o : Option HeldRoute) → octets_in (option_map renewed o) ≡ octets_in o
octets_renewed None = refl
octets_renewed (Some route) = refl

asked_renewed : (o : Option HeldRoute) → asked_in (option_map renewed o) ≡ false
asked_renewed None = refl
asked_renewed (Some route) = refl

either : {X : Type 0} (b : Bool) (x : X) → cond b x x ≡ x
either true x = refl
either false x = refl

module _ (old new : RecordTable) (rising : IsRising old) (also : IsRising new) (slot : ℕ) (prefixes : List Prefix)
    (put : (p : Prefix) (s : ℕ) → held_of (found new p) s ≡ cond (s == slot && is_among p prefixes) (option_map renewed (held_of (found old p) s)) (held_of (found old p) s)) where
  pub renew_held : (p : Prefix) → held_at (sent_to (sent_of new) slot) p ≡ held_at (sent_to (sent_of old) slot) p
  renew_held p =
      put_held old new rising also slot (λ q. is_among q prefixes) (option_map renewed) put p
      ∙ ap (λ o. cond (is_among p prefixes) o (held_at (sent_to (sent_of old) slot) p)) (octets_renewed (found (sent_to (sent_of old) slot) p)) ∙ either (is_among p prefixes) (held_at (sent_to (sent_of old) slot) p)

  pub renew_asked : (p : Prefix) → asked_at (sent_to (sent_of new) slot) p ≡ cond (is_among p prefixes) false (asked_at (sent_to (sent_of old) slot) p)
  renew_asked p =
      put_asked old new rising also slot (λ q. is_among q prefixes) (option_map renewed) put p
      ∙ ap (λ b. cond (is_among p prefixes) b (asked_at (sent_to (sent_of old) slot) p)) (asked_renewed (found (sent_to (sent_of old) slot) p))

-- ---- what is known of what is held

pub no_marks : (holds asks all : Bool) → IsMarked [] holds asks all
no_marks holds asks all = record { nothing = λ no. refl; unasked = λ no p. refl; all = λ yes p. refl }

-- one slot's peer holds something else
marks_case : (old new : SentTable) (slot s : ℕ) (b : Bool) (h a l i j k : ℕ) → (s == slot) ≡ b → AreMarked old h a l → ((t : ℕ) → t ≢ slot → sent_to new t ≡ sent_to old t)
    → ((t : ℕ) → t ≢ slot → has_slot i t ≡ has_slot h t) → ((t : ℕ) → t ≢ slot → has_slot j t ≡ has_slot a t) → ((t : ℕ) → t ≢ slot → has_slot k t ≡ has_slot l t)
    → IsMarked (sent_to new slot) (has_slot i slot) (has_slot j slot) (has_slot k slot) → IsMarked (sent_to new s) (has_slot i s) (has_slot j s) (has_slot k s)
marks_case old new slot s true h a l i j k is marks others hs js ks own =
    let same : slot ≡ s = grind (arith, nat_tests) in
    subst (λ t. IsMarked (sent_to new t) (has_slot i t) (has_slot j t) (has_slot k t)) same own
marks_case old new slot s false h a l i j k is marks others hs js ks own =
    let other : s ≢ slot = λ e. grind (arith, nat_tests) in
    rw (others s other, hs s other, js s other, ks s other) (marks s)

pub marks_put : (old new : SentTable) (slot : ℕ) (h a l i j k : ℕ) → AreMarked old h a l → ((t : ℕ) → t ≢ slot → sent_to new t ≡ sent_to old t)
    → ((t : ℕ) → t ≢ slot → has_slot i t ≡ has_slot h t) → ((t : ℕ) → t ≢ slot → has_slot j t ≡ has_slot a t) → ((t : ℕ) → t ≢ slot → has_slot k t ≡ has_slot l t)
    → IsMarked (sent_to new slot) (has_slot i slot) (has_slot j slot) (has_slot k slot) → AreMarked new i j k
marks_put old new slot h a l i j k marks others hs js ks own s = marks_case old new slot s (s == slot) h a l i j k refl marks others hs js ks own

-- sets with one slot more, and less
pub set_with : (new old : ℕ) (slot : ℕ) → ((s : ℕ) → has_slot new s ≡ (s == slot || has_slot old s)) → ((s : ℕ) → s ≢ slot → has_slot new s ≡ has_slot old s) × (has_slot new slot ≡ true)
set_with new old slot put = (
  λ s other. put s ∙ ap (λ b. b || has_slot old s) (other_slot s slot other),
  put slot ∙ ap (λ b. b || has_slot old slot) (same_slot slot),
)

pub set_without : (new old : ℕ) (slot : ℕ) → ((s : ℕ) → has_slot new s ≡ (not (s == slot) && has_slot old s)) → ((s : ℕ) → s ≢ slot → has_slot new s ≡ has_slot old s) × (has_slot new slot ≡ false)
set_without new old slot put = (
  λ s other. put s ∙ ap (λ b. not b && has_slot old s) (other_slot s slot other),
  put slot ∙ ap (λ b. not b && has_slot old slot) (same_slot slot),
)

pub same_set : (new old : ℕ) (slot : ℕ) → new ≡ old → (s : ℕ) → s ≢ slot → has_slot new s ≡ has_slot old s
same_set new old slot same s other = ap (λ n. has_slot n s) same

asked_nothing : {t : List (Prefix × HeldRoute)} → t ≡ [] → all_asked t ≡ []
asked_nothing {t} none = ap all_asked none

-- all that is held is asked for again
pub marks_asked : (t : List (Prefix × HeldRoute)) (holds asks all : Bool) → IsMarked t holds asks all → IsMarked (all_asked t) holds true true
marks_asked t holds asks all marks = record {
  nothing = λ no. ap all_asked (marks.nothing no);
  unasked = λ no. absurd (cc);
  all = λ yes p. asked_at-all_asked t p ∙ ap is_some (sym (held_at-all_asked t p));
}

-- some prefixes are held no more
still_unasked : (b asked : Bool) → asked ≡ false → cond b false asked ≡ false
still_unasked true asked none = refl
still_unasked false asked none = none

still_all : (b asked : Bool) (o : Option (List ℕ)) → asked ≡ is_some o → cond b false asked ≡ is_some (cond b None o)
still_all true asked o is = refl
still_all false asked o is = is

still_none : (b : Bool) (o : Option (List ℕ)) → o ≡ None → cond b None o ≡ None
still_none true o none = refl
still_none false o none = none

module _ (old new : List (Prefix × HeldRoute)) (rising : IsRising new) (told : Prefix → Bool) (asked : (p : Prefix) → asked_at new p ≡ cond (told p) false (asked_at old p)) where
  pub marks_withdrawn : (holds asks all : Bool) → ((p : Prefix) → held_at new p ≡ cond (told p) None (held_at old p)) → IsMarked old holds asks all → IsMarked new holds asks all
  marks_withdrawn holds asks all held marks = record {
    nothing = λ no. nothing_held new rising (λ p. held p ∙ still_none (told p) (held_at old p) (ap (λ t. held_at t p) (marks.nothing no)));
    unasked = λ no p. asked p ∙ still_unasked (told p) (asked_at old p) (marks.unasked no p);
    all = λ yes p. asked p ∙ still_all (told p) (asked_at old p) (held_at old p) (marks.all yes p) ∙ ap is_some (sym (held p));
  }

  -- some are sent once more, or sent others
  pub marks_sent : (holds asks all : Bool) → IsMarked old holds asks all → IsMarked new true asks false
  marks_sent holds asks all marks = record {
    nothing = λ no. absurd (cc);
    unasked = λ no p. asked p ∙ still_unasked (told p) (asked_at old p) (marks.unasked no p);
    all = λ yes. absurd (cc);
  }

pub none_kept : (es : RecordTable) → es ≡ [] → (holders askers all : ℕ) → AreRecords es × AreMarked (sent_of es) holders askers all
unfolding IsStrictlySortedBy
none_kept es none holders askers all =
    subst (λ rows. AreRecords rows × AreMarked (sent_of rows) holders askers all) (sym none)
    ((tt, All-nil IsRecord), λ s. subst (λ t. IsMarked t (has_slot holders s) (has_slot askers s) (has_slot all s)) (sym (none_sent s)) (no_marks (has_slot holders s) (has_slot askers s) (has_slot all s)))

cond_other : {X : Type 0} (s slot : ℕ) (x y : X) → s ≢ slot → cond (s == slot) x y ≡ y
cond_other s slot x y other = ap (λ b. cond b x y) (other_slot s slot other)

cond_own : {X : Type 0} (slot : ℕ) (x y : X) → cond (slot == slot) x y ≡ x
cond_own slot x y = ap (λ b. cond b x y) (same_slot slot)

module _ (old new : SentTable) (slot h a l i j k : ℕ) (marks : AreMarked old h a l) where
  pub clear_marks : ((s : ℕ) → sent_to new s ≡ cond (s == slot) [] (sent_to old s))
      → ((s : ℕ) → has_slot i s ≡ (not (s == slot) && has_slot h s)) → ((s : ℕ) → has_slot j s ≡ (not (s == slot) && has_slot a s)) → ((s : ℕ) → has_slot k s ≡ (s == slot || has_slot l s)) → AreMarked new i j k
  clear_marks put hs js ks =
      marks_put old new slot h a l i j k marks (λ t other. put t ∙ cond_other t slot [] (sent_to old t) other) (set_without i h slot hs).0 (set_without j a slot js).0 (set_with k l slot ks).0
      (subst (λ t. IsMarked t (has_slot i slot) (has_slot j slot) (has_slot k slot)) (sym (put slot ∙ cond_own slot [] (sent_to old slot))) (no_marks (has_slot i slot) (has_slot j slot) (has_slot k slot)))

  pub ask_marks : ((s : ℕ) → sent_to new s ≡ cond (s == slot) (all_asked (sent_to old s)) (sent_to old s))
      → i ≡ h → ((s : ℕ) → has_slot j s ≡ (s == slot || has_slot a s)) → ((s : ℕ) → has_slot k s ≡ (s == slot || has_slot l s)) → AreMarked new i j k
  ask_marks put hs js ks =
      let asked = set_with j a slot js in
      let all = set_with k l slot ks in
      marks_put old new slot h a l i j k marks (λ t other. put t ∙ cond_other t slot (all_asked (sent_to old t)) (sent_to old t) other) (same_set i h slot hs) asked.0 all.0
      (rw (put slot ∙ cond_own slot (all_asked (sent_to old slot)) (sent_to old slot), ap (λ n. has_slot n slot) hs, asked.1, all.1)
      (marks_asked (sent_to old slot) (has_slot h slot) (has_slot a slot) (has_slot l slot) (marks slot)))

  module _ (others : (s : ℕ) → s ≢ slot → sent_to new s ≡ sent_to old s) (rising : IsRising (sent_to new slot)) (told : Prefix → Bool)
      (asked : (p : Prefix) → asked_at (sent_to new slot) p ≡ cond (told p) false (asked_at (sent_to old slot) p)) where
    pub send_marks : ((s : ℕ) → has_slot i s ≡ (s == slot || has_slot h s)) → j ≡ a → ((s : ℕ) → has_slot k s ≡ (not (s == slot) && has_slot l s)) → AreMarked new i j k
    send_marks hs js ks =
        let holds = set_with i h slot hs in
        let all = set_without k l slot ks in
        marks_put old new slot h a l i j k marks others holds.0 (same_set j a slot js) all.0
        (rw (holds.1, ap (λ n. has_slot n slot) js, all.1)
        (marks_sent (sent_to old slot) (sent_to new slot) rising told asked (has_slot h slot) (has_slot a slot) (has_slot l slot) (marks slot)))

pub withdraw_marks : (old new : SentTable) (slot h a l : ℕ) → AreMarked old h a l → ((s : ℕ) → s ≢ slot → sent_to new s ≡ sent_to old s) → IsRising (sent_to new slot) → (told : Prefix → Bool)
    → ((p : Prefix) → asked_at (sent_to new slot) p ≡ cond (told p) false (asked_at (sent_to old slot) p)) → ((p : Prefix) → held_at (sent_to new slot) p ≡ cond (told p) None (held_at (sent_to old slot) p))
    → AreMarked new h a l
withdraw_marks old new slot h a l marks others rising told asked held =
    marks_put old new slot h a l h a l marks others (λ s other. refl) (λ s other. refl) (λ s other. refl)
    (marks_withdrawn (sent_to old slot) (sent_to new slot) rising told asked (has_slot h slot) (has_slot a slot) (has_slot l slot) held (marks slot))

pub same_marks : (old new : SentTable) (h a l : ℕ) → ((s : ℕ) → sent_to new s ≡ sent_to old s) → AreMarked old h a l → AreMarked new h a l
same_marks old new h a l same marks s = subst (λ t. IsMarked t (has_slot h s) (has_slot a s) (has_slot l s)) (sym (same s)) (marks s)

-- where all was asked for, asking changes nothing
skip_case : (b : Bool) (t : List (Prefix × HeldRoute)) → (b ≡ true → all_asked t ≡ t) → t ≡ cond b (all_asked t) t
skip_case true t same = sym (same refl)
skip_case false t same = refl

pub ask_skipped : (es : RecordTable) → IsRising es → (slot h a l : ℕ) → AreMarked (sent_of es) h a l → has_slot l slot ≡ true
    → (s : ℕ) → sent_to (sent_of es) s ≡ cond (s == slot) (all_asked (sent_to (sent_of es) s)) (sent_to (sent_of es) s)
ask_skipped es rising slot h a l marks all s =
    skip_case (s == slot) (sent_to (sent_of es) s) (λ is.
    let own : slot ≡ s = grind (arith, nat_tests) in
    asked_once (sent_to (sent_of es) s) (sent_rising es rising s) ((marks s).all (subst (λ t. has_slot l t ≡ true) own all)))

-- ---- records that somebody needs

-- the records of some prefixes are needed, and the others are as they were
pub still_needed : (old new : RecordTable) (prefixes : List Prefix) → AreRecords old → AreSound new → ((p : Prefix) → is_among p prefixes ≡ false → found new p ≡ found old p)
    → ((p : Prefix) → is_among p prefixes ≡ true → IsNeeded (found new p)) → AreRecords new
still_needed old new prefixes are sound others needed = records_needed new sound (λ p. by p (is_among p prefixes) refl)
  where
    by : (p : Prefix) (b : Bool) → is_among p prefixes ≡ b → IsNeeded (found new p)
    by p true is = needed p is
    by p false is = subst IsNeeded (sym (others p is)) (needed_found old are p)
