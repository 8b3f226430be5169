use Rattle.std.proofs.Common.{◌≡◌, ◌<◌, ◌≤◌, ◌+◌, ◌^◌, ◌==◌, ◌||◌, ◌⊎◌, ◌++◌, ℕ, Bool, true, false, List, [], ◌∷◌, Option, Some, None, All, length, cond, refl, sym, ap, ◌∙◌, subst, inl, inr, arith, length-append}
use Rattle.std.specs.Option.{IfSome, IsSome}
use Rattle.std.specs.Ordering.{is_gt}
use Rattle.std.proofs.lemmas.Bool.{cases_lt, eq-eqb, eqb-true}
use Rattle.std.proofs.lemmas.List.Elements.{All-push}
use Rattle.decision.specs.BookContents.{AreApart, changed, is_prefix}
use Rattle.decision.specs.declared.book.Change.{Change}
use Rattle.decision.specs.declared.candidate.Candidate.{Candidate}
use Rattle.net_prefix.specs.PrefixOrder.{prefix_cmp, IsAbove}
use Rattle.net_prefix.specs.declared.prefix.Prefix.{Prefix}
use Rattle.rib_out.proofs.Prefixes.{is_prefix-refl}
use Rattle.routing.specs.Offers.{AreMadeAgain, AreMadeAt, AreMadeWhere, AreRemade, IsOffer, IsOwn, IsRemade, IsSound, IsSource, LacksRoute, Offers}
use Rattle.routing.specs.Places.{rank_of}
use Rattle.routing.specs.Tables.{Tables}
use Rattle.routing.proofs.Places.{above_from_rank, reached, same_from_is_prefix, same_from_rank, IsPlace, none_between}
use Rattle.routing.proofs.SoundOffers.{apart_from_own, offer_own, own_named}

-- The candidates of all routes made again, prefix by prefix, and of each slot by slot.

-- one change more
changed_push : (changes : List Change) (c : Change) (slot : ℕ) (before : Option Candidate) → changed (changes ++ c ∷ []) slot before ≡ cond (c.slot == slot) c.candidate (changed changes slot before)
changed_push [] c slot before = refl
changed_push (d ∷ changes) c slot before = changed_push changes c slot (cond (d.slot == slot) d.candidate before)

-- the candidates of the slots below this one
pub record RemadeBelow (t : Tables) (prefix : Prefix) (n : ℕ) (changes : List Change) : Type 0 where
  pub few : length changes ≤ n
  pub routed : All (λ c. IsSome (t.routes c.slot prefix)) changes
  pub named : All (λ c. IfSome c.candidate (λ route. route.slot ≡ c.slot)) changes
  pub made : (slot : ℕ) (before : Option Candidate) → slot < n → IsSource t slot → IsSome (t.routes slot prefix) → IsOffer t slot prefix (changed changes slot before)
  pub still : (slot : ℕ) (before : Option Candidate) → t.routes slot prefix ≡ None → changed changes slot before ≡ before
  pub own : (slot : ℕ) (before : Option Candidate) → IsOwn t.conf slot before → IsOwn t.conf slot (changed changes slot before)

pub RemadeBelow-none : (t : Tables) (prefix : Prefix) → RemadeBelow t prefix 0 []
RemadeBelow-none t prefix = record {
  few = omega arith;
  routed = λ k d h. absurd (omega arith);
  named = λ k d h. absurd (omega arith);
  made = λ slot before below. absurd (omega (arith, below));
  still = λ slot before lacks. refl;
  own = λ slot before own. own;
}

lacks_none : {P : Type 0} (t : Tables) (slot : ℕ) (prefix : Prefix) → LacksRoute t slot prefix → IsSource t slot → IsSome (t.routes slot prefix) → P
lacks_none t slot prefix (inl none) source there = absurd (let never = subst (λ o. IsSome o) none there in cc)
lacks_none t slot prefix (inr none) (inl up) there = absurd (let never = sym none.1 ∙ up.1.1 in cc)
lacks_none t slot prefix (inr none) (inr local) there = let below = none.0 in absurd (omega (arith, below, local))

-- the next slot has no route
pub RemadeBelow-same : (t : Tables) (prefix : Prefix) (n : ℕ) (changes : List Change) → RemadeBelow t prefix n changes → LacksRoute t n prefix → RemadeBelow t prefix (n + 1) changes
RemadeBelow-same t prefix n changes h lacks = record {
  few = omega (arith, h.few);
  routed = h.routed;
  named = h.named;
  made = λ slot before below source there. elim (cases_lt slot n) [
    | inl under ↦ h.made slot before under source there
    | inr least ↦
        let at : n ≡ slot = omega (arith, below, least) in
        lacks_none t slot prefix (subst (λ s. LacksRoute t s prefix) at lacks) source there
  ];
  still = h.still;
  own = h.own;
}

-- the next slot has this candidate
pub RemadeBelow-push : (t : Tables) (prefix : Prefix) (n : ℕ) (changes : List Change) (c : Change) → RemadeBelow t prefix n changes → IsRemade t n prefix c → RemadeBelow t prefix (n + 1) (changes ++ c ∷ [])
RemadeBelow-push t prefix n changes c h is = record {
  few = omega (arith, h.few, length-append changes (c ∷ []));
  routed = All-push (λ (d : Change). IsSome (t.routes d.slot prefix)) changes c h.routed (subst (λ s. IsSome (t.routes s prefix)) (sym is.slot_is) is.routed);
  named =
      All-push (λ (d : Change). IfSome d.candidate (λ route. route.slot ≡ d.slot)) changes c h.named
      (subst (λ s. IfSome c.candidate (λ route. route.slot ≡ s)) (sym is.slot_is) (own_named t.conf n c.candidate (offer_own t n prefix c.candidate is.offer)));
  made = λ slot before below source there.
      subst (λ f. IsOffer t slot prefix f) (sym (changed_push changes c slot before)) (made_here slot before (c.slot == slot) refl below source there);
  still = λ slot before lacks. changed_push changes c slot before ∙ still_here slot before (c.slot == slot) refl lacks;
  own = λ slot before own.
      subst (λ f. IsOwn t.conf slot f) (sym (changed_push changes c slot before)) (own_here slot before (c.slot == slot) refl own);
}
  where
    at_slot : (slot : ℕ) → (c.slot == slot) ≡ true → n ≡ slot
    at_slot slot same = sym is.slot_is ∙ eqb-true c.slot slot same

    off_slot : (slot : ℕ) → (c.slot == slot) ≡ false → n ≡ slot → ⊥
    off_slot slot other at = let same = eq-eqb c.slot slot (is.slot_is ∙ at) in cc

    made_here : (slot : ℕ) (before : Option Candidate) (b : Bool) → (c.slot == slot) ≡ b → slot < n + 1 → IsSource t slot → IsSome (t.routes slot prefix)
        → IsOffer t slot prefix (cond b c.candidate (changed changes slot before))
    made_here slot before true same below source there = subst (λ s. IsOffer t s prefix c.candidate) (at_slot slot same) is.offer
    made_here slot before false other below source there = elim (cases_lt slot n) [
      | inl under ↦ h.made slot before under source there
      | inr least ↦ absurd (off_slot slot other (omega (arith, below, least)))
    ]

    still_here : (slot : ℕ) (before : Option Candidate) (b : Bool) → (c.slot == slot) ≡ b → t.routes slot prefix ≡ None → cond b c.candidate (changed changes slot before) ≡ before
    still_here slot before true same lacks =
        let none : t.routes n prefix ≡ None = subst (λ s. t.routes s prefix ≡ None) (sym (at_slot slot same)) lacks in
        absurd (let never = subst (λ o. IsSome o) none is.routed in cc)
    still_here slot before false other lacks = h.still slot before lacks

    own_here : (slot : ℕ) (before : Option Candidate) (b : Bool) → (c.slot == slot) ≡ b → IsOwn t.conf slot before → IsOwn t.conf slot (cond b c.candidate (changed changes slot before))
    own_here slot before true same own = subst (λ s. IsOwn t.conf s c.candidate) (at_slot slot same) (offer_own t n prefix c.candidate is.offer)
    own_here slot before false other own = h.own slot before own

-- those of all slots
pub RemadeBelow-all : (t : Tables) (prefix : Prefix) (n : ℕ) (changes : List Change) → n ≡ 65 → RemadeBelow t prefix n changes → AreRemade t prefix changes
RemadeBelow-all t prefix n changes all h = record {
  routed = h.routed;
  named = h.named;
  made = λ slot before source. h.made slot before (low slot source) source;
  still = h.still;
  own = h.own;
}
  where
    low : (slot : ℕ) → IsSource t slot → slot < n
    low slot (inl up) = let below = up.0 in omega (arith, below, all)
    low slot (inr local) = omega (arith, local, all)

-- made again, they are apart
pub apart_remade : (t : Tables) (prefix : Prefix) (changes : List Change) (offers : Offers) → AreRemade t prefix changes → IsSound t.conf offers → AreApart (λ s. changed changes s (offers s prefix))
apart_remade t prefix changes offers remade sound =
    apart_from_own t.conf (λ s. changed changes s (offers s prefix)) sound.addresses sound.addressed (λ s. remade.own s (offers s prefix) (sound.own s prefix))

own_remade : (t : Tables) (p q : Prefix) (changes : List Change) (s : ℕ) (before after : Option Candidate) (b : Bool) → AreRemade t p changes → IsOwn t.conf s before → after ≡ cond b (changed changes s before) before
    → IsOwn t.conf s after
own_remade t p q changes s before after true remade own is = subst (λ o. IsOwn t.conf s o) (sym is) (remade.own s before own)
own_remade t p q changes s before after false remade own is = subst (λ o. IsOwn t.conf s o) (sym is) own

pub sound_remade : (t : Tables) (p : Prefix) (changes : List Change) (had has : Offers) → AreRemade t p changes → IsSound t.conf had
    → ((s : ℕ) (q : Prefix) → has s q ≡ cond (is_prefix p q) (changed changes s (had s q)) (had s q)) → IsSound t.conf has
sound_remade t p changes had has remade sound offers = record {
  addresses = sound.addresses;
  addressed = sound.addressed;
  own = λ s q. own_remade t p q changes s (had s q) (has s q) (is_prefix p q) remade (sound.own s q) (offers s q);
}

-- ---- prefix by prefix

-- those of the routes to one prefix
pub made_at : (t : Tables) (p : Prefix) (changes : List Change) (had has : Offers) → AreRemade t p changes
    → ((s : ℕ) (q : Prefix) → has s q ≡ cond (is_prefix p q) (changed changes s (had s q)) (had s q)) → AreMadeAt t p had has
made_at t p changes had has remade offers = record {
  made = λ slot source there.
      subst (λ f. IsOffer t slot p f) (sym (offers slot p ∙ ap (λ b. cond b (changed changes slot (had slot p)) (had slot p)) (is_prefix-refl p)))
      (remade.made slot (had slot p) source there);
  still = λ slot q out. offers slot q ∙ still_here slot q (is_prefix p q) refl out;
}
  where
    still_here : (slot : ℕ) (q : Prefix) (b : Bool) → is_prefix p q ≡ b → (is_prefix p q ≡ false) ⊎ (t.routes slot q ≡ None) → cond b (changed changes slot (had slot q)) (had slot q) ≡ had slot q
    still_here slot q false other out = refl
    still_here slot q true same (inl other) = absurd (cc)
    still_here slot q true same (inr none) =
        let one : p ≡ q = same_from_is_prefix p q same in
        remade.still slot (had slot q) (subst (λ x. t.routes slot x ≡ None) (sym one) none)

-- those of all prefixes of which this holds, up to one
pub record RemadeUpTo (t : Tables) (holds : Prefix → Bool) (had : Offers) (after : Option Prefix) (now : Offers) : Type 0 where
  pub place : IsPlace after
  pub made : (slot : ℕ) (q : Prefix) → holds q ≡ true → rank_of q < reached after → IsSource t slot → IsSome (t.routes slot q) → IsOffer t slot q (now slot q)
  pub still : (slot : ℕ) (q : Prefix) → (holds q ≡ false) ⊎ (t.routes slot q ≡ None) → now slot q ≡ had slot q

pub RemadeUpTo-none : (t : Tables) (holds : Prefix → Bool) (had : Offers) → RemadeUpTo t holds had None had
RemadeUpTo-none t holds had = record {
  place = tt;
  made = λ slot q held under. absurd (omega (arith, under));
  still = λ slot q out. refl;
}

-- a prefix between the last one and the next has no route
no_route_between : {X P : Type 0} (p q : Prefix) (found : Option X) → (IsSome found → is_gt (prefix_cmp p q) ≡ false) → rank_of q < rank_of p → IsSome found → P
no_route_between p q found least under there = absurd (let never = subst (λ o. IsSome o) (none_between p q found least under) there in cc)

-- the next prefix
pub RemadeUpTo-more : (t : Tables) (holds : Prefix → Bool) (had now new : Offers) (after : Option Prefix) (p : Prefix) → RemadeUpTo t holds had after now → holds p ≡ true
    → ((s : ℕ) (r : Prefix) → holds r ≡ true → IsAbove after r → IsSome (t.routes s r) → is_gt (prefix_cmp p r) ≡ false) → rank_of p < 2 ^ 38
    → AreMadeAt t p now new → RemadeUpTo t holds had (Some p) new
RemadeUpTo-more t holds had now new after p h held least place at = record {
  place = place;
  made = λ slot q holds_it under source there. made_here slot q (is_prefix p q) refl holds_it under source there;
  still = λ slot q out. still_here slot q (is_prefix p q) refl out ∙ h.still slot q out;
}
  where
    behind : (q : Prefix) → rank_of q < reached (Some p) → is_prefix p q ≡ false → rank_of q < rank_of p
    behind q under other = elim (cases_lt (rank_of q) (rank_of p)) [
      | inl less ↦ less
      | inr not_less ↦ let one : p ≡ q = same_from_rank p q (omega (arith, under, not_less)) in absurd (let same = ap (λ x. is_prefix p x) (sym one) ∙ is_prefix-refl p in cc)
    ]

    made_here : (slot : ℕ) (q : Prefix) (b : Bool) → is_prefix p q ≡ b → holds q ≡ true → rank_of q < reached (Some p) → IsSource t slot → IsSome (t.routes slot q) → IsOffer t slot q (new slot q)
    made_here slot q true same holds_it under source there =
        let one : p ≡ q = same_from_is_prefix p q same in
        subst (λ x. IsOffer t slot x (new slot x)) one (at.made slot source (subst (λ x. IsSome (t.routes slot x)) (sym one) there))
    made_here slot q false other holds_it under source there =
        subst (λ f. IsOffer t slot q f) (sym (at.still slot q (inl other))) (elim (cases_lt (rank_of q) (reached after)) [
          | inl already ↦ h.made slot q holds_it already source there
          | inr between ↦ no_route_between p q (t.routes slot q) (least slot q holds_it (above_from_rank after q between)) (behind q under other) there
        ])

    still_here : (slot : ℕ) (q : Prefix) (b : Bool) → is_prefix p q ≡ b → (holds q ≡ false) ⊎ (t.routes slot q ≡ None) → new slot q ≡ now slot q
    still_here slot q false other out = at.still slot q (inl other)
    still_here slot q true same (inr none) = at.still slot q (inr none)
    still_here slot q true same (inl not) = absurd (let one = ap holds (sym (same_from_is_prefix p q same)) in cc)

-- where no route is above, all are made again
pub RemadeUpTo-all : (t : Tables) (holds : Prefix → Bool) (had now : Offers) (after : Option Prefix) → RemadeUpTo t holds had after now
    → ((s : ℕ) (q : Prefix) → holds q ≡ true → IsAbove after q → t.routes s q ≡ None) → AreMadeWhere t holds had now
RemadeUpTo-all t holds had now after h none = record {
  made = λ slot q held source there. elim (cases_lt (rank_of q) (reached after)) [
    | inl already ↦ h.made slot q held already source there
    | inr above ↦ absurd (let never = subst (λ o. IsSome o) (none slot q held (above_from_rank after q above)) there in cc)
  ];
  still = h.still;
}

-- of all prefixes
pub made_again : (t : Tables) (holds : Prefix → Bool) (had has : Offers) → ((q : Prefix) → holds q ≡ true) → AreMadeWhere t holds had has → AreMadeAgain t had has
made_again t holds had has all made = record {
  made = λ slot q held source there. made.made slot q (all q) source there;
  still = λ slot q out. elim out [ inl never ↦ absurd (cc) | inr none ↦ made.still slot q (inr none) ];
}

-- those of some prefixes and then of others
pub made_none : (t : Tables) (had : Offers) → AreMadeWhere t (λ q. false) had had
made_none t had = record { made = λ slot q held. absurd (cc); still = λ slot q out. refl }

or_neither : (a b : Bool) → (a || b) ≡ false → (a ≡ false) × (b ≡ false)
or_neither true b is = absurd (cc)
or_neither false b is = (refl, is)

pub made_both : (t : Tables) (first second both : Prefix → Bool) (had mid has : Offers) → AreMadeWhere t first had mid → AreMadeWhere t second mid has → ((q : Prefix) → both q ≡ (first q || second q)) → AreMadeWhere t both had has
made_both t first second both had mid has a b is = record {
  made = λ slot q held source there. made_here slot q (second q) refl held source there;
  still = λ slot q out. elim out [
    | inl neither ↦ let parts = or_neither (first q) (second q) (sym (is q) ∙ neither) in b.still slot q (inl parts.1) ∙ a.still slot q (inl parts.0)
    | inr none ↦ b.still slot q (inr none) ∙ a.still slot q (inr none)
  ];
}
  where
    first_of_both : (c d : Bool) → (c || d) ≡ true → d ≡ false → c ≡ true
    first_of_both true d is not = refl
    first_of_both false d is not = absurd (cc)

    made_here : (slot : ℕ) (q : Prefix) (c : Bool) → second q ≡ c → both q ≡ true → IsSource t slot → IsSome (t.routes slot q) → IsOffer t slot q (has slot q)
    made_here slot q true at held source there = b.made slot q at source there
    made_here slot q false at held source there =
        subst (λ f. IsOffer t slot q f) (sym (b.still slot q (inl at))) (a.made slot q (first_of_both (first q) (second q) (sym (is q) ∙ held) at) source there)
