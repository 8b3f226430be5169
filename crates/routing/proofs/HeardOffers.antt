use Rattle.std.proofs.Common.{◌≡◌, ◌==◌, ◌&&◌, ◌||◌, ◌⊎◌, ℕ, Bool, true, false, not, List, [], Option, Some, None, cond, refl, sym, ap, ◌∙◌, subst, inl, inr}
use Rattle.std.proofs.lemmas.Bool.{eq-eqb, eqb-true, ne_eqb}
use Rattle.bgp_attr.specs.PathAttributes.{PathAttributes}
use Rattle.bgp_conf.specs.Configuration.{Configuration}
use Rattle.bgp_fsm.specs.StateTests.{is_established}
use Rattle.bgp_fsm.specs.declared.state.State.TheVariants.{Established}
use Rattle.bgp_msg.specs.UpdateMeaning.{UpdateBody}
use Rattle.decision.specs.BookContents.{AreApart, offer_at}
use Rattle.decision.specs.declared.candidate.Candidate.{Candidate}
use Rattle.net_prefix.specs.declared.payload.Vrp.{Vrp}
use Rattle.net_prefix.specs.declared.prefix.Prefix.{Prefix}
use Rattle.rib_in.specs.LatestRoutes.{route_at}
use Rattle.routing.specs.Heard.{KeepsUnnamed}
use Rattle.routing.specs.Updates.{is_among, is_only_withdrawn, word_of}
use Rattle.routing.specs.Candidates.{IsMade, judged_at}
use Rattle.routing.specs.RoutingState.{RoutingState}
use Rattle.routing.specs.Offers.{IsSound, KeepsHeard, Offers}
use Rattle.routing.specs.declared.updates.Sender.{Sender}
use Rattle.routing.proofs.KeptOffers.{kept_come, kept_gone}
use Rattle.routing.proofs.RouteChanges.{Found, IsSet}
use Rattle.routing.proofs.SoundOffers.{apart_with, judged_own, made_own, sound_gone, sound_some}

-- The candidates that an UPDATE leaves.

-- each is the slot's new one or as it was
abbrev pub AreSome : ℕ → (Prefix → Option Candidate) → Offers → Offers → Type 0
AreSome slot found had has = (s : ℕ) (p : Prefix) → ((s ≡ slot) × (has s p ≡ found p)) ⊎ (has s p ≡ had s p)

pub both_true : (a b : Bool) → (a && b) ≡ true → a ≡ true
both_true true b h = refl
both_true false b h = absurd (cc)

pub some_set : (slot : ℕ) (is : Prefix → Bool) (found : Prefix → Option Candidate) (had has : Offers) → IsSet slot is found had has → AreSome slot found had has
some_set slot is found had has set s p = here (s == slot && is p) refl (set s p)
  where
    here : (b : Bool) → (s == slot && is p) ≡ b → has s p ≡ cond b (found p) (had s p) → ((s ≡ slot) × (has s p ≡ found p)) ⊎ (has s p ≡ had s p)
    here true at now = inl (eqb-true s slot (both_true (s == slot) _ at), now)
    here false at now = inr now

-- with the slot's new one in place of its last they are as far apart as before
pub apart_still : (slot : ℕ) (found : Prefix → Option Candidate) (had has : Offers) → AreSome slot found had has → (p : Prefix) → AreApart (λ s. cond (slot == s) (found p) (had s p))
    → AreApart (λ s. cond (slot == s) (found p) (has s p))
apart_still slot found had has some p apart = subst (λ f. AreApart f) (λ i s. same s (slot == s) refl (some s p) i) apart
  where
    same : (s : ℕ) (b : Bool) → (slot == s) ≡ b → ((s ≡ slot) × (has s p ≡ found p)) ⊎ (has s p ≡ had s p) → cond b (found p) (had s p) ≡ cond b (found p) (has s p)
    same s true at some = refl
    same s false at (inl this) = absurd (let back = eq-eqb slot s (sym this.0) in cc)
    same s false at (inr as_was) = sym as_was

-- behind the withdrawals
pub apart_heard : (conf : Configuration) (payloads : List Vrp) (slot identifier : ℕ) (attrs : PathAttributes) (found : Option Candidate) (withdrawn : Prefix → Bool) (had mid : Offers) → IsSound conf had
    → IsSet slot withdrawn (λ p. None) had mid → IsMade conf slot identifier attrs found → (p : Prefix) → AreApart (λ s. cond (slot == s) (judged_at conf payloads attrs found p) (mid s p))
apart_heard conf payloads slot identifier attrs found withdrawn had mid sound gone made p =
    apart_with conf slot (judged_at conf payloads attrs found p) mid (sound_gone conf had mid (λ s q. s == slot && withdrawn q) sound gone)
    (judged_own conf payloads attrs slot found p (made_own conf slot identifier attrs found made)) p

pub sound_heard : (conf : Configuration) (payloads : List Vrp) (slot identifier : ℕ) (attrs : PathAttributes) (found : Option Candidate) (withdrawn announced : Prefix → Bool) (had mid has : Offers) → IsSound conf had
    → IsSet slot withdrawn (λ p. None) had mid → IsMade conf slot identifier attrs found → IsSet slot announced (judged_at conf payloads attrs found) mid has → IsSound conf has
sound_heard conf payloads slot identifier attrs found withdrawn announced had mid has sound gone made come =
    sound_some conf slot (judged_at conf payloads attrs found) mid has (sound_gone conf had mid (λ s p. s == slot && withdrawn p) sound gone)
    (λ p. judged_own conf payloads attrs slot found p (made_own conf slot identifier attrs found made)) (some_set slot announced (judged_at conf payloads attrs found) mid has come)

pub sound_withdrawn : (conf : Configuration) (slot : ℕ) (withdrawn : Prefix → Bool) (had mid : Offers) → IsSound conf had → IsSet slot withdrawn (λ p. None) had mid → IsSound conf mid
sound_withdrawn conf slot withdrawn had mid sound gone = sound_gone conf had mid (λ s p. s == slot && withdrawn p) sound gone

-- what is left where some prefixes go
abbrev pub left_of : {X : Type 0} → ℕ → (Prefix → Bool) → Found X → Found X
left_of slot withdrawn old s p = cond (s == slot && withdrawn p) None (old s p)

-- an UPDATE that is taken leaves the candidates of all routes
pub kept_taken : (conf : Configuration) (payloads : List Vrp) (sender : Sender) (attrs : PathAttributes) (found : Option Candidate) (withdrawn announced : Prefix → Bool) (old new : RoutingState)
    → IsMade conf sender.slot sender.identifier attrs found → IsSet sender.slot announced (λ p. Some attrs) (left_of sender.slot withdrawn (route_at old.adj_in)) (route_at new.adj_in)
    → IsSet sender.slot announced (judged_at conf payloads attrs found) (left_of sender.slot withdrawn (offer_at old.book)) (offer_at new.book) → KeepsHeard conf payloads sender Established old new
kept_taken conf payloads sender attrs found withdrawn announced old new made routes offers session established same sessions there kept =
    kept_come conf payloads sender.slot sender.identifier attrs found (left_of sender.slot withdrawn (route_at old.adj_in)) (route_at new.adj_in) (left_of sender.slot withdrawn (offer_at old.book)) (offer_at new.book)
    (λ s p. s == sender.slot && announced p) (λ s p come. eqb-true s sender.slot (both_true (s == sender.slot) _ come)) made routes offers session (ap is_established established) same sessions there
    (kept_gone conf payloads sessions (route_at old.adj_in) (left_of sender.slot withdrawn (route_at old.adj_in)) (offer_at old.book) (left_of sender.slot withdrawn (offer_at old.book)) (λ s p. s == sender.slot && withdrawn p)
    (λ s p. refl) (λ s p. refl) kept)

-- one that announces nothing, too
pub kept_withdrawn : (conf : Configuration) (payloads : List Vrp) (sender : Sender) (withdrawn : Prefix → Bool) (old mid : RoutingState)
    → IsSet sender.slot withdrawn (λ p. None) (route_at old.adj_in) (route_at mid.adj_in) → IsSet sender.slot withdrawn (λ p. None) (offer_at old.book) (offer_at mid.book) → KeepsHeard conf payloads sender Established old mid
kept_withdrawn conf payloads sender withdrawn old mid routes_gone offers_gone session established same sessions there kept =
    kept_gone conf payloads sessions (route_at old.adj_in) (route_at mid.adj_in) (offer_at old.book) (offer_at mid.book) (λ s p. s == sender.slot && withdrawn p) routes_gone offers_gone kept

-- the last word on each prefix
word_set : (b a w : Bool) (attrs : PathAttributes) (before : Option PathAttributes) → cond (b && a) (Some attrs) (cond (b && (w && not a)) None before) ≡ cond b (cond a (Some attrs) (cond w None before)) before
word_set true true w attrs before = refl
word_set true false true attrs before = refl
word_set true false false attrs before = refl
word_set false a w attrs before = refl

pub words_taken : (slot : ℕ) (update : UpdateBody) (old new : Found PathAttributes)
    → IsSet slot (λ p. is_among p update.announced) (λ p. Some update.attrs) (left_of slot (is_only_withdrawn update.withdrawn update.announced) old) new
    → (s : ℕ) (p : Prefix) → new s p ≡ cond (s == slot) (word_of update p (old s p)) (old s p)
words_taken slot update old new come s p = come s p ∙ word_set (s == slot) (is_among p update.announced) (is_among p update.withdrawn) update.attrs (old s p)

-- one that announces nothing
word_gone : (b w : Bool) (attrs : PathAttributes) (before : Option PathAttributes) → cond (b && (w && true)) None before ≡ cond b (cond w None before) before
word_gone true true attrs before = refl
word_gone true false attrs before = refl
word_gone false w attrs before = refl

pub on_withdrawn : (slot : ℕ) (update : UpdateBody) (old mid : ℕ → Prefix → Option PathAttributes) → update.announced ≡ [] → IsSet slot (is_only_withdrawn update.withdrawn update.announced) (λ p. None) old mid
    → (s : ℕ) (p : Prefix) → mid s p ≡ cond (s == slot) (word_of update p (old s p)) (old s p)
on_withdrawn slot update old mid none gone s p =
    let here = rw none at gone s p in
    here ∙ rw none (word_gone (s == slot) (is_among p update.withdrawn) update.attrs (old s p))

-- the candidates of which an UPDATE says nothing stay
unnamed_gone : (here withdrawn announced : Bool) → (withdrawn || announced) ≡ false → (here && (withdrawn && not announced)) ≡ false
unnamed_gone here true announced is = absurd (cc)
unnamed_gone true false announced is = refl
unnamed_gone false false announced is = refl

unnamed_come : (here withdrawn announced : Bool) → (withdrawn || announced) ≡ false → (here && announced) ≡ false
unnamed_come here true announced is = absurd (cc)
unnamed_come true false announced is = is
unnamed_come false false announced is = refl

pub unnamed_withdrawn : (slot : ℕ) (update : UpdateBody) (old mid : RoutingState) → IsSet slot (is_only_withdrawn update.withdrawn update.announced) (λ p. None) (offer_at old.book) (offer_at mid.book)
    → KeepsUnnamed slot (Some update) old.book mid.book
unnamed_withdrawn slot update old mid gone s p (inl other) = gone s p ∙ rw (ne_eqb s slot other) refl
unnamed_withdrawn slot update old mid gone s p (inr is) =
    gone s p ∙ ap (λ b. cond b None (offer_at old.book s p)) (unnamed_gone (s == slot) (is_among p update.withdrawn) (is_among p update.announced) is)

pub unnamed_taken : (slot : ℕ) (update : UpdateBody) (found : Prefix → Option Candidate) (old new : RoutingState)
    → IsSet slot (λ p. is_among p update.announced) found (left_of slot (is_only_withdrawn update.withdrawn update.announced) (offer_at old.book)) (offer_at new.book) → KeepsUnnamed slot (Some update) old.book new.book
unnamed_taken slot update found old new come s p (inl other) = come s p ∙ rw (ne_eqb s slot other) refl
unnamed_taken slot update found old new come s p (inr is) =
    come s p
    ∙ ap (λ b. cond b (found p) (left_of slot (is_only_withdrawn update.withdrawn update.announced) (offer_at old.book) s p)) (unnamed_come (s == slot) (is_among p update.withdrawn) (is_among p update.announced) is)
    ∙ ap (λ b. cond b None (offer_at old.book s p)) (unnamed_gone (s == slot) (is_among p update.withdrawn) (is_among p update.announced) is)
