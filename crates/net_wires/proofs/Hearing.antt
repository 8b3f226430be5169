-- What was heard of sockets is still known behind what is heard next.
use Rattle.std.proofs.Common.{◌≡◌, ◌≢◌, ◌==◌, ◌||◌, ◌⊎◌, ◌∙◌, ℕ, Bool, true, false, MatchBool, List, [], ◌∷◌, ◌++◌, Option, Some, None, ap, inl, inr, option_map, refl, subst, sym, unwrap_or}
use Rattle.std.specs.List.{All}
use Rattle.std.proofs.lemmas.Bool.Decides.{eqb_tells}
use Rattle.std.proofs.lemmas.List.{append_assoc}
use Rattle.std.proofs.lemmas.List.Elements.{All-append, All-cons, All-nil, All-weaker}
use Rattle.mio.specs.Event.{event_token}
use Rattle.mio.specs.declared.event.event.Event.{Event}
use Rattle.slab.specs.Slab.{Slab, Updates, get}
use Rattle.net_wires.specs.declared.readiness.Readiness.{Readiness}
use Rattle.net_wires.specs.Readiness.{AllMayStill, IsHeard, MayStill, for_both, joined, listener_number, readiness_of, told_by}

MayStill-trans : {old between new : Readiness} → MayStill old between → MayStill between new → MayStill old new
MayStill-trans first second = record { reading = λ may. second.reading (first.reading may); writing = λ may. second.writing (first.writing may) }

pub AllMayStill-same : (sockets : Slab Readiness) → AllMayStill sockets sockets
AllMayStill-same sockets key = record { reading = λ may. may; writing = λ may. may }

pub AllMayStill-trans : (old between new : Slab Readiness) → AllMayStill old between → AllMayStill between new → AllMayStill old new
AllMayStill-trans old between new first second key = MayStill-trans (first key) (second key)

MayStill-same : {old new : Readiness} → old ≡ new → MayStill old new
MayStill-same {old} same = let Still : Readiness → Type 0 = λ new. MayStill old new in subst Still same (record { reading = λ may. may; writing = λ may. may })

MayStill-to : {old between new : Readiness} → MayStill old between → between ≡ new → MayStill old new
MayStill-to {old} still same = let Still : Readiness → Type 0 = λ new. MayStill old new in subst Still same still

or-true : (one : Bool) → (one || true) ≡ true
or-true true = refl
or-true false = refl

-- what is told of a socket is known, and what was known still is
MayStill-told : (told : Readiness) (known : Option Readiness) → MayStill told (unwrap_or (option_map (joined told) known) for_both)
MayStill-told told None = record { reading = λ may. refl; writing = λ may. refl }
MayStill-told told (Some known) = record {
  reading = λ may. ap (λ (test : Bool). test || known.may_read) may;
  writing = λ may. ap (λ (test : Bool). test || known.may_write) may;
}

MayStill-joined : (told : Readiness) (known : Option Readiness) → MayStill (unwrap_or known for_both) (unwrap_or (option_map (joined told) known) for_both)
MayStill-joined told None = MayStill-same refl
MayStill-joined told (Some known) = record {
  reading = λ may. rw (may, or-true told.may_read);
  writing = λ may. rw (may, or-true told.may_write);
}

pub AllMayStill-told : (old new : Slab Readiness) (key : ℕ) (told : Readiness) → Updates old new key (option_map (joined told) (get old key)) → AllMayStill old new
AllMayStill-told old new key told updates None = MayStill-same refl
AllMayStill-told old new key told updates (Some other) = by_key (eqb_tells other key)
  where
    Still : ℕ → Type 0
    Still at = MayStill (readiness_of old (Some at)) (readiness_of new (Some at))

    by_key : (((other == key) ≡ true) × (other ≡ key)) ⊎ (((other == key) ≡ false) × (other ≢ key)) → Still other
    by_key (inl same) = subst Still (sym same.1) (MayStill-to (MayStill-joined told (get old key)) (ap (λ (known : Option Readiness). unwrap_or known for_both) (sym updates.changed)))
    by_key (inr another) = MayStill-same (ap (λ (known : Option Readiness). unwrap_or known for_both) (sym (updates.others other another.1)))

either : (test : Bool) (P P' Q Q' : Type 0) → (P → P') → (Q → Q') → MatchBool test P Q → MatchBool test P' Q'
either true P P' Q Q' one other is = one is
either false P P' Q Q' one other is = other is

at_true : (test : Bool) (P Q : Type 0) → test ≡ true → P → MatchBool test P Q
at_true true P Q is one = one
at_true false P Q is one = absurd cc

at_false : (test : Bool) (P Q : Type 0) → test ≡ false → Q → MatchBool test P Q
at_false true P Q is other = absurd cc
at_false false P Q is other = other

-- an event of the listener is heard, and one of a socket
pub IsHeard-listener : (sockets : Slab Readiness) (event : Event) → ((event_token event).0 == listener_number) ≡ true → IsHeard sockets true event
IsHeard-listener sockets event is = at_true _ _ _ is refl

pub IsHeard-told :
    (old new : Slab Readiness) (may_accept : Bool) (event : Event)
    → ((event_token event).0 == listener_number) ≡ false
    → Updates old new (event_token event).0 (option_map (joined (told_by event)) (get old (event_token event).0))
    → IsHeard new may_accept event
IsHeard-told old new may_accept event isn't updates =
    let Told : Option Readiness → Type 0 = λ known. MayStill (told_by event) (unwrap_or known for_both) in
    at_false _ _ _ isn't (subst Told (sym updates.changed) (MayStill-told (told_by event) (get old (event_token event).0)))

-- and is heard still behind the next one
IsHeard-still : (old new : Slab Readiness) (before after : Bool) → AllMayStill old new → (before ≡ true → after ≡ true) → (event : Event) → IsHeard old before event → IsHeard new after event
IsHeard-still old new before after sockets listener event is =
    either ((event_token event).0 == listener_number) _ _ _ _ listener (λ may. MayStill-trans may (sockets (Some (event_token event).0))) is

-- the events that were heard, one more among them, and those that are left
pub heard_more :
    (old new : Slab Readiness) (before after : Bool) (events rest left : List Event) (event : Event)
    → AllMayStill old new → (before ≡ true → after ≡ true)
    → IsHeard new after event → rest ≡ event ∷ left
    → ((heard : List Event) × (events ≡ heard ++ rest) × All (IsHeard old before) heard)
    → ((heard : List Event) × (events ≡ heard ++ left) × All (IsHeard new after) heard)
heard_more old new before after events rest left event sockets listener is first was = (
  was.0 ++ event ∷ [],
  (was.1 ∙ (ap (λ (others : List Event). was.0 ++ others) first ∙ sym (append_assoc was.0 (event ∷ []) left))),
  All-append (IsHeard new after) was.0 (event ∷ []) (All-weaker (IsHeard old before) (IsHeard new after) (IsHeard-still old new before after sockets listener) was.0 was.2) (All-cons (IsHeard new after) event [] is (All-nil (IsHeard new after))),
)
