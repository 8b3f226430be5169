use Rattle.std.proofs.Common.{◌≡◌, ◌≤◌, ◌<◌, ◌+◌, ◌==◌, ◌&&◌, ◌||◌, ◌^◌, ℕ, suc, Bool, true, false, List, [], ◌∷◌, Option, Some, None, is_some, nat_lt, cond, refl, sym, ap, ◌∙◌, subst, inl, inr, arith}
use Rattle.std.proofs.lemmas.Bool.{cases_eq, cases_lt, eq-eqb, ne_eqb, lt-ltb, le-ltb}
use Rattle.std.proofs.Math.Numerals.{add-one}
use Rattle.std.specs.Int.Bits.{bit_or, or_zero_l}
use Rattle.std.specs.Option.{option_map}
use Rattle.bgp_attr.specs.PathAttributes.{PathAttributes}
use Rattle.bgp_conf.specs.Configuration.{Configuration, peer_at}
use Rattle.bgp_conf.specs.declared.conf.ConfiguredPeer.{ConfiguredPeer}
use Rattle.bgp_fsm.specs.SessionTable.{effects_of}
use Rattle.bgp_fsm.specs.TimerMoments.{has_ended, stopped}
use Rattle.bgp_fsm.specs.declared.input.Input.{Input}
use Rattle.bgp_fsm.specs.declared.input.Input.TheVariants.{Expires}
use Rattle.bgp_fsm.specs.declared.session.Session.{Session}
use Rattle.bgp_fsm.specs.declared.timers.Timer.{Timer}
use Rattle.bgp_fsm.specs.declared.timers.Timer.TheVariants.{Hold, ConnectRetry, IdleHold, Keepalive}
use Rattle.bgp_peer.specs.SessionInputs as happens
use Rattle.bgp_peer.specs.SessionInputs.{Signalled, Ticked, ending, endings, moment_of, session, ticked, timers}
use Rattle.net_prefix.specs.declared.prefix.Prefix.{Prefix}
use Rattle.runs.specs.Agreement.{EndsAll, EndsTimers, Holds, HoldsBy, SlotAgrees}
use Rattle.runs.specs.Choices.{choices_cached, choices_endings, choices_in, choices_to}
use Rattle.speaker.specs.Chosen.{Chooses}
use Rattle.routing.specs.Linked.{Linked}
use Rattle.speaker.specs.Moves.{Moves}
use Rattle.runs.specs.Runs.{cache_history, Run, turn, Tick_call, configuration_of, history, opened_by, opened_to, opens_by, report_of}
use Rattle.runs.specs.SpeakerState.{SpeakerState}
use Rattle.routing.specs.Tables.{link_at, peer_route_at}
use Rattle.runs.specs.declared.config.Config.{Config}
use Rattle.speaker.proofs.Commands.{signalled_by}
use Rattle.rtr_session.specs.SessionHistory as cached
use Rattle.runs.proofs.Moments.{endings_stay}
use Rattle.runs.proofs.SlotStates.{vacant_from, vacant_or}

-- Timers that end at a moment, as the histories of the slots have it.

-- the histories may be written otherwise
pub by_same : (config : Config) (conf : Configuration) (now : ℕ) (k : List cached.Event) (h1 h2 : ℕ → List happens.Event) (m1 m2 : ℕ) (s : SpeakerState) → ((t : ℕ) → h2 t ≡ h1 t) → m1 ≤ m2
    → HoldsBy config conf now k h1 m1 s → HoldsBy config conf now k h2 m2 s
by_same config conf now k h1 h2 m1 m2 s same few h = record {
  config_is = h.config_is;
  moment = h.moment;
  conf = h.conf;
  cache = h.cache;
  payloads = h.payloads;
  peers = h.peers;
  slots = λ t. let P : List happens.Event → Type 0 = λ x. SlotAgrees config (peer_at s.conf t) (link_at s.links t) (peer_route_at s.adj_in t) x in subst P (sym (same t)) (h.slots t);
  networks = h.networks;
  kept = h.kept;
  chosen = let so_far = h.chosen in omega (arith, so_far, few);
}

-- where no timer runs, none ends
none_ends : (timer : Timer) (now : ℕ) → has_ended timer now stopped ≡ false
none_ends Hold now = refl
none_ends ConnectRetry now = refl
none_ends IdleHold now = refl
none_ends Keepalive now = refl

-- no timer of a slot that isn't there ends
vacant_stays : (config : Config) (found : Option ConfiguredPeer) (linked : Option Linked) (routes : Prefix → Option PathAttributes) (h : List happens.Event) (timer : Timer) (now : ℕ) → SlotAgrees config found linked routes h → linked ≡ None
    → has_ended timer now (session h).timers ≡ false
vacant_stays config found linked routes h timer now a none =
    ap (has_ended timer now) (a.vacant (vacant_from h (sym a.there ∙ ap is_some none))).1 ∙ none_ends timer now

-- a timer that hasn't ended: nothing happens
quiet : (b : Bool) (h : List happens.Event) (input : Input) → b ≡ false → cond b (Signalled input ∷ h) h ≡ h
quiet b h input is = rw is refl

either_same : (b : Bool) (x y : List happens.Event) → x ≡ y → cond b x y ≡ y
either_same true x y same = same
either_same false x y same = refl

pub ends_none : (slot : ℕ) (timer : Timer) (opened : Bool) (s : SpeakerState) → opened ≡ false
    → ((config : Config) (conf : Configuration) (k : List cached.Event) (histories : ℕ → List happens.Event) (most : ℕ) → HoldsBy config conf s.moment k histories most s → has_ended timer s.moment (session (histories slot)).timers ≡ false)
    → EndsTimers (timer ∷ []) slot opened s s
ends_none slot timer opened s is runs config conf k histories most moment h =
    let on : has_ended timer s.moment (session (histories slot)).timers ≡ false = runs config conf k histories most h in (
      by_same config conf s.moment k histories (λ t. cond (t == slot) (ending timer s.moment (histories t)) (histories t)) most (most + choices_endings (timer ∷ []) s.moment (histories slot)) s same (omega arith) h,
      is ∙ rw on refl,
    )
  where
    same : (t : ℕ) → cond (t == slot) (ending timer s.moment (histories t)) (histories t) ≡ histories t
    same t = elim (cases_eq t slot) [
      | inl this ↦ either_same (t == slot) (ending timer s.moment (histories t)) (histories t) (subst (λ x. ending timer s.moment (histories x) ≡ histories x) (sym this) (quiet _ (histories slot) (Expires timer) (runs config conf k histories most h)))
      | inr other ↦ rw (ne_eqb t slot other) refl
    ]

-- the slot isn't there
pub ends_vacant : (slot : ℕ) (timer : Timer) (opened : Bool) (s : SpeakerState) → opened ≡ false → link_at s.links slot ≡ None → EndsTimers (timer ∷ []) slot opened s s
ends_vacant slot timer opened s is none =
    ends_none slot timer opened s is (λ config conf k histories most h. vacant_stays config (peer_at s.conf slot) (link_at s.links slot) (peer_route_at s.adj_in slot) (histories slot) timer s.moment (h.slots slot) none)

-- the timer hasn't ended
pub ends_later : (slot : ℕ) (timer : Timer) (opened : Bool) (l : Linked) (s : SpeakerState) → opened ≡ false → link_at s.links slot ≡ Some l → has_ended timer s.moment l.peer.session.timers ≡ false → EndsTimers (timer ∷ []) slot opened s s
ends_later slot timer opened l s is linked runs =
    ends_none slot timer opened s is (λ config conf k histories most h. ap (λ (x : Session). has_ended timer s.moment x.timers) (sym ((h.slots slot).link l linked).peer.session) ∙ runs)

-- it has
pub ends_now : (slot : ℕ) (timer : Timer) (opened : Bool) (l : Linked) (old new : SpeakerState) → link_at old.links slot ≡ Some l → has_ended timer old.moment l.peer.session.timers ≡ true
    → Moves slot l (Expires timer) old new → Chooses slot (effects_of (Expires timer) l.peer.session).left old new → opened ≡ (effects_of (Expires timer) l.peer.session).opened → EndsTimers (timer ∷ []) slot opened old new
ends_now slot timer opened l old new linked runs moves chooses is config conf k histories most moment h =
    let session_is : l.peer.session ≡ session (histories slot) = ((h.slots slot).link l linked).peer.session in
    let on : has_ended timer old.moment (session (histories slot)).timers ≡ true = ap (λ (x : Session). has_ended timer old.moment x.timers) (sym session_is) ∙ runs in
    let peer = configured_at (peer_at old.conf slot) (link_at old.links slot) (peer_route_at old.adj_in slot) config (histories slot) (h.slots slot) on in
    let so_far = h.chosen in (
      signalled_by config conf conf old.moment old.moment k k histories (λ t. cond (t == slot) (ending timer old.moment (histories t)) (histories t)) most (most + choices_endings (timer ∷ []) old.moment (histories slot)) slot l (Expires timer) old new h refl refl refl moment peer.0 peer.1 (λ x. refl) linked
          refl (λ e. cc) moves (same on) chooses most so_far (rw on (omega arith)),
      is ∙ ap (λ (x : Session). (effects_of (Expires timer) x).opened) session_is ∙ rw on (sym (or_false (effects_of (Expires timer) (session (histories slot))).opened)),
    )
  where
    or_false : (b : Bool) → (b || false) ≡ b
    or_false true = refl
    or_false false = refl

    configured_at : (found : Option ConfiguredPeer) (there : Option Linked) (routes : Prefix → Option PathAttributes) (config : Config) (k : List happens.Event) → SlotAgrees config found there routes k → has_ended timer old.moment (session k).timers ≡ true
        → (peer : ConfiguredPeer) × (found ≡ Some peer)
    configured_at found there routes config k a on = elim (vacant_or config found there routes k a) [
      | inl peer ↦ peer
      | inr none ↦ let never = sym on ∙ ap (has_ended timer old.moment) (a.vacant none).1 ∙ none_ends timer old.moment in absurd (cc)
    ]

    same : has_ended timer old.moment (session (histories slot)).timers ≡ true → (t : ℕ) → cond (t == slot) (ending timer old.moment (histories t)) (histories t) ≡ cond (t == slot) (Signalled (Expires timer) ∷ histories t) (histories t)
    same on t = elim (cases_eq t slot) [
      | inl this ↦ subst (λ x. cond (x == slot) (ending timer old.moment (histories x)) (histories x) ≡ cond (x == slot) (Signalled (Expires timer) ∷ histories x) (histories x)) (sym this) (rw on refl)
      | inr other ↦ rw (ne_eqb t slot other) refl
    ]

-- one timer after another
pub ends_more : (timer : Timer) (more : List Timer) (slot : ℕ) (first later : Bool) (old mid new : SpeakerState) → EndsTimers (timer ∷ []) slot first old mid → EndsTimers more slot later mid new → EndsTimers (timer ∷ more) slot (first || later) old new
ends_more timer more slot first later old mid new one rest config conf k histories most moment h =
    let before = one config conf k histories most moment h in
    let same : mid.moment ≡ old.moment = before.0.moment in
    let between : ℕ → List happens.Event = λ t. cond (t == slot) (ending timer old.moment (histories t)) (histories t) in
    let here : between slot ≡ ending timer old.moment (histories slot) = rw (eq-eqb slot slot refl) refl in
    let R : ℕ → Type 0 = λ now. HoldsBy config conf now k between (most + choices_endings (timer ∷ []) old.moment (histories slot)) mid in
    let after = rest config conf k between (most + choices_endings (timer ∷ []) old.moment (histories slot)) (ap moment_of here ∙ endings_stay (timer ∷ []) old.moment (histories slot) ∙ moment ∙ sym same) (subst R (sym same) before.0) in
    let N : ℕ → Type 0 = λ now. HoldsBy config conf now k (λ t. cond (t == slot) (endings more now (between t)) (between t)) (most + choices_endings (timer ∷ []) old.moment (histories slot) + choices_endings more now (between slot)) new
    × (later ≡ opens_by more now (between slot)) in
    let then_after = subst N same after in
    let choices : choices_endings more old.moment (between slot) ≡ choices_endings more old.moment (ending timer old.moment (histories slot)) = ap (choices_endings more old.moment) here in (
      by_same config conf old.moment k (λ t. cond (t == slot) (endings more old.moment (between t)) (between t)) (λ t. cond (t == slot) (endings (timer ∷ more) old.moment (histories t)) (histories t))
          (most + choices_endings (timer ∷ []) old.moment (histories slot) + choices_endings more old.moment (between slot)) (most + choices_endings (timer ∷ more) old.moment (histories slot)) new (λ t. joined t (t == slot)) (omega (arith, choices)) then_after.0,
      opens (has_ended timer old.moment (session (histories slot)).timers && (effects_of (Expires timer) (session (histories slot))).opened) first later (opens_by more old.moment (ending timer old.moment (histories slot))) before.1 (then_after.1 ∙ ap (opens_by more old.moment) here),
    )
  where
    joined : (t : ℕ) (b : Bool) → cond b (endings (timer ∷ more) old.moment (histories t)) (histories t) ≡ cond b (endings more old.moment (cond b (ending timer old.moment (histories t)) (histories t))) (cond b (ending timer old.moment (histories t)) (histories t))
    joined t true = refl
    joined t false = refl

    opens : (a first later b : Bool) → first ≡ (a || false) → later ≡ b → (first || later) ≡ (a || b)
    opens true first later b is so = rw is refl
    opens false first later b is so = rw (is, so) refl

-- all four
pub ends_four : (slot : ℕ) (hold connect_retry idle_hold keepalive opened : Bool) (s0 s1 s2 s3 s4 : SpeakerState) → EndsTimers (Hold ∷ []) slot hold s0 s1 → EndsTimers (ConnectRetry ∷ []) slot connect_retry s1 s2
    → EndsTimers (IdleHold ∷ []) slot idle_hold s2 s3 → EndsTimers (Keepalive ∷ []) slot keepalive s3 s4 → opened ≡ (hold || connect_retry || idle_hold || keepalive) → EndsTimers timers slot opened s0 s4
ends_four slot hold connect_retry idle_hold keepalive opened s0 s1 s2 s3 s4 first second third fourth is =
    subst (λ o. EndsTimers timers slot o s0 s4) (sym (is ∙ grouped hold connect_retry idle_hold keepalive))
    (ends_more Hold (ConnectRetry ∷ IdleHold ∷ Keepalive ∷ []) slot hold (connect_retry || (idle_hold || keepalive)) s0 s1 s4 first
    (ends_more ConnectRetry (IdleHold ∷ Keepalive ∷ []) slot connect_retry (idle_hold || keepalive) s1 s2 s4 second
    (ends_more IdleHold (Keepalive ∷ []) slot idle_hold keepalive s2 s3 s4 third fourth)))
  where
    grouped : (a b c d : Bool) → (a || b || c || d) ≡ (a || (b || (c || d)))
    grouped true b c d = refl
    grouped false true c d = refl
    grouped false false true d = refl
    grouped false false false d = refl

-- the slots below one have had the moment, the others not yet
pub record HasTicked (first : SpeakerState) (slot opened : ℕ) (s : SpeakerState) : Type 0 where
  pub counted : s.chosen_before ≡ first.chosen_before
  pub rises : first.chosen ≤ s.chosen
  pub holds : (config : Config) (conf : Configuration) (k : List cached.Event) (histories : ℕ → List happens.Event) (most : ℕ) → HoldsBy config conf first.moment k (λ t. Ticked first.moment ∷ histories t) most first
      → HoldsBy config conf first.moment k (λ t. cond (nat_lt t slot) (ticked first.moment (histories t)) (Ticked first.moment ∷ histories t)) (most + choices_to histories first.moment slot) s
      × (opened ≡ opened_to histories first.moment slot)

pub HasTicked-start : (first : SpeakerState) → HasTicked first 0 0 first
HasTicked-start first = record {
  counted = refl;
  rises = omega arith;
  holds = λ config conf k histories most start. (by_same config conf first.moment k (λ t. Ticked first.moment ∷ histories t) (λ t. cond (nat_lt t 0) (ticked first.moment (histories t)) (Ticked first.moment ∷ histories t)) most (most + 0) first (λ t. rw (le-ltb t 0 (omega arith)) refl) (omega arith) start, refl);
}

-- with one more slot
reached : (now slot t : ℕ) (histories : ℕ → List happens.Event) (so_far : ℕ → List happens.Event) → ((x : ℕ) → so_far x ≡ cond (nat_lt x slot) (ticked now (histories x)) (Ticked now ∷ histories x))
    → cond (nat_lt t (suc slot)) (ticked now (histories t)) (Ticked now ∷ histories t) ≡ cond (t == slot) (endings timers now (so_far t)) (so_far t)
reached now slot t histories so_far is = elim (cases_eq t slot) [
  | inl same ↦ subst (λ x. cond (nat_lt x (suc slot)) (ticked now (histories x)) (Ticked now ∷ histories x) ≡ cond (x == slot) (endings timers now (so_far x)) (so_far x)) (sym same) here
  | inr other ↦ elim (cases_lt t slot) [
    | inl low ↦ rw (ne_eqb t slot other, is t, lt-ltb t slot low, lt-ltb t (suc slot) (omega (arith, low))) refl
    | inr high ↦ rw (ne_eqb t slot other, is t, le-ltb t slot high, le-ltb t (suc slot) (omega (arith, high, other))) refl
  ]
]
  where
    at : so_far slot ≡ Ticked now ∷ histories slot
    at = is slot ∙ rw (le-ltb slot slot (omega arith)) refl

    here : cond (nat_lt slot (suc slot)) (ticked now (histories slot)) (Ticked now ∷ histories slot) ≡ cond (slot == slot) (endings timers now (so_far slot)) (so_far slot)
    here = rw (lt-ltb slot (suc slot) (omega arith), eq-eqb slot slot refl) (ap (endings timers now) (sym at))

bits : (slot opened before : ℕ) (b : Bool) → opened ≡ before → cond b (bit_or (2 ^ slot) opened) opened ≡ bit_or (cond b (2 ^ slot) 0) before
bits slot opened before true so = ap (bit_or (2 ^ slot)) so
bits slot opened before false so = so ∙ sym (or_zero_l before)

pub HasTicked-more : (first : SpeakerState) (slot opened more : ℕ) (ended : Bool) (s new : SpeakerState) → HasTicked first slot opened s → EndsTimers timers slot ended s new → new.chosen_before ≡ s.chosen_before → s.chosen ≤ new.chosen
    → more ≡ cond ended (bit_or (2 ^ slot) opened) opened → HasTicked first (slot + 1) more new
HasTicked-more first slot opened more ended s new h ends counted rises is = subst (λ n. HasTicked first n more new) (sym (add-one slot)) (record {
  counted = counted ∙ h.counted;
  rises = let before = h.rises in omega (arith, before, rises);
  holds = λ config conf k histories most start.
      let before = h.holds config conf k histories most start in
      let same : s.moment ≡ first.moment = before.0.moment in
      let so_far : ℕ → List happens.Event = λ t. cond (nat_lt t slot) (ticked first.moment (histories t)) (Ticked first.moment ∷ histories t) in
      let here : so_far slot ≡ Ticked first.moment ∷ histories slot = rw (le-ltb slot slot (omega arith)) refl in
      let R : ℕ → Type 0 = λ now. HoldsBy config conf now k so_far (most + choices_to histories first.moment slot) s in
      let after = ends config conf k so_far (most + choices_to histories first.moment slot) (ap moment_of here ∙ sym same) (subst R (sym same) before.0) in
      let N : ℕ → Type 0 = λ now. HoldsBy config conf now k (λ t. cond (t == slot) (endings timers now (so_far t)) (so_far t)) (most + choices_to histories first.moment slot + choices_endings timers now (so_far slot)) new × (ended ≡ opens_by timers now (so_far slot)) in
      let then_after = subst N same after in
      let choices : choices_endings timers first.moment (so_far slot) ≡ choices_endings timers first.moment (Ticked first.moment ∷ histories slot) = ap (choices_endings timers first.moment) here in
      let opens : ended ≡ opens_by timers first.moment (Ticked first.moment ∷ histories slot) = then_after.1 ∙ ap (opens_by timers first.moment) here in (
        by_same config conf first.moment k (λ t. cond (t == slot) (endings timers first.moment (so_far t)) (so_far t)) (λ t. cond (nat_lt t (suc slot)) (ticked first.moment (histories t)) (Ticked first.moment ∷ histories t))
            (most + choices_to histories first.moment slot + choices_endings timers first.moment (so_far slot)) (most + choices_to histories first.moment (suc slot)) new (λ t. reached first.moment slot t histories so_far (λ x. refl)) (omega (arith, choices)) then_after.0,
        is ∙ ap (λ b. cond b (bit_or (2 ^ slot) opened) opened) opens ∙ bits slot opened (opened_to histories first.moment slot) (opens_by timers first.moment (Ticked first.moment ∷ histories slot)) before.1,
      );
})

-- where no timer runs, a moment ends none
quiet_endings : (ts : List Timer) (now : ℕ) (h : List happens.Event) → (session h).timers ≡ stopped → endings ts now h ≡ h
quiet_endings [] now h none = refl
quiet_endings (timer ∷ ts) now h none =
    ap (endings ts now) (quiet (has_ended timer now (session h).timers) h (Expires timer) (ap (has_ended timer now) none ∙ none_ends timer now)) ∙ quiet_endings ts now h none

not_there : (found : Option Linked) (Q : Type 0) → ((l : Linked) → found ≡ Some l → Q) → (Q → ⊥) → found ≡ None
not_there None Q some never = refl
not_there (Some l) Q some never = absurd (never (some l refl))

-- all slots have had it: behind the last there is none
pub HasTicked-end : (first : SpeakerState) (opened : ℕ) (s : SpeakerState) → HasTicked first 64 opened s → EndsAll opened first s
HasTicked-end first opened s h config conf k histories most start =
    let all = h.holds config conf k histories most start in
    (by_same config conf first.moment k (λ t. cond (nat_lt t 64) (ticked first.moment (histories t)) (Ticked first.moment ∷ histories t)) (λ t. ticked first.moment (histories t)) (most + choices_to histories first.moment 64) (most + choices_to histories first.moment 64) s done (omega arith) all.0, all.1)
  where
    none : (t : ℕ) → 64 ≤ t → link_at first.links t ≡ None
    none t over = not_there (link_at first.links t) (t < 64) (λ l is. start.kept.below t l.peer.session (ap (option_map (λ (x : Linked). x.peer.session)) is)) (λ low. omega (arith, low, over))

    done : (t : ℕ) → ticked first.moment (histories t) ≡ cond (nat_lt t 64) (ticked first.moment (histories t)) (Ticked first.moment ∷ histories t)
    done t = elim (cases_lt t 64) [
      | inl low ↦ rw (lt-ltb t 64 low) refl
      | inr over ↦
          let a = start.slots t in
          rw (le-ltb t 64 over) (quiet_endings timers first.moment (Ticked first.moment ∷ histories t) (a.vacant (vacant_from (Ticked first.moment ∷ histories t) (sym a.there ∙ ap is_some (none t over)))).1)
    ]

-- a moment comes, to the cache session first
pub ticks : (config : Config) (r : Run) (now opened : ℕ) (mid new : SpeakerState) → mid.moment ≡ now
    → HoldsBy config (configuration_of config r) now (cache_history (turn (Tick_call now) [] ∷ r)) (λ t. Ticked now ∷ history config t r) (choices_cached config r (cache_history r) (cached.Ticked now)) mid → EndsAll opened mid new
    → Holds config (turn (Tick_call now) [] ∷ r) new × (opened ≡ opened_by config r (Tick_call now))
ticks config r now opened mid new at here all =
    let k : List cached.Event = cache_history (turn (Tick_call now) [] ∷ r) in
    let most : ℕ = choices_cached config r (cache_history r) (cached.Ticked now) in
    let P : ℕ → Type 0 = λ m. HoldsBy config (configuration_of config r) m k (λ t. Ticked m ∷ history config t r) most mid in
    let Q : ℕ → Type 0 = λ m. HoldsBy config (configuration_of config r) m k (λ t. ticked m (history config t r)) (most + choices_to (λ t. history config t r) m 64) new × (opened ≡ opened_to (λ t. history config t r) m 64) in
    let ended = subst Q at (all config (configuration_of config r) k (λ t. history config t r) most (subst P (sym at) here)) in
    (by_same config (configuration_of config r) now k (λ t. ticked now (history config t r)) (λ t. history config t (turn (Tick_call now) [] ∷ r)) (most + choices_to (λ t. history config t r) now 64) (choices_in config (turn (Tick_call now) [] ∷ r)) new (λ t. refl) (omega arith) ended.0, ended.1)

pub only_64 : (slot : ℕ) → slot ≤ 64 → 64 ≤ slot → slot ≡ 64
only_64 slot most least = omega (arith, most, least)

-- what it reports
pub report_ticked : (config : Config) (r : Run) (now opened starved : ℕ) (cache_opened cache_starved : Bool) → opened ≡ opened_by config r (Tick_call now) → starved ≡ 0 → cache_opened ≡ cached.opens_at config.cache_retry now (cache_history r) → cache_starved ≡ false
    → record { opened = opened; starved = starved; cache_opened = cache_opened; cache_starved = cache_starved } ≡ report_of config r (turn (Tick_call now) [])
report_ticked config r now opened starved cache_opened cache_starved is none cache_is cache_none = λ i. record { opened = is i; starved = none i; cache_opened = cache_is i; cache_starved = cache_none i }
