use Rattle.std.proofs.Common.{◌≡◌, ◌≢◌, ◌≤◌, ◌<◌, ◌+◌, ◌-◌, ◌^◌, ◌==◌, ℕ, Bool, true, false, List, Option, Some, None, length, Result, Ok, Err, OnOk, cond, refl, sym, ap, ◌∙◌, subst, inl, inr, arith, length-append}
use Rattle.std.specs.Option.{IsSome, option_and_then, option_map}
use Rattle.std.proofs.lemmas.Bool.{cases_eq, cases_lt, eq-eqb, ne_eqb}
use Rattle.bgp_conf.specs.Configuration.{peer_at}
use Rattle.bgp_conf.specs.declared.conf.ConfiguredPeer.{ConfiguredPeer}
use Rattle.bgp_fsm.specs.declared.state.State.TheVariants.{Established}
use Rattle.export_rules.specs.declared.export.ExportPeer.{ExportPeer}
use Rattle.net_prefix.specs.declared.prefix.Prefix.{Prefix}
use Rattle.rib_out.specs.Held.{HeldRoute, asked_at, held_at, is_among}
use Rattle.rib_out.proofs.HeldTables.{held_if_asked}
use Rattle.runs.specs.Agreement.{QueuesOn}
use Rattle.routing.specs.Export.{IsAccepted, export_in, export_peer_of}
use Rattle.speaker.specs.Export.{export_to}
use Rattle.routing.specs.Linked.{Linked}
use Rattle.speaker.specs.Serving.{AreServedBelow, IsServedBy, IsServedAt, IsShortAt, IsUpAt, HasRoomAt, IsOfSlot, IsStill, IsToldAt, Serves, Stand, IsDoneAt, IsDoneOf, IsGone, IsHad, is_standing}
use Rattle.routing.specs.Owing.{IsNext, announced_of, withdrawn_of}
use Rattle.runs.specs.Queueing.{ComesFirst}
use Rattle.routing.specs.Packing.{IsDue, IsFrom, IsNewTo, IsPack, most_named, room_beside}
use Rattle.routing.specs.Places.{rank_of}
use Rattle.routing.specs.Told.{update_saying, HasRoom}
use Rattle.runs.specs.SpeakerState.{SpeakerState}
use Rattle.routing.specs.Tables.{best_at, link_at}
use Rattle.speaker.proofs.Owing.{announced_news, gone_idle, had_idle}
use Rattle.speaker.proofs.Passing.{Accepts, QueuesOn-more, QueuesOn-none, queues_told, queues_still}
use Rattle.routing.proofs.Places.{reached, above_from_rank, same_from_rank, IsPlace, none_between}

-- the slots with one that has gone on
slot_only : (slot : ℕ) (old new : SpeakerState) (l : Linked) → ((s : ℕ) → link_at new.links s ≡ cond (s == slot) (Some l) (link_at old.links s)) → (s : ℕ) → s ≢ slot → link_at new.links s ≡ link_at old.links s
slot_only slot old new l puts s other = puts s ∙ rw (ne_eqb s slot other) refl

-- nothing has been queued yet
pub Serves-start : (slot : ℕ) (s : SpeakerState) → IsUpAt s slot → Serves slot s s
Serves-start slot s up = record {
  before = up.0;
  after = up.0;
  was = up.1;
  is = up.1;
  stood = up.2;
  up = up.2;
  grows = omega arith;
  gone = λ q none held. held;
  only = record { rest = refl; others = λ t other. refl };
  queues = QueuesOn-none s;
}

some_same : (a b : Linked) → Some a ≡ Some b → a ≡ b
some_same a b is = cc

-- the slot that is there
the_slot : (slot : ℕ) (s : SpeakerState) (a b : Linked) → link_at s.links slot ≡ Some a → link_at s.links slot ≡ Some b → a ≡ b
the_slot slot s a b was is = some_same a b (sym was ∙ is)

IsOfSlot-more : (slot : ℕ) (a b c : SpeakerState) → IsOfSlot slot a b → IsOfSlot slot b c → IsOfSlot slot a c
IsOfSlot-more slot a b c h k = record {
  rest = k.rest ∙ ap (λ (s : SpeakerState). record s { links = c.links }) h.rest;
  others = λ s other. k.others s other ∙ h.others s other;
}

-- the exports stay while only slots differ
pub export_kept : (old new : SpeakerState) → new ≡ record old { links = new.links } → export_to new ≡ export_to old
export_kept old new rest = ap (λ s. export_to s) rest

-- what was served is, while only another slot differs
served_still : (slot n : ℕ) (now new : SpeakerState) → IsOfSlot n now new → slot ≢ n → IsServedAt now slot → IsServedAt new slot
served_still slot n now new only other served peer l configured is =
    let exports : export_to new slot ≡ export_to now slot = ap (λ e. e slot) (export_kept now new only.rest) in
    let conf : peer_at new.conf slot ≡ peer_at now.conf slot = ap (λ (s : SpeakerState). peer_at s.conf slot) only.rest in
    λ established room q.
    let before = served peer l (sym conf ∙ configured) (sym (only.others slot other) ∙ is) established room q in
    (before.0 ∙ sym (ap (λ e. e q) exports), before.1)

pub below_still : (slot : ℕ) (now new : SpeakerState) → IsOfSlot slot now new → AreServedBelow now slot → AreServedBelow new slot
below_still slot now new only below t low = served_still t slot now new only (λ is. absurd (omega (arith, is, low))) (below t low)

pub Serves-more : (slot : ℕ) (a b c : SpeakerState) → Serves slot a b → Serves slot b c → Serves slot a c
Serves-more slot a b c h k =
    let same : k.before ≡ h.after = the_slot slot b k.before h.after k.was h.is in
    let exports : export_to b slot ≡ export_to a slot = ap (λ e. e slot) (export_kept a b h.only.rest) in
    record {
      before = h.before;
      after = k.after;
      was = h.was;
      is = k.is;
      stood = h.stood;
      up = k.up;
      grows = let later = rw same at k.grows in omega (arith, h.grows, later);
      gone = λ q none held. k.gone q (ap (λ e. e q) exports ∙ none) (rw same (h.gone q none held));
      only = IsOfSlot-more slot a b c h.only k.only;
      queues = QueuesOn-more a b c h.queues k.queues;
    }

-- the walk has come up to this prefix: this holds of all below it
pub record Walks (done : Prefix → Option (List ℕ) → Bool → Type 0) (slot : ℕ) (first : SpeakerState) (after : Option Prefix) (now : SpeakerState) : Type 0 where
  pub serves : Serves slot first now
  pub below : (q : Prefix) → rank_of q < reached after → IsDoneOf done serves.after q
  pub place : IsPlace after

pub Walks-start : (done : Prefix → Option (List ℕ) → Bool → Type 0) (slot : ℕ) (s : SpeakerState) → IsUpAt s slot → Walks done slot s None s
Walks-start done slot s up = record {
  serves = Serves-start slot s up;
  below = λ q under. absurd (omega (arith, under));
  place = tt;
}

-- all is done below the next prefix
done_before : {X : Type 0} (done : Prefix → Type 0) (there : Prefix → Option X) (after : Option Prefix) (p : Prefix)
    → ((q : Prefix) → there q ≡ None → done q) → ((q : Prefix) → rank_of q < reached after → done q) → IsNext there after (Some p)
    → (q : Prefix) → rank_of q < rank_of p → done q
done_before done there after p idle below next q under =
    elim (cases_lt (rank_of q) (reached after)) [
      | inl before ↦ below q before
      | inr behind ↦ idle q (none_between p q (there q) (next.2 q (above_from_rank after q behind)) under)
    ]

-- the next prefix needs nothing
pub Walks-kept : {X : Type 0} (done : Prefix → Option (List ℕ) → Bool → Type 0) (there : Prefix → Option X) (slot : ℕ) (first now : SpeakerState) (after : Option Prefix) (p : Prefix)
    → (h : Walks done slot first after now) → ((q : Prefix) → there q ≡ None → IsDoneOf done h.serves.after q) → IsNext there after (Some p)
    → rank_of p < 2 ^ 38 → IsDoneOf done h.serves.after p → Walks done slot first (Some p) now
Walks-kept done there slot first now after p h idle next place here = record {
  serves = h.serves;
  below = λ q under.
      elim (cases_lt (rank_of q) (rank_of p)) [
        | inl before ↦ done_before (IsDoneOf done h.serves.after) there after p idle h.below next q before
        | inr behind ↦
            let same : q ≡ p = same_from_rank q p (omega (arith, under, behind)) in
            subst (λ x. IsDoneOf done h.serves.after x) (sym same) here
      ];
  place = place;
}

gone_told : (b : Bool) (export is held : Option (List ℕ)) → (b ≡ true → is ≡ export) → is ≡ None → held ≡ None → cond b export held ≡ None
gone_told true export is held here none was = sym (here refl) ∙ none
gone_told false export is held here none was = was

done_told : (done : Prefix → Option (List ℕ) → Bool → Type 0) (q : Prefix) (b : Bool) (export held : Option (List ℕ)) (asked : Bool) → (b ≡ true → done q export false)
    → (b ≡ false → done q held asked) → done q (cond b export held) (cond b false asked)
done_told done q true export held asked here other = here refl
done_told done q false export held asked here other = other refl

-- what isn't held isn't asked for again
unasked : (table : List (Prefix × HeldRoute)) (q : Prefix) → held_at table q ≡ None → asked_at table q ≡ false
unasked table q none = by_test (asked_at table q) refl
  where
    by_test : (b : Bool) → asked_at table q ≡ b → b ≡ false
    by_test true is = let some = subst (λ o. IsSome o) none (held_if_asked table q is) in absurd (cc)
    by_test false is = refl

not_new : (l : Linked) (q : Prefix) (e : Option (List ℕ)) → held_at l.adj_out q ≡ e → asked_at l.adj_out q ≡ false → IsNewTo l q e → ⊥
not_new l q e held asked (inl other) = other held
not_new l q e held asked (inr is) = cc

-- where all below a prefix are done, what is told of it comes first
first_gone : (e : Option (List ℕ)) (p q : Prefix) (l : Linked) → IsNewTo l q e → (rank_of q < rank_of p → e ≡ None → held_at l.adj_out q ≡ None) → ComesFirst p None q e
first_gone None p q l news below =
    elim (cases_lt (rank_of q) (rank_of p)) [
      | inl low ↦ let gone = below low refl in absurd (not_new l q None gone (unasked l.adj_out q gone) news)
      | inr high ↦ high
    ]
first_gone (Some others) p q l news below = tt

first_had : (e : Option (List ℕ)) (octets : List ℕ) (p q : Prefix) (l : Linked) → IsNewTo l q e → (e ≡ None → held_at l.adj_out q ≡ None)
    → (rank_of q < rank_of p → (others : List ℕ) → e ≡ Some others → (held_at l.adj_out q ≡ Some others) × (asked_at l.adj_out q ≡ false)) → ComesFirst p (Some octets) q e
first_had None octets p q l news gone below = not_new l q None (gone refl) (unasked l.adj_out q (gone refl)) news
first_had (Some others) octets p q l news gone below =
    elim (cases_lt (rank_of q) (rank_of p)) [
      | inl low ↦ let had = below low others refl in absurd (not_new l q (Some others) had.0 had.1 news)
      | inr high ↦ high
    ]

-- the peer is told what it is owed of prefixes, of which the next one is the least
pub Walks-told : {X : Type 0} (done : Prefix → Option (List ℕ) → Bool → Type 0) (there : Prefix → Option X) (slot : ℕ) (first now new : SpeakerState) (after : Option Prefix) (p : Prefix) (named : List Prefix) (export : Option (List ℕ))
    → (h : Walks done slot first after now) → ((q : Prefix) → there q ≡ None → IsDoneOf done h.serves.after q) → IsNext there after (Some p)
    → rank_of p < 2 ^ 38 → HasRoomAt now slot → is_among p named ≡ true → ((q : Prefix) → is_among q named ≡ true → export_to now slot q ≡ export) → ((q : Prefix) → is_among q named ≡ true → done q export false)
    → Accepts now slot p export → IsToldAt slot named export now new
    → ((l : Linked) → link_at now.links slot ≡ Some l → IsPack (IsFrom p (IsDue (export_to now slot) export l)) (room_beside export) named)
    → ((q : Prefix) → IsNewTo h.serves.after q (export_to now slot q) → ComesFirst p export q (export_to now slot q)) → AreServedBelow first slot
    → Walks done slot first (Some p) new
unfolding Serves-more
Walks-told done there slot first now new after p named export h idle next place room among exported here accepts told packed order below =
    let same : told.before ≡ h.serves.after = the_slot slot now told.before h.serves.after told.was h.serves.is in
    let is : link_at new.links slot ≡ Some told.after = told.puts slot ∙ rw (eq-eqb slot slot refl) refl in
    let step : Serves slot now new = record {
      before = told.before;
      after = told.after;
      was = told.was;
      is = is;
      stood = rw same h.serves.up;
      up = rw told.told.peer (rw same h.serves.up);
      grows = rw told.told.peer (omega (arith, length-append told.before.peer.ring (update_saying named export)));
      gone = λ q none held. told.told.held q ∙ gone_told (is_among q named) export (export_to now slot q) (held_at told.before.adj_out q) (exported q) none held;
      only = record { rest = told.rest; others = slot_only slot now new told.after told.puts };
      queues = queues_told slot named p export now new told (rw same h.serves.up) (room told.before told.was) among (packed told.before told.was) accepts (λ q. rw same (order q)) (below_still slot first now h.serves.only below);
    } in
    record {
      serves = Serves-more slot first now new h.serves step;
      below = λ q under. rw (told.told.held q, told.told.asked q) (done_told done q (is_among q named) export (held_at told.before.adj_out q) (asked_at told.before.adj_out q) (here q) (λ other.
          elim (cases_lt (rank_of q) (rank_of p)) [
            | inl before ↦ rw same (done_before (IsDoneOf done h.serves.after) there after p idle h.below next q before)
            | inr behind ↦
                let is_it : q ≡ p = same_from_rank q p (omega (arith, under, behind)) in
                let there_it : is_among q named ≡ true = rw is_it among in absurd (cc)
          ]));
      place = place;
    }

-- the walk is over: this holds of all prefixes
pub Walks-end : {X : Type 0} (done : Prefix → Option (List ℕ) → Bool → Type 0) (there : Prefix → Option X) (slot : ℕ) (first now : SpeakerState) (after : Option Prefix)
    → (h : Walks done slot first after now) → ((q : Prefix) → there q ≡ None → IsDoneOf done h.serves.after q) → IsNext there after None → IsDoneAt done now slot
Walks-end done there slot first now after h idle next l is room q =
    let same : l ≡ h.serves.after = the_slot slot now l h.serves.after is h.serves.is in
    rw same (elim (cases_lt (rank_of q) (reached after)) [
      | inl before ↦ h.below q before
      | inr behind ↦ idle q (next q (above_from_rank after q behind))
    ])

-- there is no room left
pub Walks-full : (done : Prefix → Option (List ℕ) → Bool → Type 0) (slot : ℕ) (now : SpeakerState) (l : Linked) → link_at now.links slot ≡ Some l → (HasRoom l → ⊥) → IsDoneAt done now slot
Walks-full done slot now l there full x is room q = absurd (full (subst HasRoom (the_slot slot now x l is there) room))

-- the export to a slot that is configured
export_given_at : (s : SpeakerState) (slot : ℕ) (peer : ExportPeer) (found : Option ConfiguredPeer) → Some peer ≡ option_map (export_peer_of s.conf slot) found
    → (prefix : Prefix) → option_and_then (λ p. export_in s.conf (best_at s.loc_rib) s.adj_in (export_peer_of s.conf slot p) prefix) found ≡ export_in s.conf (best_at s.loc_rib) s.adj_in peer prefix
export_given_at s slot peer None is prefix = absurd (cc)
export_given_at s slot peer (Some p) is prefix = let same : peer ≡ export_peer_of s.conf slot p = cc in rw same refl

pub export_given : (s : SpeakerState) (slot : ℕ) (peer : ExportPeer) → Some peer ≡ option_map (export_peer_of s.conf slot) (peer_at s.conf slot) → (prefix : Prefix)
    → export_to s slot prefix ≡ export_in s.conf (best_at s.loc_rib) s.adj_in peer prefix
export_given s slot peer is prefix = export_given_at s slot peer (peer_at s.conf slot) is prefix

-- so it is while only slots differ
pub export_now : (first now : SpeakerState) (slot : ℕ) (peer : ExportPeer) → now ≡ record first { links = now.links } → Some peer ≡ option_map (export_peer_of first.conf slot) (peer_at first.conf slot)
    → (prefix : Prefix) → export_to first slot prefix ≡ export_in now.conf (best_at now.loc_rib) now.adj_in peer prefix
export_now first now slot peer rest is prefix = export_given first slot peer is prefix ∙ ap (λ (s : SpeakerState). export_in s.conf (best_at s.loc_rib) s.adj_in peer prefix) (sym rest)

mapped : {X Y : Type 0} (f : X → Y) (o : Option X) (y : Y) → Some y ≡ option_map f o → (x : X) × (o ≡ Some x)
mapped f None y is = absurd (cc)
mapped f (Some x) y is = (x, refl)

-- the slot is that of an Established peer
pub served_by : (slot : ℕ) (first now : SpeakerState) (peer : ExportPeer) → (h : Serves slot first now) → Some peer ≡ option_map (export_peer_of first.conf slot) (peer_at first.conf slot) → IsServedBy now slot h.after
served_by slot first now peer h is =
    let found = mapped (export_peer_of first.conf slot) (peer_at first.conf slot) peer is in
    record { peer = found.0; configured = ap (λ (s : SpeakerState). peer_at s.conf slot) h.only.rest ∙ found.1; linked = h.is; established = h.up }

pub gone_by : (slot : ℕ) (first now : SpeakerState) (l : Linked) → export_to now slot ≡ export_to first slot → (q : Prefix) → withdrawn_of (export_to now slot q) (held_at l.adj_out q) ≡ None
    → IsDoneOf (IsGone (export_to first slot)) l q
gone_by slot first now l exports q idle = subst (λ e. IsDoneOf (IsGone e) l q) exports (gone_idle (export_to now slot) q (held_at l.adj_out q) (asked_at l.adj_out q) idle)

-- what is held and isn't exported is withdrawn
pub Walks-withdrawn : (slot : ℕ) (first now new : SpeakerState) (after : Option Prefix) (p : Prefix) (named : List Prefix) → (h : Walks (IsGone (export_to first slot)) slot first after now)
    → IsNext (λ q. withdrawn_of (export_to now slot q) (held_at h.serves.after.adj_out q)) after (Some p) → rank_of p < 2 ^ 38 → HasRoomAt now slot → IsToldAt slot named None now new → is_among p named ≡ true
    → ((l : Linked) → link_at now.links slot ≡ Some l → IsPack (IsFrom p (IsDue (export_to now slot) None l)) most_named named) → AreServedBelow first slot
    → Walks (IsGone (export_to first slot)) slot first (Some p) new
Walks-withdrawn slot first now new after p named h next place room told among packed below =
    let exports : export_to now slot ≡ export_to first slot = ap (λ e. e slot) (export_kept first now h.serves.only.rest) in
    Walks-told (IsGone (export_to first slot)) (λ q. withdrawn_of (export_to now slot q) (held_at h.serves.after.adj_out q)) slot first now new after p named None h
    (gone_by slot first now h.serves.after exports) next place room among (λ q there. ((packed told.before told.was).each q there).1.0) (λ q there missing. refl) (λ a some. absurd (cc)) told
    packed
    (λ q other. first_gone (export_to now slot q) p q h.serves.after other (λ low none.
    done_before (IsDoneOf (IsGone (export_to first slot)) h.serves.after) (λ x. withdrawn_of (export_to now slot x) (held_at h.serves.after.adj_out x)) after p
    (gone_by slot first now h.serves.after exports) h.below next q low (sym (ap (λ e. e q) exports) ∙ none))) below

-- the slot's peer is the configured one, while only slots differ
pub peer_now : (slot : ℕ) (first now : SpeakerState) (peer : ExportPeer) → now ≡ record first { links = now.links } → Some peer ≡ option_map (export_peer_of first.conf slot) (peer_at first.conf slot)
    → Some peer ≡ option_map (export_peer_of now.conf slot) (peer_at now.conf slot)
peer_now slot first now peer rest is = let conf : now.conf ≡ first.conf = ap (λ (s : SpeakerState). s.conf) rest in rw conf is

peer_given : (slot : ℕ) (first now : SpeakerState) (peer : ExportPeer) (q : ConfiguredPeer) → now ≡ record first { links = now.links }
    → Some peer ≡ option_map (export_peer_of first.conf slot) (peer_at first.conf slot) → peer_at now.conf slot ≡ Some q → peer ≡ export_peer_of now.conf slot q
peer_given slot first now peer q rest is configured =
    let found : Some peer ≡ Some (export_peer_of now.conf slot q) = peer_now slot first now peer rest is ∙ ap (option_map (export_peer_of now.conf slot)) configured in cc

-- what is exported is good to the slot's peer
accepts_given : (slot : ℕ) (first now : SpeakerState) (p : Prefix) (peer : ExportPeer) (octets : List ℕ) → now ≡ record first { links = now.links }
    → Some peer ≡ option_map (export_peer_of first.conf slot) (peer_at first.conf slot) → IsAccepted now.loc_rib now.adj_in peer p octets → Accepts now slot p (Some octets)
accepts_given slot first now p peer octets rest is accepted a some q configured =
    let same : peer ≡ export_peer_of now.conf slot q = peer_given slot first now peer q rest is configured in
    let here : octets ≡ a = cc in
    subst (λ x. IsAccepted now.loc_rib now.adj_in x p a) same (subst (λ x. IsAccepted now.loc_rib now.adj_in peer p x) here accepted)

pub had_by : (slot : ℕ) (first now : SpeakerState) (l : Linked) → export_to now slot ≡ export_to first slot → (q : Prefix) → announced_of (export_to now slot q) (held_at l.adj_out q) (asked_at l.adj_out q) ≡ None
    → IsDoneOf (IsHad (export_to first slot)) l q
had_by slot first now l exports q idle = subst (λ e. IsDoneOf (IsHad e) l q) exports (had_idle (export_to now slot) q (held_at l.adj_out q) (asked_at l.adj_out q) idle)

-- the next announcement comes first of all that is new to the slot's peer
announced_first : (slot : ℕ) (first now : SpeakerState) (after : Option Prefix) (p : Prefix) (octets : List ℕ) → (h : Walks (IsHad (export_to first slot)) slot first after now)
    → IsNext (λ q. announced_of (export_to now slot q) (held_at h.serves.after.adj_out q) (asked_at h.serves.after.adj_out q)) after (Some p) → HasRoomAt now slot → IsDoneAt (IsGone (export_to first slot)) first slot
    → (q : Prefix) → IsNewTo h.serves.after q (export_to now slot q) → ComesFirst p (Some octets) q (export_to now slot q)
announced_first slot first now after p octets h next room gone q other =
    let later = room h.serves.after h.serves.is in
    let earlier : HasRoom h.serves.before = omega (arith, h.serves.grows, later) in
    let exports : export_to now slot ≡ export_to first slot = ap (λ e. e slot) (export_kept first now h.serves.only.rest) in
    first_had (export_to now slot q) octets p q h.serves.after other
    (λ none. let never = sym (ap (λ e. e q) exports) ∙ none in h.serves.gone q never (gone h.serves.before h.serves.was earlier q never))
    (λ low o have. done_before (IsDoneOf (IsHad (export_to first slot)) h.serves.after) (λ x. announced_of (export_to now slot x) (held_at h.serves.after.adj_out x) (asked_at h.serves.after.adj_out x)) after p
    (had_by slot first now h.serves.after exports) h.below next q low o (sym (ap (λ e. e q) exports) ∙ have))

-- what is exported and isn't held just so is announced
pub Walks-announced : (slot : ℕ) (first now new : SpeakerState) (after : Option Prefix) (p : Prefix) (named : List Prefix) (peer : ExportPeer) (octets : List ℕ) → (h : Walks (IsHad (export_to first slot)) slot first after now)
    → Some peer ≡ option_map (export_peer_of first.conf slot) (peer_at first.conf slot) → IsNext (λ q. announced_of (export_to now slot q) (held_at h.serves.after.adj_out q) (asked_at h.serves.after.adj_out q)) after (Some p) → rank_of p < 2 ^ 38 → HasRoomAt now slot
    → IsAccepted now.loc_rib now.adj_in peer p octets → IsToldAt slot named (Some octets) now new → is_among p named ≡ true
    → ((q : Prefix) → is_among q named ≡ true → export_to now slot q ≡ Some octets)
    → ((l : Linked) → link_at now.links slot ≡ Some l → IsPack (IsFrom p (IsDue (export_to now slot) (Some octets) l)) (most_named - length octets) named)
    → IsDoneAt (IsGone (export_to first slot)) first slot → AreServedBelow first slot → Walks (IsHad (export_to first slot)) slot first (Some p) new
Walks-announced slot first now new after p named peer octets h is next place room accepted told among exported packed gone below =
    let exports : export_to now slot ≡ export_to first slot = ap (λ e. e slot) (export_kept first now h.serves.only.rest) in
    Walks-told (IsHad (export_to first slot)) (λ q. announced_of (export_to now slot q) (held_at h.serves.after.adj_out q) (asked_at h.serves.after.adj_out q)) slot first now new after p named (Some octets) h (had_by slot first now h.serves.after exports) next place room
    among exported (λ q there others some. (sym (exported q there) ∙ ap (λ e. e q) exports ∙ some, refl))
    (accepts_given slot first now p peer octets h.serves.only.rest is accepted) told
    packed (announced_first slot first now after p octets h next room gone) below

-- what is announced is new to the slot's peer
pub announced_is_new : (slot : ℕ) (first now : SpeakerState) (after : Option Prefix) (p : Prefix) (peer : ExportPeer) (octets : List ℕ) → (h : Serves slot first now)
    → Some peer ≡ option_map (export_peer_of first.conf slot) (peer_at first.conf slot) → export_in now.conf (best_at now.loc_rib) now.adj_in peer p ≡ Some octets
    → IsNext (λ q. announced_of (export_to now slot q) (held_at h.after.adj_out q) (asked_at h.after.adj_out q)) after (Some p)
    → (l : Linked) → link_at now.links slot ≡ Some l → IsNewTo l p (Some octets)
announced_is_new slot first now after p peer octets h is some next l linked =
    let exported : export_to now slot p ≡ Some octets = ap (λ e. e slot p) (export_kept first now h.only.rest) ∙ export_now first now slot peer h.only.rest is p ∙ some in
    subst (λ x. IsNewTo x p (Some octets)) (the_slot slot now h.after l h.is linked) (announced_news (export_to now slot p) (held_at h.after.adj_out p) (asked_at h.after.adj_out p) octets exported next.0)

-- where nothing is exported there is nothing to be had
pub Walks-had : (slot : ℕ) (first now : SpeakerState) (after : Option Prefix) (p : Prefix) (peer : ExportPeer) → (h : Walks (IsHad (export_to first slot)) slot first after now)
    → Some peer ≡ option_map (export_peer_of first.conf slot) (peer_at first.conf slot) → IsNext (λ q. announced_of (export_to now slot q) (held_at h.serves.after.adj_out q) (asked_at h.serves.after.adj_out q)) after (Some p) → rank_of p < 2 ^ 38
    → export_in now.conf (best_at now.loc_rib) now.adj_in peer p ≡ None → Walks (IsHad (export_to first slot)) slot first (Some p) now
Walks-had slot first now after p peer h is next place none =
    let exports : export_to now slot ≡ export_to first slot = ap (λ e. e slot) (export_kept first now h.serves.only.rest) in
    Walks-kept (IsHad (export_to first slot)) (λ q. announced_of (export_to now slot q) (held_at h.serves.after.adj_out q) (asked_at h.serves.after.adj_out q)) slot first now after p h (had_by slot first now h.serves.after exports) next place
    (λ octets some. let never = sym (export_now first now slot peer h.serves.only.rest is p ∙ none) ∙ some in absurd (cc))

-- a refused growth leaves the walk where it is
pub Serves-still : (slot : ℕ) (first now new : SpeakerState) → Serves slot first now → IsStill now new → Serves slot first new
Serves-still slot first now new h still =
    Serves-more slot first now new h (record {
      before = h.after;
      after = h.after;
      was = h.is;
      is = still.links slot ∙ h.is;
      stood = h.up;
      up = h.up;
      grows = omega arith;
      gone = λ q none held. held;
      only = record { rest = still.rest; others = λ s other. still.links s };
      queues = queues_still now new still;
    })

-- what memory is refused to is exported, and one prefix of it isn't held just so
pub short_still : (slot : ℕ) (first now new : SpeakerState) (after : Option Prefix) (p : Prefix) (named : List Prefix) (peer : ExportPeer) (octets : List ℕ) → (h : Walks (IsHad (export_to first slot)) slot first after now) → slot < 64 → HasRoomAt now slot
    → Some peer ≡ option_map (export_peer_of first.conf slot) (peer_at first.conf slot)
    → IsNext (λ q. announced_of (export_to now slot q) (held_at h.serves.after.adj_out q) (asked_at h.serves.after.adj_out q)) after (Some p) → IsDoneAt (IsGone (export_to first slot)) first slot → is_among p named ≡ true
    → ((l : Linked) → link_at now.links slot ≡ Some l → IsPack (IsFrom p (IsDue (export_to now slot) (Some octets) l)) (most_named - length octets) named)
    → ((l : Linked) → link_at now.links slot ≡ Some l → (q : Prefix) × (is_among q named ≡ true) × (export_to now slot q ≡ Some octets) × (held_at l.adj_out q ≢ Some octets))
    → IsStill now new → AreServedBelow first slot → IsShortAt new slot
short_still slot first now new after p named peer octets h within room is next gone among packed other still below =
    let by = served_by slot first now peer h.serves is in
    let one = other h.serves.after h.serves.is in
    let kept : export_to new ≡ export_to now = export_kept now new still.rest in
    record {
      peer = by.peer;
      linked = h.serves.after;
      octets = octets;
      named = named;
      least = p;
      prefix = one.0;
      within = within;
      configured = ap (λ (s : SpeakerState). peer_at s.conf slot) still.rest ∙ by.configured;
      is = still.links slot ∙ h.serves.is;
      up = h.serves.up;
      room = room h.serves.after h.serves.is;
      packed = subst (λ e. IsPack (IsFrom p (IsDue (e slot) (Some octets) h.serves.after)) (most_named - length octets) named) (sym kept) (packed h.serves.after h.serves.is);
      leads = among;
      first = subst (λ e. (q : Prefix) → IsNewTo h.serves.after q (e slot q) → ComesFirst p (Some octets) q (e slot q)) (sym kept) (announced_first slot first now after p octets h next room gone);
      among = one.1;
      exported = ap (λ e. e slot one.0) kept ∙ one.2;
      other = one.3;
      below = below_still slot now new (record { rest = still.rest; others = λ s other. still.links s }) (below_still slot first now h.serves.only below);
    }

-- the slot's session stood, and it stands
pub stand_served : (slot : ℕ) (a b : SpeakerState) → Serves slot a b → Stand a b
stand_served slot a b h s =
    elim (cases_eq s slot) [
      | inl same ↦ rw (same, h.was, h.is, h.stood, h.up) refl
      | inr other ↦ ap is_standing (h.only.others s other)
    ]

served_at : (export : Option (List ℕ)) (l : Linked) (q : Prefix) → (export ≡ None → held_at l.adj_out q ≡ None)
    → ((octets : List ℕ) → export ≡ Some octets → (held_at l.adj_out q ≡ Some octets) × (asked_at l.adj_out q ≡ false)) → (held_at l.adj_out q ≡ export) × (asked_at l.adj_out q ≡ false)
served_at None l q gone had = (gone refl, unasked l.adj_out q (gone refl))
served_at (Some octets) l q gone had = had octets refl

-- what isn't exported was gone behind the withdrawals, and what is exported is held behind the announcements
served : (slot : ℕ) (first mid now : SpeakerState) → (h : Serves slot first mid) → (k : Serves slot mid now) → IsDoneAt (IsGone (export_to first slot)) mid slot
    → IsDoneAt (IsHad (export_to mid slot)) now slot → IsServedAt now slot
served slot first mid now h k gone had peer l configured is established room q =
    let last : l ≡ k.after = the_slot slot now l k.after is k.is in
    let exports : export_to now slot ≡ export_to mid slot = ap (λ e. e slot) (export_kept mid now k.only.rest) in
    let before : export_to mid slot ≡ export_to first slot = ap (λ e. e slot) (export_kept first mid h.only.rest) in
    let later = rw last at room in
    let earlier : HasRoom k.before = omega (arith, k.grows, later) in
    served_at (export_to now slot q) l q
    (λ none. rw last (k.gone q (sym (ap (λ e. e q) exports) ∙ none) (gone k.before k.was earlier q (sym (ap (λ e. e q) before) ∙ sym (ap (λ e. e q) exports) ∙ none))))
    (λ octets some. had l is room q octets (sym (ap (λ e. e q) exports) ∙ some))

pub served_on : {T F : Type 0} (result : Result T F) (slot : ℕ) (first mid now : SpeakerState) → Serves slot first mid → Serves slot mid now → IsDoneAt (IsGone (export_to first slot)) mid slot
    → OnOk result (IsDoneAt (IsHad (export_to mid slot)) now slot) → OnOk result (IsServedAt now slot)
served_on (Ok done) slot first mid now h k gone had = served slot first mid now h k gone had
served_on (Err why) slot first mid now h k gone had = tt

-- a slot that isn't configured, or whose session isn't Established, is owed nothing
pub unserved : (s : SpeakerState) (slot : ℕ) → ((l : Linked) → link_at s.links slot ≡ Some l → l.peer.session.state ≢ Established) → IsServedAt s slot
unserved s slot down peer l configured is established = absurd (down l is established)

-- the slots below this one have been served
pub record AreServed (first now : SpeakerState) (n : ℕ) : Type 0 where
  pub stand : Stand first now
  pub rest : now ≡ record first { links = now.links }
  pub queues : QueuesOn first now
  pub served : (slot : ℕ) → slot < n → IsServedAt now slot

pub AreServed-start : (s : SpeakerState) → AreServed s s 0
AreServed-start s = record {
  stand = λ t. refl;
  rest = refl;
  queues = QueuesOn-none s;
  served = λ slot below. absurd (omega (arith, below));
}

pub AreServed-rest : (first now new : SpeakerState) (n : ℕ) → AreServed first now n → IsOfSlot n now new → new ≡ record first { links = new.links }
AreServed-rest first now new n h only = only.rest ∙ ap (λ (s : SpeakerState). record s { links = new.links }) h.rest

pub AreServed-more : (first now new : SpeakerState) (n : ℕ) → AreServed first now n → IsOfSlot n now new → Stand now new → QueuesOn now new → IsServedAt new n → AreServed first new (n + 1)
AreServed-more first now new n h only stand queues served = record {
  stand = λ s. stand s ∙ h.stand s;
  rest = AreServed-rest first now new n h only;
  queues = QueuesOn-more first now new h.queues queues;
  served = λ slot below.
      elim (cases_lt slot n) [
        | inl before ↦ served_still slot n now new only (λ is. absurd (omega (arith, is, before))) (h.served slot before)
        | inr behind ↦ subst (λ x. IsServedAt new x) (omega (arith, below, behind)) served
      ];
}

-- the walk over the slots is over: none stands behind the last one
pub served_all : (first now : SpeakerState) (n : ℕ) → AreServed first now n → ((s : ℕ) → n ≤ s → s < 64 → link_at first.links s ≡ None) → (slot : ℕ) → slot < 64 → IsServedAt now slot
served_all first now n h none slot within =
    elim (cases_lt slot n) [
      | inl before ↦ h.served slot before
      | inr behind ↦
          unserved now slot (λ l is up.
          let on : is_standing (link_at now.links slot) ≡ true = rw (is, up) refl in
          let off : is_standing (link_at now.links slot) ≡ false = h.stand slot ∙ ap is_standing (none slot (omega (arith, behind)) within) in cc)
    ]
