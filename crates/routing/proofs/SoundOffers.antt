use Rattle.std.proofs.Common.{◌≡◌, ◌≢◌, ◌==◌, ◌&&◌, ◌⊎◌, ℕ, Bool, true, false, List, Option, Some, None, cond, refl, sym, ap, ◌∙◌, subst, inl, inr}
use Rattle.std.specs.Borrow.{Bor}
use Rattle.std.specs.Option.{IfSome, option_map}
use Rattle.std.proofs.lemmas.Bool.{eqb-true}
use Rattle.bgp_attr.specs.PathAttributes.{PathAttributes}
use Rattle.bgp_conf.proofs.PolicyActions.{AddressesDiffer-changed, changed_conf, option_map-changed}
use Rattle.bgp_conf.specs.ConfAfter.{conf_after, exporting, importing}
use Rattle.bgp_conf.specs.declared.command.Command.TheVariants.{UseIn, UseOut}
use Rattle.policy.specs.PolicyNames.{name_of}
use Rattle.bgp_conf.specs.Configuration.{AddressesDiffer, Configuration, peer_at}
use Rattle.bgp_conf.specs.PeerPolicies.{import_action}
use Rattle.bgp_conf.specs.declared.conf.ConfiguredPeer.{ConfiguredPeer}
use Rattle.decision.specs.BookContents.{AreApart}
use Rattle.decision.specs.declared.candidate.Candidate.{Candidate}
use Rattle.net_prefix.specs.declared.asn.Asn.{Asn}
use Rattle.net_prefix.specs.declared.payload.Vrp.{Vrp}
use Rattle.net_prefix.specs.declared.prefix.Prefix.{Prefix}
use Rattle.origin_valid.specs.declared.validity.Validity.{Validity}
use Rattle.policy.specs.declared.rule.Action.{Action}
use Rattle.policy.specs.declared.rule.Action.TheVariants.{Reject, Accept}
use Rattle.routing.specs.Candidates.{IsCandidate, IsCandidateOf, IsMade, judged_at, network_at, seen_of, state_in, taken, with_state}
use Rattle.routing.specs.Offers.{IsOffer, IsOfPeer, IsOwn, IsSound, Offers}
use Rattle.rib_in.specs.LatestRoutes.{is_route}
use Rattle.routing.specs.Tables.{Tables}
use Rattle.routing.proofs.RouteChanges.{is_route-parts}

-- Each candidate that is kept has the address of its own peer.

-- each peer has an address
abbrev pub AreAddressed : Configuration → Type 0
AreAddressed conf = (slot : ℕ) (peer : ConfiguredPeer) → peer_at conf slot ≡ Some peer → peer.address ≢ 0

-- no two of them agree in the address
pub apart_from_own : (conf : Configuration) (offers : ℕ → Option Candidate) → AddressesDiffer conf.peers → AreAddressed conf → ((s : ℕ) → IsOwn conf s (offers s)) → AreApart offers
apart_from_own conf offers addresses addressed own s t c d other at_s at_t = λ degrees same.
    let a : IsOwn conf s (Some c) = subst (λ o. IsOwn conf s o) at_s (own s) in
    let b : IsOwn conf t (Some d) = subst (λ o. IsOwn conf t o) at_t (own t) in
    both s t c d a.1 b.1 other same
  where
    both : (s t : ℕ) (c d : Candidate) → IsOfPeer conf s c ⊎ ((s ≡ 64) × (c.address ≡ 0)) → IsOfPeer conf t d ⊎ ((t ≡ 64) × (d.address ≡ 0)) → s ≢ t → c.address ≢ d.address
    both s t c d (inl a) (inl b) other same = other (addresses s t a.peer b.peer a.configured b.configured (sym a.address ∙ same ∙ b.address))
    both s t c d (inl a) (inr b) other same = addressed s a.peer a.configured (sym a.address ∙ same ∙ b.1)
    both s t c d (inr a) (inl b) other same = addressed t b.peer b.configured (sym b.address ∙ sym same ∙ a.1)
    both s t c d (inr a) (inr b) other same = other (a.0 ∙ sym b.0)

-- what attributes make has the address of the slot's peer
of_peer : (conf : Configuration) (slot identifier : ℕ) (attrs : PathAttributes) (c : Candidate) → c.slot ≡ slot → IsCandidateOf conf identifier attrs c → IsOfPeer conf slot c
of_peer conf slot identifier attrs c at made = record { peer = made.peer; configured = subst (λ s. peer_at conf s ≡ Some made.peer) at made.configured; address = made.address_is }

-- what a slot's route makes is its own
pub made_own : (conf : Configuration) (slot identifier : ℕ) (attrs : PathAttributes) (found : Option Candidate) → IsMade conf slot identifier attrs found → IsOwn conf slot found
made_own conf slot identifier attrs None made = tt
made_own conf slot identifier attrs (Some c) made = (made.0, inl (of_peer conf slot identifier attrs c made.0 made.1))

pub made_named : (conf : Configuration) (slot identifier : ℕ) (attrs : PathAttributes) (found : Option Candidate) → IsMade conf slot identifier attrs found → IfSome found (λ c. c.slot ≡ slot)
made_named conf slot identifier attrs None made = tt
made_named conf slot identifier attrs (Some c) made = made.0

-- what an import policy leaves of it is its own, too
taken_own : (conf : Configuration) (slot : ℕ) (action : Action) (c : Candidate) → (c.slot ≡ slot) × (IsOfPeer conf slot c ⊎ ((slot ≡ 64) × (c.address ≡ 0))) → IsOwn conf slot (taken action c)
taken_own conf slot Reject c own = tt
taken_own conf slot (Accept set med prepend) c own =
    (own.0, elim own.1 [ inl of ↦ inl (record { peer = of.peer; configured = of.configured; address = of.address }) | inr local ↦ inr local ])

with_state_own : (conf : Configuration) (slot : ℕ) (state : Validity) (c : Candidate) → (c.slot ≡ slot) × (IsOfPeer conf slot c ⊎ ((slot ≡ 64) × (c.address ≡ 0)))
    → ((with_state state c).slot ≡ slot) × (IsOfPeer conf slot (with_state state c) ⊎ ((slot ≡ 64) × ((with_state state c).address ≡ 0)))
with_state_own conf slot state c own = (own.0, elim own.1 [ inl of ↦ inl (record { peer = of.peer; configured = of.configured; address = of.address }) | inr local ↦ inr local ])

pub judged_own : (conf : Configuration) (payloads : List Vrp) (attrs : PathAttributes) (slot : ℕ) (found : Option Candidate) (p : Prefix) → IsOwn conf slot found → IsOwn conf slot (judged_at conf payloads attrs found p)
judged_own conf payloads attrs slot None p own = tt
judged_own conf payloads attrs slot (Some c) p own =
    taken_own conf slot (import_action conf c.slot (seen_of conf.own payloads c.slot p attrs)) (with_state (state_in conf.own payloads p attrs) c) (with_state_own conf slot (state_in conf.own payloads p attrs) c own)

-- a local network is its own
pub network_own : (conf : Configuration) (own : Asn) (payloads : List Vrp) (attrs : PathAttributes) (p : Prefix) → IsOwn conf 64 (Some (network_at own payloads attrs p))
network_own conf own payloads attrs p = (refl, inr (refl, refl))

pub judged_named : (conf : Configuration) (payloads : List Vrp) (attrs : PathAttributes) (slot : ℕ) (found : Option Candidate) (p : Prefix) → IfSome found (λ c. c.slot ≡ slot)
    → IfSome (judged_at conf payloads attrs found p) (λ c. c.slot ≡ slot)
judged_named conf payloads attrs slot None p named = tt
judged_named conf payloads attrs slot (Some c) p named =
    taken_named (import_action conf c.slot (seen_of conf.own payloads c.slot p attrs)) (with_state (state_in conf.own payloads p attrs) c) named
  where
    taken_named : (action : Action) (c : Candidate) → c.slot ≡ slot → IfSome (taken action c) (λ d. d.slot ≡ slot)
    taken_named Reject c at = tt
    taken_named (Accept set med prepend) c at = at

pub offer_own : (t : Tables) (slot : ℕ) (prefix : Prefix) (found : Option Candidate) → IsOffer t slot prefix found → IsOwn t.conf slot found
offer_own t slot prefix None is = tt
offer_own t slot prefix (Some c) is = own_of is.is_one
  where
    own_of : IsCandidate t prefix c → IsOwn t.conf slot (Some c)
    own_of (inl one) =
        let at : one.made.slot ≡ slot = one.of_slot ∙ is.at_slot in
        let own : IsOwn t.conf slot (judged_at t.conf t.payloads one.attrs (Some one.made) prefix) =
        judged_own t.conf t.payloads one.attrs slot (Some one.made) prefix (at, inl (of_peer t.conf slot one.session.identifier one.attrs one.made at one.by_attrs)) in
        subst (λ o. IsOwn t.conf slot o) one.judged own
    own_of (inr one) = (is.at_slot, inr (sym is.at_slot ∙ ap (λ (x : Candidate). x.slot) one.made, ap (λ (x : Candidate). x.address) one.made))

pub own_named : (conf : Configuration) (slot : ℕ) (found : Option Candidate) → IsOwn conf slot found → IfSome found (λ c. c.slot ≡ slot)
own_named conf slot None own = tt
own_named conf slot (Some c) own = own.0

own_with : (conf : Configuration) (slot s : ℕ) (found before : Option Candidate) (b : Bool) → (slot == s) ≡ b → IsOwn conf slot found → IsOwn conf s before → IsOwn conf s (cond b found before)
own_with conf slot s found before true is own was = subst (λ x. IsOwn conf x found) (eqb-true slot s is) own
own_with conf slot s found before false is own was = was

-- a candidate of the slot in place of its last one
pub apart_with : (conf : Configuration) (slot : ℕ) (found : Option Candidate) (offers : Offers) → IsSound conf offers → IsOwn conf slot found
    → (p : Prefix) → AreApart (λ s. cond (slot == s) found (offers s p))
apart_with conf slot found offers sound own p =
    apart_from_own conf (λ s. cond (slot == s) found (offers s p)) sound.addresses sound.addressed (λ s. own_with conf slot s found (offers s p) (slot == s) refl own (sound.own s p))

own_some : (conf : Configuration) (slot s : ℕ) (found before after : Option Candidate) → IsOwn conf slot found → IsOwn conf s before → ((s ≡ slot) × (after ≡ found)) ⊎ (after ≡ before) → IsOwn conf s after
own_some conf slot s found before after own was (inl here) = subst (λ o. IsOwn conf s o) (sym here.1) (subst (λ x. IsOwn conf x found) (sym here.0) own)
own_some conf slot s found before after own was (inr same) = subst (λ o. IsOwn conf s o) (sym same) was

-- some of the slot's candidates become this one
pub sound_some : (conf : Configuration) (slot : ℕ) (found : Prefix → Option Candidate) (had has : Offers) → IsSound conf had → ((p : Prefix) → IsOwn conf slot (found p))
    → ((s : ℕ) (p : Prefix) → ((s ≡ slot) × (has s p ≡ found p)) ⊎ (has s p ≡ had s p)) → IsSound conf has
sound_some conf slot found had has sound own some = record {
  addresses = sound.addresses;
  addressed = sound.addressed;
  own = λ s p. own_some conf slot s (found p) (had s p) (has s p) (own p) (sound.own s p) (some s p);
}

-- the candidate of one slot and prefix becomes this one
pub sound_come : (conf : Configuration) (slot : ℕ) (prefix : Prefix) (found : Option Candidate) (had has : Offers) → IsSound conf had → IsOwn conf slot found → ((s : ℕ) (p : Prefix) → has s p ≡ cond (is_route slot prefix s p) found (had s p)) → IsSound conf has
sound_come conf slot prefix found had has sound own is = sound_some conf slot (λ p. found) had has sound (λ p. own) (λ s p. some s p (is_route slot prefix s p) refl (is s p))
  where
    first_true : (a b : Bool) → (a && b) ≡ true → a ≡ true
    first_true true b h = refl
    first_true false b h = absurd (cc)

    some : (s : ℕ) (p : Prefix) (b : Bool) → is_route slot prefix s p ≡ b → has s p ≡ cond b found (had s p) → ((s ≡ slot) × (has s p ≡ found)) ⊎ (has s p ≡ had s p)
    some s p true at same = inl (eqb-true s slot (first_true (s == slot) _ (sym (is_route-parts slot prefix s p) ∙ at)), same)
    some s p false at same = inr same

own_gone : (conf : Configuration) (s : ℕ) (before after : Option Candidate) (b : Bool) → IsOwn conf s before → after ≡ cond b None before → IsOwn conf s after
own_gone conf s before after true was is = subst (λ o. IsOwn conf s o) (sym is) tt
own_gone conf s before after false was is = subst (λ o. IsOwn conf s o) (sym is) was

-- some candidates go
pub sound_gone : (conf : Configuration) (had has : Offers) (gone : ℕ → Prefix → Bool) → IsSound conf had → ((s : ℕ) (p : Prefix) → has s p ≡ cond (gone s p) None (had s p)) → IsSound conf has
sound_gone conf had has gone sound is = record { addresses = sound.addresses; addressed = sound.addressed; own = λ s p. own_gone conf s (had s p) (has s p) (gone s p) (sound.own s p) (is s p) }

pub own_conf : (conf conf2 : Configuration) (s : ℕ) (found : Option Candidate) → ((peer : ConfiguredPeer) → peer_at conf s ≡ Some peer → peer_at conf2 s ≡ Some peer) → IsOwn conf s found → IsOwn conf2 s found
own_conf conf conf2 s None still own = tt
own_conf conf conf2 s (Some c) still own = (own.0, elim own.1 [ inl of ↦ inl (record { peer = of.peer; configured = still of.peer of.configured; address = of.address }) | inr local ↦ inr local ])

-- a configuration that has each peer of the last one
pub sound_conf : (conf conf2 : Configuration) (offers : Offers) → IsSound conf offers → AddressesDiffer conf2.peers → AreAddressed conf2 → ((s : ℕ) (peer : ConfiguredPeer) → peer_at conf s ≡ Some peer → peer_at conf2 s ≡ Some peer)
    → IsSound conf2 offers
sound_conf conf conf2 offers sound addresses addressed still = record { addresses = addresses; addressed = addressed; own = λ s p. own_conf conf conf2 s (offers s p) (still s) (sound.own s p) }

-- the peer that has this address
by_address : (found : Option ConfiguredPeer) (address : ℕ) → option_map (λ (x : ConfiguredPeer). x.address) found ≡ Some address → (x : ConfiguredPeer) × (found ≡ Some x) × (x.address ≡ address)
by_address None address is = absurd (cc)
by_address (Some x) address is = (x, refl, cc)

own_address : (conf conf2 : Configuration) (s : ℕ) (found : Option Candidate) → option_map (λ (x : ConfiguredPeer). x.address) (peer_at conf2 s) ≡ option_map (λ (x : ConfiguredPeer). x.address) (peer_at conf s) → IsOwn conf s found → IsOwn conf2 s found
own_address conf conf2 s None same own = tt
own_address conf conf2 s (Some c) same own = (
  own.0,
  elim own.1 [
    | inl of ↦
        let now = by_address (peer_at conf2 s) of.peer.address (same ∙ ap (option_map (λ (x : ConfiguredPeer). x.address)) of.configured) in
        inl (record { peer = now.0; configured = now.1; address = of.address ∙ sym now.2 })
    | inr local ↦ inr local
  ],
)

-- a peer has another policy
pub sound_changed : (conf conf2 : Configuration) (slot : ℕ) (change : ConfiguredPeer → ConfiguredPeer) (offers : Offers) → ((peer : ConfiguredPeer) → (change peer).address ≡ peer.address) → conf2 ≡ changed_conf conf slot change → IsSound conf offers → IsSound conf2 offers
sound_changed conf conf2 slot change offers keeps is sound = subst (λ c. IsSound c offers) (sym is) (record {
  addresses = AddressesDiffer-changed conf slot change keeps sound.addresses;
  addressed = λ s peer at none.
      let was = by_address (peer_at conf s) peer.address (sym (same s) ∙ ap (option_map (λ (x : ConfiguredPeer). x.address)) at) in
      sound.addressed s was.0 was.1 (was.2 ∙ none);
  own = λ s p. own_address conf (changed_conf conf slot change) s (offers s p) (same s) (sound.own s p);
})
  where
    same : (s : ℕ) → option_map (λ (x : ConfiguredPeer). x.address) (peer_at (changed_conf conf slot change) s) ≡ option_map (λ (x : ConfiguredPeer). x.address) (peer_at conf s)
    same s = option_map-changed conf slot change (λ (x : ConfiguredPeer). x.address) keeps s

pub sound_importing : (conf conf2 : Configuration) (slot : ℕ) (name : Bor (List ℕ)) (offers : Offers) → conf2 ≡ conf_after conf (UseIn slot name) → IsSound conf offers → IsSound conf2 offers
sound_importing conf conf2 slot name offers is sound = sound_changed conf conf2 slot (importing (name_of name.now)) offers (λ peer. refl) is sound

pub sound_exporting : (conf conf2 : Configuration) (slot : ℕ) (name : Bor (List ℕ)) (offers : Offers) → conf2 ≡ conf_after conf (UseOut slot name) → IsSound conf offers → IsSound conf2 offers
sound_exporting conf conf2 slot name offers is sound = sound_changed conf conf2 slot (exporting (name_of name.now)) offers (λ peer. refl) is sound
