use Rattle.std.proofs.Common.{◌≡◌, ◌≢◌, ◌<◌, ◌==◌, ◌||◌, ℕ, Bool, true, false, List, Option, Some, None, is_none, nat_le, cond, refl, sym, ap, ◌∙◌, arith}
use Rattle.std.proofs.lemmas.Bool.{eq-eqb, eqb-true}
use Rattle.std.proofs.lemmas.Bool.Decides.{nat_tests}
use Rattle.std.specs.BTreeMap.{is_at}
use Rattle.std.specs.Borrow.{Bor}
use Rattle.std.specs.Ordering.{nat_cmp}
use Rattle.bgp_conf.proofs.Accepted.{addressed-from_accepted, peer_at-from_accepted}
use Rattle.bgp_conf.proofs.PrefixOrder.{is_eq-nat_cmp}
use Rattle.bgp_conf.specs.ConfAfter.{configured_of, peer_after}
use Rattle.bgp_conf.specs.Configuration.{AddressesDiffer, Configuration, peer_at}
use Rattle.bgp_conf.specs.FirstRefusal.{first_refusal}
use Rattle.bgp_conf.specs.declared.command.Command.TheVariants.{AddPeer, UseIn}
use Rattle.bgp_conf.specs.declared.command.PeerConf.{PeerConf}
use Rattle.bgp_conf.specs.declared.conf.ConfiguredPeer.{ConfiguredPeer}
use Rattle.bgp_conf.specs.declared.refusal.Refusal.{Refusal}
use Rattle.bgp_peer.specs.Slot.{Slot}
use Rattle.routing.specs.Offers.{IsSound, Offers}
use Rattle.routing.proofs.SoundOffers.{sound_conf}

-- A peer that comes to a slot.

-- a slot that has a peer is one of 64
pub slot_used : (conf : Configuration) (slot : ℕ) (name : Bor (List ℕ)) (closing : ℕ) → first_refusal conf closing (UseIn slot name) ≡ None → slot < 64
slot_used conf slot name closing may = within _ (nat_le 64 slot) refl may
  where
    within : (rest : Option Refusal) (b : Bool) → nat_le 64 slot ≡ b → cond (b || is_none (peer_at conf slot)) (Some Refusal.BadSlot) rest ≡ None → slot < 64
    within rest true over h = absurd (cc)
    within rest false under h = grind (arith, nat_tests, under)

-- its slot had no candidates, since no peer was there
pub sound_added : (closing : ℕ) (conf conf2 : Configuration) (offers : Offers) (slot : ℕ) (peer : PeerConf) → IsSound conf offers → AddressesDiffer conf2.peers → first_refusal conf closing (AddPeer slot peer) ≡ None
    → ((s : ℕ) → peer_at conf2 s ≡ peer_after conf (AddPeer slot peer) s) → IsSound conf2 offers
sound_added closing conf conf2 offers slot peer sound addresses may peers = sound_conf conf conf2 offers sound addresses (λ s found at. has_one s found (s == slot) refl (sym (peers s) ∙ at)) (λ s found at. still s found (s == slot) refl at)
  where
    some_is : {X : Type 0} {x y : X} → Some x ≡ Some y → x ≡ y
    some_is is = cc

    has_one : (s : ℕ) (found : ConfiguredPeer) (b : Bool) → (s == slot) ≡ b → cond (s == slot) (Some (configured_of peer)) (peer_at conf s) ≡ Some found → found.address ≢ 0
    has_one s found true same at none =
        let this : configured_of peer ≡ found = some_is (ap (λ b. cond b (Some (configured_of peer)) (peer_at conf s)) (sym same) ∙ at) in
        let here : peer.address ≡ 0 = ap (λ (x : ConfiguredPeer). x.address) this ∙ none in
        let never = sym (addressed-from_accepted conf closing slot peer may) ∙ eq-eqb peer.address 0 here in cc
    has_one s found false other at none = sound.addressed s found (ap (λ b. cond b (Some (configured_of peer)) (peer_at conf s)) (sym other) ∙ at) none

    still : (s : ℕ) (found : ConfiguredPeer) (b : Bool) → (s == slot) ≡ b → peer_at conf s ≡ Some found → peer_at conf2 s ≡ Some found
    still s found true same at = let free = peer_at-from_accepted conf closing slot peer may in let here = ap (λ x. peer_at conf x) (sym (eqb-true s slot same)) ∙ at in absurd (let never = sym free ∙ here in cc)
    still s found false other at = peers s ∙ ap (λ b. cond b (Some (configured_of peer)) (peer_at conf s)) other ∙ at

-- an insertion puts the slot
pub put_inserted : (slot : ℕ) (link l : Slot) (f g : ℕ → Option Slot) → ((s : ℕ) → g s ≡ cond (is_at (nat_cmp slot) s) (Some link) (f s)) → link ≡ l
    → (s : ℕ) → g s ≡ cond (s == slot) (Some l) (f s)
put_inserted slot link l f g updates is s = updates s ∙ rw (is_eq-nat_cmp slot s, is) refl

same_slot : (slot s : ℕ) → is_at (nat_cmp slot) s ≡ true → s ≡ slot
same_slot slot s h = let is = sym (is_eq-nat_cmp slot s) ∙ h in eqb-true s slot is

back_at : (slot s : ℕ) (link : Slot) (before : Option Slot) (f : ℕ → Option Slot) (b : Bool) → is_at (nat_cmp slot) s ≡ b → before ≡ f slot → cond b before (cond b (Some link) (f s)) ≡ f s
back_at slot s link before f true at is = is ∙ ap f (sym (same_slot slot s at))
back_at slot s link before f false at is = refl

-- what was written is put back
pub put_back : (slot : ℕ) (link : Slot) (before : Option Slot) (f g h : ℕ → Option Slot) → ((s : ℕ) → g s ≡ cond (is_at (nat_cmp slot) s) (Some link) (f s))
    → ((s : ℕ) → h s ≡ cond (is_at (nat_cmp slot) s) before (g s)) → before ≡ f slot → (s : ℕ) → h s ≡ f s
put_back slot link before f g h updates back was s =
    back s ∙ ap (λ x. cond (is_at (nat_cmp slot) s) before x) (updates s) ∙ back_at slot s link before f _ refl was
