use Rattle.std.proofs.Common.{◌≡◌, ◌≢◌, ◌<◌, ◌==◌, ℕ, List, Option, Some, None, cond, refl, sym, ap, ◌∙◌, subst, inl, inr}
use Rattle.std.specs.Borrow.{Bor}
use Rattle.std.specs.Option.{IsSome, option_copied, option_map}
use Rattle.std.proofs.lemmas.Bool.{cases_eq, eq-eqb, ne_eqb}
use Rattle.bgp_conf.specs.Configuration.{Configuration}
use Rattle.bgp_fsm.specs.SessionTable.{effects_of}
use Rattle.bgp_fsm.specs.declared.input.Input.{Input}
use Rattle.bgp_fsm.specs.declared.session.Effects.{Effects}
use Rattle.bgp_peer.specs.Slot.{Slot, taken_input}
use Rattle.routing.specs.Linked.{Linked, adj_out_after, moved}
use Rattle.routing.specs.Marks.{AreFew, AreMarked}
use Rattle.routing.specs.RoutingState.{RoutingState}
use Rattle.loc_rib.specs.SentTables.{SentTable, sent_to}
use Rattle.routing.specs.Sent.{linked, linked_as, peer_in}
use Rattle.routing.specs.Tables.{link_at}
use Rattle.routing.proofs.LinkedPeers.{few_in, linked_at, linked_none, linked_put, linked_some, peer_of}

-- Peers that were looked up, as slots with what they hold.

pub mapped_copied : {X Y : Type 0} (f : X → Y) (o : Option (Bor X)) → option_map (λ x. f x.now) o ≡ option_map f (option_copied o)
mapped_copied f None = refl
mapped_copied f (Some x) = refl

-- a slot whose peer was found is one of 64
pub few_lent : (peers : List (ℕ × Slot)) (sent : SentTable) → AreFew (linked peers sent) → (slot : ℕ) (o : Option (Bor Slot)) → IsSome o → option_copied o ≡ peer_in peers slot → slot < 64
few_lent peers sent few slot None some is = absurd (cc)
few_lent peers sent few slot (Some x) some is = few_in peers sent few slot x.now (sym is)

peer_mapped : (sent : SentTable) (slot : ℕ) (o : Option Slot) → option_map (λ (l : Linked). l.peer) (option_map (linked_as sent slot) o) ≡ o
peer_mapped sent slot None = refl
peer_mapped sent slot (Some peer) = refl

pub peer_linked : (peers : List (ℕ × Slot)) (sent : SentTable) (slot : ℕ) → option_map (λ (l : Linked). l.peer) (link_at (linked peers sent) slot) ≡ peer_in peers slot
peer_linked peers sent slot = ap (option_map (λ (l : Linked). l.peer)) (linked_at peers sent slot) ∙ peer_mapped sent slot (peer_in peers slot)

some_mapped : {X Y : Type 0} (f : X → Y) (o : Option X) → IsSome o → IsSome (option_map f o)
some_mapped f None some = absurd (cc)
some_mapped f (Some x) some = refl

pub linked_there : (peers : List (ℕ × Slot)) (sent : SentTable) (slot : ℕ) → IsSome (peer_in peers slot) → IsSome (link_at (linked peers sent) slot)
linked_there peers sent slot some = subst (λ o. IsSome o) (sym (linked_at peers sent slot)) (some_mapped (linked_as sent slot) (peer_in peers slot) some)

pub adj_out_of : (peers : List (ℕ × Slot)) (sent : SentTable) (slot : ℕ) (l : Linked) → link_at (linked peers sent) slot ≡ Some l → l.adj_out ≡ sent_to sent slot
adj_out_of peers sent slot l is = let found = peer_of peers sent slot l is in ap (λ (x : Linked). x.adj_out) (sym found.2)

pub found_as : (peers : List (ℕ × Slot)) (sent : SentTable) (slot : ℕ) (peer : Slot) → Some peer ≡ peer_in peers slot → Some (linked_as sent slot peer) ≡ link_at (linked peers sent) slot
found_as peers sent slot peer is = sym (linked_some peers sent slot peer (sym is))

some_once : {X : Type 0} (x y : X) → Some x ≡ Some y → x ≡ y
some_once x y is = cc

-- what was found is the slot's
pub peer_found : (peers : List (ℕ × Slot)) (sent : SentTable) (slot : ℕ) (peer : Slot) (l : Linked) → Some peer ≡ peer_in peers slot → link_at (linked peers sent) slot ≡ Some l → linked_as sent slot peer ≡ l
peer_found peers sent slot peer l is there = some_once _ _ (found_as peers sent slot peer is ∙ there)

pub never_found : (peers : List (ℕ × Slot)) (sent : SentTable) (slot : ℕ) (l : Linked) → None ≡ peer_in peers slot → link_at (linked peers sent) slot ≡ Some l → ⊥
never_found peers sent slot l none there = let never = sym (linked_none peers sent slot (sym none)) ∙ there in cc

pub never_lost : (peers : List (ℕ × Slot)) (sent : SentTable) (slot : ℕ) (peer : Slot) → Some peer ≡ peer_in peers slot → link_at (linked peers sent) slot ≡ None → ⊥
never_lost peers sent slot peer is none = let never = found_as peers sent slot peer is ∙ none in cc

-- the slot has another peer, which holds what the one before held
pub put_as : (slot : ℕ) (peer : Slot) (l : Linked) (old new : List (ℕ × Slot)) (was sent : SentTable) → ((s : ℕ) → peer_in new s ≡ cond (s == slot) (Some peer) (peer_in old s)) → ((s : ℕ) → s ≢ slot → sent_to sent s ≡ sent_to was s) → linked_as sent slot peer ≡ l
    → (s : ℕ) → link_at (linked new sent) s ≡ cond (s == slot) (Some l) (link_at (linked old was) s)
put_as slot peer l old new was sent put tables is s = linked_put slot (Some peer) old new was sent put tables s ∙ ap (λ x. cond (s == slot) (Some x) (link_at (linked old was) s)) is

-- what waits doesn't speak of what is held but by the slots
pub marked_sent : (conf : Configuration) (links : List (ℕ × Linked)) (t u : RoutingState) → u ≡ record t { sent = u.sent } → AreMarked conf links t → AreMarked conf links u
marked_sent conf links t u rest h =
    subst (λ x. AreMarked conf links x) (sym rest) (record {
      there = h.there;
      marks = λ s p within. record { waits = (h.marks s p within).waits; listed = (h.marks s p within).listed };
    })

off_slot : {X : Type 0} (slot s : ℕ) (x y : X) → s ≢ slot → cond (s == slot) x y ≡ y
off_slot slot s x y other = ap (λ b. cond b x y) (ne_eqb s slot other)

on_slot : {X : Type 0} (slot : ℕ) (x y : X) → cond (slot == slot) x y ≡ x
on_slot slot x y = ap (λ b. cond b x y) (eq-eqb slot slot refl)

-- a slot's session has taken an input, and its table followed
pub moved_as : (now slot : ℕ) (peer next : Slot) (input : Input) (effects : Effects) (old new : List (ℕ × Slot)) (was sent : SentTable) → ((s : ℕ) → peer_in new s ≡ cond (s == slot) (Some next) (peer_in old s)) → next ≡ taken_input now peer input
    → effects ≡ effects_of input peer.session → ((s : ℕ) → sent_to sent s ≡ cond (s == slot) (adj_out_after effects (sent_to was s)) (sent_to was s))
    → (s : ℕ) → link_at (linked new sent) s ≡ cond (s == slot) (Some (moved now (linked_as was slot peer) input)) (link_at (linked old was) s)
moved_as now slot peer next input effects old new was sent put is told tables =
    put_as slot next (moved now (linked_as was slot peer) input) old new was sent put (λ s other. tables s ∙ off_slot slot s (adj_out_after effects (sent_to was s)) (sent_to was s) other) same
  where
    table : sent_to sent slot ≡ adj_out_after (effects_of input peer.session) (sent_to was slot)
    table = tables slot ∙ on_slot slot (adj_out_after effects (sent_to was slot)) (sent_to was slot) ∙ ap (λ e. adj_out_after e (sent_to was slot)) told

    same : linked_as sent slot next ≡ moved now (linked_as was slot peer) input
    same = ap (λ x. linked_as sent slot x) is ∙ ap (λ a. record { peer = taken_input now peer input; adj_out = a }) table

-- a slot whose peer and table stay is the same
pub table_same : (slot : ℕ) (peer was_peer : Slot) (was sent : SentTable) → peer ≡ was_peer → sent_to sent slot ≡ sent_to was slot → linked_as sent slot peer ≡ linked_as was slot was_peer
table_same slot peer was_peer was sent is table = ap (λ x. linked_as sent slot x) is ∙ ap (λ a. record { peer = was_peer; adj_out = a }) table

pub stay_put : (slot : ℕ) (peer was_peer : Slot) (old new : List (ℕ × Slot)) (was sent : SentTable) → ((s : ℕ) → peer_in new s ≡ cond (s == slot) (Some peer) (peer_in old s)) → peer ≡ was_peer → ((s : ℕ) → sent_to sent s ≡ sent_to was s)
    → Some was_peer ≡ peer_in old slot → (s : ℕ) → link_at (linked new sent) s ≡ link_at (linked old was) s
stay_put slot peer was_peer old new was sent put is tables found s =
    put_as slot peer (linked_as was slot was_peer) old new was sent put (λ x other. tables x) (table_same slot peer was_peer was sent is (tables slot)) s ∙ same
  where
    same : cond (s == slot) (Some (linked_as was slot was_peer)) (link_at (linked old was) s) ≡ link_at (linked old was) s
    same = elim (cases_eq s slot) [
      | inl here ↦
          ap (λ b. cond b (Some (linked_as was slot was_peer)) (link_at (linked old was) s)) (eq-eqb s slot here)
          ∙ found_as old was slot was_peer found
          ∙ ap (λ x. link_at (linked old was) x) (sym here)
      | inr other ↦ off_slot slot s (Some (linked_as was slot was_peer)) (link_at (linked old was) s) other
    ]
