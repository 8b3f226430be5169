use Rattle.std.proofs.Common.{◌≡◌, ◌≢◌, ◌<◌, ◌==◌, ℕ, Bool, true, false, List, [], ◌∷◌, length, Option, Some, None, cond, refl, sym, ap, ◌∙◌, subst, inl, inr, arith}
use Rattle.std.proofs.lemmas.Bool.{cases_eq, eqb-true, eq-eqb, ne_eqb}
use Rattle.std.specs.BTreeMap.{is_at}
use Rattle.std.specs.Option.{option_map}
use Rattle.std.specs.Ordering.{nat_cmp}
use Rattle.bgp_conf.proofs.PrefixOrder.{is_eq-nat_cmp}
use Rattle.bgp_conf.specs.Configuration.{Configuration}
use Rattle.bgp_peer.specs.Slot.{Slot}
use Rattle.net_prefix.specs.declared.prefix.Prefix.{Prefix}
use Rattle.rib_out.specs.Held.{HeldRoute}
use Rattle.routing.specs.Linked.{Linked}
use Rattle.routing.specs.Marks.{AreFew, AreMarked, AreMarkedFor}
use Rattle.routing.specs.RoutingState.{RoutingState}
use Rattle.loc_rib.specs.SentTables.{SentTable, sent_to}
use Rattle.routing.specs.Sent.{linked, linked_as, peer_in}
use Rattle.routing.specs.Tables.{link_at}
use Rattle.routing.proofs.Marking.{KeepsTables}

-- The slots as they are with what their peers hold.

same_slot : (slot s : ℕ) → is_at (nat_cmp slot) s ≡ true → s ≡ slot
same_slot slot s h = let is = sym (is_eq-nat_cmp slot s) ∙ h in eqb-true s slot is

this_or_rest : (slot s : ℕ) (peer : Slot) (sent : SentTable) (rest : Option Linked) (others : Option Slot) (b : Bool) → is_at (nat_cmp slot) s ≡ b → rest ≡ option_map (linked_as sent slot) others
    → cond b (Some (linked_as sent s peer)) rest ≡ option_map (linked_as sent slot) (cond b (Some peer) others)
this_or_rest slot s peer sent rest others true is same = ap (λ n. Some (linked_as sent n peer)) (same_slot slot s is)
this_or_rest slot s peer sent rest others false is same = same

-- a slot is that of its peer
pub linked_at : (peers : List (ℕ × Slot)) (sent : SentTable) (slot : ℕ) → link_at (linked peers sent) slot ≡ option_map (linked_as sent slot) (peer_in peers slot)
linked_at [] sent slot = refl
linked_at (e ∷ peers) sent slot = this_or_rest slot e.0 e.1 sent (link_at (linked peers sent) slot) (peer_in peers slot) (is_at (nat_cmp slot) e.0) refl (linked_at peers sent slot)

pub linked_some : (peers : List (ℕ × Slot)) (sent : SentTable) (slot : ℕ) (peer : Slot) → peer_in peers slot ≡ Some peer → link_at (linked peers sent) slot ≡ Some (linked_as sent slot peer)
linked_some peers sent slot peer is = linked_at peers sent slot ∙ ap (option_map (linked_as sent slot)) is

pub linked_none : (peers : List (ℕ × Slot)) (sent : SentTable) (slot : ℕ) → peer_in peers slot ≡ None → link_at (linked peers sent) slot ≡ None
linked_none peers sent slot is = linked_at peers sent slot ∙ ap (option_map (linked_as sent slot)) is

-- there are as many slots as peers
pub few_in : (peers : List (ℕ × Slot)) (sent : SentTable) → AreFew (linked peers sent) → (s : ℕ) (peer : Slot) → peer_in peers s ≡ Some peer → s < 64
few_in peers sent few s peer is = few.within s (linked_as sent s peer) (linked_some peers sent s peer is)

none_mapped : {X Y : Type 0} (f : X → Y) (o : Option X) → option_map f o ≡ None → o ≡ None
none_mapped f None is = refl
none_mapped f (Some x) is = absurd (cc)

pub peer_none : (peers : List (ℕ × Slot)) (sent : SentTable) (slot : ℕ) → link_at (linked peers sent) slot ≡ None → peer_in peers slot ≡ None
peer_none peers sent slot is = none_mapped (linked_as sent slot) (peer_in peers slot) (sym (linked_at peers sent slot) ∙ is)

some_mapped : {X Y : Type 0} (f : X → Y) (o : Option X) (y : Y) → option_map f o ≡ Some y → (x : X) × (o ≡ Some x) × (f x ≡ y)
some_mapped f None y is = absurd (cc)
some_mapped f (Some x) y is = (x, refl, cc)

-- a slot's peer
pub peer_of : (peers : List (ℕ × Slot)) (sent : SentTable) (slot : ℕ) (l : Linked) → link_at (linked peers sent) slot ≡ Some l → (peer : Slot) × (peer_in peers slot ≡ Some peer) × (linked_as sent slot peer ≡ l)
peer_of peers sent slot l is = some_mapped (linked_as sent slot) (peer_in peers slot) l (sym (linked_at peers sent slot) ∙ is)

-- where there are no peers
pub no_peers : (peers : List (ℕ × Slot)) (s : ℕ) → (0 < length peers → ⊥) → peer_in peers s ≡ None
no_peers [] s none = refl
no_peers (e ∷ peers) s none = absurd (none (omega arith))

-- ---- what waits, where what is held stays
pub sent_kept : (t u : RoutingState) → KeepsTables t u → u.sent ≡ t.sent
sent_kept t u rest = ap (λ (x : RoutingState). x.sent) rest

pub marked_in : (conf : Configuration) (peers : List (ℕ × Slot)) (t : RoutingState) (sent : SentTable) → t.sent ≡ sent → AreMarked conf (linked peers sent) t → AreMarked conf (linked peers t.sent) t
marked_in conf peers t sent same h = subst (λ x. AreMarked conf (linked peers x) t) (sym same) h

pub marked_for_in : (done : ℕ → Bool) (conf : Configuration) (peers : List (ℕ × Slot)) (t : RoutingState) (sent : SentTable) → t.sent ≡ sent → AreMarkedFor done conf (linked peers sent) t → AreMarkedFor done conf (linked peers t.sent) t
marked_for_in done conf peers t sent same h = subst (λ x. AreMarkedFor done conf (linked peers x) t) (sym same) h

pub marked_for_as : (done : ℕ → Bool) (conf : Configuration) (peers : List (ℕ × Slot)) (t : RoutingState) (sent : SentTable) → t.sent ≡ sent → AreMarkedFor done conf (linked peers t.sent) t → AreMarkedFor done conf (linked peers sent) t
marked_for_as done conf peers t sent same h = subst (λ x. AreMarkedFor done conf (linked peers x) t) same h

-- ---- a slot changes
some_as : (sent was : SentTable) (slot : ℕ) (o : Option Slot) → sent_to sent slot ≡ sent_to was slot → option_map (linked_as sent slot) o ≡ option_map (linked_as was slot) o
some_as sent was slot None same = refl
some_as sent was slot (Some peer) same = rw same refl

-- another slot stays, where its peer and what it holds do
pub linked_off : (old new : List (ℕ × Slot)) (was sent : SentTable) (s : ℕ) → peer_in new s ≡ peer_in old s → sent_to sent s ≡ sent_to was s → link_at (linked new sent) s ≡ link_at (linked old was) s
linked_off old new was sent s peers tables =
    linked_at new sent s ∙ ap (option_map (linked_as sent s)) peers ∙ some_as sent was s (peer_in old s) tables ∙ sym (linked_at old was s)

at_slot : {X : Type 0} (slot s : ℕ) (x y : X) → s ≡ slot → cond (s == slot) x y ≡ x
at_slot slot s x y same = ap (λ b. cond b x y) (eq-eqb s slot same)

off_slot : {X : Type 0} (slot s : ℕ) (x y : X) → s ≢ slot → cond (s == slot) x y ≡ y
off_slot slot s x y other = ap (λ b. cond b x y) (ne_eqb s slot other)

-- a slot becomes another, with a peer or without one
pub linked_put : (slot : ℕ) (found : Option Slot) (old new : List (ℕ × Slot)) (was sent : SentTable) → ((s : ℕ) → peer_in new s ≡ cond (s == slot) found (peer_in old s)) → ((s : ℕ) → s ≢ slot → sent_to sent s ≡ sent_to was s)
    → (s : ℕ) → link_at (linked new sent) s ≡ cond (s == slot) (option_map (linked_as sent slot) found) (link_at (linked old was) s)
linked_put slot found old new was sent put tables s = elim (cases_eq s slot) [
  | inl same ↦
      linked_at new sent s
      ∙ ap (option_map (linked_as sent s)) (put s ∙ at_slot slot s found (peer_in old s) same)
      ∙ ap (λ x. option_map (linked_as sent x) found) same
      ∙ sym (at_slot slot s (option_map (linked_as sent slot) found) (link_at (linked old was) s) same)
  | inr other ↦
      linked_off old new was sent s (put s ∙ off_slot slot s found (peer_in old s) other) (tables s other)
      ∙ sym (off_slot slot s (option_map (linked_as sent slot) found) (link_at (linked old was) s) other)
]

-- what stands of the other slots, where one table changes
pub tables_off : (slot : ℕ) (what : List (Prefix × HeldRoute)) (was sent : SentTable) → ((s : ℕ) → sent_to sent s ≡ cond (s == slot) what (sent_to was s)) → (s : ℕ) → s ≢ slot → sent_to sent s ≡ sent_to was s
tables_off slot what was sent set s other = set s ∙ off_slot slot s what (sent_to was s) other

pub table_on : (slot : ℕ) (what : List (Prefix × HeldRoute)) (was sent : SentTable) → ((s : ℕ) → sent_to sent s ≡ cond (s == slot) what (sent_to was s)) → sent_to sent slot ≡ what
table_on slot what was sent set = set slot ∙ at_slot slot slot what (sent_to was slot) refl
