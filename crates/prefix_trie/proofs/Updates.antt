-- What a value that is changed below a node makes of the node.
use Rattle.std.proofs.Common.{◌≡◌, ◌⊎◌, inl, inr, Bool, true, false, Option, None, Some, Ok, refl, sym, ap, subst, ◌∙◌}
use Rattle.net_prefix.specs.declared.prefix.Prefix.{Prefix}
use Rattle.prefix_trie.specs.Nodes.{all_of, AreParts, ChangesValue, IsInserted, IsUpdated}
use Rattle.prefix_trie.specs.Places.{IsLow, IsHigh}
use Rattle.prefix_trie.specs.Shape.{Shape}
use Rattle.prefix_trie.specs.TrieMap.{Updates, found}
use Rattle.prefix_trie.proofs.AtNode.{found_here, found_in_low, found_in_high}
use Rattle.prefix_trie.proofs.Changes.{IsSeen, inserted_here, inserted_low, inserted_high, parts_here, parts_low, parts_high}

shape_same : {V : Type 0} (a b : Shape V) → a.entries ≡ b.entries → a.root ≡ b.root → a ≡ b
shape_same a b e r = λ i. record { entries = e i; root = r i }

module _ {V : Type 0} (step : V → V → Type 0) (b : Bool) where
  -- nothing was there and nothing changed, or it is as if the new value was put
  as_insert : (o : Option V) (low new : Shape V) (k : Prefix) → o ≡ found low.entries k → Updates step b o low.entries new.entries k → new.root ≡ low.root
      → ((o ≡ None) × (b ≡ false) × (new ≡ low)) ⊎ ((v : V) × (x : V) × (o ≡ Some v) × step v x × (b ≡ true) × IsInserted (Ok (Some v)) low new k x)
  as_insert None low new k is u root = inl (refl, u.0, shape_same new low u.1 root)
  as_insert (Some v) low new k is u root =
      inr (v, u.1.0, refl, u.1.1, u.0, record { entries = u.1.2; before = is; absent = tt; returned = tt; inside = λ base len w i h. rw root h })

  pub parts_low_updated : (p : Prefix) (w : Option V) (k : Prefix) (low new high : Shape V) → AreParts p w low high → IsLow p k → IsUpdated step b low new k → AreParts p w new high
  parts_low_updated p w k low new high parts at u =
      elim (as_insert (found low.entries k) low new k refl u.updates u.same_root) [
        | inl h ↦ subst (λ (s : Shape V). AreParts p w s high) (sym h.2) parts
        | inr h ↦ parts_low (Ok (Some h.0)) p w k h.1 low new high parts at h.5
      ]

  pub parts_high_updated : (p : Prefix) (w : Option V) (k : Prefix) (low high new : Shape V) → AreParts p w low high → IsHigh p k → IsUpdated step b high new k → AreParts p w low new
  parts_high_updated p w k low high new parts at u =
      elim (as_insert (found high.entries k) high new k refl u.updates u.same_root) [
        | inl h ↦ subst (λ (s : Shape V). AreParts p w low s) (sym h.2) parts
        | inr h ↦ parts_high (Ok (Some h.0)) p w k h.1 low high new parts at h.5
      ]

  pub parts_changed : (p : Prefix) (w u : Option V) (low high : Shape V) → AreParts p w low high → ChangesValue step b w u → AreParts p u low high
  parts_changed p None u low high parts h = subst (λ (x : Option V). AreParts p x low high) (sym h.1) parts
  parts_changed p (Some v) u low high parts h = subst (λ (x : Option V). AreParts p x low high) (sym h.1.2) (parts_here p (Some v) h.1.0 low high parts)

  pub updated_low : (d s : Shape V) (p : Prefix) (w : Option V) (low high : Shape V) → IsSeen d p w low high → AreParts p w low high → (k : Prefix) (new : Shape V) → IsLow p k → IsUpdated step b low new k → s.entries ≡ all_of p w new high → s.root ≡ Some p → IsUpdated step b d s k
  updated_low d s p w low high seen parts k new at u entries root =
      let same : found d.entries k ≡ found low.entries k = ap (λ es. found es k) seen.entries ∙ found_in_low p w low high parts k at in
      let updates : Updates step b (found d.entries k) d.entries s.entries k = elim (as_insert (found low.entries k) low new k refl u.updates u.same_root) [
        | inl h ↦ rw (same ∙ h.0) (h.1, entries ∙ ap (λ x. all_of p w x high) h.2 ∙ sym seen.entries)
        | inr h ↦ let i = inserted_low d s p w low high seen parts (Ok (Some h.0)) k h.1 new at h.5 entries root in rw (sym i.before) (h.4, (h.1, h.3, i.entries))
      ] in
      record { updates = updates; same_root = root ∙ sym seen.root }

  pub updated_high : (d s : Shape V) (p : Prefix) (w : Option V) (low high : Shape V) → IsSeen d p w low high → AreParts p w low high → (k : Prefix) (new : Shape V) → IsHigh p k → IsUpdated step b high new k → s.entries ≡ all_of p w low new → s.root ≡ Some p → IsUpdated step b d s k
  updated_high d s p w low high seen parts k new at u entries root =
      let same : found d.entries k ≡ found high.entries k = ap (λ es. found es k) seen.entries ∙ found_in_high p w low high parts k at in
      let updates : Updates step b (found d.entries k) d.entries s.entries k = elim (as_insert (found high.entries k) high new k refl u.updates u.same_root) [
        | inl h ↦ rw (same ∙ h.0) (h.1, entries ∙ ap (λ x. all_of p w low x) h.2 ∙ sym seen.entries)
        | inr h ↦ let i = inserted_high d s p w low high seen parts (Ok (Some h.0)) k h.1 new at h.5 entries root in rw (sym i.before) (h.4, (h.1, h.3, i.entries))
      ] in
      record { updates = updates; same_root = root ∙ sym seen.root }

  pub updated_here : (d s : Shape V) (p : Prefix) (w u : Option V) (low high : Shape V) → IsSeen d p w low high → AreParts p w low high → ChangesValue step b w u → s.entries ≡ all_of p u low high → s.root ≡ Some p → IsUpdated step b d s p
  updated_here d s p None u low high seen parts h entries root =
      let own : found d.entries p ≡ None = ap (λ es. found es p) seen.entries ∙ found_here p None low high parts in
      record { updates = rw own (h.0, entries ∙ ap (λ x. all_of p x low high) h.1 ∙ sym seen.entries); same_root = root ∙ sym seen.root }
  updated_here d s p (Some v) u low high seen parts h entries root =
      let i = inserted_here d s p (Some v) low high seen parts h.1.0 (entries ∙ ap (λ x. all_of p x low high) h.1.2) root in
      record { updates = rw (sym i.before) (h.0, (h.1.0, h.1.1, i.entries)); same_root = root ∙ sym seen.root }

pub updated_none : {V : Type 0} (step : V → V → Type 0) (d s : Shape V) (p : Prefix) (w : Option V) (low high : Shape V) → IsSeen d p w low high → (k : Prefix) → s.entries ≡ all_of p w low high → s.root ≡ Some p → found (all_of p w low high) k ≡ None → IsUpdated step false d s k
updated_none step d s p w low high seen k entries root none =
    let own : found d.entries k ≡ None = ap (λ es. found es k) seen.entries ∙ none in
    record { updates = rw own (refl, entries ∙ sym seen.entries); same_root = root ∙ sym seen.root }
