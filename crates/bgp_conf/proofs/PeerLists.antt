use Rattle.std.proofs.Common.{◌≡◌, ◌≢◌, ◌==◌, ◌||◌, ℕ, Bool, true, false, cond, List, [], ◌∷◌, Option, Some, None, if◌then◌else◌, refl, sym, ap, ◌∙◌}
use Rattle.std.proofs.lemmas.Bool.{eqb-true, false≢true, ne_eqb, or_parts}
use Rattle.std.proofs.lemmas.Cmp.{nat_cmp_total}
use Rattle.std.specs.BTreeMap.{insert_entry, is_at}
use Rattle.std.specs.List.{list_any}
use Rattle.std.specs.Map.{lookup, remove_entry, values_of}
use Rattle.std.specs.Option.{option_map}
use Rattle.std.specs.Ordering.{nat_cmp, is_eq}
use Rattle.bgp_attr.proofs.EntryLists.{lookup-insert_entry}
use Rattle.policy.proofs.TableLaws.{is_same-itself}
use Rattle.policy.specs.declared.name.PolicyName.{PolicyName}
use Rattle.policy.specs.PolicyNames.{is_same}
use Rattle.bgp_conf.proofs.PrefixOrder.{is_eq-nat_cmp}
use Rattle.bgp_conf.specs.ConfAfter.{with_changed, with_peer}
use Rattle.bgp_conf.specs.declared.conf.ConfiguredPeer.{ConfiguredPeer}

-- Which peers there are where a command has changed some.

-- the peer that is put is in its slot, and in the others are those from before
pub lookup-put : (peers : List (ℕ × ConfiguredPeer)) (slot other : ℕ) (peer : ConfiguredPeer)
    → lookup (is_at (nat_cmp other)) (insert_entry nat_cmp peers slot peer) ≡ (if other == slot then Some peer else lookup (is_at (nat_cmp other)) peers)
lookup-put peers slot other peer =
    lookup-insert_entry nat_cmp_total other slot peer peers
    ∙ ap (λ b. cond b (Some peer) (lookup (is_at (nat_cmp other)) peers)) (is_eq-nat_cmp slot other)

-- where a peer is taken out, those of the other slots stay
module _ (slot other : ℕ) (apart : other ≢ slot) where
  out_case : (e : ℕ × ConfiguredPeer) (es : List (ℕ × ConfiguredPeer)) (b : Bool) → is_eq (nat_cmp slot e.0) ≡ b
      → lookup (is_at (nat_cmp other)) (remove_entry (is_at (nat_cmp slot)) es) ≡ lookup (is_at (nat_cmp other)) es
      → lookup (is_at (nat_cmp other)) (cond b es (e ∷ remove_entry (is_at (nat_cmp slot)) es)) ≡ lookup (is_at (nat_cmp other)) (e ∷ es)
  out_case e es true here more =
      let is : e.0 ≡ slot = eqb-true e.0 slot (sym (is_eq-nat_cmp slot e.0) ∙ here) in
      let off : is_eq (nat_cmp other e.0) ≡ false = is_eq-nat_cmp other e.0 ∙ ne_eqb e.0 other (λ same. apart (sym same ∙ is)) in
      rw off refl
  out_case e es false here more = ap (cond (is_at (nat_cmp other) e.0) (Some e.1)) more

  pub lookup-out : (peers : List (ℕ × ConfiguredPeer)) → lookup (is_at (nat_cmp other)) (remove_entry (is_at (nat_cmp slot)) peers) ≡ lookup (is_at (nat_cmp other)) peers
  lookup-out [] = refl
  lookup-out (e ∷ es) = out_case e es (is_eq (nat_cmp slot e.0)) refl (lookup-out es)

-- where a peer is changed, it is in its slot, and in the others are those from before
module _ (peers : List (ℕ × ConfiguredPeer)) (slot other : ℕ) (change : ConfiguredPeer → ConfiguredPeer) where
  none_case : (b : Bool) → (other == slot) ≡ b → lookup (is_at (nat_cmp slot)) peers ≡ None
      → lookup (is_at (nat_cmp other)) peers ≡ cond b None (lookup (is_at (nat_cmp other)) peers)
  none_case true is none = ap (λ s. lookup (is_at (nat_cmp s)) peers) (eqb-true other slot is) ∙ none
  none_case false is none = refl

  found_case : (found : Option ConfiguredPeer) → lookup (is_at (nat_cmp slot)) peers ≡ found
      → lookup (is_at (nat_cmp other)) (with_peer peers slot (option_map change found))
      ≡ (if other == slot then option_map change found else lookup (is_at (nat_cmp other)) peers)
  found_case (Some peer) is = lookup-put peers slot other (change peer)
  found_case None is = none_case (other == slot) refl is

  pub lookup-with_changed : lookup (is_at (nat_cmp other)) (with_changed peers slot change)
      ≡ (if other == slot then option_map change (lookup (is_at (nat_cmp slot)) peers) else lookup (is_at (nat_cmp other)) peers)
  lookup-with_changed = found_case (lookup (is_at (nat_cmp slot)) peers) refl

-- where no peer uses a policy, none has its routes taken or announced by it
module _ (name : PolicyName) (test : ℕ → Bool) (peer : ConfiguredPeer) where
  unused_case : (b : Bool) (x : ConfiguredPeer) (rest : Option ConfiguredPeer) → (is_same x.import name ≡ false) × (is_same x.export name ≡ false)
      → (rest ≡ Some peer → (is_same peer.import name ≡ false) × (is_same peer.export name ≡ false)) → cond b (Some x) rest ≡ Some peer → (is_same peer.import name ≡ false) × (is_same peer.export name ≡ false)
  unused_case true x rest here more found =
      let is : x ≡ peer = cc in
      (ap (λ (p : ConfiguredPeer). is_same p.import name) (sym is) ∙ here.0, ap (λ (p : ConfiguredPeer). is_same p.export name) (sym is) ∙ here.1)
  unused_case false x rest here more found = more found

  unused_in : (peers : List (ℕ × ConfiguredPeer)) → list_any (λ p. is_same p.import name || is_same p.export name) (values_of peers) ≡ false
      → lookup test peers ≡ Some peer → (is_same peer.import name ≡ false) × (is_same peer.export name ≡ false)
  unused_in [] none found = absurd cc
  unused_in (e ∷ es) none found =
      let parts = or_parts (is_same e.1.import name || is_same e.1.export name) (list_any (λ (p : ConfiguredPeer). is_same p.import name || is_same p.export name) (values_of es)) none in
      unused_case (test e.0) e.1 (lookup test es) (or_parts (is_same e.1.import name) (is_same e.1.export name) parts.0) (unused_in es parts.1) found

  other_name : (used : PolicyName) → is_same used name ≡ false → used ≢ name
  other_name used apart same = false≢true (sym apart ∙ ap (λ n. is_same n name) same ∙ is_same-itself name)

  pub import-unused : (peers : List (ℕ × ConfiguredPeer)) → list_any (λ p. is_same p.import name || is_same p.export name) (values_of peers) ≡ false
      → lookup test peers ≡ Some peer → peer.import ≢ name
  import-unused peers none found = other_name peer.import (unused_in peers none found).0

  pub export-unused : (peers : List (ℕ × ConfiguredPeer)) → list_any (λ p. is_same p.import name || is_same p.export name) (values_of peers) ≡ false
      → lookup test peers ≡ Some peer → peer.export ≢ name
  export-unused peers none found = other_name peer.export (unused_in peers none found).1
