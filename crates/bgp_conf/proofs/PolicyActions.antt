use Rattle.std.proofs.Common.{◌≡◌, ◌≢◌, ◌==◌, ◌||◌, not, ℕ, Bool, true, false, cond, List, Option, Some, None, if◌then◌else◌, refl, sym, ap, ◌∙◌}
use Rattle.std.proofs.lemmas.Bool.{eqb-true, ne_eqb, or_parts}
use Rattle.std.specs.BTreeMap.{is_at}
use Rattle.std.specs.Borrow.{Bor}
use Rattle.std.specs.List.{list_all}
use Rattle.std.specs.Option.{option_map}
use Rattle.std.specs.Ordering.{nat_cmp}
use Rattle.policy.proofs.TableLaws.{is_same-itself, rules_of-with_other, rules_of-without_other}
use Rattle.policy.specs.declared.name.PolicyName.{PolicyName}
use Rattle.policy.specs.declared.refusal.PolicyRefusal.{PolicyRefusal}
use Rattle.policy.specs.declared.refusal.PolicyRefusal.TheVariants.{InUse, Range, UnknownName}
use Rattle.policy.specs.declared.rule.Rule.{Rule}
use Rattle.policy.specs.PolicyMeaning.{Route}
use Rattle.policy.specs.PolicyNames.{is_built_in, is_policy_name, is_same, name_of}
use Rattle.policy.specs.PolicyRefusals.{drop_refusal, is_in_range, set_refusal}
use Rattle.policy.specs.PolicyTable.{PolicyTable, is_known, policy_action, with_policy, without_policy}
use Rattle.bgp_conf.proofs.PeerLists.{export-unused, import-unused, lookup-out, lookup-put, lookup-with_changed}
use Rattle.bgp_conf.specs.ConfAfter.{conf_after, exporting, importing, with_changed}
use Rattle.bgp_conf.specs.Configuration.{AddressesDiffer, Configuration, peer_at, uses_policy}
use Rattle.bgp_conf.specs.FirstRefusal.{first_refusal}
use Rattle.bgp_conf.specs.PeerPolicies.{action_by, export_action, exports_by, has_export, import_action}
use Rattle.bgp_conf.specs.RefusalNumbers.{refusal_of}
use Rattle.bgp_conf.specs.declared.command.Command.TheVariants.{AddPeer, RemovePeer, SetPolicy, DropPolicy, UseIn, UseOut}
use Rattle.bgp_conf.specs.declared.command.PeerConf.{PeerConf}
use Rattle.bgp_conf.specs.declared.conf.ConfiguredPeer.{ConfiguredPeer}

-- What commands leave of what policies make of the routes of peers.

-- ---- policies that are dropped, and others that are set
none_before : (o : Option PolicyRefusal) → option_map refusal_of o ≡ None → o ≡ None
none_before None h = refl
none_before (Some why) h = absurd cc

-- where no test of a chain holds, the third doesn't
third_false : (a b d : Bool) (r s t : PolicyRefusal) → (if a then Some r else (if b then Some s else (if d then Some t else None))) ≡ None → d ≡ false
third_false true b d r s t h = absurd cc
third_false false true d r s t h = absurd cc
third_false false false true r s t h = absurd cc
third_false false false false r s t h = refl

-- no peer uses a policy that may be dropped
droppable-unused : (table : PolicyTable) (text : List ℕ) (in_use : Bool) → drop_refusal table text in_use ≡ None → in_use ≡ false
unfolding drop_refusal
droppable-unused table text in_use h =
    (or_parts (is_built_in (name_of text)) in_use
    (third_false (not (is_policy_name text)) (not (is_known table (name_of text))) (is_built_in (name_of text) || in_use) Range UnknownName InUse h)).1

pub uses_policy-from_accepted : (conf : Configuration) (closing : ℕ) (name : Bor (List ℕ)) → first_refusal conf closing (DropPolicy name) ≡ None → uses_policy conf (name_of name.now) ≡ false
uses_policy-from_accepted conf closing name accepted =
    droppable-unused conf.policies name.now (uses_policy conf (name_of name.now)) (none_before _ accepted)

-- a policy that may be set has a name
named_case : (named ranged : Bool) (why : PolicyRefusal) (rest : Option PolicyRefusal) → (if not named || not ranged then Some why else rest) ≡ None → named ≡ true
named_case true ranged why rest h = refl
named_case false ranged why rest h = absurd cc

settable-named : (table : PolicyTable) (text : List ℕ) (rules : List Rule) → set_refusal table text rules ≡ None → is_policy_name text ≡ true
unfolding set_refusal
settable-named table text rules h = named_case (is_policy_name text) (list_all is_in_range rules) Range _ h

pub is_policy_name-from_accepted : (conf : Configuration) (closing : ℕ) (name : Bor (List ℕ)) (rules : Bor (List Rule)) → first_refusal conf closing (SetPolicy name rules) ≡ None → is_policy_name name.now ≡ true
is_policy_name-from_accepted conf closing name rules accepted = settable-named conf.policies name.now rules.now (none_before _ accepted)

policy_action-without_other : (table : PolicyTable) (name other : PolicyName) (route : Route) → name ≢ other → policy_action (without_policy table name) other route ≡ policy_action table other route
unfolding policy_action
policy_action-without_other table name other route apart = rw (rules_of-without_other table name other apart) refl

policy_action-with_other : (table : PolicyTable) (name other : PolicyName) (rules : List Rule) (route : Route) → name ≢ other → policy_action (with_policy table name rules) other route ≡ policy_action table other route
unfolding policy_action
policy_action-with_other table name other rules route apart = rw (rules_of-with_other table name other rules apart) refl

-- ---- what a command leaves of what becomes of the routes of a slot's peer, by either of its policies
-- the configuration where the peer of a slot is changed so
abbrev pub changed_conf : Configuration → ℕ → (ConfiguredPeer → ConfiguredPeer) → Configuration
changed_conf conf at change = record conf { peers = with_changed conf.peers at change }

module _ (policy : ConfiguredPeer → PolicyName) (conf : Configuration) (slot : ℕ) (route : Route) where
  other_peer : {X : Type 0} (at : ℕ) (x y : X) → slot ≢ at → (if slot == at then x else y) ≡ y
  other_peer at x y apart = rw (ne_eqb slot at apart) refl

  -- the peer is another one
  added : (at : ℕ) (peer : PeerConf) → slot ≢ at
      → action_by policy conf.policies (peer_at (conf_after conf (AddPeer at peer)) slot) route ≡ action_by policy conf.policies (peer_at conf slot) route
  added at peer apart = ap (λ p. action_by policy conf.policies p route) (lookup-put conf.peers at slot _ ∙ other_peer at _ (peer_at conf slot) apart)

  removed : (at : ℕ) → slot ≢ at
      → action_by policy conf.policies (peer_at (conf_after conf (RemovePeer at)) slot) route ≡ action_by policy conf.policies (peer_at conf slot) route
  removed at apart = ap (λ p. action_by policy conf.policies p route) (lookup-out at slot apart conf.peers)

  changed : (at : ℕ) (change : ConfiguredPeer → ConfiguredPeer) → slot ≢ at
      → action_by policy conf.policies (peer_at (changed_conf conf at change) slot) route ≡ action_by policy conf.policies (peer_at conf slot) route
  changed at change apart = ap (λ p. action_by policy conf.policies p route) (lookup-with_changed conf.peers at slot change ∙ other_peer at _ (peer_at conf slot) apart)

  -- it has the same policy
  same_case : (change : ConfiguredPeer → ConfiguredPeer) → ((peer : ConfiguredPeer) → policy (change peer) ≡ policy peer) → (found : Option ConfiguredPeer)
      → action_by policy conf.policies (option_map change found) route ≡ action_by policy conf.policies found route
  same_case change same None = refl
  same_case change same (Some peer) = ap (λ name. policy_action conf.policies name route) (same peer)

  same_at : (at : ℕ) (change : ConfiguredPeer → ConfiguredPeer) → ((peer : ConfiguredPeer) → policy (change peer) ≡ policy peer) → (b : Bool) → (slot == at) ≡ b
      → action_by policy conf.policies (cond b (option_map change (peer_at conf at)) (peer_at conf slot)) route ≡ action_by policy conf.policies (peer_at conf slot) route
  same_at at change same true here = same_case change same (peer_at conf at) ∙ ap (λ s. action_by policy conf.policies (peer_at conf s) route) (sym (eqb-true slot at here))
  same_at at change same false there = refl

  same_policy : (at : ℕ) (change : ConfiguredPeer → ConfiguredPeer) → ((peer : ConfiguredPeer) → policy (change peer) ≡ policy peer)
      → action_by policy conf.policies (peer_at (changed_conf conf at change) slot) route ≡ action_by policy conf.policies (peer_at conf slot) route
  same_policy at change same = ap (λ p. action_by policy conf.policies p route) (lookup-with_changed conf.peers at slot change) ∙ same_at at change same (slot == at) refl

  -- it doesn't use the policy that is dropped
  dropped_case : (name : PolicyName) → ((peer : ConfiguredPeer) → peer_at conf slot ≡ Some peer → policy peer ≢ name) → (found : Option ConfiguredPeer) → peer_at conf slot ≡ found
      → action_by policy (without_policy conf.policies name) found route ≡ action_by policy conf.policies found route
  dropped_case name unused None is = refl
  dropped_case name unused (Some peer) is = policy_action-without_other conf.policies name (policy peer) route (λ same. unused peer is (sym same))

module _ (conf : Configuration) (slot : ℕ) (route : Route) where
  -- the peer is another one
  pub export_action-AddPeer : (at : ℕ) (peer : PeerConf) → slot ≢ at → export_action (conf_after conf (AddPeer at peer)) slot route ≡ export_action conf slot route
  export_action-AddPeer at peer apart = added (λ p. p.export) conf slot route at peer apart

  pub export_action-RemovePeer : (at : ℕ) → slot ≢ at → export_action (conf_after conf (RemovePeer at)) slot route ≡ export_action conf slot route
  export_action-RemovePeer at apart = removed (λ p. p.export) conf slot route at apart

  pub import_action-UseIn : (at : ℕ) (name : Bor (List ℕ)) → slot ≢ at → import_action (conf_after conf (UseIn at name)) slot route ≡ import_action conf slot route
  import_action-UseIn at name apart = changed (λ p. p.import) conf slot route at (importing (name_of name.now)) apart

  pub export_action-UseOut : (at : ℕ) (name : Bor (List ℕ)) → slot ≢ at → export_action (conf_after conf (UseOut at name)) slot route ≡ export_action conf slot route
  export_action-UseOut at name apart = changed (λ p. p.export) conf slot route at (exporting (name_of name.now)) apart

  -- an import policy says nothing of what is announced, nor an export policy of what is taken
  pub export_action-UseIn : (at : ℕ) (name : Bor (List ℕ)) → export_action (conf_after conf (UseIn at name)) slot route ≡ export_action conf slot route
  export_action-UseIn at name = same_policy (λ p. p.export) conf slot route at (importing (name_of name.now)) (λ peer. refl)

  pub import_action-UseOut : (at : ℕ) (name : Bor (List ℕ)) → import_action (conf_after conf (UseOut at name)) slot route ≡ import_action conf slot route
  import_action-UseOut at name = same_policy (λ p. p.import) conf slot route at (exporting (name_of name.now)) (λ peer. refl)

  -- no peer uses a policy that is dropped
  pub import_action-DropPolicy : (closing : ℕ) (name : Bor (List ℕ)) → first_refusal conf closing (DropPolicy name) ≡ None
      → import_action (conf_after conf (DropPolicy name)) slot route ≡ import_action conf slot route
  import_action-DropPolicy closing name accepted =
      dropped_case (λ p. p.import) conf slot route (name_of name.now)
      (λ peer is. import-unused (name_of name.now) (is_at (nat_cmp slot)) peer conf.peers (uses_policy-from_accepted conf closing name accepted) is) (peer_at conf slot) refl

  pub export_action-DropPolicy : (closing : ℕ) (name : Bor (List ℕ)) → first_refusal conf closing (DropPolicy name) ≡ None
      → export_action (conf_after conf (DropPolicy name)) slot route ≡ export_action conf slot route
  export_action-DropPolicy closing name accepted =
      dropped_case (λ p. p.export) conf slot route (name_of name.now)
      (λ peer is. export-unused (name_of name.now) (is_at (nat_cmp slot)) peer conf.peers (uses_policy-from_accepted conf closing name accepted) is) (peer_at conf slot) refl

  -- what a peer is told goes by another policy than the one whose rules are set
  set_case : (name : PolicyName) (rules : List Rule) (found : Option ConfiguredPeer) → has_export name found ≡ false
      → action_by (λ p. p.export) (with_policy conf.policies name rules) found route ≡ action_by (λ p. p.export) conf.policies found route
  set_case name rules None other = refl
  set_case name rules (Some peer) other =
      policy_action-with_other conf.policies name peer.export rules route (λ same. absurd (let never = sym (is_same-itself name) ∙ ap (λ n. is_same n name) same ∙ other in cc))

  pub export_action-SetPolicy : (name : Bor (List ℕ)) (rules : Bor (List Rule)) → exports_by conf slot (name_of name.now) ≡ false
      → export_action (conf_after conf (SetPolicy name rules)) slot route ≡ export_action conf slot route
  export_action-SetPolicy name rules other = set_case (name_of name.now) rules.now (peer_at conf slot) other

-- ---- what a change of a peer's policy leaves of its settings
module _ (conf : Configuration) (at : ℕ) (change : ConfiguredPeer → ConfiguredPeer) where
  map_case : {X : Type 0} (f : ConfiguredPeer → X) → ((peer : ConfiguredPeer) → f (change peer) ≡ f peer) → (found : Option ConfiguredPeer)
      → option_map f (option_map change found) ≡ option_map f found
  map_case f same None = refl
  map_case f same (Some peer) = ap Some (same peer)

  slot_case : {X : Type 0} (f : ConfiguredPeer → X) → ((peer : ConfiguredPeer) → f (change peer) ≡ f peer) → (slot : ℕ) (b : Bool) → (slot == at) ≡ b
      → option_map f (cond b (option_map change (peer_at conf at)) (peer_at conf slot)) ≡ option_map f (peer_at conf slot)
  slot_case f same slot true is = map_case f same (peer_at conf at) ∙ ap (λ s. option_map f (peer_at conf s)) (sym (eqb-true slot at is))
  slot_case f same slot false is = refl

  -- what the change leaves is the same of each peer
  pub option_map-changed : {X : Type 0} (f : ConfiguredPeer → X) → ((peer : ConfiguredPeer) → f (change peer) ≡ f peer) → (slot : ℕ)
      → option_map f (peer_at (changed_conf conf at change) slot) ≡ option_map f (peer_at conf slot)
  option_map-changed f same slot = ap (option_map f) (lookup-with_changed conf.peers at slot change) ∙ slot_case f same slot (slot == at) refl

  -- where each peer keeps its address, these differ as before
  pub AddressesDiffer-changed : ((peer : ConfiguredPeer) → (change peer).address ≡ peer.address) → AddressesDiffer conf.peers → AddressesDiffer (changed_conf conf at change).peers
  AddressesDiffer-changed keeps differ s t p q at_s at_t same =
      let of_s = old_peer s p at_s in
      let of_t = old_peer t q at_t in
      differ s t of_s.0 of_t.0 of_s.1 of_t.1 (of_s.2 ∙ same ∙ sym of_t.2)
    where
      read_back : (found : Option ConfiguredPeer) (p : ConfiguredPeer) → Some p.address ≡ option_map (λ (x : ConfiguredPeer). x.address) found → (x : ConfiguredPeer) × (found ≡ Some x) × (x.address ≡ p.address)
      read_back None p h = absurd cc
      read_back (Some x) p h = let e : x.address ≡ p.address = cc in (x, refl, e)

      old_peer : (s : ℕ) (p : ConfiguredPeer) → peer_at (changed_conf conf at change) s ≡ Some p → (x : ConfiguredPeer) × (peer_at conf s ≡ Some x) × (x.address ≡ p.address)
      old_peer s p here = read_back (peer_at conf s) p (sym (ap (option_map (λ (x : ConfiguredPeer). x.address)) here) ∙ option_map-changed (λ (x : ConfiguredPeer). x.address) keeps s)
