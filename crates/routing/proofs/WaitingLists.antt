use Rattle.std.proofs.Common.{◌≡◌, ◌≢◌, ◌↔◌, ◌&&◌, ◌||◌, ℕ, Bool, true, false, not, cond, List, [], ◌∷◌, Option, Some, None, Contains, IsTrue, filter, is_some, refl, sym, ap, ◌∙◌, ◌⊎◌, inl, inr}
use Rattle.std.specs.Bool.{Decides}
use Rattle.std.specs.Cmp.{eq_by_cmp_equiv}
use Rattle.std.specs.List.{list_any}
use Rattle.std.specs.List.Sorted.{IsStrictlySortedBy}
use Rattle.std.specs.Map.{keys_of}
use Rattle.std.specs.Option.{option_and_then}
use Rattle.std.proofs.lemmas.List.Kept.{IsStrictlySortedBy-filter}
use Rattle.std.proofs.lemmas.Map.Made.{is_some-lookup}
use Rattle.std.proofs.lemmas.Map.Views.{list_any-from_Contains, Contains-from_any}
use Rattle.std.proofs.lemmas.Slice.Eq.{bytes_eq-Decides}
use Rattle.bgp_fsm.specs.StateTests.{is_established}
use Rattle.bgp_fsm.specs.declared.state.State.{State}
use Rattle.bgp_fsm.specs.declared.state.State.TheVariants.{Idle, Connect, Active, OpenSent, OpenConfirm, Established}
use Rattle.decision.specs.declared.candidate.Candidate.{Candidate}
use Rattle.export_rules.specs.declared.export.ExportPeer.{ExportPeer}
use Rattle.net_prefix.specs.PrefixOrder.{prefix_cmp}
use Rattle.net_prefix.specs.declared.prefix.Prefix.{Prefix}
use Rattle.net_prefix.proofs.PayloadSets.{prefix_cmp_total}
use Rattle.rib_in.specs.LatestRoutes.{RouteTable, route_at}
use Rattle.rib_out.specs.Held.{HeldRoute, asked_at, held_at, is_prefix}
use Rattle.rib_out.proofs.HeldTables.{held_if_asked, is_some_held}
use Rattle.routing.specs.Export.{export_in, exported_at}
use Rattle.bgp_conf.specs.Configuration.{Configuration}
use Rattle.routing.specs.Linked.{Linked}
use Rattle.routing.specs.Tables.{best_at}
use Rattle.routing.specs.Waiting.{is_same, differing, if_established, known_prefixes, waiting_at}
use Rattle.routing.proofs.MergedPrefixes.{any_merged}
use Rattle.routing.proofs.Places.{same_from_is_prefix}

-- The known prefixes that differ, as a list.

pub nothing_rises : IsStrictlySortedBy prefix_cmp []
unfolding IsStrictlySortedBy
nothing_rises = tt

-- an Established peer waits for the known prefixes that differ
pub waiting_of : (conf : Configuration) (loc_rib : List (Prefix × Candidate)) (adj_in : RouteTable) (asked : Option ExportPeer) (peer : ExportPeer) (found : Option Linked) (l : Linked) → asked ≡ Some peer → found ≡ Some l → l.peer.session.state ≡ Established
    → waiting_at conf loc_rib adj_in asked found ≡ differing l.adj_out (export_in conf (best_at loc_rib) adj_in peer) (known_prefixes loc_rib l.adj_out)
waiting_of conf loc_rib adj_in asked peer found l is there up =
    ap (λ a. waiting_at conf loc_rib adj_in a found) is ∙ ap (waiting_at conf loc_rib adj_in (Some peer)) there
    ∙ ap (λ s. if_established s (differing l.adj_out (export_in conf (best_at loc_rib) adj_in peer) (known_prefixes loc_rib l.adj_out))) up

pub differing_rises : (held : List (Prefix × HeldRoute)) (export : Prefix → Option (List ℕ)) (prefixes : List Prefix) → IsStrictlySortedBy prefix_cmp prefixes → IsStrictlySortedBy prefix_cmp (differing held export prefixes)
differing_rises held export prefixes rises = IsStrictlySortedBy-filter prefix_cmp (λ prefix. not (is_same (held_at held prefix) (export prefix)) || asked_at held prefix) prefixes rises

-- what is listed, by a test
pub listed_from_any : (prefix : Prefix) (prefixes : List Prefix) → list_any (is_prefix prefix) prefixes ≡ true → Contains prefixes prefix
listed_from_any prefix prefixes found = Contains-from_any {eq = is_prefix} same_from_is_prefix prefix prefixes found

pub any_from_listed : (prefix : Prefix) (prefixes : List Prefix) → Contains prefixes prefix → list_any (is_prefix prefix) prefixes ≡ true
any_from_listed prefix prefixes listed = list_any-from_Contains (eq_by_cmp_equiv prefix_cmp_total) prefix prefixes listed

-- the test of the differing ones
kept_or_not : (here kept : Bool) (p : Prefix → Bool) (q x : Prefix) (xs : List Prefix) → is_prefix q x ≡ here → p x ≡ kept → list_any (is_prefix q) (filter p xs) ≡ (list_any (is_prefix q) xs && p q)
    → list_any (is_prefix q) (cond kept (x ∷ filter p xs) (filter p xs)) ≡ ((here || list_any (is_prefix q) xs) && p q)
kept_or_not true true p q x xs at is rest = rw at (sym (ap p (same_from_is_prefix q x at) ∙ is))
kept_or_not true false p q x xs at is rest =
    let lacks : p q ≡ false = ap p (same_from_is_prefix q x at) ∙ is in
    rest ∙ ap (λ b. list_any (is_prefix q) xs && b) lacks ∙ and_false (list_any (is_prefix q) xs) ∙ sym lacks
  where
    and_false : (b : Bool) → (b && false) ≡ false
    and_false true = refl
    and_false false = refl
kept_or_not false true p q x xs at is rest = rw at rest
kept_or_not false false p q x xs at is rest = rest

any_filter : (p : Prefix → Bool) (q : Prefix) (xs : List Prefix) → list_any (is_prefix q) (filter p xs) ≡ (list_any (is_prefix q) xs && p q)
any_filter p q [] = refl
any_filter p q (x ∷ xs) = kept_or_not (is_prefix q x) (p x) p q x xs refl refl (any_filter p q xs)

-- the test of the known ones
any_known : (loc_rib : List (Prefix × Candidate)) (held : List (Prefix × HeldRoute)) (q : Prefix)
    → list_any (is_prefix q) (known_prefixes loc_rib held) ≡ (is_some (best_at loc_rib q) || is_some (held_at held q))
any_known loc_rib held q =
    any_merged q (keys_of loc_rib) (keys_of held)
    ∙ (λ i. sym (is_some-lookup (is_prefix q) loc_rib) i || sym (is_some_held held q ∙ is_some-lookup (is_prefix q) held) i)

-- both are the same octets just where they are equal
pub is_same-Decides : (a b : Option (List ℕ)) → Decides (is_same a b) (a ≡ b)
is_same-Decides None None = (λ e. refl, λ e. refl)
is_same-Decides None (Some b) = (λ e. cc, λ e. cc)
is_same-Decides (Some a) None = (λ e. cc, λ e. cc)
is_same-Decides (Some a) (Some b) =
    let decides = bytes_eq-Decides a b in
    (λ e. ap Some (decides.0 e), λ e. decides.1 (cc))

-- what is exported of a prefix is of its best route, and what was asked for again is held
found_none : (conf : Configuration) (adj_in : RouteTable) (peer : ExportPeer) (q : Prefix) (found : Option Candidate) (held : Option (List ℕ)) (asked : Bool) → (asked ≡ true → is_some held ≡ true)
    → (not (is_same held (option_and_then (λ c. option_and_then (λ attrs. exported_at conf peer q c attrs) (route_at adj_in c.slot q)) found)) || asked) ≡ true → (is_some found || is_some held) ≡ true
found_none conf adj_in peer q None None asked there differs = absurd (let never = there differs in cc)
found_none conf adj_in peer q None (Some octets) asked there differs = refl
found_none conf adj_in peer q (Some c) held asked there differs = refl

passes_both : (a b : Bool) → (b ≡ true → a ≡ true) → (a && b) ≡ b
passes_both true b h = refl
passes_both false true h = h refl
passes_both false false h = refl

pub any_differing : (conf : Configuration) (loc_rib : List (Prefix × Candidate)) (adj_in : RouteTable) (peer : ExportPeer) (held : List (Prefix × HeldRoute)) (q : Prefix)
    → list_any (is_prefix q) (differing held (export_in conf (best_at loc_rib) adj_in peer) (known_prefixes loc_rib held)) ≡ (not (is_same (held_at held q) (export_in conf (best_at loc_rib) adj_in peer q)) || asked_at held q)
any_differing conf loc_rib adj_in peer held q =
    let test : Prefix → Bool = λ prefix. not (is_same (held_at held prefix) (export_in conf (best_at loc_rib) adj_in peer prefix)) || asked_at held prefix in
    any_filter test q (known_prefixes loc_rib held)
    ∙ passes_both (list_any (is_prefix q) (known_prefixes loc_rib held)) (test q)
    (λ differs. any_known loc_rib held q ∙ found_none conf adj_in peer q (best_at loc_rib q) (held_at held q) (asked_at held q) (held_if_asked held q) differs)

one_of : (same asked : Bool) → (not same || asked) ≡ true → (same ≡ false) ⊎ (asked ≡ true)
one_of true asked is = inr is
one_of false asked is = inl refl

from_one : (same asked : Bool) → (same ≡ true → asked ≡ true) → (not same || asked) ≡ true
from_one true asked is = is refl
from_one false asked is = refl

-- the known prefixes that differ are those of which other octets are held than are exported, and those that were asked for again
pub differing_is : (conf : Configuration) (loc_rib : List (Prefix × Candidate)) (adj_in : RouteTable) (peer : ExportPeer) (held : List (Prefix × HeldRoute)) (q : Prefix)
    → Contains (differing held (export_in conf (best_at loc_rib) adj_in peer) (known_prefixes loc_rib held)) q ↔ ((held_at held q ≢ export_in conf (best_at loc_rib) adj_in peer q) ⊎ (asked_at held q ≡ true))
differing_is conf loc_rib adj_in peer held q =
    let test = any_differing conf loc_rib adj_in peer held q in
    let same = is_same (held_at held q) (export_in conf (best_at loc_rib) adj_in peer q) in
    let decides = is_same-Decides (held_at held q) (export_in conf (best_at loc_rib) adj_in peer q) in (
      λ listed. elim (one_of same (asked_at held q) (sym test ∙ any_from_listed q _ listed)) [
        | inl other ↦ inl (λ is. let never = sym other ∙ decides.1 is in absurd (cc))
        | inr asked ↦ inr asked
      ],
      λ differs. listed_from_any q _ (test ∙ from_one same (asked_at held q) (λ is. elim differs [ inl other ↦ absurd (other (decides.0 is)) | inr asked ↦ asked ])),
    )

pub not_established : (state : State) → (state ≡ Established → IsTrue false) → is_established state ≡ false
not_established Idle never = refl
not_established Connect never = refl
not_established Active never = refl
not_established OpenSent never = refl
not_established OpenConfirm never = refl
not_established Established never = let impossible = never refl in cc

-- nothing is listed of a slot that is there and whose session isn't Established
pub none_listed : (conf : Configuration) (loc_rib : List (Prefix × Candidate)) (adj_in : RouteTable) (peer : ExportPeer) (l : Linked) (found : Option ExportPeer) (link : Option Linked)
    → Some peer ≡ found → Some l ≡ link → (l.peer.session.state ≡ Established → IsTrue false) → [] ≡ waiting_at conf loc_rib adj_in found link
none_listed conf loc_rib adj_in peer l found link there linked never =
    let all = differing l.adj_out (export_in conf (best_at loc_rib) adj_in peer) (known_prefixes loc_rib l.adj_out) in
    sym (ap (λ b. cond b all []) (not_established l.peer.session.state never))
    ∙ ap (λ x. waiting_at conf loc_rib adj_in x (Some l)) there
    ∙ ap (λ x. waiting_at conf loc_rib adj_in found x) linked

-- nothing is listed of a slot that isn't there
pub none_there : (conf : Configuration) (loc_rib : List (Prefix × Candidate)) (adj_in : RouteTable) (peer : ExportPeer) (found : Option ExportPeer) (link : Option Linked) → Some peer ≡ found → None ≡ link → [] ≡ waiting_at conf loc_rib adj_in found link
none_there conf loc_rib adj_in peer found link there linked = ap (λ x. waiting_at conf loc_rib adj_in x None) there ∙ ap (λ x. waiting_at conf loc_rib adj_in found x) linked

-- what is listed of a slot that is there and whose session is Established
pub listed_of : (conf : Configuration) (loc_rib : List (Prefix × Candidate)) (adj_in : RouteTable) (peer : ExportPeer) (l : Linked) (found : Option ExportPeer) (link : Option Linked) (prefixes : List Prefix)
    → Some peer ≡ found → Some l ≡ link → l.peer.session.state ≡ Established
    → prefixes ≡ differing l.adj_out (export_in conf (best_at loc_rib) adj_in peer) (known_prefixes loc_rib l.adj_out) → prefixes ≡ waiting_at conf loc_rib adj_in found link
listed_of conf loc_rib adj_in peer l found link prefixes there linked established is =
    let all = differing l.adj_out (export_in conf (best_at loc_rib) adj_in peer) (known_prefixes loc_rib l.adj_out) in
    is
    ∙ sym (ap (λ state. if_established state all) established)
    ∙ ap (λ x. waiting_at conf loc_rib adj_in x (Some l)) there
    ∙ ap (λ x. waiting_at conf loc_rib adj_in found x) linked
