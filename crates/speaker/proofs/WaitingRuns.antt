use Rattle.std.proofs.Common.{◌≡◌, ◌≤◌, ◌+◌, ◌↔◌, ℕ, Bool, true, false, List, [], ◌∷◌, Option, Some, None, Contains, length, cond, arith, refl, sym, ap, ◌∙◌, subst, inl, inr}
use Rattle.std.specs.Option.{option_map}
use Rattle.bgp_conf.specs.Configuration.{peer_at}
use Rattle.bgp_conf.specs.declared.conf.ConfiguredPeer.{ConfiguredPeer}
use Rattle.bgp_fsm.specs.StateTests.{is_established}
use Rattle.bgp_fsm.specs.declared.session.Session.{Session}
use Rattle.bgp_fsm.specs.declared.state.State.{State}
use Rattle.bgp_fsm.specs.declared.state.State.TheVariants.{Idle, Connect, Active, OpenSent, OpenConfirm, Established}
use Rattle.bgp_peer.specs.SentMessages.{ring_of}
use Rattle.net_prefix.specs.declared.prefix.Prefix.{Prefix}
use Rattle.runs.specs.Agreement.{Agrees, tables_after}
use Rattle.routing.specs.Export.{IsExport, export_in, export_peer_of}
use Rattle.speaker.specs.Export.{export_to}
use Rattle.runs.specs.Held.{held}
use Rattle.routing.specs.Linked.{Linked}
use Rattle.routing.specs.LocRib.{IsLocRib}
use Rattle.runs.specs.Runs.{Run, configuration_of, history}
use Rattle.runs.specs.SpeakerState.{SpeakerState, tables_of}
use Rattle.routing.specs.Tables.{Tables, best_at, link_at, peer_route_at}
use Rattle.runs.specs.Waiting.{IsWaitingIn, waiting_of}
use Rattle.routing.specs.Waiting.{differing, known_prefixes, waiting_at}
use Rattle.runs.specs.declared.config.Config.{Config}
use Rattle.speaker.proofs.Calls.{export_peer_found, tables_same}
use Rattle.routes.proofs.OneBest.{same_export}
use Rattle.speaker.proofs.Passing.{export_of_run, news_by, news_to}
use Rattle.runs.proofs.SlotStates.{linked_from}
use Rattle.routing.proofs.WaitingLists.{differing_is}

-- What waits, as the tables stand and as a run leaves it.

none_listed : (q : Prefix) → Contains [] q → ⊥
none_listed q listed = absurd (omega (arith, listed.1))

up_from : (state : State) → is_established state ≡ true → state ≡ Established
up_from Idle is = absurd (cc)
up_from Connect is = absurd (cc)
up_from Active is = absurd (cc)
up_from OpenSent is = absurd (cc)
up_from OpenConfirm is = absurd (cc)
up_from Established is = refl

in_established : (is : Bool) (prefixes : List Prefix) (q : Prefix) → Contains (cond is prefixes []) q → (is ≡ true) × Contains prefixes q
in_established true prefixes q listed = (refl, listed)
in_established false prefixes q listed = absurd (none_listed q listed)

-- the kept export is the run's
run_export : (config : Config) (r : Run) (s : SpeakerState) (slot : ℕ) (peer : ConfiguredPeer) (q : Prefix) → Agrees config r s → peer_at s.conf slot ≡ Some peer
    → IsExport (tables_after config r) (export_peer_of (configuration_of config r) slot peer) q (export_to s slot q)
run_export config r s slot peer q a configured =
    let tables : tables_after config r ≡ tables_of s = tables_same config r s.conf s.payloads (link_at s.links) s.adj_in (sym a.holds.conf) a.holds.payloads a.holds.slots a.holds.networks in
    let P : Tables → Type 0 = λ t. IsLocRib t s.loc_rib in
    export_of_run config r s slot peer q tables (sym a.holds.conf) (subst P tables a.loc_rib) configured

-- what is listed waits after the run
from_listed : (config : Config) (r : Run) (s : SpeakerState) (slot : ℕ) (q : Prefix) (peer : Option ConfiguredPeer) (found : Option Linked) → Agrees config r s
    → peer_at s.conf slot ≡ peer → link_at s.links slot ≡ found → Contains (waiting_at s.conf s.loc_rib s.adj_in (option_map (export_peer_of s.conf slot) peer) found) q → IsWaitingIn config r slot q
from_listed config r s slot q None found a configured linked listed = absurd (none_listed q listed)
from_listed config r s slot q (Some peer) None a configured linked listed = absurd (none_listed q listed)
from_listed config r s slot q (Some peer) (Some l) a configured linked listed =
    let parts = in_established (is_established l.peer.session.state) (differing l.adj_out (export_in s.conf (best_at s.loc_rib) s.adj_in (export_peer_of s.conf slot peer)) (known_prefixes s.loc_rib l.adj_out)) q listed in
    let differs = (differing_is s.conf s.loc_rib s.adj_in (export_peer_of s.conf slot peer) l.adj_out q).0 parts.1 in
    let here = (a.holds.slots slot).link l linked in
    record {
      peer = peer;
      export = export_to s slot q;
      configured = ap (λ c. peer_at c slot) (sym a.holds.conf) ∙ configured;
      established = sym (ap (λ (x : Session). x.state) here.peer.session) ∙ up_from l.peer.session.state parts.0;
      is_export = run_export config r s slot peer q a configured;
      waits = news_by (history config slot r) l q (export_in s.conf (best_at s.loc_rib) s.adj_in (export_peer_of s.conf slot peer) q) (export_to s slot q) here (sym (export_peer_found s slot peer q configured)) differs;
    }

-- what waits after the run is listed
to_listed : (config : Config) (r : Run) (s : SpeakerState) (slot : ℕ) (q : Prefix) → Agrees config r s → IsWaitingIn config r slot q → Contains (waiting_of s slot) q
to_listed config r s slot q a w =
    let configured : peer_at s.conf slot ≡ Some w.peer = ap (λ c. peer_at c slot) a.holds.conf ∙ w.configured in
    let found = linked_from config (peer_at s.conf slot) w.peer (link_at s.links slot) (peer_route_at s.adj_in slot) (history config slot r) configured (a.holds.slots slot) in
    let here = (a.holds.slots slot).link found.0 found.1 in
    let exports = same_export (tables_after config r) (export_peer_of (configuration_of config r) slot w.peer) q (export_to s slot q) w.export (run_export config r s slot w.peer q a configured) w.is_export in
    let listed = (differing_is s.conf s.loc_rib s.adj_in (export_peer_of s.conf slot w.peer) found.0.adj_out q).1
    (news_to (history config slot r) found.0 q (export_in s.conf (best_at s.loc_rib) s.adj_in (export_peer_of s.conf slot w.peer) q) w.export here (sym (export_peer_found s slot w.peer q configured) ∙ exports) w.waits) in
    let up : is_established found.0.peer.session.state ≡ true = ap (λ (x : Session). is_established x.state) here.peer.session ∙ ap is_established w.established in
    let B : Bool → Type 0 = λ b. Contains (cond b (differing found.0.adj_out (export_in s.conf (best_at s.loc_rib) s.adj_in (export_peer_of s.conf slot w.peer)) (known_prefixes s.loc_rib found.0.adj_out)) []) q in
    let L : Option Linked → Type 0 = λ l. Contains (waiting_at s.conf s.loc_rib s.adj_in (Some (export_peer_of s.conf slot w.peer)) l) q in
    let C : Option ConfiguredPeer → Type 0 = λ peer. Contains (waiting_at s.conf s.loc_rib s.adj_in (option_map (export_peer_of s.conf slot) peer) (link_at s.links slot)) q in
    subst C (sym configured) (subst L (sym found.1) (subst B (sym up) listed))

-- for each run that the speaker agrees with, the list has what waits after it
pub waiting_agrees : (config : Config) (r : Run) (s : SpeakerState) (slot : ℕ) (q : Prefix) → Agrees config r s → Contains (waiting_of s slot) q ↔ IsWaitingIn config r slot q
waiting_agrees config r s slot q a = (from_listed config r s slot q (peer_at s.conf slot) (link_at s.links slot) a refl refl, to_listed config r s slot q a)

-- where 8,192 octets of the ring are free, nothing waits
settled_none : (config : Config) (r : Run) (s : SpeakerState) (slot : ℕ) (q : Prefix) → Agrees config r s → length (ring_of (history config slot r)) + 8192 ≤ 65536
    → IsWaitingIn config r slot q → ⊥
settled_none config r s slot q a room w =
    let has = a.settled slot w.peer w.configured w.established room q in
    elim w.waits [
      | inl other ↦ other (same_export (tables_after config r) (export_peer_of (configuration_of config r) slot w.peer) q (held (history config slot r) q) w.export has.0 w.is_export)
      | inr again ↦ cc
    ]

empty : (prefixes : List Prefix) → ((q : Prefix) → Contains prefixes q → ⊥) → prefixes ≡ []
empty [] none = refl
empty (p ∷ prefixes) none = absurd (none p (0, omega arith, refl))

pub waiting_settled : (config : Config) (r : Run) (s : SpeakerState) (slot : ℕ) → Agrees config r s → length (ring_of (history config slot r)) + 8192 ≤ 65536 → waiting_of s slot ≡ []
waiting_settled config r s slot a room =
    empty (waiting_of s slot) (λ q listed. settled_none config r s slot q a room ((waiting_agrees config r s slot q a).0 listed))
