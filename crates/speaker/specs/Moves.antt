-- What an input of a session makes of its slot and its routes (RFC 4271 sections 3.2 and 8.2.2).
use Rattle.std.specs.Prelude.{◌≡◌, ◌≤◌, ◌+◌, ◌&&◌, ◌==◌, ℕ, Bool, List, Option, Some, None, if◌then◌else◌}
use Rattle.bgp_conf.specs.ConfAfter.{conf_after}
use Rattle.bgp_conf.specs.Configuration.{peer_at}
use Rattle.bgp_conf.specs.declared.command.Command.TheVariants.{RemovePeer}
use Rattle.bgp_fsm.specs.SessionTable.{effects_of}
use Rattle.bgp_fsm.specs.declared.input.Input.{Input}
use Rattle.bgp_peer.specs.Slot.{pushed, handed}
use Rattle.decision.specs.BookContents.{offer_at}
use Rattle.bgp_msg.specs.MessageStream.{Item}
use Rattle.bgp_peer.specs.SessionInputs.{Terms, input_of}
use Rattle.net_prefix.specs.declared.prefix.Prefix.{Prefix}
use Rattle.routing.specs.Updates.{word_if}
use Rattle.routing.specs.Heard.{update_heard}
use Rattle.rib_in.specs.LatestRoutes.{is_route, route_at}
use Rattle.bgp_attr.specs.PathAttributes.{originated}
use Rattle.decision.specs.declared.candidate.TheConstants.{LOCAL_SLOT}
use Rattle.routing.specs.Candidates.{network_at}
use Rattle.speaker.specs.Chosen.{ChoosesHeard}
use Rattle.routing.specs.Chosen.{Ends}
use Rattle.routing.specs.Linked.{Linked, moved}
use Rattle.routing.specs.Offers.{AreKept}
use Rattle.runs.specs.SpeakerState.{SpeakerState, in_force_of, tables_of}
use Rattle.routing.specs.Tables.{link_at}

-- the slot becomes another, and no other slot changes
abbrev pub IsPut : ℕ → Linked → SpeakerState → SpeakerState → Type 0
IsPut slot l old new = (s : ℕ) → link_at new.links s ≡ (if s == slot then Some l else link_at old.links s)

-- the settings, the moment, the configuration, the cache session, the payloads and the count of the calls before stay
pub record KeepsRest (old new : SpeakerState) : Type 0 where
  pub config : new.config ≡ old.config
  pub moment : new.moment ≡ old.moment
  pub conf : new.conf ≡ old.conf
  pub cache : new.cache ≡ old.cache
  pub payloads : new.payloads ≡ old.payloads
  pub chosen_before : new.chosen_before ≡ old.chosen_before

-- the slot isn't there any more, and no other slot changes
pub record IsWithout (slot : ℕ) (old new : SpeakerState) : Type 0 where
  pub links : (s : ℕ) → link_at new.links s ≡ (if s == slot then None else link_at old.links s)
  pub routes : new.adj_in ≡ old.adj_in
  pub book : new.book ≡ old.book
  pub chosen : new.chosen ≡ old.chosen
  pub rest : KeepsRest old new

-- the peer of a slot is taken from the configuration, and what is left of its routes goes
pub record Forgets (slot : ℕ) (old new : SpeakerState) : Type 0 where
  pub conf : new.conf ≡ conf_after old.conf (RemovePeer slot)
  pub peers : (s : ℕ) → peer_at new.conf s ≡ (if s == slot then None else peer_at old.conf s)
  pub links : new.links ≡ old.links
  pub routes : (s : ℕ) (prefix : Prefix) → route_at new.adj_in s prefix ≡ (if s == slot then None else route_at old.adj_in s prefix)
  pub offers : (s : ℕ) (prefix : Prefix) → offer_at new.book s prefix ≡ (if s == slot then None else offer_at old.book s prefix)
  pub chosen : Ends slot old.adj_in old.chosen new.chosen
  pub config : new.config ≡ old.config
  pub moment : new.moment ≡ old.moment
  pub cache : new.cache ≡ old.cache
  pub payloads : new.payloads ≡ old.payloads
  pub chosen_before : new.chosen_before ≡ old.chosen_before

-- a local network comes: its route, with the candidate that it makes, and nothing else changes
pub record Announces (network : Prefix) (old new : SpeakerState) : Type 0 where
  pub routes : (s : ℕ) (p : Prefix) → route_at new.adj_in s p ≡ (if is_route LOCAL_SLOT network s p then Some originated else route_at old.adj_in s p)
  pub offers : (s : ℕ) (p : Prefix) → offer_at new.book s p ≡ (if is_route LOCAL_SLOT network s p then Some (network_at old.conf.own (in_force_of old) originated network) else offer_at old.book s p)
  pub links : new.links ≡ old.links
  pub conf : new.conf ≡ old.conf
  pub config : new.config ≡ old.config
  pub moment : new.moment ≡ old.moment
  pub cache : new.cache ≡ old.cache
  pub payloads : new.payloads ≡ old.payloads
  pub chosen : (old.chosen ≤ new.chosen) × (new.chosen ≤ old.chosen + 1)
  pub chosen_before : new.chosen_before ≡ old.chosen

-- the routes of a slot go where it leaves Established, and no other routes change
abbrev pub IsDropped : Bool → ℕ → SpeakerState → SpeakerState → Type 0
IsDropped left slot old new =
    (s : ℕ) (prefix : Prefix) → route_at new.adj_in s prefix ≡ (if left && s == slot then None else route_at old.adj_in s prefix)

-- the candidates of a slot go with its routes
abbrev pub AreDropped : Bool → ℕ → SpeakerState → SpeakerState → Type 0
AreDropped left slot old new =
    (s : ℕ) (prefix : Prefix) → offer_at new.book s prefix ≡ (if left && s == slot then None else offer_at old.book s prefix)

-- where the candidates that were kept were those of all routes, they still are
abbrev pub KeepsKept : SpeakerState → SpeakerState → Type 0
KeepsKept old new = AreKept (tables_of old) (offer_at old.book) → AreKept (tables_of new) (offer_at new.book)

-- the input makes this of the slot and its routes, and of nothing else
pub record Moves (slot : ℕ) (l : Linked) (input : Input) (old new : SpeakerState) : Type 0 where
  pub links : IsPut slot (moved old.moment l input) old new
  pub routes : IsDropped (effects_of input l.peer.session).left slot old new
  pub offers : AreDropped (effects_of input l.peer.session).left slot old new
  pub rest : KeepsRest old new

-- octets are put behind the rest of the slot, as many as this
pub record Pushes (slot : ℕ) (l : Linked) (octets : List ℕ) (old new : SpeakerState) : Type 0 where
  pub links : IsPut slot (record { peer = pushed l.peer octets; adj_out = l.adj_out }) old new
  pub routes : new.adj_in ≡ old.adj_in
  pub book : new.book ≡ old.book
  pub chosen : new.chosen ≡ old.chosen
  pub rest : KeepsRest old new

-- where the rest is this item, it is taken: what it is to the session makes this of the slot, its UPDATE of the routes
abbrev pub TakesItem : ℕ → Terms → Linked → Option Item → SpeakerState → SpeakerState → Type 0
TakesItem slot terms l None old new =
    ((s : ℕ) → link_at new.links s ≡ link_at old.links s) × ((s : ℕ) (prefix : Prefix) → route_at new.adj_in s prefix ≡ route_at old.adj_in s prefix) × KeepsKept old new × KeepsRest old new
    × (new.chosen ≡ old.chosen)
TakesItem slot terms l (Some item) old new =
    IsPut slot (moved old.moment l (input_of l.peer.session.state terms item)) old new
    × ((s : ℕ) (prefix : Prefix) → route_at new.adj_in s prefix
    ≡ (if (effects_of (input_of l.peer.session.state terms item) l.peer.session).left && s == slot then None
    else (if s == slot then word_if (update_heard l.peer.session.state terms item) prefix (route_at old.adj_in s prefix) else route_at old.adj_in s prefix)))
    × KeepsKept old new
    × KeepsRest old new
    × ChoosesHeard slot (update_heard l.peer.session.state terms item) (effects_of (input_of l.peer.session.state terms item) l.peer.session).left old new

-- so many of the first octets of the slot's ring are handed out
pub record Hands (slot : ℕ) (l : Linked) (count : ℕ) (old new : SpeakerState) : Type 0 where
  pub links : IsPut slot (record { peer = handed l.peer count; adj_out = l.adj_out }) old new
  pub routes : new.adj_in ≡ old.adj_in
  pub book : new.book ≡ old.book
  pub loc_rib : new.loc_rib ≡ old.loc_rib
  pub chosen : new.chosen ≡ old.chosen
  pub rest : KeepsRest old new
