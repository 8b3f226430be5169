-- A whole message of a slot's connection, by what it brings to the routes (RFC 4271 sections 3.2 and 6).
use Rattle.std.specs.Prelude.{◌≡◌, ◌≢◌, ◌==◌, ◌⊎◌, ℕ, List, Option, Some, None, false, if◌then◌else◌}
use Rattle.bgp_attr.specs.declared.peer.PeerKind.{PeerKind}
use Rattle.bgp_fsm.specs.StateTests.{is_established}
use Rattle.bgp_fsm.specs.declared.state.State.{State}
use Rattle.bgp_fsm.specs.declared.state.State.TheVariants.{Established}
use Rattle.bgp_msg.specs.MessageStream.{Item, WholeMessage, FaultyHeader, meaning}
use Rattle.bgp_msg.specs.UpdateMeaning.{UpdateBody, update_fault}
use Rattle.bgp_msg.specs.declared.frame.MessageType.TheVariants.{Open, Update, Notification, Keepalive, RouteRefresh}
use Rattle.bgp_peer.specs.SessionInputs.{Terms, expected_of, kind_of}
use Rattle.decision.specs.BookContents.{BookState, offer_at}
use Rattle.net_prefix.specs.declared.prefix.Prefix.{Prefix}
use Rattle.rib_in.specs.LatestRoutes.{RouteTable, route_at}
use Rattle.routing.specs.Linked.{Linked}
use Rattle.routing.specs.Updates.{NeedsMemory, is_named_if, sound_update, word_if}
use Rattle.routing.specs.declared.message.Standard.{Standard}

-- the UPDATE that an item of the stream is to a session in this state: a faultless one, while the session is Established
abbrev pub update_heard : State → Terms → Item → Option UpdateBody
update_heard state terms (FaultyHeader fault) = None
update_heard state terms (WholeMessage Open body) = None
update_heard state terms (WholeMessage Update body) = if is_established state then sound_update (kind_of terms) body (update_fault (kind_of terms) body) else None
update_heard state terms (WholeMessage Notification body) = None
update_heard state terms (WholeMessage Keepalive body) = None
update_heard state terms (WholeMessage RouteRefresh body) = None

-- these terms are what the messages are judged by
pub record AreOf (terms : Terms) (standard : Standard) : Type 0 where
  pub expected_is : standard.expected ≡ expected_of terms
  pub kind_is : standard.kind ≡ kind_of terms

-- the UPDATE, where there is one, makes this of the slot's routes, and of no other ones
abbrev pub IsHeard : ℕ → Option UpdateBody → RouteTable → RouteTable → Type 0
IsHeard slot update old new =
    (s : ℕ) (prefix : Prefix) → route_at new s prefix ≡ (if s == slot then word_if update prefix (route_at old s prefix) else route_at old s prefix)

-- the UPDATE, where there is one, leaves the candidates of all other slots, and of the slot those of each prefix that it doesn't
-- name
abbrev pub KeepsUnnamed : ℕ → Option UpdateBody → BookState → BookState → Type 0
KeepsUnnamed slot update before after =
    (s : ℕ) (prefix : Prefix) → (s ≢ slot) ⊎ (is_named_if update prefix ≡ false) → offer_at after s prefix ≡ offer_at before s prefix

-- the message at the front of the slot's rest is one that memory is taken for: an UPDATE of such a peer to an Established
-- session
pub record TakesMemoryAt (kind : PeerKind) (l : Linked) : Type 0 where
  pub body : List ℕ
  pub established : l.peer.session.state ≡ Established
  pub is : meaning l.peer.rest ≡ Some (WholeMessage Update body)
  pub needs : NeedsMemory kind body
