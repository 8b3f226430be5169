-- What waits of each prefix for each peer: what it is owed, so that it holds its export (our own, for RFC 4271 section 9.2).
use Rattle.std.specs.Prelude.{◌≡◌, ◌≢◌, ◌<◌, ◌⊎◌, ◌&&◌, not, ℕ, Bool, List, [], Option, Some, None, true, false, if◌then◌else◌}
use Rattle.std.specs.Option.{IsSome, MatchOption}
use Rattle.std.specs.Ordering.{is_gt, is_lt}
use Rattle.std.specs.Str.{bytes_eq}
use Rattle.bgp_conf.specs.Configuration.{Configuration, peer_at}
use Rattle.bgp_conf.specs.declared.conf.ConfiguredPeer.{ConfiguredPeer}
use Rattle.bgp_fsm.specs.StateTests.{is_established}
use Rattle.bgp_fsm.specs.declared.session.Effects.{Effects}
use Rattle.decision.specs.BookContents.{BookState, is_prefix, rows_of}
use Rattle.net_prefix.specs.declared.prefix.Prefix.{Prefix}
use Rattle.net_prefix.specs.PrefixOrder.{IsAbove, prefix_cmp}
use Rattle.rib_in.specs.LatestRoutes.{RouteTable}
use Rattle.rib_out.specs.Alike.{IsListed}
use Rattle.rib_out.specs.Held.{asked_at, held_at}
use Rattle.rib_out.specs.Waiting.{IsAwaited}
use Rattle.rib_out.specs.declared.marks.Owed.{Owed}
use Rattle.rib_out.specs.declared.marks.Owed.TheVariants.{Announcement, Withdrawal}
use Rattle.routing.specs.Export.{export_in, export_peer_of}
use Rattle.routing.specs.Linked.{Linked}
use Rattle.routing.specs.RoutingState.{RoutingState}
use Rattle.routing.specs.Tables.{best_at, link_at}

-- what a peer is owed of a prefix, by what is exported to it, what it holds, and whether it has asked for it again
abbrev pub owed_for : Option (List ℕ) → Option (List ℕ) → Bool → Option Owed
owed_for None None asked = None
owed_for None (Some held) asked = Some Withdrawal
owed_for (Some octets) None asked = Some Announcement
owed_for (Some octets) (Some held) asked = if bytes_eq held octets && not asked then None else Some Announcement

-- what a peer is owed of a prefix, with the octets of attributes that are exported to it
pub record Mark : Type 0 where
  pub owed : Option Owed
  pub octets : List ℕ

abbrev pub no_mark : Mark
no_mark = record { owed = None; octets = [] }

abbrev pub octets_of : Option (List ℕ) → List ℕ
octets_of None = []
octets_of (Some octets) = octets

abbrev pub mark_for : Option (List ℕ) → Option (List ℕ) → Bool → Mark
mark_for export held asked = record { owed = owed_for export held asked; octets = octets_of export }

-- the mark of a prefix for the peer of a slot; none, where its session isn't Established
abbrev pub mark_of : Configuration → RouteTable → BookState → ℕ → Prefix → Option ConfiguredPeer → Option Linked → Mark
mark_of conf adj_in book slot prefix None linked = no_mark
mark_of conf adj_in book slot prefix (Some peer) None = no_mark
mark_of conf adj_in book slot prefix (Some peer) (Some l) =
    if is_established l.peer.session.state
    then mark_for (export_in conf (best_at (rows_of book)) adj_in (export_peer_of conf slot peer) prefix) (held_at l.adj_out prefix) (asked_at l.adj_out prefix)
    else no_mark

-- the same of these tables
abbrev pub mark_at : Configuration → List (ℕ × Linked) → RoutingState → ℕ → Prefix → Mark
mark_at conf links t slot prefix = mark_of conf t.adj_in t.book slot prefix (peer_at conf slot) (link_at links slot)

-- just this waits of the prefix for the slot, where its queue is whole, and where it is owed to be announced, it is listed by
-- the octets that are written
pub record IsMarked (mark : Mark) (t : RoutingState) (slot : ℕ) (prefix : Prefix) : Type 0 where
  pub waits : IsAwaited t.waiting slot prefix mark.owed
  pub listed : mark.owed ≡ Some Announcement → IsListed t.alike slot mark.octets prefix

-- what is to be announced with these octets
abbrev pub IsMarkedSo : Mark → List ℕ → Type 0
IsMarkedSo mark octets = (mark.owed ≡ Some Announcement) × (mark.octets ≡ octets)

-- the least prefix above the given one, or of all, of which this holds, if there is one
abbrev pub IsNextOf : (Prefix → Type 0) → Option Prefix → Option Prefix → Type 0
IsNextOf There after found =
    MatchOption found ((q : Prefix) → IsAbove after q → There q → ⊥)
    (λ p. There p × IsAbove after p × ((q : Prefix) → IsAbove after q → There q → is_gt (prefix_cmp p q) ≡ false))

-- the least of which this is owed to the slot's peer
abbrev pub IsNextOwed : Configuration → List (ℕ × Linked) → RoutingState → ℕ → Owed → Option Prefix → Option Prefix → Type 0
IsNextOwed conf links t slot owed after found = IsNextOf (λ q. (mark_at conf links t slot q).owed ≡ Some owed) after found

-- the least of which anything is
abbrev pub IsNextMarked : Configuration → List (ℕ × Linked) → RoutingState → ℕ → Option Prefix → Option Prefix → Type 0
IsNextMarked conf links t slot after found = IsNextOf (λ q. IsSome (mark_at conf links t slot q).owed) after found

-- the lesser of two prefixes, or the one that there is
abbrev pub lesser : Option Prefix → Option Prefix → Option Prefix
lesser None other = other
lesser (Some p) None = Some p
lesser (Some p) (Some q) = if is_lt (prefix_cmp q p) then Some q else Some p

-- there are 64 slots at most
pub record AreFew (links : List (ℕ × Linked)) : Type 0 where
  pub within : (slot : ℕ) (l : Linked) → link_at links slot ≡ Some l → slot < 64

-- of each prefix there waits for each slot just what its peer is owed, listed by the octets that are written
pub record AreMarked (conf : Configuration) (links : List (ℕ × Linked)) (t : RoutingState) : Type 0 where
  pub there : AreFew links
  pub marks : (slot : ℕ) (prefix : Prefix) → slot < 64 → IsMarked (mark_at conf links t slot prefix) t slot prefix

-- so it is of all prefixes but this one, of which nothing waits where there is no slot
pub record AreMarkedBut (prefix : Prefix) (conf : Configuration) (links : List (ℕ × Linked)) (t : RoutingState) : Type 0 where
  pub there : AreFew links
  pub marks : (slot : ℕ) (p : Prefix) → slot < 64 → is_prefix prefix p ≡ false → IsMarked (mark_at conf links t slot p) t slot p
  pub none : (slot : ℕ) → slot < 64 → link_at links slot ≡ None → IsAwaited t.waiting slot prefix None

-- so it is of the slots of which this holds, and of the others where a prefix has no best route, so that nothing of it is
-- exported; nothing waits where there is no slot
pub record AreMarkedFor (done : ℕ → Bool) (conf : Configuration) (links : List (ℕ × Linked)) (t : RoutingState) : Type 0 where
  pub there : AreFew links
  pub marks : (slot : ℕ) (prefix : Prefix) → slot < 64 → (done slot ≡ true) ⊎ (best_at (rows_of t.book) prefix ≡ None) → IsMarked (mark_at conf links t slot prefix) t slot prefix
  pub none : (slot : ℕ) (prefix : Prefix) → slot < 64 → link_at links slot ≡ None → IsAwaited t.waiting slot prefix None

-- so it is of all slots but this one, for which nothing waits
pub record IsUnmarked (conf : Configuration) (links : List (ℕ × Linked)) (slot : ℕ) (t : RoutingState) : Type 0 where
  pub there : AreFew links
  pub others : (s : ℕ) (p : Prefix) → s < 64 → s ≢ slot → IsMarked (mark_at conf links t s p) t s p
  pub none : (p : Prefix) → IsAwaited t.waiting slot p None

-- the slot's session has taken an input with these effects, and this tells whether its peer asks for a route for which it
-- hadn't asked: so it is of all other slots, and of this one too, where it neither left nor entered Established, and its peer
-- doesn't ask so or the prefix has no best route
pub record IsFollowed (conf : Configuration) (links : List (ℕ × Linked)) (slot : ℕ) (effects : Effects) (asks : Bool) (t : RoutingState) : Type 0 where
  pub within : slot < 64
  pub linked : IsSome (link_at links slot)
  pub there : AreFew links
  pub others : (s : ℕ) (p : Prefix) → s < 64 → s ≢ slot → IsMarked (mark_at conf links t s p) t s p
  pub same : effects.left ≡ false → effects.entered ≡ false → (p : Prefix) → (asks ≡ false) ⊎ (best_at (rows_of t.book) p ≡ None) → IsMarked (mark_at conf links t slot p) t slot p
  pub left : effects.left ≡ true → (l : Linked) → link_at links slot ≡ Some l → is_established l.peer.session.state ≡ false
  pub entered : effects.entered ≡ true → (l : Linked) → link_at links slot ≡ Some l → l.adj_out ≡ []
