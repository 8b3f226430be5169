-- What a peer is owed: where that which it holds and its export differ (RFC 4271 section 9.2), and what it has asked for again
-- (RFC 2918).
use Rattle.std.specs.Prelude.{◌≡◌, ◌&&◌, not, ℕ, Bool, List, Option, Some, None, MatchOption, false, if◌then◌else◌}
use Rattle.std.specs.Option.{IsSome}
use Rattle.std.specs.Ordering.{is_gt}
use Rattle.std.specs.Str.{bytes_eq}
use Rattle.bgp_conf.specs.Configuration.{Configuration, peer_at}
use Rattle.bgp_conf.specs.declared.conf.ConfiguredPeer.{ConfiguredPeer}
use Rattle.bgp_fsm.specs.declared.state.State.TheVariants.{Established}
use Rattle.net_prefix.specs.PrefixOrder.{IsAbove, prefix_cmp}
use Rattle.net_prefix.specs.declared.prefix.Prefix.{Prefix}
use Rattle.routing.specs.Linked.{Linked}
use Rattle.routing.specs.Tables.{link_at}

-- what is held and isn't exported, and so is withdrawn
abbrev pub withdrawn_of : Option (List ℕ) → Option (List ℕ) → Option (List ℕ)
withdrawn_of None held = held
withdrawn_of (Some octets) held = None

-- what is exported and isn't held just so, or was asked for again, and so is announced
abbrev pub announced_of : Option (List ℕ) → Option (List ℕ) → Bool → Option (List ℕ)
announced_of None held asked = None
announced_of (Some octets) None asked = Some octets
announced_of (Some octets) (Some held) asked = if bytes_eq held octets && not asked then None else Some octets

-- the slot has a configured peer whose session is Established
abbrev pub IsServed : Configuration → List (ℕ × Linked) → ℕ → Type 0
IsServed conf links slot = (peer : ConfiguredPeer) × (l : Linked) × (peer_at conf slot ≡ Some peer) × (link_at links slot ≡ Some l) × (l.peer.session.state ≡ Established)

-- the least prefix above the given one to which there is something, if there is one
abbrev pub IsNext : {X : Type 0} → (Prefix → Option X) → Option Prefix → Option Prefix → Type 0
IsNext there after found =
    MatchOption found ((q : Prefix) → IsAbove after q → there q ≡ None)
    (λ p. IsSome (there p) × IsAbove after p × ((q : Prefix) → IsAbove after q → IsSome (there q) → is_gt (prefix_cmp p q) ≡ false))
