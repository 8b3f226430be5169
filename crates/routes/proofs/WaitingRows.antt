-- What waits for a slot's peer is what is owed to it.
use Rattle.std.proofs.Common.{◌≡◌, ◌<◌, ◌≤◌, ◌&&◌, ◌||◌, ℕ, Bool, true, false, not, cond, List, [], Option, Some, None, IfSome, IfNone, IsSome, is_some, refl, sym, ◌∙◌, arith}
use Rattle.std.specs.List.{list_any}
use Rattle.std.specs.Option.{option_map}
use Rattle.std.specs.Ordering.{is_gt}
use Rattle.std.specs.Str.{bytes_eq}
use Rattle.bgp_conf.specs.Configuration.{Configuration, peer_at}
use Rattle.bgp_conf.specs.declared.conf.ConfiguredPeer.{ConfiguredPeer}
use Rattle.bgp_fsm.specs.StateTests.{is_established}
use Rattle.decision.specs.BookContents.{BookState, rows_of}
use Rattle.net_prefix.specs.PrefixOrder.{IsAbove, prefix_cmp}
use Rattle.net_prefix.specs.declared.prefix.Prefix.{Prefix}
use Rattle.rib_in.specs.LatestRoutes.{RouteTable}
use Rattle.rib_out.specs.Alike.{AlikeState}
use Rattle.rib_out.specs.Held.{asked_at, held_at, is_prefix}
use Rattle.rib_out.specs.Waiting.{WaitingState}
use Rattle.rib_out.specs.declared.marks.Owed.TheVariants.{Announcement}
use Rattle.rib_out.proofs.HeldTables.{held_if_asked}
use Rattle.routing.specs.Export.{export_in, export_peer_of}
use Rattle.routing.specs.Linked.{Linked}
use Rattle.routing.specs.Marks.{AreFew, IsNextMarked, IsNextOf, mark_for, mark_of, no_mark, owed_for}
use Rattle.routing.specs.RoutesState.{RoutesState}
use Rattle.routing.specs.Tables.{best_at, link_at}
use Rattle.routing.specs.Waiting.{differing, is_same, known_prefixes, waiting_at}
use Rattle.routes.specs.WaitingRows.{is_waiting}
use Rattle.routing.proofs.Owing.{routing_of}
use Rattle.routing.proofs.WaitingLists.{any_differing}

-- the next one stands above
pub next_above : (There : Prefix → Type 0) (after r : Option Prefix) → IsNextOf There after r → IfSome r (λ p. IsAbove after p)
next_above There after None h = tt
next_above There after (Some p) h = h.1

abbrev is_member : Prefix → List Prefix → Bool
is_member q prefixes = list_any (is_prefix q) prefixes

owed_case : (same asked : Bool) → (not same || asked) ≡ is_some (cond (same && not asked) None (Some Announcement))
owed_case true true = refl
owed_case true false = refl
owed_case false asked = refl

owed_some : (export held : Option (List ℕ)) (asked : Bool) → (asked ≡ true → IsSome held) → (not (is_same held export) || asked) ≡ is_some (owed_for export held asked)
owed_some None None true there = absurd (let held = there refl in cc)
owed_some None None false there = refl
owed_some None (Some held) asked there = refl
owed_some (Some octets) None asked there = refl
owed_some (Some octets) (Some held) asked there = owed_case (bytes_eq held octets) asked

waits_of : (conf : Configuration) (adj_in : RouteTable) (book : BookState) (slot : ℕ) (q : Prefix) (found : Option ConfiguredPeer) (linked : Option Linked)
    → is_member q (waiting_at conf (rows_of book) adj_in (option_map (export_peer_of conf slot) found) linked) ≡ is_some (mark_of conf adj_in book slot q found linked).owed
waits_of conf adj_in book slot q None linked = refl
waits_of conf adj_in book slot q (Some peer) None = refl
waits_of conf adj_in book slot q (Some peer) (Some l) = by_state (is_established l.peer.session.state)
  where
    export : Option (List ℕ)
    export = export_in conf (best_at (rows_of book)) adj_in (export_peer_of conf slot peer) q

    by_state : (b : Bool)
        → is_member q (cond b (differing l.adj_out (export_in conf (best_at (rows_of book)) adj_in (export_peer_of conf slot peer)) (known_prefixes (rows_of book) l.adj_out)) [])
        ≡ is_some (cond b (mark_for export (held_at l.adj_out q) (asked_at l.adj_out q)) no_mark).owed
    by_state true =
        any_differing conf (rows_of book) adj_in (export_peer_of conf slot peer) l.adj_out q
        ∙ owed_some export (held_at l.adj_out q) (asked_at l.adj_out q) (held_if_asked l.adj_out q)
    by_state false = refl

module _ (s : RoutesState) (waiting : WaitingState) (alike : AlikeState) (slot : ℕ) where
  -- a prefix waits just where something is owed of it
  waits_is : (q : Prefix) → is_waiting s slot q ≡ is_some (mark_of s.conf s.adj_in s.book slot q (peer_at s.conf slot) (link_at s.links slot)).owed
  waits_is q = waits_of s.conf s.adj_in s.book slot q (peer_at s.conf slot) (link_at s.links slot)

  none_from : (b : Bool) → (b ≡ true → ⊥) → b ≡ false
  none_from true not = absurd (not refl)
  none_from false not = refl

  module _ (after : Option Prefix) where
    pub owed_has : (r : Option Prefix) → IsNextMarked s.conf s.links (routing_of s waiting alike) slot after r → IfSome r (λ p. is_waiting s slot p ≡ true)
    owed_has None h = tt
    owed_has (Some p) h = waits_is p ∙ h.0

    pub owed_least : (r : Option Prefix) → IsNextMarked s.conf s.links (routing_of s waiting alike) slot after r → IfSome r (λ p. (q : Prefix) → IsAbove after q → is_waiting s slot q ≡ true → is_gt (prefix_cmp p q) ≡ false)
    owed_least None h = tt
    owed_least (Some p) h = λ q above waits. h.2 q above (sym (waits_is q) ∙ waits)

    pub owed_none : (r : Option Prefix) → IsNextMarked s.conf s.links (routing_of s waiting alike) slot after r → IfNone r ((q : Prefix) → IsAbove after q → is_waiting s slot q ≡ false)
    owed_none None h = λ q above. none_from (is_waiting s slot q) (λ waits. h q above (sym (waits_is q) ∙ waits))
    owed_none (Some p) h = tt

  unlinked : (q : Prefix) (found : Option ConfiguredPeer) (linked : Option Linked) → ((l : Linked) → linked ≡ Some l → slot < 64) → 64 ≤ slot
      → is_member q (waiting_at s.conf (rows_of s.book) s.adj_in (option_map (export_peer_of s.conf slot) found) linked) ≡ false
  unlinked q None linked within beyond = refl
  unlinked q (Some peer) None within beyond = refl
  unlinked q (Some peer) (Some l) within beyond = let low = within l refl in absurd (omega (arith, low, beyond))

  -- nothing waits for a slot that can't be there
  pub none_beyond : AreFew s.links → 64 ≤ slot → (q : Prefix) → is_waiting s slot q ≡ false
  none_beyond few beyond q = unlinked q (peer_at s.conf slot) (link_at s.links slot) (few.within slot) beyond
