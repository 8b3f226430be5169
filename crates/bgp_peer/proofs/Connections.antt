-- While its connection stands, a history leaves a stream with no item at its front.
use Rattle.std.proofs.Common.{◌≡◌, ℕ, List, [], ◌∷◌, ◌++◌, Option, Some, None, inl, inr, drop, refl, sym, subst, arith}
use Rattle.std.specs.Option.{option_map}
use Rattle.net_prefix.specs.declared.transport.Transport.TheVariants.{Open as Connected}
use Rattle.bgp_msg.specs.MessageStream.{Item, WholeMessage, FaultyHeader, Wants, meaning, completed, left_over, unread}
use Rattle.bgp_msg.proofs.Streams.{Becomes, becomes, meaning-message, at_header, some_is_not_none}
use Rattle.bgp_msg.proofs.StreamPieces.{unread-push, unread-nil}
use Rattle.bgp_fsm.specs.declared.input.Input.{Input}
use Rattle.bgp_fsm.specs.declared.input.Input.TheVariants.{Up, Fail}
use Rattle.bgp_fsm.specs.SessionTable.{session_after}
use Rattle.bgp_fsm.specs.Transports.{transport_of}
use Rattle.bgp_fsm.proofs.TableLaws.{fault_closes, stood_before}
use Rattle.bgp_peer.specs.Slot.{kept}
use Rattle.bgp_peer.specs.SessionInputs.{Event, Configured, Signalled, Octet, Queued, Handed, Ticked, terms_of, stream, item_at, input_of, listed, after, moment_of, session}

-- a rest with nothing at its front
pub wants-nil : Wants []
wants-nil = inl (omega arith)

-- one more octet, and still nothing is whole
pub wants-more : (part : List ℕ) (octet : ℕ) → Wants part → completed part octet ≡ None → Wants (part ++ octet ∷ [])
wants-more part octet h none = still (part ++ octet ∷ []) (becomes part octet h) none
  where
    still : (octets : List ℕ) → Becomes octets → meaning octets ≡ None → Wants octets
    still octets (inl k) none = k
    still octets (inr (inl k)) none =
        absurd (some_is_not_none _ _ (meaning-message octets k.0 (drop 19 octets) k.1) none)
    still octets (inr (inr k)) none =
        absurd (some_is_not_none _ _ (at_header octets k.0 k.1 k.2) none)

-- what one more octet leaves unread of a stream whose connection still stands
after_octet :
    (h : List Event) (octet : ℕ) (item : Option Item) → item_at h octet ≡ item
    → transport_of (after (moment_of h) (listed (option_map (input_of (session h).state (terms_of h)) item)) (session h)) ≡ Connected
    → (transport_of (session h) ≡ Connected → Wants (unread (stream h)))
    → Wants (left_over (unread (stream h) ++ octet ∷ []) item)
after_octet h octet None none stands before = wants-more (unread (stream h)) octet (before stands) none
after_octet h octet (Some (WholeMessage kind body)) some stands before = wants-nil
after_octet h octet (Some (FaultyHeader fault)) some stands before = absurd (fault_closes (moment_of h) _ (session h) stands)

-- what an input leaves unread of it
after_signal : (h : List Event) (input : Input) → transport_of (session_after (moment_of h) input (session h)) ≡ Connected → (transport_of (session h) ≡ Connected → Wants (unread (stream h)))
    → Wants (unread (kept input (stream h)))
after_signal h Up stands before = subst Wants (sym unread-nil) wants-nil
after_signal h Fail stands before = subst Wants (sym unread-nil) wants-nil
after_signal h input stands before = before (stood_before (moment_of h) input (session h) (λ is. cc) stands)

-- while the connection stands, nothing whole stands at the front of what is unread
pub connected_wants : (h : List Event) → transport_of (session h) ≡ Connected → Wants (unread (stream h))
connected_wants [] stands = subst Wants (sym unread-nil) wants-nil
connected_wants (Configured terms times ∷ h) stands = subst Wants (sym unread-nil) wants-nil
connected_wants (Signalled input ∷ h) stands = after_signal h input stands (λ k. connected_wants h k)
connected_wants (Octet octet ∷ h) stands =
    subst Wants (sym (unread-push (stream h) octet)) (after_octet h octet (item_at h octet) refl stands (λ k. connected_wants h k))
connected_wants (Queued update ∷ h) stands = connected_wants h stands
connected_wants (Handed octets ∷ h) stands = connected_wants h stands
connected_wants (Ticked now ∷ h) stands = connected_wants h stands
