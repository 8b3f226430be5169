use Rattle.std.proofs.Common.{◌≡◌, ◌≢◌, ◌⊎◌, ◌≤◌, ◌<◌, ◌&&◌, ℕ, Bool, true, false, not, List, Option, Some, None, IfSome, IfNone, MatchOption, cond, refl, ap, ◌∙◌, subst, arith, inl, inr}
use Rattle.std.specs.Option.{IsSome}
use Rattle.std.specs.Ordering.{is_gt}
use Rattle.std.specs.Str.{bytes_eq}
use Rattle.std.proofs.lemmas.Bool.{cases_lt}
use Rattle.std.proofs.lemmas.Slice.Eq.{bytes_eq-Decides}
use Rattle.bgp_fsm.specs.declared.state.State.TheVariants.{Established}
use Rattle.net_prefix.specs.PrefixOrder.{prefix_cmp, IsAbove}
use Rattle.net_prefix.specs.declared.prefix.Prefix.{Prefix}
use Rattle.rib_out.specs.Alike.{AlikeState}
use Rattle.rib_out.specs.Held.{asked_at, held_at}
use Rattle.rib_out.specs.Waiting.{WaitingState}
use Rattle.rib_out.specs.declared.marks.Owed.TheVariants.{Announcement}
use Rattle.rib_out.proofs.HeldTables.{held_if_asked}
use Rattle.routing.specs.Linked.{Linked}
use Rattle.routing.specs.Marks.{IsMarkedSo, mark_at, owed_for}
use Rattle.routing.specs.Owing.{IsNext, withdrawn_of}
use Rattle.routing.specs.Packing.{IsBehind, IsDue, IsFrom, IsNewTo}
use Rattle.routing.specs.Places.{rank_of}
use Rattle.routing.specs.RoutesState.{RoutesState, export_of}
use Rattle.routing.specs.Tables.{link_at}
use Rattle.routing.proofs.Owing.{announced_so, peer_told, routing_of}
use Rattle.routing.proofs.Places.{above_from_rank, greater_from_rank, rank_from_above, same_from_rank}

-- What is due to a peer, by what waits for it.

some_held : (held : Option (List ℕ)) → held ≢ None → IsSome held
some_held None other = absurd (other refl)
some_held (Some octets) other = refl

none_held : (held : Option (List ℕ)) → IsSome held → held ≢ None
none_held None some = absurd (cc)
none_held (Some octets) some = λ is. cc

withdrawn_some : (export held : Option (List ℕ)) → export ≡ None → IsSome held → IsSome (withdrawn_of export held)
withdrawn_some None held none some = some
withdrawn_some (Some octets) held none some = absurd (cc)

withdrawn_none : (export held : Option (List ℕ)) → IsSome (withdrawn_of export held) → (export ≡ None) × IsSome held
withdrawn_none None held some = (refl, some)
withdrawn_none (Some octets) held some = absurd (cc)

-- what is withdrawn
pub due_withdrawn : (exports : Prefix → Option (List ℕ)) (l : Linked) (q : Prefix) → IsSome (withdrawn_of (exports q) (held_at l.adj_out q)) → IsDue exports None l q
due_withdrawn exports l q some = let parts = withdrawn_none (exports q) (held_at l.adj_out q) some in (parts.0, inl (none_held (held_at l.adj_out q) parts.1))

pub withdrawn_due : (exports : Prefix → Option (List ℕ)) (l : Linked) (q : Prefix) → IsDue exports None l q → IsSome (withdrawn_of (exports q) (held_at l.adj_out q))
withdrawn_due exports l q due = withdrawn_some (exports q) (held_at l.adj_out q) due.0 (held due.1)
  where
    held : IsNewTo l q None → IsSome (held_at l.adj_out q)
    held (inl other) = some_held (held_at l.adj_out q) other
    held (inr asked) = held_if_asked l.adj_out q asked

-- what is announced
pub due_announced : (octets : List ℕ) (export held : Option (List ℕ)) (asked : Bool) → export ≡ Some octets → owed_for export held asked ≡ Some Announcement → (held ≢ Some octets) ⊎ (asked ≡ true)
due_announced octets None held asked is waits = absurd (cc)
due_announced octets (Some o) None asked is waits = inl (λ same. cc)
due_announced octets (Some o) (Some held) true is waits = inr refl
due_announced octets (Some o) (Some held) false is waits = inl (λ same.
    let alike : held ≡ o = cc in
    never (bytes_eq held o) ((bytes_eq-Decides held o).1 alike) waits)
  where
    never : (b : Bool) → b ≡ true → cond (b && not false) None (Some Announcement) ≡ Some Announcement → ⊥
    never true is waits = cc
    never false is waits = cc

pub announced_due : (octets : List ℕ) (export held : Option (List ℕ)) (asked : Bool) → export ≡ Some octets → (held ≢ Some octets) ⊎ (asked ≡ true) → owed_for export held asked ≡ Some Announcement
announced_due octets None held asked is news = absurd (cc)
announced_due octets (Some o) None asked is news = refl
announced_due octets (Some o) (Some held) true is news = again (bytes_eq held o)
  where
    again : (b : Bool) → cond (b && not true) None (Some Announcement) ≡ Some Announcement
    again true = refl
    again false = refl
announced_due octets (Some o) (Some held) false is news = by_test (bytes_eq held o) refl
  where
    by_test : (b : Bool) → bytes_eq held o ≡ b → cond (b && not false) None (Some Announcement) ≡ Some Announcement
    by_test false other = refl
    by_test true same =
        let alike : held ≡ o = (bytes_eq-Decides held o).0 same in
        let here : Some held ≡ Some octets = ap Some alike ∙ is in
        absurd (elim news [ inl other ↦ other here | inr asked ↦ cc ])

pub low_or : (n q : Prefix) → is_gt (prefix_cmp n q) ≡ false → rank_of n ≤ rank_of q
low_or n q not =
    elim (cases_lt (rank_of q) (rank_of n)) [
      | inl less ↦ let is = greater_from_rank n q less in absurd (cc)
      | inr more ↦ more
    ]

-- the next prefix to which there is something is the least behind
pub behind_next : {X : Type 0} (there : Prefix → Option X) (There : Prefix → Type 0) (p : Prefix) (next : Option Prefix) → ((q : Prefix) → There q → IsSome (there q)) → IsNext there (Some p) next → IsBehind There p next
behind_next there There p None to is = λ q here above. let never = subst (λ o. IsSome o) (is q (above_from_rank (Some p) q (omega (arith, above)))) (to q here) in cc
behind_next there There p (Some n) to is = λ q here above. low_or n q (is.2 q (above_from_rank (Some p) q (omega (arith, above))) (to q here))

pub coming_next : {X : Type 0} (there : Prefix → Option X) (There : Prefix → Type 0) (p : Prefix) (next : Option Prefix) → ((q : Prefix) → IsSome (there q) → There q) → IsNext there (Some p) next
    → MatchOption next (Unit {0}) (λ n. There n × (rank_of p < rank_of n))
coming_next there There p None to is = tt
coming_next there There p (Some n) to is = (to n is.0, omega (arith, rank_from_above (Some p) n is.1))

-- the same of those from a prefix on
pub behind_from : (There : Prefix → Type 0) (least p : Prefix) (next : Option Prefix) → IsBehind There p next → IsBehind (IsFrom least There) p next
behind_from There least p None is = λ q here above. is q here.1 above
behind_from There least p (Some n) is = λ q here above. is q here.1 above

pub coming_from : (There : Prefix → Type 0) (least p : Prefix) (next : Option Prefix) → rank_of least ≤ rank_of p → MatchOption next (Unit {0}) (λ n. There n × (rank_of p < rank_of n))
    → MatchOption next (Unit {0}) (λ n. IsFrom least There n × (rank_of p < rank_of n))
coming_from There least p None low is = tt
coming_from There least p (Some n) low is = ((omega (arith, low, is.1), is.0), is.1)

-- what is held and isn't exported
pub due_gone : (exports : Prefix → Option (List ℕ)) (l : Linked) (q : Prefix) → exports q ≡ None → IsSome (held_at l.adj_out q) → IsDue exports None l q
due_gone exports l q gone held = (gone, inl (none_held (held_at l.adj_out q) held))

-- the next one that is found
pub coming_alike : (There : Prefix → Type 0) (p : Prefix) (next : Option Prefix) → IfSome next There → IfSome next (λ n. rank_of p < rank_of n) → MatchOption next (Unit {0}) (λ n. There n × (rank_of p < rank_of n))
coming_alike There p None due above = tt
coming_alike There p (Some n) due above = (due, above)

-- what is due to be withdrawn is held
pub due_held : (exports : Prefix → Option (List ℕ)) (l : Linked) (q : Prefix) → IsDue exports None l q → IsSome (held_at l.adj_out q)
due_held exports l q due = (withdrawn_none (exports q) (held_at l.adj_out q) (withdrawn_due exports l q due)).1

-- a prefix that isn't due isn't the one that is
pub passed_over : (p q : Prefix) (Due : Prefix → Type 0) → (Due p → ⊥) → Due q → rank_of p ≤ rank_of q → rank_of p < rank_of q
passed_over p q Due not due low =
    elim (cases_lt (rank_of p) (rank_of q)) [
      | inl less ↦ less
      | inr more ↦ absurd (not (subst Due (same_from_rank q p (omega (arith, low, more))) due))
    ]

-- a prefix above another has a higher place
pub ranked_above : (last : Prefix) (next : Option Prefix) → IfSome next (λ p. IsAbove (Some last) p) → IfSome next (λ p. rank_of last < rank_of p)
ranked_above last None above = tt
ranked_above last (Some p) above = omega (arith, rank_from_above (Some last) p above)

-- what is due to be announced with these octets is owed with them
module _ (s : RoutesState) (waiting : WaitingState) (alike : AlikeState) (slot : ℕ) (l : Linked) (octets : List ℕ) (last : Prefix) (linked : link_at s.links slot ≡ Some l) (established : l.peer.session.state ≡ Established) where
  so_due : (q : Prefix) → IsDue (export_of s slot) (Some octets) l q → IsMarkedSo (mark_at s.conf s.links (routing_of s waiting alike) slot q) octets
  so_due q due =
      let told = peer_told s slot q octets due.0 in
      announced_so s waiting alike slot told.0 l octets q told.1 linked established due.0 (announced_due octets (export_of s slot q) (held_at l.adj_out q) (asked_at l.adj_out q) due.0 due.1)

  -- so it stands no lower than the next that is owed so
  pub behind_so : (next : Option Prefix)
      → IfSome next (λ p. (q : Prefix) → IsAbove (Some last) q → IsMarkedSo (mark_at s.conf s.links (routing_of s waiting alike) slot q) octets → is_gt (prefix_cmp p q) ≡ false)
      → IfNone next ((q : Prefix) → IsAbove (Some last) q → IsMarkedSo (mark_at s.conf s.links (routing_of s waiting alike) slot q) octets → ⊥) → IsBehind (IsDue (export_of s slot) (Some octets) l) last next
  behind_so None least none = λ q due above. none q (above_from_rank (Some last) q (omega (arith, above))) (so_due q due)
  behind_so (Some n) least none = λ q due above. low_or n q (least q (above_from_rank (Some last) q (omega (arith, above))) (so_due q due))
