-- The next prefix of which something is owed, by a queue or by the tables.
use Rattle.std.proofs.Common.{◌≡◌, ◌≢◌, ◌<◌, ◌≤◌, ◌^◌, ◌⊎◌, not, ℕ, Bool, true, false, List, Option, Some, None, IfSome, IfNone, cond, refl, sym, ap, ◌∙◌, subst, inl, inr, arith}
use Rattle.std.specs.Option.{IsSome, is_some}
use Rattle.std.specs.Ordering.{is_gt, is_lt, ordering_reverse}
use Rattle.std.specs.declared.cmp.Ordering.{Ordering}
use Rattle.std.specs.declared.cmp.Ordering.TheVariants.{Less, Equal, Greater}
use Rattle.std.proofs.lemmas.Cmp.{upto}
use Rattle.std.proofs.lemmas.Bool.{cases_eq, cases_lt}
use Rattle.bgp_conf.specs.Configuration.{Configuration, peer_at}
use Rattle.bgp_conf.specs.declared.conf.ConfiguredPeer.{ConfiguredPeer}
use Rattle.bgp_fsm.specs.StateTests.{is_established}
use Rattle.decision.specs.BookContents.{rows_of}
use Rattle.net_prefix.specs.PrefixOrder.{prefix_cmp, IsAbove}
use Rattle.net_prefix.specs.declared.prefix.Prefix.{Prefix}
use Rattle.net_prefix.proofs.PayloadSets.{prefix_cmp_total}
use Rattle.rib_out.specs.Alike.{IsListed}
use Rattle.rib_out.specs.Held.{asked_at, held_at}
use Rattle.rib_out.specs.Slots.{has_slot}
use Rattle.rib_out.specs.Waiting.{IsAwaited, WaitingState, is_owed, is_queued}
use Rattle.rib_out.specs.declared.marks.Owed.{Owed}
use Rattle.rib_out.specs.declared.marks.Owed.TheVariants.{Announcement, Withdrawal}
use Rattle.routing.specs.Export.{export_in, export_peer_of}
use Rattle.routing.specs.Linked.{Linked}
use Rattle.routing.specs.Marks.{AreMarked, IsMarked, IsMarkedSo, IsNextMarked, IsNextOf, IsNextOwed, Mark, lesser, mark_at, mark_for, mark_of, no_mark}
use Rattle.routing.specs.Places.{rank_of}
use Rattle.routing.specs.RoutingState.{RoutingState}
use Rattle.routing.specs.Tables.{best_at, link_at}
use Rattle.routing.proofs.Marking.{export_none, lists_stay, mark_unlinked, marked_none, marked_still}
use Rattle.routing.proofs.Places.{above_from_rank, greater_from_rank, less_from_rank, rank_from_above, reached, same_from_rank, IsPlace}

-- the next one by its parts
pub next_of : (There : Prefix → Type 0) (after r : Option Prefix) → IfSome r There → IfSome r (λ p. IsAbove after p) → IfSome r (λ p. (q : Prefix) → IsAbove after q → There q → is_gt (prefix_cmp p q) ≡ false)
    → IfNone r ((q : Prefix) → IsAbove after q → There q → ⊥) → IsNextOf There after r
next_of There after None has above least none = none
next_of There after (Some p) has above least none = (has, above, least)

-- to which there is something
pub next_some : {X : Type 0} (there : Prefix → Option X) (after r : Option Prefix) → IfSome r (λ p. IsSome (there p)) → IfSome r (λ p. IsAbove after p) → IfSome r (λ p. (q : Prefix) → IsAbove after q → IsSome (there q) → is_gt (prefix_cmp p q) ≡ false)
    → IfNone r ((q : Prefix) → IsAbove after q → there q ≡ None) → IsNextOf (λ q. IsSome (there q)) after r
next_some there after None has above least none = λ q over some. let never = subst (λ o. IsSome o) (none q over) some in cc
next_some there after (Some p) has above least none = (has, above, least)

-- what holds of the same prefixes
pub next_as : (There Here : Prefix → Type 0) (after r : Option Prefix) → ((q : Prefix) → There q → Here q) → ((q : Prefix) → Here q → There q) → IsNextOf There after r → IsNextOf Here after r
next_as There Here after None to from h = λ q above here. h q above (from q here)
next_as There Here after (Some p) to from h = (to p h.0, h.1, λ q above here. h.2 q above (from q here))

-- ---- the lesser of two
not_below : (x y : Ordering) → x ≡ ordering_reverse y → is_lt y ≡ false → is_gt x ≡ false
not_below x Less is h = absurd cc
not_below x Equal is h = ap is_gt is
not_below x Greater is h = ap is_gt is

below : (y : Ordering) → is_lt y ≡ true → is_gt y ≡ false
below Less h = refl
below Equal h = refl
below Greater h = absurd cc

pub next_lesser : (A B : Prefix → Type 0) (after a b : Option Prefix) → IsNextOf A after a → IsNextOf B after b → IsNextOf (λ q. A q ⊎ B q) after (lesser a b)
next_lesser A B after None None f g = λ q above there. elim there [ inl here ↦ f q above here | inr here ↦ g q above here ]
next_lesser A B after None (Some q) f k = (inr k.0, k.1, λ x above there. elim there [ inl here ↦ absurd (f x above here) | inr here ↦ k.2 x above here ])
next_lesser A B after (Some p) None h g = (inl h.0, h.1, λ x above there. elim there [ inl here ↦ h.2 x above here | inr here ↦ absurd (g x above here) ])
next_lesser A B after (Some p) (Some q) h k = pick (is_lt (prefix_cmp q p)) refl
  where
    pick : (b : Bool) → is_lt (prefix_cmp q p) ≡ b → IsNextOf (λ q. A q ⊎ B q) after (cond b (Some q) (Some p))
    pick true low = (inr k.0, k.1, λ x above there. elim there [ inl here ↦ upto prefix_cmp_total q p x (below (prefix_cmp q p) low) (h.2 x above here) | inr here ↦ k.2 x above here ])
    pick false high = (
      inl h.0,
      h.1,
      λ x above there. elim there [
        | inl here ↦ h.2 x above here
        | inr here ↦ upto prefix_cmp_total p q x (not_below (prefix_cmp p q) (prefix_cmp q p) (prefix_cmp_total.antisymm p q) high) (k.2 x above here)
      ],
    )

-- what is owed is a withdrawal or an announcement
either_owed : (o : Option Owed) → (o ≡ Some Withdrawal) ⊎ (o ≡ Some Announcement) → IsSome o
either_owed None there = elim there [ inl is ↦ absurd (cc) | inr is ↦ absurd (cc) ]
either_owed (Some o) there = refl

owed_either : (o : Option Owed) → IsSome o → (o ≡ Some Withdrawal) ⊎ (o ≡ Some Announcement)
owed_either None some = absurd (cc)
owed_either (Some Withdrawal) some = inl refl
owed_either (Some Announcement) some = inr refl

pub next_marked : (conf : Configuration) (links : List (ℕ × Linked)) (t : RoutingState) (slot : ℕ) (after a b : Option Prefix) → IsNextOwed conf links t slot Withdrawal after a → IsNextOwed conf links t slot Announcement after b
    → IsNextMarked conf links t slot after (lesser a b)
next_marked conf links t slot after a b h k =
    next_as _ (λ q. IsSome (mark_at conf links t slot q).owed) after (lesser a b) (λ q there. either_owed _ there) (λ q some. owed_either _ some)
    (next_lesser (λ q. (mark_at conf links t slot q).owed ≡ Some Withdrawal) (λ q. (mark_at conf links t slot q).owed ≡ Some Announcement) after a b h k)

-- ---- by a queue that is whole
some_owed : (o : Owed) (x : Option Owed) → is_owed o x ≡ true → x ≡ Some o
some_owed Withdrawal None h = absurd cc
some_owed Withdrawal (Some Withdrawal) h = refl
some_owed Withdrawal (Some Announcement) h = absurd cc
some_owed Announcement None h = absurd cc
some_owed Announcement (Some Withdrawal) h = absurd cc
some_owed Announcement (Some Announcement) h = refl

owed_some : (o : Owed) (x : Option Owed) → x ≡ Some o → is_owed o x ≡ true
owed_some Withdrawal x h = ap (is_owed Withdrawal) h
owed_some Announcement x h = ap (is_owed Announcement) h

pub next_queued : (conf : Configuration) (links : List (ℕ × Linked)) (t : RoutingState) (slot : ℕ) (owed : Owed) (after r : Option Prefix) → AreMarked conf links t → slot < 64 → has_slot t.waiting.whole slot ≡ true
    → IfSome r (λ p. is_queued t.waiting slot owed p ≡ true) → IfSome r (λ p. IsAbove after p) → IfSome r (λ p. (q : Prefix) → IsAbove after q → is_queued t.waiting slot owed q ≡ true → is_gt (prefix_cmp p q) ≡ false)
    → IfNone r ((q : Prefix) → IsAbove after q → is_queued t.waiting slot owed q ≡ false) → IsNextOwed conf links t slot owed after r
next_queued conf links t slot owed after r marked within whole has above least none =
    next_as (λ q. is_queued t.waiting slot owed q ≡ true) (λ q. (mark_at conf links t slot q).owed ≡ Some owed) after r
    (λ q there. some_owed owed _ (sym ((marked.marks slot q within).waits whole owed) ∙ there)) (λ q is. (marked.marks slot q within).waits whole owed ∙ owed_some owed _ is)
    (next_of (λ q. is_queued t.waiting slot owed q ≡ true) after r has above least (never r none))
  where
    never : (r : Option Prefix) → IfNone r ((q : Prefix) → IsAbove after q → is_queued t.waiting slot owed q ≡ false) → IfNone r ((q : Prefix) → IsAbove after q → is_queued t.waiting slot owed q ≡ true → ⊥)
    never None none = λ q over there. absurd (let no = sym there ∙ none q over in cc)
    never (Some p) none = tt

-- where none is queued to be announced
pub none_announced : (waiting : WaitingState) (slot : ℕ) (next : Option Prefix) (p : Prefix) → has_slot waiting.whole slot ≡ true → is_some next ≡ false → IfNone next ((q : Prefix) → IsAbove None q → is_queued waiting slot Announcement q ≡ false)
    → IsAwaited waiting slot p (Some Announcement) → ⊥
none_announced waiting slot None p whole is none awaited = let yes = awaited whole Announcement in let no = none p tt in cc
none_announced waiting slot (Some n) p whole is none awaited = cc

-- ---- by the tables: something is owed of a prefix that has a best route or is held
abbrev pub IsPossible : RoutingState → Linked → Prefix → Type 0
IsPossible t l q = IsSome (best_at (rows_of t.book) q) ⊎ IsSome (held_at l.adj_out q)

some_or_none : {X : Type 0} (o : Option X) → IsSome o ⊎ (o ≡ None)
some_or_none None = inr refl
some_or_none (Some x) = inl refl

none_owed : (b : Bool) (export held : Option (List ℕ)) (asked : Bool) → export ≡ None → held ≡ None → (cond b (mark_for export held asked) no_mark).owed ≡ None
none_owed false export held asked none gone = refl
none_owed true None None asked none gone = refl
none_owed true None (Some h) asked none gone = absurd (cc)
none_owed true (Some e) held asked none gone = absurd (cc)

nothing_owed : (conf : Configuration) (t : RoutingState) (slot : ℕ) (q : Prefix) (peer : Option ConfiguredPeer) (l : Linked) → best_at (rows_of t.book) q ≡ None → held_at l.adj_out q ≡ None → (mark_of conf t.adj_in t.book slot q peer (Some l)).owed ≡ None
nothing_owed conf t slot q None l none gone = refl
nothing_owed conf t slot q (Some peer) l none gone =
    none_owed (is_established l.peer.session.state) (export_in conf (best_at (rows_of t.book)) t.adj_in (export_peer_of conf slot peer) q) (held_at l.adj_out q) (asked_at l.adj_out q)
    (export_none conf (best_at (rows_of t.book)) t.adj_in (export_peer_of conf slot peer) q none) gone

pub owed_possible : (conf : Configuration) (links : List (ℕ × Linked)) (t : RoutingState) (slot : ℕ) (q : Prefix) (l : Linked) (owed : Owed) → link_at links slot ≡ Some l → (mark_at conf links t slot q).owed ≡ Some owed → IsPossible t l q
owed_possible conf links t slot q l owed linked is =
    elim (some_or_none (best_at (rows_of t.book) q)) [
      | inl best ↦ inl best
      | inr none ↦ elim (some_or_none (held_at l.adj_out q)) [
        | inl held ↦ inr held
        | inr gone ↦ absurd (let never = sym is ∙ ap (λ f. (mark_of conf t.adj_in t.book slot q (peer_at conf slot) f).owed) linked ∙ nothing_owed conf t slot q (peer_at conf slot) l none gone in cc)
      ]
    ]

-- without a slot nothing is
pub none_next_unlinked : (conf : Configuration) (links : List (ℕ × Linked)) (t : RoutingState) (slot : ℕ) (owed : Owed) (after : Option Prefix) → link_at links slot ≡ None → IsNextOwed conf links t slot owed after None
none_next_unlinked conf links t slot owed after unlinked = λ q above is. let never = sym is ∙ ap (λ (m : Mark). m.owed) (mark_unlinked conf links t slot q unlinked) in cc

-- of the prefixes up to this one it isn't so
pub record NoneUpTo (There : Prefix → Type 0) (after last : Option Prefix) : Type 0 where
  pub place : IsPlace last
  pub behind : reached after ≤ reached last
  pub none : (q : Prefix) → IsAbove after q → rank_of q < reached last → There q → ⊥

pub NoneUpTo-none : (There : Prefix → Type 0) (after : Option Prefix) → IsPlace after → NoneUpTo There after after
NoneUpTo-none There after place = record { place = place; behind = omega arith; none = λ q above under there. absurd (omega (arith, rank_from_above after q above, under)) }

not_above : (x : Ordering) → x ≡ ordering_reverse x → is_gt x ≡ false
not_above Less is = refl
not_above Equal is = refl
not_above Greater is = absurd (cc)

module _ (There Possible : Prefix → Type 0) (after last : Option Prefix) (p : Prefix) (possible : (q : Prefix) → There q → Possible q) (next : IsNextOf Possible last (Some p)) (h : NoneUpTo There after last) where
  none_under : (q : Prefix) → IsAbove after q → rank_of q < rank_of p → There q → ⊥
  none_under q above under there = elim (cases_lt (rank_of q) (reached last)) [
    | inl already ↦ h.none q above already there
    | inr over ↦ let low = next.2 q (above_from_rank last q over) (possible q there) in let high = greater_from_rank p q under in cc
  ]

  -- the next one neither
  pub NoneUpTo-more : rank_of p < 2 ^ 38 → (There p → ⊥) → NoneUpTo There after (Some p)
  NoneUpTo-more place not = record {
    place = place;
    behind = omega (arith, h.behind, rank_from_above last p next.1);
    none = λ q above under there. elim (cases_lt (rank_of q) (rank_of p)) [
      | inl before ↦ none_under q above before there
      | inr not_before ↦ not (subst There (same_from_rank q p (omega (arith, under, not_before))) there)
    ];
  }

  -- or it is the one
  pub NoneUpTo-found : There p → IsNextOf There after (Some p)
  NoneUpTo-found here = (
    here,
    above_from_rank after p (omega (arith, h.behind, rank_from_above last p next.1)),
    λ q above there. elim (cases_lt (rank_of q) (rank_of p)) [ inl under ↦ absurd (none_under q above under there) | inr over ↦ at_least q over ],
  )
    where
      at_least : (q : Prefix) → rank_of p ≤ rank_of q → is_gt (prefix_cmp p q) ≡ false
      at_least q over = elim (cases_lt (rank_of p) (rank_of q)) [
        | inl less ↦ let low = less_from_rank p q less in ap is_gt low
        | inr more ↦ subst (λ x. is_gt (prefix_cmp p x) ≡ false) (same_from_rank p q (omega (arith, over, more))) (not_above (prefix_cmp p p) (prefix_cmp_total.antisymm p p))
      ]

-- or there is none
pub NoneUpTo-all : (There Possible : Prefix → Type 0) (after last : Option Prefix) → ((q : Prefix) → There q → Possible q) → IsNextOf Possible last None → NoneUpTo There after last → IsNextOf There after None
NoneUpTo-all There Possible after last possible next h = λ q above there. elim (cases_lt (rank_of q) (reached last)) [
  | inl already ↦ h.none q above already there
  | inr over ↦ next q (above_from_rank last q over) (possible q there)
]

-- ---- what is to be announced with some octets is listed by them
module _ (conf : Configuration) (links : List (ℕ × Linked)) (t : RoutingState) (slot : ℕ) (octets : List ℕ) (last : Prefix) (marked : AreMarked conf links t) (within : slot < 64) where
  so_listed : (q : Prefix) → IsMarkedSo (mark_at conf links t slot q) octets → IsListed t.alike slot octets q
  so_listed q so = subst (λ o. IsListed t.alike slot o q) so.1 ((marked.marks slot q within).listed so.0)

  pub least_listed : (next : Option Prefix) → IfSome next (λ p. (q : Prefix) → IsAbove (Some last) q → IsListed t.alike slot octets q → is_gt (prefix_cmp p q) ≡ false)
      → IfSome next (λ p. (q : Prefix) → IsAbove (Some last) q → IsMarkedSo (mark_at conf links t slot q) octets → is_gt (prefix_cmp p q) ≡ false)
  least_listed None least = tt
  least_listed (Some p) least = λ q over so. least q over (so_listed q so)

  pub none_listed : (next : Option Prefix) → IfNone next ((q : Prefix) → IsAbove (Some last) q → IsListed t.alike slot octets q → ⊥)
      → IfNone next ((q : Prefix) → IsAbove (Some last) q → IsMarkedSo (mark_at conf links t slot q) octets → ⊥)
  none_listed None none = λ q over so. none q over (so_listed q so)
  none_listed (Some p) none = tt

-- or is the next that waits at all, or stands behind it
module _ (conf : Configuration) (links : List (ℕ × Linked)) (t : RoutingState) (slot : ℕ) (octets : List ℕ) (after : Option Prefix) where
  pub next_above : (next : Option Prefix) → IsNextOwed conf links t slot Announcement after next → IfSome next (λ p. IsAbove after p)
  next_above None h = tt
  next_above (Some p) h = h.1

  pub least_waiting : (next : Option Prefix) → IsNextOwed conf links t slot Announcement after next
      → IfSome next (λ p. (q : Prefix) → IsAbove after q → IsMarkedSo (mark_at conf links t slot q) octets → is_gt (prefix_cmp p q) ≡ false)
  least_waiting None h = tt
  least_waiting (Some p) h = λ q over so. h.2 q over so.0

  pub none_waiting : (next : Option Prefix) → IsNextOwed conf links t slot Announcement after next → IfNone next ((q : Prefix) → IsAbove after q → IsMarkedSo (mark_at conf links t slot q) octets → ⊥)
  none_waiting None h = λ q over so. h q over so.0
  none_waiting (Some p) h = tt

-- ---- a slot to which nothing is owed is cleared
none_if_not : {X : Type 0} (o : Option X) → (IsSome o → ⊥) → o ≡ None
none_if_not None not = refl
none_if_not (Some x) not = absurd (not refl)

pub marked_cleared : (conf : Configuration) (links : List (ℕ × Linked)) (t u : RoutingState) (slot : ℕ) (next : Option Prefix) → AreMarked conf links t → u ≡ record t { waiting = u.waiting } → is_some next ≡ false → IsNextMarked conf links t slot None next
    → ((p : Prefix) → IsAwaited u.waiting slot p None) → ((s : ℕ) (p : Prefix) (w : Option Owed) → s ≢ slot → IsAwaited t.waiting s p w → IsAwaited u.waiting s p w) → AreMarked conf links u
marked_cleared conf links t u slot (Some p) marked rest is h none others = absurd (cc)
marked_cleared conf links t u slot None marked rest is h none others = record {
  there = marked.there;
  marks = λ s p within. elim (cases_eq s slot) [
    | inl same ↦ subst (λ x. IsMarked (mark_at conf links u x p) u x p) (sym same) (marked_none _ u slot p (none p) (ap (λ (x : RoutingState). (mark_at conf links x slot p).owed) rest ∙ none_if_not _ (λ some. h p tt some)))
    | inr other ↦ marked_still _ _ t u s p (marked.marks s p within) (others s p (mark_at conf links t s p).owed other) (λ o waits. lists_stay t u rest s o p) (sym (ap (λ (x : RoutingState). mark_at conf links x s p) rest))
  ];
}
