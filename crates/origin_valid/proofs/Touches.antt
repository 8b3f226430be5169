-- What an exception that comes or goes, and a change behind exceptions, touch.
use Rattle.std.proofs.Common.{◌≡◌, ◌&&◌, ◌||◌, ◌++◌, Bool, true, false, not, cond, List, [], ◌∷◌, Option, filter, refl, sym, ap, ◌∙◌}
use Rattle.std.proofs.lemmas.List.Folds.{list_any-append}
use Rattle.std.specs.BTreeMap.{is_at}
use Rattle.std.specs.Cmp.{Equal-is}
use Rattle.std.specs.List.{list_any}
use Rattle.net_prefix.specs.PayloadOrder.{payload_cmp}
use Rattle.net_prefix.specs.PayloadSets.{has, out, put}
use Rattle.net_prefix.specs.declared.asn.Asn.{Asn}
use Rattle.net_prefix.specs.declared.payload.Vrp.{Vrp}
use Rattle.net_prefix.specs.declared.prefix.Prefix.{Prefix}
use Rattle.net_prefix.proofs.PayloadSets.{has-out, has-put, payload_cmp_exact, payload_cmp_total}
use Rattle.prefix_trie.specs.CoverWalks.{covers}
use Rattle.vrp_delta.specs.Delta.{IsApplied, change_between, lacked}
use Rattle.vrp_delta.proofs.Changing.{is_at-turned}
use Rattle.local_exceptions.specs.ExceptionSets.{ExceptionSets, behind, is_turned, is_untouched, under, with_assertion, with_filter, without_assertion, without_filter}
use Rattle.local_exceptions.specs.Filters.{has_filter, is_filtered, matches, out_filter, put_filter}
use Rattle.local_exceptions.specs.declared.filter.Filter.{Filter}
use Rattle.local_exceptions.proofs.Passing.{has-filter}
use Rattle.local_exceptions.proofs.Sets.{under_is}
use Rattle.origin_valid.specs.Stretches.{changed_prefixes, prefixes_of, stretches}
use Rattle.origin_valid.specs.Touched.{is_touched}
use Rattle.origin_valid.specs.Validity.{covers_route, validity}
use Rattle.origin_valid.proofs.FilterChanges.{filtered-absent_out, filtered-known, filtered-known_put, filtered-out_out, filtered-put, filtered-put_out}
use Rattle.origin_valid.proofs.Members.{any-same}
use Rattle.origin_valid.proofs.StretchLaws.{is_over, over-stretches, over_change, over_payloads, same_state}

-- ---- the payloads that come or go
-- whether a payload is in one of two sets, and not in the other
abbrev differ : Bool → Bool → Bool
differ before after = (not after && before) || (not before && after)

has-lacked : (set other : List Vrp) (v : Vrp) → has (lacked set other) v ≡ (not (has other v) && has set v)
has-lacked set other v = has-filter (λ w. not (has other w)) set v

has-append : (a b : List Vrp) (v : Vrp) → has (a ++ b) v ≡ (has a v || has b v)
has-append a b v = list_any-append (is_at (payload_cmp v)) a b

has-differ : (before after : List Vrp) (v : Vrp) → has (lacked before after ++ lacked after before) v ≡ differ (has before v) (has after v)
has-differ before after v = has-append (lacked before after) (lacked after before) v ∙ rw (has-lacked before after v, has-lacked after before v) refl

-- payloads that are those which come or go cover the prefixes that are touched
touched_by : (before after set : List Vrp) (q : Prefix) → ((v : Vrp) → has set v ≡ differ (has before v) (has after v)) → list_any (covers_route q) set ≡ is_touched before after q
touched_by before after set q is =
    any-same payload_cmp_total payload_cmp_exact (covers_route q) set (lacked before after ++ lacked after before) (λ v _. is v ∙ sym (has-differ before after v))

-- where both have the same payloads, no prefix is touched
pub touched_none : (before after : List Vrp) (q : Prefix) → ((v : Vrp) → has before v ≡ has after v) → is_touched before after q ≡ false
touched_none before after q same = sym (touched_by before after [] q (λ v. rw (same v) (neither (has after v))))
  where
    neither : (b : Bool) → false ≡ differ b b
    neither true = refl
    neither false = refl

-- ---- a change behind exceptions
change_case : (f a b n : Bool) → (((not f && not a) && (not n && b)) || ((not f && not a) && (not b && n)))
    ≡ ((not ((n && not f) || a) && ((b && not f) || a)) || (not ((b && not f) || a) && ((n && not f) || a)))
change_case true true true true = refl
change_case true true true false = refl
change_case true true false true = refl
change_case true true false false = refl
change_case true false true true = refl
change_case true false true false = refl
change_case true false false true = refl
change_case true false false false = refl
change_case false true true true = refl
change_case false true true false = refl
change_case false true false true = refl
change_case false true false false = refl
change_case false false true true = refl
change_case false false true false = refl
change_case false false false true = refl
change_case false false false false = refl

changed : (e : ExceptionSets) (before after : List Vrp) (v : Vrp)
    → has (filter (is_untouched e) (lacked before after) ++ filter (is_untouched e) (lacked after before)) v ≡ differ (has (under e before) v) (has (under e after) v)
changed e before after v =
    has-append (filter (is_untouched e) (lacked before after)) (filter (is_untouched e) (lacked after before)) v
    ∙ rw (
      has-filter (is_untouched e) (lacked before after) v,
      has-filter (is_untouched e) (lacked after before) v,
      has-lacked before after v,
      has-lacked after before v,
      under_is e before v,
      under_is e after v,
    )
    (change_case (is_filtered e.filters v) (has e.asserted v) (has before v) (has after v))

-- the stretches of a change behind exceptions are what it touches of what they make of the set
pub touched_by_change : (e : ExceptionSets) (before after : List Vrp) (q : Prefix)
    → is_over (stretches (changed_prefixes (behind e (change_between before after)))) q ≡ is_touched (under e before) (under e after) q
touched_by_change e before after q =
    over_change (behind e (change_between before after)) q
    ∙ touched_by (under e before) (under e after) (filter (is_untouched e) (lacked before after) ++ filter (is_untouched e) (lacked after before)) q (changed e before after)

-- ---- a filter
over_set : (set : List Vrp) (q : Prefix) → is_over (stretches (prefixes_of set)) q ≡ list_any (covers_route q) set
over_set set q = over-stretches (prefixes_of set) q ∙ over_payloads set q

new_case : (s m f a : Bool) → ((m && (not f && not a)) && s) ≡ differ ((s && not f) || a) ((s && not (m || f)) || a)
new_case true true true true = refl
new_case true true true false = refl
new_case true true false true = refl
new_case true true false false = refl
new_case true false true true = refl
new_case true false true false = refl
new_case true false false true = refl
new_case true false false false = refl
new_case false true true true = refl
new_case false true true false = refl
new_case false true false true = refl
new_case false true false false = refl
new_case false false true true = refl
new_case false false true false = refl
new_case false false false true = refl
new_case false false false false = refl

new_turned : (e : ExceptionSets) (f : Filter) (set : List Vrp) → has_filter e.filters f ≡ false
    → (v : Vrp) → has (filter (is_turned (with_filter f e) f) set) v ≡ differ (has (under e set) v) (has (under (with_filter f e) set) v)
new_turned e f set new v =
    has-filter (is_turned (with_filter f e) f) set v
    ∙ rw (filtered-put_out e.filters f v new, under_is e set v, under_is (with_filter f e) set v, filtered-put e.filters f v)
    (new_case (has set v) (matches f v) (is_filtered e.filters v) (has e.asserted v))

-- the stretches of the payloads on which a new filter alone decides are what it touches
pub touched_by_filter : (e : ExceptionSets) (f : Filter) (set : List Vrp) (q : Prefix) → has_filter e.filters f ≡ false
    → is_over (stretches (prefixes_of (filter (is_turned (with_filter f e) f) set))) q ≡ is_touched (under e set) (under (with_filter f e) set) q
touched_by_filter e f set q new =
    over_set (filter (is_turned (with_filter f e) f) set) q
    ∙ touched_by (under e set) (under (with_filter f e) set) (filter (is_turned (with_filter f e) f) set) q (new_turned e f set new)

gone_case : (s m f a : Bool) → ((m && (not f && not a)) && s) ≡ differ ((s && not (m || f)) || a) ((s && not f) || a)
gone_case true true true true = refl
gone_case true true true false = refl
gone_case true true false true = refl
gone_case true true false false = refl
gone_case true false true true = refl
gone_case true false true false = refl
gone_case true false false true = refl
gone_case true false false false = refl
gone_case false true true true = refl
gone_case false true true false = refl
gone_case false true false true = refl
gone_case false true false false = refl
gone_case false false true true = refl
gone_case false false true false = refl
gone_case false false false true = refl
gone_case false false false false = refl

gone_turned : (e : ExceptionSets) (f : Filter) (set : List Vrp) → has_filter e.filters f ≡ true
    → (v : Vrp) → has (filter (is_turned (without_filter f e) f) set) v ≡ differ (has (under e set) v) (has (under (without_filter f e) set) v)
gone_turned e f set known v =
    has-filter (is_turned (without_filter f e) f) set v
    ∙ rw (filtered-out_out e.filters f v, under_is e set v, under_is (without_filter f e) set v, filtered-known e.filters f v known)
    (gone_case (has set v) (matches f v) (is_filtered (out_filter f e.filters) v) (has e.asserted v))

-- and so are those of a filter that goes
pub touched_by_no_filter : (e : ExceptionSets) (f : Filter) (set : List Vrp) (q : Prefix) → has_filter e.filters f ≡ true
    → is_over (stretches (prefixes_of (filter (is_turned (without_filter f e) f) set))) q ≡ is_touched (under e set) (under (without_filter f e) set) q
touched_by_no_filter e f set q known =
    over_set (filter (is_turned (without_filter f e) f) set) q
    ∙ touched_by (under e set) (under (without_filter f e) set) (filter (is_turned (without_filter f e) f) set) q (gone_turned e f set known)

-- a filter that is there already touches nothing, and none that isn't there
same_under : (e : ExceptionSets) (filters : List Filter) (set : List Vrp) (q : Prefix) → ((v : Vrp) → is_filtered filters v ≡ is_filtered e.filters v)
    → is_touched (under e set) (under (record e { filters = filters }) set) q ≡ false
same_under e filters set q same =
    touched_none (under e set) (under (record e { filters = filters }) set) q (λ v.
    under_is e set v ∙ ap (λ b. (has set v && not b) || has e.asserted v) (sym (same v)) ∙ sym (under_is (record e { filters = filters }) set v))

pub touched_by_known_filter : (e : ExceptionSets) (f : Filter) (set : List Vrp) (q : Prefix) → has_filter e.filters f ≡ true → is_touched (under e set) (under (with_filter f e) set) q ≡ false
touched_by_known_filter e f set q known = same_under e (put_filter f e.filters) set q (λ v. filtered-known_put e.filters f v known)

pub touched_by_absent_filter : (e : ExceptionSets) (f : Filter) (set : List Vrp) (q : Prefix) → has_filter e.filters f ≡ false → is_touched (under e set) (under (without_filter f e) set) q ≡ false
touched_by_absent_filter e f set q absent = same_under e (out_filter f e.filters) set q (λ v. filtered-absent_out e.filters f v absent)

-- ---- an assertion
at_one : (p v : Vrp) → is_at (payload_cmp v) p ≡ true → v ≡ p
at_one p v at = payload_cmp_exact v p ((Equal-is (payload_cmp v p)).0 at)

-- whether a payload that comes or goes is this one
abbrev IsOne : List Vrp → List Vrp → Vrp → Bool → Type 0
IsOne before after v here = (w : Vrp) → differ (has before w) (has after w) ≡ (here && is_at (payload_cmp w) v)

one_case : (b c : Bool) → (b && c) ≡ (b && (c || false))
one_case true true = refl
one_case true false = refl
one_case false c = refl

none_case : (t : Vrp → Bool) (v : Vrp) (b : Bool) → list_any t (cond b (v ∷ []) []) ≡ (b && t v)
none_case t v true = or_none (t v) where
  or_none : (c : Bool) → (c || false) ≡ c
  or_none true = refl
  or_none false = refl
none_case t v false = refl

has_if : (v w : Vrp) (b : Bool) → has (cond b (v ∷ []) []) w ≡ (b && is_at (payload_cmp w) v)
has_if v w b = none_case (is_at (payload_cmp w)) v b

touched_one : (before after : List Vrp) (v : Vrp) (here : Bool) (q : Prefix) → IsOne before after v here → is_touched before after q ≡ (here && covers v.prefix q)
touched_one before after v here q is =
    sym (touched_by before after (cond here (v ∷ []) []) q (λ w. has_if v w here ∙ sym (is w)))
    ∙ none_case (covers_route q) v here

nothing : (h : Bool) → false ≡ (h && false)
nothing true = refl
nothing false = refl

asserted_case : (x a c h : Bool) → (c ≡ true → h ≡ (x || a)) → differ (x || a) (x || (c || a)) ≡ (not h && c)
asserted_case true a true h is = rw (is refl) refl
asserted_case true a false h is = nothing (not h)
asserted_case false true true h is = rw (is refl) refl
asserted_case false true false h is = nothing (not h)
asserted_case false false true h is = rw (is refl) refl
asserted_case false false false h is = nothing (not h)

-- what a payload is to a set under exceptions is what it is to it by any name
under_at : (e : ExceptionSets) (set : List Vrp) (v w : Vrp) → is_at (payload_cmp w) v ≡ true
    → has (under e set) v ≡ ((has set w && not (is_filtered e.filters w)) || has e.asserted w)
under_at e set v w at = ap (has (under e set)) (sym (at_one v w at)) ∙ under_is e set w

asserts : (e : ExceptionSets) (v : Vrp) (set : List Vrp) → IsOne (under e set) (under (with_assertion v e) set) v (not (has (under e set) v))
asserts e v set w =
    rw (under_is e set w, under_is (with_assertion v e) set w, has-put e.asserted v w)
    (asserted_case (has set w && not (is_filtered e.filters w)) (has e.asserted w) (is_at (payload_cmp w) v) (has (under e set) v) (under_at e set v w))

-- an assertion touches what its payload covers, where that isn't in force
pub touched_by_assertion : (e : ExceptionSets) (v : Vrp) (set : List Vrp) (q : Prefix)
    → is_touched (under e set) (under (with_assertion v e) set) q ≡ (not (has (under e set) v) && covers v.prefix q)
touched_by_assertion e v set q = touched_one (under e set) (under (with_assertion v e) set) v (not (has (under e set) v)) q (asserts e v set)

unasserted_case : (x a c h k : Bool) → (c ≡ true → h ≡ (x || a)) → (c ≡ true → k ≡ (x || (not c && a))) → differ (x || a) (x || (not c && a)) ≡ ((h && not k) && c)
unasserted_case true a true h k is js = rw (is refl, js refl) refl
unasserted_case true a false h k is js = nothing (h && not k)
unasserted_case false true true h k is js = rw (is refl, js refl) refl
unasserted_case false true false h k is js = nothing (h && not k)
unasserted_case false false true h k is js = rw (is refl) refl
unasserted_case false false false h k is js = nothing (h && not k)

has_out : (asserted : List Vrp) (v w : Vrp) → has (out v asserted) w ≡ (not (is_at (payload_cmp w) v) && has asserted w)
has_out asserted v w = has-out asserted v w ∙ ap (λ b. not b && has asserted w) (is_at-turned v w)

unasserts : (e : ExceptionSets) (v : Vrp) (set : List Vrp)
    → IsOne (under e set) (under (without_assertion v e) set) v (has (under e set) v && not (has (under (without_assertion v e) set) v))
unasserts e v set w =
    let behind_it : has (under (without_assertion v e) set) w ≡ ((has set w && not (is_filtered e.filters w)) || (not (is_at (payload_cmp w) v) && has e.asserted w)) =
    under_is (without_assertion v e) set w ∙ ap (λ b. (has set w && not (is_filtered e.filters w)) || b) (has_out e.asserted v w) in
    rw (under_is e set w, behind_it)
    (unasserted_case (has set w && not (is_filtered e.filters w)) (has e.asserted w) (is_at (payload_cmp w) v) (has (under e set) v) (has (under (without_assertion v e) set) v)
    (under_at e set v w) (λ at. ap (has (under (without_assertion v e) set)) (sym (at_one v w at)) ∙ behind_it))

-- and one that goes, where its payload is no longer in force
pub touched_by_no_assertion : (e : ExceptionSets) (v : Vrp) (set : List Vrp) (q : Prefix)
    → is_touched (under e set) (under (without_assertion v e) set) q ≡ (has (under e set) v && not (has (under (without_assertion v e) set) v) && covers v.prefix q)
touched_by_no_assertion e v set q =
    touched_one (under e set) (under (without_assertion v e) set) v (has (under e set) v && not (has (under (without_assertion v e) set) v)) q (unasserts e v set)

-- ---- the states
between_case : (b n : Bool) → n ≡ ((b && not (not n && b)) || (not b && n))
between_case true true = refl
between_case true false = refl
between_case false true = refl
between_case false false = refl

applied : (before after : List Vrp) → IsApplied before (change_between before after) after
applied before after v = between_case (has before v) (has after v) ∙ rw (has-lacked before after v, has-lacked after before v) refl

-- a prefix that isn't touched keeps its states
pub untouched_states : (before after : List Vrp) (q : Prefix) (origin : Option Asn) → is_touched before after q ≡ false
    → validity after q origin ≡ validity before q origin
untouched_states before after q origin untouched = sym (same_state before after (change_between before after) q origin (applied before after) untouched)
