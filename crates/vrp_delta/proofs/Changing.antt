-- What sets have while payloads are put in and taken out.
use Rattle.std.proofs.Common.{◌≡◌, Bool, true, false, not, ◌&&◌, ◌||◌, cond, List, ap, sym, refl, ◌∙◌}
use Rattle.std.specs.BTreeMap.{is_at}
use Rattle.std.specs.Ordering.{is_eq, ordering_reverse}
use Rattle.std.specs.declared.cmp.Ordering.{Ordering}
use Rattle.std.specs.declared.cmp.Ordering.TheVariants.{Less, Equal, Greater}
use Rattle.net_prefix.specs.declared.payload.Vrp.{Vrp}
use Rattle.net_prefix.specs.PayloadOrder.{payload_cmp}
use Rattle.net_prefix.specs.PayloadSets.{IsPayloadSet, has}
use Rattle.net_prefix.proofs.PayloadSets.{payload_cmp_total, same_set}
use Rattle.vrp_delta.specs.Delta.{Change, IsApplied, is_left}
use Rattle.vrp_delta.specs.Keeping.{IsChangeOf}

turned : (o : Ordering) → is_eq (ordering_reverse o) ≡ is_eq o
turned Less = refl
turned Equal = refl
turned Greater = refl

-- a payload is at the place of another where that one is at its place
pub is_at-turned : (p q : Vrp) → is_at (payload_cmp p) q ≡ is_at (payload_cmp q) p
is_at-turned p q = ap is_eq (payload_cmp_total.antisymm p q) ∙ turned (payload_cmp q p)

taken_case : (e s r : Bool) → (cond e false s && not r) ≡ (s && not (e || r))
taken_case true true r = refl
taken_case true false r = refl
taken_case false s r = refl

-- a payload is taken out, of those that are still to be taken out
pub taken_out : (p q : Vrp) (new old rest : List Vrp) (whole : Bool) → has new q ≡ cond (is_at (payload_cmp p) q) false (has old q)
    → (has old q && not (is_at (payload_cmp q) p || has rest q)) ≡ whole → (has new q && not (has rest q)) ≡ whole
taken_out p q new old rest whole updates before =
    rw (updates, is_at-turned p q) (taken_case (is_at (payload_cmp q) p) (has old q) (has rest q) ∙ before)

put_case : (e s r : Bool) → (cond e true s || r) ≡ (s || (e || r))
put_case true true r = refl
put_case true false r = refl
put_case false s r = refl

-- a payload is put in, of those that are still to be put in
pub put_in : (p q : Vrp) (new old rest : List Vrp) (whole : Bool) → has new q ≡ cond (is_at (payload_cmp p) q) true (has old q)
    → (has old q || (is_at (payload_cmp q) p || has rest q)) ≡ whole → (has new q || has rest q) ≡ whole
put_in p q new old rest whole updates before =
    rw (updates, is_at-turned p q) (put_case (is_at (payload_cmp q) p) (has old q) (has rest q) ∙ before)

kept_case : (e s : Bool) → s ≡ true → cond e true s ≡ true
kept_case true s h = refl
kept_case false s h = h

-- what was there stays there
pub put_keeps : (p q : Vrp) (new old : List Vrp) → has new q ≡ cond (is_at (payload_cmp p) q) true (has old q) → has old q ≡ true → has new q ≡ true
put_keeps p q new old updates h = rw updates (kept_case (is_at (payload_cmp p) q) (has old q) h)

back_case : (now rest old put : Bool) → (now || rest) ≡ (old || put) → (old ≡ true → now ≡ true) → (put ≡ true → old ≡ false) → (now && not put) ≡ old
back_case now rest true true h kept apart = let wrong : true ≡ false = apart refl in cc
back_case now rest false true h kept apart = nothing now
  where
    nothing : (b : Bool) → (b && false) ≡ false
    nothing true = refl
    nothing false = refl
back_case now rest true false h kept apart = rw (kept refl) refl
back_case true rest false false h kept apart = h
back_case false rest false false h kept apart = refl

-- some of the payloads were put into a set that lacked them all, and all are taken out again
pub taken_back : (old now back payloads rest : List Vrp) → IsPayloadSet old → IsPayloadSet back
    → ((q : Vrp) → (has now q || has rest q) ≡ (has old q || has payloads q)) → ((q : Vrp) → has old q ≡ true → has now q ≡ true)
    → ((q : Vrp) → has payloads q ≡ true → has old q ≡ false) → ((q : Vrp) → has back q ≡ (has now q && not (has payloads q))) → back ≡ old
taken_back old now back payloads rest rose rises put kept apart taken =
    same_set back old rises rose (λ q. taken q ∙ back_case (has now q) (has rest q) (has old q) (has payloads q) (put q) (kept q) (apart q))

applied_case : (old put out : Bool) → (put ≡ true → old ≡ false) → (out ≡ true → old ≡ true) → ((old || put) && not out) ≡ ((old && not out) || put)
applied_case true true out apart known = let wrong : true ≡ false = apart refl in cc
applied_case true false true apart known = refl
applied_case true false false apart known = refl
applied_case false true true apart known = let wrong : false ≡ true = known refl in cc
applied_case false true false apart known = refl
applied_case false false true apart known = refl
applied_case false false false apart known = refl

-- a set that was changed where it stands, and what follows it, are one
pub changed_alike : (old now new kept_old kept_new put out : List Vrp) (change : Change) → IsChangeOf old change → put ≡ change.announced → out ≡ change.withdrawn
    → kept_old ≡ old → IsPayloadSet kept_new → IsPayloadSet new → ((q : Vrp) → has now q ≡ (has old q || has put q))
    → ((q : Vrp) → has new q ≡ (has now q && not (has out q))) → IsApplied kept_old change kept_new → kept_new ≡ new
changed_alike old now new kept_old kept_new put out change fits puts outs follows kept_rises rises more less applied =
    same_set kept_new new kept_rises rises
    (λ q. applied q ∙ ap (λ set. is_left set change q || has change.announced q) follows
    ∙ sym (less q ∙ rw (more q, puts, outs) (applied_case (has old q) (has change.announced q) (has change.withdrawn q) (fits.announces_unknown q) (fits.withdraws_known q))))

undone_case : (old put : Bool) → (put ≡ true → old ≡ false) → ((old || put) && not put) ≡ old
undone_case true true apart = let wrong : true ≡ false = apart refl in cc
undone_case true false apart = refl
undone_case false true apart = refl
undone_case false false apart = refl

-- what was put into a set is taken out again
pub undone : (old now new put : List Vrp) → IsPayloadSet old → IsPayloadSet new → ((q : Vrp) → has put q ≡ true → has old q ≡ false)
    → ((q : Vrp) → has now q ≡ (has old q || has put q)) → ((q : Vrp) → has new q ≡ (has now q && not (has put q))) → new ≡ old
undone old now new put rose rises apart more less =
    same_set new old rises rose (λ q. less q ∙ rw (more q) (undone_case (has old q) (has put q) (apart q)))
