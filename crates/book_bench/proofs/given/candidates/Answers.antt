use Rattle.std.proofs.Common.{◌≡◌, ◌<◌, ◌≤◌, ◌+◌, ◌++◌, ◌∷◌, [], All, List, length, ap, sym, subst, ◌∙◌, arith}
use Rattle.std.proofs.lemmas.List.{length_push}
use Rattle.decision.specs.declared.candidate.Candidate.{Candidate}
use Rattle.book_bench.proofs.Addresses.{Rise, below_more, below_pushed, distinct_rising, rise_more}
use Rattle.book_bench.proofs.given.candidates.Goals as goal
use Rattle.book_bench.proofs.given.candidates.Goals.{in-Some, in_default}

pub loop-slot-preserved : goal.loop-slot-preserved
loop-slot-preserved c =
    elim c.match-of_address.branch [
      | in-Some w ↦
          let is : c.match-of_address.candidates.items ≡ c.loop-slot.candidates.items ++ w.in-Some.candidate ∷ [] = ap (λ v. v.items) w.candidates-is ∙ w.push.ensures.items in
          let long : length c.match-of_address.candidates.items ≡ length c.loop-slot.candidates.items + 1 = ap length is ∙ length_push c.loop-slot.candidates.items w.in-Some.candidate in
          let few : length c.loop-slot.candidates.items ≤ c.loop-slot.slot = c.loop-slot.invariant.few in
          record {
            rise = subst Rise (sym is) (rise_more c.loop-slot.candidates.items w.in-Some.candidate c.loop-slot.slot c.loop-slot.invariant.rise c.loop-slot.invariant.below w.in-Some.ensures);
            below = subst (λ cs. All (λ (d : Candidate). d.address < c.loop-slot.slot + 1) cs) (sym is) (below_pushed c.loop-slot.candidates.items w.in-Some.candidate c.loop-slot.slot c.loop-slot.invariant.below w.in-Some.ensures);
            few = omega (arith, long, few);
          }
      | in_default w ↦
          let is : c.match-of_address.candidates.items ≡ c.loop-slot.candidates.items = ap (λ v. v.items) w.candidates-is in
          let long : length c.match-of_address.candidates.items ≡ length c.loop-slot.candidates.items = ap length is in
          let few : length c.loop-slot.candidates.items ≤ c.loop-slot.slot = c.loop-slot.invariant.few in
          record {
            rise = subst Rise (sym is) c.loop-slot.invariant.rise;
            below = subst (λ cs. All (λ (d : Candidate). d.address < c.loop-slot.slot + 1) cs) (sym is) (below_more c.loop-slot.candidates.items c.loop-slot.slot c.loop-slot.invariant.below);
            few = omega (arith, long, few);
          }
    ]

pub returns : goal.returns
returns c = distinct_rising c.loop-slot.candidates.items c.loop-slot.invariant.rise
