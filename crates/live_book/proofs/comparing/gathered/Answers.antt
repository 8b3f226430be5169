use Rattle.std.proofs.Common.{◌+◌, ◌++◌, ◌∷◌, [], List, Option, take, ap, sym, subst, ◌∙◌, arith}
use Rattle.std.specs.List.{cons_option}
use Rattle.std.proofs.lemmas.List.{append-nil}
use Rattle.decision.specs.declared.candidate.Candidate.{Candidate}
use Rattle.live_book.specs.declared.comparing.Few.{Few}
use Rattle.live_book.specs.declared.comparing.Few.TheVariants.{Nobody, One, Two, Many}
use Rattle.live_book.specs.NeighborBests.{AreFew, contender, contenders_of, few_with}
use Rattle.live_book.proofs.PlaceBests.{picked_here}
use Rattle.live_book.proofs.comparing.gathered.Goals as goal
use Rattle.live_book.proofs.comparing.gathered.Goals.{in-Some, in_default}

one_more : (few : Few) (cs : List Candidate) (e : Candidate) → AreFew cs few → AreFew (cs ++ e ∷ []) (few_with few e)
one_more Nobody cs e are = ap (λ (ds : List Candidate). ds ++ e ∷ []) are
one_more (One c) cs e are = ap (λ (ds : List Candidate). ds ++ e ∷ []) are
one_more (Two c d) cs e are = tt
one_more Many cs e are = tt

pub loop-place-preserved : goal.loop-place-preserved
loop-place-preserved c =
    let next = picked_here (contender c.args.round) c.args.places.now c.loop-place.place-index c.place-item.result (omega arith) c.place-item.is in
    let found : Option Candidate → List Candidate = λ o. contenders_of c.args.round (take c.loop-place.place-index c.args.places.now) ++ cons_option o [] in
    elim c.match-contender.branch [
      | in-Some w ↦
          subst (λ (few : Few). AreFew (contenders_of c.args.round (take (c.loop-place.place-index + 1) c.args.places.now)) few) (sym (w.few-is ∙ w.with-few.ensures))
          (subst (λ (cs : List Candidate). AreFew cs (few_with c.loop-place.few w.in-Some.candidate)) (sym (next ∙ ap found (sym c.contender.ensures ∙ w.in-Some.is)))
          (one_more c.loop-place.few _ w.in-Some.candidate c.loop-place.invariant))
      | in_default w ↦
          subst (λ (few : Few). AreFew (contenders_of c.args.round (take (c.loop-place.place-index + 1) c.args.places.now)) few) (sym w.few-is)
          (subst (λ (cs : List Candidate). AreFew cs c.loop-place.few) (sym (next ∙ ap found (sym c.contender.ensures ∙ w.in_default.is) ∙ append-nil _)) c.loop-place.invariant)
    ]
