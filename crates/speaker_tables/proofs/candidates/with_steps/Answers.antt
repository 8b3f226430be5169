use Rattle.std.proofs.Common.{◌≡◌, ◌∙◌, ap, arith, map, take, take_all}
use Rattle.decision.specs.declared.candidate.Candidate.{Candidate}
use Rattle.selection_reasons.specs.Reasons.{all_steps, fell_by}
use Rattle.speaker_tables.specs.declared.candidates.Ranked.{Ranked}
use Rattle.speaker_tables.proofs.candidates.with_steps.Goals as goal

pub returns : goal.returns
returns c =
    let over = c.loop-candidate-test.false in
    let all : take c.loop-candidate.candidate-index c.args.candidates.now ≡ c.args.candidates.now = take_all c.loop-candidate.candidate-index c.args.candidates.now (omega arith) in
    let step : Candidate → Ranked = λ one. record { candidate = one; fell = fell_by all_steps c.args.candidates.now one } in
    c.loop-candidate.invariant.items ∙ ap (map step) all
