use Rattle.std.proofs.Common.{ℕ, not, nat_eq, Option, rules}
use Rattle.std.proofs.lemmas.Fn.{filter_same}
use Rattle.decision.specs.declared.candidate.Candidate.{Candidate}
use Rattle.decision.proofs.places.remove_place.Goals as goal

pub returns : goal.returns
returns g c = filter_same _ (λ (p : ℕ × Option Candidate). not (nat_eq c.args.slot p.0)) _ (λ x b f' k. search rules) _ _ c.retain.ensures.filtered
