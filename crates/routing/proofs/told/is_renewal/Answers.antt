use Rattle.std.proofs.Common.{◌∙◌, inl, inr, sym}
use Rattle.routing.proofs.told.is_renewal.Goals as goal

pub returns-then-is_none_asked-clause-one : goal.returns-then-is_none_asked-clause-one
returns-then-is_none_asked-clause-one g c = (
  c.requires.0,
  c.requires.1,
  elim c.requires.2 [ inl other ↦ other | inr asked ↦ absurd (let none = c.is_none_asked.ensures c.if-is_none_asked.true c.requires.0 in let never = sym none ∙ asked in cc) ],
)
