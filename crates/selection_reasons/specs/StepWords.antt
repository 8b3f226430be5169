-- The words for the steps.
use Rattle.std.specs.Prelude.{ℕ, List, codes}
use Rattle.selection_reasons.specs.declared.step.Step.{Step}
use Rattle.selection_reasons.specs.declared.step.Step.TheVariants.{Degree, PathLength, Origin, MultiExitDisc, External, InteriorCost, Identifier, Address}

-- the words for a step
abbrev pub words_of : Step → List ℕ
words_of Degree = codes "degree"
words_of PathLength = codes "path length"
words_of Origin = codes "ORIGIN"
words_of MultiExitDisc = codes "MULTI_EXIT_DISC"
words_of External = codes "external over internal"
words_of InteriorCost = codes "interior cost"
words_of Identifier = codes "BGP Identifier"
words_of Address = codes "peer address"
