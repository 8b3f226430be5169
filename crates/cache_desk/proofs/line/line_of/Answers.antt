use Rattle.std.proofs.Common.{[], ◌∷◌, Some, None, inl, inr, refl}
use Rattle.std.proofs.lemmas.Bool.Decides.{Decides-eqb}
use Rattle.std.proofs.lemmas.Slice.Eq.{strip_suffix_is}
use Rattle.cache_desk.proofs.line.line_of.Goals as goal

pub returns-in-Some : goal.returns-in-Some
returns-in-Some c =
    (c.in-Some.front.now, inl (strip_suffix_is Decides-eqb c.args.octets.now (13 ∷ []) (Some c.in-Some.front) c.in-Some.ensures.cases), c.line_by.ensures)

pub returns-in-None : goal.returns-in-None
returns-in-None c =
    (c.args.octets.now, inr (refl, strip_suffix_is Decides-eqb c.args.octets.now (13 ∷ []) None c.in-None.ensures.cases), c.line_by-in-None.ensures)
