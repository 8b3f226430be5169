use Rattle.std.proofs.Common.{◌∙◌, ap, ◌==◌}
use lib.Pointwise.{pointwise}
use Rattle.script_files.specs.Cuts.{cut_line}
use Rattle.script_files.proofs.cutting.is_cut.Goals as goal

pub returns : goal.returns
unfolding cut_line
returns c = c.eq.ensures ∙ ap (λ text. pointwise (λ a b. a == b) c.args.line.now text) c.as_slice.ensures
