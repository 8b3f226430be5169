use Rattle.std.proofs.Common.{◌≡◌, ◌∙◌, rules}
use Rattle.cache_program.proofs.SystemFiles.{opens_as}
use Rattle.cache_program.proofs.cache_main.checked_files.Goals as goal

pub returns-in-Ok : goal.returns-in-Ok
returns-in-Ok g c = (
  _,
  opens_as _ c.args.settings.now _ c.in_ok-files.ensures.given (λ path file at. let is : file.path ≡ at.shown.now = (let gives = at.says.met in search rules) in is ∙ at.shows),
  c.in-Ok.ensures.0,
)
