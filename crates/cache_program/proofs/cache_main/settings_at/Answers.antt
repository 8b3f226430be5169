use Rattle.std.proofs.Common.{◌≡◌, ◌∙◌, rules}
use Rattle.cache_program.proofs.EndedWell.{if_ok_as}
use Rattle.cache_program.proofs.cache_main.settings_at.Goals as goal

pub returns : goal.returns
returns g c = record {
  told =
      if_ok_as c.read_settings.result c.read_settings.ensures.told
      (λ settings are. let is : are.0.path ≡ are.1.shown.now = (let gives = are.1.says.met in search rules) in (are.0, is ∙ are.1.shows, are.2));
}
