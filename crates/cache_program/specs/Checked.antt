-- What is known of settings that were checked (own).
use Rattle.std.specs.Prelude.{ℕ, List, Ok, ⊤}
use Rattle.net_prefix.specs.declared.payload.Vrp.{Vrp}
use Rattle.program_endings.specs.declared.aside.Aside.{Aside}
use Rattle.program_endings.specs.declared.aside.Aside.TheVariants.{Help, Version, Check}
use Rattle.payload_sources.specs.PayloadSources.{SourceTexts}
use Rattle.cache_settings.specs.declared.settings.CacheSettings.{CacheSettings}
use Rattle.cache_program.specs.FirstList.{Passes}
use Rattle.cache_program.specs.Opened.{AreSettingsAt, IsOpenedAt, SystemGives}

-- a file that was opened at the path tells settings, whose guards let the set of the files that were opened at their paths be
-- served first
pub record IsChecked (path : List ℕ) : Type 0 where
  pub settings : CacheSettings
  pub read : AreSettingsAt (IsOpenedAt path) (λ file. file.text) settings
  pub sources : SourceTexts
  pub given : SystemGives settings (Ok sources)
  pub set : List Vrp
  pub passes : Passes settings.guards sources set

-- so they are, where they were to be
abbrev pub IsCheckedBy : Aside → Type 0
IsCheckedBy Help = ⊤
IsCheckedBy Version = ⊤
IsCheckedBy (Check path) = IsChecked path.now
