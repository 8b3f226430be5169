-- What is made of a cache's settings (own).
use Rattle.std.specs.Prelude.{◌≡◌, ◌%◌, ◌^◌, ℕ}
use Rattle.cache_settings.specs.declared.settings.CacheSettings.{CacheSettings}
use Rattle.cache_settings.specs.declared.settings.SessionSource.{SessionSource}
use Rattle.cache_settings.specs.declared.settings.SessionSource.TheVariants.{Id, Clock}
use Rattle.rtr_cache.specs.CacheState.{CacheState}

-- the session id that settings have; by the clock it is the low 16 bits of the second of the start
abbrev pub IsSessionOf : SessionSource → ℕ → ℕ → Type 0
IsSessionOf (Id id) second session = session ≡ id
IsSessionOf Clock second session = session ≡ second % 2 ^ 16

-- the cache is one of these settings, begun in this second
pub record IsCacheOf (settings : CacheSettings) (second : ℕ) (cache : CacheState) : Type 0 where
  pub session : IsSessionOf settings.session second cache.shared.session
  pub intervals : cache.shared.intervals ≡ settings.intervals
  pub other_session : cache.shared.other_session ≡ settings.other_session
