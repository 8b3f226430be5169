-- What a cache's settings are, key by key (own).
use Rattle.std.specs.Prelude.{◌≡◌, ◌≢◌, ◌<◌, ◌≤◌, ◌^◌, ℕ, pos, true, false, List, [], ◌∷◌, Option, None, Some, codes, option_map, string_bytes}
use Rattle.toml.specs.Data.{Data, Members, as_integer, get_member}
use Rattle.cache_turns.specs.declared.patience.Patience.{Patience}
use Rattle.list_guards.specs.declared.Guards.{Guards}
use Rattle.rtr_cache.specs.declared.other_session.OtherSession.{OtherSession}
use Rattle.rtr_cache.specs.declared.other_session.OtherSession.TheVariants.{Report, Reset}
use Rattle.rtr_codec.specs.Intervals.{are_lawful}
use Rattle.rtr_codec.specs.declared.intervals.Intervals.{Intervals}
use Rattle.settings_keys.specs.Keys.{IsAddress, IsNumber, IsText, IsTold, IsToldIfThere, IsToldOrUsual, IsYesOrNo}
use Rattle.settings_keys.specs.KnownKeys.{HasNoKeyBut}
use Rattle.cache_settings.specs.declared.settings.CacheSettings.{CacheSettings}
use Rattle.cache_settings.specs.declared.settings.SessionSource.{SessionSource}
use Rattle.cache_settings.specs.declared.settings.SessionSource.TheVariants.{Id, Clock}
use Rattle.cache_settings.specs.declared.settings.Stale.{Stale}
use Rattle.cache_settings.specs.declared.settings.Stale.TheVariants.{Serve, Withdraw}
use Rattle.cache_settings.specs.declared.settings.Terms.{Terms}

-- seconds: a number of 32 bits that is not 0
abbrev pub IsSeconds : Data → ℕ → Type 0
IsSeconds found seconds = IsNumber found seconds × (1 ≤ seconds)

-- a session id of 16 bits, or the word for the clock
abbrev pub IsSession : Data → SessionSource → Type 0
IsSession found (Id id) = (as_integer found ≡ Some (pos id)) × (id < 2 ^ 16)
IsSession found Clock = IsText found (codes "clock")

-- the word for an answer to another session
abbrev pub IsOtherSession : Data → OtherSession → Type 0
IsOtherSession found Report = IsText found (codes "report")
IsOtherSession found Reset = IsText found (codes "reset")

-- the word for what becomes of a stale list
abbrev pub IsStaleWord : Data → Stale → Type 0
IsStaleWord found Serve = IsText found (codes "serve")
IsStaleWord found Withdraw = IsText found (codes "withdraw")

-- what becomes of a list that is older than it may be: as at the key, or it is served; none is withdrawn where no age is told
pub record IsStale (table : Members) (max_age : Option ℕ) (stale : Stale) : Type 0 where
  pub told : IsToldOrUsual IsStaleWord Serve (get_member (codes "stale") table) stale
  pub aged : stale ≡ Withdraw → max_age ≢ None

-- the intervals are those at their keys, or the usual ones, and lawful
pub record AreIntervals (table : Members) (intervals : Intervals) : Type 0 where
  pub refresh : IsToldOrUsual IsNumber 3600 (get_member (codes "refresh") table) intervals.refresh
  pub retry : IsToldOrUsual IsNumber 600 (get_member (codes "retry") table) intervals.retry
  pub expire : IsToldOrUsual IsNumber 7200 (get_member (codes "expire") table) intervals.expire
  pub lawful : are_lawful intervals ≡ true

-- for how long a router may be silent: as at the keys, or a minute at first and later the expire interval, and longer than
-- the refresh interval
pub record IsPatience (table : Members) (intervals : Intervals) (patience : Patience) : Type 0 where
  pub first : IsToldOrUsual IsSeconds 60 (get_member (codes "first") table) patience.first
  pub idle : IsToldOrUsual IsSeconds intervals.expire (get_member (codes "idle") table) patience.idle
  pub longer : intervals.refresh < patience.idle

-- per cent: a number up to 100
abbrev pub IsPerCent : Data → ℕ → Type 0
IsPerCent found share = IsNumber found share × (share ≤ 100)

-- what a list has to keep to, as far as the keys are there
pub record AreGuards (table : Members) (guards : Guards) : Type 0 where
  pub min_payloads : IsToldIfThere IsNumber (get_member (codes "min_payloads") table) guards.min_payloads
  pub max_payloads : IsToldIfThere IsNumber (get_member (codes "max_payloads") table) guards.max_payloads
  pub max_shrink : IsToldIfThere IsPerCent (get_member (codes "max_shrink") table) guards.max_shrink

-- what stands at the keys besides where the cache listens and its list
pub record AreTerms (table : Members) (terms : Terms) : Type 0 where
  pub session : IsTold IsSession (get_member (codes "session") table) terms.session
  pub other_session : IsToldOrUsual IsOtherSession Report (get_member (codes "other_session") table) terms.other_session
  pub intervals : AreIntervals table terms.intervals
  pub patience : IsPatience table terms.intervals terms.patience
  pub guards : AreGuards table terms.guards
  pub expires : IsToldOrUsual IsYesOrNo false (get_member (codes "expires") table) terms.expires
  pub reread : IsToldIfThere IsSeconds (get_member (codes "reread") table) terms.reread
  pub max_age : IsToldIfThere IsSeconds (get_member (codes "max_age") table) terms.max_age
  pub stale : IsStale table terms.max_age terms.stale
  pub log : IsToldOrUsual IsYesOrNo false (get_member (codes "log") table) terms.log
  pub status : IsToldIfThere IsSeconds (get_member (codes "status") table) terms.status

-- the terms of settings
abbrev pub terms_of : CacheSettings → Terms
terms_of settings = record {
  session = settings.session;
  other_session = settings.other_session;
  intervals = settings.intervals;
  patience = settings.patience;
  guards = settings.guards;
  expires = settings.expires;
  reread = settings.reread;
  max_age = settings.max_age;
  stale = settings.stale;
  log = settings.log;
  status = settings.status;
}

-- the keys of the settings
abbrev pub keys_of_a_cache : List (List ℕ)
keys_of_a_cache =
    codes "listen" ∷ codes "csv" ∷ codes "slurm" ∷ codes "session" ∷ codes "other_session" ∷ codes "refresh" ∷ codes "retry" ∷ codes "expire" ∷ codes "first" ∷ codes "idle" ∷ codes "min_payloads"
    ∷ codes "max_payloads" ∷ codes "max_shrink" ∷ codes "expires" ∷ codes "reread" ∷ codes "max_age" ∷ codes "stale" ∷ codes "log" ∷ codes "status" ∷ codes "metrics" ∷ codes "control" ∷ []

-- the settings are what stands at their keys, and there are no others
pub record IsToldBy (table : Members) (settings : CacheSettings) : Type 0 where
  pub keys : HasNoKeyBut keys_of_a_cache table
  pub listen : IsTold IsAddress (get_member (codes "listen") table) settings.listen
  pub csv : IsTold IsText (get_member (codes "csv") table) (string_bytes settings.csv)
  pub slurm : IsToldIfThere IsText (get_member (codes "slurm") table) (option_map string_bytes settings.slurm)
  pub metrics : IsToldIfThere IsAddress (get_member (codes "metrics") table) settings.metrics
  pub control : IsToldIfThere IsText (get_member (codes "control") table) (option_map string_bytes settings.control)
  pub terms : AreTerms table (terms_of settings)
