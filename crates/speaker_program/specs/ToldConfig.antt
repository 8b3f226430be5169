-- What a speaker of settings is made with (own).
use Rattle.std.specs.Prelude.{ℕ, List, [], ◌∷◌, is_some, unwrap_or}
use Rattle.bgp_fsm.specs.declared.timers.PeerTimers.{PeerTimers}
use Rattle.runs.specs.SlotTimes.{usual_timers, with_times}
use Rattle.runs.specs.declared.config.Config.{Config}
use Rattle.runs.specs.declared.config.SlotTimers.{SlotTimers}
use Rattle.speaker_settings.specs.declared.settings.SpeakerSettings.{SpeakerSettings}

-- the peers of these slots have these timers
abbrev pub with_all_times : List (ℕ × PeerTimers) → SlotTimers → SlotTimers
with_all_times [] timers = timers
with_all_times (told ∷ behind) timers = with_all_times behind (with_times timers told.0 told.1)

-- the AS, the identifier, the cache and the capabilities of the settings, the cache session's Retry Interval, which is the usual one
-- of RFC 8210 section 6 where they tell none, and each slot's timers, which are the usual ones where they have no peer of the slot
abbrev pub config_of : SpeakerSettings → Config
config_of settings = record {
  asn = settings.asn;
  identifier = settings.identifier;
  cache = is_some settings.cache;
  cache_retry = unwrap_or settings.cache_retry 600;
  multiprotocol = settings.multiprotocol;
  timers = with_all_times settings.timers.items usual_timers;
}
