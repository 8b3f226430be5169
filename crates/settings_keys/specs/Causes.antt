-- What faults of settings tell (own).
use Rattle.std.specs.Prelude.{◌≡◌, ℕ, List, Option, Some, None, string_bytes, ⊤}
use Rattle.settings_keys.specs.declared.cause.SettingsFault.{SettingsFault}
use Rattle.settings_keys.specs.declared.cause.SettingsFault.TheVariants.{Settings, NoMemory}
use Rattle.settings_keys.specs.declared.cause.SettingsPlace.{SettingsPlace}
use Rattle.settings_keys.specs.declared.cause.SettingsCause.{SettingsCause}
use Rattle.settings_keys.specs.declared.cause.SettingsCause.TheVariants.{UnknownKey}

-- the settings are at fault, and not memory
abbrev pub IsBad : SettingsFault → Type 0
IsBad (Settings place cause) = ⊤
IsBad NoMemory = ⊥

-- the cause is that this key isn't known
abbrev pub IsUnknown : SettingsCause → List ℕ → Type 0
IsUnknown (UnknownKey unknown owner nearest) key = string_bytes unknown ≡ key
IsUnknown other key = ⊥

-- some key isn't known, and it is told, or memory lacks for that
abbrev pub TellsUnknown : SettingsFault → Option (List ℕ) → Type 0
TellsUnknown fault None = ⊥
TellsUnknown (Settings place cause) (Some key) = IsUnknown cause key
TellsUnknown NoMemory (Some key) = ⊤

-- the same fault, in this place
abbrev pub placed : SettingsPlace → SettingsFault → SettingsFault
placed place (Settings before cause) = Settings place cause
placed place NoMemory = NoMemory
