-- What refused settings are to a program.
use Rattle.program_endings.specs.declared.fault.ExitFault.{ExitFault}
use Rattle.program_endings.specs.declared.fault.ExitFault.TheVariants.{Settings, Device}
use Rattle.settings_keys.specs.declared.cause.SettingsFault.{SettingsFault}
use Rattle.settings_keys.specs.declared.cause.SettingsFault.TheVariants.{Settings as BadSettings, NoMemory as NoMemoryOfSettings}

-- what refused settings are to the program
abbrev pub exit_of_settings : SettingsFault → ExitFault
exit_of_settings (BadSettings place cause) = Settings
exit_of_settings NoMemoryOfSettings = Device
