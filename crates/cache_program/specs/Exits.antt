-- What faults of the list and of the cache are to the program.
use Rattle.rtr_cache.specs.declared.refusal.CacheRefusal.{CacheRefusal}
use Rattle.rtr_cache.specs.declared.refusal.CacheRefusal.TheVariants.{NoClient, Full, ClockBack, NoMemory as NoMemoryOfCache, Range}
use Rattle.payload_sources.specs.SourceExits.{exit_of_source}
use Rattle.cache_watch.specs.declared.reread.ListFault.{ListFault}
use Rattle.cache_watch.specs.declared.reread.ListFault.TheVariants.{NoFile, Source, Guard, Old, Other, NoMemory}
use Rattle.settings_keys.specs.SettingsExits.{exit_of_settings}
use Rattle.cache_program.specs.declared.fault.CacheFault.{CacheFault}
use Rattle.cache_program.specs.declared.fault.CacheFault.TheVariants.{Words, File, Settings as BadSettings, List as BadList, Refused, Listen, Metrics, Clock, Turn, Output, NoMemory as NoMemoryToBegin}
use Rattle.program_endings.specs.declared.fault.ExitFault.{ExitFault}
use Rattle.program_endings.specs.declared.fault.ExitFault.TheVariants.{Arguments, Settings, Device}

-- what a first list that can't be had is to the program
abbrev pub exit_of_first_list : ListFault → ExitFault
exit_of_first_list (NoFile file) = Device
exit_of_first_list (Source why) = exit_of_source why
exit_of_first_list (Guard why) = Settings
exit_of_first_list (Old payloads seconds most) = Settings
exit_of_first_list (Other payloads refused) = Settings
exit_of_first_list NoMemory = Device

-- what a refusal of the cache is to the program
abbrev pub exit_of_refusal : CacheRefusal → ExitFault
exit_of_refusal NoClient = Settings
exit_of_refusal Full = Settings
exit_of_refusal ClockBack = Settings
exit_of_refusal NoMemoryOfCache = Device
exit_of_refusal Range = Settings

-- what ends the program, to whoever started it
abbrev pub exit_of_fault : CacheFault → ExitFault
exit_of_fault (Words why) = Arguments
exit_of_fault (File path error) = Device
exit_of_fault (BadSettings path why) = exit_of_settings why
exit_of_fault (BadList path why) = exit_of_first_list why
exit_of_fault (Refused refusal) = exit_of_refusal refusal
exit_of_fault (Listen address error) = Device
exit_of_fault (Metrics address error) = Device
exit_of_fault (Clock error) = Device
exit_of_fault (Turn why) = Device
exit_of_fault (Output error) = Device
exit_of_fault NoMemoryToBegin = Device
