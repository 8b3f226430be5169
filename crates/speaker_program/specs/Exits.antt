-- What refusals of the speaker and faults of its commands are to the program.
use Rattle.bgp_conf.specs.RefusalNumbers.{number_of}
use Rattle.bgp_conf.specs.declared.refusal.Refusal.{Refusal}
use Rattle.bgp_conf.specs.declared.refusal.Refusal.TheVariants.{UnknownName, TooMany, InUse, Range as OutOfRange, UnknownException, BadSlot, ClockBack as MomentBack, NotExpected, SlotTaken, NoMemory as NoMemoryOfSpeaker, AddressTaken}
use Rattle.scenario.specs.declared.commands.CommandsFault.{CommandsFault}
use Rattle.scenario.specs.declared.commands.CommandsFault.TheVariants.{BadLine as BadCommand, Refused as RefusedCommand, Device as DeviceOfCommands, NoMemory as NoMemoryOfCommands}
use Rattle.settings_keys.specs.SettingsExits.{exit_of_settings}
use Rattle.speaker_exceptions.specs.ExceptionExits.{exit_of_exceptions}
use Rattle.speaker_program.specs.declared.fault.SpeakerFault.{SpeakerFault}
use Rattle.speaker_program.specs.declared.fault.SpeakerFault.TheVariants.{Words, File, Settings as BadSettings, Commands, Exceptions, Slot, Refused as RefusedBeginning, Listen, Metrics, Clock, Turn, Output, NoMemory as NoMemoryToBegin}
use Rattle.program_endings.specs.declared.fault.ExitFault.{ExitFault}
use Rattle.program_endings.specs.declared.fault.ExitFault.TheVariants.{Arguments, Settings, BadLine, RefusedLine, Device}

-- what a refusal of the speaker as a whole is to the program
abbrev pub exit_of_speaker : Refusal → ExitFault
exit_of_speaker UnknownName = Settings
exit_of_speaker TooMany = Settings
exit_of_speaker InUse = Settings
exit_of_speaker OutOfRange = Settings
exit_of_speaker UnknownException = Settings
exit_of_speaker BadSlot = Settings
exit_of_speaker MomentBack = Settings
exit_of_speaker NotExpected = Settings
exit_of_speaker SlotTaken = Settings
exit_of_speaker NoMemoryOfSpeaker = Device
exit_of_speaker AddressTaken = Settings

-- what a fault of the commands is to the program
abbrev pub exit_of_commands : CommandsFault → ExitFault
exit_of_commands (BadCommand line) = BadLine line
exit_of_commands (RefusedCommand line why) = RefusedLine line (number_of why)
exit_of_commands DeviceOfCommands = Device
exit_of_commands NoMemoryOfCommands = Device

-- what ends the program, to whoever started it
abbrev pub exit_of_fault : SpeakerFault → ExitFault
exit_of_fault (Words why) = Arguments
exit_of_fault (File path error) = Device
exit_of_fault (BadSettings path why) = exit_of_settings why
exit_of_fault (Commands path unobeyed) = exit_of_commands unobeyed.why
exit_of_fault (Exceptions path why) = exit_of_exceptions why
exit_of_fault (Slot path slot) = Settings
exit_of_fault (RefusedBeginning refusal) = exit_of_speaker refusal
exit_of_fault (Listen address error) = Device
exit_of_fault (Metrics address error) = Device
exit_of_fault (Clock error) = Device
exit_of_fault (Turn why) = Device
exit_of_fault (Output error) = Device
exit_of_fault NoMemoryToBegin = Device
