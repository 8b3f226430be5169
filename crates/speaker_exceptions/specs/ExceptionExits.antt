-- What it is to a program that a file's exceptions aren't obeyed (own).
use Rattle.bgp_conf.specs.declared.refusal.Refusal.{Refusal}
use Rattle.bgp_conf.specs.declared.refusal.Refusal.TheVariants.{UnknownName, TooMany, InUse, Range as OutOfRange, UnknownException, BadSlot, ClockBack as MomentBack, NotExpected, SlotTaken, NoMemory as NoMemoryOfSpeaker, AddressTaken}
use Rattle.program_endings.specs.declared.fault.ExitFault.{ExitFault}
use Rattle.program_endings.specs.declared.fault.ExitFault.TheVariants.{Settings, Device}
use Rattle.slurm_files.specs.declared.fault.SlurmFault.{SlurmFault}
use Rattle.slurm_files.specs.declared.fault.SlurmFault.TheVariants.{Text, File, Filters, Assertions, Entry, NoMemory}
use Rattle.speaker_exceptions.specs.declared.fault.ExceptionsFault.{ExceptionsFault}
use Rattle.speaker_exceptions.specs.declared.fault.ExceptionsFault.TheVariants.{Slurm, Refused}

-- what the fault of a SLURM file is to the program
abbrev pub exit_of_slurm : SlurmFault → ExitFault
exit_of_slurm (Text octet) = Settings
exit_of_slurm (File cause) = Settings
exit_of_slurm (Filters cause) = Settings
exit_of_slurm (Assertions cause) = Settings
exit_of_slurm (Entry part place cause) = Settings
exit_of_slurm NoMemory = Device

-- what a refusal of the speaker is to the program
abbrev pub exit_of_refusal : Refusal → ExitFault
exit_of_refusal UnknownName = Settings
exit_of_refusal TooMany = Settings
exit_of_refusal InUse = Settings
exit_of_refusal OutOfRange = Settings
exit_of_refusal UnknownException = Settings
exit_of_refusal BadSlot = Settings
exit_of_refusal MomentBack = Settings
exit_of_refusal NotExpected = Settings
exit_of_refusal SlotTaken = Settings
exit_of_refusal NoMemoryOfSpeaker = Device
exit_of_refusal AddressTaken = Settings

-- why exceptions aren't obeyed, to the program
abbrev pub exit_of_exceptions : ExceptionsFault → ExitFault
exit_of_exceptions (Slurm fault) = exit_of_slurm fault
exit_of_exceptions (Refused refusal) = exit_of_refusal refusal
