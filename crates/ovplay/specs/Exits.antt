-- What ends `ovplay`, to whoever started it.
use Rattle.std.specs.Prelude.{⊤}
use Rattle.program_endings.specs.declared.fault.ExitFault.{ExitFault}
use Rattle.program_endings.specs.declared.fault.ExitFault.TheVariants.{Arguments, BadLine, Device}
use Rattle.scenario.specs.declared.script.PlayFault.{PlayFault}
use Rattle.scenario.specs.declared.script.PlayFault.TheVariants.{BadLine as BadScriptLine, Device as DeviceOfScript, NoMemory as NoMemoryOfScript}
use Rattle.ovplay.specs.declared.play_main.PlayEnd.{PlayEnd}
use Rattle.ovplay.specs.declared.play_main.PlayEnd.TheVariants.{Words, Script, Output}

-- what a fault of a script is to the program
abbrev pub exit_of_script : PlayFault → ExitFault
exit_of_script (BadScriptLine line) = BadLine line
exit_of_script DeviceOfScript = Device
exit_of_script NoMemoryOfScript = Device

-- and what ends it
abbrev pub exit_of_fault : PlayEnd → ExitFault
exit_of_fault Words = Arguments
exit_of_fault (Script fault) = exit_of_script fault
exit_of_fault Output = Device

-- the words are wrong
abbrev pub IsOfWords : PlayEnd → Type 0
IsOfWords Words = ⊤
IsOfWords (Script fault) = ⊥
IsOfWords Output = ⊥
