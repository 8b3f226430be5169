-- Which line a fault of a file of commands names.
use Rattle.std.specs.Prelude.{◌≡◌, ◌≢◌, ◌≤◌, ℕ, ⊤}
use Rattle.bgp_conf.specs.declared.refusal.Refusal.{Refusal}
use Rattle.bgp_conf.specs.declared.refusal.Refusal.TheVariants.{NoMemory as Memory}
use Rattle.command_lines.specs.declared.command_line.LineFault.{LineFault}
use Rattle.command_lines.specs.declared.command_line.LineFault.TheVariants.{BadLine as Bad, NoMemory as Unread}
use Rattle.scenario.specs.declared.commands.CommandsFault.{CommandsFault}
use Rattle.scenario.specs.declared.commands.CommandsFault.TheVariants.{BadLine, Refused, Device, NoMemory}

-- the fault is not that of a line
abbrev pub IsOutside : CommandsFault → Type 0
IsOutside (BadLine number) = ⊥
IsOutside (Refused number why) = ⊥
IsOutside Device = ⊤
IsOutside NoMemory = ⊤

-- where the fault is that of a line, it names this one; want of memory is no refusal
abbrev pub NamesLine : ℕ → CommandsFault → Type 0
NamesLine line (BadLine number) = number ≡ line
NamesLine line (Refused number why) = (number ≡ line) × (why ≢ Memory)
NamesLine line Device = ⊤
NamesLine line NoMemory = ⊤

-- where the fault is that of a line, the lines are counted from 1; want of memory is no refusal
abbrev pub CountsFromOne : CommandsFault → Type 0
CountsFromOne (BadLine number) = 1 ≤ number
CountsFromOne (Refused number why) = (1 ≤ number) × (why ≢ Memory)
CountsFromOne Device = ⊤
CountsFromOne NoMemory = ⊤

-- what it is that the command on this line was refused so
abbrev pub fault_of : ℕ → Refusal → CommandsFault
fault_of line Memory = NoMemory
fault_of line why = Refused line why

-- the fault tells of this refusal, unless memory was wanting
abbrev pub TellsRefusal : Refusal → CommandsFault → Type 0
TellsRefusal why (BadLine number) = ⊥
TellsRefusal why (Refused number told) = (told ≡ why) × (why ≢ Memory)
TellsRefusal why Device = ⊥
TellsRefusal why NoMemory = ⊤

-- what it is that the words of this line weren't read
abbrev pub unread_at : ℕ → LineFault → CommandsFault
unread_at line Bad = BadLine line
unread_at line Unread = NoMemory
