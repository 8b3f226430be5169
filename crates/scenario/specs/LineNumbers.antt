-- Which line a fault of a run names.
use Rattle.std.specs.Prelude.{◌≡◌, ◌≤◌, ℕ, ⊤}
use Rattle.scenario.specs.declared.script.PlayFault.{PlayFault}
use Rattle.scenario.specs.declared.script.PlayFault.TheVariants.{BadLine, Device, NoMemory}

-- the fault is not that of a line
abbrev pub IsOutside : PlayFault → Type 0
IsOutside (BadLine number) = ⊥
IsOutside Device = ⊤
IsOutside NoMemory = ⊤

-- where the fault is that of a line, it names this one
abbrev pub NamesLine : ℕ → PlayFault → Type 0
NamesLine line (BadLine number) = number ≡ line
NamesLine line Device = ⊤
NamesLine line NoMemory = ⊤

-- where the fault is that of a line, the lines are counted from 1
abbrev pub CountsFromOne : PlayFault → Type 0
CountsFromOne (BadLine number) = 1 ≤ number
CountsFromOne Device = ⊤
CountsFromOne NoMemory = ⊤
