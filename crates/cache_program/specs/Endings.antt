-- How the program of a cache ends.
use Rattle.std.specs.Prelude.{◌≡◌, ℕ, Result, Ok, Err, ⊤}
use Rattle.program_endings.specs.Exits.{status_of}
use Rattle.cache_program.specs.Exits.{exit_of_fault}
use Rattle.cache_program.specs.declared.fault.CacheFault.{CacheFault}
use Rattle.cache_program.specs.declared.fault.CacheFault.TheVariants.{Words, File, Settings, List, Refused, Listen, Metrics, Clock, Turn, Output, NoMemory}

-- the words are wrong
abbrev pub IsOfWords : CacheFault → Type 0
IsOfWords (Words why) = ⊤
IsOfWords (File path error) = ⊥
IsOfWords (Settings path why) = ⊥
IsOfWords (List path why) = ⊥
IsOfWords (Refused refusal) = ⊥
IsOfWords (Listen address error) = ⊥
IsOfWords (Metrics address error) = ⊥
IsOfWords (Clock error) = ⊥
IsOfWords (Turn why) = ⊥
IsOfWords (Output error) = ⊥
IsOfWords NoMemory = ⊥

-- well, or by this fault
abbrev pub EndsSo : {T : Type 0} → Result T CacheFault → Result (Unit {0}) CacheFault → Type 0
EndsSo (Ok served) result = result ≡ Ok tt
EndsSo (Err fault) result = result ≡ Err fault

-- the exit status of a program that has ended so
abbrev pub status_at_end : Result (Unit {0}) CacheFault → ℕ
status_at_end (Ok done) = 0
status_at_end (Err fault) = status_of (exit_of_fault fault)
