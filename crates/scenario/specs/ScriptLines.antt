-- Which lines of a script command.
use Rattle.std.specs.Prelude.{ℕ, ⊤, List}
use Rattle.command_lines.specs.CommandWords.{SaysLine}
use Rattle.scenario.specs.declared.line.Line.{Line}
use Rattle.scenario.specs.declared.line.Line.TheVariants.{Speaker, Drive, Cache, Load, Serve}
use Rattle.scenario.specs.declared.line.SpeakerLine.{SpeakerLine}
use Rattle.scenario.specs.declared.line.SpeakerLine.TheVariants as own

-- a line for the speaker that commands says what its words do
abbrev pub SaysIfCommand : List (List ℕ) → SpeakerLine → Type 0
SaysIfCommand words (own.Obey command) = SaysLine words command
SaysIfCommand words (own.Up slot) = ⊤
SaysIfCommand words (own.Fail slot) = ⊤
SaysIfCommand words (own.Bytes slot octets) = ⊤
SaysIfCommand words own.CacheUp = ⊤
SaysIfCommand words own.CacheFail = ⊤
SaysIfCommand words (own.CacheBytes octets) = ⊤
SaysIfCommand words (own.CacheTake most) = ⊤
SaysIfCommand words (own.Tick seconds) = ⊤
SaysIfCommand words (own.Take slot most) = ⊤
SaysIfCommand words (own.Show table) = ⊤

-- so does a line
abbrev pub SaysItsCommand : List (List ℕ) → Line → Type 0
SaysItsCommand words (Speaker config) = ⊤
SaysItsCommand words (Drive line) = SaysIfCommand words line
SaysItsCommand words (Cache session intervals) = ⊤
SaysItsCommand words Load = ⊤
SaysItsCommand words (Serve line) = ⊤

-- the line commands nothing
abbrev pub IsNoCommand : Line → Type 0
IsNoCommand line = (words : List (List ℕ)) → SaysItsCommand words line
