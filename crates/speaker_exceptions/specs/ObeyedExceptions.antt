-- What the exceptions of a SLURM file make of a speaker.
use Rattle.std.specs.Prelude.{◌≡◌, ◌++◌, ◌⊎◌, List, [], ◌∷◌, None, Some, Result, Ok, Err, map}
use Rattle.bgp_conf.specs.declared.command.Command.{Command}
use Rattle.bgp_conf.specs.declared.command.Command.TheVariants as command
use Rattle.bgp_conf.specs.declared.refusal.Refusal.{Refusal}
use Rattle.bgp_conf.specs.declared.refusal.Refusal.TheVariants.{NoMemory}
use Rattle.local_exceptions.specs.ExceptionSets.{ExceptionSets}
use Rattle.local_exceptions.specs.declared.filter.Filter.{Filter}
use Rattle.local_exceptions.specs.declared.filter.Filter.TheVariants.{Prefix, As, Both}
use Rattle.net_prefix.specs.declared.payload.Vrp.{Vrp}
use Rattle.runs.specs.AcceptedCommands.{AreAccepted}
use Rattle.runs.specs.Agreement.{Agrees}
use Rattle.runs.specs.FirstRefusal.{refusal_in, refusal_of}
use Rattle.runs.specs.Runs.{Run, Turn, Command_call, asked}
use Rattle.runs.specs.SpeakerState.{SpeakerState}
use Rattle.runs.specs.declared.config.Config.{Config}
use Rattle.runs.specs.declared.event.Event.TheVariants.{Command as Commanded}

-- the command of a filter
abbrev pub command_of_filter : Filter → Command
command_of_filter (Prefix prefix) = command.Filter (Some prefix) None
command_of_filter (As asn) = command.Filter None (Some asn)
command_of_filter (Both prefix asn) = command.Filter (Some prefix) (Some asn)

-- the command of an assertion
abbrev pub command_of_assertion : Vrp → Command
command_of_assertion payload = command.Assert payload.prefix payload.max_len payload.asn

-- those of exceptions: of each filter, the least first, and then of each assertion
abbrev pub commands_of : ExceptionSets → List Command
commands_of exceptions = map command_of_filter exceptions.filters ++ map command_of_assertion exceptions.asserted

-- the turns, the newest first, are these commands, in order
abbrev pub AreTurnsOf : List Command → Run → Type 0
AreTurnsOf [] r = r ≡ []
AreTurnsOf (command ∷ commands) r = (later : Run) × (now : Turn) × (r ≡ later ++ now ∷ []) × (asked now.call ≡ Command_call command) × AreTurnsOf commands later

-- these commands were accepted, in order: for every run that the speaker agreed with, none of them is refused behind that run and
-- those before it, and the speaker agrees with that run followed by them
abbrev pub Obeys : List Command → SpeakerState → SpeakerState → Type 0
Obeys commands old new = (config : Config) (r : Run) → Agrees config r old → (more : Run) × AreTurnsOf commands more × AreAccepted config r more × Agrees config (more ++ r) new

-- nothing was: the speaker agrees with the runs that it agreed with
abbrev pub Stays : SpeakerState → SpeakerState → Type 0
Stays old new = (config : Config) (r : Run) → Agrees config r old → Agrees config r new

-- this is the first refusal of the command by a speaker that is so, or memory is refused to it
abbrev pub IsRefusedBy : SpeakerState → Command → Refusal → Type 0
IsRefusedBy s command why = (refusal_of s (Commanded command) ≡ Some why) ⊎ (why ≡ NoMemory)

-- one was accepted, or refused for this
abbrev pub ObeysOne : Command → Result (Unit {0}) Refusal → SpeakerState → SpeakerState → Type 0
ObeysOne command (Ok done) old new = (config : Config) (r : Run) → Agrees config r old → (now : Turn) × (asked now.call ≡ Command_call command) × (refusal_in config r (Commanded command) ≡ None) × Agrees config (now ∷ r) new
ObeysOne command (Err why) old new = IsRefusedBy new command why × Stays old new

-- one of these commands is refused for this by a speaker that is as those before it leave it
abbrev pub ObeysBefore : List Command → Refusal → SpeakerState → SpeakerState → Type 0
ObeysBefore commands why old new =
    (command : Command) × (before behind : List Command) × (commands ≡ before ++ command ∷ behind) × IsRefusedBy new command why × Obeys before old new

-- all of them were accepted, or those before the one that is refused
abbrev pub ObeysUpTo : List Command → Result (Unit {0}) Refusal → SpeakerState → SpeakerState → Type 0
ObeysUpTo commands (Ok done) old new = Obeys commands old new
ObeysUpTo commands (Err why) old new = ObeysBefore commands why old new
