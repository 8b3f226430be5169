-- A command between two turns.
use Rattle.std.specs.Prelude.{◌≡◌, ◌∷◌, MatchOption, Result, Ok, Err}
use Rattle.bgp_conf.specs.declared.command.Command.{Command}
use Rattle.bgp_conf.specs.declared.refusal.Refusal.{Refusal}
use Rattle.bgp_conf.specs.declared.refusal.Refusal.TheVariants.{NoMemory}
use Rattle.runs.specs.Agreement.{Agrees}
use Rattle.runs.specs.FirstRefusal.{LacksMemory, refusal_of}
use Rattle.runs.specs.Runs.{Command_call, Run, Turn, asked, report_of}
use Rattle.runs.specs.SpeakerState.{SpeakerState}
use Rattle.runs.specs.declared.config.Config.{Config}
use Rattle.runs.specs.declared.event.Event.TheVariants.{Command as Commanded}
use Rattle.runs.specs.declared.event.Report.{Report}
use Rattle.speaker_turns.specs.Turns.{AtAll, GivesWay, Turns}

-- a command is accepted, and this is what the call reports: for every run that the speaker agreed with, it agrees with that run
-- followed by the command
abbrev pub Commands : Command → SpeakerState → Report → SpeakerState → Type 0
Commands command old report new =
    (config : Config) (r : Run) → Agrees config r old
    → (t : Turn) × (asked t.call ≡ Command_call command) × (report ≡ report_of config r t) × Agrees config (t ∷ r) new

-- it is refused for this: the first refusal, which changes nothing, or want of memory, which changes nothing that others see
abbrev pub Refuses : Command → SpeakerState → Refusal → SpeakerState → Type 0
Refuses command old why new =
    MatchOption (refusal_of old (Commanded command)) ((why ≡ NoMemory) × LacksMemory (Commanded command) old new) (λ first. (why ≡ first) × (new ≡ old))

-- a command that is handed to a speaker, and its answer
abbrev pub Commanding : Command → SpeakerState → Result Report Refusal → SpeakerState → Type 0
Commanding command old (Ok report) new = Commands command old report new
Commanding command old (Err why) new = Refuses command old why new

-- the speaker takes the command, and attempts that it begins again take the place of those that stand
pub record TakesCommand (command : Command) (old : Turns) (report : Report) (new : Turns) : Type 0 where
  pub told : Turns
  pub commands : Commands command old.speaker report told.speaker
  pub same : told ≡ record old { speaker = told.speaker }
  pub gives_way : AtAll (GivesWay report) told new

-- it doesn't
pub record RefusesCommand (command : Command) (old : Turns) (why : Refusal) (new : Turns) : Type 0 where
  pub refuses : Refuses command old.speaker why new.speaker
  pub same : new ≡ record old { speaker = new.speaker }

-- a command that is handed to a loop, and its answer
abbrev pub Obeys : Command → Turns → Result Report Refusal → Turns → Type 0
Obeys command old (Ok report) new = TakesCommand command old report new
Obeys command old (Err why) new = RefusesCommand command old why new
