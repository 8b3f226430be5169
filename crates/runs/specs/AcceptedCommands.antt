-- Commands that are accepted one after another.
use Rattle.std.specs.Prelude.{◌≡◌, ◌++◌, ⊤, [], ◌∷◌, None}
use Rattle.bgp_conf.specs.declared.command.Command.{Command}
use Rattle.runs.specs.FirstRefusal.{refusal_in}
use Rattle.runs.specs.Runs.{Run, Turn, Command_call, asked}
use Rattle.runs.specs.declared.config.Config.{Config}
use Rattle.runs.specs.declared.event.Event.TheVariants.{Command as Commanded}

-- no command of these turns is refused behind a run and the turns of theirs before it
abbrev pub AreAccepted : Config → Run → Run → Type 0
AreAccepted config r [] = ⊤
AreAccepted config r (now ∷ more) = ((command : Command) → asked now.call ≡ Command_call command → refusal_in config (more ++ r) (Commanded command) ≡ None) × AreAccepted config r more
