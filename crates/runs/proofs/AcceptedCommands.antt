-- Commands that are accepted one after another.
use Rattle.std.proofs.Common.{◌≡◌, ◌++◌, ◌∙◌, [], ◌∷◌, None, sym, ap, subst, append_assoc}
use Rattle.bgp_conf.specs.declared.command.Command.{Command}
use Rattle.runs.specs.AcceptedCommands.{AreAccepted}
use Rattle.runs.specs.FirstRefusal.{refusal_in}
use Rattle.runs.specs.Runs.{Call, Run, Turn, Command_call, asked}
use Rattle.runs.specs.declared.config.Config.{Config}
use Rattle.runs.specs.declared.event.Event.TheVariants.{Command as Commanded}

abbrev call_of_command : Command → Call
call_of_command command = Command_call command

-- one is
pub accepted_one : (config : Config) (r : Run) (now : Turn) (command : Command) → asked now.call ≡ Command_call command → refusal_in config r (Commanded command) ≡ None → AreAccepted config r (now ∷ [])
accepted_one config r now command is accepted = (λ other asks. ap (λ (c : Command). refusal_in config r (Commanded c)) (sym (same other asks)) ∙ accepted, tt)
  where
    same : (other : Command) → asked now.call ≡ call_of_command other → command ≡ other
    same other asks = let calls : call_of_command command ≡ call_of_command other = sym is ∙ asks in cc

-- some are, and then others
pub accepted-append : (config : Config) (r first second : Run) → AreAccepted config r first → AreAccepted config (first ++ r) second → AreAccepted config r (second ++ first)
accepted-append config r first [] accepted more = accepted
accepted-append config r first (now ∷ second) accepted more =
    (λ command asks. ap (λ (x : Run). refusal_in config x (Commanded command)) (append_assoc second first r) ∙ more.0 command asks, accepted-append config r first second accepted more.1)
