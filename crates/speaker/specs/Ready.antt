-- How far an event has come within its call, and what kind of event it is.
use Rattle.std.specs.Prelude.{◌≡◌, Bool, true, false, [], ◌∷◌}
use Rattle.bgp_conf.specs.declared.command.Command.{Command}
use Rattle.bgp_conf.specs.declared.command.Command.TheVariants.{AddPeer, RemovePeer, Enable, Disable, SetPolicy, DropPolicy, UseIn, UseOut, Network, NoNetwork, Reach, NoReach, Filter, NoFilter, Assert, NoAssert}
use Rattle.runs.specs.Agreement.{Holds, IsFair}
use Rattle.runs.specs.Runs.{Call, Run, asked, cache_opened_by, cache_starved_by, opened_by, starved_by, turn}
use Rattle.runs.specs.SpeakerState.{SpeakerState}
use Rattle.runs.specs.declared.config.Config.{Config}
use Rattle.runs.specs.declared.event.Event.{Event}
use Rattle.runs.specs.declared.event.Event.TheVariants.{Up, Fail, Bytes, Tick, Command as Commanded, CacheUp, CacheFail, CacheBytes}
use Rattle.runs.specs.declared.event.Report.{Report}

-- a call that has taken its event, up to its end, and what it reports so far
pub record IsReady (config : Config) (r : Run) (wanted : Call) (done : Report) (s : SpeakerState) : Type 0 where
  pub call : Call
  pub asked_is : asked call ≡ wanted
  pub opened_is : opened_by config r call ≡ done.opened
  pub starved_is : starved_by call ≡ done.starved
  pub cache_opened_is : cache_opened_by config r call ≡ done.cache_opened
  pub cache_starved_is : cache_starved_by call ≡ done.cache_starved
  pub fair : IsFair config r call
  pub holds : Holds config (turn call [] ∷ r) s

-- whether the event is a command
abbrev pub is_command : Event → Bool
is_command (Up slot) = false
is_command (Fail slot) = false
is_command (Bytes slot octets) = false
is_command (Tick now) = false
is_command (Commanded command) = true
is_command CacheUp = false
is_command CacheFail = false
is_command (CacheBytes octets) = false

-- whether the command is of a kind that takes no memory of its own, and changes neither how next hops resolve nor the exceptions
abbrev pub is_free : Command → Bool
is_free (AddPeer slot peer) = false
is_free (RemovePeer slot) = true
is_free (Enable slot) = true
is_free (Disable slot) = true
is_free (SetPolicy name rules) = false
is_free (DropPolicy name) = true
is_free (UseIn slot name) = true
is_free (UseOut slot name) = true
is_free (Network prefix) = false
is_free (NoNetwork prefix) = true
is_free (Reach prefix cost) = false
is_free (NoReach prefix) = false
is_free (Filter prefix asn) = false
is_free (NoFilter prefix asn) = false
is_free (Assert prefix max_len asn) = false
is_free (NoAssert prefix max_len asn) = false

-- whether it is of one that neither adds to the configuration nor changes how next hops resolve
abbrev pub is_other : Command → Bool
is_other (AddPeer slot peer) = false
is_other (RemovePeer slot) = true
is_other (Enable slot) = true
is_other (Disable slot) = true
is_other (SetPolicy name rules) = false
is_other (DropPolicy name) = true
is_other (UseIn slot name) = true
is_other (UseOut slot name) = true
is_other (Network prefix) = false
is_other (NoNetwork prefix) = true
is_other (Reach prefix cost) = false
is_other (NoReach prefix) = false
is_other (Filter prefix asn) = true
is_other (NoFilter prefix asn) = true
is_other (Assert prefix max_len asn) = true
is_other (NoAssert prefix max_len asn) = true
