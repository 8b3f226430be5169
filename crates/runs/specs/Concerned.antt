-- Which sessions a call is for (our own).
use Rattle.std.specs.Prelude.{ℕ, Bool, true, false, ◌==◌}
use Rattle.bgp_conf.specs.declared.command.Command.{Command}
use Rattle.bgp_conf.specs.declared.command.Command.TheVariants.{AddPeer, RemovePeer, Enable, Disable, SetPolicy, DropPolicy, UseIn, UseOut, Network, NoNetwork, Reach, NoReach, Filter, NoFilter, Assert, NoAssert}
use Rattle.runs.specs.Runs.{Call, Up_call, Fail_call, Bytes_call, Starved_call, Tick_call, Command_call, Take_call, Cache_up_call, Cache_fail_call, Cache_bytes_call, Cache_starved_call, Cache_take_call}

-- the command is for the session of the slot
abbrev pub is_command_for : Command → ℕ → Bool
is_command_for (AddPeer slot peer) s = s == slot
is_command_for (RemovePeer slot) s = s == slot
is_command_for (Enable slot) s = s == slot
is_command_for (Disable slot) s = s == slot
is_command_for (SetPolicy name rules) s = false
is_command_for (DropPolicy name) s = false
is_command_for (UseIn slot name) s = false
is_command_for (UseOut slot name) s = false
is_command_for (Network prefix) s = false
is_command_for (NoNetwork prefix) s = false
is_command_for (Reach prefix cost) s = false
is_command_for (NoReach prefix) s = false
is_command_for (Filter prefix asn) s = false
is_command_for (NoFilter prefix asn) s = false
is_command_for (Assert prefix max_len asn) s = false
is_command_for (NoAssert prefix max_len asn) s = false

-- the call is for the session of the slot: a tick is for that of every slot, and what comes to the cache session for none
abbrev pub is_call_for : Call → ℕ → Bool
is_call_for (Up_call slot) s = s == slot
is_call_for (Fail_call slot) s = s == slot
is_call_for (Bytes_call slot octets) s = s == slot
is_call_for (Starved_call slot before octet behind) s = s == slot
is_call_for (Tick_call now) s = true
is_call_for (Command_call command) s = is_command_for command s
is_call_for (Take_call slot octets) s = s == slot
is_call_for Cache_up_call s = false
is_call_for Cache_fail_call s = false
is_call_for (Cache_bytes_call octets) s = false
is_call_for (Cache_starved_call before octet behind) s = false
is_call_for (Cache_take_call octets) s = false
