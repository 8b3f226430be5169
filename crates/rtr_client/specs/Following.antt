-- What a client is seen as, and what a step of it may do.
use Rattle.std.specs.Prelude.{◌&&◌, ◌==◌, ℕ, Bool, false, not, List, if◌then◌else◌}
use Rattle.std.specs.List.{list_any}
use Rattle.net_prefix.specs.declared.payload.Vrp.{Vrp}
use Rattle.net_prefix.specs.PayloadSets.{has}
use Rattle.rtr_codec.specs.ClientState as table
use Rattle.rtr_codec.specs.Intervals.{are_lawful}
use Rattle.rtr_codec.specs.declared.intervals.Intervals.{Intervals}
use Rattle.rtr_codec.specs.PduSpelling.{Content, Announce, Withdraw, End_of_data, content_of}
use Rattle.vrp_delta.specs.Delta.{Change}
use Rattle.vrp_delta.specs.Versions.{is_same_set}
use Rattle.rtr_client.specs.Book.{start_of}
use Rattle.rtr_client.specs.declared.input.Input.{Input}
use Rattle.rtr_client.specs.declared.input.Input.TheVariants.{Up, Fail, Heard, Faulty, Tick, NoRoom}
use Rattle.rtr_client.specs.declared.state.ClientState.{ClientState}
use Rattle.rtr_client.specs.declared.state.ClientState.TheVariants as states

-- the client of the table, and what the last step changed of the payloads in force
pub record Following : Type 0 where
  pub client : table.Client
  pub changed : Change

-- an input of the code as the table has it
abbrev pub input_of : Input → table.Input
input_of Up = table.Up
input_of Fail = table.Fail
input_of (Heard pdu octets) = table.Heard (content_of pdu) octets.now
input_of (Faulty fault octets) = table.Faulty fault octets.now
input_of Tick = table.Tick
input_of NoRoom = table.No_room

-- where memory was refused the input's row is that of refused memory
abbrev pub served : Bool → table.Input → table.Input
served starved input = if starved then table.Starved else input

-- an End of Data of this session and with lawful intervals completes a load
abbrev pub completes : ℕ → ℕ → Intervals → Bool
completes own session intervals = (session == own) && are_lawful intervals

-- whether a set has a payload that another lacks
abbrev pub has_more : List Vrp → List Vrp → Bool
has_more set other = list_any (λ payload. not (has other payload)) set

-- whether a load with these payloads needs memory to be in force: after a Serial Query where it brings a payload that isn't in force, after a Reset Query where it hasn't just those in force
abbrev pub wants_memory : Bool → List Vrp → List Vrp → Bool
wants_memory serially set in_force = if serially then has_more set in_force else not (is_same_set set in_force)

-- whether a load needs memory for this PDU, where the PDU is no fault: a payload that comes and that the load didn't start from, one that leaves and that it did start from, and the end of a load
abbrev pub takes_at : table.Stage → List Vrp → Content → Bool
takes_at (table.Loading serially own set) in_force (Announce payload) = not (has set payload) && not (has (start_of serially in_force) payload)
takes_at (table.Loading serially own set) in_force (Withdraw payload) = has set payload && has (start_of serially in_force) payload
takes_at (table.Loading serially own set) in_force (End_of_data session serial intervals) = completes own session intervals && wants_memory serially set in_force
takes_at stage in_force content = false

abbrev pub load_takes : table.Client → Content → Bool
load_takes client content = takes_at client.stage (table.in_force client) content

-- whether memory may be refused to a step
abbrev pub can_starve : table.Client → table.Input → Bool
can_starve client (table.Heard content octets) = load_takes client content
can_starve client input = false

-- the state that operators see
abbrev pub state_at : table.Stage → ClientState
state_at table.Off = states.Off
state_at table.Opening = states.Opening
state_at table.Asked_serial = states.Asked
state_at table.Asked_reset = states.Asked
state_at table.Waiting = states.Wait
state_at (table.Loading serially session set) = states.Loading
state_at table.Synced = states.Synced

abbrev pub state_of : table.Client → ClientState
state_of client = state_at client.stage
