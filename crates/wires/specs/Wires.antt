-- What the calls of a wire make of it: each is kept in mind with its answer, and each fault, each end of input, each socket and each octet is counted.
use Rattle.std.specs.Prelude.{◌≡◌, ◌+◌, ◌-◌, ◌^◌, ◌≤◌, ℕ, Bool, nat_lt, min, if◌then◌else◌, List, [], ◌∷◌, Option, Some, None, ⊤}
use Rattle.std.specs.declared.net.socket_addr.SocketAddr.{SocketAddr}
use Rattle.wires.specs.Calls.{WireCall, Connect, Try, Accept, Read, Write, Close, Look}
use Rattle.wires.specs.declared.wire.Accepted.{Accepted}
use Rattle.wires.specs.declared.wire.Accepted.TheVariants.{Connection, Nothing as NoneWaits, Fault as AcceptFault}
use Rattle.wires.specs.declared.wire.Attempt.{Attempt}
use Rattle.wires.specs.declared.wire.Attempt.TheVariants.{Connected, Pending, Fault as AttemptFault}
use Rattle.wires.specs.declared.wire.Parting.{Parting}
use Rattle.wires.specs.declared.wire.Received.{Received}
use Rattle.wires.specs.declared.wire.Received.TheVariants.{Octets as Came, Nothing as NoneCame, End, Fault as ReadFault}
use Rattle.wires.specs.declared.wire.Sent.{Sent}
use Rattle.wires.specs.declared.wire.Sent.TheVariants.{Octets as Went, Nothing as NoneWent, Fault as WriteFault}

-- where a wire listens, if it does, what it has told, and its calls, the newest first
pub record WireState : Type 0 where
  pub listens : Option SocketAddr
  pub faults : ℕ  -- calls that answered a fault
  pub accept_faults : ℕ  -- those of them that asked for a connection
  pub ends : ℕ  -- ends of input
  pub sockets : ℕ  -- connections that came, and attempts that began
  pub octets_in : ℕ  -- octets that came
  pub octets_out : ℕ  -- octets that went
  pub calls : List WireCall

-- before its first call; no call changes where it listens
abbrev pub nothing_told : Option SocketAddr → WireState
nothing_told listens = record { listens = listens; faults = 0; accept_faults = 0; ends = 0; sockets = 0; octets_in = 0; octets_out = 0; calls = [] }

-- a count goes on by one, and stays at the greatest u64
abbrev pub one_more : ℕ → ℕ
one_more count = if nat_lt count (2 ^ 64 - 1) then count + 1 else count

-- a count goes on by so many, and stays at the greatest u64
abbrev pub more : ℕ → ℕ → ℕ
more by count = min (count + by) (2 ^ 64 - 1)

-- a fault is told
abbrev pub failing : WireState → WireState
failing wire = record wire { faults = one_more wire.faults }

-- a call is made
abbrev pub calling : WireCall → WireState → WireState
calling call wire = record wire { calls = call ∷ wire.calls }

-- a connection comes from an address
abbrev pub arriving : SocketAddr → WireState → WireState
arriving from wire = calling (Accept (Some from)) (record wire { sockets = one_more wire.sockets })

-- an attempt to connect to an address begins, or a fault is told
abbrev pub connecting : {S : Type 0} → SocketAddr → Option S → WireState → WireState
connecting to (Some socket) wire = calling (Connect to) (record wire { sockets = one_more wire.sockets })
connecting to None wire = calling (Connect to) (failing wire)

-- behind a look at the attempt of the socket of this number
abbrev pub told_by_attempt : Attempt → WireState → WireState
told_by_attempt Connected wire = wire
told_by_attempt Pending wire = wire
told_by_attempt AttemptFault wire = failing wire

abbrev pub attempting : ℕ → Attempt → WireState → WireState
attempting number attempt wire = calling (Try number attempt) (told_by_attempt attempt wire)

-- accepting fails
abbrev pub accept_failing : WireState → WireState
accept_failing wire = calling (Accept None) (record wire { faults = one_more wire.faults; accept_faults = one_more wire.accept_faults })

-- behind an accept
abbrev pub accepting : {S : Type 0} → Accepted S → WireState → WireState
accepting (Connection socket address) wire = arriving address wire
accepting NoneWaits wire = calling (Accept None) wire
accepting AcceptFault wire = accept_failing wire

-- what a read told is counted
abbrev pub told_by_read : Received → WireState → WireState
told_by_read (Came count) wire = record wire { octets_in = more count wire.octets_in }
told_by_read NoneCame wire = wire
told_by_read End wire = record wire { ends = one_more wire.ends }
told_by_read ReadFault wire = failing wire

-- behind a read of the socket of this number, which left the buffer so
abbrev pub reading : ℕ → List ℕ → Received → WireState → WireState
reading number buf received wire = calling (Read number buf received) (told_by_read received wire)

-- what a write told is counted
abbrev pub told_by_write : Sent → WireState → WireState
told_by_write (Went count) wire = record wire { octets_out = more count wire.octets_out }
told_by_write NoneWent wire = wire
told_by_write WriteFault wire = failing wire

-- behind a write that offered these octets
abbrev pub writing : ℕ → List ℕ → Sent → WireState → WireState
writing number octets sent wire = calling (Write number octets sent) (told_by_write sent wire)

-- behind a close
abbrev pub closing : ℕ → Parting → WireState → WireState
closing number parting wire = calling (Close number parting) wire

-- behind a look at whether the connection of a socket ends
abbrev pub looking : ℕ → Bool → WireState → WireState
looking number is_ending wire = calling (Look number is_ending) wire

-- a read puts no more octets into a buffer than it holds
abbrev pub FitsIn : ℕ → Received → Type 0
FitsIn len (Came count) = count ≤ len
FitsIn len NoneCame = ⊤
FitsIn len End = ⊤
FitsIn len ReadFault = ⊤

-- a write sends no more octets than it was handed
abbrev pub FitsInSent : ℕ → Sent → Type 0
FitsInSent len (Went count) = count ≤ len
FitsInSent len NoneWent = ⊤
FitsInSent len WriteFault = ⊤

-- the socket of a number whose other side has this address
pub record IsSocket {S : Type 0} (number_of : S → ℕ) (address_of : S → SocketAddr) (number : ℕ) (address : SocketAddr) (socket : S) : Type 0 where
  pub number_is : number_of socket ≡ number
  pub address_is : address_of socket ≡ address

-- an attempt to connect to an address, where one begins, is that of a socket behind so many others
abbrev pub IsSocketTo : {S : Type 0} → (S → ℕ) → (S → SocketAddr) → ℕ → SocketAddr → Option S → Type 0
IsSocketTo number_of address_of sockets address None = ⊤
IsSocketTo number_of address_of sockets address (Some socket) = IsSocket number_of address_of sockets address socket

-- a connection that comes behind so many other sockets has their number
abbrev pub IsSocketThatCame : {S : Type 0} → (S → ℕ) → (S → SocketAddr) → ℕ → Accepted S → Type 0
IsSocketThatCame number_of address_of sockets (Connection socket address) = IsSocket number_of address_of sockets address socket
IsSocketThatCame number_of address_of sockets NoneWaits = ⊤
IsSocketThatCame number_of address_of sockets AcceptFault = ⊤
