-- What a line makes of a loop (own): it hands in what it asks for, once, or changes nothing.
use Rattle.std.specs.Prelude.{◌≡◌, ◌≢◌, ◌⊎◌, ◌++◌, ℕ, zero, suc, true, List, [], ◌∷◌, Contains, Option, Some, None, MatchOption, Result, Ok, Err, codes, set}
use Rattle.std.specs.Net.Addr.{IsIpv4OfBits}
use Rattle.std.specs.Net.Socket.{socket_ip, socket_port}
use Rattle.std.specs.declared.net.ipv4_addr.Ipv4Addr.{Ipv4Addr}
use Rattle.std.specs.declared.net.ip_addr.IpAddr.TheVariants.{V4}
use Rattle.std.specs.declared.net.socket_addr.SocketAddr.{SocketAddr}
use Rattle.bgp_conf.specs.declared.command.Command.{Command}
use Rattle.bgp_conf.specs.declared.command.Command.TheVariants.{AddPeer, RemovePeer, Enable, Disable, SetPolicy, DropPolicy, UseIn, UseOut, Network, NoNetwork, Reach, NoReach, Filter, NoFilter, Assert, NoAssert}
use Rattle.bgp_conf.specs.declared.refusal.Refusal.{Refusal}
use Rattle.command_lines.specs.CommandWords.{Says}
use Rattle.command_lines.specs.Words.{words_in}
use Rattle.runs.specs.declared.event.Report.{Report}
use Rattle.speaker_turns.specs.Obeying.{Obeys}
use Rattle.speaker_turns.specs.Turns.{Turns, with_remote}
use Rattle.speaker_turns.specs.declared.end.End.TheVariants.{Peer}
use Rattle.speaker_desk.specs.Restarts.{none_of, not_again}
use Rattle.speaker_desk.specs.Standing.{DeskState, Standing}
use Rattle.speaker_desk.specs.Waiting.{decided_by, none_waits, without}

-- the slot and the address of the peer that a command configures
abbrev pub added_by : Command → Option (ℕ × ℕ)
added_by (AddPeer slot peer) = Some (slot, peer.address)
added_by (RemovePeer slot) = None
added_by (Enable slot) = None
added_by (Disable slot) = None
added_by (SetPolicy name rules) = None
added_by (DropPolicy name) = None
added_by (UseIn slot name) = None
added_by (UseOut slot name) = None
added_by (Network prefix) = None
added_by (NoNetwork prefix) = None
added_by (Reach prefix cost) = None
added_by (NoReach prefix) = None
added_by (Filter prefix asn) = None
added_by (NoFilter prefix asn) = None
added_by (Assert prefix max_len asn) = None
added_by (NoAssert prefix max_len asn) = None

-- where the peer of a slot is: as the settings say, or at its address and BGP's port (RFC 4271 section 8.2.1)
abbrev pub IsAt : List (ℕ × SocketAddr) → ℕ × ℕ → SocketAddr → Type 0
IsAt remotes added remote =
    Contains remotes (added.0, remote)
    ⊎ (((other : SocketAddr) → ¬ (Contains remotes (added.0, other))) × (ip : Ipv4Addr) × IsIpv4OfBits ip added.1 × (socket_ip remote ≡ V4 ip) × (socket_port remote ≡ 179))

-- of a peer that is configured the loop is told where it is
abbrev pub IsToldWhere : List (ℕ × SocketAddr) → Command → Turns → Turns → Type 0
IsToldWhere remotes command old new =
    MatchOption (added_by command) (new ≡ old) (λ added. (remote : SocketAddr) × IsAt remotes added remote × (new ≡ with_remote (Peer added.0) remote old))

-- behind a command that was obeyed the peer whose session it decides on neither waits nor is to begin again any longer
abbrev pub settled : Option ℕ → DeskState → DeskState
settled slot desk = record desk { waiting = without slot desk.waiting; again = not_again slot desk.again }

abbrev pub FollowsAnswer : Result Report Refusal → Command → Turns → Standing → Standing → Type 0
FollowsAnswer (Ok report) command mid old new = IsToldWhere old.desk.remotes command mid new.served × (new.desk ≡ settled (decided_by command) old.desk)
FollowsAnswer (Err why) command mid old new = new ≡ record old { served = mid }

-- the command is handed in once
pub record IsObeyed (command : Command) (old new : Standing) : Type 0 where
  pub result : Result Report Refusal
  pub mid : Turns
  pub obeys : Obeys command old.served result mid
  pub follows : FollowsAnswer result command mid old new

-- the peer of a slot is disabled, once, and where that is obeyed it doesn't wait, and its session is to begin again
abbrev pub cleared : Result Report Refusal → ℕ → DeskState → DeskState
cleared (Ok report) slot desk = record desk { waiting = without (Some slot) desk.waiting; again = set desk.again slot true }
cleared (Err why) slot desk = desk

abbrev pub IsCleared : ℕ → Standing → Standing → Type 0
IsCleared slot old new = (result : Result Report Refusal) × Obeys (Disable slot) old.served result new.served × (new.desk ≡ cleared result slot old.desk)

-- that of the slot that the word names is, or nothing changes
abbrev pub ClearsSlot : List ℕ → Standing → Standing → Type 0
ClearsSlot word old new = (new ≡ old) ⊎ ((slot : ℕ) × Says (codes "disable" ∷ word ∷ []) (Disable slot) × IsCleared slot old new)

-- the peers of the slots below this one are disabled, in rising order
abbrev pub StopsBelow : ℕ → Turns → Turns → Type 0
StopsBelow zero old new = new ≡ old
StopsBelow (suc slot) old new = (mid : Turns) × StopsBelow slot old mid × ((result : Result Report Refusal) × Obeys (Disable slot) mid result new)

-- all are, none waits or is to begin again any more, and the program is to stop
pub record Stops (now : ℕ) (old new : Standing) : Type 0 where
  pub all : StopsBelow 64 old.served new.served
  pub noted : new.desk ≡ record old.desk { waiting = none_waits old.desk.waiting; again = none_of old.desk.again; stopped = Some now }

-- the text of a line says a command, which is handed in; or it clears a slot; or nothing changes
abbrev pub Commands : List ℕ → Standing → Standing → Type 0
Commands text old new =
    (new ≡ old)
    ⊎ (((command : Command) × Says (words_in text) command × IsObeyed command old new)
    ⊎ ((word : List ℕ) × (words_in text ≡ codes "clear" ∷ word ∷ []) × ClearsSlot word old new))

-- it stops the program, if it says so, and else does no more than this
abbrev pub AnswersText : List ℕ → ℕ → Standing → Standing → Type 0
AnswersText text now old new = ((text ≡ codes "stop") × Stops now old new) ⊎ ((text ≢ codes "stop") × Commands text old new)

-- the text of a line: all but a carriage return at its end
abbrev pub IsTextOf : List ℕ → List ℕ → Type 0
IsTextOf line text = (line ≡ text ++ 13 ∷ []) ⊎ ((line ≡ text) × ((front : List ℕ) → line ≢ front ++ 13 ∷ []))

-- so it is of a line
abbrev pub AnswersLine : List ℕ → ℕ → Standing → Standing → Type 0
AnswersLine line now old new = (text : List ℕ) × IsTextOf line text × AnswersText text now old new
