use Rattle.std.proofs.Common.{◌≡◌, ◌==◌, ℕ, Bool, true, false, List, [], ◌∷◌, cond, refl, ap, ◌∙◌}
use Rattle.bgp_conf.specs.declared.command.Command.{Command}
use Rattle.bgp_conf.specs.declared.command.Command.TheVariants.{AddPeer, RemovePeer, Enable, Disable, SetPolicy, DropPolicy, UseIn, UseOut, Network, NoNetwork, Reach, NoReach, Filter, NoFilter, Assert, NoAssert}
use Rattle.bgp_peer.specs.SessionInputs as happens
use Rattle.bgp_fsm.specs.declared.input.Input.TheVariants.{NoMemory, Expires}
use Rattle.bgp_fsm.specs.declared.timers.Timer.{Timer}
use Rattle.bgp_fsm.specs.TimerMoments.{has_ended}
use Rattle.bgp_peer.specs.SessionInputs.{Octet, Signalled, Ticked, ending, endings, moment_of, onto, session, timers}
use Rattle.runs.specs.Queueing.{Queue, Service, Tells, Starves}
use Rattle.runs.specs.Runs.{Call, Run, Up_call, Fail_call, Bytes_call, Starved_call, Tick_call, Command_call, Take_call, Cache_up_call, Cache_fail_call, Cache_bytes_call, Cache_starved_call, Cache_take_call, called, commanded, history, moment_after, moment_called, queued_on, served_by}
use Rattle.runs.specs.declared.config.Config.{Config}

-- All slots are at the moment of the run.

-- what happens at no other moment leaves it
either : (b : Bool) (one other : List happens.Event) (moment : ℕ) → moment_of one ≡ moment → moment_of other ≡ moment → moment_of (cond b one other) ≡ moment
either true one other moment same also = same
either false one other moment same also = also

pub onto_stays : (octets : List ℕ) (h : List happens.Event) → moment_of (onto octets h) ≡ moment_of h
onto_stays [] h = refl
onto_stays (octet ∷ octets) h = onto_stays octets (Octet octet ∷ h)

served_stays : (service : Service) (h : List happens.Event) → moment_of (served_by service ∷ h) ≡ moment_of h
served_stays (Tells update) h = refl
served_stays Starves h = refl

queued_stays : (slot : ℕ) (queue : Queue) (h : List happens.Event) → moment_of (queued_on slot queue h) ≡ moment_of h
queued_stays slot [] h = refl
queued_stays slot (now ∷ queue) h =
    either (slot == now.0) (served_by now.1 ∷ queued_on slot queue h) (queued_on slot queue h) (moment_of h) (served_stays now.1 (queued_on slot queue h) ∙ queued_stays slot queue h) (queued_stays slot queue h)

ending_stays : (timer : Timer) (now : ℕ) (h : List happens.Event) → moment_of (ending timer now h) ≡ moment_of h
ending_stays timer now h = either (has_ended timer now (session h).timers) (Signalled (Expires timer) ∷ h) h (moment_of h) refl refl

pub endings_stay : (timers : List Timer) (now : ℕ) (h : List happens.Event) → moment_of (endings timers now h) ≡ moment_of h
endings_stay [] now h = refl
endings_stay (timer ∷ timers) now h = endings_stay timers now (ending timer now h) ∙ ending_stays timer now h

commanded_stays : (config : Config) (s : ℕ) (command : Command) (h : List happens.Event) → moment_of (commanded config s command h) ≡ moment_of h
commanded_stays config s (AddPeer slot peer) h = either (s == slot) _ h (moment_of h) refl refl
commanded_stays config s (RemovePeer slot) h = either (s == slot) _ h (moment_of h) refl refl
commanded_stays config s (Enable slot) h = either (s == slot) _ h (moment_of h) refl refl
commanded_stays config s (Disable slot) h = either (s == slot) _ h (moment_of h) refl refl
commanded_stays config s (SetPolicy name rules) h = refl
commanded_stays config s (DropPolicy name) h = refl
commanded_stays config s (UseIn slot name) h = refl
commanded_stays config s (UseOut slot name) h = refl
commanded_stays config s (Network prefix) h = refl
commanded_stays config s (NoNetwork prefix) h = refl
commanded_stays config s (Reach prefix cost) h = refl
commanded_stays config s (NoReach prefix) h = refl
commanded_stays config s (Filter prefix asn) h = refl
commanded_stays config s (NoFilter prefix asn) h = refl
commanded_stays config s (Assert prefix max_len asn) h = refl
commanded_stays config s (NoAssert prefix max_len asn) h = refl

called_moves : (config : Config) (s : ℕ) (call : Call) (h : List happens.Event) → moment_of (called config s call h) ≡ moment_called call (moment_of h)
called_moves config s (Up_call slot) h = either (s == slot) _ h (moment_of h) refl refl
called_moves config s (Fail_call slot) h = either (s == slot) _ h (moment_of h) refl refl
called_moves config s (Bytes_call slot octets) h = either (s == slot) (onto octets h) h (moment_of h) (onto_stays octets h) refl
called_moves config s (Starved_call slot before octet behind) h =
    either (s == slot) (onto behind (Signalled NoMemory ∷ onto before h)) h (moment_of h) (onto_stays behind (Signalled NoMemory ∷ onto before h) ∙ onto_stays before h) refl
called_moves config s (Tick_call now) h = endings_stay timers now (Ticked now ∷ h)
called_moves config s (Command_call command) h = commanded_stays config s command h
called_moves config s (Take_call slot octets) h = either (s == slot) _ h (moment_of h) refl refl
called_moves config s Cache_up_call h = refl
called_moves config s Cache_fail_call h = refl
called_moves config s (Cache_bytes_call octets) h = refl
called_moves config s (Cache_starved_call before octet behind) h = refl
called_moves config s (Cache_take_call octets) h = refl

pub moment_same : (config : Config) (r : Run) (slot : ℕ) → moment_of (history config slot r) ≡ moment_after r
moment_same config [] slot = refl
moment_same config (now ∷ r) slot =
    queued_stays slot now.queued (called config slot now.call (history config slot r))
    ∙ called_moves config slot now.call (history config slot r) ∙ ap (λ m. moment_called now.call m) (moment_same config r slot)
