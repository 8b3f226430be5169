-- What a call leaves of the sessions that it isn't for.
use Rattle.std.proofs.Common.{◌≡◌, ◌≢◌, ◌==◌, ◌||◌, ◌^◌, ℕ, Bool, true, false, List, [], ◌∷◌, cond, refl, sym, ap, ◌∙◌}
use Rattle.std.proofs.lemmas.Nat.{or_comm}
use Rattle.std.proofs.lemmas.Nat.Bits.{bit_at-zero}
use Rattle.std.specs.Int.Bits.{bit_or, or_zero_l}
use Rattle.bgp_conf.specs.declared.command.Command.{Command}
use Rattle.bgp_conf.specs.declared.command.Command.TheVariants.{AddPeer, RemovePeer, Enable, Disable, SetPolicy, DropPolicy, UseIn, UseOut, Network, NoNetwork, Reach, NoReach, Filter, NoFilter, Assert, NoAssert}
use Rattle.bgp_fsm.specs.declared.session.Session.{Session}
use Rattle.bgp_fsm.specs.declared.state.State.{State}
use Rattle.bgp_fsm.specs.declared.state.State.TheVariants.{Idle, Connect, Active, OpenSent, OpenConfirm, Established}
use Rattle.bgp_fsm.specs.SessionTable.{row_at}
use Rattle.bgp_fsm.specs.StateTests.{is_established}
use Rattle.bgp_fsm.specs.Transports.{transport_of}
use Rattle.bgp_fsm.proofs.TableLaws.{established_stands, no_memory_closes}
use Rattle.bgp_fsm.specs.declared.input.Input.TheVariants.{NoMemory}
use Rattle.bgp_peer.specs.SessionInputs.{Event, Octet, Signalled, moment_of, onto, session}
use Rattle.bgp_peer.proofs.Agreeing.{shut_octet}
use Rattle.net_prefix.specs.declared.transport.Transport.TheVariants.{Open as Connected}
use Rattle.rib_out.specs.Slots.{has_slot}
use Rattle.rib_out.proofs.SlotBits.{has_slot-with}
use Rattle.runs.specs.Agreement.{AreOwed}
use Rattle.runs.specs.Concerned.{is_call_for, is_command_for}
use Rattle.runs.specs.Queueing.{Queue, Service, Starves, Tells, starved_in, with_starved}
use Rattle.runs.specs.Runs.{Call, Run, turn, called, commanded, history, queued_on, report_of, served_by, starved_by, Up_call, Fail_call, Bytes_call, Starved_call, Tick_call, Command_call, Take_call, Cache_up_call, Cache_fail_call, Cache_bytes_call, Cache_starved_call, Cache_take_call}
use Rattle.runs.specs.declared.config.Config.{Config}

not_here : (b : Bool) (more h : List Event) → b ≡ false → cond b more h ≡ h
not_here true more h is = absurd (cc)
not_here false more h is = refl

-- a command for another slot
command_stays : (config : Config) (s : ℕ) (command : Command) (h : List Event) → is_command_for command s ≡ false → commanded config s command h ≡ h
command_stays config s (AddPeer slot peer) h other = not_here (s == slot) _ h other
command_stays config s (RemovePeer slot) h other = not_here (s == slot) _ h other
command_stays config s (Enable slot) h other = not_here (s == slot) _ h other
command_stays config s (Disable slot) h other = not_here (s == slot) _ h other
command_stays config s (SetPolicy name rules) h other = refl
command_stays config s (DropPolicy name) h other = refl
command_stays config s (UseIn slot name) h other = refl
command_stays config s (UseOut slot name) h other = refl
command_stays config s (Network prefix) h other = refl
command_stays config s (NoNetwork prefix) h other = refl
command_stays config s (Reach prefix cost) h other = refl
command_stays config s (NoReach prefix) h other = refl
command_stays config s (Filter prefix asn) h other = refl
command_stays config s (NoFilter prefix asn) h other = refl
command_stays config s (Assert prefix max_len asn) h other = refl
command_stays config s (NoAssert prefix max_len asn) h other = refl

-- a call for another slot
call_stays : (config : Config) (s : ℕ) (call : Call) (h : List Event) → is_call_for call s ≡ false → called config s call h ≡ h
call_stays config s (Up_call slot) h other = not_here (s == slot) _ h other
call_stays config s (Fail_call slot) h other = not_here (s == slot) _ h other
call_stays config s (Bytes_call slot octets) h other = not_here (s == slot) _ h other
call_stays config s (Starved_call slot before octet behind) h other = not_here (s == slot) _ h other
call_stays config s (Tick_call now) h other = absurd (cc)
call_stays config s (Command_call command) h other = command_stays config s command h other
call_stays config s (Take_call slot octets) h other = not_here (s == slot) _ h other
call_stays config s Cache_up_call h other = refl
call_stays config s Cache_fail_call h other = refl
call_stays config s (Cache_bytes_call octets) h other = refl
call_stays config s (Cache_starved_call before octet behind) h other = refl
call_stays config s (Cache_take_call octets) h other = refl

-- the slots to which memory was refused, with one more
starved_too : (slot slots s : ℕ) → has_slot (bit_or (2 ^ slot) slots) s ≡ (s == slot || has_slot slots s)
starved_too slot slots s = ap (λ set. has_slot set s) (or_comm (2 ^ slot) slots) ∙ has_slot-with slots slot s

neither : (a b : Bool) → (a || b) ≡ false → (a ≡ false) × (b ≡ false)
neither true b is = absurd (cc)
neither false b is = (refl, is)

-- what is queued leaves the session, and so does want of memory of another slot
served_stays : (b : Bool) (service : Service) (slot slots s : ℕ) (h : List Event) → (s == slot) ≡ b → has_slot (with_starved slot service slots) s ≡ false
    → (session (cond b (served_by service ∷ h) h) ≡ session h) × (has_slot slots s ≡ false)
served_stays true (Tells update) slot slots s h is none = (refl, none)
served_stays false (Tells update) slot slots s h is none = (refl, none)
served_stays true Starves slot slots s h is none = let parts = neither (s == slot) (has_slot slots s) (sym (starved_too slot slots s) ∙ none) in absurd (cc)
served_stays false Starves slot slots s h is none = (refl, (neither (s == slot) (has_slot slots s) (sym (starved_too slot slots s) ∙ none)).1)

queue_stays : (s : ℕ) (queue : Queue) (h : List Event) → has_slot (starved_in queue) s ≡ false → session (queued_on s queue h) ≡ session h
queue_stays s [] h none = refl
queue_stays s (now ∷ queue) h none =
    let here = served_stays (s == now.0) now.1 now.0 (starved_in queue) s (queued_on s queue h) refl none in
    here.0 ∙ queue_stays s queue h here.1

-- a slot that the report doesn't name is refused none
unreported : (call : Call) (slots s : ℕ) → has_slot (bit_or (starved_by call) slots) s ≡ false → has_slot slots s ≡ false
unreported (Up_call slot) slots s none = ap (λ set. has_slot set s) (sym (or_zero_l slots)) ∙ none
unreported (Fail_call slot) slots s none = ap (λ set. has_slot set s) (sym (or_zero_l slots)) ∙ none
unreported (Bytes_call slot octets) slots s none = ap (λ set. has_slot set s) (sym (or_zero_l slots)) ∙ none
unreported (Starved_call slot before octet behind) slots s none = (neither (s == slot) (has_slot slots s) (sym (starved_too slot slots s) ∙ none)).1
unreported (Tick_call now) slots s none = ap (λ set. has_slot set s) (sym (or_zero_l slots)) ∙ none
unreported (Command_call command) slots s none = ap (λ set. has_slot set s) (sym (or_zero_l slots)) ∙ none
unreported (Take_call slot octets) slots s none = ap (λ set. has_slot set s) (sym (or_zero_l slots)) ∙ none
unreported Cache_up_call slots s none = ap (λ set. has_slot set s) (sym (or_zero_l slots)) ∙ none
unreported Cache_fail_call slots s none = ap (λ set. has_slot set s) (sym (or_zero_l slots)) ∙ none
unreported (Cache_bytes_call octets) slots s none = ap (λ set. has_slot set s) (sym (or_zero_l slots)) ∙ none
unreported (Cache_starved_call before octet behind) slots s none = ap (λ set. has_slot set s) (sym (or_zero_l slots)) ∙ none
unreported (Cache_take_call octets) slots s none = ap (λ set. has_slot set s) (sym (or_zero_l slots)) ∙ none

pub other_stays : (config : Config) (r : Run) (call : Call) (queue : Queue) (s : ℕ) → is_call_for call s ≡ false → has_slot (report_of config r (turn call queue)).starved s ≡ false
    → session (history config s (turn call queue ∷ r)) ≡ session (history config s r)
other_stays config r call queue s other none =
    queue_stays s queue (called config s call (history config s r)) (unreported call (starved_in queue) s none) ∙ ap session (call_stays config s call (history config s r) other)

-- want of memory leaves no session Established
row_down : (now : ℕ) (state : State) (s : Session) → s.state ≡ state → ((row_at state NoMemory s).0 now).state ≢ Established
row_down now Idle s is up = let same : Idle ≡ Established = sym is ∙ up in absurd (cc)
row_down now Connect s is up = let same : Connect ≡ Established = sym is ∙ up in absurd (cc)
row_down now Active s is up = let same : Active ≡ Established = sym is ∙ up in absurd (cc)
row_down now OpenSent s is up = absurd (cc)
row_down now OpenConfirm s is up = absurd (cc)
row_down now Established s is up = absurd (cc)

-- nor does what is queued behind it
served_down : (b : Bool) (service : Service) (slot slots s : ℕ) (h : List Event) → (s == slot) ≡ b → has_slot (with_starved slot service slots) s ≡ true
    → (has_slot slots s ≡ true → (session h).state ≢ Established) → (session (cond b (served_by service ∷ h) h)).state ≢ Established
served_down true (Tells update) slot slots s h is some before = before some
served_down false (Tells update) slot slots s h is some before = before some
served_down true Starves slot slots s h is some before = row_down (moment_of (Signalled NoMemory ∷ h)) (session h).state (session h) refl
served_down false Starves slot slots s h is some before =
    let others : (s == slot || has_slot slots s) ≡ true = sym (starved_too slot slots s) ∙ some in
    before (ap (λ b. b || has_slot slots s) (sym is) ∙ others)

queue_down : (s : ℕ) (queue : Queue) (h : List Event) → has_slot (starved_in queue) s ≡ true → (session (queued_on s queue h)).state ≢ Established
queue_down s [] h some = let none : has_slot 0 s ≡ false = ap (λ n. n == 1) (bit_at-zero s) in λ up. absurd (cc)
queue_down s (now ∷ queue) h some = served_down (s == now.0) now.1 now.0 (starved_in queue) s (queued_on s queue h) refl some (queue_down s queue h)

not_twice : (b : Bool) → (b ≡ true → ⊥) → b ≡ false
not_twice true never = absurd (never refl)
not_twice false never = refl

-- what is queued and refused leaves a session that isn't Established so
served_low : (b : Bool) (service : Service) (h : List Event) → (session h).state ≢ Established → (session (cond b (served_by service ∷ h) h)).state ≢ Established
served_low true (Tells update) h low = low
served_low true Starves h low = row_down (moment_of (Signalled NoMemory ∷ h)) (session h).state (session h) refl
served_low false service h low = low

queue_low : (s : ℕ) (queue : Queue) (h : List Event) → (session h).state ≢ Established → (session (queued_on s queue h)).state ≢ Established
queue_low s [] h low = low
queue_low s (now ∷ queue) h low = served_low (s == now.0) now.1 (queued_on s queue h) (queue_low s queue h low)

-- octets behind a closing leave it closed
shut_onto : (h : List Event) (octets : List ℕ) → transport_of (session h) ≢ Connected → transport_of (session (onto octets h)) ≢ Connected
shut_onto h [] shut = shut
shut_onto h (octet ∷ octets) shut = shut_onto (Octet octet ∷ h) octets (λ stands. shut (ap transport_of (sym (shut_octet h octet _ refl shut).0) ∙ stands))

shut_low : (s : Session) → transport_of s ≢ Connected → s.state ≢ Established
shut_low s shut up = shut (established_stands s (ap is_established up))

closed_low : (h : List Event) (behind : List ℕ) → (session (onto behind (Signalled NoMemory ∷ h))).state ≢ Established
closed_low h behind = shut_low (session (onto behind (Signalled NoMemory ∷ h))) (shut_onto (Signalled NoMemory ∷ h) behind (no_memory_closes (moment_of (Signalled NoMemory ∷ h)) (session h)))

-- the slot to which memory was refused in the call itself isn't Established at its end
not_again : (b : Bool) (s : ℕ) (queue : Queue) (h before : List Event) (behind : List ℕ)
    → (session (queued_on s queue (cond b (onto behind (Signalled NoMemory ∷ before)) h))).state ≡ Established → b ≡ false
not_again true s queue h before behind up = absurd (queue_low s queue (onto behind (Signalled NoMemory ∷ before)) (closed_low before behind) up)
not_again false s queue h before behind up = refl

none_of : (a b : Bool) → a ≡ false → b ≡ false → (a || b) ≡ false
none_of a b first other = ap (λ (x : Bool). x || b) first ∙ other

-- so in a call memory is refused to a slot once at most
starves_apart : (config : Config) (call : Call) (queue : Queue) (s : ℕ) (h : List Event) → (session (queued_on s queue (called config s call h))).state ≡ Established → has_slot (starved_in queue) s ≡ false
    → has_slot (bit_or (starved_by call) (starved_in queue)) s ≡ false
starves_apart config (Up_call slot) queue s h up none = ap (λ set. has_slot set s) (or_zero_l (starved_in queue)) ∙ none
starves_apart config (Fail_call slot) queue s h up none = ap (λ set. has_slot set s) (or_zero_l (starved_in queue)) ∙ none
starves_apart config (Bytes_call slot octets) queue s h up none = ap (λ set. has_slot set s) (or_zero_l (starved_in queue)) ∙ none
starves_apart config (Starved_call slot before octet behind) queue s h up none =
    starved_too slot (starved_in queue) s ∙ none_of (s == slot) (has_slot (starved_in queue) s) (not_again (s == slot) s queue h (onto before h) behind up) none
starves_apart config (Tick_call now) queue s h up none = ap (λ set. has_slot set s) (or_zero_l (starved_in queue)) ∙ none
starves_apart config (Command_call command) queue s h up none = ap (λ set. has_slot set s) (or_zero_l (starved_in queue)) ∙ none
starves_apart config (Take_call slot octets) queue s h up none = ap (λ set. has_slot set s) (or_zero_l (starved_in queue)) ∙ none
starves_apart config Cache_up_call queue s h up none = ap (λ set. has_slot set s) (or_zero_l (starved_in queue)) ∙ none
starves_apart config Cache_fail_call queue s h up none = ap (λ set. has_slot set s) (or_zero_l (starved_in queue)) ∙ none
starves_apart config (Cache_bytes_call octets) queue s h up none = ap (λ set. has_slot set s) (or_zero_l (starved_in queue)) ∙ none
starves_apart config (Cache_starved_call before octet behind) queue s h up none = ap (λ set. has_slot set s) (or_zero_l (starved_in queue)) ∙ none
starves_apart config (Cache_take_call octets) queue s h up none = ap (λ set. has_slot set s) (or_zero_l (starved_in queue)) ∙ none

pub starves_once : (config : Config) (r : Run) (call : Call) (queue : Queue) (s : ℕ) → AreOwed config call r ((s, Starves) ∷ queue) → has_slot (report_of config r (turn call queue)).starved s ≡ false
starves_once config r call queue s owed =
    starves_apart config call queue s (history config s r) owed.0.established
    (not_twice (has_slot (starved_in queue) s) (λ some. queue_down s queue (called config s call (history config s r)) some owed.0.established))
