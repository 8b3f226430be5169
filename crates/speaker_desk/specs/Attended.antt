-- Turns with operators between them.
use Rattle.std.specs.Prelude.{◌≡◌, ◌<◌, ◌-◌, ◌⊎◌, ◌&&◌, ℕ, zero, suc, nat_le, Bool, true, false, List, [], ◌∷◌, Option, None, Some, Result, Ok, Err, get_or, length, set}
use Rattle.bgp_conf.specs.declared.command.Command.TheVariants.{Enable}
use Rattle.bgp_conf.specs.declared.refusal.Refusal.{Refusal}
use Rattle.clocks.specs.Moments.{NeverGoBack, told_behind}
use Rattle.control_lines.specs.declared.talk.Wish.{Wish}
use Rattle.control_lines.specs.declared.talk.Wish.TheVariants.{Nothing, Answer, More}
use Rattle.speaker.specs.Shown.{cache_state_of}
use Rattle.runs.specs.declared.event.Report.{Report}
use Rattle.wires.specs.declared.fault.LoopFault.TheVariants.{Accept}
use Rattle.speaker_turns.specs.Obeying.{Obeys}
use Rattle.speaker_turns.specs.Sessions.{transport_of}
use Rattle.speaker_turns.specs.Turns.{TakesTurn, Turns}
use Rattle.speaker_turns.specs.declared.end.End.TheVariants.{Peer}
use Rattle.speaker_desk.specs.Answering.{AnswersLine}
use Rattle.speaker_desk.specs.Restarts.{is_gone}
use Rattle.speaker_desk.specs.Standing.{Standing}
use Rattle.speaker_desk.specs.Waiting.{none_waits, opens}

-- ---- peers that wait

-- the peers of these slots are enabled, each once, in this order
abbrev pub EnablesAll : List ℕ → Turns → Turns → Type 0
EnablesAll [] old new = new ≡ old
EnablesAll (slot ∷ slots) old new = (result : Result Report Refusal) × (mid : Turns) × Obeys (Enable slot) old result mid × EnablesAll slots mid new

-- where they may go each that waits is, and none waits any more; where they may not, all wait on
abbrev pub LetsIf : Bool → Standing → Standing → Type 0
LetsIf false old new = new ≡ old
LetsIf true old new =
    EnablesAll old.desk.waiting.slots old.served new.served
    × (new.desk ≡ record old.desk { waiting = record (none_waits old.desk.waiting) { is_open = true } })

abbrev pub LetsThrough : ℕ → Standing → Standing → Type 0
LetsThrough now old new = LetsIf (opens now (cache_state_of old.served.speaker.cache) old.desk.waiting) old new

-- ---- sessions that begin again

-- a session is to, and its connection is gone
abbrev pub may_begin : ℕ → Standing → Bool
may_begin slot stand = get_or stand.desk.again slot false && is_gone (transport_of stand.served.speaker (Peer slot))

-- so its peer is enabled, once, and it isn't to any more; else nothing happens
abbrev pub BeginsIf : Bool → ℕ → Standing → Standing → Type 0
BeginsIf false slot old new = new ≡ old
BeginsIf true slot old new =
    (result : Result Report Refusal) × Obeys (Enable slot) old.served result new.served × (new.desk ≡ record old.desk { again = set old.desk.again slot false })

-- those of the slots below this one, in rising order
abbrev pub BeginsBelow : ℕ → Standing → Standing → Type 0
BeginsBelow zero old new = new ≡ old
BeginsBelow (suc slot) old new = (mid : Standing) × BeginsBelow slot old mid × BeginsIf (may_begin slot mid) slot mid new

-- ---- operators

-- the program was to stop
abbrev pub HasStopped : Option ℕ → Type 0
HasStopped stopped = (since : ℕ) × (stopped ≡ Some since)

-- whether the program ends at a moment: so many seconds behind `stop`, it may before, and never where `stop` wasn't said
abbrev pub StopsAt : Option ℕ → ℕ → Bool → Type 0
StopsAt None now ends = ends ≡ false
StopsAt (Some since) now ends = nat_le 5 (now - since) ≡ true → ends ≡ true

-- a loop, a desk, and operators
pub record Hall (P : Type 0) : Type 0 where
  pub stand : Standing
  pub operators : P

-- something is said to one of them
abbrev pub IsTold : {P : Type 0} → (ℕ → List ℕ → Bool → P → P → Type 0) → ℕ → P → P → Type 0
IsTold hears key old new = (octets : List ℕ) × (goes_on : Bool) × hears key octets goes_on old new

module _ {P : Type 0} (wish : P → ℕ → Wish) (line : P → ℕ → List ℕ) (turns : ℕ → P → P → Type 0) (hears : ℕ → List ℕ → Bool → P → P → Type 0) where
  -- the operator of a key waits for nothing, for an answer to its line, or for more of one: so it is told, once, and nobody else is
  abbrev pub AttendsWish : Wish → ℕ → ℕ → Hall P → Hall P → Type 0
  AttendsWish Nothing key now old new = new ≡ old
  AttendsWish Answer key now old new = AnswersLine (line old.operators key) now old.stand new.stand × IsTold hears key old.operators new.operators
  AttendsWish More key now old new = (new.stand ≡ old.stand) × IsTold hears key old.operators new.operators

  -- the operators of the keys below this one, in rising order
  abbrev pub AttendsBelow : ℕ → ℕ → Hall P → Hall P → Type 0
  AttendsBelow zero now old new = new ≡ old
  AttendsBelow (suc key) now old new = (mid : Hall P) × AttendsBelow key now old mid × AttendsWish (wish mid.operators key) key now mid new

  -- a round at a moment: a turn goes well, operators are visited, the program doesn't end, peers that waited are let through where they
  -- may go, sessions begin again whose connections are gone, and each operator is attended to
  pub record TakesRound (now : ℕ) (old new : Hall P) : Type 0 where
    pub turned : Turns
    pub turn : TakesTurn now old.stand.served (Ok tt) turned
    pub visited : P
    pub visits : turns now old.operators visited
    pub goes_on : StopsAt old.stand.desk.stopped now false
    pub let_through : Standing
    pub lets : LetsThrough now (record old.stand { served = turned }) let_through
    pub begun : Standing
    pub begins : BeginsBelow 64 let_through begun
    pub attends : AttendsBelow 16 now (record { stand = begun; operators = visited }) new

  abbrev pub TakesRounds : List ℕ → Hall P → Hall P → Type 0
  TakesRounds [] old new = new ≡ old
  TakesRounds (now ∷ moments) old new = (mid : Hall P) × TakesRound now old mid × TakesRounds moments mid new

  -- one more turn, behind which the program ends since it was to stop
  pub record IsStopped (now : ℕ) (old new : Hall P) : Type 0 where
    pub turn : TakesTurn now old.stand.served (Ok tt) new.stand.served
    pub visits : turns now old.operators new.operators
    pub same : new.stand.desk ≡ old.stand.desk
    pub stopped : HasStopped new.stand.desk.stopped

  -- one more turn, which can't accept
  pub record Fails (now : ℕ) (old new : Hall P) : Type 0 where
    pub turn : TakesTurn now old.stand.served (Err Accept) new.stand.served
    pub same : new ≡ record old { stand = record old.stand { served = new.stand.served } }

  -- how the rounds at these moments end: so many were taken, or fewer, and then one who asked has stopped the program, or the clock or a
  -- turn fails
  abbrev pub EndsRounds : {E : Type 0} → Result (Unit {0}) E → ℕ → List ℕ → List ℕ → List ℕ → Hall P → Hall P → Type 0
  EndsRounds (Ok done) count moments before behind old new =
      ((length moments ≡ count) × (behind ≡ told_behind moments before) × (new ≡ old))
      ⊎ ((now : ℕ) × (length moments < count) × (behind ≡ now ∷ told_behind moments before) × IsStopped now old new)
  EndsRounds (Err fault) count moments before behind old new =
      ((length moments < count) × (behind ≡ told_behind moments before) × (new ≡ old))
      ⊎ ((now : ℕ) × (length moments < count) × (behind ≡ now ∷ told_behind moments before) × Fails now old new)

  -- so many rounds, each at the moment that the clock told for it, or fewer
  pub record AttendsTurns {E : Type 0} (count : ℕ) (result : Result (Unit {0}) E) (before behind : List ℕ) (old new : Hall P) : Type 0 where
    pub moments : List ℕ
    pub mid : Hall P
    pub rounds : TakesRounds moments old mid
    pub ends : EndsRounds result count moments before behind mid new
    pub forward : NeverGoBack before → NeverGoBack behind

-- a turn goes well, or can't accept
abbrev pub TakesOrStops : {E : Type 0} → ℕ → Turns → Result (Unit {0}) E → Turns → Type 0
TakesOrStops now old (Ok done) new = TakesTurn now old (Ok tt) new
TakesOrStops now old (Err fault) new = TakesTurn now old (Err Accept) new
