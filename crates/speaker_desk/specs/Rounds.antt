-- What is answered in rounds, what ends them before their number, and what becomes of a peer that waits (own).
use Rattle.std.specs.Prelude.{◌≡◌, ◌<◌, ◌⊎◌, ◌++◌, ℕ, Bool, List, [], ◌∷◌, Contains, Some, Result, codes}
use Rattle.std.specs.Bool.{MatchBool}
use Rattle.bgp_conf.specs.declared.command.Command.{Command}
use Rattle.bgp_conf.specs.declared.command.Command.TheVariants.{Disable, Enable}
use Rattle.bgp_conf.specs.declared.refusal.Refusal.{Refusal}
use Rattle.clocks.specs.Moments.{told_behind}
use Rattle.command_lines.specs.CommandWords.{Says}
use Rattle.command_lines.specs.Words.{words_in}
use Rattle.control_lines.specs.declared.talk.Wish.{Wish}
use Rattle.control_lines.specs.declared.talk.Wish.TheVariants.{Answer}
use Rattle.speaker.specs.Shown.{cache_state_of}
use Rattle.runs.specs.declared.event.Report.{Report}
use Rattle.speaker_turns.specs.Obeying.{Obeys}
use Rattle.speaker_turns.specs.Turns.{Turns}
use Rattle.speaker_desk.specs.Answering.{IsTextOf}
use Rattle.speaker_desk.specs.Attended.{AttendsBelow, EnablesAll, Hall, TakesRound, TakesRounds}
use Rattle.speaker_desk.specs.Waiting.{decided_by, opens}

-- a text decides on the peer of a slot: it says a command that does, clears the slot, or stops the program
abbrev pub Decides : ℕ → List ℕ → Type 0
Decides slot text =
    (text ≡ codes "stop")
    ⊎ (((command : Command) × Says (words_in text) command × (decided_by command ≡ Some slot))
    ⊎ ((word : List ℕ) × (words_in text ≡ codes "clear" ∷ word ∷ []) × Says (codes "disable" ∷ word ∷ []) (Disable slot)))

-- the peers of these slots are enabled in this order, and that of this one among them
pub record IsEnabledAmong (slot : ℕ) (slots : List ℕ) (old new : Turns) : Type 0 where
  pub before : List ℕ
  pub behind : List ℕ
  pub is : slots ≡ before ++ slot ∷ behind
  pub at : Turns
  pub first : EnablesAll before old at
  pub result : Result Report Refusal
  pub enabled : Turns
  pub obeys : Obeys (Enable slot) at result enabled
  pub others : EnablesAll behind enabled new

module _ {P : Type 0} (wish : P → ℕ → Wish) (line : P → ℕ → List ℕ) (turns : ℕ → P → P → Type 0) (hears : ℕ → List ℕ → Bool → P → P → Type 0) where
  -- an operator's line of this text is answered, behind those of lower keys
  pub record IsAnswered (now : ℕ) (start : Hall P) (text : List ℕ) : Type 0 where
    pub key : ℕ
    pub within : key < 16
    pub mid : Hall P
    pub below : AttendsBelow wish line turns hears key now start mid
    pub waits : wish mid.operators key ≡ Answer
    pub says : IsTextOf (line mid.operators key) text

  -- it is in a round
  abbrev pub IsAnsweredIn : (now : ℕ) → (old new : Hall P) → TakesRound wish line turns hears now old new → List ℕ → Type 0
  IsAnsweredIn now old new round text = IsAnswered now (record { stand = round.begun; operators = round.visited }) text

  -- in one of the rounds at these moments a line is `stop`
  abbrev pub AreToldToStop : (moments : List ℕ) → (old new : Hall P) → TakesRounds wish line turns hears moments old new → Type 0
  AreToldToStop [] old new rounds = ⊥
  AreToldToStop (now ∷ moments) old new rounds = IsAnsweredIn now old rounds.0 rounds.1 (codes "stop") ⊎ AreToldToStop moments rounds.0 new rounds.2

  -- rounds were taken, in one of which a line was `stop`, and behind them one turn more
  pub record StopAtAsking (before behind : List ℕ) (old : Hall P) : Type 0 where
    pub moments : List ℕ
    pub last : ℕ
    pub told : behind ≡ last ∷ told_behind moments before
    pub mid : Hall P
    pub rounds : TakesRounds wish line turns hears moments old mid
    pub asked : AreToldToStop moments old mid rounds

  -- what becomes of a peer that waits, in the rounds at these moments: behind the turn of the first in which it may go it is enabled,
  -- and waits no more. Before that the gate enables no peer; unless in one of those rounds an operator's line decides on it, it waits
  -- on; and so it does where there is none
  abbrev pub BecomesOf : ℕ → (moments : List ℕ) → (old new : Hall P) → TakesRounds wish line turns hears moments old new → Type 0
  BecomesOf slot [] old new rounds = Contains new.stand.desk.waiting.slots slot
  BecomesOf slot (now ∷ moments) old new rounds =
      MatchBool (opens now (cache_state_of ((rounds.1).turned).speaker.cache) old.stand.desk.waiting)
      (IsEnabledAmong slot old.stand.desk.waiting.slots (rounds.1).turned ((rounds.1).let_through).served × (((rounds.1).let_through).desk.waiting.slots ≡ []))
      (((rounds.1).let_through ≡ record old.stand { served = (rounds.1).turned })
      × (((text : List ℕ) × IsAnsweredIn now old rounds.0 rounds.1 text × Decides slot text) ⊎ BecomesOf slot moments rounds.0 new rounds.2))
