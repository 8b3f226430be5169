-- What becomes of operators at a desk: each line is answered to the operator who sent it, a reading is asked for by its word
-- alone and told to all who asked for it, and `stop` alone ends the program (own).
use Rattle.std.specs.Prelude.{◌≡◌, ◌≢◌, ◌-◌, ◌<◌, ℕ, zero, suc, Bool, true, false, is_some, if◌then◌else◌, nat_le, List, Option, None, Some, codes, get_or, replicate, set}
use Rattle.control_lines.specs.declared.talk.Wish.{Wish}
use Rattle.control_lines.specs.declared.talk.Wish.TheVariants.{Nothing, Answer, More}
use Rattle.cache_watch.specs.declared.reread.Reread.{Reread as Led}
use Rattle.cache_desk.specs.Readings.{AsksAsItSays, IsTextOf, has_sense, may_ask}
use Rattle.cache_desk.specs.declared.line.Line.{Line}
use Rattle.cache_desk.specs.declared.line.Line.TheVariants.{Show, Read, Stop, Bad}
use Rattle.cache_desk.specs.declared.reading.Reading.{Reading}

-- the operators, and what is kept of them between turns: which reading is asked for next, which keys have asked for it, when
-- one was asked for last, what the last one led to, and when `stop` was said
pub record DeskState (P : Type 0) : Type 0 where
  pub operators : P
  pub asking : Option Reading
  pub askers : List Bool
  pub asked : Option ℕ
  pub last : Option Led
  pub stopped : Option ℕ

-- nothing was asked yet
abbrev pub nothing_asked : {P : Type 0} → P → DeskState P
nothing_asked operators = record {
  operators = operators;
  asking = None;
  askers = replicate 16 false;
  asked = None;
  last = None;
  stopped = None;
}

-- what it is that octets are said to the operator of a key, with more to come or not
abbrev pub Hearing : Type 0 → Type 1
Hearing P = ℕ → List ℕ → Bool → P → P → Type 0

-- something is said to the operator of this key, once, and nothing else is done
abbrev pub IsAnswered : {P : Type 0} → Hearing P → ℕ → DeskState P → DeskState P → Type 0
IsAnswered Hears key old new =
    (octets : List ℕ) × (goes_on : Bool) × Hears key octets goes_on old.operators new.operators × (new ≡ record old { operators = new.operators })

-- and there is no more to come
abbrev pub IsAnsweredWholly : {P : Type 0} → Hearing P → ℕ → DeskState P → DeskState P → Type 0
IsAnsweredWholly Hears key old new =
    (octets : List ℕ) × Hears key octets false old.operators new.operators × (new ≡ record old { operators = new.operators })

-- the reading is asked for by the operator of this key, to whom nothing is said yet; or the operator waits
abbrev pub NotesIf : {P : Type 0} → Bool → ℕ → Reading → DeskState P → DeskState P → Type 0
NotesIf true key reading old new = new ≡ record old { asking = Some reading; askers = set old.askers key true }
NotesIf false key reading old new = new ≡ old

-- a reading that has no sense is refused
abbrev pub AsksIf : {P : Type 0} → Hearing P → Bool → ℕ → ℕ → Reading → DeskState P → DeskState P → Type 0
AsksIf Hears true now key reading old new = NotesIf (may_ask old.asking reading old.asked now) key reading old new
AsksIf Hears false now key reading old new = IsAnsweredWholly Hears key old new

-- what a line leads to: an answer to who sent it, or a reading that is asked for; and the program is to stop by `stop` alone
abbrev pub LeadsTo : {P : Type 0} → Hearing P → ℕ → ℕ → Line → DeskState P → DeskState P → Type 0
LeadsTo Hears now key (Show shown) old new = IsAnswered Hears key old new
LeadsTo Hears now key (Read reading) old new = AsksIf Hears (has_sense reading old.last) now key reading old new
LeadsTo Hears now key Stop old new = IsAnsweredWholly Hears key (record old { stopped = Some now }) new
LeadsTo Hears now key Bad old new = IsAnsweredWholly Hears key old new

-- so it is by the text of the line
abbrev pub AnswersLine : {P : Type 0} → Hearing P → ℕ → ℕ → List ℕ → DeskState P → DeskState P → Type 0
AnswersLine Hears now key octets old new =
    (text : List ℕ) × IsTextOf octets text × ((line : Line) × AsksAsItSays text line × LeadsTo Hears now key line old new)

-- what is done for the operator of this key by what it waits for
abbrev pub AttendsBy : {P : Type 0} → Hearing P → Wish → List ℕ → ℕ → ℕ → DeskState P → DeskState P → Type 0
AttendsBy Hears Nothing octets now key old new = new ≡ old
AttendsBy Hears Answer octets now key old new = AnswersLine Hears now key octets old new
AttendsBy Hears More octets now key old new = IsAnswered Hears key old new

-- so it is for each operator whose key is below this one, in rising order
abbrev pub AttendsBelow : {P : Type 0} → (P → ℕ → Wish) → (P → ℕ → List ℕ) → Hearing P → ℕ → ℕ → DeskState P → DeskState P → Type 0
AttendsBelow wish line Hears now zero old new = new ≡ old
AttendsBelow {P} wish line Hears now (suc key) old new =
    (mid : DeskState P) × AttendsBelow wish line Hears now key old mid × AttendsBy Hears (wish mid.operators key) (line mid.operators key) now key mid new

-- all operators are attended to, and this reading is asked for, in this second if one is
pub record Attends {P : Type 0} (wish : P → ℕ → Wish) (line : P → ℕ → List ℕ) (Hears : Hearing P) (now : ℕ) (reading : Option Reading) (old new : DeskState P) : Type 0 where
  pub between : DeskState P
  pub attends : AttendsBelow wish line Hears now 16 old between
  pub reading_is : reading ≡ between.asking
  pub noted : new ≡ record between { asked = if is_some between.asking then Some now else between.asked }

-- a key that has asked for the reading is told these octets, and no other one anything
abbrev pub IsToldIf : {P : Type 0} → Hearing P → Bool → List ℕ → ℕ → P → P → Type 0
IsToldIf Hears true octets key old new = Hears key octets false old new
IsToldIf Hears false octets key old new = new ≡ old

abbrev pub ToldBelow : {P : Type 0} → Hearing P → List Bool → List ℕ → ℕ → P → P → Type 0
ToldBelow Hears askers octets zero old new = new ≡ old
ToldBelow {P} Hears askers octets (suc key) old new =
    (mid : P) × ToldBelow Hears askers octets key old mid × IsToldIf Hears (get_or askers key false) octets key mid new

-- all who asked are told what the reading led to, each the same, in rising order; then nobody has asked, and nothing is asked
-- for
pub record Tells {P : Type 0} (Hears : Hearing P) (led : Led) (old new : DeskState P) : Type 0 where
  pub octets : List ℕ
  pub told : ToldBelow Hears old.askers octets 16 old.operators new.operators
  pub noted : new ≡ record old { operators = new.operators; asking = None; askers = replicate 16 false; last = Some led }

-- so it is where something was read
abbrev pub TellsIf : {P : Type 0} → Hearing P → Option Led → DeskState P → DeskState P → Type 0
TellsIf Hears None old new = new ≡ old
TellsIf Hears (Some led) old new = Tells Hears led old new

-- none of the operators whose keys are below this one waits for anything
abbrev pub NobodyWaits : {P : Type 0} → (P → ℕ → Wish) → P → ℕ → Type 0
NobodyWaits wish operators keys = (key : ℕ) → key < keys → wish operators key ≡ Nothing

-- a turn of the operators, and whether one waits for something behind it
pub record Visits {P : Type 0} (Turns : ℕ → P → P → Type 0) (wish : P → ℕ → Wish) (now : ℕ) (waits : Bool) (old new : DeskState P) : Type 0 where
  pub turns : Turns now old.operators new.operators
  pub same : new ≡ record old { operators = new.operators }
  pub nobody : waits ≡ false → NobodyWaits wish new.operators 16
  pub somebody : waits ≡ true → (key : ℕ) × (key < 16) × (wish new.operators key ≢ Nothing)

-- so many seconds behind `stop` the program ends; it may before where operators move nothing, and never where `stop` wasn't
-- said
abbrev pub StopsAt : Option ℕ → ℕ → Bool → Type 0
StopsAt None now stops = stops ≡ false
StopsAt (Some since) now stops = nat_le 5 (now - since) ≡ true → stops ≡ true

-- at a desk where operators ask; where nobody does nobody does afterwards
abbrev pub AtDesk : {X : Type 0} → (X → X → Type 0) → Option X → Option X → Type 0
AtDesk Becomes None new = new ≡ None
AtDesk Becomes (Some old) None = ⊥
AtDesk Becomes (Some old) (Some new) = Becomes old new

-- when `stop` was said at it, if it was
abbrev pub stopped_at : {P : Type 0} → Option (DeskState P) → Option ℕ
stopped_at None = None
stopped_at (Some state) = state.stopped

-- an operator whose line is `stop` waits for the answer
abbrev pub IsToldToStop : {P : Type 0} → (P → ℕ → Wish) → (P → ℕ → List ℕ) → Type 0
IsToldToStop {P} wish line = (operators : P) × (key : ℕ) × (wish operators key ≡ Answer) × IsTextOf (line operators key) (codes "stop")
