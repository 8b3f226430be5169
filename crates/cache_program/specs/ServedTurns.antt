-- What settings make of a served list, and turns of it.
use Rattle.std.specs.Prelude.{◌≡◌, ◌≤◌, ℕ, ⊤, Bool, true, false, List, [], ◌∷◌, Option, None, Some, Result, Ok, is_some, length}
use Rattle.clocks.specs.Moments.{NeverGoBack, told_behind}
use Rattle.cache_turns.specs.Turns.{TakesTurn, idle}
use Rattle.net_prefix.specs.declared.payload.Vrp.{Vrp}
use Rattle.payload_sources.specs.PayloadSources.{SourceTexts}
use Rattle.payload_sources.specs.declared.fault.SourceFile.{SourceFile}
use Rattle.rtr_cache.specs.CacheState.{CacheState}
use Rattle.wires.specs.Wires.{WireState}
use Rattle.cache_desk.specs.declared.reading.Reading.{Reading}
use Rattle.cache_desk.specs.declared.reading.Reading.TheVariants as readings
use Rattle.cache_settings.specs.declared.settings.CacheSettings.{CacheSettings}
use Rattle.cache_settings.specs.declared.settings.Stale.{Stale}
use Rattle.cache_settings.specs.declared.settings.Stale.TheVariants.{Serve, Withdraw}
use Rattle.cache_program.specs.CacheOfSettings.{IsCacheOf}
use Rattle.cache_program.specs.FirstList.{IsFirst}
use Rattle.cache_program.specs.Intervals.{is_due_at, since_after}
use Rattle.cache_program.specs.Rereads.{RereadsWhenDue, Served, age_told, WithdrawsWhere, is_stale}
use Rattle.cache_watch.specs.declared.reread.Reread.{Reread}
use Rattle.cache_watch.specs.declared.telling.FileAge.{FileAge}

-- a moment, how old the list's file is then, the reading that an operator asks for at it, and what looking at the list has led to,
-- where it was due or asked for
pub record Moment : Type 0 where
  pub now : ℕ
  pub age : FileAge
  pub asked : Option Reading
  pub led : Option Reread

-- the list is read where it is due, and where an operator asks for it
abbrev pub is_read : Option Reading → Bool → Bool
is_read None is_due = is_due
is_read (Some reading) is_due = true

-- how many payloads the list has that an operator accepts whatever the guards say: as many as the one that was refused when it was
-- read last, if one was
abbrev pub count_accepted : Option Reading → Served → Option ℕ
count_accepted None served = None
count_accepted (Some readings.Reread) served = None
count_accepted (Some readings.Accept) served = served.refused

-- what is done at a moment: the list is read again where it is due or asked for, what is too old is withdrawn, and then a turn is
-- taken, which goes well
pub record ServesOnce (Lists : Result SourceTexts SourceFile → Type 0) (is_due : Bool) (at : Moment) (old new : Served) : Type 0 where
  pub between : Served
  pub left : Served
  pub rereads : RereadsWhenDue Lists (is_some at.asked) (count_accepted at.asked old) (is_read at.asked is_due) at.now at.age old at.led between
  pub withdraws : WithdrawsWhere (is_stale at.now between) between left
  pub takes : TakesTurn at.now left.turns (Ok tt) new.turns
  pub same : new ≡ record left { turns = new.turns }

-- the same at each of these moments, one after another; the seconds to the next reading count from one before them, or from the first
abbrev pub ServesAll : (Result SourceTexts SourceFile → Type 0) → Option ℕ → Option ℕ → List Moment → Served → Served → Type 0
ServesAll Lists seconds since [] old new = new ≡ old
ServesAll Lists seconds since (at ∷ moments) old new =
    (mid : Served) × ServesOnce Lists (is_due_at seconds since at.now) at old mid × ServesAll Lists seconds (since_after since at.now at.led) moments mid new

abbrev pub nows : List Moment → List ℕ
nows [] = []
nows (at ∷ moments) = at.now ∷ nows moments

-- nobody asks for a reading
abbrev pub NobodyAsks : List Moment → Type 0
NobodyAsks [] = ⊤
NobodyAsks (at ∷ moments) = (at.asked ≡ None) × NobodyAsks moments

-- the file is so old at each moment as was answered
abbrev pub AreOfAge : (FileAge → Type 0) → List Moment → Type 0
AreOfAge Ages [] = ⊤
AreOfAge Ages (at ∷ moments) = Ages at.age × AreOfAge Ages moments

-- turns were taken, no more than so many, each at the moment that the clock told for it, with operators attended to as is said
pub record ServesSoMany (Lists : Result SourceTexts SourceFile → Type 0) (Ages : FileAge → Type 0) (Attends : ℕ → List Moment → Type 0) (reread : Option ℕ) (count : ℕ) (before behind : List ℕ) (old new : Served) : Type 0 where
  pub moments : List Moment
  pub serves : ServesAll Lists reread (Some 0) moments old new
  pub aged : AreOfAge Ages moments
  pub attends : Attends count moments
  pub told : behind ≡ told_behind (nows moments) before
  pub forward : NeverGoBack before → NeverGoBack behind
  pub few : length moments ≤ count

-- how old a list may be to be served: as old as it is, unless the settings have one that is too old withdrawn
abbrev pub oldest_by : Stale → Option ℕ → Option ℕ
oldest_by Serve max_age = None
oldest_by Withdraw max_age = max_age

abbrev pub oldest_of : CacheSettings → Option ℕ
oldest_of settings = oldest_by settings.stale settings.max_age

-- a served list before its first turn: its cache is of the settings, begun in a second that was told, and has published the
-- set of the files that the system gave, at the moment 0, as old as its file was said to be then, or as it says itself; it listens by
-- a wire that the system gave, and its guards, its patience and how old a list may be are those of the settings
pub record IsBegun (Lists : Result SourceTexts SourceFile → Type 0) (Ages : FileAge → Type 0) (Wires : WireState → Type 0) (Seconds : ℕ → Type 0) (settings : CacheSettings) (served : Served) : Type 0 where
  pub cache : CacheState
  pub wire : WireState
  pub second : ℕ
  pub set : List Vrp
  pub age : FileAge
  pub told : Seconds second
  pub of_settings : IsCacheOf settings second cache
  pub first : IsFirst Lists settings.guards cache.shared.kept served.serial set served.written served.stamps
  pub payloads : served.payloads ≡ length set
  pub guards : served.guards ≡ settings.guards
  pub accepted : served.accepted ≡ false
  pub refused : served.refused ≡ None
  pub read : served.read ≡ 0
  pub answered : Ages age
  pub aged : served.age ≡ age_told served.written age
  pub most : served.most ≡ oldest_of settings
  pub listens : Wires wire
  pub turns : served.turns ≡ idle settings.patience cache wire

-- from there the clock was read, and so many turns were taken with the operators of the settings
pub record IsServed (Lists : Result SourceTexts SourceFile → Type 0) (Ages : FileAge → Type 0) (Wires : WireState → Type 0) (Seconds : ℕ → Type 0) (Attends : CacheSettings → ℕ → List Moment → Type 0) (settings : CacheSettings) (count : ℕ) (before behind : List ℕ) (served : Served) : Type 0 where
  pub begun : Served
  pub start : ℕ
  pub begins : IsBegun Lists Ages Wires Seconds settings begun
  pub takes : ServesSoMany Lists Ages (Attends settings) settings.reread count (start ∷ before) behind begun served
