-- What becomes of operators in turns of a served list (own): they are heard in front of what is done at a moment, and told behind
-- it what reading the list has led to; `stop` alone ends the turns early.
use Rattle.std.specs.Prelude.{◌≡◌, ◌⊎◌, ◌++◌, ℕ, Bool, true, false, List, [], ◌∷◌, Option, None, Some, String, length, option_map, string_bytes}
use Rattle.std.specs.declared.alloc.Global.{Global}
use Rattle.control_lines.specs.declared.talk.Wish.{Wish}
use Rattle.control_sockets.specs.Places.{HearsAt as IsHeardAt, Turns as VisitsAll, line_at, wish_at}
use Rattle.control_sockets.specs.declared.control_socket.ControlSocket.{ControlSocket}
use Rattle.cache_desk.specs.Desks.{AtDesk, Attends, DeskState, Hearing, StopsAt, TellsIf, Visits, nothing_asked, stopped_at}
use Rattle.cache_desk.specs.declared.reading.Reading.{Reading}
use Rattle.cache_settings.specs.declared.settings.CacheSettings.{CacheSettings}
use Rattle.cache_program.specs.ServedTurns.{Moment}

-- the operators of the settings: those that their path gives, if they have one
abbrev pub AreOperatorsOf : {P : Type 0} → (List ℕ → P → Type 0) → Option (String Global) → Option P → Type 0
AreOperatorsOf Gives None operators = operators ≡ None
AreOperatorsOf {P} Gives (Some path) operators = (there : P) × Gives (string_bytes path) there × (operators ≡ Some there)

-- the desk of the settings: those operators, who haven't asked anything yet
abbrev pub IsDeskOf : {P : Type 0} → (List ℕ → P → Type 0) → Option (String Global) → Option (DeskState P) → Type 0
IsDeskOf {P} Gives path desk = (operators : Option P) × AreOperatorsOf Gives path operators × (desk ≡ option_map nothing_asked operators)

module _ {P : Type 0} (wish : P → ℕ → Wish) (line : P → ℕ → List ℕ) (goes : ℕ → P → P → Type 0) (hears : Hearing P) where
  -- where one waits for something all are attended to, and else nobody asks
  abbrev pub AttendsIf : Bool → ℕ → Option Reading → DeskState P → DeskState P → Type 0
  AttendsIf false now asked old new = (asked ≡ None) × (new ≡ old)
  AttendsIf true now asked old new = Attends wish line hears now asked old new

  -- operators are visited at a moment, and attended to at it, and this reading is asked for
  abbrev pub HearsThem : ℕ → Option Reading → DeskState P → DeskState P → Type 0
  HearsThem now asked old new = (waits : Bool) × (visited : DeskState P) × Visits goes wish now waits old visited × AttendsIf waits now asked visited new

  -- so it is at a desk; where it is closed nobody asks
  abbrev pub HearsAt : ℕ → Option Reading → Option (DeskState P) → Option (DeskState P) → Type 0
  HearsAt now asked old new = AtDesk (HearsThem now asked) old new × (old ≡ None → asked ≡ None)

  -- what of a turn is the operators': they are heard, and those who asked are told what the reading has led to
  abbrev pub AttendsOnce : Moment → Option (DeskState P) → Option (DeskState P) → Type 0
  AttendsOnce at old new = (heard : Option (DeskState P)) × HearsAt at.now at.asked old heard × AtDesk (TellsIf hears at.led) heard new

  -- turns behind each of which the program goes on
  abbrev pub GoesOn : List Moment → Option (DeskState P) → Option (DeskState P) → Type 0
  GoesOn [] old new = new ≡ old
  GoesOn (at ∷ moments) old new = (mid : Option (DeskState P)) × AttendsOnce at old mid × StopsAt (stopped_at mid) at.now false × GoesOn moments mid new

  -- all that were wanted were taken, or one more, behind which the program ends since `stop` was said
  abbrev pub EndsTurns : ℕ → List Moment → List Moment → Option (DeskState P) → Option (DeskState P) → Type 0
  EndsTurns count going moments mid new =
      ((moments ≡ going) × (length moments ≡ count) × (new ≡ mid))
      ⊎ ((last : Moment) × (moments ≡ going ++ last ∷ []) × AttendsOnce last mid new × StopsAt (stopped_at new) last.now true)

  -- turns of a desk at these moments: so many as are wanted, or fewer where it has stopped
  pub record AttendsTurns (old new : Option (DeskState P)) (count : ℕ) (moments : List Moment) : Type 0 where
    pub going : List Moment
    pub mid : Option (DeskState P)
    pub goes_on : GoesOn going old mid
    pub ends : EndsTurns count going moments mid new

  -- turns of the settings' desk
  pub record AttendsOperators (Gives : List ℕ → P → Type 0) (settings : CacheSettings) (count : ℕ) (moments : List Moment) : Type 0 where
    pub desk : Option (DeskState P)
    pub left : Option (DeskState P)
    pub opened : IsDeskOf Gives settings.control desk
    pub takes : AttendsTurns desk left count moments

-- operators at a Unix socket that was opened at the path
abbrev pub AttendsSocket : CacheSettings → ℕ → List Moment → Type 0
AttendsSocket = AttendsOperators {P = ControlSocket} (λ socket. wish_at socket.places.items) (λ socket. line_at socket.places.items) (λ now old new. VisitsAll now old.places.items new.places.items)
    (λ key octets goes_on old new. IsHeardAt key octets goes_on old.places.items new.places.items) (λ path socket. string_bytes socket.path ≡ path)
