-- How long payloads are in force, by what happened alone: from the octet on that completes their load, up to a moment that comes the End of Data's expire interval later (RFC 8210 sections 5.8 and 6). No timer of the client is read here.
use Rattle.std.specs.Prelude.{◌≡◌, ◌≢◌, ◌⊎◌, ◌+◌, ◌≤◌, ℕ, true, List, [], ◌∷◌, ◌++◌}
use Rattle.moments.specs.Moments.{last_moment}
use Rattle.net_prefix.specs.declared.payload.Vrp.{Vrp}
use Rattle.rtr_codec.specs.declared.intervals.Intervals.{Intervals}
use Rattle.rtr_codec.specs.Intervals.{are_lawful}
use Rattle.rtr_codec.specs.ClientTable.{in_force}
use Rattle.rtr_codec.specs.PduSpelling.{End_of_data}
use Rattle.rtr_codec.specs.PduStream.{WholePdu, pdus}
use Rattle.rtr_session.specs.PayloadsInForce.{CompletesLoad, EndsLoad, Flushes}
use Rattle.rtr_session.specs.SessionHistory.{Event, Came_up, Failed, Octet, Refused, Handed, Ticked, client, first_place, moment_of}

-- a moment is so many seconds or more behind the one at which the load came. What would lie behind the last moment that can be handed in isn't reached
abbrev pub HasLapsed : ℕ → ℕ → ℕ → Type 0
HasLapsed came seconds now = (came + seconds ≤ now) × (came + seconds ≤ last_moment)

-- one of these events is such a moment
abbrev pub HasPassed : ℕ → ℕ → List Event → Type 0
HasPassed came seconds [] = ⊥
HasPassed came seconds (Came_up ∷ later) = HasPassed came seconds later
HasPassed came seconds (Failed ∷ later) = HasPassed came seconds later
HasPassed came seconds (Octet octet ∷ later) = HasPassed came seconds later
HasPassed came seconds (Refused ∷ later) = HasPassed came seconds later
HasPassed came seconds (Handed octets ∷ later) = HasPassed came seconds later
HasPassed came seconds (Ticked now ∷ later) = HasLapsed came seconds now ⊎ HasPassed came seconds later

-- of a session that has begun with this Retry Interval
module _ (retry : ℕ) where
  -- an event, coming next, completes no load
  abbrev pub CompletesNone : List Event → Event → Type 0
  CompletesNone h e = (set : List Vrp) → CompletesLoad retry h e set → ⊥

  -- none of these events completes one, which came behind the history; the newest is the first
  abbrev pub NoneCompletes : List Event → List Event → Type 0
  NoneCompletes h [] = Unit {0}
  NoneCompletes h (e ∷ later) = CompletesNone (later ++ h) e × NoneCompletes h later

  -- none of these events flushes
  abbrev pub FlushesNone : List Event → Event → Type 0
  FlushesNone h Came_up = Unit {0}
  FlushesNone h Failed = Unit {0}
  FlushesNone h (Octet octet) = Flushes retry h octet → ⊥
  FlushesNone h Refused = Unit {0}
  FlushesNone h (Handed octets) = Unit {0}
  FlushesNone h (Ticked now) = Unit {0}

  abbrev pub NoneFlushes : List Event → List Event → Type 0
  NoneFlushes h [] = Unit {0}
  NoneFlushes h (e ∷ later) = FlushesNone (later ++ h) e × NoneFlushes h later

  -- an octet of the history completed a load with this set, on whatever connection: less than the interval ago that its End of Data told, by each moment that came since, and neither a newer load nor a flush came since
  pub record AreUnexpired (h : List Event) (set : List Vrp) : Type 0 where
    pub later : List Event
    pub octet : ℕ
    pub before : List Event
    pub all_are : h ≡ later ++ Octet octet ∷ before
    pub load : EndsLoad retry before octet set
    pub newest : NoneCompletes (Octet octet ∷ before) later
    pub unflushed : NoneFlushes (Octet octet ∷ before) later
    pub unexpired : HasPassed (moment_of before) load.intervals.expire later → ⊥

-- payloads that are in force are an unexpired load, and an unexpired load is in force
abbrev pub PayloadsAreUnexpired : Type 0
PayloadsAreUnexpired = (retry : ℕ) (h : List Event) → in_force (client retry h) ≢ [] → AreUnexpired retry h (in_force (client retry h))

abbrev pub UnexpiredAreInForce : Type 0
UnexpiredAreInForce = (retry : ℕ) (h : List Event) (set : List Vrp) → AreUnexpired retry h set → in_force (client retry h) ≡ set

-- behind a load, with a moment since at which its interval has passed, nothing is in force before a newer load
abbrev pub ExpiredAreGone : Type 0
ExpiredAreGone =
    (retry : ℕ) (later : List Event) (octet : ℕ) (before : List Event) (set : List Vrp) (load : EndsLoad retry before octet set)
    → NoneCompletes retry (Octet octet ∷ before) later → HasPassed (moment_of before) load.intervals.expire later → in_force (client retry (later ++ Octet octet ∷ before)) ≡ []

-- The same by the octets as they came, with nothing in it of the client.

-- the octets that came since the connection last came up or failed, the oldest first
abbrev pub arrived : List Event → List ℕ
arrived [] = []
arrived (Came_up ∷ h) = []
arrived (Failed ∷ h) = []
arrived (Octet octet ∷ h) = arrived h ++ octet ∷ []
arrived (Refused ∷ h) = arrived h
arrived (Handed octets ∷ h) = arrived h
arrived (Ticked now ∷ h) = arrived h

-- the newest of them completes a PDU, an End of Data with lawful intervals, and no moment since lies its expire interval behind
pub record HasFreshEnd (h : List Event) : Type 0 where
  pub later : List Event
  pub octet : ℕ
  pub before : List Event
  pub session : ℕ
  pub serial : ℕ
  pub intervals : Intervals
  pub octets : List ℕ
  pub all_are : h ≡ later ++ Octet octet ∷ before
  pub ends : pdus first_place (arrived (Octet octet ∷ before)) ≡ pdus first_place (arrived before) ++ WholePdu (End_of_data session serial intervals) octets ∷ []
  pub lawful : are_lawful intervals ≡ true
  pub fresh : HasPassed (moment_of before) intervals.expire later → ⊥

-- where payloads are in force, an End of Data came less than its expire interval ago
abbrev pub PayloadsAreFresh : Type 0
PayloadsAreFresh = (retry : ℕ) (h : List Event) → in_force (client retry h) ≢ [] → HasFreshEnd h
