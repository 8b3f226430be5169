-- What a list of events and the answers to them come to.
use Rattle.std.specs.Prelude.{◌≡◌, ◌≤◌, ◌+◌, ℕ, List, [], ◌∷◌, None, MatchOption, Result, Ok, Err}
use Rattle.bgp_conf.specs.declared.refusal.Refusal.{Refusal}
use Rattle.bgp_conf.specs.declared.refusal.Refusal.TheVariants.{NoMemory}
use Rattle.runs.specs.Agreement.{Agrees, IsSettled}
use Rattle.runs.specs.Choices.{choices_in}
use Rattle.runs.specs.FirstRefusal.{Grows, refusal_in}
use Rattle.runs.specs.Runs.{Run, Turn, asked, call_of, configuration_of, report_of}
use Rattle.runs.specs.SpeakerState.{SpeakerState}
use Rattle.runs.specs.declared.config.Config.{Config}
use Rattle.runs.specs.declared.event.Event.{Event}
use Rattle.runs.specs.declared.event.Report.{Report}

-- how far events have come: their run, how often a best route was chosen so far, and how often before the last one that
-- was accepted
pub record Point : Type 0 where
  pub run : Run
  pub chosen : ℕ
  pub chosen_before : ℕ

-- nothing has come yet
abbrev pub beginning : Point
beginning = record { run = []; chosen = 0; chosen_before = 0 }

-- for an accepted event a best route was chosen at most as often as what it did allows
pub record IsCounted (config : Config) (before after : Point) : Type 0 where
  pub counted : after.chosen_before ≡ before.chosen
  pub rises : before.chosen ≤ after.chosen
  pub most : after.chosen ≤ before.chosen + choices_in config after.run

-- one event leads from a point to the next: an accepted one with what it did at its end, and its report, and behind it each
-- Established peer holds its export, where its ring has room; a refused one stands as nothing, and the answer is its first
-- refusal, or, to a command that has none and takes memory of its own, want of memory
abbrev pub GoesOn : Config → Point → Event → Result Report Refusal → Point → Type 0
GoesOn config before event (Ok report) after =
    (refusal_in config before.run event ≡ None)
    × ((now : Turn) × (asked now.call ≡ call_of event) × (after.run ≡ now ∷ before.run) × (report ≡ report_of config before.run now) × IsSettled config after.run)
    × IsCounted config before after
GoesOn config before event (Err refusal) after =
    (after ≡ before)
    × MatchOption (refusal_in config before.run event) ((refusal ≡ NoMemory) × Grows (configuration_of config before.run) event) (λ first. refusal ≡ first)

-- events with their answers lead from a point to another
abbrev pub Follows : Config → Point → List Event → List (Result Report Refusal) → Point → Type 0
Follows config before [] [] after = after ≡ before
Follows config before (event ∷ events) (answer ∷ answers) after =
    (mid : Point) × GoesOn config before event answer mid × Follows config mid events answers after
Follows config before [] (answer ∷ answers) after = ⊥
Follows config before (event ∷ events) [] after = ⊥

-- a list of events without takes was played: the answers lead to a run that the speaker agrees with, and its counts are
-- those of the events
pub record IsPlayed (config : Config) (events : List Event) (answers : List (Result Report Refusal)) (s : SpeakerState) : Type 0 where
  pub end : Point
  pub follows : Follows config beginning events answers end
  pub agrees : Agrees config end.run s
  pub chosen : s.chosen ≡ end.chosen
  pub chosen_before : s.chosen_before ≡ end.chosen_before
