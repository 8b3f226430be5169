-- The commands of a text.
use Rattle.std.proofs.Common.{◌≡◌, ◌↔◌, ◌⊎◌, ◌∙◌, inl, inr, true, List, ℕ, [], IfErr, OnOk, Option, Some, Result, Ok, Err, ap, append-nil, subst}
use Rattle.file_paths.specs.OpenedFiles.{AreOctetsOf}
use Rattle.bgp_conf.specs.declared.refusal.Refusal.{Refusal}
use Rattle.bgp_conf.specs.declared.refusal.Refusal.TheVariants.{Range, NoMemory as NoMemoryOfSpeaker}
use Rattle.local_exceptions.specs.ExceptionSets.{ExceptionSets}
use Rattle.scenario.specs.CommandFaults.{IsOutside}
use Rattle.scenario.specs.FileLines.{lines}
use Rattle.scenario.specs.ObeyedCommands.{Obeys, ObeysBefore}
use Rattle.scenario.specs.declared.commands.CommandsFault.{CommandsFault}
use Rattle.scenario.specs.declared.commands.CommandsFault.TheVariants.{BadLine, Refused, Device, NoMemory}
use Rattle.runs.proofs.AcceptedCommands.{accepted-append}
use Rattle.runs.specs.Agreement.{Agrees}
use Rattle.runs.specs.SpeakerState.{SpeakerState, is_out_of_range}
use Rattle.runs.specs.declared.config.Config.{Config}
use Rattle.speaker_exceptions.specs.ObeyedExceptions.{Obeys as ObeysExceptions, commands_of}
use Rattle.speaker_program.specs.Commanded.{IsCommanded, IsCommandedBy, IsStoppedIn, ObeysText}
use Rattle.speaker_program.specs.Endings.{IsUnread}
use Rattle.speaker_program.specs.declared.fault.SpeakerFault.{SpeakerFault}

-- those of the octets that a text has are the text's
pub obeys_text : (told : Option (List ℕ)) (octets : List ℕ) (old new : SpeakerState) → AreOctetsOf told octets → Obeys (lines octets) old new → ObeysText told old new
obeys_text told octets old new are obeys = (lines octets, λ known is. ap lines (are known is), obeys)

pub obeys_if_ok : (told : Option (List ℕ)) (octets path : List ℕ) (result : Result (Unit {0}) SpeakerFault) (old new : SpeakerState) → AreOctetsOf told octets → IsCommandedBy path (lines octets) result old new → OnOk result (ObeysText told old new)
obeys_if_ok told octets path (Ok done) old new are obeys = obeys_text told octets old new are obeys
obeys_if_ok told octets path (Err ends) old new are obeys = tt

pub stops_if_err : (told : Option (List ℕ)) (octets path : List ℕ) (result : Result (Unit {0}) SpeakerFault) (old new : SpeakerState) → AreOctetsOf told octets → IsCommandedBy path (lines octets) result old new → IfErr result (IsStoppedIn told path old new)
stops_if_err told octets path (Ok done) old new are stops = tt
stops_if_err told octets path (Err ends) old new are stops = (stops.0, stops.1, λ text is. subst (λ (o : List ℕ). ObeysBefore (lines o) stops.0 old new) (are text is) stops.2)

-- where nothing was read, no line is at fault
before_none : (on : List (List ℕ)) (fault : CommandsFault) (old new : SpeakerState) → IsOutside fault → ObeysBefore on fault old new
before_none on (BadLine number) old new outside = absurd outside
before_none on (Refused number why) old new outside = absurd outside
before_none on Device old new outside = tt
before_none on NoMemory old new outside = tt

pub unread_stops : (told : Option (List ℕ)) (path : List ℕ) (ends : SpeakerFault) (old new : SpeakerState) → IsUnread path ends → IsStoppedIn told path old new ends
unread_stops told path ends old new unread = (unread.0, unread.1, λ text is. before_none (lines text) unread.0 old new unread.2)

-- behind exceptions and them the speaker is as they leave one that has obeyed none
pub commanded_by : (exceptions : ExceptionSets) (text : Option (List ℕ)) (config : Config) (old mid new : SpeakerState) → Agrees config [] old → ObeysExceptions (commands_of exceptions) old mid → ObeysText text mid new → IsCommanded exceptions text config new
commanded_by exceptions text config old mid new agrees excepts obeys =
    let first = excepts config [] agrees in
    let more = obeys.2 config first.0 (rw append-nil at first.3) in
    (obeys.0, first.0, more.0, first.1, obeys.1, more.1, accepted-append config [] first.0 more.0 first.2 (rw append-nil more.2), more.3)

-- why no speaker is made
pub unmade : (config : Config) (why : Refusal) (made : Result SpeakerState Refusal) → made ≡ Err why → ((made ≡ Err Range) ↔ (is_out_of_range config ≡ true)) → (why ≡ Range) ⊎ (why ≡ NoMemoryOfSpeaker) → ((why ≡ Range) × (is_out_of_range config ≡ true)) ⊎ (why ≡ NoMemoryOfSpeaker)
unmade config why made is range (inl out) = inl (out, range.0 (is ∙ ap (λ (w : Refusal). Err w) out))
unmade config why made is range (inr memory) = inr memory
