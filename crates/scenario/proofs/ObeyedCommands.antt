-- How commands follow one another.
use Rattle.std.proofs.Common.{◌≡◌, ◌+◌, ◌++◌, ◌∙◌, ℕ, Bool, true, false, List, [], ◌∷◌, Option, None, Some, IfSome, MatchOption, Result, Ok, Err, IfErr, inr, length, refl, sym, ap, subst, append_assoc, append-nil, if◌then◌else◌, is_ok, length-append, arith}
use Rattle.std.specs.Io.BufRead.{drop_through}
use Rattle.std.specs.Result.{IsErrAnd}
use Rattle.bgp_conf.specs.declared.command.Command.{Command}
use Rattle.bgp_conf.specs.declared.refusal.Refusal.{Refusal}
use Rattle.bgp_conf.specs.declared.refusal.Refusal.TheVariants.{NoMemory as Memory}
use Rattle.runs.proofs.AcceptedCommands.{accepted-append, accepted_one}
use Rattle.runs.proofs.RefusedEvents.{err_of}
use Rattle.runs.specs.Agreement.{Agrees}
use Rattle.runs.specs.FirstRefusal.{LacksMemory, refusal_of}
use Rattle.runs.specs.Runs.{Run, Turn}
use Rattle.runs.specs.SpeakerState.{SpeakerState}
use Rattle.runs.specs.declared.event.Event.TheVariants.{Command as Commanded}
use Rattle.scenario.specs.CommandFaults.{NamesLine, TellsRefusal, unread_at}
use Rattle.command_lines.specs.CommandWords.{SayNone, Says, SaysLine}
use Rattle.command_lines.specs.Words.{Reads, words_in}
use Rattle.command_lines.specs.declared.command_line.CommandLine.{CommandLine}
use Rattle.command_lines.specs.declared.command_line.LineFault.{LineFault}
use Rattle.command_lines.specs.declared.command_line.LineFault.TheVariants.{BadLine as Bad, NoMemory as Unread}
use Rattle.scenario.specs.FileLines.{lines, ReadsLine, says_nothing, without_end}
use Rattle.std.specs.Bool.{MatchBool}
use Rattle.scenario.specs.ObeyedCommands.{IsBad, IsCommandOn, IsFaultOf, IsRefusalOf, IsRefused, AreCommandsOf, AreTurnsOf, Obeys, ObeysBefore, ObeysSome, ObeysUpTo, StopsAt, Takes}
use Rattle.scenario.specs.declared.commands.CommandsFault.{CommandsFault}
use Rattle.scenario.specs.declared.commands.CommandsFault.TheVariants.{BadLine, Refused, Device, NoMemory}

-- no line is obeyed
pub obeys_none : (s : SpeakerState) → Obeys [] s s
obeys_none s config r agrees = ([], refl, tt, agrees)

are_commands-append : (one two : List (List ℕ)) (first second : Run) → AreCommandsOf one first → AreCommandsOf two second → AreCommandsOf (one ++ two) (second ++ first)
are_commands-append [] two first second none are = subst (λ r. AreCommandsOf two r) (sym (ap (λ (r : Run). second ++ r) none ∙ append-nil second)) are
are_commands-append (line ∷ one) two first second are more =
    (second ++ are.0, are.1, ap (λ (r : Run). second ++ r) are.2 ∙ sym (append_assoc second are.0 are.1), are.3, are_commands-append one two are.0 second are.4 more)

obeys_then : (one two : List (List ℕ)) (old mid new : SpeakerState) → Obeys one old mid → Obeys two mid new → Obeys (one ++ two) old new
obeys_then one two old mid new first second config r agrees =
    let a = first config r agrees in
    let b = second config (a.0 ++ r) a.3 in
    let agreed : Agrees config ((b.0 ++ a.0) ++ r) new = rw append_assoc b.3 in
    (b.0 ++ a.0, are_commands-append one two a.0 b.0 a.1 b.1, accepted-append config r a.0 b.0 a.2 b.2, agreed)

pub obeys_some : (one two : List (List ℕ)) (old mid new : SpeakerState) → Obeys one old mid → Obeys two mid new → ObeysSome old new
obeys_some one two old mid new first second = (one ++ two, obeys_then one two old mid new first second)

-- a line that says nothing
turns_of_nothing : (line : List ℕ) → says_nothing line ≡ true → AreTurnsOf line []
turns_of_nothing line nothing =
    let none : Run = [] in
    let N : Type 0 = none ≡ none in
    let O : Type 0 = (now : Turn) × (none ≡ now ∷ []) × IsCommandOn line now in
    let start : N = refl in
    subst (λ (b : Bool). MatchBool b N O) (sym nothing) start

pub obeys_nothing : (line : List ℕ) (s : SpeakerState) → says_nothing line ≡ true → Obeys (line ∷ []) s s
obeys_nothing line s nothing config r agrees = ([], ([], [], refl, turns_of_nothing line nothing, refl), tt, agrees)

-- a line whose command was accepted
obeys_command : (line : List ℕ) (command : Command) (old new : SpeakerState) → says_nothing line ≡ false → Says (words_in (without_end line)) command → Takes command (Ok tt) old new → Obeys (line ∷ []) old new
obeys_command line command old new says said takes config r agrees =
    let now = takes config r agrees in
    let done : Run = now.0 ∷ [] in
    let N : Type 0 = done ≡ [] in
    let O : Type 0 = (t : Turn) × (done ≡ t ∷ []) × IsCommandOn line t in
    let on : O = (now.0, refl, (command, said, now.1)) in
    (done, ([], done, refl, subst (λ (b : Bool). MatchBool b N O) (sym says) on, refl), accepted_one config r now.0 command now.1 now.2, now.3)

-- a line that was handed in: its command was accepted, or refused
pub obeys_line : (line : List ℕ) (command : Command) (result : Result (Unit {0}) CommandsFault) (old new : SpeakerState) → says_nothing line ≡ false → Says (words_in (without_end line)) command → Takes command result old new → Obeys (if is_ok result then line ∷ [] else []) old new
obeys_line line command (Ok done) old new says said takes = obeys_command line command old new says said takes
obeys_line line command (Err fault) old new says said takes = λ config r agrees. ([], refl, tt, takes config r agrees)

-- the lines before the one of this number were read, and the others are left
pub record IsReadUpTo (left : Option (List ℕ)) (number : ℕ) (read : List (List ℕ)) (text : List ℕ) : Type 0 where
  pub unread : List ℕ
  pub left_is : left ≡ Some unread
  pub lines_are : lines text ≡ read ++ lines unread
  pub numbered : length read + 1 ≡ number

-- how far a file has been obeyed: the lines that were read, those before the one of this number
pub record IsObeyedUpTo (known left : Option (List ℕ)) (number : ℕ) (old new : SpeakerState) : Type 0 where
  pub read : List (List ℕ)
  pub obeyed : Obeys read old new
  pub rest : (text : List ℕ) → known ≡ Some text → IsReadUpTo left number read text

pub obeyed_none : (known : Option (List ℕ)) (s : SpeakerState) → IsObeyedUpTo known known 1 s s
obeyed_none known s = record {
  read = [];
  obeyed = obeys_none s;
  rest = λ text is. record { unread = text; left_is = is; lines_are = refl; numbered = omega arith };
}

-- one more line
pub obeyed_line : (known left behind : Option (List ℕ)) (number : ℕ) (line : List ℕ) (old mid new : SpeakerState) → IsObeyedUpTo known left number old mid → ReadsLine left true line behind
    → Obeys (line ∷ []) mid new → IsObeyedUpTo known behind (number + 1) old new
obeyed_line known left behind number line old mid new so_far reads obeys =
    record {
      read = so_far.read ++ line ∷ [];
      obeyed = obeys_then so_far.read (line ∷ []) old mid new so_far.obeyed obeys;
      rest = λ text is.
          let at = so_far.rest text is in
          let cut = subst (λ x. ReadsLine x true line behind) at.left_is reads in
          let rest : List ℕ = drop_through 10 at.unread in
          let numbered = at.numbered in
          record {
            unread = rest;
            left_is = cut.1;
            lines_are = at.lines_are ∙ ap (λ l. so_far.read ++ l) cut.0 ∙ sym (append_assoc so_far.read (line ∷ []) (lines rest));
            numbered = omega (arith, numbered, length-append so_far.read (line ∷ []));
          };
    }

-- all lines
pub obeyed_all : (known left : Option (List ℕ)) (number : ℕ) (old new : SpeakerState) → IsObeyedUpTo known left number old new → IfSome left (λ unread. unread ≡ [])
    → (text : List ℕ) → known ≡ Some text → Obeys (lines text) old new
obeyed_all known left number old new so_far ended text is =
    let at = so_far.rest text is in
    let none : at.unread ≡ [] = subst (λ x. IfSome x (λ unread. unread ≡ [])) at.left_is ended in
    let all : lines text ≡ so_far.read = at.lines_are ∙ ap (λ x. so_far.read ++ lines x) none ∙ append-nil so_far.read in
    subst (λ ls. Obeys ls old new) (sym all) so_far.obeyed

-- the lines before one that is so
before_line : (known left behind : Option (List ℕ)) (number : ℕ) (line : List ℕ) (old mid new : SpeakerState) (n : ℕ) (IsSo : List ℕ → Type 0) → IsObeyedUpTo known left number old mid
    → ReadsLine left true line behind → Obeys [] mid new → n ≡ number → IsSo line → (text : List ℕ) → known ≡ Some text → StopsAt IsSo n (lines text) old new
before_line known left behind number line old mid new n IsSo so_far reads none same so text is =
    let at = so_far.rest text is in
    let cut = subst (λ x. ReadsLine x true line behind) at.left_is reads in
    let rest : List (List ℕ) = lines (drop_through 10 at.unread) in
    let all : lines text ≡ so_far.read ++ line ∷ rest = at.lines_are ∙ ap (λ l. so_far.read ++ l) cut.0 in
    (line, so_far.read, rest, all, same ∙ sym at.numbered, so, subst (λ ls. Obeys ls old new) (append-nil so_far.read) (obeys_then so_far.read [] old mid new so_far.obeyed none))

-- the lines before one that is at fault
pub obeyed_before : (known left behind : Option (List ℕ)) (number : ℕ) (line : List ℕ) (old mid new : SpeakerState) (fault : CommandsFault) → IsObeyedUpTo known left number old mid
    → ReadsLine left true line behind → Obeys [] mid new → NamesLine number fault → IsFaultOf line new fault → (text : List ℕ) → known ≡ Some text → ObeysBefore (lines text) fault old new
obeyed_before known left behind number line old mid new (BadLine n) so_far reads none names so text is = before_line known left behind number line old mid new n IsBad so_far reads none names so text is
obeyed_before known left behind number line old mid new (Refused n why) so_far reads none names so text is = before_line known left behind number line old mid new n (IsRefused new why) so_far reads none names.0 so text is
obeyed_before known left behind number line old mid new NoMemory so_far reads none names so text is = tt
obeyed_before known left behind number line old mid new Device so_far reads none names so text is = tt

-- a command is refused as the speaker refuses it
pub refusal_told : (first : Option Refusal) (command : Command) (why : Refusal) (old new : SpeakerState) (fault : CommandsFault) → refusal_of old (Commanded command) ≡ first
    → MatchOption first ((why ≡ Memory) × LacksMemory (Commanded command) old new) (λ w. (err_of why ≡ err_of w) × (new ≡ old)) → TellsRefusal why fault → IsRefusalOf command new fault
refusal_told first command why old new (BadLine n) is refused told = told
refusal_told None command why old new (Refused n other) is lacks told = absurd (told.1 lacks.0)
refusal_told (Some w) command why old new (Refused n other) is refused told =
    let same : w ≡ other = let one = refused.0 in let two = told.0 in cc in
    ap (λ (s : SpeakerState). refusal_of s (Commanded command)) refused.1 ∙ is ∙ ap (λ (x : Refusal). Some x) same
refusal_told first command why old new Device is refused told = tt
refusal_told first command why old new NoMemory is refused told = tt

-- a command's fault is that of its line
pub fault_of_command : (line : List ℕ) (command : Command) (s : SpeakerState) (result : Result (Unit {0}) CommandsFault) → says_nothing line ≡ false → Says (words_in (without_end line)) command
    → IfErr result (IsRefusalOf command s) → IfErr result (IsFaultOf line s)
fault_of_command line command s (Ok done) says said of = tt
fault_of_command line command s (Err (BadLine n)) says said of = absurd of
fault_of_command line command s (Err (Refused n why)) says said of = (command, says, said, of)
fault_of_command line command s (Err Device) says said of = tt
fault_of_command line command s (Err NoMemory) says said of = tt

abbrev pub err_line : LineFault → Result CommandLine LineFault
err_line fault = Err fault

-- so is that of words that weren't read
pub fault_of_words : (line text : List ℕ) (number : ℕ) (s : SpeakerState) (fault : LineFault) → says_nothing line ≡ false → text ≡ without_end line
    → Reads (SaysLine (words_in text)) (SayNone (words_in text)) (err_line fault) → IsFaultOf line s (unread_at number fault)
fault_of_words line text number s Bad says same read = (says, inr (subst (λ octets. SayNone (words_in octets)) same read))
fault_of_words line text number s Unread says same read = tt

pub words_name_line : (number : ℕ) (fault : LineFault) → NamesLine number (unread_at number fault)
words_name_line number Bad = refl
words_name_line number Unread = tt

-- a fault that is passed on
pub obeyed_with : (lines : List (List ℕ)) (old new : SpeakerState) (r : Result (Unit {0}) CommandsFault) (fault : CommandsFault) → IsErrAnd r (λ told. told ≡ fault) → ObeysBefore lines fault old new → ObeysUpTo lines r old new
obeyed_with lines old new (Ok done) fault same before = absurd same
obeyed_with lines old new (Err told) fault same before = subst (λ why. ObeysBefore lines why old new) (sym same) before
