-- What is known where serving ended well.
use Rattle.std.proofs.Common.{◌≡◌, ◌≢◌, ℕ, Bool, true, false, List, [], ◌∷◌, String, Global, OnOk, Option, None, Some, Result, Ok, Err, IfErr, IfOk, string_bytes, ap, ◌∙◌, sym, subst}
use Rattle.std.specs.declared.net.socket_addr.SocketAddr.{SocketAddr}
use Rattle.program_endings.specs.Asides.{Asks}
use Rattle.program_endings.specs.Exits.{status_of}
use Rattle.program_endings.specs.declared.aside.Aside.{Aside}
use Rattle.program_endings.specs.declared.aside.Aside.TheVariants.{Help, Version, Check}
use Rattle.program_endings.specs.declared.fault.ExitFault.{ExitFault}
use Rattle.program_endings.specs.declared.fault.ExitFault.TheVariants.{Arguments, Settings, BadLine, RefusedLine, Device}
use Rattle.speaker_program.proofs.AskedBefore.{asked_before}
use Rattle.speaker_program.specs.Begun.{AreOperatorsOf, AttendsOperators, AttendsSocket, IsServed, TakesTurnsOf, has_commands, patience_of}
use Rattle.speaker_program.proofs.Failures.{begun_as, settings_as, speaker_as}
use Rattle.speaker_program.specs.HeldBack.{waits}
use Rattle.speaker_program.specs.Checked.{IsChecked, OfAside}
use Rattle.speaker_program.specs.Endings.{EndsSo, status_at_end}
use Rattle.speaker_program.specs.Exits.{exit_of_fault}
use Rattle.speaker_program.specs.declared.fault.SpeakerFault.{SpeakerFault}
use Rattle.speaker_settings.specs.declared.settings.SpeakerSettings.{SpeakerSettings}
use Rattle.speaker_turns.specs.Turns.{Turns, idle, with_patience}
use Rattle.speaker_turns.proofs.Listening.{listens_on}
use Rattle.control_lines.specs.declared.talk.Wish.{Wish}
use Rattle.speaker_desk.proofs.Attended.{attended_are_moves}
use Rattle.speaker_desk.proofs.Listening.{moves_listen}
use Rattle.speaker_program.proofs.Remotes.{remotes_listen}
use Rattle.speaker_program.proofs.TakenTurns.{well_are_turns}
use Rattle.wires.specs.Wires.{WireState, nothing_told}

never_zero : (fault : ExitFault) → status_of fault ≡ 0 → ⊥
never_zero Arguments zero = absurd cc
never_zero Settings zero = absurd cc
never_zero (BadLine line) zero = absurd cc
never_zero (RefusedLine line number) zero = absurd cc
never_zero Device zero = absurd cc

-- where the status is 0 something was served, so
pub served_so : {T : Type 0} {P : T → Type 0} (r : Result T SpeakerFault) (ended : Result (Unit {0}) SpeakerFault) → EndsSo r ended → status_at_end ended ≡ 0 → IfOk r P → (x : T) × P x
served_so (Ok x) ended ends zero is = (x, is)
served_so (Err fault) ended ends zero is = absurd (never_zero (exit_of_fault fault) (sym (ap status_at_end ends) ∙ zero))

-- where it isn't, there is a fault, so
pub failed_so : (P : SpeakerFault → Type 0) (r : Result (Unit {0}) SpeakerFault) (status : ℕ) → status ≡ status_at_end r → status ≢ 0 → IfErr r P → (fault : SpeakerFault) × (status ≡ status_of (exit_of_fault fault)) × P fault
failed_so P (Ok done) status is bad fails = absurd (bad is)
failed_so P (Err fault) status is bad fails = (fault, is, fails)

pub ended_so : {T : Type 0} (P : SpeakerFault → Type 0) (r : Result T SpeakerFault) (ended : Result (Unit {0}) SpeakerFault) → EndsSo r ended → IfErr r P → IfErr ended P
ended_so P (Ok x) ended ends is = subst (λ (e : Result (Unit {0}) SpeakerFault). IfErr e P) (sym ends) tt
ended_so P (Err fault) ended ends is = subst (λ (e : Result (Unit {0}) SpeakerFault). IfErr e P) (sym ends) is

-- how operators are attended to
abbrev Attending : Type 1
Attending = SpeakerSettings → ℕ → List ℕ → List ℕ → Turns → Turns → Type 0

-- what is known of texts, of wires and of operators may be said more weakly
pub served_as : (Told Tells : List ℕ → Option (List ℕ) → Type 0) (Opened Opens : WireState → Type 0) (Attended Attends : Attending) (settings : SpeakerSettings) (count : ℕ) (before behind : List ℕ) (turns : Turns) → IsServed Told Opened Attended settings count before behind turns
    → ((path : List ℕ) (text : Option (List ℕ)) → Told path text → Tells path text) → ((wire : WireState) → Opened wire → Opens wire) → ((old new : Turns) → Attended settings count before behind old new → Attends settings count before behind old new) → IsServed Tells Opens Attends settings count before behind turns
served_as Told Tells Opened Opens Attended Attends settings count before behind turns is tells opens attends =
    record {
      begun = is.begun;
      begins = begun_as Told Tells Opened Opens settings is.begun tells opens is.begins;
      takes = by_commands (has_commands settings) is.takes;
    }
  where
    by_commands : (commands : Bool) → TakesTurnsOf Attended commands settings count before behind is.begun turns → TakesTurnsOf Attends commands settings count before behind is.begun turns
    by_commands false takes = takes
    by_commands true takes = attends is.begun turns takes

-- where operators come from may be, too
given_as : {P : Type 0} (Gives Given : List ℕ → P → Type 0) (path : Option (String Global)) (operators : Option P) → AreOperatorsOf Gives path operators → ((at : List ℕ) (there : P) → Gives at there → Given at there) → AreOperatorsOf Given path operators
given_as Gives Given None operators is weaker = is
given_as Gives Given (Some path) operators is weaker = (is.0, weaker (string_bytes path) is.0 is.1, is.2)

pub attends_as : {P : Type 0} (wish : P → ℕ → Wish) (line : P → ℕ → List ℕ) (goes : ℕ → P → P → Type 0) (hears : ℕ → List ℕ → Bool → P → P → Type 0) (Gives Given : List ℕ → P → Type 0) (settings : SpeakerSettings) (count : ℕ) (before behind : List ℕ) (old new : Turns)
    → ((at : List ℕ) (there : P) → Gives at there → Given at there) → AttendsOperators wish line goes hears Gives settings count before behind old new → AttendsOperators wish line goes hears Given settings count before behind old new
attends_as wish line goes hears Gives Given settings count before behind old new weaker is =
    record {
      slots = is.slots;
      held = is.held;
      holds = is.holds;
      operators = is.operators;
      given = given_as Gives Given settings.control is.operators is.given weaker;
      left = is.left;
      takes = is.takes;
      leaves = is.leaves;
    }

pub zero_is_well : {P : Type 0} (r : Result (Unit {0}) SpeakerFault) → status_at_end r ≡ 0 → OnOk r P → P
zero_is_well (Ok done) zero is = is
zero_is_well (Err fault) zero is = absurd (never_zero (exit_of_fault fault) zero)

-- words ask for one thing
pub one_aside : (Is : List ℕ → Type 0) (Printed : Type 0) (words : List (String Global)) (a b : Aside) → Asks words a → Asks words b → OfAside Is Printed a → OfAside Is Printed b
one_aside Is Printed words Help Help x y is = is
one_aside Is Printed words Help Version x y is = is
one_aside Is Printed words Version Help x y is = is
one_aside Is Printed words Version Version x y is = is
one_aside Is Printed [] (Check path) b x y is = absurd x
one_aside Is Printed [] Help (Check other) x y is = absurd y
one_aside Is Printed [] Version (Check other) x y is = absurd y
one_aside Is Printed (word ∷ []) (Check path) b x y is = absurd x
one_aside Is Printed (word ∷ []) Help (Check other) x y is = absurd y
one_aside Is Printed (word ∷ []) Version (Check other) x y is = absurd y
one_aside Is Printed (word ∷ settings ∷ []) (Check path) (Check other) x y is = subst Is (x.1 ∙ sym y.1) is
one_aside Is Printed (word ∷ settings ∷ []) (Check path) Help x y is = absurd y
one_aside Is Printed (word ∷ settings ∷ []) (Check path) Version x y is = absurd y
one_aside Is Printed (word ∷ settings ∷ []) Help (Check other) x y is = absurd x
one_aside Is Printed (word ∷ settings ∷ []) Version (Check other) x y is = absurd x
one_aside Is Printed (word ∷ settings ∷ more ∷ words) (Check path) b x y is = absurd x
one_aside Is Printed (word ∷ settings ∷ more ∷ words) Help (Check other) x y is = absurd y
one_aside Is Printed (word ∷ settings ∷ more ∷ words) Version (Check other) x y is = absurd y

-- a text that was opened there is one that was opened here
pub opened_as : (Opened : List ℕ → Option (List ℕ) → Type 0) (there here : List ℕ) (held text : Option (List ℕ)) → there ≡ here → text ≡ held → Opened there held → Opened here text
opened_as Opened there here held text path same is = subst (λ (p : List ℕ). Opened p text) path (subst (λ (t : Option (List ℕ)). Opened there t) (sym same) is)

-- settings that were checked were checked of what is read so, and of texts that are told so
pub checked_as : (Read Reads : List ℕ → List ℕ → Type 0) (Told Tells : List ℕ → Option (List ℕ) → Type 0) (path : List ℕ) → IsChecked Read Told path → ((octets : List ℕ) → Read path octets → Reads path octets) → ((at : List ℕ) (text : Option (List ℕ)) → Told at text → Tells at text)
    → IsChecked Reads Tells path
checked_as Read Reads Told Tells path is reads tells = record {
  settings = is.settings;
  read = settings_as (Read path) (Reads path) is.settings reads is.read;
  speaker = is.speaker;
  is = speaker_as Told Tells is.settings is.speaker tells is.is;
}

-- what holds anyway, holds where all went well
pub on_ok_of : {T E : Type 0} {P : Type 0} (r : Result T E) → P → OnOk r P
on_ok_of (Ok done) is = is
on_ok_of (Err why) is = tt

-- turns leave it where the wire listens, whoever is attended to between them
attended_listens : {P : Type 0} (wish : P → ℕ → Wish) (line : P → ℕ → List ℕ) (goes : ℕ → P → P → Type 0) (hears : ℕ → List ℕ → Bool → P → P → Type 0) (Gives : List ℕ → P → Type 0) (settings : SpeakerSettings) (count : ℕ) (before behind : List ℕ) (old new : Turns)
    → AttendsOperators wish line goes hears Gives settings count before behind old new → new.counts.wire.listens ≡ old.counts.wire.listens
attended_listens wish line goes hears Gives settings count before behind old new is =
    let moves = attended_are_moves _ _ _ _ count (Ok tt) before behind _ is.left is.takes in
    let asked = asked_before (waits settings) is.slots count before behind old is.held is.left.stand.served is.holds moves in
    ap (λ (t : Turns). t.counts.wire.listens) is.leaves ∙ moves_listen asked.moves old is.left.stand.served asked.made

taken_listens : (Attends : Attending) (settings : SpeakerSettings) (count : ℕ) (before behind : List ℕ) → ((old new : Turns) → Attends settings count before behind old new → new.counts.wire.listens ≡ old.counts.wire.listens) → (commands : Bool) (old new : Turns) → TakesTurnsOf Attends commands settings count before behind old new
    → new.counts.wire.listens ≡ old.counts.wire.listens
taken_listens Attends settings count before behind attended false old new takes = listens_on takes.moments old new (well_are_turns takes.moments old new takes.taken)
taken_listens Attends settings count before behind attended true old new takes = attended old new takes

-- the wire listens where it was opened
pub listens_there : (Told : List ℕ → Option (List ℕ) → Type 0) (settings : SpeakerSettings) (count : ℕ) (before behind : List ℕ) (turns : Turns) (listens : Option SocketAddr) → IsServed Told (λ wire. wire ≡ nothing_told listens) AttendsSocket settings count before behind turns → turns.counts.wire.listens ≡ listens
listens_there Told settings count before behind turns listens is =
    taken_listens AttendsSocket settings count before behind (λ old new takes. attended_listens _ _ _ _ _ settings count before behind old new takes) (has_commands settings) is.begun turns is.takes
    ∙ (ap (λ (t : Turns). t.counts.wire.listens) is.begins.remotes
    ∙ (remotes_listen settings.peers.items settings.cache (with_patience (patience_of settings) (idle is.begins.speaker is.begins.wire)) ∙ ap (λ (w : WireState). w.listens) is.begins.opened))
