-- How the operators of the settings are attended to.
use Rattle.std.proofs.Common.{◌≡◌, ◌∙◌, ℕ, Bool, false, List, Option, None, Result, Ok, ap, subst, sym}
use Rattle.std.specs.declared.net.socket_addr.SocketAddr.{SocketAddr}
use Rattle.control_lines.specs.Perhaps.{Becomes, line_of, wish_of}
use Rattle.control_lines.specs.declared.talk.Wish.{Wish}
use Rattle.speaker_turns.specs.Turns.{Turns}
use Rattle.speaker_desk.specs.Attended.{AttendsTurns, Hall}
use Rattle.speaker_desk.specs.Restarts.{none_again}
use Rattle.speaker_desk.specs.Standing.{DeskState}
use Rattle.speaker_desk.specs.Waiting.{Waiting}
use Rattle.speaker_desk.specs.declared.attending.AttendFault.{AttendFault}
use Rattle.speaker_settings.specs.declared.settings.SpeakerSettings.{SpeakerSettings}
use Rattle.speaker_program.specs.Begun.{AreOperatorsOf, AttendsOperators, desk_of}
use Rattle.speaker_program.specs.HeldBack.{AreHeldBack, wait_until, waits}

desk_is : (settings : SpeakerSettings) (slots : List ℕ) (until : ℕ) (gate : Waiting) (remotes : List (ℕ × SocketAddr)) (desk : DeskState) → remotes ≡ settings.peers.items → until ≡ wait_until settings.wait_for_cache → gate ≡ record { slots = slots; until = until; is_open = false } → desk ≡ record { remotes = remotes; waiting = gate; again = none_again; stopped = None } → desk ≡ desk_of settings slots
desk_is settings slots until gate remotes desk placed late closed new =
    new
    ∙ (ap (λ (r : List (ℕ × SocketAddr)). record { remotes = r; waiting = gate; again = none_again; stopped = None }) placed
    ∙ (ap (λ (w : Waiting). record { remotes = settings.peers.items; waiting = w; again = none_again; stopped = None }) closed
    ∙ ap (λ (u : ℕ). record { remotes = settings.peers.items; waiting = record { slots = slots; until = u; is_open = false }; again = none_again; stopped = None }) late))

pub attends_so : {P : Type 0} (wish : P → ℕ → Wish) (line : P → ℕ → List ℕ) (goes : ℕ → P → P → Type 0) (hears : ℕ → List ℕ → Bool → P → P → Type 0) (Gives : List ℕ → P → Type 0) (settings : SpeakerSettings) (count : ℕ) (result : Result (Unit {0}) AttendFault) (before behind : List ℕ) (old held new : Turns) (slots : List ℕ) (until : ℕ) (gate : Waiting) (remotes : List (ℕ × SocketAddr)) (desk : DeskState) (operators : Option P) (left : Hall (Option P))
    → AreHeldBack (waits settings) slots old held → AreOperatorsOf Gives settings.control operators → remotes ≡ settings.peers.items → until ≡ wait_until settings.wait_for_cache → gate ≡ record { slots = slots; until = until; is_open = false } → desk ≡ record { remotes = remotes; waiting = gate; again = none_again; stopped = None }
    → AttendsTurns (wish_of wish) (line_of line) (λ now. Becomes (goes now)) (λ key octets goes_on. Becomes (hears key octets goes_on)) count result before behind (record { stand = record { served = held; desk = desk }; operators = operators }) left → result ≡ Ok tt → new ≡ left.stand.served
    → AttendsOperators wish line goes hears Gives settings count before behind old new
attends_so wish line goes hears Gives settings count result before behind old held new slots until gate remotes desk operators left holds given placed late closed at takes well leaves =
    record {
      slots = slots;
      held = held;
      holds = holds;
      operators = operators;
      given = given;
      left = left;
      takes = subst
          (λ (d : DeskState). AttendsTurns (wish_of wish) (line_of line) (λ now. Becomes (goes now)) (λ key octets goes_on. Becomes (hears key octets goes_on)) {E = AttendFault} count (Ok tt) before behind (record { stand = record { served = held; desk = d }; operators = operators }) left)
          (desk_is settings slots until gate remotes desk placed late closed at)
          (subst (λ (r : Result (Unit {0}) AttendFault). AttendsTurns (wish_of wish) (line_of line) (λ now. Becomes (goes now)) (λ key octets goes_on. Becomes (hears key octets goes_on)) {E = AttendFault} count r before behind (record { stand = record { served = held; desk = desk }; operators = operators }) left) well takes);
      leaves = leaves;
    }
