-- A served list before its first turn, and one that was served.
use Rattle.std.proofs.Common.{◌≡◌, ℕ, Bool, true, false, List, [], ◌∷◌, Option, Some, Result, Ok, is_some, length, sym, subst, ap, ◌∙◌}
use Rattle.std.specs.declared.net.socket_addr.SocketAddr.{SocketAddr}
use Rattle.cache_turns.proofs.Listening.{listens_on}
use Rattle.cache_turns.specs.Turns.{Turns}
use Rattle.list_guards.specs.declared.Guards.{Guards}
use Rattle.net_prefix.specs.declared.payload.Vrp.{Vrp}
use Rattle.vrp_delta.specs.Versions.{Version}
use Rattle.vrp_json.specs.declared.written.Written.{Written}
use Rattle.wires.specs.Wires.{WireState, nothing_told}
use Rattle.cache_settings.specs.declared.settings.CacheSettings.{CacheSettings}
use Rattle.payload_sources.specs.PayloadSources.{SourceTexts}
use Rattle.payload_sources.specs.declared.fault.SourceFile.{SourceFile}
use Rattle.payload_sources.specs.declared.opening.SourceStamps.{SourceStamps}
use Rattle.cache_program.proofs.Newest.{newest_set-kept_after}
use Rattle.cache_program.proofs.ServedTurns.{served_are_steps}
use Rattle.cache_program.proofs.SystemFiles.{ages_as}
use Rattle.cache_program.specs.FirstList.{IsFirst}
use Rattle.cache_program.specs.Opened.{AgesBy, SystemAges}
use Rattle.cache_program.specs.Intervals.{is_due_at, since_after}
use Rattle.cache_program.specs.Rereads.{IsNewest, RereadsWhenDue, Served, newest_set}
use Rattle.cache_program.specs.ServedTurns.{AreOfAge, IsBegun, IsServed, Moment, ServesAll, ServesOnce, ServesSoMany, count_accepted, is_read}
use Rattle.cache_watch.specs.declared.reread.Reread.{Reread}
use Rattle.cache_watch.specs.declared.telling.FileAge.{FileAge}

-- the set that is published first is that of the newest version
pub first_is_newest_set : (Lists : Result SourceTexts SourceFile → Type 0) (guards : Guards) (kept : List Version) (serial : ℕ) (set : List Vrp) (written : Written) (stamps : Option SourceStamps) → IsFirst Lists guards kept serial set written stamps → set ≡ newest_set kept
first_is_newest_set Lists guards kept serial set written stamps first = sym (ap newest_set first.kept_is ∙ newest_set-kept_after [] set)

pub first_is_newest : (Lists : Result SourceTexts SourceFile → Type 0) (guards : Guards) (kept : List Version) (serial : ℕ) (set : List Vrp) (written : Written) (stamps : Option SourceStamps) → IsFirst Lists guards kept serial set written stamps → IsNewest kept serial (length set)
first_is_newest Lists guards kept serial set written stamps first = record {
  serial_is = first.serial_is;
  payloads_are = ap (λ (payloads : List Vrp). length payloads) (first_is_newest_set Lists guards kept serial set written stamps first);
}

-- it began, and then so many turns were taken
pub is_served : (Lists : Result SourceTexts SourceFile → Type 0) (Ages : FileAge → Type 0) (Wires : WireState → Type 0) (Seconds : ℕ → Type 0) (Attends : CacheSettings → ℕ → List Moment → Type 0) (settings : CacheSettings) (count start : ℕ) (before mid behind : List ℕ) (begun served : Served)
    → mid ≡ start ∷ before → IsBegun Lists Ages Wires Seconds settings begun → ServesSoMany Lists Ages (Attends settings) settings.reread count mid behind begun served → IsServed Lists Ages Wires Seconds Attends settings count before behind served
is_served Lists Ages Wires Seconds Attends settings count start before mid behind begun served read begins takes = record {
  begun = begun;
  start = start;
  begins = begins;
  takes = subst (λ (b : List ℕ). ServesSoMany Lists Ages (Attends settings) settings.reread count b behind begun served) read takes;
}

-- operators may be said otherwise
pub attended_as : (Lists : Result SourceTexts SourceFile → Type 0) (Ages : FileAge → Type 0) (Attends Attended : ℕ → List Moment → Type 0) (reread : Option ℕ) (count : ℕ) (before behind : List ℕ) (old new : Served) → ((moments : List Moment) → Attends count moments → Attended count moments)
    → ServesSoMany Lists Ages Attends reread count before behind old new → ServesSoMany Lists Ages Attended reread count before behind old new
attended_as Lists Ages Attends Attended reread count before behind old new so serves =
    record { moments = serves.moments; serves = serves.serves; aged = serves.aged; attends = so serves.moments serves.attends; told = serves.told; forward = serves.forward; few = serves.few }

-- the same, as others say what the system has answered
due_as : (Lists Others : Result SourceTexts SourceFile → Type 0) → ((sources : Result SourceTexts SourceFile) → Lists sources → Others sources) → (is_asked : Bool) (accepts : Option ℕ) (is_due : Bool) (now : ℕ) (age : FileAge) (old : Served) (answer : Option Reread) (new : Served) → RereadsWhenDue Lists is_asked accepts is_due now age old answer new → RereadsWhenDue Others is_asked accepts is_due now age old answer new
due_as Lists Others so is_asked accepts false now age old answer new none = none
due_as Lists Others so is_asked accepts true now age old answer new rereads = (rereads.0, rereads.1, rereads.2, so rereads.2 rereads.3, rereads.4)

once_as : (Lists Others : Result SourceTexts SourceFile → Type 0) → ((sources : Result SourceTexts SourceFile) → Lists sources → Others sources) → (is_due : Bool) (at : Moment) (old new : Served) → ServesOnce Lists is_due at old new → ServesOnce Others is_due at old new
once_as Lists Others so is_due at old new once = record {
  between = once.between;
  left = once.left;
  rereads = due_as Lists Others so (is_some at.asked) (count_accepted at.asked old) (is_read at.asked is_due) at.now at.age old at.led once.between once.rereads;
  withdraws = once.withdraws;
  takes = once.takes;
  same = once.same;
}

all_as : (Lists Others : Result SourceTexts SourceFile → Type 0) → ((sources : Result SourceTexts SourceFile) → Lists sources → Others sources) → (seconds since : Option ℕ) (moments : List Moment) (old new : Served) → ServesAll Lists seconds since moments old new → ServesAll Others seconds since moments old new
all_as Lists Others so seconds since [] old new same = same
all_as Lists Others so seconds since (at ∷ moments) old new all =
    (all.0, once_as Lists Others so (is_due_at seconds since at.now) at old all.0 all.1, all_as Lists Others so seconds (since_after since at.now at.led) moments all.0 new all.2)

aged_as : (Ages Told : FileAge → Type 0) → ((age : FileAge) → Ages age → Told age) → (moments : List Moment) → AreOfAge Ages moments → AreOfAge Told moments
aged_as Ages Told so [] aged = tt
aged_as Ages Told so (at ∷ moments) aged = (so at.age aged.0, aged_as Ages Told so moments aged.1)

pub served_as : (Lists Others : Result SourceTexts SourceFile → Type 0) (Ages Aged : FileAge → Type 0) (Wires Opened : WireState → Type 0) (Seconds Told : ℕ → Type 0) (Attends Attended : CacheSettings → ℕ → List Moment → Type 0) (settings : CacheSettings) (count : ℕ) (before behind : List ℕ) (served : Served)
    → IsServed Lists Ages Wires Seconds Attends settings count before behind served
    → ((sources : Result SourceTexts SourceFile) → Lists sources → Others sources) → ((age : FileAge) → Ages age → Aged age) → ((wire : WireState) → Wires wire → Opened wire) → ((second : ℕ) → Seconds second → Told second)
    → ((moments : List Moment) → Attends settings count moments → Attended settings count moments)
    → IsServed Others Aged Opened Told Attended settings count before behind served
served_as Lists Others Ages Aged Wires Opened Seconds Told Attends Attended settings count before behind served is lists ages wires seconds attends =
    let begun = is.begins in
    record {
      begun = is.begun;
      start = is.start;
      begins = record {
        cache = begun.cache;
        wire = begun.wire;
        second = begun.second;
        set = begun.set;
        age = begun.age;
        told = seconds begun.second begun.told;
        of_settings = begun.of_settings;
        first = record { sources = begun.first.sources; given = lists (Ok begun.first.sources) begun.first.given; passes = begun.first.passes; says = begun.first.says; known = begun.first.known; kept_is = begun.first.kept_is; serial_is = begun.first.serial_is };
        payloads = begun.payloads;
        guards = begun.guards;
        accepted = begun.accepted;
        refused = begun.refused;
        read = begun.read;
        answered = ages begun.age begun.answered;
        aged = begun.aged;
        most = begun.most;
        listens = wires begun.wire begun.listens;
        turns = begun.turns;
      };
      takes = record {
        moments = is.takes.moments;
        serves = all_as Lists Others lists settings.reread (Some 0) is.takes.moments is.begun served is.takes.serves;
        aged = aged_as Ages Aged ages is.takes.moments is.takes.aged;
        attends = attends is.takes.moments is.takes.attends;
        told = is.takes.told;
        forward = is.takes.forward;
        few = is.takes.few;
      };
    }

-- what is answered of a file's age is what the system says
pub aged_by_system : (Lists : Result SourceTexts SourceFile → Type 0) (Answered : FileAge → Type 0) (Wires : WireState → Type 0) (Seconds : ℕ → Type 0) (Attends : CacheSettings → ℕ → List Moment → Type 0) (settings : CacheSettings) (count : ℕ) (before behind : List ℕ) (served : Served)
    → IsServed Lists (AgesBy settings.stale Answered) Wires Seconds Attends settings count before behind served → IsServed Lists (SystemAges settings) Wires Seconds Attends settings count before behind served
aged_by_system Lists Answered Wires Seconds Attends settings count before behind served is =
    served_as Lists Lists (AgesBy settings.stale Answered) (SystemAges settings) Wires Wires Seconds Seconds Attends Attends settings count before behind served is (λ sources given. given) (λ age told. ages_as Answered settings.stale age told) (λ wire answered. answered) (λ second told. told)
    (λ moments attends. attends)

-- it listens where it was opened
pub listens_there : (Lists : Result SourceTexts SourceFile → Type 0) (Ages : FileAge → Type 0) (Seconds : ℕ → Type 0) (Attends : CacheSettings → ℕ → List Moment → Type 0) (settings : CacheSettings) (count : ℕ) (before behind : List ℕ) (served : Served) (listens : Option SocketAddr)
    → IsServed Lists Ages (λ wire. wire ≡ nothing_told listens) Seconds Attends settings count before behind served → served.turns.counts.wire.listens ≡ listens
listens_there Lists Ages Seconds Attends settings count before behind served listens is =
    let steps = served_are_steps Lists settings.reread (Some 0) is.takes.moments is.begun served is.takes.serves in
    listens_on steps.0 is.begun.turns served.turns steps.1 ∙ (ap (λ (t : Turns). t.counts.wire.listens) is.begins.turns ∙ ap (λ (w : WireState). w.listens) is.begins.listens)
