-- One more turn of a served list, and what turns are to its loop.
use Rattle.std.proofs.Common.{◌≡◌, ◌≤◌, ◌+◌, ◌++◌, ◌&&◌, ℕ, Bool, true, false, not, List, [], ◌∷◌, Option, None, Some, is_some, Result, Ok, Err, length, length-append, refl, sym, ap, ◌∙◌, subst, arith}
use Rattle.clocks.proofs.ToldMoments.{told_one_more}
use Rattle.clocks.specs.Moments.{IsNotBefore, NeverGoBack, told_behind}
use Rattle.cache_turns.specs.Turns.{Load, LoadsSet, Step, TakesSteps, TurnAt, Turns, Withdraw}
use Rattle.net_prefix.specs.declared.payload.Vrp.{Vrp}
use Rattle.rtr_cache.specs.CacheState.{tells_serial}
use Rattle.payload_sources.specs.PayloadSources.{SourceTexts}
use Rattle.payload_sources.specs.declared.fault.SourceFile.{SourceFile}
use Rattle.cache_program.specs.Intervals.{is_due_at, since_after}
use Rattle.cache_program.specs.declared.interval.Interval.{Interval}
use Rattle.cache_program.specs.Rereads.{age_told, HandsIn, IsKeptOrRereads, Publishes, Rereads, RereadsFile, RereadsWhenDue, Served, WithdrawsWhere, is_stale, stands}
use Rattle.cache_program.specs.ServedTurns.{AreOfAge, Moment, ServesAll, ServesOnce, ServesSoMany, count_accepted, is_read, nows}
use Rattle.cache_watch.specs.declared.reread.Reread.{Reread}
use Rattle.cache_watch.specs.declared.reread.Reread.TheVariants.{Refused, Same, Unchanged, Published}
use Rattle.cache_watch.specs.declared.telling.FileAge.{FileAge}

-- from when the seconds to the next reading count, behind turns at these moments
abbrev pub since_all : Option ℕ → List Moment → Option ℕ
since_all since [] = since
since_all since (at ∷ moments) = since_all (since_after since at.now at.led) moments

since_more : (since : Option ℕ) (moments : List Moment) (at : Moment) → since_all since (moments ++ at ∷ []) ≡ since_after (since_all since moments) at.now at.led
since_more since [] at = refl
since_more since (moment ∷ moments) at = since_more (since_after since moment.now moment.led) moments at

nows_more : (moments : List Moment) (at : Moment) → nows (moments ++ at ∷ []) ≡ nows moments ++ at.now ∷ []
nows_more [] at = refl
nows_more (moment ∷ moments) at = ap (λ (rest : List ℕ). moment.now ∷ rest) (nows_more moments at)

aged_more : (Ages : FileAge → Type 0) (moments : List Moment) (at : Moment) → AreOfAge Ages moments → Ages at.age → AreOfAge Ages (moments ++ at ∷ [])
aged_more Ages [] at so_far aged = (aged, tt)
aged_more Ages (moment ∷ moments) at so_far aged = (so_far.0, aged_more Ages moments at so_far.1 aged)

serves_more : (Lists : Result SourceTexts SourceFile → Type 0) (seconds since : Option ℕ) (moments : List Moment) (at : Moment) (old mid new : Served) → ServesAll Lists seconds since moments old mid → ServesOnce Lists (is_due_at seconds (since_all since moments) at.now) at mid new → ServesAll Lists seconds since (moments ++ at ∷ []) old new
serves_more Lists seconds since [] at old mid new same once = (new, subst (λ (s : Served). ServesOnce Lists (is_due_at seconds since at.now) at s new) same once, refl)
serves_more Lists seconds since (moment ∷ moments) at old mid new all once =
    (all.0, all.1, serves_more Lists seconds (since_after since moment.now moment.led) moments at all.0 mid new all.2 once)

-- what is done by lists of one kind is done by those of a wider one
due_of : (Lists Others : Result SourceTexts SourceFile → Type 0) → ((sources : Result SourceTexts SourceFile) → Lists sources → Others sources)
    → (is_asked : Bool) (accepts : Option ℕ) (is_due : Bool) (now : ℕ) (age : FileAge) (old : Served) (answer : Option Reread) (new : Served) → RereadsWhenDue Lists is_asked accepts is_due now age old answer new → RereadsWhenDue Others is_asked accepts is_due now age old answer new
due_of Lists Others wider is_asked accepts false now age old answer new none = none
due_of Lists Others wider is_asked accepts true now age old answer new (led, is, sources, given, rereads) = (led, is, sources, wider sources given, rereads)

pub once_of : (Lists Others : Result SourceTexts SourceFile → Type 0) → ((sources : Result SourceTexts SourceFile) → Lists sources → Others sources)
    → (is_due : Bool) (at : Moment) (old new : Served) → ServesOnce Lists is_due at old new → ServesOnce Others is_due at old new
once_of Lists Others wider is_due at old new once = record {
  between = once.between;
  left = once.left;
  rereads = due_of Lists Others wider (is_some at.asked) (count_accepted at.asked old) (is_read at.asked is_due) at.now at.age old at.led once.between once.rereads;
  withdraws = once.withdraws;
  takes = once.takes;
  same = once.same;
}

-- turns were taken at these moments, and the seconds to the next reading count from this one
pub record AreServed (Lists : Result SourceTexts SourceFile → Type 0) (Ages : FileAge → Type 0) (seconds since : Option ℕ) (count : ℕ) (before behind : List ℕ) (moments : List Moment) (old new : Served) : Type 0 where
  pub serves : ServesAll Lists seconds (Some 0) moments old new
  pub aged : AreOfAge Ages moments
  pub since_is : since ≡ since_all (Some 0) moments
  pub told : behind ≡ told_behind (nows moments) before
  pub forward : NeverGoBack before → NeverGoBack behind
  pub counted : length moments ≡ count

pub none_served : (Lists : Result SourceTexts SourceFile → Type 0) (Ages : FileAge → Type 0) (seconds : Option ℕ) (before : List ℕ) (s : Served) → AreServed Lists Ages seconds (Some 0) 0 before before [] s s
none_served Lists Ages seconds before s = record { serves = refl; aged = tt; since_is = refl; told = refl; forward = λ all. all; counted = refl }

one_more : (Lists : Result SourceTexts SourceFile → Type 0) (Ages : FileAge → Type 0) (seconds since : Option ℕ) (count : ℕ) (at : Moment) (before mid behind : List ℕ) (moments : List Moment) (old between new : Served) → AreServed Lists Ages seconds since count before mid moments old between
    → behind ≡ at.now ∷ mid → IsNotBefore at.now mid → Ages at.age → ServesOnce Lists (is_due_at seconds since at.now) at between new → AreServed Lists Ages seconds (since_after since at.now at.led) (count + 1) before behind (moments ++ at ∷ []) old new
one_more Lists Ages seconds since count at before mid behind moments old between new so_far reads later aged once =
    let counted = so_far.counted in
    record {
      serves = serves_more Lists seconds (Some 0) moments at old between new so_far.serves (subst (λ (s : Option ℕ). ServesOnce Lists (is_due_at seconds s at.now) at between new) so_far.since_is once);
      aged = aged_more Ages moments at so_far.aged aged;
      since_is = ap (λ (s : Option ℕ). since_after s at.now at.led) so_far.since_is ∙ sym (since_more (Some 0) moments at);
      told = reads ∙ ap (λ moments. at.now ∷ moments) so_far.told ∙ sym (told_one_more (nows moments) at.now before) ∙ ap (λ (m : List ℕ). told_behind m before) (sym (nows_more moments at));
      forward = λ all. subst (λ moments. NeverGoBack moments) (sym reads) (later, so_far.forward all);
      counted = omega (arith, length-append moments (at ∷ []), counted);
    }

-- a turn, behind which nothing changes
pub turn_served : (Lists : Result SourceTexts SourceFile → Type 0) (Ages : FileAge → Type 0) (seconds : Option ℕ) (due after : Interval) (count : ℕ) (at : Moment) (before mid behind : List ℕ) (moments : List Moment) (start between new left : Served) → due.seconds ≡ seconds
    → after ≡ record due { since = since_after due.since at.now at.led } → AreServed Lists Ages seconds due.since count before mid moments start between → behind ≡ at.now ∷ mid → IsNotBefore at.now mid → Ages at.age
    → ServesOnce Lists (is_due_at due.seconds due.since at.now) at between new → left ≡ new → AreServed Lists Ages seconds after.since (count + 1) before behind (moments ++ at ∷ []) start left
turn_served Lists Ages seconds due after count at before mid behind moments start between new left told is so_far reads later aged once same =
    let since_is : after.since ≡ since_after due.since at.now at.led = ap (λ (e : Interval). e.since) is in
    let served = subst (λ (s : Option ℕ). ServesOnce Lists (is_due_at s due.since at.now) at between new) told once in
    let more = one_more Lists Ages seconds due.since count at before mid behind moments start between new so_far reads later aged served in
    subst (λ (s : Served). AreServed Lists Ages seconds after.since (count + 1) before behind (moments ++ at ∷ []) start s) (sym same)
    (subst (λ (l : Option ℕ). AreServed Lists Ages seconds l (count + 1) before behind (moments ++ at ∷ []) start new) (sym since_is) more)

-- no more were than so many
pub so_many_served : (Lists : Result SourceTexts SourceFile → Type 0) (Ages : FileAge → Type 0) (Attends : ℕ → List Moment → Type 0) (seconds since : Option ℕ) (count most : ℕ) (before behind : List ℕ) (moments : List Moment) (old new : Served) → AreServed Lists Ages seconds since count before behind moments old new
    → count ≤ most → Attends most moments → ServesSoMany Lists Ages Attends seconds most before behind old new
so_many_served Lists Ages Attends seconds since count most before behind moments old new served bound attends = record {
  moments = moments;
  serves = served.serves;
  aged = served.aged;
  attends = attends;
  told = served.told;
  forward = served.forward;
  few = (let counted = served.counted in omega (arith, counted, bound));
}

-- a set that is handed in is loaded into the loop
loads : (accepts : Option ℕ) (now age : ℕ) (set : List Vrp) (old : Served) (under : ℕ) (new : Served) → HandsIn accepts now age set old under new → LoadsSet set old.turns new.turns
loads accepts now age set old under new handed = record { result = Ok (tells_serial under); loads = handed.makes; same = handed.same }

steps_between : (accepts : Option ℕ) (now age : ℕ) (set : List Vrp) (old : Served) (led : Reread) (new : Served) → Publishes accepts now age set old led new → (steps : List Step) × TakesSteps steps old.turns new.turns
steps_between accepts now age set old (Refused why) new refused = ([], ap (λ (s : Served). s.turns) refused.1)
steps_between accepts now age set old Same new same = (Load set ∷ [], (new.turns, loads accepts now age set old _ new same.2, refl))
steps_between accepts now age set old Unchanged new never = absurd never
steps_between accepts now age set old (Published serial) new published = (Load set ∷ [], (new.turns, loads accepts now age set old serial new published.2, refl))

steps_of_file : (accepts : Option ℕ) (now : ℕ) (age : FileAge) (file : SourceTexts) (old : Served) (led : Reread) (new : Served) → RereadsFile accepts now age file old led new → (steps : List Step) × TakesSteps steps old.turns new.turns
steps_of_file accepts now age file old (Refused why) new refused = ([], ap (λ (s : Served). s.turns) refused.1)
steps_of_file accepts now age file old Same new same = steps_between accepts now (age_told new.written age) same.0 old Same new same.2
steps_of_file accepts now age file old Unchanged new never = absurd never
steps_of_file accepts now age file old (Published serial) new published = steps_between accepts now (age_told new.written age) published.0 old (Published serial) new published.2

steps_reread : (accepts : Option ℕ) (now : ℕ) (age : FileAge) (sources : Result SourceTexts SourceFile) (old : Served) (led : Reread) (new : Served) → Rereads accepts now age sources old led new → (steps : List Step) × TakesSteps steps old.turns new.turns
steps_reread accepts now age (Err file) old led new none = ([], ap (λ (s : Served). s.turns) none.1)
steps_reread accepts now age (Ok file) old led new rereads = steps_of_file accepts now age file old led new rereads

steps_looked : (stands : Bool) (accepts : Option ℕ) (now : ℕ) (age : FileAge) (sources : Result SourceTexts SourceFile) (old : Served) (led : Reread) (new : Served) → IsKeptOrRereads stands accepts now age sources old led new → (steps : List Step) × TakesSteps steps old.turns new.turns
steps_looked true accepts now age sources old led new kept = ([], ap (λ (s : Served). s.turns) kept.1)
steps_looked false accepts now age sources old led new rereads = steps_reread accepts now age sources old led new rereads

steps_due : (Lists : Result SourceTexts SourceFile → Type 0) (is_asked : Bool) (accepts : Option ℕ) (is_due : Bool) (now : ℕ) (age : FileAge) (old : Served) (answer : Option Reread) (new : Served) → RereadsWhenDue Lists is_asked accepts is_due now age old answer new → (steps : List Step) × TakesSteps steps old.turns new.turns
steps_due Lists is_asked accepts false now age old answer new none = ([], ap (λ (s : Served). s.turns) none.1)
steps_due Lists is_asked accepts true now age old answer new rereads = steps_looked (stands age rereads.2 old && not is_asked) accepts now age rereads.2 old rereads.0 new rereads.4

steps_then : (first second : List Step) (old mid new : Turns) → TakesSteps first old mid → TakesSteps second mid new → TakesSteps (first ++ second) old new
steps_then [] second old mid new same taken = subst (λ (t : Turns). TakesSteps second t new) same taken
steps_then (step ∷ first) second old mid new takes taken = (takes.0, takes.1, steps_then first second takes.0 mid new takes.2 taken)

-- what is too old is withdrawn
steps_withdrawn : (is : Bool) (old new : Served) → WithdrawsWhere is old new → (steps : List Step) × TakesSteps steps old.turns new.turns
steps_withdrawn false old new same = ([], ap (λ (s : Served). s.turns) same)
steps_withdrawn true old new withdraws = (Withdraw ∷ [], (new.turns, withdraws.0, refl))

-- turns of a served list are turns of its loop, with sets that are loaded and withdrawn between them
pub served_are_steps : (Lists : Result SourceTexts SourceFile → Type 0) (seconds since : Option ℕ) (moments : List Moment) (old new : Served) → ServesAll Lists seconds since moments old new → (steps : List Step) × TakesSteps steps old.turns new.turns
served_are_steps Lists seconds since [] old new same = ([], ap (λ (s : Served). s.turns) same)
served_are_steps Lists seconds since (at ∷ moments) old new all =
    let once = all.1 in
    let read = steps_due Lists (is_some at.asked) (count_accepted at.asked old) (is_read at.asked (is_due_at seconds since at.now)) at.now at.age old at.led once.between once.rereads in
    let withdrawn = steps_withdrawn (is_stale at.now once.between) once.between once.left once.withdraws in
    let before = steps_then read.0 withdrawn.0 old.turns once.between.turns once.left.turns read.1 withdrawn.1 in
    let more = served_are_steps Lists seconds (since_after since at.now at.led) moments all.0 new all.2 in
    ((read.0 ++ withdrawn.0) ++ TurnAt at.now ∷ more.0, steps_then (read.0 ++ withdrawn.0) (TurnAt at.now ∷ more.0) old.turns once.left.turns new.turns before (all.0.turns, (Ok tt, once.takes), more.1))
