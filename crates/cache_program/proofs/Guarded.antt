-- What is served behind each moment is guarded.
use Rattle.std.proofs.Common.{◌≡◌, ◌⊎◌, ◌&&◌, inl, inr, ℕ, Bool, true, false, not, List, [], ◌∷◌, Option, None, Some, Result, Ok, Err, is_some, refl, sym, ap, subst, ◌∙◌}
use Rattle.std.proofs.lemmas.Bool.{false≢true}
use Rattle.cache_turns.proofs.Keeping.{turn_keeps, withdrawing_keeps}
use Rattle.list_guards.proofs.Passing.{passes}
use Rattle.list_guards.specs.Guarding.{HasEnough, HasRoom, guard_fault}
use Rattle.list_guards.specs.declared.Guards.{Guards}
use Rattle.net_prefix.specs.declared.payload.Vrp.{Vrp}
use Rattle.rtr_cache.specs.CacheTable.{Shared}
use Rattle.wires.specs.Wires.{WireState}
use Rattle.cache_desk.specs.Desks.{DeskState, Hearing}
use Rattle.cache_desk.specs.declared.reading.Reading.{Reading}
use Rattle.control_lines.specs.declared.talk.Wish.{Wish}
use Rattle.cache_settings.specs.declared.settings.CacheSettings.{CacheSettings}
use Rattle.cache_turns.specs.Turns.{Turns}
use Rattle.payload_sources.specs.PayloadSources.{SourceTexts}
use Rattle.payload_sources.specs.declared.fault.SourceFile.{SourceFile}
use Rattle.cache_program.proofs.Attending.{all_taken, closed_desk}
use Rattle.cache_program.proofs.Begun.{first_is_newest_set}
use Rattle.cache_program.proofs.Newest.{newest_set-kept_after}
use Rattle.cache_program.specs.Intervals.{is_due_at, since_after}
use Rattle.cache_program.specs.AttendedTurns.{AttendsOperators, AttendsTurns}
use Rattle.cache_program.specs.Rereads.{age_told, HandsIn, IsKept, IsKeptOrRereads, KeepsCount, Publishes, Rereads, RereadsFile, RereadsWhenDue, Served, WithdrawsWhere, is_stale, newest_set, served_set, stands, versions}
use Rattle.cache_program.specs.ServedTurns.{IsBegun, IsServed, Moment, NobodyAsks, ServesAll, ServesOnce, count_accepted, is_read}
use Rattle.cache_watch.specs.declared.reread.ListFault.{ListFault}
use Rattle.cache_watch.specs.declared.reread.ListFault.TheVariants.{NoFile}
use Rattle.cache_watch.specs.declared.reread.Reread.{Reread}
use Rattle.cache_watch.specs.declared.reread.Reread.TheVariants.{Refused, Same, Unchanged, Published}
use Rattle.cache_watch.specs.declared.telling.FileAge.{FileAge}

-- a set has as many payloads as are wanted, and no more than may be
abbrev pub IsWithin : Guards → List Vrp → Type 0
IsWithin guards set = HasEnough guards set × HasRoom guards set

-- so what is served does, or an operator has accepted it, where one may
abbrev pub IsWell : Bool → Guards → Served → Type 0
IsWell may guards s = ((may ≡ true) × (s.accepted ≡ true)) ⊎ IsWithin guards (served_set s)

-- the guards stay, and what is served is well if it was
record Stays (may : Bool) (old new : Served) : Type 0 where
  pub guards : new.guards ≡ old.guards
  pub well : IsWell may old.guards old → IsWell may old.guards new

stays_same : (may : Bool) (old new : Served) → new ≡ old → Stays may old new
stays_same may old new same = record {
  guards = ap (λ (s : Served). s.guards) same;
  well = λ well. subst (λ (s : Served). IsWell may old.guards s) (sym same) well;
}

-- what the guards let pass does
within : (guards : Guards) (served next : List Vrp) → guard_fault guards served next ≡ None → IsWithin guards next
within guards served next none = let all = passes guards served next none in (all.0, all.1)

handed_set : (accepts : Option ℕ) (now age : ℕ) (set : List Vrp) (old : Served) (under : ℕ) (new : Served) → HandsIn accepts now age set old under new → served_set new ≡ set
handed_set accepts now age set old under new handed =
    ap (λ (shared : Shared). newest_set shared.kept) handed.makes.0.0 ∙ newest_set-kept_after (versions old) set

well_handed : (may : Bool) (accepts : Option ℕ) (now age : ℕ) (set : List Vrp) (old : Served) (under : ℕ) (new : Served) → (is_some accepts ≡ true → may ≡ true) → HandsIn accepts now age set old under new → IsWell may old.guards new
well_handed may (Some refused) now age set old under new allowed handed = inl (allowed refl, handed.accepted)
well_handed may None now age set old under new allowed handed =
    inr (subst (λ (s : List Vrp). IsWithin old.guards s) (sym (handed_set None now age set old under new handed)) (within old.guards (served_set old) set handed.is_let_in.passes))

-- a refused list leaves what is served
stays_refused : (may : Bool) (why : ListFault) (old new : Served) → KeepsCount why old new → Stays may old new
stays_refused may why old new keeps = record {
  guards = ap (λ (s : Served). s.guards) keeps;
  well = λ well. subst (λ (s : Served). IsWell may old.guards s) (sym keeps) well;
}

stays_handed : (may : Bool) (accepts : Option ℕ) (now age : ℕ) (set : List Vrp) (old : Served) (under : ℕ) (new : Served) → (is_some accepts ≡ true → may ≡ true) → HandsIn accepts now age set old under new → Stays may old new
stays_handed may accepts now age set old under new allowed handed = record { guards = handed.guards; well = λ before. well_handed may accepts now age set old under new allowed handed }

stays_published : (may : Bool) (accepts : Option ℕ) (now age : ℕ) (set : List Vrp) (old : Served) (led : Reread) (new : Served) → (is_some accepts ≡ true → may ≡ true) → Publishes accepts now age set old led new → Stays may old new
stays_published may accepts now age set old (Refused why) new allowed refused = stays_refused may why old new refused.1
stays_published may accepts now age set old Same new allowed same = stays_handed may accepts now age set old _ new allowed same.2
stays_published may accepts now age set old Unchanged new allowed never = absurd never
stays_published may accepts now age set old (Published serial) new allowed published = stays_handed may accepts now age set old serial new allowed published.2

stays_by_file : (may : Bool) (accepts : Option ℕ) (now : ℕ) (age : FileAge) (file : SourceTexts) (old : Served) (led : Reread) (new : Served) → (is_some accepts ≡ true → may ≡ true) → RereadsFile accepts now age file old led new → Stays may old new
stays_by_file may accepts now age file old (Refused why) new allowed refused = stays_refused may why old new refused.1
stays_by_file may accepts now age file old Same new allowed same = stays_published may accepts now (age_told new.written age) same.0 old Same new allowed same.2
stays_by_file may accepts now age file old Unchanged new allowed never = absurd never
stays_by_file may accepts now age file old (Published serial) new allowed published = stays_published may accepts now (age_told new.written age) published.0 old (Published serial) new allowed published.2

stays_reread : (may : Bool) (accepts : Option ℕ) (now : ℕ) (age : FileAge) (sources : Result SourceTexts SourceFile) (old : Served) (led : Reread) (new : Served) → (is_some accepts ≡ true → may ≡ true) → Rereads accepts now age sources old led new → Stays may old new
stays_reread may accepts now age (Err file) old led new allowed none = stays_refused may (NoFile file) old new none.1
stays_reread may accepts now age (Ok file) old led new allowed rereads = stays_by_file may accepts now age file old led new allowed rereads

-- so does what was read last
stays_kept : (may : Bool) (now : ℕ) (age : FileAge) (old new : Served) → IsKept now age old new → Stays may old new
stays_kept may now age old new kept = record {
  guards = ap (λ (s : Served). s.guards) kept;
  well = λ well. subst (λ (s : Served). IsWell may old.guards s) (sym kept) well;
}

stays_looked : (may stands : Bool) (accepts : Option ℕ) (now : ℕ) (age : FileAge) (sources : Result SourceTexts SourceFile) (old : Served) (led : Reread) (new : Served) → (is_some accepts ≡ true → may ≡ true) → IsKeptOrRereads stands accepts now age sources old led new → Stays may old new
stays_looked may true accepts now age sources old led new allowed kept = stays_kept may now age old new kept.1
stays_looked may false accepts now age sources old led new allowed rereads = stays_reread may accepts now age sources old led new allowed rereads

stays_due : (Lists : Result SourceTexts SourceFile → Type 0) (may is_asked : Bool) (accepts : Option ℕ) (is_due : Bool) (now : ℕ) (age : FileAge) (old : Served) (answer : Option Reread) (new : Served) → (is_some accepts ≡ true → may ≡ true) → RereadsWhenDue Lists is_asked accepts is_due now age old answer new → Stays may old new
stays_due Lists may is_asked accepts false now age old answer new allowed none = stays_same may old new none.1
stays_due Lists may is_asked accepts true now age old answer new allowed rereads = stays_looked may (stands age rereads.2 old && not is_asked) accepts now age rereads.2 old rereads.0 new allowed rereads.4

-- it is so as long as the set stays, and who accepted it
well_behind : (may : Bool) (guards : Guards) (old new : Served) → served_set new ≡ served_set old → new.accepted ≡ old.accepted → IsWell may guards old → IsWell may guards new
well_behind may guards old new set accepted (inl is) = inl (is.0, accepted ∙ is.1)
well_behind may guards old new set accepted (inr enough) = inr (subst (λ (s : List Vrp). IsWithin guards s) (sym set) enough)

-- a set that is withdrawn is kept
record Keeps (old new : Served) : Type 0 where
  pub guards : new.guards ≡ old.guards
  pub set : served_set new ≡ served_set old
  pub accepted : new.accepted ≡ old.accepted

withdrawn_keeps : (is : Bool) (old new : Served) → WithdrawsWhere is old new → Keeps old new
withdrawn_keeps false old new same = record { guards = ap (λ (s : Served). s.guards) same; set = ap served_set same; accepted = ap (λ (s : Served). s.accepted) same }
withdrawn_keeps true old new withdraws = record {
  guards = ap (λ (s : Served). s.guards) withdraws.1;
  set = ap newest_set (withdrawing_keeps old.turns new.turns withdraws.0);
  accepted = ap (λ (s : Served). s.accepted) withdraws.1;
}

-- a turn publishes nothing
stays_once : (Lists : Result SourceTexts SourceFile → Type 0) (may : Bool) (is_due : Bool) (at : Moment) (old new : Served) → (is_some (count_accepted at.asked old) ≡ true → may ≡ true) → ServesOnce Lists is_due at old new → Stays may old new
stays_once Lists may is_due at old new allowed once =
    let between = stays_due Lists may (is_some at.asked) (count_accepted at.asked old) (is_read at.asked is_due) at.now at.age old at.led once.between allowed once.rereads in
    let left = withdrawn_keeps (is_stale at.now once.between) once.between once.left once.withdraws in
    let kept = (turn_keeps at.now once.left.turns new.turns (Ok tt) once.takes).0 in
    record {
      guards = ap (λ (s : Served). s.guards) once.same ∙ left.guards ∙ between.guards;
      well = λ before. well_behind may old.guards once.between new (ap newest_set kept ∙ left.set) (ap (λ (s : Served). s.accepted) once.same ∙ left.accepted) (between.well before);
    }

-- where nobody may ask for a reading nobody accepts one
only_where_one_may : (may : Bool) (asked : Option Reading) (served : Served) → (may ≡ false → asked ≡ None) → is_some (count_accepted asked served) ≡ true → may ≡ true
only_where_one_may true asked served none accepted = refl
only_where_one_may false asked served none accepted = absurd (false≢true (sym (ap (λ (a : Option Reading). is_some (count_accepted a served)) (none refl)) ∙ accepted))

-- behind all moments
all_well : (Lists : Result SourceTexts SourceFile → Type 0) (seconds : Option ℕ) (may : Bool) (since : Option ℕ) (moments : List Moment) (guards : Guards) (old new : Served) → ServesAll Lists seconds since moments old new
    → (may ≡ false → NobodyAsks moments) → old.guards ≡ guards → IsWell may guards old → IsWell may guards new
all_well Lists seconds may since [] guards old new same nobody is well = subst (λ (s : Served). IsWell may guards s) (sym same) well
all_well Lists seconds may since (at ∷ moments) guards old new all nobody is well =
    let stays = stays_once Lists may (is_due_at seconds since at.now) at old all.0 (only_where_one_may may at.asked old (λ off. (nobody off).0)) all.1 in
    all_well Lists seconds may (since_after since at.now at.led) moments guards all.0 new all.2 (λ off. (nobody off).1) (stays.guards ∙ is)
    (subst (λ (g : Guards). IsWell may g all.0) is (stays.well (subst (λ (g : Guards). IsWell may g old) (sym is) well)))

first_within : (Lists : Result SourceTexts SourceFile → Type 0) (Ages : FileAge → Type 0) (Wires : WireState → Type 0) (Seconds : ℕ → Type 0) (settings : CacheSettings) (served : Served) → IsBegun Lists Ages Wires Seconds settings served → IsWithin settings.guards (served_set served)
first_within Lists Ages Wires Seconds settings served begun =
    let newest = first_is_newest_set Lists settings.guards begun.cache.shared.kept served.serial begun.set served.written served.stamps begun.first in
    subst (λ (set : List Vrp). IsWithin settings.guards set)
    (newest ∙ sym (ap (λ (turns : Turns). newest_set turns.cache.shared.kept) begun.turns))
    (within settings.guards [] begun.set begun.first.passes.1)

module _ {P : Type 0} (wish : P → ℕ → Wish) (line : P → ℕ → List ℕ) (goes : ℕ → P → P → Type 0) (hears : Hearing P) (Gives : List ℕ → P → Type 0) where
  -- where the settings have no path for operators nobody asks
  nobody_at : (settings : CacheSettings) (count : ℕ) (moments : List Moment) → AttendsOperators wish line goes hears Gives settings count moments → is_some settings.control ≡ false → NobodyAsks moments
  nobody_at settings count moments is off =
      (all_taken wish line goes hears is.left count moments (subst (λ (d : Option (DeskState P)). AttendsTurns wish line goes hears d is.left count moments) (closed_desk Gives settings.control is.desk is.opened off) is.takes)).1

  pub served_well : (Lists : Result SourceTexts SourceFile → Type 0) (Ages : FileAge → Type 0) (Wires : WireState → Type 0) (Seconds : ℕ → Type 0) (settings : CacheSettings) (count : ℕ) (before behind : List ℕ) (served : Served)
      → IsServed Lists Ages Wires Seconds (AttendsOperators wish line goes hears Gives) settings count before behind served → IsWell (is_some settings.control) settings.guards served
  served_well Lists Ages Wires Seconds settings count before behind served is =
      all_well Lists settings.reread (is_some settings.control) (Some 0) is.takes.moments settings.guards is.begun served is.takes.serves (nobody_at settings count is.takes.moments is.takes.attends) is.begins.guards (inr (first_within Lists Ages Wires Seconds settings is.begun is.begins))

-- and of each count alone
enough_of : (may : Bool) (guards : Guards) (s : Served) → IsWell may guards s → ((may ≡ true) × (s.accepted ≡ true)) ⊎ HasEnough guards (served_set s)
enough_of may guards s (inl accepted) = inl accepted
enough_of may guards s (inr is) = inr is.0

room_of : (may : Bool) (guards : Guards) (s : Served) → IsWell may guards s → ((may ≡ true) × (s.accepted ≡ true)) ⊎ HasRoom guards (served_set s)
room_of may guards s (inl accepted) = inl accepted
room_of may guards s (inr is) = inr is.1

module _ {P : Type 0} (wish : P → ℕ → Wish) (line : P → ℕ → List ℕ) (goes : ℕ → P → P → Type 0) (hears : Hearing P) (Gives : List ℕ → P → Type 0) where
  pub served_enough : (Lists : Result SourceTexts SourceFile → Type 0) (Ages : FileAge → Type 0) (Wires : WireState → Type 0) (Seconds : ℕ → Type 0) (settings : CacheSettings) (count : ℕ) (before behind : List ℕ) (served : Served)
      → IsServed Lists Ages Wires Seconds (AttendsOperators wish line goes hears Gives) settings count before behind served → ((is_some settings.control ≡ true) × (served.accepted ≡ true)) ⊎ HasEnough settings.guards (served_set served)
  served_enough Lists Ages Wires Seconds settings count before behind served is =
      enough_of (is_some settings.control) settings.guards served (served_well wish line goes hears Gives Lists Ages Wires Seconds settings count before behind served is)

  pub served_room : (Lists : Result SourceTexts SourceFile → Type 0) (Ages : FileAge → Type 0) (Wires : WireState → Type 0) (Seconds : ℕ → Type 0) (settings : CacheSettings) (count : ℕ) (before behind : List ℕ) (served : Served)
      → IsServed Lists Ages Wires Seconds (AttendsOperators wish line goes hears Gives) settings count before behind served → ((is_some settings.control ≡ true) × (served.accepted ≡ true)) ⊎ HasRoom settings.guards (served_set served)
  served_room Lists Ages Wires Seconds settings count before behind served is =
      room_of (is_some settings.control) settings.guards served (served_well wish line goes hears Gives Lists Ages Wires Seconds settings count before behind served is)
