-- Reading the list again (own): a list that can't be had, or that a guard refuses, or that is too old, leaves everything as it is but
-- the count that an operator may accept, and any other is published, unless it is the one that is served. Where files have the stamps
-- of those that were read last, these stand, and aren't read. What is too old is withdrawn.
use Rattle.std.specs.Prelude.{◌≡◌, ◌+◌, ◌-◌, ◌&&◌, ◌≢◌, ℕ, Bool, true, false, nat_le, not, List, [], ◌∷◌, Option, Some, None, Result, Ok, Err, IfSome, is_none, is_some, length, ⊤}
use Rattle.list_guards.specs.Guarding.{guard_fault}
use Rattle.list_guards.specs.declared.GuardFault.{GuardFault}
use Rattle.list_guards.specs.declared.Guards.{Guards}
use Rattle.net_prefix.specs.declared.payload.Vrp.{Vrp}
use Rattle.payload_sources.specs.PayloadSources.{IsRefused, IsSetOf, SaysWritten, SourceTexts, same_stamps}
use Rattle.payload_sources.specs.declared.fault.SourceFile.{SourceFile}
use Rattle.payload_sources.specs.declared.opening.SourceStamps.{SourceStamps}
use Rattle.rtr_cache.specs.CacheState.{tells_serial}
use Rattle.rtr_cache.specs.ClientHistory.{Loaded as Loads, Makes}
use Rattle.vrp_delta.specs.Versions.{Version, is_newest_set, newest_serial, serial_after}
use Rattle.cache_turns.specs.Turns.{TakesTurn, Turns, WithdrawsSet}
use Rattle.vrp_json.specs.declared.written.Written.{Written}
use Rattle.vrp_json.specs.declared.written.Written.TheVariants.{Untold, At, Unread}
use Rattle.cache_watch.specs.Outcomes.{count_refused}
use Rattle.cache_watch.specs.declared.telling.FileAge.{FileAge}
use Rattle.wires.specs.declared.fault.LoopFault.{LoopFault}
use Rattle.cache_watch.specs.declared.reread.ListFault.{ListFault}
use Rattle.cache_watch.specs.declared.reread.ListFault.TheVariants.{NoFile, Source, Guard, Old, Other, NoMemory}
use Rattle.cache_watch.specs.declared.reread.Reread.{Reread}
use Rattle.cache_watch.specs.declared.reread.Reread.TheVariants.{Refused, Same, Unchanged, Published}

-- the payloads of the newest version, and none before the first
abbrev pub newest_set : List Version → List Vrp
newest_set [] = []
newest_set (version ∷ older) = version.set

-- a loop and what its cache serves: the newest serial, and how many payloads that version has. Lists have to keep to the
-- guards, and one that could be had was read last at this moment, when it was so many seconds old; whether an operator had the
-- guards set aside for it; how many payloads the list had that was refused when it was read last, where one may accept it; how old one may be to be served, if that is said; when the one that is served says that it was written; and the stamps of its files
pub record Served : Type 0 where
  pub turns : Turns
  pub guards : Guards
  pub serial : ℕ
  pub payloads : ℕ
  pub read : ℕ
  pub accepted : Bool
  pub refused : Option ℕ
  pub age : ℕ
  pub most : Option ℕ
  pub written : Written
  pub stamps : Option SourceStamps

-- they are those of the newest version that is kept
pub record IsNewest (kept : List Version) (serial payloads : ℕ) : Type 0 where
  pub serial_is : serial ≡ newest_serial kept
  pub payloads_are : payloads ≡ length (newest_set kept)

-- and what a guard looks at are these payloads
pub record IsServing (guards : Guards) (kept : List Version) (serial payloads : ℕ) (looked_at : List Vrp) : Type 0 where
  pub newest : IsNewest kept serial payloads
  pub served : is_some guards.max_shrink ≡ true → looked_at ≡ newest_set kept

-- what the cache keeps, the newest version first
abbrev pub versions : Served → List Version
versions served = served.turns.cache.shared.kept

-- the payloads that are served
abbrev pub served_set : Served → List Vrp
served_set served = newest_set (versions served)

-- what a list has to keep to: nothing, where an operator accepts one of so many payloads that was refused
abbrev pub held_to : Option ℕ → Guards → Guards
held_to None guards = guards
held_to (Some refused) guards = record { min_payloads = None; max_payloads = None; max_shrink = None }

-- the set has as many payloads as the list that an operator accepts
abbrev pub IsShown : Option ℕ → List Vrp → Type 0
IsShown accepts set = IfSome accepts (λ refused. length set ≡ refused)

-- why a set isn't served in the place of this one
abbrev pub fault_of_guards : Option ℕ → Served → List Vrp → Option GuardFault
fault_of_guards accepts served set = guard_fault (held_to accepts served.guards) (served_set served) set

-- whether a list of this age is older than it may be
abbrev pub is_older : Option ℕ → ℕ → Bool
is_older None age = false
is_older (Some most) age = not (nat_le age most)

-- one that is isn't taken, unless an operator accepts it
abbrev pub is_too_old : Option ℕ → ℕ → Served → Bool
is_too_old accepts age served = is_none accepts && is_older served.most age

-- how old the one that is served is at a moment, and whether that is too old: not, where an operator accepted it
abbrev pub age_at : ℕ → Served → ℕ
age_at now served = served.age + (now - served.read)

abbrev pub is_stale : ℕ → Served → Bool
is_stale now served = not served.accepted && is_older served.most (age_at now served)

-- a list of so many payloads is refused since it is too old: by so many seconds, where so many may be
abbrev pub IsRefusedAs : Option ℕ → ℕ → List Vrp → Served → ℕ → ℕ → ℕ → Type 0
IsRefusedAs accepts age set served payloads seconds most =
    (is_too_old accepts age served ≡ true) × (served.most ≡ Some most) × (seconds ≡ age) × (payloads ≡ length set)

-- an operator accepts the list that was refused, which had so many payloads, and this one has not as many
abbrev pub IsOther : Option ℕ → List Vrp → ℕ → ℕ → Type 0
IsOther accepts set payloads refused = (accepts ≡ Some refused) × (payloads ≡ length set) × (payloads ≢ refused)

-- so the guards judge the set of the list that the text spells, under the exceptions of the SLURM file where there is one
pub record IsGuarded (accepts : Option ℕ) (sources : SourceTexts) (served : Served) (fault : Option GuardFault) : Type 0 where
  pub set : List Vrp
  pub of_text : IsSetOf sources set
  pub judged : fault_of_guards accepts served set ≡ fault
  pub shown : IsShown accepts set

-- how old a list is whose file was written so long ago: as old as it says, if it does. One that has something for a time that is
-- none counts from its reading
abbrev pub age_told : Written → FileAge → ℕ
age_told Untold file = file.seconds
age_told (At second) file = file.second - second
age_told Unread file = 0

-- the list that the files have isn't too old
abbrev pub IsYoung : Option ℕ → FileAge → SourceTexts → Served → Type 0
IsYoung accepts file sources served = (written : Written) × SaysWritten sources written × (is_too_old accepts (age_told written file) served ≡ false)

-- why the set of files that were opened can't be had: a fault of one, its age, a guard, that an operator accepts another one, or that
-- memory was refused to a set that passed
abbrev pub IsNoList : Option ℕ → FileAge → SourceTexts → Served → ListFault → Type 0
IsNoList accepts file sources served (NoFile which) = ⊥
IsNoList accepts file sources served (Source refused) = IsRefused sources refused
IsNoList accepts file sources served (Old payloads seconds most) =
    (set : List Vrp) × IsSetOf sources set × (written : Written) × SaysWritten sources written × IsRefusedAs accepts (age_told written file) set served payloads seconds most
IsNoList accepts file sources served (Other payloads refused) = (set : List Vrp) × IsSetOf sources set × IsOther accepts set payloads refused
IsNoList accepts file sources served (Guard why) = IsGuarded accepts sources served (Some why) × IsYoung accepts file sources served
IsNoList accepts file sources served NoMemory = IsGuarded accepts sources served None × IsYoung accepts file sources served

-- a set of this age is let in: it isn't too old, the guards let it pass, and it is no other than an operator accepts
pub record IsLetIn (accepts : Option ℕ) (age : ℕ) (set : List Vrp) (served : Served) : Type 0 where
  pub young : is_too_old accepts age served ≡ false
  pub passes : fault_of_guards accepts served set ≡ None
  pub shown : IsShown accepts set

-- the set is handed to the cache, which changes nothing else: what it serves behind that has this serial, and was read at
-- this moment, when it had this age
pub record HandsIn (accepts : Option ℕ) (now age : ℕ) (set : List Vrp) (old : Served) (under : ℕ) (new : Served) : Type 0 where
  pub makes : Makes old.turns.cache (Loads set (Ok (tells_serial under))) new.turns.cache
  pub same : new.turns ≡ record old.turns { cache = new.turns.cache }
  pub guards : new.guards ≡ old.guards
  pub is_let_in : IsLetIn accepts age set old
  pub serial : new.serial ≡ under
  pub payloads : new.payloads ≡ length set
  pub read : new.read ≡ now
  pub accepted : new.accepted ≡ is_some accepts
  pub refused : new.refused ≡ None
  pub aged : new.age ≡ age
  pub most : new.most ≡ old.most

-- why a set isn't handed in: its age, a guard, that an operator accepts another one, or that there is no memory for one that passed
abbrev pub IsKeptOut : Option ℕ → ℕ → List Vrp → Served → ListFault → Type 0
IsKeptOut accepts age set served (NoFile file) = ⊥
IsKeptOut accepts age set served (Source refused) = ⊥
IsKeptOut accepts age set served (Old payloads seconds most) = IsRefusedAs accepts age set served payloads seconds most
IsKeptOut accepts age set served (Guard why) = (fault_of_guards accepts served set ≡ Some why) × (is_too_old accepts age served ≡ false) × IsShown accepts set
IsKeptOut accepts age set served (Other payloads refused) = IsOther accepts set payloads refused
IsKeptOut accepts age set served NoMemory = IsLetIn accepts age set served

-- a list is refused for this, and how many payloads it has is kept, where an operator may accept it
abbrev pub KeepsCount : ListFault → Served → Served → Type 0
KeepsCount why old new = new ≡ record old { refused = count_refused why }

-- what handing in a set has led to: nothing, where it is kept out, but that its count is kept. Where it is the newest
-- one already, the same versions are kept; else it is one more, under the next serial
abbrev pub Publishes : Option ℕ → ℕ → ℕ → List Vrp → Served → Reread → Served → Type 0
Publishes accepts now age set old (Refused why) new = IsKeptOut accepts age set old why × KeepsCount why old new
Publishes accepts now age set old Same new =
    (is_newest_set (versions old) set ≡ true) × (versions new ≡ versions old) × HandsIn accepts now age set old (newest_serial (versions old)) new
Publishes accepts now age set old Unchanged new = ⊥
Publishes accepts now age set old (Published serial) new =
    (is_newest_set (versions old) set ≡ false) × (serial ≡ serial_after (newest_serial (versions old))) × HandsIn accepts now age set old serial new

-- of a set that was handed in it is kept when its list says that it was written, and which stamps its files have
abbrev pub Notes : Written → Option SourceStamps → Reread → Served → Type 0
Notes written stamps (Refused why) new = ⊤
Notes written stamps Same new = (new.written ≡ written) × (new.stamps ≡ stamps)
Notes written stamps Unchanged new = ⊥
Notes written stamps (Published serial) new = (new.written ≡ written) × (new.stamps ≡ stamps)

-- what reading files that were opened has led to: nothing, since their set can't be had, or it was handed in
abbrev pub RereadsFile : Option ℕ → ℕ → FileAge → SourceTexts → Served → Reread → Served → Type 0
RereadsFile accepts now file sources old (Refused why) new = IsNoList accepts file sources old why × KeepsCount why old new
RereadsFile accepts now file sources old Same new =
    (set : List Vrp) × IsSetOf sources set × Publishes accepts now (age_told new.written file) set old Same new × SaysWritten sources new.written × (new.stamps ≡ sources.stamps)
RereadsFile accepts now file sources old Unchanged new = ⊥
RereadsFile accepts now file sources old (Published serial) new =
    (set : List Vrp) × IsSetOf sources set × Publishes accepts now (age_told new.written file) set old (Published serial) new × SaysWritten sources new.written × (new.stamps ≡ sources.stamps)

-- what reading the list again has led to: nothing, where a file couldn't be opened, or what reading the files has
abbrev pub Rereads : Option ℕ → ℕ → FileAge → Result SourceTexts SourceFile → Served → Reread → Served → Type 0
Rereads accepts now age (Err file) old answer new = (answer ≡ Refused (NoFile file)) × KeepsCount (NoFile file) old new
Rereads accepts now age (Ok sources) old answer new = RereadsFile accepts now age sources old answer new

-- files have the stamps of those that the list that is served was read from
abbrev pub are_known : Option SourceStamps → Option SourceStamps → Bool
are_known None known = false
are_known (Some stamps) None = false
are_known (Some stamps) (Some known) = same_stamps stamps known

-- what was read last stands: its files were opened again, each with the stamp that it had then; none of its rows expires; it is
-- served, by leave of the guards; and it isn't too old
abbrev pub stands : FileAge → Result SourceTexts SourceFile → Served → Bool
stands file (Err which) served = false
stands file (Ok sources) served =
    is_none sources.second && are_known sources.stamps served.stamps && not served.accepted && not served.turns.cache.shared.withdrawn && not (is_older served.most (age_told served.written file))

-- then nothing changes: it was there at this moment, so old, and no other one can be accepted
abbrev pub IsKept : ℕ → FileAge → Served → Served → Type 0
IsKept now file old new = new ≡ record old { read = now; refused = None; age = age_told old.written file }

abbrev pub IsKeptOrRereads : Bool → Option ℕ → ℕ → FileAge → Result SourceTexts SourceFile → Served → Reread → Served → Type 0
IsKeptOrRereads true accepts now age sources old led new = (led ≡ Unchanged) × IsKept now age old new
IsKeptOrRereads false accepts now age sources old led new = Rereads accepts now age sources old led new

-- what looking at files that were opened, or couldn't be, has led to: what was read last stands, or they are read again; so they are
-- wherever an operator asks
abbrev pub LooksAt : Bool → Option ℕ → ℕ → FileAge → Result SourceTexts SourceFile → Served → Reread → Served → Type 0
LooksAt is_asked accepts now age sources old led new = IsKeptOrRereads (stands age sources old && not is_asked) accepts now age sources old led new

-- the list is looked at again just where it is due or asked for, and the SLURM file where there is one: they are what the system gives at
-- their paths then
abbrev pub RereadsWhenDue : (Result SourceTexts SourceFile → Type 0) → Bool → Option ℕ → Bool → ℕ → FileAge → Served → Option Reread → Served → Type 0
RereadsWhenDue Lists is_asked accepts false now age old answer new = (answer ≡ None) × (new ≡ old)
RereadsWhenDue Lists is_asked accepts true now age old answer new =
    (led : Reread) × (answer ≡ Some led) × (sources : Result SourceTexts SourceFile) × Lists sources × LooksAt is_asked accepts now age sources old led new

-- a set that is too old is withdrawn, and no other
abbrev pub WithdrawsWhere : Bool → Served → Served → Type 0
WithdrawsWhere false old new = new ≡ old
WithdrawsWhere true old new = WithdrawsSet old.turns new.turns × (new ≡ record old { turns = new.turns })

-- what is done at a moment: the list is read again where it is due or asked for, what is too old is withdrawn, and then a turn is taken
pub record ServesAt (Lists : Result SourceTexts SourceFile → Type 0) (is_asked : Bool) (accepts : Option ℕ) (is_due : Bool) (now : ℕ) (age : FileAge) (old : Served) (answer : Option Reread) (result : Result (Unit {0}) LoopFault) (new : Served) : Type 0 where
  pub between : Served
  pub left : Served
  pub rereads : RereadsWhenDue Lists is_asked accepts is_due now age old answer between
  pub withdraws : WithdrawsWhere (is_stale now between) between left
  pub takes : TakesTurn now left.turns result new.turns
  pub same : new ≡ record left { turns = new.turns }
