-- Each response that a client is told gives the set of its version, since only sets are published.
use Rattle.std.proofs.Common.{◌≡◌, ◌≢◌, ◌⊎◌, ℕ, zero, suc, Bool, true, false, ◌==◌, if◌then◌else◌, List, [], ◌∷◌, ◌++◌, take, Option, Some, None, Ok, Err, inl, inr, sym, subst}
use Rattle.std.proofs.lemmas.Option.{same_Some}
use Rattle.std.specs.List.Sorted.{IsStrictlySortedBy}
use Rattle.net_prefix.specs.PayloadSets.{IsPayloadSet}
use Rattle.net_prefix.specs.declared.payload.Vrp.{Vrp}
use Rattle.rtr_codec.specs.PduSpelling.{Serial_query, Reset_query}
use Rattle.rtr_codec.specs.PduStream.{Item, WholePdu, FaultyPdu, pdus_from}
use Rattle.rtr_codec.proofs.ReadResponses.{response-gives}
use Rattle.rtr_cache.specs.CacheState.{CacheState, client_at}
use Rattle.rtr_cache.specs.CacheTable.{Conn, Shared, offered, place_of}
use Rattle.rtr_cache.specs.ClientHistory.{AnswersOctets, Call, CameUp, Heard, IsRun, IsToldBy, Loaded, Makes, Ticked, Took, Turn, WentDown, Withdrew}
use Rattle.rtr_cache.specs.Telling.{AllLeadToVersions, Alone, AnswersItem, AnswersItems, AnswersReset, AnswersSerial, AreAside, IsNotified, Told, Whole}
use Rattle.vrp_delta.specs.Versions.{Version, is_newest_set, kept_after, kept_versions, next_version, version_of}

-- each version is one of a set
abbrev pub AreOfSets : List Version → Type 0
AreOfSets [] = Unit {0}
AreOfSets (version ∷ older) = IsPayloadSet version.set × AreOfSets older

sets-take : (n : ℕ) (versions : List Version) → AreOfSets versions → AreOfSets (take n versions)
sets-take zero versions sets = tt
sets-take (suc n) [] sets = tt
sets-take (suc n) (version ∷ older) sets = (sets.0, sets-take n older sets.1)

sets_if : (test : Bool) (a b : List Version) → AreOfSets a → AreOfSets b → AreOfSets (if test then a else b)
sets_if true a b h k = h
sets_if false a b h k = k

sets-kept_after : (kept : List Version) (set : List Vrp) → AreOfSets kept → IsPayloadSet set → AreOfSets (kept_after kept set)
sets-kept_after kept set sets is =
    sets_if (is_newest_set kept set) kept (take kept_versions (next_version kept set ∷ kept)) sets (sets-take kept_versions (next_version kept set ∷ kept) (is, sets))

-- only sets are published
sets_as : (old new : Shared) → new ≡ old → AreOfSets old.kept → AreOfSets new.kept
sets_as old new same sets = subst (λ (shared : Shared). AreOfSets shared.kept) (sym same) sets

sets_stay : (old new : CacheState) → new ≡ old → AreOfSets old.shared.kept → AreOfSets new.shared.kept
sets_stay old new same sets = subst (λ (cache : CacheState). AreOfSets cache.shared.kept) (sym same) sets

sets-made : (old : CacheState) (call : Call) (new : CacheState) → AreOfSets old.shared.kept → Makes old call new → AreOfSets new.shared.kept
sets-made old (Loaded set (Ok report)) new sets made =
    sets_as (record old.shared { kept = kept_after old.shared.kept set; withdrawn = false }) new.shared made.0.0 (sets-kept_after old.shared.kept set sets made.2)
sets-made old (Loaded set (Err why)) new sets made = sets_stay old new made.1 sets
sets-made old (Withdrew (Ok report)) new sets made = sets_stay (record old { shared = record old.shared { withdrawn = true } }) new made.0.0 sets
sets-made old (Withdrew (Err why)) new sets made = sets_stay old new made.1 sets
sets-made old (CameUp (Ok report)) new sets made = sets_as old.shared new.shared made.0.7 sets
sets-made old (CameUp (Err why)) new sets made = sets_stay old new made.1 sets
sets-made old (Heard key octets (Ok report)) new sets made = sets_as old.shared new.shared made.0.4 sets
sets-made old (Heard key octets (Err why)) new sets made = sets_stay old new made.1 sets
sets-made old (WentDown key (Ok report)) new sets made = sets_as old.shared new.shared made.0.3 sets
sets-made old (WentDown key (Err why)) new sets made = sets_stay old new made.1 sets
sets-made old (Ticked now (Ok report)) new sets made = sets_as (record old.shared { now = now }) new.shared made.0.1 sets
sets-made old (Ticked now (Err why)) new sets made = sets_stay old new made.1 sets
sets-made old (Took key buf (Ok count) handed) new sets made = sets_as old.shared new.shared made.0.6 sets
sets-made old (Took key buf (Err why) handed) new sets made = sets_stay old new made.1 sets

pub sets-run : (start end : CacheState) (history : List Turn) → AreOfSets start.shared.kept → IsRun start history end → AreOfSets end.shared.kept
sets-run start end [] sets run = sets_stay start end run sets
sets-run start end (turn ∷ earlier) sets run = sets-made turn.found turn.call end (sets-run start turn.found earlier sets run.0) run.1

-- the version of a serial
sets-version_of : (versions : List Version) (serial : ℕ) (found : Version) → AreOfSets versions → version_of versions serial ≡ Some found → IsPayloadSet found.set
sets-version_of [] serial found sets is = absurd (none found is)
  where
    none : (found : Version) → None ≡ Some found → ⊥
    none found e = cc
sets-version_of (version ∷ older) serial found sets is =
    by_serial (version.serial == serial) (sets-version_of older serial found sets.1) is
  where
    by_serial : (test : Bool) → (version_of older serial ≡ Some found → IsPayloadSet found.set) → (if test then Some version else version_of older serial) ≡ Some found → IsPayloadSet found.set
    by_serial true behind e = subst (λ (v : Version). IsPayloadSet v.set) (same_Some version found e) sets.0
    by_serial false behind e = behind e

-- what a client is told
leads_as : (now told : List Told) → now ≡ told → AllLeadToVersions told → AllLeadToVersions now
leads_as now told same leads = subst AllLeadToVersions (sym same) leads

leads-aside : (now : List Told) → AreAside now → AllLeadToVersions now
leads-aside now (inl none) = leads_as now [] none tt
leads-aside now (inr one) = leads_as now (Alone one.0 ∷ []) one.2 (tt, tt)

leads-serial : (shared : Shared) (serial : ℕ) (kept : List Version) (now : List Told) → AreOfSets kept → AnswersSerial shared serial kept now → AllLeadToVersions now
leads-serial shared serial [] now sets answers = leads-aside now answers
leads-serial shared serial (newest ∷ older) now sets (inl aside) = leads-aside now aside
leads-serial shared serial (newest ∷ older) now sets (inr whole) =
    leads_as now (Whole shared.session shared.intervals newest whole.0.set ∷ []) whole.2
    (response-gives shared.session shared.intervals newest whole.0.set (sets-version_of (newest ∷ older) serial whole.0 sets whole.1) sets.0, tt)

empty_set : IsPayloadSet []
unfolding IsStrictlySortedBy
empty_set = tt

leads-reset : (shared : Shared) (kept : List Version) (now : List Told) → AreOfSets kept → AnswersReset shared kept now → AllLeadToVersions now
leads-reset shared [] now sets answers = leads-aside now answers
leads-reset shared (newest ∷ older) now sets (inl aside) = leads-aside now aside
leads-reset shared (newest ∷ older) now sets (inr whole) =
    leads_as now (Whole shared.session shared.intervals newest [] ∷ []) whole (response-gives shared.session shared.intervals newest [] empty_set sets.0, tt)

sets-offered : (shared : Shared) → AreOfSets shared.kept → AreOfSets (offered shared)
sets-offered shared sets = sets_if shared.withdrawn [] shared.kept tt sets

leads-item : (shared : Shared) (item : Item) (now : List Told) → AreOfSets shared.kept → AnswersItem shared item now → AllLeadToVersions now
leads-item shared (WholePdu (Serial_query session serial) octets) now sets answers = leads-serial shared serial (offered shared) now (sets-offered shared sets) answers
leads-item shared (WholePdu Reset_query octets) now sets answers = leads-reset shared (offered shared) now (sets-offered shared sets) answers
leads-item shared (WholePdu content octets) now sets none = leads_as now [] none tt
leads-item shared (FaultyPdu fault octets) now sets none = leads_as now [] none tt

pub leads-append : (told now : List Told) → AllLeadToVersions told → AllLeadToVersions now → AllLeadToVersions (told ++ now)
leads-append [] now h k = k
leads-append (one ∷ more) now h k = (h.0, leads-append more now h.1 k)

leads-items : (shared : Shared) (items : List Item) (now : List Told) → AreOfSets shared.kept → AnswersItems shared items now → AllLeadToVersions now
leads-items shared [] now sets none = leads_as now [] none tt
leads-items shared (item ∷ items) now sets answers =
    leads_as now (answers.0 ++ answers.1) answers.2
    (leads-append answers.0 answers.1 (leads-item shared item answers.0 sets answers.3) (leads-items shared items answers.1 sets answers.4))

leads-octets : (shared : Shared) (client : Option Conn) (octets : List ℕ) (now : List Told) → AreOfSets shared.kept → AnswersOctets shared client octets now → AllLeadToVersions now
leads-octets shared None octets now sets none = leads_as now [] none tt
leads-octets shared (Some conn) octets now sets answers = leads-items shared (pdus_from (place_of conn) conn.unread octets) now sets answers

leads-notified : (shared : Shared) (now : List Told) → IsNotified shared now → AllLeadToVersions now
leads-notified shared now (inl none) = leads_as now [] none tt
leads-notified shared now (inr one) = leads_as now _ one.1 (tt, tt)

leads-heard :
    (key : ℕ) (found : CacheState) (heard : ℕ) (octets : List ℕ) (now : List Told) → AreOfSets found.shared.kept
    → ((heard ≡ key) × AnswersOctets found.shared (client_at found key) octets now) ⊎ ((heard ≢ key) × (now ≡ [])) → AllLeadToVersions now
leads-heard key found heard octets now sets (inl here) = leads-octets found.shared (client_at found key) octets now sets here.1
leads-heard key found heard octets now sets (inr other) = leads_as now [] other.1 tt

-- by one call
pub leads-call : (key : ℕ) (found : CacheState) (call : Call) (now : List Told) → AreOfSets found.shared.kept → IsToldBy key found call now → AllLeadToVersions now
leads-call key found (Loaded set (Ok report)) now sets told = leads-notified (record found.shared { kept = kept_after found.shared.kept set; withdrawn = false }) now told
leads-call key found (Loaded set (Err why)) now sets none = leads_as now [] none tt
leads-call key found (Withdrew result) now sets none = leads_as now [] none tt
leads-call key found (CameUp result) now sets none = leads_as now [] none tt
leads-call key found (Heard heard octets (Ok report)) now sets told = leads-heard key found heard octets now sets told
leads-call key found (Heard heard octets (Err why)) now sets none = leads_as now [] none tt
leads-call key found (WentDown lost result) now sets none = leads_as now [] none tt
leads-call key found (Ticked moment (Ok report)) now sets told = leads-notified found.shared now told
leads-call key found (Ticked moment (Err why)) now sets none = leads_as now [] none tt
leads-call key found (Took taken buf result handed) now sets none = leads_as now [] none tt
