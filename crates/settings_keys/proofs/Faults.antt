-- A fault of settings that a call passes on.
use Rattle.std.proofs.Common.{◌≡◌, ℕ, List, true, Bor, Option, None, Some, Result, Ok, Err, is_some, option_map, subst, sym, ◌∙◌}
use Rattle.std.specs.Result.{IsErrAnd}
use Rattle.std.proofs.lemmas.Option.{same_Some}
use Rattle.toml.specs.Data.{Data, Members}
use Rattle.toml.specs.View.{view}
use Rattle.toml.specs.declared.value.Value.{Value}
use Rattle.settings_keys.specs.Keys.{Answers, AnswersInMemory, IsSpelled, IsTableOf, IsText, IsTold, IsToldIfThere}
use Rattle.settings_keys.specs.declared.cause.SettingsFault.{SettingsFault}
use Rattle.settings_keys.specs.declared.cause.SettingsFault.TheVariants.{Settings, NoMemory}
use Rattle.settings_keys.specs.Causes.{IsBad, TellsUnknown, placed}
use Rattle.settings_keys.specs.declared.cause.SettingsPlace.{SettingsPlace}

-- nothing is told
abbrev pub TellsNothing : {A : Type 0} → (A → Type 0) → Type 0
TellsNothing {A} Tells = (value : A) → ¬ (Tells value)

pub at_fault : {B : Type 0} (Needs : B → Type 0) (r : Result B SettingsFault) (fault : SettingsFault) → IsErrAnd r (λ e. e ≡ fault) → IsBad fault → TellsNothing Needs → Answers Needs r
at_fault Needs (Ok value) fault is bad none = absurd is
at_fault Needs (Err (Settings place cause)) fault is bad none = none
at_fault Needs (Err NoMemory) fault is bad none = absurd (subst IsBad (sym is) bad)

pub passes_on : {A B : Type 0} (Tells : A → Type 0) (Needs : B → Type 0) (r : Result B SettingsFault) (fault : SettingsFault) → IsErrAnd r (λ e. e ≡ fault) → Answers Tells (Err fault)
    → (TellsNothing Tells → TellsNothing Needs) → Answers Needs r
passes_on Tells Needs (Ok value) fault is answers leads = absurd is
passes_on Tells Needs (Err (Settings place cause)) (Settings at why) is answers leads = leads answers
passes_on Tells Needs (Err (Settings place cause)) NoMemory is answers leads = absurd answers
passes_on Tells Needs (Err NoMemory) (Settings at why) is answers leads = absurd cc
passes_on Tells Needs (Err NoMemory) NoMemory is answers leads = answers

-- without a text there is none that spells something
pub nothing_spelled : {A : Type 0} (Spells : List ℕ → A → Type 0) (o : Option Data) → TellsNothing (IsTold IsText o) → TellsNothing (IsTold (IsSpelled Spells) o)
nothing_spelled Spells None none value told = told
nothing_spelled Spells (Some found) none value told = none told.0 told.1

-- where the key is there, and tells nothing
pub nothing_if_there : {A : Type 0} (Is : Data → A → Type 0) (r : Option (Bor Value)) (o : Option Data) → option_map (λ v. view v.now) r ≡ o → is_some r ≡ true → TellsNothing (IsTold Is o) → TellsNothing (IsToldIfThere Is o)
nothing_if_there Is None o same there none value told = absurd cc
nothing_if_there Is (Some v) None same there none value told = absurd cc
nothing_if_there Is (Some v) (Some found) same there none None told = told
nothing_if_there Is (Some v) (Some found) same there none (Some value) told = none value told

-- an answer is one of a call that takes memory
pub in_memory : {A : Type 0} (Tells : A → Type 0) (r : Result A SettingsFault) → Answers Tells r → AnswersInMemory Tells r
in_memory Tells (Ok value) answers = answers
in_memory Tells (Err (Settings place cause)) answers = answers
in_memory Tells (Err NoMemory) answers = absurd answers

pub passes_on_in_memory : {A B : Type 0} (Tells : A → Type 0) (Needs : B → Type 0) (r : Result B SettingsFault) (fault : SettingsFault) → IsErrAnd r (λ e. e ≡ fault) → AnswersInMemory Tells (Err fault)
    → (TellsNothing Tells → TellsNothing Needs) → AnswersInMemory Needs r
passes_on_in_memory Tells Needs (Ok value) fault is answers leads = absurd is
passes_on_in_memory Tells Needs (Err (Settings place cause)) (Settings at why) is answers leads = leads answers
passes_on_in_memory Tells Needs (Err (Settings place cause)) NoMemory is answers leads = absurd cc
passes_on_in_memory Tells Needs (Err NoMemory) fault is answers leads = tt

-- memory lacks
pub starves : {B : Type 0} (Needs : B → Type 0) (r : Result B SettingsFault) → IsErrAnd r (λ e. e ≡ NoMemory) → AnswersInMemory Needs r
starves Needs (Ok value) is = absurd is
starves Needs (Err (Settings place cause)) is = absurd cc
starves Needs (Err NoMemory) is = tt

-- what is told in other words
pub in_other_words : {A : Type 0} (Tells Needs : A → Type 0) (r : Result A SettingsFault) → AnswersInMemory Tells r → ((value : A) → Tells value → Needs value) → ((value : A) → Needs value → Tells value) → AnswersInMemory Needs r
in_other_words Tells Needs (Ok value) answers there back = there value answers
in_other_words Tells Needs (Err (Settings place cause)) answers there back = λ value told. answers value (back value told)
in_other_words Tells Needs (Err NoMemory) answers there back = tt

-- a file that is no table, or for which memory lacks
pub unread : {A B : Type 0} (Tells : A → Type 0) (Needs : B → Type 0) (r : Result B SettingsFault) (fault : SettingsFault) → IsErrAnd r (λ e. e ≡ fault) → (IsBad fault → TellsNothing Tells)
    → (TellsNothing Tells → TellsNothing Needs) → AnswersInMemory Needs r
unread Tells Needs (Ok value) fault is none leads = absurd is
unread Tells Needs (Err (Settings place cause)) fault is none leads = leads (none (subst IsBad is tt))
unread Tells Needs (Err NoMemory) fault is none leads = tt

-- what the table of the file tells, the file tells
pub read_as : {A : Type 0} (IsBy : Members → A → Type 0) (octets : List ℕ) (table : Members) (r : Result A SettingsFault) → IsTableOf octets table → AnswersInMemory (IsBy table) r
    → AnswersInMemory (λ value. (t : Members) × IsTableOf octets t × IsBy t value) r
read_as IsBy octets table r is answers =
    in_other_words (IsBy table) _ r answers (λ value told. (table, is, told)) (λ value told. subst (λ (t : Members). IsBy t value) (same_Some _ _ (sym told.1.1 ∙ is.1)) told.2)

-- a key that isn't known: nothing is told where the known ones alone may stand
pub unknown_key : {B : Type 0} (Needs : B → Type 0) (r : Result B SettingsFault) (fault : SettingsFault) (first : Option (List ℕ)) → IsErrAnd r (λ e. e ≡ fault) → TellsUnknown fault first
    → ((value : B) → Needs value → first ≡ None) → AnswersInMemory Needs r
unknown_key Needs (Ok value) fault first is tells leads = absurd is
unknown_key Needs (Err (Settings place cause)) fault None is tells leads = absurd tells
unknown_key Needs (Err (Settings place cause)) fault (Some key) is tells leads = λ value told. (let wrong = leads value told in absurd cc)
unknown_key Needs (Err NoMemory) fault first is tells leads = tt

-- wherever the fault is
pub in_its_place : {B : Type 0} (Needs : B → Type 0) (place : SettingsPlace) (fault : SettingsFault) → AnswersInMemory Needs (Err fault) → AnswersInMemory Needs (Err (placed place fault))
in_its_place Needs place (Settings before cause) none = none
in_its_place Needs place NoMemory none = tt
