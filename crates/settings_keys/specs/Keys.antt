-- What stands at a key of settings (own): the members of a table are those that its text spells, as TOML has it, and a key
-- tells a value where what stands there is of its kind.
use Rattle.std.specs.Prelude.{◌≡◌, ◌<◌, ◌^◌, ℕ, Bool, List, pos, Option, Some, None, Result, Ok, Err, IsUtf8}
use Rattle.std.specs.Net.Grammar.{IsSocketText}
use Rattle.std.specs.declared.net.socket_addr.SocketAddr.{SocketAddr as Address}
use Rattle.toml.specs.Data.{Data, Members, as_str, as_integer, as_bool}
use Rattle.toml.specs.Parse.{parse_document}
use Rattle.settings_keys.specs.declared.cause.SettingsFault.{SettingsFault}
use Rattle.settings_keys.specs.declared.cause.SettingsFault.TheVariants.{Settings, NoMemory}

-- the octets spell this table
abbrev pub IsTableOf : List ℕ → Members → Type 0
IsTableOf octets table = IsUtf8 octets × (parse_document octets ≡ Some table)

-- a text
abbrev pub IsText : Data → List ℕ → Type 0
IsText found text = as_str found ≡ Some text

-- a number of 32 bits
abbrev pub IsNumber : Data → ℕ → Type 0
IsNumber found number = (as_integer found ≡ Some (pos number)) × (number < 2 ^ 32)

-- yes or no
abbrev pub IsYesOrNo : Data → Bool → Type 0
IsYesOrNo found is_on = as_bool found ≡ Some is_on

-- a text that spells this
abbrev pub IsSpelled : {A : Type 0} → (List ℕ → A → Type 0) → Data → A → Type 0
IsSpelled Spells found value = (text : List ℕ) × IsText found text × Spells text value

-- the text of an address and a port
abbrev pub IsAddress : Data → Address → Type 0
IsAddress found address = IsSpelled IsSocketText found address

-- a key that has to be there tells this
abbrev pub IsTold : {A : Type 0} → (Data → A → Type 0) → Option Data → A → Type 0
IsTold Is None value = ⊥
IsTold Is (Some found) value = Is found value

-- a key tells this, or isn't there
abbrev pub IsToldIfThere : {A : Type 0} → (Data → A → Type 0) → Option Data → Option A → Type 0
IsToldIfThere Is None told = told ≡ None
IsToldIfThere Is (Some found) None = ⊥
IsToldIfThere Is (Some found) (Some value) = Is found value

-- a key tells this, or isn't there, and this is the usual value
abbrev pub IsToldOrUsual : {A : Type 0} → (Data → A → Type 0) → A → Option Data → A → Type 0
IsToldOrUsual Is usual None value = value ≡ usual
IsToldOrUsual Is usual (Some found) value = Is found value

-- the answer is what is told, and the settings are at fault just where nothing is
abbrev pub Answers : {A : Type 0} → (A → Type 0) → Result A SettingsFault → Type 0
Answers Tells (Ok value) = Tells value
Answers {A} Tells (Err (Settings place cause)) = (value : A) → ¬ (Tells value)
Answers Tells (Err NoMemory) = ⊥

-- the same of a call that takes memory: for want of it nothing is said
abbrev pub AnswersInMemory : {A : Type 0} → (A → Type 0) → Result A SettingsFault → Type 0
AnswersInMemory Tells (Ok value) = Tells value
AnswersInMemory {A} Tells (Err (Settings place cause)) = (value : A) → ¬ (Tells value)
AnswersInMemory Tells (Err NoMemory) = Unit {0}
