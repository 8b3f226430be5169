-- What the members of an entry give (RFC 8416 sections 3.3 and 3.4). A member is the only one of its name.
use Rattle.std.specs.Prelude.{◌≡◌, ◌<◌, ◌^◌, ℕ, Bool, true, false, List, Option, None, Some, Result, Ok, Err}
use Rattle.json.specs.Find.{as_number, as_str, get}
use Rattle.json.specs.Json.{Json, null, boolean, number, string, array, object}
use Rattle.net_prefix.specs.PrefixText.{NamesNone, Writes}
use Rattle.net_prefix.specs.declared.asn.Asn as declared_asn
use Rattle.vrp_csv.specs.PayloadRows.{WritesNumber, has_colon}
use Rattle.slurm_files.specs.MemberNames.{name_of}
use Rattle.slurm_files.specs.declared.fault.Cause.{Cause}
use Rattle.slurm_files.specs.declared.fault.Cause.TheVariants as cause
use Rattle.slurm_files.specs.declared.given.GivenPrefix.{GivenPrefix}
use Rattle.slurm_files.specs.declared.given.GivenPrefix.TheVariants as given
use Rattle.slurm_files.specs.declared.member.Member.{Member}
use Rattle.slurm_files.specs.declared.member.Member.TheVariants as named

-- the member has this value
abbrev pub HasMember : Member → Json → Json → Type 0
HasMember member entry value = get (name_of member) entry ≡ Some value

-- the value is a number that is written in so many digits at most
abbrev pub IsNumber : ℕ → Json → ℕ → Type 0
IsNumber most value n = (word : List ℕ) × (as_number value ≡ Some word) × WritesNumber most word n

-- the AS that an entry gives, if it gives one
abbrev pub IsAsn : Json → Result (Option declared_asn.Asn) Cause → Type 0
IsAsn entry (Ok None) = get (name_of named.Asn) entry ≡ None
IsAsn entry (Ok (Some asn)) =
    (asn.0 < 2 ^ 32) × (value : Json) × HasMember named.Asn entry value × IsNumber 10 value asn.0
IsAsn entry (Err fault) =
    (fault ≡ cause.Asn) × (value : Json) × HasMember named.Asn entry value
    × ((asn : ℕ) → asn < 2 ^ 32 → ¬ (IsNumber 10 value asn))

-- the member has this text, which has a colon, as only IPv6 prefixes have, or not
abbrev pub HasText : Json → Bool → List ℕ → Type 0
HasText entry colon word =
    (value : Json) × HasMember named.Prefix entry value × (as_str value ≡ Some word) × (has_colon word ≡ colon)

-- the prefix that an entry gives, if it gives one, or why the member is none
abbrev pub IsPrefix : Json → Result GivenPrefix Cause → Type 0
IsPrefix entry (Ok given.None) = get (name_of named.Prefix) entry ≡ None
IsPrefix entry (Ok given.Ipv6) = (word : List ℕ) × HasText entry true word
IsPrefix entry (Ok (given.Ipv4 prefix)) = (word : List ℕ) × HasText entry false word × Writes word prefix.bits prefix.len
IsPrefix entry (Err (cause.Prefix fault)) = (word : List ℕ) × HasText entry false word × NamesNone word fault
IsPrefix entry (Err (cause.NotText member)) =
    (member ≡ named.Prefix) × (value : Json) × HasMember named.Prefix entry value × (as_str value ≡ None)
IsPrefix entry (Err cause.NotObject) = ⊥
IsPrefix entry (Err (cause.UnknownMember place)) = ⊥
IsPrefix entry (Err (cause.SecondMember place)) = ⊥
IsPrefix entry (Err (cause.Missing member)) = ⊥
IsPrefix entry (Err (cause.NotArray member)) = ⊥
IsPrefix entry (Err cause.Version) = ⊥
IsPrefix entry (Err cause.Asn) = ⊥
IsPrefix entry (Err cause.MaxPrefixLength) = ⊥
IsPrefix entry (Err cause.EmptyFilter) = ⊥
IsPrefix entry (Err cause.TooMany) = ⊥

-- the maximum length that an entry gives, if it gives one, in one or two digits
abbrev pub IsMax : Json → Result (Option ℕ) Cause → Type 0
IsMax entry (Ok None) = get (name_of named.MaxPrefixLength) entry ≡ None
IsMax entry (Ok (Some max_len)) = (value : Json) × HasMember named.MaxPrefixLength entry value × IsNumber 2 value max_len
IsMax entry (Err fault) =
    (fault ≡ cause.MaxPrefixLength) × (value : Json) × HasMember named.MaxPrefixLength entry value
    × ((max_len : ℕ) → ¬ (IsNumber 2 value max_len))

-- whether there is such a value, which is a text
abbrev pub text_if_any : Member → Option Json → Result Bool Cause
text_if_any member None = Ok false
text_if_any member (Some null) = Err (cause.NotText member)
text_if_any member (Some (boolean b)) = Err (cause.NotText member)
text_if_any member (Some (number s)) = Err (cause.NotText member)
text_if_any member (Some (string s)) = Ok true
text_if_any member (Some (array js)) = Err (cause.NotText member)
text_if_any member (Some (object ms)) = Err (cause.NotText member)

-- whether an entry gives a text under this name
abbrev pub given_text : Member → Json → Result Bool Cause
given_text member entry = text_if_any member (get (name_of member) entry)
