-- The entries of a SLURM file (RFC 8416 sections 3.3 and 3.4).
use Rattle.std.specs.Prelude.{◌≡◌, ℕ, Bool, true, false, List, [], ◌∷◌, Option, None, Some, Result, Ok, Err, unwrap_or}
use Rattle.json.specs.Json.{Json}
use Rattle.net_prefix.specs.MaxLengths.{IsNoMaxLength}
use Rattle.net_prefix.specs.declared.asn.Asn as declared_asn
use Rattle.net_prefix.specs.declared.prefix.Prefix as declared
use Rattle.local_exceptions.specs.declared.filter.Filter.TheVariants as filter
use Rattle.slurm_files.specs.GivenMembers.{IsAsn, IsMax, IsPrefix, given_text}
use Rattle.slurm_files.specs.MemberNames.{object_fault}
use Rattle.slurm_files.specs.declared.entry.Entry.{Entry}
use Rattle.slurm_files.specs.declared.entry.Entry.TheVariants.{Filter, Assertion, Ipv6, Bgpsec}
use Rattle.slurm_files.specs.declared.fault.Cause.{Cause}
use Rattle.slurm_files.specs.declared.fault.Cause.TheVariants as cause
use Rattle.slurm_files.specs.declared.given.GivenPrefix.{GivenPrefix}
use Rattle.slurm_files.specs.declared.given.GivenPrefix.TheVariants as given
use Rattle.slurm_files.specs.declared.member.Member.{Member}
use Rattle.slurm_files.specs.declared.member.Member.TheVariants as named
use Rattle.slurm_files.specs.declared.member.Part.{Part}
use Rattle.slurm_files.specs.declared.member.Part.TheVariants as part

-- the members that an entry of an array may have
abbrev pub entry_members : Part → List Member
entry_members part.PrefixFilters = named.Prefix ∷ named.Asn ∷ named.Comment ∷ []
entry_members part.BgpsecFilters = named.Asn ∷ named.Ski ∷ named.Comment ∷ []
entry_members part.PrefixAssertions = named.Asn ∷ named.Prefix ∷ named.MaxPrefixLength ∷ named.Comment ∷ []
entry_members part.BgpsecAssertions = named.Asn ∷ named.Ski ∷ named.RouterPublicKey ∷ named.Comment ∷ []

-- the filter of this prefix and this AS, of which there is one
abbrev pub filter_entry : GivenPrefix → Option declared_asn.Asn → Result Entry Cause
filter_entry given.None None = Err cause.EmptyFilter
filter_entry given.None (Some asn) = Ok (Filter (filter.As asn))
filter_entry (given.Ipv4 prefix) None = Ok (Filter (filter.Prefix prefix))
filter_entry (given.Ipv4 prefix) (Some asn) = Ok (Filter (filter.Both prefix asn))
filter_entry given.Ipv6 asn = Ok Ipv6

-- what a filter of prefixes says, by its prefix, its AS and its comment: their faults come in this order
abbrev pub prefix_filter : Result GivenPrefix Cause → Result (Option declared_asn.Asn) Cause → Result Bool Cause → Result Entry Cause
prefix_filter (Err fault) asn comment = Err fault
prefix_filter (Ok prefix) (Err fault) comment = Err fault
prefix_filter (Ok prefix) (Ok asn) (Err fault) = Err fault
prefix_filter (Ok prefix) (Ok asn) (Ok comment) = filter_entry prefix asn

-- a filter of keys matches by an AS or a key identifier
abbrev pub key_entry : Option declared_asn.Asn → Bool → Result Entry Cause
key_entry None false = Err cause.EmptyFilter
key_entry None true = Ok Bgpsec
key_entry (Some asn) ski = Ok Bgpsec

abbrev pub key_filter : Result (Option declared_asn.Asn) Cause → Result Bool Cause → Result Bool Cause → Result Entry Cause
key_filter (Err fault) ski comment = Err fault
key_filter (Ok asn) (Err fault) comment = Err fault
key_filter (Ok asn) (Ok ski) (Err fault) = Err fault
key_filter (Ok asn) (Ok ski) (Ok comment) = key_entry asn ski

-- the assertion of this AS and prefix, whose maximum length is the prefix length where none is given
abbrev pub IsPayload : declared_asn.Asn → declared.Prefix → Option ℕ → Result Entry Cause → Type 0
IsPayload asn prefix max_len (Ok (Assertion payload)) =
    (payload.prefix ≡ prefix) × (payload.max_len ≡ unwrap_or max_len prefix.len) × (payload.asn ≡ asn)
IsPayload asn prefix max_len (Ok (Filter f)) = ⊥
IsPayload asn prefix max_len (Ok Ipv6) = ⊥
IsPayload asn prefix max_len (Ok Bgpsec) = ⊥
IsPayload asn prefix max_len (Err fault) = (fault ≡ cause.MaxPrefixLength) × IsNoMaxLength prefix.len (unwrap_or max_len prefix.len)

-- of an IPv6 prefix the maximum length isn't looked at
abbrev pub AssertsPrefix : declared_asn.Asn → GivenPrefix → Result (Option ℕ) Cause → Result Entry Cause → Type 0
AssertsPrefix asn given.None max_len answer = answer ≡ Err (cause.Missing named.Prefix)
AssertsPrefix asn given.Ipv6 max_len answer = answer ≡ Ok Ipv6
AssertsPrefix asn (given.Ipv4 prefix) (Err fault) answer = answer ≡ Err fault
AssertsPrefix asn (given.Ipv4 prefix) (Ok max_len) answer = IsPayload asn prefix max_len answer

-- what an assertion of a prefix says, by its AS, its prefix, its comment and its maximum length: their faults come in
-- this order
abbrev pub Asserts : Result (Option declared_asn.Asn) Cause → Result GivenPrefix Cause → Result (Option ℕ) Cause → Result Bool Cause → Result Entry Cause → Type 0
Asserts (Err fault) prefix max_len comment answer = answer ≡ Err fault
Asserts (Ok None) prefix max_len comment answer = answer ≡ Err (cause.Missing named.Asn)
Asserts (Ok (Some asn)) (Err fault) max_len comment answer = answer ≡ Err fault
Asserts (Ok (Some asn)) (Ok prefix) max_len (Err fault) answer = answer ≡ Err fault
Asserts (Ok (Some asn)) (Ok prefix) max_len (Ok comment) answer = AssertsPrefix asn prefix max_len answer

-- what an assertion of a key says: its AS, its key identifier and its key are there
abbrev pub key_assertion : Result (Option declared_asn.Asn) Cause → Result Bool Cause → Result Bool Cause → Result Bool Cause → Result Entry Cause
key_assertion (Err fault) ski key comment = Err fault
key_assertion (Ok None) ski key comment = Err (cause.Missing named.Asn)
key_assertion (Ok (Some asn)) (Err fault) key comment = Err fault
key_assertion (Ok (Some asn)) (Ok false) key comment = Err (cause.Missing named.Ski)
key_assertion (Ok (Some asn)) (Ok true) (Err fault) comment = Err fault
key_assertion (Ok (Some asn)) (Ok true) (Ok false) comment = Err (cause.Missing named.RouterPublicKey)
key_assertion (Ok (Some asn)) (Ok true) (Ok true) (Err fault) = Err fault
key_assertion (Ok (Some asn)) (Ok true) (Ok true) (Ok comment) = Ok Bgpsec

-- what the members of an entry say
abbrev pub AreSaid : Part → Json → Result Entry Cause → Type 0
AreSaid part.PrefixFilters entry answer =
    (prefix : Result GivenPrefix Cause) × IsPrefix entry prefix × (asn : Result (Option declared_asn.Asn) Cause) × IsAsn entry asn
    × (answer ≡ prefix_filter prefix asn (given_text named.Comment entry))
AreSaid part.BgpsecFilters entry answer =
    (asn : Result (Option declared_asn.Asn) Cause) × IsAsn entry asn
    × (answer ≡ key_filter asn (given_text named.Ski entry) (given_text named.Comment entry))
AreSaid part.PrefixAssertions entry answer =
    (asn : Result (Option declared_asn.Asn) Cause) × IsAsn entry asn × (prefix : Result GivenPrefix Cause) × IsPrefix entry prefix
    × (max_len : Result (Option ℕ) Cause) × IsMax entry max_len
    × Asserts asn prefix max_len (given_text named.Comment entry) answer
AreSaid part.BgpsecAssertions entry answer =
    (asn : Result (Option declared_asn.Asn) Cause) × IsAsn entry asn
    × (answer ≡ key_assertion asn (given_text named.Ski entry) (given_text named.RouterPublicKey entry) (given_text named.Comment entry))

-- a fault of an object, if there is one, and else what is said
abbrev pub Judged : Option Cause → Result Entry Cause → Type 0 → Type 0
Judged (Some fault) answer said = answer ≡ Err fault
Judged None answer said = said

-- what an entry of this array says, or its first fault
abbrev pub IsEntry : Part → Json → Result Entry Cause → Type 0
IsEntry part entry answer = Judged (object_fault (entry_members part) entry) answer (AreSaid part entry answer)
