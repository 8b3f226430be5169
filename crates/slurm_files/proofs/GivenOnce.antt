-- The members of an entry give one thing.
use Rattle.std.proofs.Common.{◌≡◌, ◌∙◌, ℕ, Bool, true, false, List, Option, None, Some, Result, Ok, Err, refl, sym, ap, arith}
use Rattle.json.specs.Find.{as_str, get}
use Rattle.json.specs.Json.{Json}
use Rattle.json.proofs.Found.{Some_inj, not_found}
use Rattle.net_prefix.specs.PrefixText.{NamesNone, Writes}
use Rattle.net_prefix.specs.declared.asn.Asn.{Asn}
use Rattle.net_prefix.specs.declared.fault.PrefixFault.{PrefixFault}
use Rattle.net_prefix.specs.declared.fault.PrefixFault.TheVariants.{LenOver32, HostBits, Text, MaxRange, Cut}
use Rattle.net_prefix.specs.declared.prefix.Prefix.{Prefix}
use Rattle.net_prefix.proofs.Prefixes.{same_prefix}
use Rattle.net_prefix.proofs.Unique.{writes_one}
use Rattle.vrp_csv.specs.PayloadRows.{has_colon}
use Rattle.slurm_files.specs.GivenMembers.{HasMember, HasText, IsAsn, IsMax, IsNumber, IsPrefix}
use Rattle.slurm_files.specs.MemberNames.{name_of}
use Rattle.slurm_files.specs.declared.fault.Cause.{Cause}
use Rattle.slurm_files.specs.declared.fault.Cause.TheVariants as cause
use Rattle.slurm_files.specs.declared.given.GivenPrefix.{GivenPrefix}
use Rattle.slurm_files.specs.declared.given.GivenPrefix.TheVariants as given
use Rattle.slurm_files.specs.declared.member.Member.{Member}
use Rattle.slurm_files.specs.declared.member.Member.TheVariants as named

-- a member has one value
member_one : (m : Member) (entry v w : Json) → HasMember m entry v → HasMember m entry w → v ≡ w
member_one m entry v w h k = Some_inj v w (sym h ∙ k)

-- and isn't missing then
there : {P : Type 0} (m : Member) (entry v : Json) → get (name_of m) entry ≡ None → HasMember m entry v → P
there m entry v none h = not_found v (sym none ∙ h)

-- a value is one number
number_one : (most : ℕ) (value : Json) (a b : ℕ) → IsNumber most value a → IsNumber most value b → a ≡ b
number_one most value a b (word, is, h) (other, also, k) =
    let same : word ≡ other = Some_inj word other (sym is ∙ also) in
    let here = rw same at h in
    here.2 ∙ sym k.2

-- ---- the AS

-- one value is a number, and isn't one
number_or_none : (entry : Json) (asn : Asn) (fault : Cause) → IsAsn entry (Ok (Some asn)) → IsAsn entry (Err fault) → ⊥
number_or_none entry asn fault (less, value, is, n) (why, other, also, none) =
    let same = member_one named.Asn entry value other is also in
    none asn.0 less (rw same at n)

same_asn : (a b : Asn) → a.0 ≡ b.0 → a ≡ b
same_asn a b same = λ i. record { 0 = same i }

one_asn : (entry : Json) (a b : Asn) → IsAsn entry (Ok (Some a)) → IsAsn entry (Ok (Some b)) → a ≡ b
one_asn entry a b (less, value, is, n) (small, other, also, m) =
    let same = member_one named.Asn entry value other is also in
    same_asn a b (number_one 10 other a.0 b.0 (rw same at n) m)

-- an entry gives one AS, or none, or what is no AS number
pub asn_one : (entry : Json) (r s : Result (Option Asn) Cause) → IsAsn entry r → IsAsn entry s → r ≡ s
asn_one entry (Ok None) (Ok None) h k = refl
asn_one entry (Ok None) (Ok (Some b)) h (small, value, is, m) = there named.Asn entry value h is
asn_one entry (Ok None) (Err g) h (why, value, is, none) = there named.Asn entry value h is
asn_one entry (Ok (Some a)) (Ok None) (less, value, is, n) k = there named.Asn entry value k is
asn_one entry (Ok (Some a)) (Ok (Some b)) h k = ap (λ (x : Asn). Ok (Some x)) (one_asn entry a b h k)
asn_one entry (Ok (Some a)) (Err g) h k = absurd (number_or_none entry a g h k)
asn_one entry (Err f) (Ok None) (why, value, is, none) k = there named.Asn entry value k is
asn_one entry (Err f) (Ok (Some b)) h k = absurd (number_or_none entry b f k h)
asn_one entry (Err f) (Err g) h k = ap (λ (x : Cause). Err x) (h.0 ∙ sym k.0)

-- ---- the maximum length

max_or_none : (entry : Json) (n : ℕ) (fault : Cause) → IsMax entry (Ok (Some n)) → IsMax entry (Err fault) → ⊥
max_or_none entry n fault (value, is, written) (why, other, also, none) =
    let same = member_one named.MaxPrefixLength entry value other is also in
    none n (rw same at written)

one_max : (entry : Json) (n m : ℕ) → IsMax entry (Ok (Some n)) → IsMax entry (Ok (Some m)) → n ≡ m
one_max entry n m (value, is, written) (other, also, k) =
    let same = member_one named.MaxPrefixLength entry value other is also in
    number_one 2 other n m (rw same at written) k

-- an entry gives one maximum length, or none, or what is none
pub max_one : (entry : Json) (r s : Result (Option ℕ) Cause) → IsMax entry r → IsMax entry s → r ≡ s
max_one entry (Ok None) (Ok None) h k = refl
max_one entry (Ok None) (Ok (Some m)) h (value, is, n) = there named.MaxPrefixLength entry value h is
max_one entry (Ok None) (Err g) h (why, value, is, none) = there named.MaxPrefixLength entry value h is
max_one entry (Ok (Some n)) (Ok None) (value, is, written) k = there named.MaxPrefixLength entry value k is
max_one entry (Ok (Some n)) (Ok (Some m)) h k = ap (λ (x : ℕ). Ok (Some x)) (one_max entry n m h k)
max_one entry (Ok (Some n)) (Err g) h k = absurd (max_or_none entry n g h k)
max_one entry (Err f) (Ok None) (why, value, is, none) k = there named.MaxPrefixLength entry value k is
max_one entry (Err f) (Ok (Some m)) h k = absurd (max_or_none entry m f k h)
max_one entry (Err f) (Err g) h k = ap (λ (x : Cause). Err x) (h.0 ∙ sym k.0)

-- ---- the prefix

text_one : (entry : Json) (c d : Bool) (v w : List ℕ) → HasText entry c v → HasText entry d w → (v ≡ w) × (c ≡ d)
text_one entry c d v w (value, is, text, colon) (other, also, word, mark) =
    let same = member_one named.Prefix entry value other is also in
    let here : as_str other ≡ Some v = rw same at text in
    let one : v ≡ w = Some_inj v w (sym here ∙ word) in
    (one, sym colon ∙ ap has_colon one ∙ mark)

-- a text with a colon, and one without
no_colon : {P : Type 0} (entry : Json) (v w : List ℕ) → HasText entry true v → HasText entry false w → P
no_colon entry v w h k = absurd (cc (text_one entry true false v w h k).1)

-- a text, and none
no_text : {P : Type 0} (entry : Json) (c : Bool) (m : Member) (word : List ℕ) → HasText entry c word → IsPrefix entry (Err (cause.NotText m)) → P
no_text entry c m word (value, is, text, colon) (which, other, also, none) =
    let same = member_one named.Prefix entry value other is also in
    let here : as_str other ≡ Some word = rw same at text in
    not_found word (sym none ∙ here)

-- a text names a prefix, or none
named_or_not : (word : List ℕ) (p : Prefix) (fault : PrefixFault) → Writes word p.bits p.len → NamesNone word fault → ⊥
named_or_not word p LenOver32 h (bits, len, k, long) =
    let same = writes_one word p.bits p.len bits len h k in
    omega (arith, same.1, long, p.short)
named_or_not word p HostBits h (bits, len, k, (short, some)) =
    let same = writes_one word p.bits p.len bits len h k in
    some (rw (same.0, same.1) at p.no_host_bits)
named_or_not word p Text h none = none p.bits p.len h
named_or_not word p MaxRange h k = k
named_or_not word p Cut h k = k

-- for one reason
reason_one : (word : List ℕ) (f g : PrefixFault) → NamesNone word f → NamesNone word g → f ≡ g
reason_one word LenOver32 LenOver32 h k = refl
reason_one word LenOver32 HostBits (bits, len, h, long) (other, size, k, (short, some)) =
    let same = writes_one word bits len other size h k in
    absurd (omega (arith, same.1, long, short))
reason_one word LenOver32 Text (bits, len, h, long) none = absurd (none bits len h)
reason_one word LenOver32 MaxRange h k = absurd k
reason_one word LenOver32 Cut h k = absurd k
reason_one word HostBits LenOver32 (bits, len, h, (short, some)) (other, size, k, long) =
    let same = writes_one word bits len other size h k in
    absurd (omega (arith, same.1, long, short))
reason_one word HostBits HostBits h k = refl
reason_one word HostBits Text (bits, len, h, (short, some)) none = absurd (none bits len h)
reason_one word HostBits MaxRange h k = absurd k
reason_one word HostBits Cut h k = absurd k
reason_one word Text LenOver32 none (other, size, k, long) = absurd (none other size k)
reason_one word Text HostBits none (other, size, k, (short, some)) = absurd (none other size k)
reason_one word Text Text h k = refl
reason_one word Text MaxRange h k = absurd k
reason_one word Text Cut h k = absurd k
reason_one word MaxRange g h k = absurd h
reason_one word Cut g h k = absurd h

one_prefix : (entry : Json) (p q : Prefix) → IsPrefix entry (Ok (given.Ipv4 p)) → IsPrefix entry (Ok (given.Ipv4 q)) → p ≡ q
one_prefix entry p q (v, text, writes) (w, also, k) =
    let here = rw (text_one entry false false v w text also).0 at writes in
    let same = writes_one w p.bits p.len q.bits q.len here k in
    same_prefix p q same.0 same.1

prefix_or_none : (entry : Json) (p : Prefix) (fault : PrefixFault) → IsPrefix entry (Ok (given.Ipv4 p)) → IsPrefix entry (Err (cause.Prefix fault)) → ⊥
prefix_or_none entry p fault (v, text, writes) (w, also, k) =
    named_or_not w p fault (rw (text_one entry false false v w text also).0 at writes) k

one_reason : (entry : Json) (f g : PrefixFault) → IsPrefix entry (Err (cause.Prefix f)) → IsPrefix entry (Err (cause.Prefix g)) → f ≡ g
one_reason entry f g (v, text, none) (w, also, k) =
    reason_one w f g (rw (text_one entry false false v w text also).0 at none) k

-- an entry gives one prefix, or none, or what is none for one reason
pub prefix_one : (entry : Json) (r s : Result GivenPrefix Cause) → IsPrefix entry r → IsPrefix entry s → r ≡ s
prefix_one e (Ok given.None) (Ok given.None) h k = refl
prefix_one e (Ok given.None) (Ok given.Ipv6) h (w, (value, is, text, colon)) = there named.Prefix e value h is
prefix_one e (Ok given.None) (Ok (given.Ipv4 q)) h (w, (value, is, text, colon), writes) = there named.Prefix e value h is
prefix_one e (Ok given.None) (Err (cause.Prefix g)) h (w, (value, is, text, colon), none) = there named.Prefix e value h is
prefix_one e (Ok given.None) (Err (cause.NotText m)) h (which, value, is, none) = there named.Prefix e value h is
prefix_one e (Ok given.None) (Err other) h k = absurd k
prefix_one e (Ok given.Ipv6) (Ok given.None) (w, (value, is, text, colon)) k = there named.Prefix e value k is
prefix_one e (Ok given.Ipv6) (Ok given.Ipv6) h k = refl
prefix_one e (Ok given.Ipv6) (Ok (given.Ipv4 q)) (v, text) (w, also, writes) = no_colon e v w text also
prefix_one e (Ok given.Ipv6) (Err (cause.Prefix g)) (v, text) (w, also, none) = no_colon e v w text also
prefix_one e (Ok given.Ipv6) (Err (cause.NotText m)) (v, text) k = no_text e true m v text k
prefix_one e (Ok given.Ipv6) (Err other) h k = absurd k
prefix_one e (Ok (given.Ipv4 p)) (Ok given.None) (w, (value, is, text, colon), writes) k = there named.Prefix e value k is
prefix_one e (Ok (given.Ipv4 p)) (Ok given.Ipv6) (v, text, writes) (w, also) = no_colon e w v also text
prefix_one e (Ok (given.Ipv4 p)) (Ok (given.Ipv4 q)) h k = ap (λ (x : Prefix). Ok (given.Ipv4 x)) (one_prefix e p q h k)
prefix_one e (Ok (given.Ipv4 p)) (Err (cause.Prefix g)) h k = absurd (prefix_or_none e p g h k)
prefix_one e (Ok (given.Ipv4 p)) (Err (cause.NotText m)) (v, text, writes) k = no_text e false m v text k
prefix_one e (Ok (given.Ipv4 p)) (Err other) h k = absurd k
prefix_one e (Err (cause.Prefix f)) (Ok given.None) (w, (value, is, text, colon), none) k = there named.Prefix e value k is
prefix_one e (Err (cause.Prefix f)) (Ok given.Ipv6) (v, text, none) (w, also) = no_colon e w v also text
prefix_one e (Err (cause.Prefix f)) (Ok (given.Ipv4 q)) h k = absurd (prefix_or_none e q f k h)
prefix_one e (Err (cause.Prefix f)) (Err (cause.Prefix g)) h k = ap (λ (x : PrefixFault). Err (cause.Prefix x)) (one_reason e f g h k)
prefix_one e (Err (cause.Prefix f)) (Err (cause.NotText m)) (v, text, none) k = no_text e false m v text k
prefix_one e (Err (cause.Prefix f)) (Err other) h k = absurd k
prefix_one e (Err (cause.NotText m)) (Ok given.None) (which, value, is, none) k = there named.Prefix e value k is
prefix_one e (Err (cause.NotText m)) (Ok given.Ipv6) h (w, also) = no_text e true m w also h
prefix_one e (Err (cause.NotText m)) (Ok (given.Ipv4 q)) h (w, also, writes) = no_text e false m w also h
prefix_one e (Err (cause.NotText m)) (Err (cause.Prefix g)) h (w, also, none) = no_text e false m w also h
prefix_one e (Err (cause.NotText m)) (Err (cause.NotText n)) h k = ap (λ (x : Member). Err (cause.NotText x)) (h.0 ∙ sym k.0)
prefix_one e (Err (cause.NotText m)) (Err other) h k = absurd k
prefix_one e (Err other) s h k = absurd h
