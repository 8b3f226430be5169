-- What a SLURM file means is one thing.
use Rattle.std.proofs.Common.{◌≡◌, ◌⊎◌, ◌+◌, ◌∙◌, ℕ, Bool, List, [], ◌∷◌, Option, None, Some, Result, Ok, Err, inl, inr, sym, ap, subst, arith}
use Rattle.std.specs.Str.{IsUtf8}
use Rattle.json.specs.Json.{Json, document}
use Rattle.json.proofs.Found.{Some_inj, not_found}
use Rattle.net_prefix.specs.declared.asn.Asn.{Asn}
use Rattle.net_prefix.specs.declared.payload.Vrp.{Vrp}
use Rattle.net_prefix.specs.declared.prefix.Prefix.{Prefix}
use Rattle.net_prefix.proofs.PayloadSets.{same_payload}
use Rattle.local_exceptions.specs.declared.fault.ExceptionFault.{ExceptionFault}
use Rattle.slurm_files.specs.GivenMembers.{given_text}
use Rattle.slurm_files.specs.MemberNames.{object_fault}
use Rattle.slurm_files.specs.SlurmDocument.{AreTexts, Goes, IsNoJson, IsOfParts, IsSaid, IsSlurm, Reads, ReadsParts, Said, Takes, Then, entry_fault, nothing_said, with_entry}
use Rattle.slurm_files.specs.SlurmEntries.{AreSaid, Asserts, AssertsPrefix, IsEntry, IsPayload, Judged, entry_members, key_assertion, key_filter, prefix_filter}
use Rattle.slurm_files.specs.SlurmParts.{SlurmParts, arrays_of, halves_of, parts_of, with_assertions, with_filters, with_halves}
use Rattle.slurm_files.specs.declared.entry.Entry.{Entry}
use Rattle.slurm_files.specs.declared.entry.Entry.TheVariants.{Assertion}
use Rattle.slurm_files.specs.declared.fault.Cause.{Cause}
use Rattle.slurm_files.specs.declared.fault.SlurmFault.{SlurmFault}
use Rattle.slurm_files.specs.declared.fault.SlurmFault.TheVariants as fault
use Rattle.slurm_files.specs.declared.given.GivenPrefix.{GivenPrefix}
use Rattle.slurm_files.specs.declared.given.GivenPrefix.TheVariants as given
use Rattle.slurm_files.specs.declared.member.Member.TheVariants as named
use Rattle.slurm_files.specs.declared.member.Part.{Part}
use Rattle.slurm_files.specs.declared.member.Part.TheVariants as part
use Rattle.slurm_files.proofs.GivenOnce.{asn_one, max_one, prefix_one}

-- ---- entries

one_payload : (asn : Asn) (p : Prefix) (max_len : Option ℕ) (v w : Vrp) → IsPayload asn p max_len (Ok (Assertion v)) → IsPayload asn p max_len (Ok (Assertion w)) → v ≡ w
one_payload asn p max_len v w (prefix, len, is) (also, size, other) =
    same_payload v w (prefix ∙ sym also) (len ∙ sym size) (ap (λ (a : Asn). a.0) (is ∙ sym other))

payload_or_none : (asn : Asn) (p : Prefix) (max_len : Option ℕ) (v : Vrp) (why : Cause) → IsPayload asn p max_len (Ok (Assertion v)) → IsPayload asn p max_len (Err why) → ⊥
payload_or_none asn p max_len v why (prefix, len, is) (cause, inl short) =
    omega (arith, short, len, ap (λ (q : Prefix). q.len) prefix, v.reaches)
payload_or_none asn p max_len v why (prefix, len, is) (cause, inr long) = omega (arith, long, len, v.short)

payload_one : (asn : Asn) (p : Prefix) (max_len : Option ℕ) (x y : Result Entry Cause) → IsPayload asn p max_len x → IsPayload asn p max_len y → x ≡ y
payload_one asn p max_len (Ok (Assertion v)) (Ok (Assertion w)) h k = ap (λ (z : Vrp). Ok (Assertion z)) (one_payload asn p max_len v w h k)
payload_one asn p max_len (Ok (Assertion v)) (Ok other) h k = absurd k
payload_one asn p max_len (Ok (Assertion v)) (Err why) h k = absurd (payload_or_none asn p max_len v why h k)
payload_one asn p max_len (Ok other) y h k = absurd h
payload_one asn p max_len (Err why) (Ok (Assertion w)) h k = absurd (payload_or_none asn p max_len w why k h)
payload_one asn p max_len (Err why) (Ok other) h k = absurd k
payload_one asn p max_len (Err why) (Err other) h k = ap (λ (z : Cause). Err z) (h.0 ∙ sym k.0)

asserts_prefix_one : (asn : Asn) (p : GivenPrefix) (max_len : Result (Option ℕ) Cause) (x y : Result Entry Cause) → AssertsPrefix asn p max_len x → AssertsPrefix asn p max_len y → x ≡ y
asserts_prefix_one asn given.None max_len x y h k = h ∙ sym k
asserts_prefix_one asn given.Ipv6 max_len x y h k = h ∙ sym k
asserts_prefix_one asn (given.Ipv4 p) (Err why) x y h k = h ∙ sym k
asserts_prefix_one asn (given.Ipv4 p) (Ok max_len) x y h k = payload_one asn p max_len x y h k

asserts_one : (asn : Result (Option Asn) Cause) (p : Result GivenPrefix Cause) (max_len : Result (Option ℕ) Cause) (comment : Result Bool Cause) (x y : Result Entry Cause)
    → Asserts asn p max_len comment x → Asserts asn p max_len comment y → x ≡ y
asserts_one (Err why) p max_len comment x y h k = h ∙ sym k
asserts_one (Ok None) p max_len comment x y h k = h ∙ sym k
asserts_one (Ok (Some asn)) (Err why) max_len comment x y h k = h ∙ sym k
asserts_one (Ok (Some asn)) (Ok p) max_len (Err why) x y h k = h ∙ sym k
asserts_one (Ok (Some asn)) (Ok p) max_len (Ok comment) x y h k = asserts_prefix_one asn p max_len x y h k

-- the members of an entry say one thing
said_one : (p : Part) (entry : Json) (x y : Result Entry Cause) → AreSaid p entry x → AreSaid p entry y → x ≡ y
said_one part.PrefixFilters entry x y (prefix, is, asn, gives, h) (other, also, number, told, k) =
    let comment = given_text named.Comment entry in
    let same = prefix_one entry prefix other is also in
    let one = asn_one entry asn number gives told in
    h ∙ (λ i. prefix_filter (same i) (one i) comment) ∙ sym k
said_one part.BgpsecFilters entry x y (asn, gives, h) (number, told, k) =
    let one = asn_one entry asn number gives told in
    h ∙ (λ i. key_filter (one i) (given_text named.Ski entry) (given_text named.Comment entry)) ∙ sym k
said_one part.PrefixAssertions entry x y (asn, gives, prefix, is, len, max, h) (number, told, other, also, size, most, k) =
    let comment = given_text named.Comment entry in
    let one = asn_one entry asn number gives told in
    let same = prefix_one entry prefix other is also in
    let long = max_one entry len size max most in
    let first = subst (λ (a : Result (Option Asn) Cause). Asserts a prefix len comment x) one h in
    let second = subst (λ (p : Result GivenPrefix Cause). Asserts number p len comment x) same first in
    let third = subst (λ (m : Result (Option ℕ) Cause). Asserts number other m comment x) long second in
    asserts_one number other size comment x y third k
said_one part.BgpsecAssertions entry x y (asn, gives, h) (number, told, k) =
    let one = asn_one entry asn number gives told in
    h ∙ (λ i. key_assertion (one i) (given_text named.Ski entry) (given_text named.RouterPublicKey entry) (given_text named.Comment entry)) ∙ sym k

judged_one : (o : Option Cause) (P : Result Entry Cause → Type 0) → ((x y : Result Entry Cause) → P x → P y → x ≡ y) → (x y : Result Entry Cause) → Judged o x (P x) → Judged o y (P y) → x ≡ y
judged_one (Some why) P one x y h k = h ∙ sym k
judged_one None P one x y h k = one x y h k

-- an entry says one thing
entry_one : (p : Part) (entry : Json) (x y : Result Entry Cause) → IsEntry p entry x → IsEntry p entry y → x ≡ y
entry_one p entry x y h k = judged_one (object_fault (entry_members p) entry) (AreSaid p entry) (said_one p entry) x y h k

-- ---- arrays

-- one thing follows what was said
abbrev IsOne : (Said → Result Said SlurmFault → Type 0) → Type 0
IsOne G = (said : Said) (a b : Result Said SlurmFault) → G said a → G said b → a ≡ b

takes_one : (G : Said → Result Said SlurmFault → Type 0) → IsOne G → (p : Part) (i : ℕ) (entry : Entry) (o : Option ExceptionFault) (said : Said) (a b : Result Said SlurmFault)
    → Takes G p i entry o said a → Takes G p i entry o said b → a ≡ b
takes_one G one p i entry (Some why) said a b h k = h ∙ sym k
takes_one G one p i entry None said a b h k = one (with_entry entry said) a b h k

goes_one : (G : Said → Result Said SlurmFault → Type 0) → IsOne G → (p : Part) (i : ℕ) (answer : Result Entry Cause) (said : Said) (a b : Result Said SlurmFault)
    → Goes G p i answer said a → Goes G p i answer said b → a ≡ b
goes_one G one p i (Err why) said a b h k = h ∙ sym k
goes_one G one p i (Ok entry) said a b h k = takes_one G one p i entry (entry_fault entry said) said a b h k

-- the entries of an array add one thing
reads_one : (p : Part) (i : ℕ) (entries : List Json) (said : Said) (a b : Result Said SlurmFault) → Reads p i entries said a → Reads p i entries said b → a ≡ b
reads_one p i [] said a b h k = h ∙ sym k
reads_one p i (entry ∷ more) said a b (x, is, goes) (y, also, went) =
    let G : Said → Result Said SlurmFault → Type 0 = λ after found. Reads p (i + 1) more after found in
    let same = entry_one p entry y x also is in
    goes_one G (λ after c d h k. reads_one p (i + 1) more after c d h k) p i x said a b goes (subst (λ (z : Result Entry Cause). Goes G p i z said b) same went)

then_one : (G : Said → Result Said SlurmFault → Type 0) → IsOne G → (first : Result Said SlurmFault) (a b : Result Said SlurmFault)
    → Then first a (λ said. G said a) → Then first b (λ said. G said b) → a ≡ b
then_one G one (Err why) a b h k = h ∙ sym k
then_one G one (Ok said) a b h k = one said a b h k

-- an array, and what follows it
abbrev Follow : Part → List Json → (Said → Result Said SlurmFault → Type 0) → Said → Result Said SlurmFault → Type 0
Follow p entries G said result = (first : Result Said SlurmFault) × Reads p 0 entries said first × Then first result (λ after. G after result)

follow_one : (p : Part) (entries : List Json) (G : Said → Result Said SlurmFault → Type 0) → IsOne G → IsOne (Follow p entries G)
follow_one p entries G one said a b (first, read, h) (other, also, k) =
    let same = reads_one p 0 entries said other first also read in
    then_one G one first a b h (subst (λ (r : Result Said SlurmFault). Then r b (λ after. G after b)) same k)

parts_one : (parts : SlurmParts) (a b : Result Said SlurmFault) → ReadsParts parts a → ReadsParts parts b → a ≡ b
parts_one parts a b h k =
    let Last : Said → Result Said SlurmFault → Type 0 = λ three r. Reads part.BgpsecAssertions 0 parts.bgpsec_assertions three r in
    let Third : Said → Result Said SlurmFault → Type 0 = λ two r. Follow part.PrefixAssertions parts.prefix_assertions Last two r in
    let Second : Said → Result Said SlurmFault → Type 0 = λ one r. Follow part.BgpsecFilters parts.bgpsec_filters Third one r in
    let last : IsOne Last = λ three c d x y. reads_one part.BgpsecAssertions 0 parts.bgpsec_assertions three c d x y in
    let third : IsOne Third = follow_one part.PrefixAssertions parts.prefix_assertions Last last in
    let second : IsOne Second = follow_one part.BgpsecFilters parts.bgpsec_filters Third third in
    follow_one part.PrefixFilters parts.prefix_filters Second second nothing_said a b h k

of_parts_one : (p : Result SlurmParts SlurmFault) (a b : Result Said SlurmFault) → IsOfParts p a → IsOfParts p b → a ≡ b
of_parts_one (Err why) a b h k = h ∙ sym k
of_parts_one (Ok parts) a b h k = parts_one parts a b h k

-- ---- octets

-- octets that are the text of a value are JSON
no_value : (octets : List ℕ) (octet : ℕ) (j : Json) → IsUtf8 octets → document octets ≡ Some j → IsNoJson octets octet → ⊥
no_value octets octet j utf8 is (inl (never, place)) = never utf8
no_value octets octet j utf8 is (inr (also, none)) = not_found j (sym none ∙ is)

no_json_one : (octets : List ℕ) (a b : Result Said SlurmFault) (x y : ℕ) → a ≡ Err (fault.Text x) → b ≡ Err (fault.Text y) → IsNoJson octets x → IsNoJson octets y → (a ≡ b) ⊎ AreTexts octets a b
no_json_one octets a b x y is also (inl (never, place)) (inl (nor, other)) = inl (is ∙ ap (λ (n : ℕ). Err (fault.Text n)) (place ∙ sym other) ∙ sym also)
no_json_one octets a b x y is also (inl (never, place)) (inr (utf8, none)) = absurd (never utf8)
no_json_one octets a b x y is also (inr (utf8, none)) (inl (never, place)) = absurd (never utf8)
no_json_one octets a b x y is also (inr (utf8, none)) (inr h) = inr (utf8, none, x, y, is, also)

-- octets say one thing, or have one first fault
pub slurm_one : (octets : List ℕ) (a b : Result Said SlurmFault) → IsSlurm octets a → IsSlurm octets b → (a ≡ b) ⊎ AreTexts octets a b
slurm_one octets a b (inl (x, is, none)) (inl (y, also, no_json)) = no_json_one octets a b x y is also none no_json
slurm_one octets a b (inl (x, is, none)) (inr (utf8, j, also, k)) = absurd (no_value octets x j utf8 also none)
slurm_one octets a b (inr (utf8, j, is, h)) (inl (y, also, none)) = absurd (no_value octets y j utf8 is none)
slurm_one octets a b (inr (utf8, j, is, h)) (inr (also, i, same, k)) =
    let one = Some_inj i j (sym same ∙ is) in
    inl (of_parts_one (parts_of j) a b h (subst (λ v. IsSaid v b) one k))

-- ---- want of memory

abbrev Lacks : Result Said SlurmFault
Lacks = Err fault.NoMemory

takes_sane : (G : Said → Result Said SlurmFault → Type 0) → ((said : Said) → G said Lacks → ⊥) → (p : Part) (i : ℕ) (entry : Entry) (o : Option ExceptionFault) (said : Said) → Takes G p i entry o said Lacks → ⊥
takes_sane G sane p i entry (Some why) said h = cc h
takes_sane G sane p i entry None said h = sane (with_entry entry said) h

goes_sane : (G : Said → Result Said SlurmFault → Type 0) → ((said : Said) → G said Lacks → ⊥) → (p : Part) (i : ℕ) (answer : Result Entry Cause) (said : Said) → Goes G p i answer said Lacks → ⊥
goes_sane G sane p i (Err why) said h = cc h
goes_sane G sane p i (Ok entry) said h = takes_sane G sane p i entry (entry_fault entry said) said h

reads_sane : (p : Part) (i : ℕ) (entries : List Json) (said : Said) → Reads p i entries said Lacks → ⊥
reads_sane p i [] said h = cc h
reads_sane p i (entry ∷ more) said (x, is, goes) = goes_sane (λ after found. Reads p (i + 1) more after found) (λ after h. reads_sane p (i + 1) more after h) p i x said goes

then_sane : (p : Part) (entries : List Json) (G : Said → Result Said SlurmFault → Type 0) → ((said : Said) → G said Lacks → ⊥) → (said : Said) → Follow p entries G said Lacks → ⊥
then_sane p entries G sane said (Err why, read, h) = reads_sane p 0 entries said (subst (λ (r : Result Said SlurmFault). Reads p 0 entries said r) (sym h) read)
then_sane p entries G sane said (Ok after, read, h) = sane after h

parts_sane : (parts : SlurmParts) → ReadsParts parts Lacks → ⊥
parts_sane parts h =
    let Last : Said → Result Said SlurmFault → Type 0 = λ three r. Reads part.BgpsecAssertions 0 parts.bgpsec_assertions three r in
    let Third : Said → Result Said SlurmFault → Type 0 = λ two r. Follow part.PrefixAssertions parts.prefix_assertions Last two r in
    let Second : Said → Result Said SlurmFault → Type 0 = λ one r. Follow part.BgpsecFilters parts.bgpsec_filters Third one r in
    let third : (said : Said) → Third said Lacks → ⊥ = then_sane part.PrefixAssertions parts.prefix_assertions Last (reads_sane part.BgpsecAssertions 0 parts.bgpsec_assertions) in
    then_sane part.PrefixFilters parts.prefix_filters Second (then_sane part.BgpsecFilters parts.bgpsec_filters Third third) nothing_said h

assertions_sane : (filters : List Json × List Json) (r : Result (List Json × List Json) Cause) → with_assertions filters r ≡ Err fault.NoMemory → ⊥
assertions_sane filters (Err why) h = cc h
assertions_sane filters (Ok assertions) h = cc h

filters_sane : (r : Result (List Json × List Json) Cause) (assertions : Json) → with_filters r assertions ≡ Err fault.NoMemory → ⊥
filters_sane (Err why) assertions h = cc h
filters_sane (Ok filters) assertions h = assertions_sane filters (arrays_of named.PrefixAssertions named.BgpsecAssertions assertions) h

halves_sane : (r : Result (Json × Json) Cause) → with_halves r ≡ Err fault.NoMemory → ⊥
halves_sane (Err why) h = cc h
halves_sane (Ok halves) h = filters_sane (arrays_of named.PrefixFilters named.BgpsecFilters halves.0) halves.1 h

of_parts_sane : (p : Result SlurmParts SlurmFault) → (p ≡ Err fault.NoMemory → ⊥) → IsOfParts p Lacks → ⊥
of_parts_sane (Err why) sane h = sane (ap (λ (x : SlurmFault). Err x) (cc h))
of_parts_sane (Ok parts) sane h = parts_sane parts h

-- want of memory is nothing that octets say
pub no_memory : (octets : List ℕ) → IsSlurm octets Lacks → ⊥
no_memory octets (inl (x, is, none)) = cc is
no_memory octets (inr (utf8, j, is, h)) = of_parts_sane (parts_of j) (halves_sane (halves_of j)) h
