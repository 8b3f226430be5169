use Rattle.std.proofs.Common.{◌≡◌, ◌<◌, ◌||◌, ◌^◌, ◌/◌, ◌≢◌, Bool, true, false, cond, nat_lt, ℕ, List, [], ◌∷◌, ◌++◌, length, take, drop, Option, Some, None, arith, refl, sym, ap, subst, ◌∙◌}
use Rattle.std.specs.Prelude.{◌==◌, is_none, is_some, not, slice_index, MatchOption, ⊤}
use Rattle.std.specs.List.{AllByRecursion}
use Rattle.std.specs.Option.{option_and_then, option_map}
use Rattle.std.specs.Int.{from_be_bytes, to_be_bytes, w32}
use Rattle.std.proofs.lemmas.Bool.{eqb-false, eqb-true, le-ltb, ltb-false, ne_eqb, not-true}
use Rattle.std.proofs.lemmas.Nat.{be_bytes_4, from_be_bytes-to_be_bytes_4}
use Rattle.bgp_attr.specs.AsPath.{PathSegment}
use Rattle.bgp_attr.specs.AttributeFaults.{is_host, is_no_host}
use Rattle.bgp_attr.specs.AttributeReading.{aggregator_in, number_in, origin_in}
use Rattle.bgp_attr.specs.AttributeSpelling.{AreLawful, IsHost, IsSegment, SpellsPath, aggregator_spelling, mark_spelling, number_spelling, origin_spelling, path_spelling, value_in}
use Rattle.bgp_attr.specs.PathAttributes.{PathAttributes, origin_at, origin_octet}
use Rattle.bgp_attr.specs.PathReading.{begins_right, is_malformed_path, is_no_path, path_at}
use Rattle.bgp_attr.specs.ReceivedAttributes.{AreOctets, Attribute, is_partial}
use Rattle.bgp_attr.specs.declared.aggregator.Aggregator.{Aggregator}
use Rattle.bgp_attr.specs.declared.attrs.Origin.{Origin}
use Rattle.bgp_attr.specs.declared.attrs.Origin.TheVariants.{Igp, Egp, Incomplete}
use Rattle.bgp_attr.specs.declared.attribute_type.AttributeType.{AttributeType}
use Rattle.bgp_attr.specs.declared.attribute_type.AttributeType.TheVariants as type
use Rattle.bgp_attr.specs.declared.peer.PeerKind.{PeerKind}
use Rattle.bgp_attr.proofs.Octets.{octets-drop, octets-take}
use Rattle.bgp_attr.proofs.PathSpellings.{above, or_false, path_is_read, path_is_spelled}

-- A value has no fault exactly where it spells something.

-- a value has the length of its type, and says something
abbrev pub IsGood : PeerKind → AttributeType → List ℕ → Type 0
IsGood kind type.Origin value = (length value ≡ 1) × (is_none (origin_at (slice_index value 0)) ≡ false)
IsGood kind type.AsPath value = is_malformed_path kind value ≡ false
IsGood kind type.NextHop value = (length value ≡ 4) × (is_no_host (slice_index value 0) ≡ false)
IsGood kind type.MultiExitDisc value = length value ≡ 4
IsGood kind type.LocalPref value = length value ≡ 4
IsGood kind type.AtomicAggregate value = length value ≡ 0
IsGood kind type.Aggregator value = length value ≡ 8

abbrev pub IsSound : PeerKind → AttributeType → Option (List ℕ) → Type 0
IsSound kind known o = MatchOption o ⊤ (IsGood kind known)

-- ---- what is spelled is good

origin_good : (kind : PeerKind) (origin : Origin) → IsGood kind type.Origin (origin_octet origin ∷ [])
origin_good kind Igp = (refl, refl)
origin_good kind Egp = (refl, refl)
origin_good kind Incomplete = (refl, refl)

origin_sound : (kind : PeerKind) (o : Option Origin) → IsSound kind type.Origin (option_map origin_spelling o)
origin_sound kind None = tt
origin_sound kind (Some origin) = origin_good kind origin

path_good : (kind : PeerKind) (path : List PathSegment) → AllByRecursion IsSegment path → begins_right kind path ≡ true → is_malformed_path kind (path_spelling path) ≡ false
path_good kind path each right = ap (is_no_path kind) (path_is_read (path_spelling path) path (record { each = each; spelled = refl })) ∙ ap not right

-- a path whose segments are lawful, and which begins as that of such a peer has to
abbrev pub IsLawfulPath : PeerKind → Option (List PathSegment) → Type 0
IsLawfulPath kind o = MatchOption o ⊤ (λ path. AllByRecursion IsSegment path × (begins_right kind path ≡ true))

as_path_sound : (kind : PeerKind) (o : Option (List PathSegment)) → IsLawfulPath kind o → IsSound kind type.AsPath (option_map path_spelling o)
as_path_sound kind None lawful = tt
as_path_sound kind (Some path) lawful = path_good kind path lawful.0 lawful.1

pub no_host_false : (octet : ℕ) → 0 < octet → octet ≢ 127 → octet < 224 → is_no_host octet ≡ false
no_host_false octet some other small =
    let first : (octet == 0) ≡ false = ne_eqb octet 0 (λ e. omega arith) in
    let second : (octet == 127) ≡ false = ne_eqb octet 127 other in
    let third : nat_lt 223 octet ≡ false = le-ltb 223 octet (omega arith) in
    ap (λ (b : Bool). b || (octet == 127) || nat_lt 223 octet) first ∙ (ap (λ (b : Bool). b || nat_lt 223 octet) second ∙ third)

first_octet : (address : ℕ) → address < 2 ^ 32 → slice_index (to_be_bytes w32 address) 0 ≡ address / 2 ^ 24
first_octet address h = omega arith

next_hop_sound : (kind : PeerKind) (o : Option ℕ) → MatchOption o ⊤ IsHost → IsSound kind type.NextHop (option_map number_spelling o)
next_hop_sound kind None lawful = tt
next_hop_sound kind (Some address) h = (refl, ap is_no_host (first_octet address h.0) ∙ no_host_false (address / 2 ^ 24) h.1 h.2 h.3)

number_sound : (o : Option ℕ) → MatchOption (option_map number_spelling o) ⊤ (λ value. length value ≡ 4)
number_sound None = tt
number_sound (Some n) = refl

mark_sound : (b : Bool) → MatchOption (mark_spelling b) ⊤ (λ value. length value ≡ 0)
mark_sound false = tt
mark_sound true = refl

aggregator_sound : (o : Option Aggregator) → MatchOption (option_map aggregator_spelling o) ⊤ (λ value. length value ≡ 8)
aggregator_sound None = tt
aggregator_sound (Some aggregator) = refl

pub value_sound : (kind : PeerKind) (attrs : PathAttributes) → AreLawful kind attrs → (known : AttributeType) → IsSound kind known (value_in attrs known)
value_sound kind attrs lawful type.Origin = origin_sound kind attrs.origin
value_sound kind attrs lawful type.AsPath = as_path_sound kind attrs.as_path lawful.as_path
value_sound kind attrs lawful type.NextHop = next_hop_sound kind attrs.next_hop lawful.next_hop
value_sound kind attrs lawful type.MultiExitDisc = number_sound attrs.multi_exit_disc
value_sound kind attrs lawful type.LocalPref = number_sound attrs.local_pref
value_sound kind attrs lawful type.AtomicAggregate = mark_sound attrs.atomic_aggregate
value_sound kind attrs lawful type.Aggregator = aggregator_sound attrs.aggregator

-- ---- and is what is read

origin_octet-read : (origin : Origin) → origin_in (origin_octet origin ∷ []) ≡ Some origin
origin_octet-read Igp = refl
origin_octet-read Egp = refl
origin_octet-read Incomplete = refl

pub origin_is_read : (o : Option Origin) → option_and_then origin_in (option_map origin_spelling o) ≡ o
origin_is_read None = refl
origin_is_read (Some origin) = origin_octet-read origin

pub as_path_is_read : (kind : PeerKind) (o : Option (List PathSegment)) → IsLawfulPath kind o → option_and_then path_at (option_map path_spelling o) ≡ o
as_path_is_read kind None lawful = refl
as_path_is_read kind (Some path) lawful = path_is_read (path_spelling path) path (record { each = lawful.0; spelled = refl })

host_small : (o : Option ℕ) → MatchOption o ⊤ IsHost → MatchOption o ⊤ (λ n. n < 2 ^ 32)
host_small None lawful = tt
host_small (Some address) lawful = lawful.0

pub number_is_read : (o : Option ℕ) → MatchOption o ⊤ (λ n. n < 2 ^ 32) → option_and_then number_in (option_map number_spelling o) ≡ o
number_is_read None small = refl
number_is_read (Some n) small = ap (λ (m : ℕ). Some m) (from_be_bytes-to_be_bytes_4 n small)

pub next_hop_is_read : (o : Option ℕ) → MatchOption o ⊤ IsHost → option_and_then number_in (option_map number_spelling o) ≡ o
next_hop_is_read o lawful = number_is_read o (host_small o lawful)

pub mark_is_read : (b : Bool) → is_some (mark_spelling b) ≡ b
mark_is_read false = refl
mark_is_read true = refl

-- what an attribute says of an aggregator
abbrev pub aggregator_at : Attribute → Option Aggregator
aggregator_at a = aggregator_in (is_partial a.flags) a.value

abbrev IsSmall : Aggregator → Type 0
IsSmall aggregator = (aggregator.asn.0 < 2 ^ 32) × (aggregator.address < 2 ^ 32)

made_aggregator : ℕ → ℕ → Bool → Option Aggregator
made_aggregator asn address partial = Some (record { asn = record { 0 = asn }; address = address; is_partial = partial })

spelled_aggregator : (aggregator : Aggregator) → IsSmall aggregator → aggregator_in aggregator.is_partial (aggregator_spelling aggregator) ≡ Some aggregator
unfolding made_aggregator
spelled_aggregator aggregator small =
    ap (λ (n : ℕ). made_aggregator n (from_be_bytes w32 (to_be_bytes w32 aggregator.address)) aggregator.is_partial) (from_be_bytes-to_be_bytes_4 aggregator.asn.0 small.0)
    ∙ ap (λ (n : ℕ). made_aggregator aggregator.asn.0 n aggregator.is_partial) (from_be_bytes-to_be_bytes_4 aggregator.address small.1)

found_aggregator : (a : Attribute) (aggregator : Aggregator) → Some a.value ≡ Some (aggregator_spelling aggregator) → Some (is_partial a.flags) ≡ Some aggregator.is_partial → IsSmall aggregator
    → aggregator_at a ≡ Some aggregator
found_aggregator a aggregator value partial small =
    let same : a.value ≡ aggregator_spelling aggregator = cc in
    let bit : is_partial a.flags ≡ aggregator.is_partial = cc in
    ap (λ (b : Bool). aggregator_in b a.value) bit ∙ (ap (aggregator_in aggregator.is_partial) same ∙ spelled_aggregator aggregator small)

pub aggregator_is_read : (found : Option Attribute) (o : Option Aggregator) → option_map (λ a. a.value) found ≡ option_map aggregator_spelling o
    → option_map (λ a. is_partial a.flags) found ≡ option_map (λ a. a.is_partial) o → MatchOption o ⊤ (λ a. (a.asn.0 < 2 ^ 32) × (a.address < 2 ^ 32)) → option_and_then aggregator_at found ≡ o
aggregator_is_read None None value partial small = refl
aggregator_is_read None (Some aggregator) value partial small = absurd cc
aggregator_is_read (Some a) None value partial small = absurd cc
aggregator_is_read (Some a) (Some aggregator) value partial small = found_aggregator a aggregator value partial small

-- ---- what is good is spelled

origin_if : (octet : ℕ) (zero one two : Bool) → zero ≡ (octet == 0) → one ≡ (octet == 1) → two ≡ (octet == 2)
    → is_none (cond zero (Some Igp) (cond one (Some Egp) (cond two (Some Incomplete) None))) ≡ false
    → Some (octet ∷ []) ≡ option_map origin_spelling (cond zero (Some Igp) (cond one (Some Egp) (cond two (Some Incomplete) None)))
origin_if octet true one two e f g h = ap (λ (n : ℕ). Some (n ∷ [])) (eqb-true octet 0 (sym e))
origin_if octet false true two e f g h = ap (λ (n : ℕ). Some (n ∷ [])) (eqb-true octet 1 (sym f))
origin_if octet false false true e f g h = ap (λ (n : ℕ). Some (n ∷ [])) (eqb-true octet 2 (sym g))
origin_if octet false false false e f g h = absurd cc

origin_spelled : (kind : PeerKind) (value : List ℕ) → IsGood kind type.Origin value → Some value ≡ option_map origin_spelling (origin_in value)
origin_spelled kind [] h = absurd (omega (arith, h.0))
origin_spelled kind (octet ∷ []) h = origin_if octet (octet == 0) (octet == 1) (octet == 2) refl refl refl h.1
origin_spelled kind (octet ∷ other ∷ more) h = absurd (omega (arith, h.0))

pub origin_is_spelled : (kind : PeerKind) (o : Option (List ℕ)) → IsSound kind type.Origin o → o ≡ option_map origin_spelling (option_and_then origin_in o)
origin_is_spelled kind None h = refl
origin_is_spelled kind (Some value) h = origin_spelled kind value h

pub not_false : (b : Bool) → not b ≡ false → b ≡ true
not_false true h = refl
not_false false h = absurd cc

-- a value spells what is read, and that is lawful
pub record IsSpelled {T : Type 0} (spelling : T → List ℕ) (Law : T → Type 0) (value : Option (List ℕ)) (read : Option T) : Type 0 where
  pub same : value ≡ option_map spelling read
  pub lawful : MatchOption read ⊤ Law

abbrev pub IsRight : PeerKind → List PathSegment → Type 0
IsRight kind path = AllByRecursion IsSegment path × (begins_right kind path ≡ true)

begins_if : (kind : PeerKind) (value : List ℕ) (o : Option (List PathSegment)) → path_at value ≡ o → AreOctets value → is_no_path kind o ≡ false → IsSpelled path_spelling (IsRight kind) (Some value) o
begins_if kind value None h fits right = absurd cc
begins_if kind value (Some path) h fits right =
    let spelled : SpellsPath value path = path_is_spelled value path fits h in
    record { same = ap (λ (octets : List ℕ). Some octets) spelled.spelled; lawful = (spelled.each, not_false (begins_right kind path) right) }

pub as_path_is_spelled : (kind : PeerKind) (o : Option (List ℕ)) → MatchOption o ⊤ AreOctets → IsSound kind type.AsPath o → IsSpelled path_spelling (IsRight kind) o (option_and_then path_at o)
as_path_is_spelled kind None fits h = record { same = refl; lawful = tt }
as_path_is_spelled kind (Some value) fits h = begins_if kind value (path_at value) refl fits h

host_if : (octet : ℕ) → is_no_host octet ≡ false → (0 < octet) × (octet ≢ 127) × (octet < 224)
host_if octet h =
    let first = or_false (octet == 0 || octet == 127) (nat_lt 223 octet) h in
    let parts = or_false (octet == 0) (octet == 127) first.0 in
    (above octet (eqb-false octet 0 parts.0), eqb-false octet 127 parts.1, omega (arith, ltb-false 223 octet first.1))

-- an address whose first octet can be a host's
pub host_is : (address : ℕ) → address < 2 ^ 32 → is_host address ≡ true → IsHost address
host_is address small h =
    let octet = host_if (address / 2 ^ 24) (not-true (is_no_host (address / 2 ^ 24)) h) in
    (small, octet.0, octet.1, octet.2)

-- a number in four octets
record IsNumber (value : List ℕ) : Type 0 where
  number : ℕ
  read : number_in value ≡ Some number
  same : value ≡ number_spelling number
  small : number < 2 ^ 32
  first : number / 2 ^ 24 ≡ slice_index value 0

is_number : (value : List ℕ) → AreOctets value → length value ≡ 4 → IsNumber value
is_number [] fits h = absurd (omega (arith, h))
is_number (a ∷ []) fits h = absurd (omega (arith, h))
is_number (a ∷ b ∷ []) fits h = absurd (omega (arith, h))
is_number (a ∷ b ∷ c ∷ []) fits h = absurd (omega (arith, h))
is_number (a ∷ b ∷ c ∷ d ∷ []) fits h =
    let four : List ℕ = a ∷ b ∷ c ∷ d ∷ [] in
    record {
      number = from_be_bytes w32 four;
      read = refl;
      same = sym (be_bytes_4 four (from_be_bytes w32 four) refl fits refl);
      small = omega (arith, fits 0, fits 1, fits 2, fits 3);
      first = omega (arith, fits 0, fits 1, fits 2, fits 3);
    }
is_number (a ∷ b ∷ c ∷ d ∷ e ∷ more) fits h = absurd (omega (arith, h))

number_from : (Law : ℕ → Type 0) (value : List ℕ) (n : IsNumber value) → Law n.number → IsSpelled number_spelling Law (Some value) (number_in value)
number_from Law value n lawful =
    let P : Option ℕ → Type 0 = IsSpelled number_spelling Law (Some value) in
    subst P (sym n.read) (record { same = ap (λ (octets : List ℕ). Some octets) n.same; lawful = lawful })

host_from : (value : List ℕ) (n : IsNumber value) → is_no_host (slice_index value 0) ≡ false → IsHost n.number
host_from value n h =
    let P : ℕ → Type 0 = λ octet. (0 < octet) × (octet ≢ 127) × (octet < 224) in
    let here = subst P (sym n.first) (host_if (slice_index value 0) h) in
    (n.small, here.0, here.1, here.2)

pub next_hop_is_spelled : (kind : PeerKind) (o : Option (List ℕ)) → MatchOption o ⊤ AreOctets → IsSound kind type.NextHop o → IsSpelled number_spelling IsHost o (option_and_then number_in o)
next_hop_is_spelled kind None fits h = record { same = refl; lawful = tt }
next_hop_is_spelled kind (Some value) fits h = let n = is_number value fits h.0 in number_from IsHost value n (host_from value n h.1)

pub number_is_spelled : (o : Option (List ℕ)) → MatchOption o ⊤ AreOctets → MatchOption o ⊤ (λ value. length value ≡ 4) → IsSpelled number_spelling (λ n. n < 2 ^ 32) o (option_and_then number_in o)
number_is_spelled None fits h = record { same = refl; lawful = tt }
number_is_spelled (Some value) fits h = let n = is_number value fits h in number_from (λ m. m < 2 ^ 32) value n n.small

no_value : (value : List ℕ) → length value ≡ 0 → value ≡ []
no_value [] h = refl
no_value (octet ∷ more) h = absurd (omega (arith, h))

pub mark_is_spelled : (o : Option (List ℕ)) → MatchOption o ⊤ (λ value. length value ≡ 0) → o ≡ mark_spelling (is_some o)
mark_is_spelled None h = refl
mark_is_spelled (Some value) h = ap (λ (octets : List ℕ). Some octets) (no_value value h)

-- an attribute spells the aggregator that is read, and its partial bit is there
pub record IsAggregator (found : Option Attribute) (read : Option Aggregator) : Type 0 where
  pub same : option_map (λ a. a.value) found ≡ option_map aggregator_spelling read
  pub partial : option_map (λ a. is_partial a.flags) found ≡ option_map (λ a. a.is_partial) read
  pub lawful : MatchOption read ⊤ (λ a. (a.asn.0 < 2 ^ 32) × (a.address < 2 ^ 32))

four_front : (value : List ℕ) → length value ≡ 8 → (length (take 4 value) ≡ 4) × (length (drop 4 value) ≡ 4) × (value ≡ take 4 value ++ drop 4 value)
four_front (a ∷ b ∷ c ∷ d ∷ more) h = (refl, omega (arith, h), refl)
four_front (a ∷ b ∷ c ∷ []) h = absurd (omega (arith, h))
four_front (a ∷ b ∷ []) h = absurd (omega (arith, h))
four_front (a ∷ []) h = absurd (omega (arith, h))
four_front [] h = absurd (omega (arith, h))

bytes_back : (value : List ℕ) → AreOctets value → length value ≡ 4 → (value ≡ to_be_bytes w32 (from_be_bytes w32 value)) × (from_be_bytes w32 value < 2 ^ 32)
bytes_back [] fits h = absurd (omega (arith, h))
bytes_back (a ∷ []) fits h = absurd (omega (arith, h))
bytes_back (a ∷ b ∷ []) fits h = absurd (omega (arith, h))
bytes_back (a ∷ b ∷ c ∷ []) fits h = absurd (omega (arith, h))
bytes_back (a ∷ b ∷ c ∷ d ∷ []) fits h = let four : List ℕ = a ∷ b ∷ c ∷ d ∷ [] in (sym (be_bytes_4 four (from_be_bytes w32 four) refl fits refl), omega (arith, fits 0, fits 1, fits 2, fits 3))
bytes_back (a ∷ b ∷ c ∷ d ∷ e ∷ more) fits h = absurd (omega (arith, h))

aggregator_if : (a : Attribute) (eight : Bool) → (length a.value == 8) ≡ eight → AreOctets a.value → length a.value ≡ 8
    → IsAggregator (Some a) (cond eight (made_aggregator (from_be_bytes w32 (take 4 a.value)) (from_be_bytes w32 (drop 4 a.value)) (is_partial a.flags)) None)
unfolding made_aggregator
aggregator_if a false is fits h = absurd (eqb-false (length a.value) 8 is h)
aggregator_if a true is fits h =
    let parts = four_front a.value h in
    let asn = bytes_back (take 4 a.value) (octets-take 4 a.value fits) parts.0 in
    let address = bytes_back (drop 4 a.value) (octets-drop 4 a.value fits) parts.1 in
    record {
      same =
          ap (λ (octets : List ℕ). Some octets)
          (parts.2
          ∙ (ap (λ (octets : List ℕ). octets ++ drop 4 a.value) asn.0
          ∙ ap (λ (octets : List ℕ). to_be_bytes w32 (from_be_bytes w32 (take 4 a.value)) ++ octets) address.0));
      partial = refl;
      lawful = (asn.1, address.1);
    }

pub aggregator_is_spelled : (found : Option Attribute) → MatchOption found ⊤ (λ a. AreOctets a.value) → MatchOption found ⊤ (λ a. length a.value ≡ 8) → IsAggregator found (option_and_then aggregator_at found)
unfolding made_aggregator
aggregator_is_spelled None fits h = record { same = refl; partial = refl; lawful = tt }
aggregator_is_spelled (Some a) fits h = aggregator_if a (length a.value == 8) refl fits h
