use Rattle.std.proofs.Common.{◌≡◌, ◌<◌, ◌≤◌, ◌*◌, ◌^◌, ◌||◌, Bool, true, false, ℕ, zero, suc, List, [], ◌∷◌, ◌++◌, length, take, drop, nat_lt, if◌then◌else◌, Option, Some, None, arith, refl, sym, ap, subst, ◌∙◌, length-append}
use Rattle.std.specs.Prelude.{◌==◌}
use Rattle.std.specs.List.{AllByRecursion}
use Rattle.std.specs.Option.{option_and_then}
use Rattle.std.specs.Int.{from_be_bytes, to_be_bytes, w32}
use Rattle.std.proofs.lemmas.Bool.{eqb-false, eqb-true, le-ltb, ltb-false, ne_eqb}
use Rattle.std.proofs.lemmas.List.{drop_at, length-take-le, take-append-drop, take_at}
use Rattle.std.proofs.lemmas.Option.{none-some, option_and_then_some, same_Some, some_pair_parts}
use Rattle.std.proofs.lemmas.Nat.{be_bytes_4, from_be_bytes-to_be_bytes_4}
use Rattle.net_prefix.specs.declared.asn.Asn.{Asn}
use Rattle.bgp_attr.specs.AsPath.{PathSegment}
use Rattle.bgp_attr.specs.AttributeSpelling.{IsAs, IsSegment, SpellsPath, asns_spelling, kind_octet, path_spelling, segment_spelling}
use Rattle.bgp_attr.specs.PathReading.{asns_in, has_zero, kind_at, path_at, path_within, segment_at, segment_with}
use Rattle.bgp_attr.specs.ReceivedAttributes.{AreOctets}
use Rattle.bgp_attr.specs.declared.as_path.SegmentKind.{SegmentKind}
use Rattle.bgp_attr.specs.declared.as_path.SegmentKind.TheVariants.{Set, Sequence}
use Rattle.bgp_attr.proofs.Appendings.{length-asns_spelling}
use Rattle.bgp_attr.proofs.Octets.{octets-right, octets-take}
use Rattle.bgp_attr.proofs.Paths.{behind, path_at-empty, path_at-some}

-- A path is read of the octets that spell it, and of no others.

-- ---- what is spelled is read

number : ℕ → Asn
number n = record { 0 = n }

asns_in-spelling : (asns : List Asn) → AllByRecursion IsAs asns → asns_in (asns_spelling asns) ≡ asns
unfolding number
asns_in-spelling [] h = refl
asns_in-spelling (asn ∷ more) h =
    let first : from_be_bytes w32 (to_be_bytes w32 asn.0) ≡ asn.0 = from_be_bytes-to_be_bytes_4 asn.0 h.0.1 in
    ap (λ (n : ℕ). number n ∷ asns_in (asns_spelling more)) first ∙ ap (λ (asns : List Asn). asn ∷ asns) (asns_in-spelling more h.1)

has_zero-not : (asns : List Asn) → AllByRecursion IsAs asns → has_zero asns ≡ false
has_zero-not [] h = refl
has_zero-not (asn ∷ more) h = ap (λ (zero : Bool). zero || has_zero more) (ne_eqb asn.0 0 (λ e. omega (arith, h.0.0))) ∙ has_zero-not more h.1

-- what a reader of a segment tests and takes
segment_if : SegmentKind → Bool → Bool → List Asn → List ℕ → Option (PathSegment × List ℕ)
segment_if kind empty cut asns rest = if empty then None else (if cut then None else (if has_zero asns then None else Some (record { kind = kind; asns = asns }, rest)))

segment_if-some : (kind : SegmentKind) (asns : List Asn) (rest : List ℕ) → has_zero asns ≡ false → segment_if kind false false asns rest ≡ Some (record { kind = kind; asns = asns }, rest)
unfolding segment_if
segment_if-some kind asns rest h = ap (λ (zero : Bool). let found : PathSegment × List ℕ = (record { kind = kind; asns = asns }, rest) in if zero then None else Some found) h

segment_with-spelled : (s : PathSegment) (rest : List ℕ) → IsSegment s → segment_with (length s.asns) (asns_spelling s.asns ++ rest) s.kind ≡ Some (s, rest)
unfolding segment_if
segment_with-spelled s rest h =
    let n : ℕ = length s.asns in
    let more : List ℕ = asns_spelling s.asns ++ rest in
    let size : length (asns_spelling s.asns) ≡ 4 * n = length-asns_spelling s.asns in
    let some : (n == 0) ≡ false = ne_eqb n 0 (λ e. omega (arith, h.some)) in
    let whole : nat_lt (length more) (4 * n) ≡ false = le-ltb (length more) (4 * n) (omega (arith, size, length-append (asns_spelling s.asns) rest)) in
    let front : asns_in (take (4 * n) more) ≡ s.asns = ap asns_in (take_at (asns_spelling s.asns) rest (4 * n) size) ∙ asns_in-spelling s.asns h.each in
    let back : drop (4 * n) more ≡ rest = drop_at (asns_spelling s.asns) rest (4 * n) size in
    ap (λ (b : Bool). segment_if s.kind b (nat_lt (length more) (4 * n)) (asns_in (take (4 * n) more)) (drop (4 * n) more)) some
    ∙ (ap (λ (b : Bool). segment_if s.kind false b (asns_in (take (4 * n) more)) (drop (4 * n) more)) whole
    ∙ (ap (λ (asns : List Asn). segment_if s.kind false false asns (drop (4 * n) more)) front
    ∙ (ap (segment_if s.kind false false s.asns) back
    ∙ segment_if-some s.kind s.asns rest (has_zero-not s.asns h.each))))

kind_at-octet : (kind : SegmentKind) → kind_at (kind_octet kind) ≡ Some kind
kind_at-octet Set = refl
kind_at-octet Sequence = refl

segment_at-spelled : (s : PathSegment) (rest : List ℕ) → IsSegment s → segment_at (segment_spelling s ++ rest) ≡ Some (s, rest)
unfolding segment_at
segment_at-spelled s rest h =
    ap (option_and_then (segment_with (length s.asns) (asns_spelling s.asns ++ rest))) (kind_at-octet s.kind)
    ∙ segment_with-spelled s rest h

path_at-spelling : (path : List PathSegment) → AllByRecursion IsSegment path → path_at (path_spelling path) ≡ Some path
path_at-spelling [] h = path_at-empty [] (omega arith)
path_at-spelling (s ∷ more) h =
    path_at-some (segment_spelling s ++ path_spelling more) s (path_spelling more) (segment_at-spelled s (path_spelling more) h.0)
    ∙ ap (behind (s ∷ [])) (path_at-spelling more h.1)

-- the octets that spell a path are read as it
pub path_is_read : (octets : List ℕ) (path : List PathSegment) → SpellsPath octets path → path_at octets ≡ Some path
path_is_read octets path h = ap path_at h.spelled ∙ path_at-spelling path h.each

-- ---- what is read is spelled

-- ASes of four octets each
pub record AreAsns (octets : List ℕ) (n : ℕ) : Type 0 where
  pub count : length (asns_in octets) ≡ n
  pub spelled : asns_spelling (asns_in octets) ≡ octets
  pub each : AllByRecursion (λ (asn : Asn). asn.0 < 2 ^ 32) (asns_in octets)

asns_in-octets : (octets : List ℕ) (n : ℕ) → length octets ≡ 4 * n → AreOctets octets → AreAsns octets n
asns_in-octets [] n e h = record { count = omega arith; spelled = refl; each = tt }
asns_in-octets (a ∷ []) n e h = absurd (omega arith)
asns_in-octets (a ∷ b ∷ []) n e h = absurd (omega arith)
asns_in-octets (a ∷ b ∷ c ∷ []) n e h = absurd (omega arith)
asns_in-octets (a ∷ b ∷ c ∷ d ∷ more) zero e h = absurd (omega arith)
asns_in-octets (a ∷ b ∷ c ∷ d ∷ more) (suc m) e h =
    let rest = asns_in-octets more m (omega arith) (λ i. h (suc (suc (suc (suc i))))) in
    let four : List ℕ = a ∷ b ∷ c ∷ d ∷ [] in
    let fits : AreOctets four = octets-take 4 (a ∷ b ∷ c ∷ d ∷ more) h in
    let same : to_be_bytes w32 (from_be_bytes w32 four) ≡ four = be_bytes_4 four (from_be_bytes w32 four) refl fits refl in
    record {
      count = omega (arith, rest.count);
      spelled = ap (λ (octets : List ℕ). octets ++ asns_spelling (asns_in more)) same ∙ ap (λ (octets : List ℕ). four ++ octets) rest.spelled;
      each = (omega (arith, h 0, h 1, h 2, h 3), rest.each);
    }

-- neither holds
pub or_false : (a b : Bool) → (a || b) ≡ false → (a ≡ false) × (b ≡ false)
or_false true b h = absurd cc
or_false false b h = (refl, h)

-- a number other than 0
pub above : (n : ℕ) → (n ≡ 0 → ⊥) → 0 < n
above zero h = absurd (h refl)
above (suc n) h = omega arith

all_as : (asns : List Asn) → has_zero asns ≡ false → AllByRecursion (λ (asn : Asn). asn.0 < 2 ^ 32) asns → AllByRecursion IsAs asns
all_as [] h each = tt
all_as (asn ∷ more) h each =
    let parts = or_false (asn.0 == 0) (has_zero more) h in
    ((above asn.0 (eqb-false asn.0 0 parts.0), each.0), all_as more parts.1 each.1)

-- a test that let something pass
passed : {A : Type 0} (b : Bool) (o : Option A) (x : A) → (if b then None else o) ≡ Some x → (b ≡ false) × (o ≡ Some x)
passed true o x h = absurd cc
passed false o x h = (refl, h)

-- a segment that was read at the front
pub record IsRead (octets : List ℕ) (s : PathSegment) (rest : List ℕ) : Type 0 where
  pub segment : IsSegment s
  pub spelled : octets ≡ segment_spelling s ++ rest

segment_with-read : (count : ℕ) (more : List ℕ) (kind : SegmentKind) (s : PathSegment) (rest : List ℕ) → count < 256 → AreOctets more → segment_with count more kind ≡ Some (s, rest)
    → IsRead (kind_octet kind ∷ count ∷ more) s rest
segment_with-read count more kind s rest small fits h =
    let asns : List Asn = asns_in (take (4 * count) more) in
    let found : PathSegment × List ℕ = (record { kind = kind; asns = asns }, drop (4 * count) more) in
    let target : PathSegment × List ℕ = (s, rest) in
    let some = passed (count == 0) (if nat_lt (length more) (4 * count) then None else (if has_zero asns then None else Some found)) target h in
    let whole = passed (nat_lt (length more) (4 * count)) (if has_zero asns then None else Some found) target some.1 in
    let good = passed (has_zero asns) (Some found) target whole.1 in
    let enough : 4 * count ≤ length more = ltb-false (length more) (4 * count) whole.0 in
    let read : AreAsns (take (4 * count) more) count = asns_in-octets (take (4 * count) more) count (length-take-le (4 * count) more enough) (octets-take (4 * count) more fits) in
    let parts = some_pair_parts found.0 s found.1 rest good.1 in
    let segment : IsSegment found.0 = record {
      some = omega (arith, read.count, above count (eqb-false count 0 some.0));
      few = omega (arith, read.count);
      each = all_as asns good.0 read.each;
    } in
    let spelled : kind_octet kind ∷ count ∷ more ≡ segment_spelling found.0 ++ found.1 =
    ap (λ (octets : List ℕ). kind_octet kind ∷ count ∷ octets) (sym (take-append-drop (4 * count) more) ∙ ap (λ (octets : List ℕ). octets ++ drop (4 * count) more) (sym read.spelled))
    ∙ ap (λ (n : ℕ). kind_octet kind ∷ n ∷ (asns_spelling asns ++ drop (4 * count) more)) (sym read.count) in
    let P : PathSegment → Type 0 = λ segment. IsRead (kind_octet kind ∷ count ∷ more) segment rest in
    let Q : List ℕ → Type 0 = λ octets. IsRead (kind_octet kind ∷ count ∷ more) found.0 octets in
    subst P parts.0 (subst Q parts.1 (record { segment = segment; spelled = spelled }))

kind_if : (octet : ℕ) (one two : Bool) (kind : SegmentKind) → one ≡ (octet == 1) → two ≡ (octet == 2) → (if one then Some Set else (if two then Some Sequence else None)) ≡ Some kind → octet ≡ kind_octet kind
kind_if octet true two kind e1 e2 h = eqb-true octet 1 (sym e1) ∙ ap kind_octet (same_Some Set kind h)
kind_if octet false true kind e1 e2 h = eqb-true octet 2 (sym e2) ∙ ap kind_octet (same_Some Sequence kind h)
kind_if octet false false kind e1 e2 h = absurd (none-some kind h)

kind_at-read : (octet : ℕ) (kind : SegmentKind) → kind_at octet ≡ Some kind → octet ≡ kind_octet kind
kind_at-read octet kind h = kind_if octet (octet == 1) (octet == 2) kind refl refl h

segment_at-read : (octets : List ℕ) (s : PathSegment) (rest : List ℕ) → AreOctets octets → segment_at octets ≡ Some (s, rest) → IsRead octets s rest
unfolding segment_at
segment_at-read [] s rest fits h = absurd cc
segment_at-read (octet ∷ []) s rest fits h = absurd cc
segment_at-read (octet ∷ count ∷ more) s rest fits h =
    let target : PathSegment × List ℕ = (s, rest) in
    option_and_then_some (segment_with count more) (kind_at octet) target h
    (λ kind is read.
    let P : ℕ → Type 0 = λ first. IsRead (first ∷ count ∷ more) s rest in
    subst P (sym (kind_at-read octet kind is)) (segment_with-read count more kind s rest (fits 1) (λ i. fits (suc (suc i))) read))

behind-read : (s : PathSegment) (o : Option (List PathSegment)) (path : List PathSegment) → behind (s ∷ []) o ≡ Some path → (more : List PathSegment) × (o ≡ Some more) × (path ≡ s ∷ more)
behind-read s None path h = absurd cc
behind-read s (Some more) path h = (more, refl, cc)

spells_more : (octets : List ℕ) (s : PathSegment) (rest : List ℕ) (path more : List PathSegment) → IsRead octets s rest → path ≡ s ∷ more → SpellsPath rest more → SpellsPath octets path
spells_more octets s rest path more read is spelled =
    let P : List PathSegment → Type 0 = SpellsPath octets in
    subst P (sym is) (record { each = (read.segment, spelled.each); spelled = read.spelled ∙ ap (λ (octets : List ℕ). segment_spelling s ++ octets) spelled.spelled })

path_within-read : (n : ℕ) (octets : List ℕ) (path : List PathSegment) → AreOctets octets → path_within n octets ≡ Some path → SpellsPath octets path
unfolding path_within
path_within-read zero [] path fits h =
    let P : List PathSegment → Type 0 = SpellsPath [] in
    subst P (same_Some [] path h) (record { each = tt; spelled = refl })
path_within-read zero (octet ∷ more) path fits h =
    option_and_then_some (λ (found : PathSegment × List ℕ). behind (found.0 ∷ []) None) (segment_at (octet ∷ more)) path h (λ found is read. absurd (none-some path read))
path_within-read (suc n) [] path fits h =
    let P : List PathSegment → Type 0 = SpellsPath [] in
    subst P (same_Some [] path h) (record { each = tt; spelled = refl })
path_within-read (suc n) (octet ∷ more) path fits h =
    option_and_then_some (λ (found : PathSegment × List ℕ). behind (found.0 ∷ []) (path_within n found.1)) (segment_at (octet ∷ more)) path h
    (λ found is read.
    let front : IsRead (octet ∷ more) found.0 found.1 = segment_at-read (octet ∷ more) found.0 found.1 fits is in
    let parts = behind-read found.0 (path_within n found.1) path read in
    let P : List ℕ → Type 0 = AreOctets in
    let behind_fits : AreOctets found.1 = octets-right (segment_spelling found.0) found.1 (subst P front.spelled fits) in
    spells_more (octet ∷ more) found.0 found.1 path parts.0 front parts.2 (path_within-read n found.1 parts.0 behind_fits parts.1))

-- octets that are read as a path spell it
pub path_is_spelled : (octets : List ℕ) (path : List PathSegment) → AreOctets octets → path_at octets ≡ Some path → SpellsPath octets path
unfolding path_at
path_is_spelled octets path fits h = path_within-read (length octets) octets path fits h
