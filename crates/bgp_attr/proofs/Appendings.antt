use Rattle.std.proofs.Common.{◌≡◌, ◌≤◌, ◌<◌, ◌+◌, ◌*◌, ◌-◌, ◌/◌, ◌%◌, ℕ, zero, suc, Bool, true, false, List, [], ◌∷◌, ◌++◌, length, get_or, drop, replicate, arith, refl, sym, ap, subst, ◌∙◌, append_assoc, append-nil, length-append, length-drop, slice_index_or}
use Rattle.std.proofs.lemmas.List.{length-replicate}
use Rattle.std.specs.Int.{to_be_bytes, w32}
use Rattle.net_prefix.specs.declared.asn.Asn.{Asn}
use Rattle.bgp_attr.specs.Appending.{Appends}
use Rattle.bgp_attr.specs.AsPath.{PathSegment, path_octets, prepended}
use Rattle.bgp_attr.specs.AttributeSpelling.{asns_spelling, segment_spelling, path_spelling, type_spelling, unknown_in_part, unknown_spelling}
use Rattle.std.specs.List.{flat_map}
use Rattle.bgp_attr.specs.PathAttributes.{PathAttributes}
use Rattle.bgp_attr.specs.UnknownAttributes.{Unknown}
use Rattle.bgp_attr.specs.declared.attribute_type.AttributeType.{AttributeType}
use Rattle.bgp_attr.specs.Spread.{run, part_of, joining_of, new_of, spread_path}
use Rattle.bgp_attr.specs.declared.as_path.SegmentKind.TheVariants.{Sequence}
use Rattle.bgp_attr.proofs.Spreading.{prepended_spread}

-- Appending one thing after another.

-- behind a front that stands there already
pub appends_more : (r : Bool) (old mid new a b : List ℕ) → mid ≡ old ++ a → Appends r mid new b → Appends r old new (a ++ b)
appends_more true old mid new a b front h = h ∙ (ap (λ (octets : List ℕ). octets ++ b) front ∙ append_assoc old a b)
appends_more false old mid new a b front h = omega (arith, h, ap length front, length-append old a, length-append a b)

-- what has no room has none with more behind it
pub appends_not : (r : Bool) (old mid new a b : List ℕ) → r ≡ false → Appends r old mid a → Appends r old new (a ++ b)
appends_not true old mid new a b is h = absurd (cc)
appends_not false old mid new a b is h = omega (arith, h, length-append a b)

-- the same octets
pub appends_as : (r : Bool) (old new a b : List ℕ) → a ≡ b → Appends r old new a → Appends r old new b
appends_as r old new a b same h = let P : List ℕ → Type 0 = λ octets. Appends r old new octets in subst P same h

-- a loop that stops for want of room
pub stops : (old out rest whole : List ℕ) (n : ℕ) → out ++ rest ≡ old ++ whole → n ≤ length rest → 4096 < length out + n → 4096 < length old + length whole
stops old out rest whole n same few long = omega (arith, long, few, ap length same, length-append out rest, length-append old whole)

-- a loop that goes on
steps : (out new bytes more : List ℕ) → new ≡ out ++ bytes → new ++ more ≡ out ++ (bytes ++ more)
steps out new bytes more h = ap (λ (octets : List ℕ). octets ++ more) h ∙ append_assoc out bytes more

pub asn_step : (out new bytes whole : List ℕ) (asn : Asn) (n m : ℕ) → n ≡ suc m → out ++ asns_spelling (replicate n asn) ≡ whole → bytes ≡ to_be_bytes w32 asn.0 → new ≡ out ++ bytes
    → new ++ asns_spelling (replicate m asn) ≡ whole
asn_step out new bytes whole asn n m e same is h =
    let one : new ≡ out ++ to_be_bytes w32 asn.0 = h ∙ ap (λ (octets : List ℕ). out ++ octets) is in
    steps out new (to_be_bytes w32 asn.0) (asns_spelling (replicate m asn)) one
    ∙ (sym (ap (λ (k : ℕ). out ++ asns_spelling (replicate k asn)) e) ∙ same)

pub segment_step : (out new whole : List ℕ) (segment : PathSegment) (n m : ℕ) → n ≡ suc m → out ++ path_spelling (replicate n segment) ≡ whole → new ≡ out ++ segment_spelling segment
    → new ++ path_spelling (replicate m segment) ≡ whole
segment_step out new whole segment n m e same h =
    steps out new (segment_spelling segment) (path_spelling (replicate m segment)) h
    ∙ (sym (ap (λ (k : ℕ). out ++ path_spelling (replicate k segment)) e) ∙ same)

-- spellings of lists
pub asns_spelling-append : (xs ys : List Asn) → asns_spelling (xs ++ ys) ≡ asns_spelling xs ++ asns_spelling ys
asns_spelling-append [] ys = refl
asns_spelling-append (x ∷ xs) ys = ap (λ (more : List ℕ). to_be_bytes w32 x.0 ++ more) (asns_spelling-append xs ys) ∙ sym (append_assoc (to_be_bytes w32 x.0) (asns_spelling xs) (asns_spelling ys))

path_spelling-append : (xs ys : List PathSegment) → path_spelling (xs ++ ys) ≡ path_spelling xs ++ path_spelling ys
path_spelling-append [] ys = refl
path_spelling-append (x ∷ xs) ys = ap (λ (more : List ℕ). segment_spelling x ++ more) (path_spelling-append xs ys) ∙ sym (append_assoc (segment_spelling x) (path_spelling xs) (path_spelling ys))

-- their lengths
pub length-to_be_bytes : (n : ℕ) → length (to_be_bytes w32 n) ≡ 4
length-to_be_bytes n = refl

pub length-asns_spelling : (asns : List Asn) → length (asns_spelling asns) ≡ 4 * length asns
length-asns_spelling [] = refl
length-asns_spelling (asn ∷ more) = omega (arith, length-append (to_be_bytes w32 asn.0) (asns_spelling more), length-to_be_bytes asn.0, length-asns_spelling more)

pub length-path_spelling : (path : List PathSegment) → length (path_spelling path) ≡ path_octets path
length-path_spelling [] = refl
length-path_spelling (segment ∷ more) = omega (arith, length-append (segment_spelling segment) (path_spelling more), length-asns_spelling segment.asns, length-path_spelling more)

-- what is still to come has room for the next
pub asn_in_rest : (asns : List Asn) (i : ℕ) → i < length asns → 4 ≤ length (asns_spelling (drop i asns))
asn_in_rest asns i h = omega (arith, length-asns_spelling (drop i asns), length-drop i asns)

pub asn_in_run : (asn : Asn) (n : ℕ) → 0 < n → 4 ≤ length (asns_spelling (replicate n asn))
asn_in_run asn n h = omega (arith, length-asns_spelling (replicate n asn), length-replicate n asn)

pub segment_in_run : (segment : PathSegment) (n : ℕ) → 0 < n → length (segment_spelling segment) ≤ length (path_spelling (replicate n segment))
segment_in_run segment zero h = absurd (omega arith)
segment_in_run segment (suc m) h = omega (arith, length-append (segment_spelling segment) (path_spelling (replicate m segment)))

pub segment_in_rest : (path : List PathSegment) (i : ℕ) (segment : PathSegment) → i < length path → get_or path i segment ≡ segment → 2 + 4 * length segment.asns ≤ length (path_spelling (drop i path))
segment_in_rest [] i segment h e = absurd (omega arith)
segment_in_rest (first ∷ more) zero segment h e =
    let same : length first.asns ≡ length segment.asns = ap (λ (s : PathSegment). length s.asns) e in
    omega (arith, same, length-append (segment_spelling first) (path_spelling more), length-asns_spelling first.asns)
segment_in_rest (first ∷ more) (suc i) segment h e =
    let below : i < length more = omega arith in
    segment_in_rest more i segment below e

-- a new segment has no other ASes
pub run_alone : (asn : Asn) (n : ℕ) → segment_spelling (record { kind = Sequence; asns = replicate n asn ++ [] }) ≡ segment_spelling (run asn n)
unfolding run
run_alone asn n = ap (λ (asns : List Asn). segment_spelling (record { kind = Sequence; asns = asns })) (append-nil (replicate n asn))

-- the ASes in front, spread, and then the path
pub spread_spelling : (path segments : List PathSegment) (asn : Asn) (times part full joining : ℕ) → segments ≡ path
    → part ≡ new_of path times % 255 → full ≡ new_of path times / 255 → joining ≡ times - new_of path times
    → path_spelling (part_of asn part ++ replicate full (run asn 255)) ++ path_spelling (joining_of segments asn joining) ≡ path_spelling (prepended path asn times)
spread_spelling path segments asn times part full joining same is_part is_full is_joining =
    sym (path_spelling-append (part_of asn part ++ replicate full (run asn 255)) (joining_of segments asn joining))
    ∙ (ap path_spelling (append_assoc (part_of asn part) (replicate full (run asn 255)) (joining_of segments asn joining))
    ∙ (ap (λ (s : List PathSegment). path_spelling (spread_path s asn part full joining)) same
    ∙ (ap (λ (n : ℕ). path_spelling (spread_path path asn n full joining)) is_part
    ∙ (ap (λ (n : ℕ). path_spelling (spread_path path asn (new_of path times % 255) n joining)) is_full
    ∙ (ap (λ (n : ℕ). path_spelling (spread_path path asn (new_of path times % 255) (new_of path times / 255) n)) is_joining
    ∙ sym (ap path_spelling (prepended_spread path asn times)))))))

-- one unknown attribute in its part
pub part_step : (out new whole : List ℕ) (first : Bool) (e : ℕ × List ℕ) (s t : Unknown) → s ≡ e ∷ t → out ++ unknown_spelling first s ≡ whole → new ≡ out ++ unknown_in_part first e → new ++ unknown_spelling first t ≡ whole
part_step out new whole first e s t is same h =
    steps out new (unknown_in_part first e) (unknown_spelling first t) h ∙ (sym (ap (λ (u : Unknown). out ++ unknown_spelling first u) is) ∙ same)

pub part_stops : (old out whole : List ℕ) (first : Bool) (e : ℕ × List ℕ) (s t : Unknown) → s ≡ e ∷ t → out ++ unknown_spelling first s ≡ old ++ whole → 4096 < length out + length (unknown_in_part first e)
    → 4096 < length old + length whole
part_stops old out whole first e s t is same long =
    stops old out (unknown_spelling first (e ∷ t)) whole (length (unknown_in_part first e)) (sym (ap (λ (u : Unknown). out ++ unknown_spelling first u) is) ∙ same)
    (omega (arith, length-append (unknown_in_part first e) (unknown_spelling first t))) long

-- the first of what is still to come is too long
pub first_stops : (old out whole : List ℕ) (first : Bool) (e : ℕ × List ℕ) (s : Unknown) → 1 ≤ length s → e ≡ slice_index_or s 0 e → out ++ unknown_spelling first s ≡ old ++ whole
    → 4096 < length out + length (unknown_in_part first e) → 4096 < length old + length whole
first_stops old out whole first e [] some is same long = absurd (omega (arith, some))
first_stops old out whole first e (x ∷ t) some is same long = part_stops old out whole first e (x ∷ t) t (ap (λ y. y ∷ t) (sym is)) same long

-- what is still to come has the next type
pub type_in_rest : (attrs : PathAttributes) (among : List AttributeType) (i : ℕ) (other : AttributeType) → i < length among → length (type_spelling attrs (get_or among i other)) ≤ length (flat_map (type_spelling attrs) (drop i among))
type_in_rest attrs [] i other h = absurd (omega arith)
type_in_rest attrs (t ∷ more) zero other h = omega (arith, length-append (type_spelling attrs t) (flat_map (type_spelling attrs) more))
type_in_rest attrs (t ∷ more) (suc i) other h = type_in_rest attrs more i other (omega arith)
