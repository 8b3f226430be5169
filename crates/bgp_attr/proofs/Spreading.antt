use Rattle.std.proofs.Common.{◌≡◌, ◌≤◌, ◌<◌, ◌+◌, ◌-◌, ◌*◌, ◌/◌, ◌%◌, ℕ, zero, suc, List, [], ◌∷◌, ◌++◌, length, replicate, arith, refl, sym, ap, ◌∙◌, length-append}
use Rattle.std.proofs.lemmas.List.{length-replicate}
use Rattle.net_prefix.specs.declared.asn.Asn.{Asn}
use Rattle.bgp_attr.specs.declared.as_path.SegmentKind.{SegmentKind}
use Rattle.bgp_attr.specs.declared.as_path.SegmentKind.TheVariants.{Set, Sequence}
use Rattle.bgp_attr.specs.AsPath.{PathSegment, put_in_front, prepended, path_octets}
use Rattle.bgp_attr.specs.Spread.{run, part_of, joining_of, room_in, room_of, new_of, part_count, spread_of}

-- Putting an AS in front one at a time is spreading it over segments.

-- some in front, and then more
prepended-add : (path : List PathSegment) (asn : Asn) (m n : ℕ) → prepended path asn (m + n) ≡ prepended (prepended path asn n) asn m
prepended-add path asn zero n = let e : 0 + n ≡ n = omega arith in ap (prepended path asn) e
prepended-add path asn (suc m) n =
    let e : suc m + n ≡ suc (m + n) = omega arith in
    ap (prepended path asn) e ∙ ap (put_in_front asn) (prepended-add path asn m n)

-- no AS joins
joining_of-zero : (path : List PathSegment) (asn : Asn) → joining_of path asn 0 ≡ path
joining_of-zero [] asn = refl
joining_of-zero (segment ∷ more) asn = refl

-- one more joins where there is room
join_one : (kind : SegmentKind) (asns : List Asn) (more : List PathSegment) (asn : Asn) (n : ℕ) → suc n ≤ room_in kind (length asns)
    → put_in_front asn (record { kind = kind; asns = replicate n asn ++ asns } ∷ more) ≡ record { kind = kind; asns = replicate (suc n) asn ++ asns } ∷ more
join_one Set asns more asn n h = absurd (omega arith)
join_one Sequence asns more asn n h =
    let few : length (replicate n asn ++ asns) < 255 = simp (length-append, length-replicate) (omega arith) in
    grind (arith, few)

joins : (path : List PathSegment) (asn : Asn) (n : ℕ) → n ≤ room_of path → prepended path asn n ≡ joining_of path asn n
joins path asn zero h = sym (joining_of-zero path asn)
joins [] asn (suc n) h = absurd (omega arith)
joins (segment ∷ more) asn (suc n) h =
    let small : n ≤ room_of (segment ∷ more) = omega arith in
    ap (put_in_front asn) (joins (segment ∷ more) asn n small) ∙ join_one segment.kind segment.asns more asn n h

-- an AS begins a new segment where there is no room
begin_in : (kind : SegmentKind) (asns : List Asn) (more : List PathSegment) (asn : Asn) → room_in kind (length asns) ≡ 0
    → put_in_front asn (record { kind = kind; asns = asns } ∷ more) ≡ run asn 1 ∷ record { kind = kind; asns = asns } ∷ more
unfolding run
begin_in Set asns more asn h = refl
begin_in Sequence asns more asn h =
    let many : 255 ≤ length asns = omega arith in
    grind (arith, many)

begin : (path : List PathSegment) (asn : Asn) → room_of path ≡ 0 → put_in_front asn path ≡ run asn 1 ∷ path
unfolding run
begin [] asn h = refl
begin (segment ∷ more) asn h = begin_in segment.kind segment.asns more asn h

-- up to 255 ASes are one new segment
new_part : (path : List PathSegment) (asn : Asn) (n : ℕ) → room_of path ≡ 0 → n ≤ 255 → prepended path asn n ≡ part_of asn n ++ path
unfolding run
new_part path asn zero full h = refl
new_part path asn (suc zero) full h = begin path asn full
new_part path asn (suc (suc n)) full h =
    let small : suc n ≤ 255 = omega arith in
    let few : length (replicate (suc n) asn) < 255 = simp length-replicate (omega arith) in
    let one : put_in_front asn (run asn (suc n) ∷ path) ≡ run asn (suc (suc n)) ∷ path = grind (arith, few) in
    ap (put_in_front asn) (new_part path asn (suc n) full small) ∙ one

-- whole new segments leave no room
room_of-full : (path : List PathSegment) (asn : Asn) (full : ℕ) → room_of path ≡ 0 → room_of (replicate full (run asn 255) ++ path) ≡ 0
unfolding run
room_of-full path asn zero h = h
room_of-full path asn (suc full) h = omega (arith, length-replicate 255 asn)

new_full : (path : List PathSegment) (asn : Asn) (full : ℕ) → room_of path ≡ 0 → prepended path asn (255 * full) ≡ replicate full (run asn 255) ++ path
unfolding run
new_full path asn zero h = refl
new_full path asn (suc full) h =
    let e : 255 * suc full ≡ 255 + 255 * full = omega arith in
    ap (prepended path asn) e
    ∙ (prepended-add path asn 255 (255 * full)
    ∙ (ap (λ (base : List PathSegment). prepended base asn 255) (new_full path asn full h)
    ∙ new_part (replicate full (run asn 255) ++ path) asn 255 (room_of-full path asn full h) (omega arith)))

-- ASes over a path without room
new_segments : (path : List PathSegment) (asn : Asn) (n : ℕ) → room_of path ≡ 0 → prepended path asn n ≡ part_of asn (n % 255) ++ (replicate (n / 255) (run asn 255) ++ path)
new_segments path asn n h =
    let e : n ≡ n % 255 + 255 * (n / 255) = omega arith in
    let few : n % 255 ≤ 255 = omega arith in
    ap (prepended path asn) e
    ∙ (prepended-add path asn (n % 255) (255 * (n / 255))
    ∙ (ap (λ (base : List PathSegment). prepended base asn (n % 255)) (new_full path asn (n / 255) h)
    ∙ new_part (replicate (n / 255) (run asn 255) ++ path) asn (n % 255) (room_of-full path asn (n / 255) h) few))

over : (base : List PathSegment) (asn : Asn) (n : ℕ) → (0 < n → room_of base ≡ 0) → prepended base asn n ≡ part_of asn (n % 255) ++ (replicate (n / 255) (run asn 255) ++ base)
over base asn zero h = refl
over base asn (suc n) h = new_segments base asn (suc n) (h (omega arith))

-- a first segment that as many joined as could has no more room
room_in-filled : (kind : SegmentKind) (asns : List Asn) (asn : Asn) (n : ℕ) → n ≡ room_in kind (length asns) → room_in kind (length (replicate n asn ++ asns)) ≡ 0
room_in-filled Set asns asn n h = refl
room_in-filled Sequence asns asn n h = simp (length-append, length-replicate) (omega arith)

room_of-joining_of : (path : List PathSegment) (asn : Asn) (n : ℕ) → n ≡ room_of path → room_of (joining_of path asn n) ≡ 0
room_of-joining_of [] asn n h = refl
room_of-joining_of (segment ∷ more) asn n h = room_in-filled segment.kind segment.asns asn n h

-- one at a time, or spread
pub prepended_spread : (path : List PathSegment) (asn : Asn) (times : ℕ) → prepended path asn times ≡ spread_of path asn times
prepended_spread path asn times =
    let e : times ≡ new_of path times + (times - new_of path times) = omega arith in
    let small : times - new_of path times ≤ room_of path = omega arith in
    ap (prepended path asn) e
    ∙ (prepended-add path asn (new_of path times) (times - new_of path times)
    ∙ (ap (λ (base : List PathSegment). prepended base asn (new_of path times)) (joins path asn (times - new_of path times) small)
    ∙ over (joining_of path asn (times - new_of path times)) asn (new_of path times) (λ h. room_of-joining_of path asn (times - new_of path times) (omega arith))))

-- what the spread path takes
path_octets-append : (xs ys : List PathSegment) → path_octets (xs ++ ys) ≡ path_octets xs + path_octets ys
path_octets-append [] ys = omega arith
path_octets-append (x ∷ xs) ys = omega (arith, path_octets-append xs ys)

path_octets-part_of : (asn : Asn) (n : ℕ) → path_octets (part_of asn n) ≡ 4 * n + 2 * part_count n
unfolding run
path_octets-part_of asn zero = refl
path_octets-part_of asn (suc n) = omega (arith, length-replicate (suc n) asn)

path_octets-full : (asn : Asn) (full : ℕ) → path_octets (replicate full (run asn 255)) ≡ 1022 * full
unfolding run
path_octets-full asn zero = refl
path_octets-full asn (suc full) = omega (arith, path_octets-full asn full, length-replicate 255 asn)

path_octets-joining_of : (path : List PathSegment) (asn : Asn) (n : ℕ) → n ≤ room_of path → path_octets (joining_of path asn n) ≡ path_octets path + 4 * n
path_octets-joining_of [] asn n h = omega arith
path_octets-joining_of (segment ∷ more) asn n h = omega (arith, length-append (replicate n asn) segment.asns, length-replicate n asn)

pub prepended_octets : (path : List PathSegment) (asn : Asn) (times : ℕ)
    → path_octets (prepended path asn times) ≡ path_octets path + 4 * times + 2 * (new_of path times / 255 + part_count (new_of path times % 255))
prepended_octets path asn times =
    let small : times - new_of path times ≤ room_of path = omega arith in
    ap path_octets (prepended_spread path asn times)
    ∙ omega (
      arith,
      path_octets-append (part_of asn (new_of path times % 255)) (replicate (new_of path times / 255) (run asn 255) ++ joining_of path asn (times - new_of path times)),
      path_octets-append (replicate (new_of path times / 255) (run asn 255)) (joining_of path asn (times - new_of path times)),
      path_octets-part_of asn (new_of path times % 255),
      path_octets-full asn (new_of path times / 255),
      path_octets-joining_of path asn (times - new_of path times) small,
    )
