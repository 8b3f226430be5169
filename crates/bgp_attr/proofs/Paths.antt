use Rattle.std.proofs.Common.{◌≡◌, ◌≤◌, ◌<◌, ◌+◌, ◌*◌, Bool, true, false, ℕ, zero, suc, List, [], ◌∷◌, ◌++◌, length, take, drop, length-drop, length-take, nat_lt, if◌then◌else◌, IfSome, is_some, Option, Some, None, arith, refl, sym, ap, subst, ◌∙◌, append_assoc, append-nil}
use Rattle.std.specs.Option.{option_map, option_and_then}
use Rattle.std.proofs.lemmas.Bool.{ltb-false}
use Rattle.std.proofs.lemmas.Option.{none-some, same_Some}
use Rattle.std.specs.Prelude.{◌==◌}
use Rattle.bgp_attr.specs.AsPath.{PathSegment, path_octets, segment_octets}
use Rattle.bgp_attr.specs.PathReading.{asns_in, has_zero, kind_at, path_at, path_within, begins_right, is_sequence_from, segment_at, segment_with}
use Rattle.bgp_attr.specs.declared.as_path.SegmentKind.{SegmentKind}
use Rattle.bgp_attr.specs.declared.peer.PeerKind.TheVariants.{External}
use Rattle.net_prefix.specs.declared.asn.Asn.{Asn}
use Rattle.bgp_attr.proofs.Splits.{no_octets, some_octets}

-- How octets are read as a path.

-- segments, and the path behind them
abbrev pub behind : List PathSegment → Option (List PathSegment) → Option (List PathSegment)
behind front path = option_map (λ segments. front ++ segments) path

-- ASes take four octets each
pub length-asns_in : (octets : List ℕ) → 4 * length (asns_in octets) ≤ length octets
length-asns_in [] = omega arith
length-asns_in (a ∷ []) = omega arith
length-asns_in (a ∷ b ∷ []) = omega arith
length-asns_in (a ∷ b ∷ c ∷ []) = omega arith
length-asns_in (a ∷ b ∷ c ∷ d ∷ more) = omega (arith, length-asns_in more)

pub asns_in_some : (octets : List ℕ) → 4 ≤ length octets → 0 < length (asns_in octets)
asns_in_some [] h = absurd (omega arith)
asns_in_some (a ∷ []) h = absurd (omega arith)
asns_in_some (a ∷ b ∷ []) h = absurd (omega arith)
asns_in_some (a ∷ b ∷ c ∷ []) h = absurd (omega arith)
asns_in_some (a ∷ b ∷ c ∷ d ∷ more) h = omega arith

-- a segment and what is behind it take no more octets than there are
abbrev Fits : List ℕ → Option (PathSegment × List ℕ) → Type 0
Fits octets o = IfSome o (λ found. segment_octets found.0 + length found.1 ≤ length octets)

abbrev segment_of : SegmentKind → ℕ → List ℕ → PathSegment × List ℕ
segment_of kind count more = (record { kind = kind; asns = asns_in (take (4 * count) more) }, drop (4 * count) more)

guarded : {A : Type 0} (P : A → Type 0) (b : Bool) (o : Option A) → IfSome o P → IfSome (if b then None else o) P
guarded P true o h = tt
guarded P false o h = h

cut_fits : (count : ℕ) (more : List ℕ) (kind : SegmentKind) (cut : Bool) → cut ≡ nat_lt (length more) (4 * count)
    → Fits (0 ∷ 0 ∷ more) (if cut then None else (if has_zero (asns_in (take (4 * count) more)) then None else Some (segment_of kind count more)))
cut_fits count more kind true h = tt
cut_fits count more kind false h =
    let enough : 4 * count ≤ length more = ltb-false _ _ (sym h) in
    guarded (λ (found : PathSegment × List ℕ). segment_octets found.0 + length found.1 ≤ suc (suc (length more))) (has_zero (asns_in (take (4 * count) more))) (Some (segment_of kind count more))
    (omega (arith, length-asns_in (take (4 * count) more), length-take (4 * count) more, length-drop (4 * count) more))

kind_fits : (count : ℕ) (more : List ℕ) (o : Option SegmentKind) → Fits (0 ∷ 0 ∷ more) (option_and_then (segment_with count more) o)
kind_fits count more None = tt
kind_fits count more (Some kind) =
    guarded (λ (found : PathSegment × List ℕ). segment_octets found.0 + length found.1 ≤ suc (suc (length more))) (count == 0)
    (if nat_lt (length more) (4 * count) then None else (if has_zero (asns_in (take (4 * count) more)) then None else Some (segment_of kind count more)))
    (cut_fits count more kind (nat_lt (length more) (4 * count)) refl)

segment_at_fits : (octets : List ℕ) → Fits octets (segment_at octets)
unfolding segment_at
segment_at_fits [] = tt
segment_at_fits (kind ∷ []) = tt
segment_at_fits (kind ∷ count ∷ more) = kind_fits count more (kind_at kind)

fits_at : (octets : List ℕ) (s : PathSegment) (rest : List ℕ) → segment_at octets ≡ Some (s, rest) → segment_octets s + length rest ≤ length octets
fits_at octets s rest h = let P : Option (PathSegment × List ℕ) → Type 0 = Fits octets in subst P h (segment_at_fits octets)

-- the path behind a segment
abbrev pub on_segment : (List ℕ → Option (List PathSegment)) → Option (PathSegment × List ℕ) → Option (List PathSegment)
on_segment path o = option_and_then (λ found. option_map (λ segments. found.0 ∷ segments) (path found.1)) o

on_segment_alike : (f g : List ℕ → Option (List PathSegment)) (octets : List ℕ) (o : Option (PathSegment × List ℕ)) → Fits octets o
    → ((rest : List ℕ) → length rest < length octets → f rest ≡ g rest) → on_segment f o ≡ on_segment g o
on_segment_alike f g octets None h same = refl
on_segment_alike f g octets (Some found) h same = ap (λ (path : Option (List PathSegment)). option_map (λ segments. found.0 ∷ segments) path) (same found.1 (omega arith))

-- the number of segments that are allowed does not matter once it is that of the octets
path_within-enough : (n m : ℕ) (octets : List ℕ) → length octets ≤ n → length octets ≤ m → path_within n octets ≡ path_within m octets
unfolding path_within
path_within-enough zero zero octets h k = refl
path_within-enough zero (suc m) [] h k = refl
path_within-enough zero (suc m) (octet ∷ more) h k = absurd (omega arith)
path_within-enough (suc n) zero [] h k = refl
path_within-enough (suc n) zero (octet ∷ more) h k = absurd (omega arith)
path_within-enough (suc n) (suc m) [] h k = refl
path_within-enough (suc n) (suc m) (octet ∷ more) h k =
    on_segment_alike (path_within n) (path_within m) (octet ∷ more) (segment_at (octet ∷ more)) (segment_at_fits (octet ∷ more))
    (λ rest shorter. path_within-enough n m rest (omega arith) (omega arith))

-- no octets are the empty path
pub path_at-empty : (octets : List ℕ) → length octets ≤ 0 → path_at octets ≡ Some []
unfolding path_at path_within
path_at-empty [] h = refl
path_at-empty (octet ∷ more) h = absurd (omega arith)

-- octets with no segment at the front are no path
pub path_at-none : (octets : List ℕ) → 0 < length octets → segment_at octets ≡ None → path_at octets ≡ None
unfolding path_at path_within
path_at-none [] some h = absurd (omega arith)
path_at-none (octet ∷ more) some h =
    path_within-enough (length (octet ∷ more)) (suc (length (octet ∷ more))) (octet ∷ more) (omega arith) (omega arith)
    ∙ ap (on_segment (path_within (length (octet ∷ more)))) h

-- the segment at the front, and the path behind it
pub path_at-some : (octets : List ℕ) (s : PathSegment) (rest : List ℕ) → segment_at octets ≡ Some (s, rest) → path_at octets ≡ behind (s ∷ []) (path_at rest)
unfolding path_at path_within segment_at
path_at-some [] s rest h = absurd cc
path_at-some (octet ∷ more) s rest h =
    let fits : segment_octets s + length rest ≤ length (octet ∷ more) = fits_at (octet ∷ more) s rest h in
    path_within-enough (length (octet ∷ more)) (suc (length (octet ∷ more))) (octet ∷ more) (omega arith) (omega arith)
    ∙ (ap (on_segment (path_within (length (octet ∷ more)))) h
    ∙ ap (λ (path : Option (List PathSegment)). option_map (λ segments. s ∷ segments) path) (path_within-enough (length (octet ∷ more)) (length rest) rest (omega arith) (omega arith)))

map_fits : (octets : List ℕ) (s : PathSegment) (rest : List ℕ) (o : Option (List PathSegment)) → segment_octets s + length rest ≤ length octets → IfSome o (λ path. path_octets path ≤ length rest)
    → IfSome (option_map (λ segments. s ∷ segments) o) (λ path. path_octets path ≤ length octets)
map_fits octets s rest None fits h = tt
map_fits octets s rest (Some path) fits h = omega arith

on_segment_fits : (f : List ℕ → Option (List PathSegment)) (octets : List ℕ) (o : Option (PathSegment × List ℕ)) → Fits octets o
    → ((rest : List ℕ) → IfSome (f rest) (λ path. path_octets path ≤ length rest)) → IfSome (on_segment f o) (λ path. path_octets path ≤ length octets)
on_segment_fits f octets None h all = tt
on_segment_fits f octets (Some found) h all = map_fits octets found.0 found.1 (f found.1) h (all found.1)

-- a path takes no more octets than there are
path_within-octets : (n : ℕ) (octets : List ℕ) → IfSome (path_within n octets) (λ path. path_octets path ≤ length octets)
unfolding path_within
path_within-octets zero [] = omega arith
path_within-octets zero (octet ∷ more) = on_segment_fits (λ rest. None) (octet ∷ more) (segment_at (octet ∷ more)) (segment_at_fits (octet ∷ more)) (λ rest. tt)
path_within-octets (suc n) [] = omega arith
path_within-octets (suc n) (octet ∷ more) = on_segment_fits (path_within n) (octet ∷ more) (segment_at (octet ∷ more)) (segment_at_fits (octet ∷ more)) (λ rest. path_within-octets n rest)

pub path_at_octets : (octets : List ℕ) (path : List PathSegment) → path_at octets ≡ Some path → path_octets path ≤ length octets
unfolding path_at
path_at_octets octets path h = let P : Option (List PathSegment) → Type 0 = λ o. IfSome o (λ p. path_octets p ≤ length octets) in subst P h (path_within-octets (length octets) octets)

-- where a segment begins a path
pub is_some-behind : (front : List PathSegment) (o : Option (List PathSegment)) → is_some (behind front o) ≡ is_some o
is_some-behind front None = refl
is_some-behind front (Some path) = refl

behind-behind : (front : List PathSegment) (s : PathSegment) (o : Option (List PathSegment)) → behind front (behind (s ∷ []) o) ≡ behind (front ++ s ∷ []) o
behind-behind front s None = refl
behind-behind front s (Some path) = ap (λ (segments : List PathSegment). Some segments) (sym (append_assoc front (s ∷ []) path))

-- segments that were read, and one more
pub behind-next : (front new : List PathSegment) (octets : List ℕ) (s : PathSegment) (rest : List ℕ) (whole : Option (List PathSegment)) → segment_at octets ≡ Some (s, rest) → new ≡ front ++ s ∷ []
    → behind front (path_at octets) ≡ whole → behind new (path_at rest) ≡ whole
behind-next front new octets s rest whole h is so_far =
    ap (λ (segments : List PathSegment). behind segments (path_at rest)) is
    ∙ (sym (behind-behind front s (path_at rest)) ∙ (sym (ap (behind front) (path_at-some octets s rest h)) ∙ so_far))

pub behind_nothing : (o : Option (List PathSegment)) → behind [] o ≡ o
behind_nothing None = refl
behind_nothing (Some path) = refl

-- the end of a path, or of what is none
pub behind_end : (front : List PathSegment) (octets : List ℕ) (empty : Bool) → segment_at octets ≡ None → empty ≡ (length octets == 0) → (if empty then Some front else None) ≡ behind front (path_at octets)
behind_end front octets true h is =
    ap (λ (segments : List PathSegment). Some segments) (sym (append-nil front)) ∙ sym (ap (behind front) (path_at-empty octets (no_octets octets true is refl)))
behind_end front octets false h is = sym (ap (behind front) (path_at-none octets (some_octets octets false is refl) h))

begins_behind : (asn : Asn) (s : PathSegment) (o : Option (List PathSegment)) (path : List PathSegment) → behind (s ∷ []) o ≡ Some path → begins_right (External asn) path ≡ is_sequence_from s.kind s.asns asn
begins_behind asn s None path h = absurd cc
begins_behind asn s (Some more) path h =
    let same : path ≡ s ∷ more = cc in
    ap (begins_right (External asn)) same

-- a path begins right as its first segment says, or not at all
pub begins_right-some : (asn : Asn) (octets : List ℕ) (path : List PathSegment) (s : PathSegment) (rest : List ℕ) → segment_at octets ≡ Some (s, rest) → path_at octets ≡ Some path
    → is_sequence_from s.kind s.asns asn ≡ begins_right (External asn) path
begins_right-some asn octets path s rest h is = sym (begins_behind asn s (path_at rest) path (sym (path_at-some octets s rest h) ∙ is))

pub begins_right-none : (asn : Asn) (octets : List ℕ) (path : List PathSegment) → segment_at octets ≡ None → path_at octets ≡ Some path → false ≡ begins_right (External asn) path
begins_right-none asn [] path h is =
    let empty : path ≡ [] = same_Some path [] (sym is ∙ path_at-empty [] (omega arith)) in
    sym (ap (begins_right (External asn)) empty)
begins_right-none asn (octet ∷ more) path h is = absurd (none-some path (sym (path_at-none (octet ∷ more) (omega arith) h) ∙ is))
