use Rattle.std.proofs.Common.{◌≡◌, ◌+◌, Bool, true, false, cond, nat_lt, ℕ, zero, suc, List, [], ◌∷◌, ◌++◌, length, replicate, arith, refl, sym, ap, ◌∙◌}
use Rattle.std.specs.List.{AllByRecursion}
use Rattle.std.proofs.lemmas.Bool.{eq-eqb, ltb-true}
use Rattle.net_prefix.specs.declared.asn.Asn.{Asn}
use Rattle.bgp_attr.specs.AsPath.{PathSegment, ases_of, counted, joined, neighbor_as_of, new_segment, path_length_of, prepended, put_in_front}
use Rattle.bgp_attr.specs.AttributeSpelling.{IsAs, IsSegment}
use Rattle.bgp_attr.specs.PathReading.{begins_right}
use Rattle.bgp_attr.specs.declared.peer.PeerKind.TheVariants.{External}
use Rattle.bgp_attr.specs.declared.as_path.SegmentKind.{SegmentKind}
use Rattle.bgp_attr.specs.declared.as_path.SegmentKind.TheVariants.{Set, Sequence}

-- What a path is with an AS in front.

-- an AS joins an AS_SEQUENCE, or begins one
joined_if : SegmentKind → List Asn → Asn → List PathSegment → Bool → List PathSegment
joined_if kind asns asn more room = cond room (let s : PathSegment = record { kind = Sequence; asns = asn ∷ asns } in s ∷ more) (new_segment asn (let s : PathSegment = record { kind = kind; asns = asns } in s ∷ more))

neighbor_joined : (kind : SegmentKind) (asns : List Asn) (asn own : Asn) (more : List PathSegment) (room : Bool) → neighbor_as_of (joined_if kind asns asn more room) own ≡ asn
unfolding joined_if
neighbor_joined kind asns asn own more true = refl
neighbor_joined kind asns asn own more false = refl

neighbor_front : (kind : SegmentKind) (asns : List Asn) (asn own : Asn) (more : List PathSegment) → neighbor_as_of (joined kind asns asn more) own ≡ asn
unfolding joined_if
neighbor_front Set asns asn own more = refl
neighbor_front Sequence asns asn own more = neighbor_joined Sequence asns asn own more (nat_lt (length asns) 255)

neighbor_put : (asn own : Asn) (path : List PathSegment) → neighbor_as_of (put_in_front asn path) own ≡ asn
neighbor_put asn own [] = refl
neighbor_put asn own (segment ∷ more) = neighbor_front segment.kind segment.asns asn own more

-- the neighbor AS of a path with an AS in front is that AS
pub neighbor_prepended : (path : List PathSegment) (asn own : Asn) (times : ℕ) → neighbor_as_of (prepended path asn (suc times)) own ≡ asn
neighbor_prepended path asn own times = neighbor_put asn own (prepended path asn times)

begins_joined : (asns : List Asn) (asn : Asn) (more : List PathSegment) (room : Bool) → begins_right (External asn) (joined_if Sequence asns asn more room) ≡ true
unfolding joined_if
begins_joined asns asn more true = eq-eqb asn.0 asn.0 refl
begins_joined asns asn more false = eq-eqb asn.0 asn.0 refl

begins_front : (kind : SegmentKind) (asns : List Asn) (asn : Asn) (more : List PathSegment) → begins_right (External asn) (joined kind asns asn more) ≡ true
unfolding joined_if
begins_front Set asns asn more = eq-eqb asn.0 asn.0 refl
begins_front Sequence asns asn more = begins_joined asns asn more (nat_lt (length asns) 255)

begins_put : (asn : Asn) (path : List PathSegment) → begins_right (External asn) (put_in_front asn path) ≡ true
begins_put asn [] = eq-eqb asn.0 asn.0 refl
begins_put asn (segment ∷ more) = begins_front segment.kind segment.asns asn more

-- and it begins as the path of a peer in that AS
pub begins_prepended : (path : List PathSegment) (asn : Asn) (times : ℕ) → begins_right (External asn) (prepended path asn (suc times)) ≡ true
begins_prepended path asn times = begins_put asn (prepended path asn times)

ases_joined : (asns : List Asn) (asn : Asn) (more : List PathSegment) (room : Bool) → ases_of (joined_if Sequence asns asn more room) ≡ asn ∷ (asns ++ ases_of more)
unfolding joined_if
ases_joined asns asn more true = refl
ases_joined asns asn more false = refl

ases_front : (kind : SegmentKind) (asns : List Asn) (asn : Asn) (more : List PathSegment) → ases_of (joined kind asns asn more) ≡ asn ∷ (asns ++ ases_of more)
unfolding joined_if
ases_front Set asns asn more = refl
ases_front Sequence asns asn more = ases_joined asns asn more (nat_lt (length asns) 255)

ases_put : (asn : Asn) (path : List PathSegment) → ases_of (put_in_front asn path) ≡ asn ∷ ases_of path
ases_put asn [] = refl
ases_put asn (segment ∷ more) = ases_front segment.kind segment.asns asn more

-- its ASes are that AS so many times, and then those of the path
pub ases_prepended : (path : List PathSegment) (asn : Asn) (times : ℕ) → ases_of (prepended path asn times) ≡ replicate times asn ++ ases_of path
ases_prepended path asn zero = refl
ases_prepended path asn (suc times) = ases_put asn (prepended path asn times) ∙ ap (λ (ases : List Asn). asn ∷ ases) (ases_prepended path asn times)

length_joined : (asns : List Asn) (asn : Asn) (more : List PathSegment) (room : Bool) → path_length_of (joined_if Sequence asns asn more room) ≡ 1 + (length asns + path_length_of more)
unfolding joined_if
length_joined asns asn more true = omega arith
length_joined asns asn more false = omega arith

length_front : (kind : SegmentKind) (asns : List Asn) (asn : Asn) (more : List PathSegment) → path_length_of (joined kind asns asn more) ≡ 1 + (counted kind (length asns) + path_length_of more)
unfolding joined_if
length_front Set asns asn more = omega arith
length_front Sequence asns asn more = length_joined asns asn more (nat_lt (length asns) 255)

length_put : (asn : Asn) (path : List PathSegment) → path_length_of (put_in_front asn path) ≡ 1 + path_length_of path
length_put asn [] = refl
length_put asn (segment ∷ more) = length_front segment.kind segment.asns asn more

-- it counts so many ASes more
pub length_prepended : (path : List PathSegment) (asn : Asn) (times : ℕ) → path_length_of (prepended path asn times) ≡ times + path_length_of path
length_prepended path asn zero = omega arith
length_prepended path asn (suc times) = omega (arith, length_put asn (prepended path asn times), length_prepended path asn times)

segments_joined : (asns : List Asn) (asn : Asn) (more : List PathSegment) (room : Bool) → room ≡ nat_lt (length asns) 255 → IsAs asn → IsSegment (record { kind = Sequence; asns = asns }) → AllByRecursion IsSegment more → AllByRecursion IsSegment (joined_if Sequence asns asn more room)
unfolding joined_if
segments_joined asns asn more true is good first each =
    (record { some = omega arith; few = omega (arith, ltb-true (length asns) 255 (sym is)); each = (good, first.each) }, each)
segments_joined asns asn more false is good first each = (record { some = omega arith; few = omega arith; each = (good, tt) }, (first, each))

segments_front : (kind : SegmentKind) (asns : List Asn) (asn : Asn) (more : List PathSegment) → IsAs asn → IsSegment (record { kind = kind; asns = asns }) → AllByRecursion IsSegment more → AllByRecursion IsSegment (joined kind asns asn more)
unfolding joined_if
segments_front Set asns asn more good first each = (record { some = omega arith; few = omega arith; each = (good, tt) }, (first, each))
segments_front Sequence asns asn more good first each = segments_joined asns asn more (nat_lt (length asns) 255) refl good first each

segments_put : (asn : Asn) (path : List PathSegment) → IsAs asn → AllByRecursion IsSegment path → AllByRecursion IsSegment (put_in_front asn path)
segments_put asn [] good each = (record { some = omega arith; few = omega arith; each = (good, tt) }, tt)
segments_put asn (segment ∷ more) good each = segments_front segment.kind segment.asns asn more good each.0 each.1

-- and no segment of it is too long
pub segments_prepended : (path : List PathSegment) (asn : Asn) (times : ℕ) → IsAs asn → AllByRecursion IsSegment path → AllByRecursion IsSegment (prepended path asn times)
segments_prepended path asn zero good each = each
segments_prepended path asn (suc times) good each = segments_put asn (prepended path asn times) good (segments_prepended path asn times good each)
