-- What goes on to a peer are attributes that may.
use Rattle.std.proofs.Common.{◌≡◌, ◌≤◌, nat_le, Bool, true, false, ℕ, List, length, Option, Some, None, arith, subst, refl, if◌then◌else◌}
use Rattle.std.proofs.lemmas.Bool.{leb-true}
use Rattle.std.specs.Bool.{OnTrue}
use Rattle.bgp_attr.specs.AttributeSpelling.{attributes_spelling}
use Rattle.bgp_attr.specs.PathAttributes.{PathAttributes}
use Rattle.bgp_attr.specs.TravellingAttributes.{AreTravelling, MayAllTravel}
use Rattle.bgp_attr.proofs.Travelling.{spelling_travels}
use Rattle.decision.specs.declared.candidate.Candidate.{Candidate}
use Rattle.export_rules.specs.Export.{Tells, announced_by, export_at, exported_of, fitting, in_front, is_internal, is_kept_from, passed_inside, sent_of}
use Rattle.export_rules.specs.Rewriting.{rewritten, written}
use Rattle.export_rules.specs.declared.export.ExportPeer.{ExportPeer}
use Rattle.export_rules.specs.declared.export.Rewrite.{Rewrite}
use Rattle.export_rules.specs.declared.export.Rewrite.TheVariants.{External, Internal}
use Rattle.policy.specs.declared.rule.Action.{Action}
use Rattle.policy.specs.declared.rule.Action.TheVariants.{Reject, Accept}

fits_so : (fits : Bool) (octets out : List ℕ) → nat_le (length octets) 4068 ≡ fits → (if fits then Some octets else None) ≡ Some out → (octets ≡ out) × (length octets ≤ 4068)
fits_so true octets out is same = (cc, leb-true (length octets) 4068 is)
fits_so false octets out is same = absurd cc

-- what a message holds of attributes whose unknown ones may travel
fitting_travels : (sent : PathAttributes) (out : List ℕ) → MayAllTravel sent.unknown → fitting (attributes_spelling sent) ≡ Some out → AreTravelling out
fitting_travels sent out all same =
    let fits = fits_so (nat_le (length (attributes_spelling sent)) 4068) (attributes_spelling sent) out refl same in
    subst AreTravelling fits.0 (spelling_travels sent all (omega (arith, fits.1)))

told_travels : (told : Bool) (out : List ℕ) (sent : PathAttributes) → MayAllTravel sent.unknown → Tells told out (fitting (attributes_spelling sent)) → OnTrue told (AreTravelling out)
told_travels true out sent all told = fitting_travels sent out all told
told_travels false out sent all told = tt

-- what is written of changed attributes
pub rewritten_travels : (told : Bool) (out : List ℕ) (rewrite : Rewrite) (attrs : PathAttributes) → MayAllTravel attrs.unknown → Tells told out (written rewrite attrs) → OnTrue told (AreTravelling out)
rewritten_travels told out (External own times local med) attrs all is = told_travels told out (rewritten (External own times local med) attrs) all is
rewritten_travels told out (Internal next_hop med local_pref) attrs all is = told_travels told out (rewritten (Internal next_hop med local_pref) attrs) all is

-- what is passed on of a route is unknown as it came
inside_same : (route : Candidate) (attrs : PathAttributes) (peer : ExportPeer) (med : Option ℕ) → MayAllTravel attrs.unknown → MayAllTravel (passed_inside route attrs peer med).unknown
unfolding passed_inside
inside_same route attrs peer med all = all

outside_same : (attrs : PathAttributes) (peer : ExportPeer) (med : Option ℕ) (times : ℕ) → MayAllTravel attrs.unknown → MayAllTravel (exported_of attrs peer med times).unknown
unfolding exported_of
outside_same attrs peer med times all = all

sent_if : (inside : Bool) (route : Candidate) (attrs : PathAttributes) (peer : ExportPeer) (med : Option ℕ) (times : ℕ) → MayAllTravel attrs.unknown
    → MayAllTravel (if inside then passed_inside route attrs peer med else exported_of attrs peer med times).unknown
sent_if true route attrs peer med times all = inside_same route attrs peer med all
sent_if false route attrs peer med times all = outside_same attrs peer med times all

announced_travels : (action : Action) (route : Candidate) (attrs : PathAttributes) (peer : ExportPeer) (out : List ℕ) → MayAllTravel attrs.unknown → announced_by action route attrs peer ≡ Some out → AreTravelling out
announced_travels Reject route attrs peer out all is = absurd cc
announced_travels (Accept degree med prepend) route attrs peer out all is = fitting_travels (sent_of route attrs peer med prepend) out (sent_if (is_internal peer) route attrs peer med (in_front prepend) all) is

export_if : (kept : Bool) (route : Candidate) (attrs : PathAttributes) (peer : ExportPeer) (action : Action) (out : List ℕ) → MayAllTravel attrs.unknown
    → (if kept then None else announced_by action route attrs peer) ≡ Some out → AreTravelling out
export_if true route attrs peer action out all is = absurd cc
export_if false route attrs peer action out all is = announced_travels action route attrs peer out all is

-- the export of a route of which each unknown attribute may travel
pub export_travels : (route : Candidate) (attrs : PathAttributes) (peer : ExportPeer) (action : Action) (out : List ℕ) → MayAllTravel attrs.unknown → export_at route attrs peer action ≡ Some out → AreTravelling out
export_travels route attrs peer action out all is = export_if (is_kept_from route peer) route attrs peer action out all is
