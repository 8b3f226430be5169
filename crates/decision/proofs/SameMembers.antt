-- Lists of the same members select the same one.
use Rattle.std.proofs.Common.{◌≡◌, ◌↔◌, Bool, inl, inr, List, [], ◌∷◌, Contains, sym, subst}
use Rattle.decision.specs.declared.candidate.Candidate.{Candidate}
use Rattle.decision.specs.Selection.{unbeaten, has_greater_degree, has_fewer_ases, has_lower_origin, has_lower_med, is_external_alone, has_lower_cost, has_lower_identifier, has_lower_address, selection, IsSelected}
use Rattle.decision.proofs.One.{Among, among_unbeaten}
use Rattle.decision.proofs.Laws.{at_among, contains_among, unbeaten_among, among_one}

-- the lists have the same members
abbrev HaveSameMembers : List Candidate → List Candidate → Type 0
HaveSameMembers cs ds = (x : Candidate) → Among x cs ↔ Among x ds

left_there : (beats : Candidate → Candidate → Bool) (cs ds : List Candidate) → HaveSameMembers cs ds → (x : Candidate) → Among x (unbeaten beats cs) → Among x (unbeaten beats ds)
left_there beats cs ds same x at =
    let left = among_unbeaten beats cs x at in
    unbeaten_among beats ds x ((same x).0 left.0) (λ y among. left.1 y ((same y).1 among))

same_left : (beats : Candidate → Candidate → Bool) (cs ds : List Candidate) → HaveSameMembers cs ds → HaveSameMembers (unbeaten beats cs) (unbeaten beats ds)
same_left beats cs ds same x = (left_there beats cs ds same x, left_there beats ds cs (λ y. ((same y).1, (same y).0)) x)

same_selection : (cs ds : List Candidate) → HaveSameMembers cs ds → HaveSameMembers (selection cs) (selection ds)
same_selection cs ds same =
    same_left has_lower_address _ _
    (same_left has_lower_identifier _ _
    (same_left has_lower_cost _ _
    (same_left is_external_alone _ _
    (same_left has_lower_med _ _
    (same_left has_lower_origin _ _
    (same_left has_fewer_ases _ _
    (same_left has_greater_degree cs ds same)))))))

among_contained : (cs : List Candidate) (x : Candidate) → Contains cs x → Among x cs
among_contained cs x at = subst (λ y. Among y cs) at.2 (at_among cs at.0 x at.1)

one_among : (c d : Candidate) → Among c (d ∷ []) → c ≡ d
one_among c d (inl is) = sym is
one_among c d (inr at) = absurd at

-- lists of the same members select the same one
pub same_selected : (cs ds : List Candidate) (c d : Candidate) → ((x : Candidate) → Contains cs x ↔ Contains ds x) → IsSelected cs c → IsSelected ds d → c ≡ d
same_selected cs ds c d same is also =
    let members : HaveSameMembers cs ds = λ x. (λ at. among_contained ds x ((same x).0 (contains_among cs x at)), λ at. among_contained cs x ((same x).1 (contains_among ds x at))) in
    one_among c d (subst (Among c) also ((same_selection cs ds members c).0 (among_one cs c is)))
