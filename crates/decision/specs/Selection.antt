-- The selection of a prefix's best route (RFC 4271 sections 9.1.1 and 9.1.2.2).
use Rattle.std.specs.Prelude.{ℕ, ◌≡◌, ◌≢◌, ◌==◌, Bool, nat_lt, not, unwrap_or, ◌&&◌, List, [], ◌∷◌, filter, fold, AllPairs}
use Rattle.std.specs.List.{list_any}
use Rattle.bgp_attr.specs.PathAttributes.{origin_octet}
use Rattle.decision.specs.declared.candidate.Candidate.{Candidate}

-- the members that no member beats
unfoldable pub unbeaten : (Candidate → Candidate → Bool) → List Candidate → List Candidate
unbeaten beats cs = filter (λ c. not (list_any (λ d. beats d c) cs)) cs

-- the degree of preference is greater
abbrev pub has_greater_degree : Candidate → Candidate → Bool
has_greater_degree d c = nat_lt c.degree d.degree

-- (a) the path has fewer ASes
abbrev pub has_fewer_ases : Candidate → Candidate → Bool
has_fewer_ases d c = nat_lt d.path_length c.path_length

-- (b) the ORIGIN is lower
abbrev pub has_lower_origin : Candidate → Candidate → Bool
has_lower_origin d c = nat_lt (origin_octet d.origin) (origin_octet c.origin)

-- the MULTI_EXIT_DISC, where a missing one counts as 0
abbrev pub med_of : Candidate → ℕ
med_of c = unwrap_or c.med 0

-- (c) the neighbor AS is the same, and the MULTI_EXIT_DISC is lower
abbrev pub has_lower_med : Candidate → Candidate → Bool
has_lower_med d c = d.neighbor.0 == c.neighbor.0 && nat_lt (med_of d) (med_of c)

-- (d) an external peer announced the one, and none the other
abbrev pub is_external_alone : Candidate → Candidate → Bool
is_external_alone d c = d.external && not c.external

-- (e) the interior cost of the next hop is lower
abbrev pub has_lower_cost : Candidate → Candidate → Bool
has_lower_cost d c = nat_lt d.cost c.cost

-- (f) the BGP Identifier of the peer is lower
abbrev pub has_lower_identifier : Candidate → Candidate → Bool
has_lower_identifier d c = nat_lt d.identifier c.identifier

-- (g) the address of the peer is lower
abbrev pub has_lower_address : Candidate → Candidate → Bool
has_lower_address d c = nat_lt d.address c.address

-- what the degrees of preference leave, and then each of the steps in turn
abbrev pub selection : List Candidate → List Candidate
selection cs =
    fold (λ left beats. unbeaten beats left) cs
    (has_greater_degree
    ∷ has_fewer_ases
    ∷ has_lower_origin
    ∷ has_lower_med
    ∷ is_external_alone
    ∷ has_lower_cost
    ∷ has_lower_identifier
    ∷ has_lower_address
    ∷ [])

-- the selection leaves c, and no other one
abbrev pub IsSelected : List Candidate → Candidate → Type 0
IsSelected cs c = selection cs ≡ c ∷ []

-- two of one degree have different addresses
abbrev pub DifferInRank : Candidate → Candidate → Type 0
DifferInRank c d = c.degree ≡ d.degree → c.address ≢ d.address

-- any two of them differ in degree or in address
abbrev pub AreDistinct : List Candidate → Type 0
AreDistinct cs = AllPairs DifferInRank cs
