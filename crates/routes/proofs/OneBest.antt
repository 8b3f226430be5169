use Rattle.std.proofs.Common.{◌≡◌, ◌↔◌, ℕ, inl, inr, List, Option, Some, None, MatchOption, Contains, refl, sym, ap, ◌∙◌}
use Rattle.bgp_attr.specs.PathAttributes.{PathAttributes}
use Rattle.decision.specs.declared.candidate.Candidate.{Candidate}
use Rattle.decision.proofs.Laws.{selected_member}
use Rattle.decision.proofs.SameMembers.{same_selected}
use Rattle.export_rules.specs.declared.export.ExportPeer.{ExportPeer}
use Rattle.net_prefix.specs.declared.prefix.Prefix.{Prefix}
use Rattle.routing.specs.Candidates.{AreCandidates, IsCandidate}
use Rattle.routing.specs.Export.{IsExport, exported_at}
use Rattle.routing.specs.LocRib.{AreBest, IsBest, HasNoCandidate}
use Rattle.routing.specs.Tables.{Tables}

-- A prefix has at most one best route, and one export to a peer.

same_candidates : (t : Tables) (prefix : Prefix) (cs ds : List Candidate) → AreCandidates t prefix cs → AreCandidates t prefix ds → (x : Candidate) → Contains cs x ↔ Contains ds x
same_candidates t prefix cs ds are others x = (λ at. (others x).1 ((are x).0 at), λ at. (are x).1 ((others x).0 at))

-- a prefix has at most one best route
pub same_best : (t : Tables) (prefix : Prefix) (c d : Candidate) → IsBest t prefix c → IsBest t prefix d → c ≡ d
same_best t prefix c d best other = same_selected best.0 other.0 c d (same_candidates t prefix best.0 other.0 best.1 other.1) best.2 other.2

-- a best route is a candidate
pub best_is_candidate : (t : Tables) (prefix : Prefix) (c : Candidate) → IsBest t prefix c → IsCandidate t prefix c
best_is_candidate t prefix c best = (best.1 c).0 (selected_member best.0 (Some c) best.2)

none_is_best : (t : Tables) (prefix : Prefix) (c : Candidate) → IsBest t prefix c → HasNoCandidate t prefix → ⊥
none_is_best t prefix c best none = none c (best_is_candidate t prefix c best)

both_found : (t : Tables) (prefix : Prefix) (a b : Option Candidate) → MatchOption a (HasNoCandidate t prefix) (λ c. IsBest t prefix c) → MatchOption b (HasNoCandidate t prefix) (λ c. IsBest t prefix c) → a ≡ b
both_found t prefix None None none also = refl
both_found t prefix None (Some d) none best = absurd (none_is_best t prefix d best none)
both_found t prefix (Some c) None best none = absurd (none_is_best t prefix c best none)
both_found t prefix (Some c) (Some d) best other = ap Some (same_best t prefix c d best other)

-- there is one Loc-RIB
pub same_loc_rib : (t : Tables) (a b : Prefix → Option Candidate) → AreBest t a → AreBest t b → a ≡ b
same_loc_rib t a b is also = λ i prefix. both_found t prefix (a prefix) (b prefix) (is prefix) (also prefix) i

same_exported : (t : Tables) (peer : ExportPeer) (prefix : Prefix) (c d : Candidate) (one other : PathAttributes) (a b : Option (List ℕ)) → c ≡ d
    → t.routes c.slot prefix ≡ Some one → t.routes d.slot prefix ≡ Some other → a ≡ exported_at t.conf peer prefix c one → b ≡ exported_at t.conf peer prefix d other → a ≡ b
same_exported t peer prefix c d one other a b same route also is and =
    let attributes : Some one ≡ Some other = sym route ∙ ap (λ (x : Candidate). t.routes x.slot prefix) same ∙ also in
    let equal : one ≡ other = cc in
    is ∙ (λ i. exported_at t.conf peer prefix (same i) (equal i)) ∙ sym and

-- a prefix has at most one export to a peer
pub same_export : (t : Tables) (peer : ExportPeer) (prefix : Prefix) (a b : Option (List ℕ)) → IsExport t peer prefix a → IsExport t peer prefix b → a ≡ b
same_export t peer prefix a b (inl one) (inl other) =
    same_exported t peer prefix one.0 other.0 one.1 other.1 a b (same_best t prefix one.0 other.0 one.2 other.2) one.3 other.3 one.4 other.4
same_export t peer prefix a b (inl one) (inr none) = absurd (none_is_best t prefix one.0 one.2 none.0)
same_export t peer prefix a b (inr none) (inl other) = absurd (none_is_best t prefix other.0 other.2 none.0)
same_export t peer prefix a b (inr none) (inr also) = none.1 ∙ sym also.1
