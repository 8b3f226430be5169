use Rattle.std.proofs.Common.{◌≡◌, ◌≤◌, inl, inr, ℕ, Bool, true, false, nat_le, List, Option, Some, None, length, cond, refl, sym, ap, ◌∙◌}
use Rattle.std.specs.Bool.{OnTrue}
use Rattle.std.specs.Option.{option_and_then, option_map, MatchOption}
use Rattle.std.proofs.lemmas.Bool.{leb-true}
use Rattle.bgp_attr.specs.AttributeSpelling.{attributes_spelling}
use Rattle.bgp_attr.specs.PathAttributes.{PathAttributes}
use Rattle.bgp_attr.specs.PeerKinds.{kind_between}
use Rattle.bgp_conf.specs.Configuration.{Configuration}
use Rattle.decision.specs.declared.candidate.Candidate.{Candidate}
use Rattle.decision.proofs.Laws.{selected_member}
use Rattle.export_rules.specs.Export.{AreAccepted, IsComplete, IsSender, announced_by, is_kept_from, sent_of}
use Rattle.export_rules.specs.declared.export.ExportPeer.{ExportPeer}
use Rattle.net_prefix.specs.declared.prefix.Prefix.{Prefix}
use Rattle.rib_in.specs.LatestRoutes.{RouteTable, route_at}
use Rattle.routing.specs.Candidates.{IsCandidate}
use Rattle.routing.specs.Export.{IsAccepted, IsExport, chosen_in, export_in, exported_at, selected_of}
use Rattle.bgp_conf.specs.PeerPolicies.{export_action}
use Rattle.policy.specs.declared.rule.Action.{Action}
use Rattle.policy.specs.declared.rule.Action.TheVariants.{Reject, Accept}
use Rattle.routing.specs.LocRib.{AreBest, IsBest, HasNoCandidate}
use Rattle.routing.specs.Tables.{Tables, best_at}
use Rattle.routing.proofs.CandidateLists.{candidate_route}

-- the kept tables give the export
pub best_candidate : (t : Tables) (prefix : Prefix) (c : Candidate) → IsBest t prefix c → IsCandidate t prefix c
best_candidate t prefix c best = (best.1 c).0 (selected_member best.0 (Some c) best.2)

export_found : (t : Tables) (c : Candidate) (peer : ExportPeer) (prefix : Prefix) (found : Option PathAttributes) → IsBest t prefix c → t.routes c.slot prefix ≡ found
    → IsExport t peer prefix (option_and_then (λ attrs. exported_at t.conf peer prefix c attrs) found)
export_found t c peer prefix None best is = let route = candidate_route t prefix c (best_candidate t prefix c best) in let route_is = route.1 in absurd (cc)
export_found t c peer prefix (Some attrs) best is = inl (c, attrs, best, is, refl)

export_best : (t : Tables) (adj_in : RouteTable) (peer : ExportPeer) (prefix : Prefix) (found : Option Candidate)
    → ((s : ℕ) (p : Prefix) → t.routes s p ≡ route_at adj_in s p) → MatchOption found (HasNoCandidate t prefix) (λ c. IsBest t prefix c)
    → IsExport t peer prefix (option_and_then (λ c. option_and_then (λ attrs. exported_at t.conf peer prefix c attrs) (route_at adj_in c.slot prefix)) found)
export_best t adj_in peer prefix None routes none = inr (none, refl)
export_best t adj_in peer prefix (Some c) routes best = export_found t c peer prefix (route_at adj_in c.slot prefix) best (routes c.slot prefix)

pub export_is : (t : Tables) (loc_rib : Prefix → Option Candidate) (adj_in : RouteTable) (peer : ExportPeer) (prefix : Prefix)
    → ((s : ℕ) (p : Prefix) → t.routes s p ≡ route_at adj_in s p) → AreBest t loc_rib → IsExport t peer prefix (export_in t.conf loc_rib adj_in peer prefix)
export_is t loc_rib adj_in peer prefix routes is = export_best t adj_in peer prefix (loc_rib prefix) routes (is prefix)

-- what is exported fits a message
fitting_short : (b : Bool) (octets a : List ℕ) → nat_le (length octets) 4068 ≡ b → cond b (Some octets) None ≡ Some a → length a ≤ 4068
fitting_short true octets a fits is = let same : octets ≡ a = cc in rw (← same) (leb-true (length octets) 4068 fits)
fitting_short false octets a fits is = absurd (cc)

announced_short : (action : Action) (c : Candidate) (attrs : PathAttributes) (peer : ExportPeer) (a : List ℕ) → announced_by action c attrs peer ≡ Some a → length a ≤ 4068
announced_short Reject c attrs peer a is = absurd (cc)
announced_short (Accept degree med prepend) c attrs peer a is = fitting_short _ (attributes_spelling (sent_of c attrs peer med prepend)) a refl is

export_at_short : (kept : Bool) (action : Action) (c : Candidate) (attrs : PathAttributes) (peer : ExportPeer) (a : List ℕ) → cond kept None (announced_by action c attrs peer) ≡ Some a → length a ≤ 4068
export_at_short true action c attrs peer a is = absurd (cc)
export_at_short false action c attrs peer a is = announced_short action c attrs peer a is

found_short : (conf : Configuration) (c : Candidate) (peer : ExportPeer) (prefix : Prefix) (found : Option PathAttributes) (a : List ℕ) → option_and_then (λ attrs. exported_at conf peer prefix c attrs) found ≡ Some a → length a ≤ 4068
found_short conf c peer prefix None a is = absurd (cc)
found_short conf c peer prefix (Some attrs) a is = export_at_short (is_kept_from c peer) (export_action conf peer.slot (selected_of conf.own prefix c attrs)) c attrs peer a is

pub best_short : (conf : Configuration) (adj_in : RouteTable) (peer : ExportPeer) (prefix : Prefix) (found : Option Candidate) (a : List ℕ)
    → option_and_then (λ c. option_and_then (λ attrs. exported_at conf peer prefix c attrs) (route_at adj_in c.slot prefix)) found ≡ Some a → length a ≤ 4068
best_short conf adj_in peer prefix None a is = absurd (cc)
best_short conf adj_in peer prefix (Some c) a is = found_short conf c peer prefix (route_at adj_in c.slot prefix) a is

-- the best route, with the attributes that it came with
pub chosen_parts : (o : Option Candidate) (route : ℕ → Option PathAttributes) (chosen : Candidate × PathAttributes)
    → Some chosen ≡ option_and_then (λ (c : Candidate). option_map (λ attrs. (c, attrs)) (route c.slot)) o → (o ≡ Some chosen.0) × (route chosen.0.slot ≡ Some chosen.1)
chosen_parts None route chosen is = absurd (cc)
chosen_parts (Some c) route chosen is = by_route (route c.slot) refl is
  where
    by_route : (found : Option PathAttributes) → route c.slot ≡ found → Some chosen ≡ option_map (λ attrs. (c, attrs)) found → (Some c ≡ Some chosen.0) × (route chosen.0.slot ≡ Some chosen.1)
    by_route None found is = absurd (cc)
    by_route (Some attrs) found is =
        let same : chosen ≡ (c, attrs) = cc in
        (sym (ap (λ (e : Candidate × PathAttributes). Some e.0) same), ap (λ (e : Candidate × PathAttributes). route e.0.slot) same ∙ found ∙ sym (ap (λ (e : Candidate × PathAttributes). Some e.1) same))

-- what is written of it is good to the peer
pub chosen_accepted : (b : Bool) (loc_rib : List (Prefix × Candidate)) (adj_in : RouteTable) (peer : ExportPeer) (p : Prefix) (octets : List ℕ) (chosen : Candidate × PathAttributes)
    → Some chosen ≡ chosen_in (best_at loc_rib) adj_in p → OnTrue b (IsSender peer → IsComplete chosen.0 chosen.1 → AreAccepted (kind_between peer.asn peer.own) octets)
    → OnTrue b (IsAccepted loc_rib adj_in peer p octets)
chosen_accepted true loc_rib adj_in peer p octets chosen is good =
    let parts = chosen_parts (best_at loc_rib p) (λ slot. route_at adj_in slot p) chosen is in
    λ sender complete. good sender (complete chosen.0 chosen.1 parts.0 parts.1)
chosen_accepted false loc_rib adj_in peer p octets chosen is good = tt
