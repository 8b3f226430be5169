-- Attributes that are changed as `rewrite_of` says are those that the peer is sent.
use Rattle.std.proofs.Common.{◌≡◌, ℕ, Bool, true, false, if◌then◌else◌, Option, Some, None, refl, ap, ◌∙◌}
use Rattle.bgp_attr.specs.AttributeSpelling.{attributes_spelling}
use Rattle.bgp_attr.specs.PathAttributes.{PathAttributes}
use Rattle.decision.specs.declared.candidate.Candidate.{Candidate}
use Rattle.export_rules.specs.Export.{export_at, exported_of, fitting, in_front, is_internal, is_kept_from, is_local, local_pref_of, med_inside, passed_inside}
use Rattle.export_rules.specs.Rewriting.{next_hop_set, rewritten, set_or, written}
use Rattle.export_rules.specs.declared.export.ExportPeer.{ExportPeer}
use Rattle.export_rules.specs.declared.export.Rewrite.TheVariants.{External, Internal}
use Rattle.policy.specs.declared.rule.Action.TheVariants.{Accept}

next_hop_same : (local_route : Bool) (local : ℕ) (received : Option ℕ) → set_or (if local_route then Some local else None) received ≡ (if local_route then Some local else received)
next_hop_same true local received = refl
next_hop_same false local received = refl

med_same : (med received : Option ℕ) → set_or med received ≡ med_inside med received
med_same None received = refl
med_same (Some med) received = refl

-- to a peer in the own AS
inside_same : (route : Candidate) (attrs : PathAttributes) (peer : ExportPeer) (med : Option ℕ) → rewritten (Internal (next_hop_set route peer) med (local_pref_of route)) attrs ≡ passed_inside route attrs peer med
unfolding passed_inside
inside_same route attrs peer med = rw (next_hop_same (is_local route) peer.local attrs.next_hop, med_same med attrs.multi_exit_disc) refl

-- and to one in another AS
outside_same : (attrs : PathAttributes) (peer : ExportPeer) (med : Option ℕ) (times : ℕ) → rewritten (External peer.own times peer.local med) attrs ≡ exported_of attrs peer med times
unfolding exported_of
outside_same attrs peer med times = refl

told : (kept inside : Bool) (here there : PathAttributes) → false ≡ kept → fitting (attributes_spelling (if inside then here else there)) ≡ (if kept then None else fitting (attributes_spelling (if inside then here else there)))
told false inside here there is = refl
told true inside here there is = absurd cc

told_here : (inside : Bool) (here there : PathAttributes) → true ≡ inside → here ≡ (if inside then here else there)
told_here true here there is = refl
told_here false here there is = absurd cc

told_there : (inside : Bool) (here there : PathAttributes) → false ≡ inside → there ≡ (if inside then here else there)
told_there false here there is = refl
told_there true here there is = absurd cc

pub written_inside : (route : Candidate) (attrs : PathAttributes) (peer : ExportPeer) (degree med prepend : Option ℕ) → false ≡ is_kept_from route peer → true ≡ is_internal peer
    → written (Internal (next_hop_set route peer) med (local_pref_of route)) attrs ≡ export_at route attrs peer (Accept degree med prepend)
written_inside route attrs peer degree med prepend goes is =
    let here : PathAttributes = passed_inside route attrs peer med in
    let there : PathAttributes = exported_of attrs peer med (in_front prepend) in
    ap (λ sent. fitting (attributes_spelling sent)) (inside_same route attrs peer med ∙ told_here (is_internal peer) here there is) ∙ told (is_kept_from route peer) (is_internal peer) here there goes

pub written_outside : (route : Candidate) (attrs : PathAttributes) (peer : ExportPeer) (degree med prepend : Option ℕ) → false ≡ is_kept_from route peer → false ≡ is_internal peer
    → written (External peer.own (in_front prepend) peer.local med) attrs ≡ export_at route attrs peer (Accept degree med prepend)
written_outside route attrs peer degree med prepend goes is =
    let here : PathAttributes = passed_inside route attrs peer med in
    let there : PathAttributes = exported_of attrs peer med (in_front prepend) in
    ap (λ sent. fitting (attributes_spelling sent)) (outside_same attrs peer med (in_front prepend) ∙ told_there (is_internal peer) here there is) ∙ told (is_kept_from route peer) (is_internal peer) here there goes
