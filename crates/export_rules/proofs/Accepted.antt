-- In what goes on to a peer it finds no fault.
use Rattle.std.proofs.Common.{◌≡◌, ◌≤◌, ◌<◌, ◌^◌, ℕ, suc, Bool, true, false, nat_le, List, [], ◌∷◌, ◌++◌, length, length-append, Option, Some, None, zero, MatchOption, arith, refl, ap, subst, ◌∙◌, if◌then◌else◌}
use Rattle.std.specs.Prelude.{◌-◌, is_none, min}
use Rattle.std.specs.Bool.{⊤}
use Rattle.std.proofs.lemmas.Bool.{leb-true}
use Rattle.std.specs.Bool.{OnTrue}
use Rattle.std.specs.List.{AllByRecursion, flat_map}
use Rattle.std.specs.Option.{IsSome, option_map}
use Rattle.bgp_attr.specs.AsPath.{PathSegment, path_octets, prepended}
use Rattle.bgp_attr.specs.AttributeFaults.{is_host}
use Rattle.bgp_attr.specs.AttributeSpelling.{IsAs, IsHost, IsSegment, attributes_spelling, header_spelling, optional_spelling, path_spelling, type_spelling, unknown_spelling, value_in}
use Rattle.bgp_attr.specs.AttributeTable.{is_taken}
use Rattle.bgp_attr.specs.PathAttributes.{PathAttributes, missing_of}
use Rattle.bgp_attr.specs.PathReading.{begins_right}
use Rattle.bgp_attr.specs.PeerKinds.{kind_between}
use Rattle.bgp_attr.specs.SoundRoutes.{IsSoundRoute}
use Rattle.bgp_attr.specs.declared.attribute_type.AttributeType.{AttributeType}
use Rattle.bgp_attr.specs.declared.attribute_type.AttributeType.TheVariants as type
use Rattle.bgp_attr.specs.declared.attrs.Origin.{Origin}
use Rattle.bgp_attr.specs.declared.peer.PeerKind.{PeerKind}
use Rattle.bgp_attr.specs.declared.peer.PeerKind.TheVariants.{External, Internal}
use Rattle.bgp_attr.proofs.Appendings.{length-path_spelling}
use Rattle.bgp_attr.proofs.AttributeSpellings.{all_types, spelled_faultless, spelled_read}
use Rattle.bgp_attr.proofs.PrependedPaths.{begins_prepended, segments_prepended}
use Rattle.bgp_attr.proofs.SoundValues.{host_is}
use Rattle.bgp_attr.proofs.WrittenSpellings.{written_spells}
use Rattle.decision.specs.declared.candidate.Candidate.{Candidate}
use Rattle.export_rules.specs.Export.{AreAccepted, AreGood, AreNumbers, IsComplete, IsSender, Tells, announced_by, export_at, exported_of, fitting, in_front, is_internal, is_kept_from, is_local, med_inside, med_set, next_hop_inside, passed_inside}
use Rattle.export_rules.specs.declared.export.ExportPeer.{ExportPeer}
use Rattle.policy.specs.declared.rule.Action.{Action}
use Rattle.policy.specs.declared.rule.Action.TheVariants.{Accept, Reject}
use Rattle.net_prefix.specs.declared.asn.Asn.{Asn}

-- a path is no longer than the attributes that it stands in
within : (front header path more unknown other : List ℕ) (most : ℕ) → length (front ++ ((other ++ ((header ++ path) ++ more)) ++ unknown)) ≤ most → length path ≤ most
within front header path more unknown other most short =
    omega (
      arith,
      short,
      length-append front ((other ++ ((header ++ path) ++ more)) ++ unknown),
      length-append (other ++ ((header ++ path) ++ more)) unknown,
      length-append other ((header ++ path) ++ more),
      length-append (header ++ path) more,
      length-append header path,
    )

-- so it is no longer than a message
path_short : (sent : PathAttributes) (o : Option (List PathSegment)) → sent.as_path ≡ o → length (attributes_spelling sent) ≤ 4068 → MatchOption o ⊤ (λ path. path_octets path ≤ 65535)
path_short sent None is short = tt
path_short sent (Some path) is short =
    let behind : List ℕ = flat_map (type_spelling sent) (type.NextHop ∷ type.MultiExitDisc ∷ type.LocalPref ∷ type.AtomicAggregate ∷ type.Aggregator ∷ []) in
    let whole : Option (List PathSegment) → List ℕ = λ o.
    unknown_spelling true sent.unknown
    ++ ((type_spelling sent type.Origin ++ (optional_spelling 64 2 (option_map path_spelling o) ++ behind)) ++ unknown_spelling false sent.unknown) in
    let P : Option (List PathSegment) → Type 0 = λ o. length (whole o) ≤ 4068 in
    let few = within (unknown_spelling true sent.unknown) (header_spelling 64 2 (length (path_spelling path))) (path_spelling path) behind (unknown_spelling false sent.unknown) (type_spelling sent type.Origin) 4068 (subst P is short) in
    omega (arith, few, length-path_spelling path)

-- good attributes that are short enough are accepted
pub good_accepted : (kind : PeerKind) (sent : PathAttributes) → AreGood kind sent → length (attributes_spelling sent) ≤ 4068 → AreAccepted kind (attributes_spelling sent)
good_accepted kind sent good short =
    let spells = written_spells kind sent (record { lawful = good.lawful; taken = good.taken; short = path_short sent sent.as_path refl short; unknown = good.unknown }) in
    record {
      faultless = spelled_faultless kind (attributes_spelling sent) sent spells;
      complete = ap (missing_of kind) (spelled_read kind (attributes_spelling sent) sent spells) ∙ good.complete;
    }

fits_if : (fits : Bool) (octets out : List ℕ) → (if fits then Some octets else None) ≡ Some out → nat_le (length octets) 4068 ≡ fits → (octets ≡ out) × (nat_le (length octets) 4068 ≡ true)
fits_if true octets out is same = (cc, same)
fits_if false octets out is same = absurd cc

-- so is what a message holds of them
fitting_accepted : (kind : PeerKind) (sent : PathAttributes) (out : List ℕ) → AreGood kind sent → fitting (attributes_spelling sent) ≡ Some out → AreAccepted kind out
fitting_accepted kind sent out good same =
    let fits = fits_if (nat_le (length (attributes_spelling sent)) 4068) (attributes_spelling sent) out same refl in
    subst (AreAccepted kind) fits.0 (good_accepted kind sent good (leb-true _ _ fits.1))

-- the path as it goes on to an external peer is lawful
path_lawful : (o : Option (List PathSegment)) (own : Asn) (times : ℕ) → IsAs own → 0 < times → MatchOption o ⊤ (AllByRecursion IsSegment)
    → MatchOption (option_map (λ path. prepended path own times) o) ⊤ (λ path. AllByRecursion IsSegment path × (begins_right (External own) path ≡ true))
path_lawful None own times is some lawful = tt
path_lawful (Some path) own zero is some lawful = absurd (omega (arith, some))
path_lawful (Some path) own (suc more) is some lawful = (segments_prepended path own (suc more) is lawful, begins_prepended path own more)

-- and the path as it goes on to an internal one
inside_lawful : (o : Option (List PathSegment)) → MatchOption o ⊤ (AllByRecursion IsSegment) → MatchOption o ⊤ (λ path. AllByRecursion IsSegment path × (begins_right Internal path ≡ true))
inside_lawful None lawful = tt
inside_lawful (Some path) lawful = (lawful, refl)

-- what isn't taken from an external peer doesn't go on to one
not_sent : (attrs : PathAttributes) (peer : ExportPeer) (med : Option ℕ) (times : ℕ) (known : AttributeType) → is_taken (External peer.own) known ≡ false → value_in (exported_of attrs peer med times) known ≡ None
unfolding exported_of
not_sent attrs peer med times known =
    all_types (λ (t : AttributeType). is_taken (External peer.own) t ≡ false → value_in (exported_of attrs peer med times) t ≡ None)
    (λ h. absurd cc) (λ h. absurd cc) (λ h. absurd cc) (λ h. absurd cc) (λ h. refl) (λ h. absurd cc) (λ h. absurd cc) known

-- all is taken from an internal one
all_taken : (sent : PathAttributes) (known : AttributeType) → is_taken Internal known ≡ false → value_in sent known ≡ None
all_taken sent known =
    all_types (λ (t : AttributeType). is_taken Internal t ≡ false → value_in sent t ≡ None)
    (λ h. absurd cc) (λ h. absurd cc) (λ h. absurd cc) (λ h. absurd cc) (λ h. absurd cc) (λ h. absurd cc) (λ h. absurd cc) known

-- what routes need goes on, where the route has an ORIGIN and a path
complete_if : (origin : Option Origin) (as_path : Option (List PathSegment)) (own : Asn) (times : ℕ) → IsSome origin → IsSome as_path
    → (if is_none origin then Some type.Origin else (if is_none (option_map (λ path. prepended path own times) as_path) then Some type.AsPath else None)) ≡ None
complete_if None as_path own times some_origin some_path = absurd cc
complete_if (Some origin) None own times some_origin some_path = absurd cc
complete_if (Some origin) (Some path) own times some_origin some_path = refl

inside_complete : (origin : Option Origin) (as_path : Option (List PathSegment)) (next_hop : Option ℕ) → IsSome origin → IsSome as_path → IsSome next_hop
    → (if is_none origin then Some type.Origin else (if is_none as_path then Some type.AsPath else (if is_none next_hop then Some type.NextHop else None))) ≡ None
inside_complete None as_path next_hop some_origin some_path some_next_hop = absurd cc
inside_complete (Some origin) None next_hop some_origin some_path some_next_hop = absurd cc
inside_complete (Some origin) (Some path) None some_origin some_path some_next_hop = absurd cc
inside_complete (Some origin) (Some path) (Some next_hop) some_origin some_path some_next_hop = refl

-- what goes on to an external peer is good
exported_good : (attrs : PathAttributes) (peer : ExportPeer) (med : Option ℕ) (times : ℕ) → AreNumbers peer med → IsSoundRoute attrs → 0 < times → IsSender peer → IsSome attrs.origin → IsSome attrs.as_path
    → AreGood (External peer.own) (exported_of attrs peer med times)
unfolding exported_of
exported_good attrs peer med times small sound some sender origin as_path =
    record {
      lawful =
          record {
            as_path = path_lawful attrs.as_path peer.own times (sender.own, small.own) some sound.segments;
            next_hop = host_is peer.local small.local sender.local;
            multi_exit_disc = small.set;
            local_pref = tt;
            aggregator = sound.aggregator;
          };
      taken = not_sent attrs peer med times;
      unknown = sound.unknown;
      complete = complete_if attrs.origin attrs.as_path peer.own times origin as_path;
    }

-- a next hop inside the own AS is there, and the address of a host
inside_host : (local_route : Bool) (local : ℕ) (received : Option ℕ) → IsHost local → MatchOption received ⊤ (λ n. n < 2 ^ 32) → MatchOption received ⊤ (λ n. is_host n ≡ true) → (local_route ≡ false → IsSome received)
    → MatchOption (if local_route then Some local else received) ⊤ IsHost × IsSome (if local_route then Some local else received)
inside_host true local received host small hosts some = (host, refl)
inside_host false local None host small hosts some = let there = some refl in absurd cc
inside_host false local (Some address) host small hosts some = (host_is address small hosts, refl)

med_small : (med received : Option ℕ) → MatchOption med ⊤ (λ n. n < 2 ^ 32) → MatchOption received ⊤ (λ n. n < 2 ^ 32) → MatchOption (med_inside med received) ⊤ (λ n. n < 2 ^ 32)
med_small None received set small = small
med_small (Some med) received set small = set

preference_small : (local_route : Bool) (degree : ℕ) → (if local_route then 100 else min degree (2 ^ 32 - 1)) < 2 ^ 32
preference_small true degree = omega arith
preference_small false degree = omega arith

-- what goes on to an internal peer is good
inside_good : (route : Candidate) (attrs : PathAttributes) (peer : ExportPeer) (med : Option ℕ) → AreNumbers peer med → IsSoundRoute attrs → IsSender peer → IsComplete route attrs
    → AreGood Internal (passed_inside route attrs peer med)
unfolding passed_inside
inside_good route attrs peer med small sound sender complete =
    let hop = inside_host (is_local route) peer.local attrs.next_hop (host_is peer.local small.local sender.local) sound.next_hop sound.host complete.next_hop in
    record {
      lawful =
          record {
            as_path = inside_lawful attrs.as_path sound.segments;
            next_hop = hop.0;
            multi_exit_disc = med_small med attrs.multi_exit_disc small.set sound.med;
            local_pref = preference_small (is_local route) route.degree;
            aggregator = sound.aggregator;
          };
      taken = all_taken (passed_inside route attrs peer med);
      unknown = sound.unknown;
      complete = inside_complete attrs.origin attrs.as_path (next_hop_inside route attrs peer) complete.origin complete.as_path hop.1;
    }

sent_accepted : (inside : Bool) (route : Candidate) (attrs : PathAttributes) (peer : ExportPeer) (med : Option ℕ) (times : ℕ) (out : List ℕ) → AreNumbers peer med → IsSoundRoute attrs → 0 < times
    → fitting (attributes_spelling (if inside then passed_inside route attrs peer med else exported_of attrs peer med times)) ≡ Some out → IsSender peer → IsComplete route attrs
    → AreAccepted (if inside then Internal else External peer.own) out
sent_accepted true route attrs peer med times out small sound some same sender complete =
    fitting_accepted Internal (passed_inside route attrs peer med) out (inside_good route attrs peer med small sound sender complete) same
sent_accepted false route attrs peer med times out small sound some same sender complete =
    fitting_accepted (External peer.own) (exported_of attrs peer med times) out (exported_good attrs peer med times small sound some sender complete.origin complete.as_path) same

in_front_some : (more : Option ℕ) → 0 < in_front more
in_front_some None = omega arith
in_front_some (Some more) = omega arith

announced_accepted : (action : Action) (route : Candidate) (attrs : PathAttributes) (peer : ExportPeer) (out : List ℕ) → AreNumbers peer (med_set action) → IsSoundRoute attrs
    → announced_by action route attrs peer ≡ Some out → IsSender peer → IsComplete route attrs → AreAccepted (kind_between peer.asn peer.own) out
announced_accepted Reject route attrs peer out small sound same sender complete = absurd cc
announced_accepted (Accept degree med prepend) route attrs peer out small sound same sender complete =
    sent_accepted (is_internal peer) route attrs peer med (in_front prepend) out small sound (in_front_some prepend) same sender complete

export_if : (kept : Bool) (route : Candidate) (attrs : PathAttributes) (peer : ExportPeer) (action : Action) (out : List ℕ) → AreNumbers peer (med_set action) → IsSoundRoute attrs
    → (if kept then None else announced_by action route attrs peer) ≡ Some out → IsSender peer → IsComplete route attrs → AreAccepted (kind_between peer.asn peer.own) out
export_if true route attrs peer action out small sound same sender complete = absurd cc
export_if false route attrs peer action out small sound same sender complete = announced_accepted action route attrs peer out small sound same sender complete

-- the export of a route that was taken is accepted
pub export_accepted : (route : Candidate) (attrs : PathAttributes) (peer : ExportPeer) (action : Action) (out : List ℕ) → AreNumbers peer (med_set action) → IsSoundRoute attrs
    → export_at route attrs peer action ≡ Some out → IsSender peer → IsComplete route attrs → AreAccepted (kind_between peer.asn peer.own) out
export_accepted route attrs peer action out small sound same sender complete = export_if (is_kept_from route peer) route attrs peer action out small sound same sender complete

pub told_accepted : (told : Bool) (out : List ℕ) (route : Candidate) (attrs : PathAttributes) (peer : ExportPeer) (action : Action) → AreNumbers peer (med_set action) → IsSoundRoute attrs
    → Tells told out (export_at route attrs peer action) → OnTrue told (IsSender peer → IsComplete route attrs → AreAccepted (kind_between peer.asn peer.own) out)
told_accepted true out route attrs peer action small sound told = λ sender complete. export_accepted route attrs peer action out small sound told sender complete
told_accepted false out route attrs peer action small sound told = tt
