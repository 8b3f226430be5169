-- How the attributes of a route are changed on the way to a peer (RFC 4271 section 5.1).
use Rattle.std.specs.Prelude.{ℕ, if◌then◌else◌, List, Option, None, Some}
use Rattle.std.specs.Option.{option_map}
use Rattle.bgp_attr.specs.AsPath.{prepended}
use Rattle.bgp_attr.specs.AttributeSpelling.{attributes_spelling}
use Rattle.bgp_attr.specs.PathAttributes.{PathAttributes}
use Rattle.decision.specs.declared.candidate.Candidate.{Candidate}
use Rattle.export_rules.specs.Export.{fitting, is_local}
use Rattle.export_rules.specs.declared.export.ExportPeer.{ExportPeer}
use Rattle.export_rules.specs.declared.export.Rewrite.{Rewrite}
use Rattle.export_rules.specs.declared.export.Rewrite.TheVariants.{External, Internal}

-- what is set, and else what was received
abbrev pub set_or : Option ℕ → Option ℕ → Option ℕ
set_or None received = received
set_or (Some set) received = Some set

-- NEXT_HOP that is set inside the own AS: of a local network, the own address
abbrev pub next_hop_set : Candidate → ExportPeer → Option ℕ
next_hop_set route peer = if is_local route then Some peer.local else None

-- the attributes of a route, so changed
abbrev pub rewritten : Rewrite → PathAttributes → PathAttributes
rewritten (External own times local med) attrs =
    record {
      origin = attrs.origin;
      as_path = option_map (λ path. prepended path own times) attrs.as_path;
      next_hop = Some local;
      multi_exit_disc = med;
      local_pref = None;
      atomic_aggregate = attrs.atomic_aggregate;
      aggregator = attrs.aggregator;
      unknown = attrs.unknown;
    }
rewritten (Internal next_hop med local_pref) attrs =
    record {
      origin = attrs.origin;
      as_path = attrs.as_path;
      next_hop = set_or next_hop attrs.next_hop;
      multi_exit_disc = set_or med attrs.multi_exit_disc;
      local_pref = Some local_pref;
      atomic_aggregate = attrs.atomic_aggregate;
      aggregator = attrs.aggregator;
      unknown = attrs.unknown;
    }

-- the octets of these, where a message of one prefix holds them
abbrev pub written : Rewrite → PathAttributes → Option (List ℕ)
written rewrite attrs = fitting (attributes_spelling (rewritten rewrite attrs))
