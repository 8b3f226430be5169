-- What is handed to the writer.
use Rattle.std.specs.Prelude.{List, Option, Some, None}
use Rattle.std.specs.Option.{option_copied}
use Rattle.bgp_attr.specs.AsPath.{PathSegment, prepended}
use Rattle.bgp_attr.specs.PathAttributes.{PathAttributes}
use Rattle.bgp_attr.specs.UnknownAttributes.{unknown_or_none}
use Rattle.bgp_attr.specs.declared.prepending.PrependedPath.{PrependedPath}
use Rattle.bgp_attr.specs.declared.writing.AttrsToWrite.{AttrsToWrite}

-- the path with the AS in front
abbrev pub segments_of : {A : Type 0} → PrependedPath A → List PathSegment
segments_of path = prepended path.path.now path.asn path.times

-- the same where there is a path
abbrev pub path_of : {A : Type 0} → Option (PrependedPath A) → Option (List PathSegment)
path_of None = None
path_of (Some path) = Some (segments_of path)

-- the attributes that are to be written
abbrev pub attributes_of : {A : Type 0} → AttrsToWrite A → PathAttributes
attributes_of attrs =
    record {
      origin = attrs.origin;
      as_path = path_of attrs.as_path;
      next_hop = attrs.next_hop;
      multi_exit_disc = attrs.multi_exit_disc;
      local_pref = attrs.local_pref;
      atomic_aggregate = attrs.atomic_aggregate;
      aggregator = attrs.aggregator;
      unknown = unknown_or_none (option_copied attrs.unknown);
    }
