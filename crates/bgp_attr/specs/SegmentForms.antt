-- How a segment is kept: few ASes stand in the segment itself.
use Rattle.std.specs.Prelude.{◌≡◌, ◌≤◌, ⊤, length, take}
use Rattle.bgp_attr.specs.AsPath.{PathSegment}
use Rattle.bgp_attr.specs.declared.as_path.SegmentForm.{SegmentForm}
use Rattle.bgp_attr.specs.declared.as_path.SegmentForm.TheVariants.{Few, Many}

-- the segment that is kept
abbrev pub segment_kept : {A : Type 0} → SegmentForm A → PathSegment
segment_kept (Few kind count asns) = record { kind = kind; asns = take count asns }
segment_kept (Many kind asns) = record { kind = kind; asns = asns.items }

-- six ASes at most stand in the segment itself, which has room for just as many
abbrev pub HasRoom : {A : Type 0} → SegmentForm A → Type 0
HasRoom (Few kind count asns) = (count ≤ 6) × (length asns ≡ 6)
HasRoom (Many kind asns) = ⊤
