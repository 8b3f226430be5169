use Rattle.std.proofs.Common.{◌≡◌, ◌++◌, ℕ, arith, ap, length, length-append}
use Rattle.bgp_attr.specs.AttributeSpelling.{attribute_spelling, header_spelling, path_spelling}
use Rattle.bgp_attr.specs.Written.{segments_of}
use Rattle.bgp_attr.proofs.Appendings.{appends_as, appends_more, appends_not, length-path_spelling}
use Rattle.bgp_attr.proofs.writing.append_path.Goals as goal

pub returns-then-length-gt4096 : goal.returns-then-length-gt4096
returns-then-length-gt4096 g c =
    omega (
      arith,
      length-append (header_spelling 64 2 (length (path_spelling (segments_of c.args.path.now)))) (path_spelling (segments_of c.args.path.now)),
      length-path_spelling (segments_of c.args.path.now),
    )

pub returns-then-append_known_header : goal.returns-then-append_known_header
returns-then-append_known_header g c =
    let octets : c.octets-length.result ≡ length (path_spelling (segments_of c.args.path.now)) = omega (arith, length-path_spelling (segments_of c.args.path.now)) in
    appends_as c.write_path.result c.args.out.now.items c.write_path.new.out.items
    (header_spelling 64 2 c.octets-length.result ++ path_spelling (segments_of c.args.path.now)) (attribute_spelling 64 2 (path_spelling (segments_of c.args.path.now)))
    (ap (λ (n : ℕ). header_spelling 64 2 n ++ path_spelling (segments_of c.args.path.now)) octets)
    (appends_more c.write_path.result c.args.out.now.items c.append_known_header.new.out.items c.write_path.new.out.items
    (header_spelling 64 2 c.octets-length.result) (path_spelling (segments_of c.args.path.now)) c.if-append_known_header.ensures c.write_path.ensures)

pub returns-else-append_known_header : goal.returns-else-append_known_header
returns-else-append_known_header g c =
    let octets : c.octets-length.result ≡ length (path_spelling (segments_of c.args.path.now)) = omega (arith, length-path_spelling (segments_of c.args.path.now)) in
    appends_as c.append_known_header.result c.args.out.now.items c.append_known_header.new.out.items
    (header_spelling 64 2 c.octets-length.result ++ path_spelling (segments_of c.args.path.now)) (attribute_spelling 64 2 (path_spelling (segments_of c.args.path.now)))
    (ap (λ (n : ℕ). header_spelling 64 2 n ++ path_spelling (segments_of c.args.path.now)) octets)
    (appends_not c.append_known_header.result c.args.out.now.items c.append_known_header.new.out.items c.append_known_header.new.out.items
    (header_spelling 64 2 c.octets-length.result) (path_spelling (segments_of c.args.path.now)) (cc) c.append_known_header.ensures)
