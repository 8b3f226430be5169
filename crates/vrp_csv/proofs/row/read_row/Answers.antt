use Rattle.std.proofs.Common.{sym}
use Rattle.vrp_csv.proofs.Rows.{no_other_max}
use Rattle.vrp_csv.proofs.row.read_row.Goals as goal

pub returns-in_default-read_max : goal.returns-in_default-read_max
returns-in_default-read_max c =
    let first = c.in-Some.ensures in
    let asn = rw first.1 at c.in-Some-read_asn.ensures in
    let colon = rw first.2 at (sym c.if-contains.ensures.value) in
    let prefix = rw first.2 at c.in-Some-read_prefix.ensures in
    let none = rw first.3 at c.in_default-read_max.ensures in
    (c.in-Some-read_asn.asn.0, c.in-Some-read_prefix.prefix, ((first.0, asn), colon, prefix), λ m w is. none m w)

pub returns-in-Err : goal.returns-in-Err
returns-in-Err c =
    let first = c.in-Some.ensures in
    let asn = rw first.1 at c.in-Some-read_asn.ensures in
    let colon = rw first.2 at (sym c.if-contains.ensures.value) in
    let prefix = rw first.2 at c.in-Some-read_prefix.ensures in
    let max_len = rw first.3 at c.in-Some-read_max.ensures in (
      c.in-Some-read_asn.asn.0,
      c.in-Some-read_prefix.prefix,
      ((first.0, asn), colon, prefix),
      no_other_max c.in-Some-read_prefix.prefix.len _ c.in-Some-read_max.max_len max_len c.in-Err.ensures.1,
    )
