use Rattle.std.proofs.Common.{◌∙◌, sym}
use Rattle.json.specs.Value.{value_view}
use Rattle.vrp_json.proofs.Entries.{bad_prefix, no_other_max, no_prefix_word}
use Rattle.vrp_json.proofs.entry.read_entry.Goals as goal

pub returns-in_default-prefix_word : goal.returns-in_default-prefix_word
returns-in_default-prefix_word c =
    let is_object = sym c.is_object.ensures ∙ c.if-not-is_object.false in
    no_prefix_word _ c.in-Some.asn.0 (is_object, c.in-Some.ensures) c.in_default-prefix_word.ensures

pub returns-then-contains : goal.returns-then-contains
returns-then-contains c =
    let is_object = sym c.is_object.ensures ∙ c.if-not-is_object.false in
    let colon = rw c.as_bytes.ensures.value at (sym c.if-contains.ensures.value) in
    (c.in-Some.asn.0, (is_object, c.in-Some.ensures), c.in-Some-prefix_word.text.now, (sym c.in-Some-prefix_word.ensures, colon))

pub returns-in_default-parse : goal.returns-in_default-parse
returns-in_default-parse c =
    let is_object = sym c.is_object.ensures ∙ c.if-not-is_object.false in
    let colon = rw c.as_bytes.ensures.value at (sym c.if-contains.ensures.value) in
    bad_prefix _ c.in-Some.asn.0 c.in-Some-prefix_word.text.now c.in_default-parse.field-0 (is_object, c.in-Some.ensures) (sym c.in-Some-prefix_word.ensures, colon) c.in_default-parse.ensures

pub returns-in_default-read_max : goal.returns-in_default-read_max
returns-in_default-read_max c =
    let is_object = sym c.is_object.ensures ∙ c.if-not-is_object.false in
    let colon = rw c.as_bytes.ensures.value at (sym c.if-contains.ensures.value) in (
      c.in-Some.asn.0,
      c.in-Ok.prefix,
      ((is_object, c.in-Some.ensures), c.in-Some-prefix_word.text.now, (sym c.in-Some-prefix_word.ensures, colon), c.in-Ok.ensures),
      λ m given fits. c.in_default-read_max.ensures m given,
    )

pub returns-in-Err : goal.returns-in-Err
returns-in-Err c =
    let is_object = sym c.is_object.ensures ∙ c.if-not-is_object.false in
    let colon = rw c.as_bytes.ensures.value at (sym c.if-contains.ensures.value) in (
      c.in-Some.asn.0,
      c.in-Ok.prefix,
      ((is_object, c.in-Some.ensures), c.in-Some-prefix_word.text.now, (sym c.in-Some-prefix_word.ensures, colon), c.in-Ok.ensures),
      no_other_max (value_view c.args.entry.now) c.in-Ok.prefix.len c.in-Some-read_max.max_len c.in-Some-read_max.ensures c.in-Err.ensures.1,
    )
