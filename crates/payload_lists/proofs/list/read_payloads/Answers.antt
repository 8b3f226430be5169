use Rattle.std.proofs.Common.{◌∙◌, ap, refl, sym}
use Rattle.vrp_json.specs.ListFormats.{format_of}
use Rattle.payload_lists.proofs.Reading.{begins, of_format}
use Rattle.payload_lists.proofs.list.read_payloads.Goals as goal

pub returns-in-Csv : goal.returns-in-Csv
returns-in-Csv g c = λ text is.
    let (rest, left, whole, told) = begins text c.in-Ok.front.items _ (rw is at c.in-Ok.ensures.front) in
    of_format c.args.second text c.in-Ok.front.items _ rest _ c.read_rows.result whole c.as_slice-in-Csv.ensures.value
    (told ∙ ap format_of (sym c.as_slice.ensures.value) ∙ sym c.format_of.ensures ∙ c.in-Csv.is) (c.read_rows.ensures rest left)

pub returns-in-Json : goal.returns-in-Json
returns-in-Json g c = λ text is.
    let (rest, left, whole, told) = begins text c.in-Ok.front.items _ (rw is at c.in-Ok.ensures.front) in
    of_format c.args.second text c.in-Ok.front.items _ rest _ c.read_json.result whole refl
    (told ∙ ap format_of (sym c.as_slice.ensures.value) ∙ sym c.format_of.ensures ∙ c.in-Json.is) (c.read_json.ensures rest left)
