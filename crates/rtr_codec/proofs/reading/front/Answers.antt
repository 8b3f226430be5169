use Rattle.std.proofs.Common.{◌≤◌, ◌≡◌, ℕ, take, inr, refl, ap, sym, ◌∙◌, arith}
use Rattle.rtr_codec.specs.PduContents.{told_length}
use Rattle.rtr_codec.proofs.ReaderAnswers.{content_by_type}
use Rattle.rtr_codec.proofs.Streams.{told_length-bounds}
use Rattle.rtr_codec.proofs.reading.front.Goals as goal

pub returns-in-Some : goal.returns-in-Some
returns-in-Some c =
    let told : c.in-Ok.header.length ≡ told_length c.args.octets.now = c.in-Ok.ensures.told in
    let least : 8 ≤ c.in-Ok.header.length = omega (arith, told, (told_length-bounds c.args.place c.args.octets.now c.in-Ok.ensures.fault).0) in (
      least,
      c.in-Ok.ensures.most,
      c.if-octets-header.false,
      told,
      c.in-Ok.ensures.fault,
      content_by_type c.args.octets.now c.in-Ok.header.length c.in-Ok.header.kind least c.if-octets-header.false c.in-Ok.ensures.kind ∙ sym c.in-Some.ensures,
    )

pub returns-in-None : goal.returns-in-None
returns-in-None c =
    let told : c.in-Ok.header.length ≡ told_length c.args.octets.now = c.in-Ok.ensures.told in
    let least : 8 ≤ c.in-Ok.header.length = omega (arith, told, (told_length-bounds c.args.place c.args.octets.now c.in-Ok.ensures.fault).0) in
    inr (
      omega (arith, least, c.if-octets-header.false),
      c.in-Ok.ensures.fault,
      omega (arith, told, c.if-octets-header.false),
      refl,
      ap (λ (n : ℕ). take n c.args.octets.now) told,
      content_by_type c.args.octets.now c.in-Ok.header.length c.in-Ok.header.kind least c.if-octets-header.false c.in-Ok.ensures.kind ∙ sym c.in-None.ensures,
    )
