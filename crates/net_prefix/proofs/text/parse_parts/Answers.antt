use Rattle.std.proofs.Common.{◌<◌, ◌^◌, Some, None, sym, ◌∙◌, arith, lit<}
use Rattle.std.proofs.lemmas.Str.Pattern.{split_parts}
use Rattle.net_prefix.proofs.Texts.{split_at_slash, whole_text}
use Rattle.net_prefix.proofs.text.parse_parts.Goals as goal

pub returns-in_err-address : goal.returns-in_err-address
returns-in_err-address c =
    rw c.from_residual.ensures
    (λ bits len w. split_at_slash c.args.text.now bits len None c.in_err-address.ensures.cases w.2)

pub returns-in_err-bits : goal.returns-in_err-bits
returns-in_err-bits c =
    let found = Some (c.in_ok-address.address, c.in_ok-address.len) in
    rw c.from_residual-in_err-bits.ensures
    (λ bits len w.
    c.in_err-bits.ensures bits w.0
    (split_at_slash c.args.text.now bits len found c.in_ok-address.ensures.cases w.2).0)

pub returns-in_err-len : goal.returns-in_err-len
returns-in_err-len c =
    let found = Some (c.in_ok-address.address, c.in_ok-address.len) in
    rw c.from_residual-in_err-len.ensures
    (λ bits len w.
    c.in_err-len.ensures len w.1
    (c.as_bytes.ensures.value
    ∙ (split_at_slash c.args.text.now bits len found c.in_ok-address.ensures.cases w.2).1))

pub returns : goal.returns
returns c =
    let small : c.in_ok-bits.bits < 2 ^ 32 = omega arith in
    let found = Some (c.in_ok-address.address, c.in_ok-address.len) in
    let parts = split_parts 47 c.args.text.now found c.in_ok-address.ensures.cases (lit< tt) in (
      small,
      c.in_ok-len.ensures.0,
      whole_text _ _ _ _ _ parts.0 c.in_ok-bits.ensures (sym c.as_bytes.ensures.value ∙ c.in_ok-len.ensures.1),
    )
