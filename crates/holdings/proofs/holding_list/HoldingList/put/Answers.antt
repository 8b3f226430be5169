use Rattle.std.proofs.Common.{◌≡◌, ◌∙◌, false, rules}
use Rattle.holdings.proofs.holding_list.HoldingList.put.Goals as goal

pub mark_equal-requires-clause-listed : goal.mark_equal-requires-clause-listed
mark_equal-requires-clause-listed g c =
    let missed : c.mark_same.result ≡ false = search rules in
    let octets : c.as_slice.result.now ≡ c.args.sent.now = c.as_slice.ensures.value ∙ c.write.ensures.octets in
    rw (c.mark_same.ensures.no missed, octets) (c.clear.ensures.listed c.args.sent.now c.requires.listed)
