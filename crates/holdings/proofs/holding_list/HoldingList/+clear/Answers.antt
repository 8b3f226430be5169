use Rattle.std.proofs.Common.{inl, inr}
use Rattle.holdings.proofs.holding_list.HoldingList.+clear.Goals as goal

pub returns-clause-listed : goal.returns-clause-listed
returns-clause-listed g t c = λ octets h.
    let there = rw (← c.self.view_is, c.in-Some.is) at h in
    elim there [ inl is ↦ inl is | inr more ↦ inr (c.clear.ensures.listed octets (rw c.deref_mut.ensures.value more)) ]
