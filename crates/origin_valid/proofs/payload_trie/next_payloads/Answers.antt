use Rattle.origin_valid.proofs.payload_trie.next_payloads.Goals as goal

pub returns-in-Some : goal.returns-in-Some
returns-in-Some g c = (c.in-Some.field-0-0, c.in-Some.ensures.steps)

pub returns-in-None : goal.returns-in-None
returns-in-None g c = c.in-None.ensures.steps.0
