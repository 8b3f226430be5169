use Rattle.std.proofs.Common.{◌≡◌, Some, None, ap, sym, ◌∙◌}
use Rattle.std.specs.Option.{option_copied}
use Rattle.prefix_trie.specs.TrieMap.{found}
use Rattle.origin_valid.specs.KeptPayloads.{has_among}
use Rattle.origin_valid.proofs.Kept.{has-payloads_of}
use Rattle.origin_valid.proofs.payload_trie.PayloadTrie.contains.Goals as goal

pub returns-in-Some : goal.returns-in-Some
returns-in-Some g c =
    let there : found c.self.inside.prefixes c.args.payload.now.prefix ≡ Some c.in-Some.payloads.now = sym c.get.ensures ∙ ap option_copied c.in-Some.is in
    rw (← c.self.view_is)
    (c.has.ensures ∙ ap (λ o. has_among o c.args.payload.now) (sym there) ∙ sym (has-payloads_of c.self.inside.prefixes c.args.payload.now c.self.invariant))

pub returns-in-None : goal.returns-in-None
returns-in-None g c =
    let there : found c.self.inside.prefixes c.args.payload.now.prefix ≡ None = sym c.get.ensures ∙ ap option_copied c.in-None.is in
    rw (← c.self.view_is) (ap (λ o. has_among o c.args.payload.now) (sym there) ∙ sym (has-payloads_of c.self.inside.prefixes c.args.payload.now c.self.invariant))
