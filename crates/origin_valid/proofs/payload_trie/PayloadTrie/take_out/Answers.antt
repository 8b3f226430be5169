use Rattle.std.proofs.Common.{◌≡◌, rules, Some, None, true, false, ap, sym, ◌∙◌}
use Rattle.std.specs.Option.{option_copied}
use Rattle.prefix_trie.specs.TrieMap.{found}
use Rattle.origin_valid.specs.KeptPayloads.{IsLeft, is_only, payloads_of}
use Rattle.origin_valid.proofs.Kept.{left_one, none_out, only_out, taken}
use Rattle.origin_valid.proofs.payload_trie.PayloadTrie.take_out.Goals as goal

pub returns-in_default : goal.returns-in_default
returns-in_default g c =
    let there : found c.self.inside.prefixes c.args.payload.now.prefix ≡ None = sym c.get.ensures ∙ ap option_copied c.in_default.is in
    rw (← c.self.view_is) (none_out c.self.inside.prefixes c.args.payload.now c.self.invariant there)

pub invariant_of-self : goal.invariant_of-self
invariant_of-self g c =
    let there : found c.self.inside.prefixes c.args.payload.now.prefix ≡ Some c.in-Some.payloads.now = sym c.get.ensures ∙ ap option_copied c.in-Some.is in
    let only : is_only c.args.payload.now c.in-Some.payloads.now ≡ true = sym c.is_only.ensures ∙ c.if-is_only.true in
    (only_out c.self.inside.prefixes c.remove.new.self c.args.payload.now c.in-Some.payloads.now c.self.invariant there only c.remove.ensures.entries).parts

pub invariant_of-self-else-is_only : goal.invariant_of-self-else-is_only
invariant_of-self-else-is_only g c =
    let there : found c.self.inside.prefixes c.args.payload.now.prefix ≡ Some c.in-Some.payloads.now = sym c.get.ensures ∙ ap option_copied c.in-Some.is in
    let more : is_only c.args.payload.now c.in-Some.payloads.now ≡ false = sym c.is_only.ensures ∙ c.if-is_only.false in
    let u = rw there at c.update.ensures in
    (left_one c.self.inside.prefixes c.update.new.self c.args.payload.now c.in-Some.payloads.now c.self.invariant there more
    (taken _ (IsLeft c.args.payload.now c.in-Some.payloads.now) _ u.1 (λ w t. search rules))).parts

pub returns-then-is_only : goal.returns-then-is_only
returns-then-is_only g c =
    let there : found c.self.inside.prefixes c.args.payload.now.prefix ≡ Some c.in-Some.payloads.now = sym c.get.ensures ∙ ap option_copied c.in-Some.is in
    let only : is_only c.args.payload.now c.in-Some.payloads.now ≡ true = sym c.is_only.ensures ∙ c.if-is_only.true in
    let made = only_out c.self.inside.prefixes c.remove.new.self c.args.payload.now c.in-Some.payloads.now c.self.invariant there only c.remove.ensures.entries in
    let same : c.match-remove.self ≡ payloads_of c.remove.new.self = search rules in
    rw (← c.self.view_is, same) made.kept

pub returns-else-is_only : goal.returns-else-is_only
returns-else-is_only g c =
    let there : found c.self.inside.prefixes c.args.payload.now.prefix ≡ Some c.in-Some.payloads.now = sym c.get.ensures ∙ ap option_copied c.in-Some.is in
    let more : is_only c.args.payload.now c.in-Some.payloads.now ≡ false = sym c.is_only.ensures ∙ c.if-is_only.false in
    let u = rw there at c.update.ensures in
    rw (← c.self.view_is)
    (left_one c.self.inside.prefixes c.update.new.self c.args.payload.now c.in-Some.payloads.now c.self.invariant there more
    (taken _ (IsLeft c.args.payload.now c.in-Some.payloads.now) _ u.1 (λ w t. search rules))).kept
