use Rattle.std.proofs.Common.{sym, ◌∙◌}
use Rattle.settings_keys.proofs.FirstUnknown.{first_of-keys, goes_on, stops}
use Rattle.settings_keys.proofs.known.first_unknown.Goals as goal

pub loop-key-init : goal.loop-key-init
loop-key-init c = (tt, tt, rw (c.into_iter-key-iterator.ensures.into_iter_gives, c.keys-key-items.ensures.rest) (first_of-keys _ c.args.table.now.entries))

pub returns-then-not-is_known : goal.returns-then-not-is_known
returns-then-not-is_known c =
    rw c.as_str-then-not-is_known.ensures.value
    (stops c.args.known.now c.loop-key.key-iterator c.next.new.self c.in-Some.key.now _ _ c.in-Some.ensures.steps c.as_str.ensures.value (sym c.is_known.ensures ∙ c.if-not-is_known.true) c.loop-key.invariant.2)

pub loop-key-preserved : goal.loop-key-preserved
loop-key-preserved c = (tt, tt, goes_on c.args.known.now c.loop-key.key-iterator c.next.new.self c.in-Some.key.now _ _ c.in-Some.ensures.steps c.as_str.ensures.value (sym c.is_known.ensures ∙ c.if-not-is_known.false) c.loop-key.invariant.2)
