use Rattle.std.proofs.Common.{sym}
use Rattle.vrp_json.proofs.Steps.{can_skip, found, not_there, pass_other}
use Rattle.vrp_json.proofs.walk.find_member.Goals as goal

pub returns-then-eq : goal.returns-then-eq
returns-then-eq c = λ ms at.
    found c.args.wanted.now ms c.loop-name.reader c.next_name.new.reader c.in-Some.name.now (c.loop-name.invariant ms at) c.in-Some.ensures (sym c.if-eq.ensures)

pub returns-in-Err : goal.returns-in-Err
returns-in-Err c = λ ms at.
    absurd (can_skip c.args.wanted.now ms c.loop-name.reader c.next_name.new.reader c.in-Some.name.now (c.loop-name.invariant ms at) c.in-Some.ensures c.in-Err.ensures.value)

pub loop-name-preserved : goal.loop-name-preserved
loop-name-preserved c = λ ms at.
    pass_other c.args.wanted.now ms c.loop-name.reader c.next_name.new.reader c.skip_value.new.self c.in-Some.name.now (c.loop-name.invariant ms at) c.in-Some.ensures (sym c.if-eq.ensures) c.in_default-skip_value.ensures.value

pub returns : goal.returns
returns c = λ ms at.
    not_there c.args.wanted.now ms c.loop-name.reader c.next_name.new.reader (c.loop-name.invariant ms at) c.in_default.ensures
