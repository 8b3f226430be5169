use Rattle.std.proofs.Common.{codes, map, subst, sym, arith}
use Rattle.command_lines.proofs.RuleParts.{begin_later, narrower, no_octet, wider}
use Rattle.command_lines.specs.RuleWords.{IsAction, IsNumbered, IsStateTest, number_of}
use Rattle.command_lines.proofs.rules.rule_of.Goals as goal

pub returns-in_err-prefix : goal.returns-in_err-prefix
returns-in_err-prefix c = rw c.from_residual.ensures (λ rule is.
    let later = begin_later _ rule is in
    c.in_err-prefix.ensures.only _ is.states is.prefix later.prefix)

pub returns-in_err-state : goal.returns-in_err-state
returns-in_err-state c = rw c.from_residual-in_err-state.ensures (λ rule is.
    let later = begin_later _ rule is in
    let states = c.in_ok-prefix.ensures.only _ is.states is.prefix later.prefix in
    c.in_err-state.ensures.only _ is.origins (subst (λ words. IsStateTest words rule.condition.state is.origins) (sym states) is.state) later.state)

pub returns-in_err-origin : goal.returns-in_err-origin
returns-in_err-origin c = rw c.from_residual-in_err-origin.ensures (λ rule is.
    let later = begin_later _ rule is in
    let states = c.in_ok-prefix.ensures.only _ is.states is.prefix later.prefix in
    let origins = c.in_ok-state.ensures.only _ is.origins (subst (λ words. IsStateTest words rule.condition.state is.origins) (sym states) is.state) later.state in
    c.in_err-origin.ensures.only _ is.paths (subst (λ words. IsNumbered 32 (codes "origin") words (number_of rule.condition.origin) is.paths) (sym origins) is.origin) later.origin)

pub returns-in_err-path : goal.returns-in_err-path
returns-in_err-path c = rw c.from_residual-in_err-path.ensures (λ rule is.
    let later = begin_later _ rule is in
    let states = c.in_ok-prefix.ensures.only _ is.states is.prefix later.prefix in
    let origins = c.in_ok-state.ensures.only _ is.origins (subst (λ words. IsStateTest words rule.condition.state is.origins) (sym states) is.state) later.state in
    let paths = c.in_ok-origin.ensures.only _ is.paths (subst (λ words. IsNumbered 32 (codes "origin") words (number_of rule.condition.origin) is.paths) (sym origins) is.origin) later.origin in
    c.in_err-path.ensures.only _ is.froms (subst (λ words. IsNumbered 32 (codes "path") words (number_of rule.condition.path) is.froms) (sym paths.0) is.path) later.path)

pub returns-in_err-from : goal.returns-in_err-from
returns-in_err-from c = rw c.from_residual-in_err-from.ensures (λ rule is.
    let later = begin_later _ rule is in
    let states = c.in_ok-prefix.ensures.only _ is.states is.prefix later.prefix in
    let origins = c.in_ok-state.ensures.only _ is.origins (subst (λ words. IsStateTest words rule.condition.state is.origins) (sym states) is.state) later.state in
    let paths = c.in_ok-origin.ensures.only _ is.paths (subst (λ words. IsNumbered 32 (codes "origin") words (number_of rule.condition.origin) is.paths) (sym origins) is.origin) later.origin in
    let froms = c.in_ok-path.ensures.only _ is.froms (subst (λ words. IsNumbered 32 (codes "path") words (number_of rule.condition.path) is.froms) (sym paths.0) is.path) later.path in
    c.in_err-from.ensures.only _ is.actions (subst (λ words. IsNumbered 32 (codes "from") words rule.condition.from is.actions) (sym froms.0) (wider 8 32 _ _ _ _ (omega arith) is.from)) later.from)

pub returns-in_err-slot : goal.returns-in_err-slot
returns-in_err-slot c = rw c.from_residual-in_err-slot.ensures (λ rule is.
    let later = begin_later _ rule is in
    let states = c.in_ok-prefix.ensures.only _ is.states is.prefix later.prefix in
    let origins = c.in_ok-state.ensures.only _ is.origins (subst (λ words. IsStateTest words rule.condition.state is.origins) (sym states) is.state) later.state in
    let paths = c.in_ok-origin.ensures.only _ is.paths (subst (λ words. IsNumbered 32 (codes "origin") words (number_of rule.condition.origin) is.paths) (sym origins) is.origin) later.origin in
    let froms = c.in_ok-path.ensures.only _ is.froms (subst (λ words. IsNumbered 32 (codes "path") words (number_of rule.condition.path) is.froms) (sym paths.0) is.path) later.path in
    let actions = c.in_ok-from.ensures.only _ is.actions (subst (λ words. IsNumbered 32 (codes "from") words rule.condition.from is.actions) (sym froms.0) (wider 8 32 _ _ _ _ (omega arith) is.from)) later.from in
    let more = c.in_err-slot.ensures in
    no_octet _ _ _ _ _ more.0 is.from actions.1 more.1 more.2)

pub returns-in_err-action_of : goal.returns-in_err-action_of
returns-in_err-action_of c = rw c.from_residual-in_err-action_of.ensures (λ rule is.
    let later = begin_later _ rule is in
    let states = c.in_ok-prefix.ensures.only _ is.states is.prefix later.prefix in
    let origins = c.in_ok-state.ensures.only _ is.origins (subst (λ words. IsStateTest words rule.condition.state is.origins) (sym states) is.state) later.state in
    let paths = c.in_ok-origin.ensures.only _ is.paths (subst (λ words. IsNumbered 32 (codes "origin") words (number_of rule.condition.origin) is.paths) (sym origins) is.origin) later.origin in
    let froms = c.in_ok-path.ensures.only _ is.froms (subst (λ words. IsNumbered 32 (codes "path") words (number_of rule.condition.path) is.froms) (sym paths.0) is.path) later.path in
    let actions = c.in_ok-from.ensures.only _ is.actions (subst (λ words. IsNumbered 32 (codes "from") words rule.condition.from is.actions) (sym froms.0) (wider 8 32 _ _ _ _ (omega arith) is.from)) later.from in
    c.in_err-action_of.ensures rule.action (subst (λ words. IsAction words rule.action) (sym actions.0) is.action))

pub returns : goal.returns
returns c = record {
  states = map (λ word. word.now) c.in_ok-prefix.words.now;
  origins = map (λ word. word.now) c.in_ok-state.words.now;
  paths = map (λ word. word.now) c.in_ok-origin.words.now;
  froms = map (λ word. word.now) c.in_ok-path.words.now;
  actions = map (λ word. word.now) c.in_ok-from.words.now;
  prefix = c.in_ok-prefix.ensures.some;
  state = c.in_ok-state.ensures.some;
  origin = rw c.asn.ensures c.in_ok-origin.ensures.some;
  path = rw c.asn-2.ensures c.in_ok-path.ensures.some;
  from = narrower _ _ _ _ c.in_ok-slot.ensures.1 (rw c.in_ok-slot.ensures.0 c.in_ok-from.ensures.some);
  action = c.in_ok-action_of.ensures;
}
