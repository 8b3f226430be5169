use Rattle.std.proofs.Common.{◌≡◌, ℕ, Some, ap, sym, ◌∙◌}
use Rattle.cache_program.proofs.Attending.{attends_operators}
use Rattle.cache_program.proofs.Begun.{attended_as, is_served, served_as}
use Rattle.cache_program.specs.AttendedTurns.{AttendsOperators}
use Rattle.cache_program.proofs.cache_main.serve_cache.Goals as goal

pub returns-clause-serves : goal.returns-clause-serves
returns-clause-serves g c =
    served_as _ _ _ _ _ _ (λ told. told ≡ c.in_ok-second.second) _ _ _ _ _ _ _ _
    (is_served _ _ _ _ (AttendsOperators g.Q.Operators.wish g.Q.Operators.line g.Q.Operators.turns g.Q.Operators.hears _) _ _ c.in_ok-_start._start _ _ _ _ _ c.in_ok-_start.ensures.told c.in_ok-served.ensures.begins
    (attended_as _ _ _ _ _ _ _ _ _ _ (λ moments takes. attends_operators g.Q.Operators.wish g.Q.Operators.line g.Q.Operators.turns g.Q.Operators.hears _ c.args.settings.now _ _ c.in_ok-desk.ensures.open _ moments takes) c.in_ok-take_turns.ensures.turns))
    (λ sources given. given) (λ age told. told) (λ wire answered. answered) (λ second same. c.in_ok-second.ensures.told ∙ ap (λ (s : ℕ). Some s) (sym same)) (λ moments attends. attends)
