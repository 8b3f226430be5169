use Rattle.cache_program.proofs.EndedWell.{if_ok_so}
use Rattle.cache_program.proofs.cache_main.run_cache.Goals as goal

pub returns-clause-serves : goal.returns-clause-serves
returns-clause-serves g c =
    if_ok_so c.serve_cache.result
    (λ served is. (c.in_ok-path.path.now, c.in_ok-path.turns, c.in_ok-settings.settings, c.in_ok-path.ensures, c.in_ok-settings.ensures.told, is)) c.serve_cache.ensures.serves
