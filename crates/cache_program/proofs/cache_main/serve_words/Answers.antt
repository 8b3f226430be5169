use Rattle.std.proofs.Common.{◌≡◌, ◌∙◌, Some, rules, string_bytes}
use Rattle.wires.specs.Wires.{nothing_told}
use Rattle.cache_program.proofs.Attending.{attends_as}
use Rattle.cache_program.proofs.Begun.{aged_by_system, listens_there, served_as}
use Rattle.cache_program.proofs.EndedWell.{if_ok_as}
use Rattle.cache_program.proofs.SystemFiles.{opens_as}
use Rattle.cache_program.proofs.cache_main.serve_words.Goals as goal

pub returns-clause-serves : goal.returns-clause-serves
returns-clause-serves g c =
    if_ok_as c.run_cache.result c.run_cache.ensures.serves
    (λ served is.
    let path : is.4.0.path ≡ is.4.1.shown.now = (let gives = is.4.1.says.met in search rules) in
    let so =
    served_as _ _ _ _ _ _ _ _ _ _ is.2 is.1 _ _ served (aged_by_system _ _ _ _ _ is.2 is.1 _ _ served is.5)
    (λ sources given. opens_as _ is.2 sources given (λ path file at. let is : file.path ≡ at.shown.now = (let gives = at.says.met in search rules) in is ∙ at.shows))
    (λ age told. told)
    (λ wire opened. let listens : opened.0 ≡ nothing_told (Some (is.2).listen) = (let gives = opened.1 in search rules) in opened.2 ∙ listens)
    (λ second told. tt)
    (λ moments. attends_as _ _ _ _ _ _ is.2 is.1 moments
    (λ path socket given. let opened : string_bytes socket.path ≡ given.0.now = (let gives = given.1 in search rules) in opened ∙ given.2)) in
    (is.0, is.1, is.2, is.3, (is.4.0, path ∙ is.4.1.shows, is.4.2), so, listens_there _ _ _ _ is.2 is.1 _ _ served _ so))
