use Rattle.std.proofs.Common.{refl}
use Rattle.cache_program.proofs.cache_main.begin.Goals as goal

pub returns-clause-begins : goal.returns-clause-begins
returns-clause-begins g c =
    rw c.known_by.ensures
    rw c.aged-aged.ensures
    rw c.new-served.ensures
    (record {
      cache = c.in_ok-cache.cache;
      wire = c.in_ok-turns.ensures.idle.0;
      second = c.args.second;
      set = c.in_ok-cache.read.set.keys;
      age = c.list_age-file.result;
      told = refl;
      of_settings = c.in_ok-cache.ensures.cache;
      first = c.in_ok-cache.ensures.first;
      payloads = refl;
      guards = refl;
      accepted = refl;
      refused = refl;
      read = refl;
      answered = c.list_age-file.ensures;
      aged = c.age_told-age.ensures;
      most = c.oldest_of.ensures;
      listens = c.in_ok-turns.ensures.idle.1;
      turns = c.in_ok-turns.ensures.idle.2;
    })
