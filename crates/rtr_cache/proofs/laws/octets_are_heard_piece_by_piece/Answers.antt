use Rattle.rtr_cache.proofs.CacheSteps.{hears-none, hears-row}
use Rattle.rtr_cache.proofs.laws.octets_are_heard_piece_by_piece.Goals as goal

pub returns-clause-none : goal.returns-clause-none
returns-clause-none c shared refused conn place part piece more h some fits none = hears-none shared refused conn place part piece more (h, some, fits) none

pub returns-clause-row : goal.returns-clause-row
returns-clause-row c shared refused conn place part piece more item h some fits is_item is_open =
    hears-row shared refused conn place part piece more item (h, some, fits) is_item is_open
