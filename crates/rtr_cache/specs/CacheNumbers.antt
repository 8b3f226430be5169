-- The numbers by which operators know the refusals of a cache (own).
use Rattle.std.specs.Prelude.{ℕ}
use Rattle.rtr_cache.specs.declared.refusal.CacheRefusal.{CacheRefusal}
use Rattle.rtr_cache.specs.declared.refusal.CacheRefusal.TheVariants.{NoClient, Full, ClockBack, NoMemory, Range}

-- the numbers of the refusals
abbrev pub number_of : CacheRefusal → ℕ
number_of NoClient = 50
number_of Full = 51
number_of ClockBack = 52
number_of NoMemory = 53
number_of Range = 54
