-- A whole version is what the empty set lacks of it.
use Rattle.std.proofs.Common.{◌≡◌, List, [], ◌∷◌, ◌++◌, ap, false, refl}
use Rattle.net_prefix.specs.declared.payload.Vrp.{Vrp}
use Rattle.rtr_cache.specs.CacheTable.{is_idle}
use Rattle.rtr_codec.specs.PduSpelling.{Content}
use Rattle.vrp_delta.specs.Delta.{lacked}

pub lacked_by_nothing : (set : List Vrp) → lacked set [] ≡ set
lacked_by_nothing [] = refl
lacked_by_nothing (payload ∷ set) = ap (λ (rest : List Vrp). payload ∷ rest) (lacked_by_nothing set)

-- a last PDU is always left to say
pub unsaid-more : (payloads : List Content) (end : Content) → is_idle (payloads ++ end ∷ []) ≡ false
unsaid-more [] end = refl
unsaid-more (payload ∷ payloads) end = refl
