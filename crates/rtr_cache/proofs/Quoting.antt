-- What an Error Report quotes.
use Rattle.std.proofs.Common.{◌≡◌, ◌≤◌, ◌<◌, ℕ, Bool, true, false, nat_lt, List, length, take, min, refl, sym, ◌∙◌, arith}
use Rattle.std.proofs.lemmas.Grind.{common_steps}
use Rattle.std.proofs.lemmas.List.{take_all}
use Rattle.rtr_cache.specs.CacheTable.{quoted_of}

quoted-by : (octets : List ℕ) (short : Bool) → nat_lt (length octets) 32 ≡ short → take (min (length octets) 32) octets ≡ quoted_of octets
quoted-by octets true is_short =
    let short : length octets < 32 = grind (arith, common_steps) in
    let count : min (length octets) 32 ≡ length octets = omega arith in
    rw count (take_all (length octets) octets (omega arith) ∙ sym (take_all 32 octets (omega arith)))
quoted-by octets false is_long =
    let long : 32 ≤ length octets = grind (arith, common_steps) in
    let count : min (length octets) 32 ≡ 32 = omega arith in
    rw count refl

pub quoted_min : (octets : List ℕ) → take (min (length octets) 32) octets ≡ quoted_of octets
quoted_min octets = quoted-by octets (nat_lt (length octets) 32) refl
