use Rattle.std.proofs.Common.{◌≡◌, ◌≤◌, ℕ, ◌+◌, ◌-◌, List, length, take, drop, slice_range, sym, ap, ◌∙◌, arith, length-take, drop-drop}
use Rattle.std.proofs.lemmas.List.{drop-take}

-- Octets that wait between two places of a buffer.

-- a front that has gone leaves the rest
pub slice_range-further : (octets : List ℕ) (from to count : ℕ) → count ≤ to - from → slice_range octets (from + count) to ≡ drop count (slice_range octets from to)
slice_range-further octets from to count within =
    let whole : count + (to - (from + count)) ≡ to - from = omega (arith, within) in
    ap (take (to - (from + count))) (sym (drop-drop count from octets))
    ∙ sym (drop-take count (to - (from + count)) (drop from octets))
    ∙ ap (λ n. drop count (take n (drop from octets))) whole

-- what waits from the start of the buffer on
pub slice_range-front : (octets : List ℕ) (to : ℕ) → slice_range octets 0 to ≡ take to octets
slice_range-front octets to = ap (λ n. take n octets) (omega arith)

-- no more octets wait than the places are apart
pub length-slice_range : (octets : List ℕ) (from to : ℕ) → length (slice_range octets from to) ≤ to - from
length-slice_range octets from to = omega (arith, length-take (to - from) (drop from octets))
