-- What is left of a chunk.
use Rattle.std.proofs.Common.{◌≡◌, ◌≤◌, ◌+◌, ◌-◌, ◌∙◌, ℕ, List, length, take, drop, sym, ap, arith}
use Rattle.std.proofs.lemmas.List.{drop-drop, drop-take, length-take}
use Rattle.std.proofs.Math.Nat.{min-le_left}

fits : (from to count : ℕ) (octets : List ℕ) → count ≤ length (take (to - from) (drop from octets)) → count ≤ to - from
fits from to count octets few =
    let is = length-take (to - from) (drop from octets) in
    let least = min-le_left (to - from) (length (drop from octets)) in
    omega (arith, few, is, least)

pub left : (from to count : ℕ) (octets : List ℕ) → count ≤ length (take (to - from) (drop from octets)) → take (to - (from + count)) (drop (from + count) octets) ≡ drop count (take (to - from) (drop from octets))
left from to count octets few =
    ap (λ (rest : List ℕ). take (to - (from + count)) rest) (sym (drop-drop count from octets))
    ∙ (sym (drop-take count (to - (from + count)) (drop from octets))
    ∙ ap (λ (size : ℕ). drop count (take size (drop from octets))) (both (fits from to count octets few)))
  where
    both : count ≤ to - from → count + (to - (from + count)) ≡ to - from
    both within = omega (arith, within)

pub behind : (written count : ℕ) (octets : List ℕ) → drop (written + count) octets ≡ drop count (drop written octets)
behind written count octets = sym (drop-drop count written octets)
