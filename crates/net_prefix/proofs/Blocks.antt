-- Blocks of addresses begin at the multiples of their size.
use Rattle.std.proofs.Common.{◌≡◌, ℕ, ◌+◌, ◌-◌, ◌*◌, ◌/◌, ◌%◌, ◌^◌, ◌<◌, ◌≤◌, inl, inr, sym, ap, subst, ◌∙◌, arith}
use Rattle.std.proofs.Math.Nat.{mul-mod_left}
use Rattle.std.proofs.lemmas.Nat.{pow_pos, pow-add, div-add-mod', div-mul-add, mul-le}
use Rattle.std.proofs.lemmas.Bool.{cases_lt}
use Rattle.net_prefix.specs.Cover.{block_size}

-- a number that s divides is so many times s
pub whole : (s a : ℕ) → a % s ≡ 0 → a / s * s ≡ a
whole s a h = omega (arith, div-add-mod' a s)

-- between two multiples there is room for one block
pub room : (s a b : ℕ) → a % s ≡ 0 → b % s ≡ 0 → a < b → a + s ≤ b
room s a b ha hb less =
    let ea = whole s a ha in
    let eb = whole s b hb in
    elim (cases_lt (a / s) (b / s)) [
      | inl h ↦ let step = mul-le (a / s + 1) s (b / s) s (omega arith) (omega arith) in let split : (a / s + 1) * s ≡ a / s * s + s = grind arith in omega arith
      | inr h ↦ let step = mul-le (b / s) s (a / s) s h (omega arith) in absurd (omega arith)
    ]

times : (k m n x : ℕ) → x % (k * m) ≡ 0 → x % m ≡ 0
times k m n x h =
    let e : x ≡ (x / (k * m) * k) * m = sym (whole (k * m) x h) ∙ grind arith in
    subst (λ (y : ℕ). y % m ≡ 0) (sym e) (mul-mod_left (x / (k * m) * k) m)

-- a multiple of a block is one of each smaller block
pub finer : (len longer x : ℕ) → len ≤ longer → x % block_size len ≡ 0 → x % block_size longer ≡ 0
finer len longer x le h =
    let up : 32 - len ≡ ((32 - len) - (32 - longer)) + (32 - longer) = omega arith in
    let parts : block_size len ≡ 2 ^ ((32 - len) - (32 - longer)) * block_size longer = ap (λ (n : ℕ). 2 ^ n) up ∙ pow-add 2 ((32 - len) - (32 - longer)) (32 - longer) in
    times (2 ^ ((32 - len) - (32 - longer))) (block_size longer) 0 x (subst (λ (n : ℕ). x % n ≡ 0) parts h)

-- a block is two halves
pub halves : (len : ℕ) → len < 32 → block_size len ≡ block_size (len + 1) + block_size (len + 1)
halves len short =
    let up : 32 - len ≡ 1 + (32 - (len + 1)) = omega arith in
    ap (λ (n : ℕ). 2 ^ n) up ∙ pow-add 2 1 (32 - (len + 1)) ∙ grind arith

pub block_pos : (len : ℕ) → 0 < block_size len
block_pos len = pow_pos (32 - len)

-- a number in the block of a multiple
pub divided : (q size n : ℕ) → q * size ≤ n → n < q * size + size → n / size ≡ q
divided q size n from to =
    let e : n ≡ q * size + (n - q * size) = omega arith in
    ap (λ m. m / size) e ∙ div-mul-add q size (n - q * size) (omega arith)
