-- What follows from which prefix covers which.
use Rattle.std.proofs.Common.{◌≡◌, ◌≤◌, ◌<◌, ◌-◌, ◌+◌, ◌*◌, ◌/◌, ◌^◌, ◌&&◌, ◌==◌, ℕ, Bool, true, false, not, nat_le, inl, inr, refl, sym, ap, subst, ◌∙◌, arith}
use Rattle.std.proofs.Math.Nat.{div-div-eq-div-mul}
use Rattle.std.proofs.lemmas.Bool.{and_from, and_parts, cases_order}
use Rattle.std.proofs.lemmas.Bool.Decides.{nat_tests}
use Rattle.std.proofs.lemmas.Nat.{pow-add}
use Rattle.std.specs.BTreeMap.{is_at}
use Rattle.net_prefix.specs.Cover.{Covers, block_size}
use Rattle.net_prefix.specs.PrefixOrder.{prefix_cmp}
use Rattle.net_prefix.specs.declared.prefix.Prefix.{Prefix}
use Rattle.net_prefix.proofs.Covering.{covers_between, first_of_covered}
use Rattle.net_prefix.proofs.Prefixes.{same_prefix}
use Rattle.net_prefix.proofs.Ranks.{cmp_below, less_rank, rank}
use Rattle.prefix_trie.specs.CoverWalks.{covers}
use Rattle.prefix_trie.proofs.MapLaws.{is_at-refl, one_prefix}
use Rattle.origin_valid.specs.Stretches.{covers_other}

test_to : (a b c d : ℕ) → (nat_le a b && (c == d)) ≡ true → (a ≤ b) × (c ≡ d)
test_to a b c d h = (grind (arith, nat_tests), grind (arith, nat_tests))

test_from : (a b c d : ℕ) → a ≤ b → c ≡ d → (nat_le a b && (c == d)) ≡ true
test_from a b c d h e = grind (arith, nat_tests)

pub covers_to : (p q : Prefix) → covers p q ≡ true → Covers p.bits p.len q.bits q.len
covers_to p q h = test_to p.len q.len (p.bits / block_size p.len) (q.bits / block_size p.len) h

pub covers_from : (p q : Prefix) → Covers p.bits p.len q.bits q.len → covers p q ≡ true
covers_from p q h = test_from p.len q.len (p.bits / block_size p.len) (q.bits / block_size p.len) h.0 h.1

pub covers-itself : (p : Prefix) → covers p p ≡ true
covers-itself p = covers_from p p (omega arith, refl)

-- addresses in one block are in one larger block
one_block : (len longer x y : ℕ) → len ≤ longer → x / block_size longer ≡ y / block_size longer → x / block_size len ≡ y / block_size len
one_block len longer x y le h =
    let more = (32 - len) - (32 - longer) in
    let up : 32 - len ≡ (32 - longer) + more = omega arith in
    let parts : block_size len ≡ block_size longer * 2 ^ more = ap (λ (n : ℕ). 2 ^ n) up ∙ pow-add 2 (32 - longer) more in
    let split : (z : ℕ) → z / block_size len ≡ z / block_size longer / 2 ^ more =
    λ (z : ℕ). ap (λ (n : ℕ). z / n) parts ∙ sym (div-div-eq-div-mul z (block_size longer) (2 ^ more)) in
    split x ∙ ap (λ (n : ℕ). n / 2 ^ more) h ∙ sym (split y)

-- what a covered prefix covers
pub covers-further : (p q r : Prefix) → covers p q ≡ true → covers q r ≡ true → covers p r ≡ true
covers-further p q r first second =
    let pq = covers_to p q first in
    let qr = covers_to q r second in
    covers_from p r (omega (arith, pq.0, qr.0), pq.1 ∙ one_block p.len q.len q.bits r.bits pq.0 qr.1)

-- prefixes at one place of the order
pub same_rank : (p q : Prefix) → rank p ≡ rank q → p ≡ q
same_rank p q h = let short = p.short in let other = q.short in same_prefix p q (omega (arith, h)) (omega (arith, h))

turned_case : (p q : Prefix) (b : Bool) → is_at (prefix_cmp q) p ≡ b → is_at (prefix_cmp p) q ≡ false → b ≡ false
turned_case p q true at apart =
    let back : is_at (prefix_cmp p) q ≡ true = subst (λ (k : Prefix). is_at (prefix_cmp p) k ≡ true) (sym (one_prefix q p at)) (is_at-refl p) in
    absurd cc
turned_case p q false at apart = refl

-- two prefixes are apart whichever comes first
pub apart-turned : (p q : Prefix) → is_at (prefix_cmp p) q ≡ false → is_at (prefix_cmp q) p ≡ false
apart-turned p q apart = turned_case p q (is_at (prefix_cmp q) p) refl apart

-- between a prefix and one that it covers stand only such
pub covers-between : (l p q : Prefix) → rank l ≤ rank p → rank p ≤ rank q → covers l q ≡ true → covers l p ≡ true
covers-between l p q low high h =
    elim (cases_order (rank l) (rank p)) [
      | inl e ↦ subst (λ (k : Prefix). covers l k ≡ true) (same_rank l p e) (covers-itself l)
      | inr (inl less) ↦ elim (cases_order (rank p) (rank q)) [
        | inl e ↦ subst (λ (k : Prefix). covers l k ≡ true) (sym (same_rank p q e)) h
        | inr (inl more) ↦ covers_from l p (covers_between l l p q (covers_to l l (covers-itself l)) (covers_to l q h) (cmp_below l p less) (cmp_below p q more))
        | inr (inr not_so) ↦ absurd (omega arith)
      ]
      | inr (inr not_so) ↦ absurd (omega arith)
    ]

none_other : (b c : Bool) → (b && not c) ≡ true → c ≡ true → ⊥
none_other true true h k = absurd cc
none_other true false h k = absurd cc
none_other false c h k = absurd cc

pub other_covers : (p q : Prefix) → covers_other p q ≡ true → covers p q ≡ true
other_covers p q h = (and_parts (covers p q) (not (is_at (prefix_cmp p) q)) h).0

-- a prefix that covers another one stands below it
pub other_below : (p q : Prefix) → covers_other p q ≡ true → rank p < rank q
other_below p q h =
    elim (first_of_covered p q (covers_to p q (other_covers p q h))) [
      | inl same ↦ absurd (none_other (covers p q) (is_at (prefix_cmp p) q) h (subst (λ (k : Prefix). is_at (prefix_cmp p) k ≡ true) same (is_at-refl p)))
      | inr less ↦ less_rank p q less
    ]

pub covers_other_from : (p q : Prefix) → covers p q ≡ true → is_at (prefix_cmp p) q ≡ false → covers_other p q ≡ true
covers_other_from p q h apart = and_from (covers p q) (not (is_at (prefix_cmp p) q)) h (ap not apart)
