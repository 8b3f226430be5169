-- Which text a name has.
use Rattle.std.proofs.Common.{◌≡◌, ℕ, zero, suc, ◌&&◌, ◌++◌, Bool, true, List, [], ◌∷◌, replicate, refl, sym, ap, subst}
use Rattle.std.proofs.lemmas.Bool.{and_parts, false≢true}
use Rattle.std.specs.List.{list_all}
use Rattle.policy.specs.declared.name.PolicyName.{PolicyName}
use Rattle.policy.specs.PolicyNames.{is_name_octet, is_policy_name, name_of}

-- no octet of a name is 0
no_zero : (y : ℕ) (b : Bool) → (is_name_octet y && b) ≡ true → 0 ≡ y → ⊥
no_zero y b h e = false≢true (subst (λ (n : ℕ). (is_name_octet n && b) ≡ true) (sym e) h)

-- texts of such octets are one where they are one with zeros behind them
one_text : (a b : List ℕ) (m n : ℕ) → list_all is_name_octet a ≡ true → list_all is_name_octet b ≡ true → a ++ replicate m 0 ≡ b ++ replicate n 0 → a ≡ b
one_text [] [] m n p q h = refl
one_text [] (y ∷ ys) zero n p q h = absurd cc
one_text [] (y ∷ ys) (suc m) n p q h = let e : 0 ≡ y = cc in absurd (no_zero y (list_all is_name_octet ys) q e)
one_text (x ∷ xs) [] m zero p q h = absurd cc
one_text (x ∷ xs) [] m (suc n) p q h = let e : 0 ≡ x = cc in absurd (no_zero x (list_all is_name_octet xs) p e)
one_text (x ∷ xs) (y ∷ ys) m n p q h =
    let e : x ≡ y = cc in
    let behind : xs ++ replicate m 0 ≡ ys ++ replicate n 0 = cc in
    let more : xs ≡ ys = one_text xs ys m n (and_parts (is_name_octet x) (list_all is_name_octet xs) p).1 (and_parts (is_name_octet y) (list_all is_name_octet ys) q).1 behind in
    cc

-- two texts of one name are one text
pub name_of-one_text : (text other : List ℕ) → is_policy_name text ≡ true → is_policy_name other ≡ true → name_of text ≡ name_of other → text ≡ other
unfolding name_of
name_of-one_text text other p q h =
    one_text text other _ _ (and_parts _ (list_all is_name_octet text) p).1 (and_parts _ (list_all is_name_octet other) q).1 (ap (λ (n : PolicyName). n.octets) h)
