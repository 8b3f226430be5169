use Rattle.std.proofs.Common.{ℕ, zero, suc, List, [], ◌∷◌, ◌++◌, take, drop, arith, sym, subst}
use Rattle.std.proofs.lemmas.List.{take-append-drop}
use Rattle.bgp_attr.specs.ReceivedAttributes.{AreOctets}

-- Parts of octets are octets.

pub octets-tail : (x : ℕ) (xs : List ℕ) → AreOctets (x ∷ xs) → AreOctets xs
octets-tail x xs h i = h (suc i)

pub octets-left : (xs ys : List ℕ) → AreOctets (xs ++ ys) → AreOctets xs
octets-left [] ys h i = omega arith
octets-left (x ∷ xs) ys h zero = h 0
octets-left (x ∷ xs) ys h (suc i) = octets-left xs ys (λ k. h (suc k)) i

pub octets-right : (xs ys : List ℕ) → AreOctets (xs ++ ys) → AreOctets ys
octets-right [] ys h = h
octets-right (x ∷ xs) ys h = octets-right xs ys (λ k. h (suc k))

pub octets-take : (n : ℕ) (xs : List ℕ) → AreOctets xs → AreOctets (take n xs)
octets-take n xs h = let P : List ℕ → Type 0 = AreOctets in octets-left (take n xs) (drop n xs) (subst P (sym (take-append-drop n xs)) h)

pub octets-drop : (n : ℕ) (xs : List ℕ) → AreOctets xs → AreOctets (drop n xs)
octets-drop n xs h = let P : List ℕ → Type 0 = AreOctets in octets-right (take n xs) (drop n xs) (subst P (sym (take-append-drop n xs)) h)
