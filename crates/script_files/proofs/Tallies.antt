-- One name more is counted.
use Rattle.std.proofs.Common.{◌≡◌, ◌+◌, ◌<◌, ◌^◌, ℕ, suc, Bool, true, false, List, [], ◌∷◌, length, refl, sym, subst, inl, inr, if◌then◌else◌, arith}
use Rattle.std.specs.Prelude.{IsTrue, IsFalse}
use Rattle.std.proofs.lemmas.Bool.Decides.{nat_tests}
use Rattle.script_files.specs.Counts.{one_more}
use Rattle.script_files.specs.Judgement.{Answers}
use Rattle.script_files.specs.Listing.{AreSplit, IsAsTold, IsOtherwise, IsTallied, Texts}

more : (count : ℕ) → count + 1 < 2 ^ 64 → one_more count ≡ count + 1
more count less = grind (arith, nat_tests, less)

pub tallied : (answers : Answers) (scripts told_texts : Texts) (is_as_told : Bool) (as_told differing : ℕ) (name : List ℕ) (left all : List (List ℕ))
    → IsTallied answers scripts told_texts as_told differing (name ∷ left) all → length all < 2 ^ 63
    → (IsTrue is_as_told → IsAsTold answers scripts told_texts name) → (IsFalse is_as_told → IsOtherwise answers scripts told_texts name)
    → IsTallied answers scripts told_texts (if is_as_told then one_more as_told else as_told) (if is_as_told then differing else one_more differing) left all
tallied answers scripts told_texts true as_told differing name left all t few told other =
    let one = more as_told (omega (arith, t.count, few)) in
    record {
      count = omega (arith, t.count, one);
      all_as_told = λ none rest. t.all_as_told none (told refl, rest);
      one_otherwise = t.one_otherwise;
      one_left = λ one. t.one_left (inr one);
      split = λ a d m n as_is differ_is rest. t.split (suc a) d m n (omega (arith, as_is, one)) differ_is (inl (a, refl, told refl, rest));
    }
tallied answers scripts told_texts false as_told differing name left all t few told other =
    let one = more differing (omega (arith, t.count, few)) in
    record {
      count = omega (arith, t.count, one);
      all_as_told = λ none rest. grind (arith, one, none);
      one_otherwise = λ some. t.one_left (inl (other refl));
      one_left = λ one. t.one_left (inr one);
      split = λ a d m n as_is differ_is rest. t.split a (suc d) m n as_is (omega (arith, differ_is, one)) (inr (d, refl, other refl, rest));
    }

-- behind the last
pub settled : (answers : Answers) (scripts told_texts : Texts) (as_told differing : ℕ) (left all : List (List ℕ))
    → IsTallied answers scripts told_texts as_told differing left all → left ≡ [] → AreSplit answers scripts told_texts as_told differing all
settled answers scripts told_texts as_told differing left all t none =
    t.split 0 0 as_told differing (omega arith) (omega arith) (subst (λ names. AreSplit answers scripts told_texts 0 0 names) (sym none) (refl, refl))
