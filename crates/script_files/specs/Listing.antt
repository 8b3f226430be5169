-- What came of the scripts of a list.
use Rattle.std.specs.Prelude.{◌≡◌, ◌≢◌, ◌+◌, ℕ, suc, ⊤, ◌⊎◌, List, [], ◌∷◌, length}
use Rattle.script_files.specs.Judgement.{Answers, AreAnswered, IsFirstAmong}
use Rattle.script_files.specs.declared.judging.Difference.{Difference}

-- what may stand on a shelf under a name
abbrev pub Texts : Type 1
Texts = List ℕ → List ℕ → Type 0

-- the script of this name was answered just what is told of it
abbrev pub IsAsTold : Answers → Texts → Texts → List ℕ → Type 0
IsAsTold answers scripts told_texts name =
    (script : List ℕ) × (told : List ℕ) × scripts name script × told_texts name told × AreAnswered answers script told

-- it was first answered otherwise so
abbrev pub IsOtherwise : Answers → Texts → Texts → List ℕ → Type 0
IsOtherwise answers scripts told_texts name =
    (script : List ℕ) × (told : List ℕ) × (difference : Difference)
    × scripts name script × told_texts name told × IsFirstAmong answers script told difference

-- all of the names were answered as told
abbrev pub AreAsTold : Answers → Texts → Texts → List (List ℕ) → Type 0
AreAsTold answers scripts told_texts [] = ⊤
AreAsTold answers scripts told_texts (name ∷ names) =
    IsAsTold answers scripts told_texts name × AreAsTold answers scripts told_texts names

-- one of them was answered otherwise
abbrev pub IsOneOtherwise : Answers → Texts → Texts → List (List ℕ) → Type 0
IsOneOtherwise answers scripts told_texts [] = ⊥
IsOneOtherwise answers scripts told_texts (name ∷ names) =
    IsOtherwise answers scripts told_texts name ⊎ IsOneOtherwise answers scripts told_texts names

-- of the names so many were answered as told, and so many otherwise, each name once
abbrev pub AreSplit : Answers → Texts → Texts → ℕ → ℕ → List (List ℕ) → Type 0
AreSplit answers scripts told_texts as_told differing [] = (as_told ≡ 0) × (differing ≡ 0)
AreSplit answers scripts told_texts as_told differing (name ∷ names) =
    ((others : ℕ) × (as_told ≡ suc others) × IsAsTold answers scripts told_texts name × AreSplit answers scripts told_texts others differing names)
    ⊎ ((others : ℕ) × (differing ≡ suc others) × IsOtherwise answers scripts told_texts name × AreSplit answers scripts told_texts as_told others names)

-- of all names these are left, and so many of those before them were answered as told, so many otherwise
pub record IsTallied (answers : Answers) (scripts told_texts : Texts) (as_told differing : ℕ) (left all : List (List ℕ)) : Type 0 where
  pub count : as_told + differing + length left ≡ length all
  pub all_as_told : differing ≡ 0 → AreAsTold answers scripts told_texts left → AreAsTold answers scripts told_texts all
  pub one_otherwise : differing ≢ 0 → IsOneOtherwise answers scripts told_texts all
  pub one_left : IsOneOtherwise answers scripts told_texts left → IsOneOtherwise answers scripts told_texts all
  pub split : (a d m n : ℕ) → m ≡ as_told + a → n ≡ differing + d → AreSplit answers scripts told_texts a d left → AreSplit answers scripts told_texts m n all
