-- One more moment.
use Rattle.std.proofs.Common.{◌≡◌, ℕ, List, [], ◌∷◌, ◌++◌, refl}
use Rattle.clocks.specs.Moments.{told_behind}

pub told_one_more : (moments : List ℕ) (now : ℕ) (before : List ℕ) → told_behind (moments ++ now ∷ []) before ≡ now ∷ told_behind moments before
told_one_more [] now before = refl
told_one_more (moment ∷ moments) now before = told_one_more moments now (moment ∷ before)
