-- What words may ask for besides the program's work (own).
use Rattle.std.specs.Prelude.{◌≡◌, ℕ, List, [], ◌∷◌, String, codes, string_bytes}
use Rattle.std.specs.declared.alloc.Global.{Global}
use Rattle.program_endings.specs.declared.aside.Aside.{Aside}
use Rattle.program_endings.specs.declared.aside.Aside.TheVariants.{Help, Version, Check}

-- one word asks for this
abbrev pub AsksAlone : List ℕ → Aside → Type 0
AsksAlone word Help = word ≡ codes "--help"
AsksAlone word Version = word ≡ codes "--version"
AsksAlone word (Check path) = ⊥

-- a word and a path ask for this
abbrev pub AsksOf : List ℕ → List ℕ → Aside → Type 0
AsksOf word settings Help = ⊥
AsksOf word settings Version = ⊥
AsksOf word settings (Check path) = (word ≡ codes "--check") × (path.now ≡ settings)

-- the words ask for this
abbrev pub Asks : List (String Global) → Aside → Type 0
Asks [] aside = ⊥
Asks (word ∷ []) aside = AsksAlone (string_bytes word) aside
Asks (word ∷ settings ∷ []) aside = AsksOf (string_bytes word) (string_bytes settings) aside
Asks (word ∷ settings ∷ more ∷ words) aside = ⊥
