-- Operators are attended to, one after another.
use Rattle.std.proofs.Common.{◌≡◌, ◌+◌, ℕ, suc, List, Option, Some, if◌then◌else◌, is_some, arith, subst}
use Rattle.control_lines.specs.declared.talk.Wish.{Wish}
use Rattle.cache_desk.specs.Desks.{Attends, AttendsBelow, AttendsBy, DeskState, Hearing}
use Rattle.cache_desk.specs.declared.reading.Reading.{Reading}

next_key : (key : ℕ) → suc key ≡ key + 1
next_key key = omega arith

-- one more was
pub attends_one : {P : Type 0} (wish : P → ℕ → Wish) (line : P → ℕ → List ℕ) (Hears : Hearing P) (now key : ℕ) (old mid new : DeskState P) → AttendsBelow wish line Hears now key old mid → AttendsBy Hears (wish mid.operators key) (line mid.operators key) now key mid new → AttendsBelow wish line Hears now (key + 1) old new
attends_one wish line Hears now key old mid new below attended =
    subst (λ (keys : ℕ). AttendsBelow wish line Hears now keys old new) (next_key key) (mid, below, attended)

-- all were
pub attends_all : {P : Type 0} (wish : P → ℕ → Wish) (line : P → ℕ → List ℕ) (Hears : Hearing P) (now keys : ℕ) (reading : Option Reading) (old mid new : DeskState P) → keys ≡ 16 → AttendsBelow wish line Hears now keys old mid → reading ≡ mid.asking
    → new ≡ record mid { asked = if is_some mid.asking then Some now else mid.asked } → Attends wish line Hears now reading old new
attends_all wish line Hears now keys reading old mid new all below is noted = record {
  between = mid;
  attends = subst (λ (count : ℕ). AttendsBelow wish line Hears now count old mid) all below;
  reading_is = is;
  noted = noted;
}
