-- Files that were opened, and what was read of them (own).
use Rattle.std.specs.Prelude.{◌≡◌, ◌+◌, ◌<◌, ◌==◌, ◌&&◌, ℕ, Bool, List, Option, Some}
use Rattle.file_paths.specs.declared.steady.Stamp.{Stamp}

-- where it was opened, the octets that are left of it, where they are known, and the stamp by which it is known again, if it is
pub record OpenedFile : Type 0 where
  pub path : List ℕ
  pub text : Option (List ℕ)
  pub stamp : Option Stamp

-- the text is that of a file that was opened at the path
abbrev pub IsTextAt : List ℕ → Option (List ℕ) → Type 0
IsTextAt path text = (file : OpenedFile) × (file.path ≡ path) × (text ≡ file.text)

-- the octets are those of the text, where that is known
abbrev pub AreOctetsOf : Option (List ℕ) → List ℕ → Type 0
AreOctetsOf text octets = (known : List ℕ) → text ≡ Some known → octets ≡ known

-- a file with this stamp was written, and changed, more than two seconds before a second: it can't have been written once more
-- behind that and have the same stamp
abbrev pub HasRested : ℕ → Stamp → Type 0
HasRested second stamp = (stamp.written + 2 < second) × (stamp.changed + 2 < second)

-- it is the same, in each number
abbrev pub same_stamp : Stamp → Stamp → Bool
same_stamp a b =
    a.device == b.device && a.node == b.node && a.octets == b.octets && a.written == b.written && a.written_nanoseconds == b.written_nanoseconds && a.changed == b.changed
    && a.changed_nanoseconds == b.changed_nanoseconds
