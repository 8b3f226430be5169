-- The names of members, one after another.
use Rattle.std.proofs.Common.{◌≡◌, ◌<◌, ◌+◌, ◌||◌, ◌∙◌, ℕ, true, false, List, [], ◌∷◌, Vec, map, drop, get_or, length, Option, None, Some, refl, sym, ap, subst, add-one, drop-cons}
use Rattle.std.specs.List.{list_any}
use Rattle.std.specs.Str.{bytes_eq}
use Rattle.std.specs.Borrow.{Bor}
use Rattle.json.specs.Json.{Json}
use Rattle.json.specs.Value.{members_view, value_view}
use Rattle.json.specs.declared.value.Value.{Value}
use Rattle.json.specs.declared.value.Value.TheVariants.{Object}
use Rattle.json.proofs.Trees.{view-Object}
use Rattle.slurm_files.specs.MemberNames.{is_known, is_named, name_fault, names_fault, names_of, object_fault}
use Rattle.slurm_files.specs.declared.fault.Cause.{Cause}
use Rattle.slurm_files.specs.declared.fault.Cause.TheVariants.{UnknownMember, SecondMember}
use Rattle.slurm_files.specs.declared.member.Member.{Member}

module _ {X : Type 0} (f : X → List ℕ) where
  -- the members from a place on begin with the one at the place
  from_place : (xs : List X) (i : ℕ) (x : X) → i < length xs → x ≡ get_or xs i x → map f (drop i xs) ≡ f x ∷ map f (drop (i + 1) xs)
  from_place xs i x less is = rw (add-one, drop-cons xs i x, sym is) refl

  -- a member among those behind
  pub named_in_map : (xs : List X) (name : List ℕ) → list_any (λ x. bytes_eq (f x) name) xs ≡ is_named (map f xs) name
  named_in_map [] name = refl
  named_in_map (x ∷ xs) name = ap (λ b. bytes_eq (f x) name || b) (named_in_map xs name)

  -- the member at a place has a fault
  pub stops_here : (known : List Member) (xs : List X) (i : ℕ) (x : X) (fault : Cause) → i < length xs → x ≡ get_or xs i x
      → Some fault ≡ name_fault known i (f x) (map f (drop (i + 1) xs)) → names_fault known i (map f (drop i xs)) ≡ Some fault
  stops_here known xs i x fault less is h = rw (from_place xs i x less is, sym h) refl

  -- or has none
  pub passes_here : (known : List Member) (xs : List X) (i : ℕ) (x : X) → i < length xs → x ≡ get_or xs i x
      → None ≡ name_fault known i (f x) (map f (drop (i + 1) xs)) → names_fault known i (map f (drop i xs)) ≡ names_fault known (i + 1) (map f (drop (i + 1) xs))
  passes_here known xs i x less is h = rw (from_place xs i x less is, sym h) refl

pub unknown_name : (known : List Member) (place : ℕ) (name : List ℕ) (behind : List (List ℕ)) → is_known known name ≡ false → Some (UnknownMember place) ≡ name_fault known place name behind
unknown_name known place name behind h = rw h refl

pub second_name : (known : List Member) (place : ℕ) (name : List ℕ) (behind : List (List ℕ)) → is_known known name ≡ true → is_named behind name ≡ true → Some (SecondMember place) ≡ name_fault known place name behind
second_name known place name behind h again = rw (h, again) refl

pub good_name : (known : List Member) (place : ℕ) (name : List ℕ) (behind : List (List ℕ)) → is_known known name ≡ true → is_named behind name ≡ false → None ≡ name_fault known place name behind
good_name known place name behind h other = rw (h, other) refl

-- the name of a member
abbrev pub name_in : {A : Type 0} → Bor (List ℕ) × Value A → List ℕ
name_in m = m.0.now

-- the names of an object's members
names_of-members : {A : Type 0} (ms : List (Bor (List ℕ) × Value A)) → names_of (members_view ms) ≡ map name_in ms
names_of-members [] = refl
names_of-members (m ∷ ms) = ap (λ names. m.0.now ∷ names) (names_of-members ms)

-- the fault of an object is that of its members
pub fault_of_object : {A : Type 0} (known : List Member) (r : Option Cause) (v : Value A) (ms : Vec (Bor (List ℕ) × Value A) A) (slice : List (Bor (List ℕ) × Value A)) → v ≡ Object ms → slice ≡ ms.items
    → r ≡ names_fault known 0 (map name_in slice) → r ≡ object_fault known (value_view v)
fault_of_object {A} known r v ms slice is same h =
    subst (λ (x : Value A). r ≡ object_fault known (value_view x)) (sym is)
    (h ∙ ap (λ (xs : List (Bor (List ℕ) × Value A)). names_fault known 0 (map name_in xs)) same
    ∙ sym (ap (λ (names : List (List ℕ)). names_fault known 0 names) (names_of-members ms.items))
    ∙ sym (ap (λ (j : Json). object_fault known j) (view-Object ms)))
