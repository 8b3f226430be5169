use Rattle.std.proofs.Common.{◌≡◌, ◌≤◌, ◌<◌, ◌||◌, ◌⊎◌, Bool, true, false, cond, ℕ, List, [], ◌∷◌, length, get_or, set, replicate, Option, Some, None, IsSome, inl, inr, arith, refl, sym, ap, subst, ◌∙◌}
use Rattle.std.proofs.lemmas.Bool.{cases_eq, eq-eqb, ne_eqb}
use Rattle.std.proofs.lemmas.Grind.{get_or-set_at}
use Rattle.std.proofs.lemmas.List.{get_or-replicate, get_or-set_other, length-replicate}
use Rattle.std.proofs.Math.ListN.{length-set}
use Rattle.std.specs.Option.{option_and_then, option_map}
use Rattle.std.specs.List.{find}
use Rattle.std.specs.Prelude.{◌==◌, bit_and, not, MatchOption, ⊤}
use Rattle.bgp_attr.specs.AttributeFaults.{Fault, Tells, attribute_fault, attribute_tests, attributes_fault, cut_fault, fault_among, first_fault, has_code, or_else, type_tests, value_tests, AttributeFlags, AttributeLength, MalformedAsPath, MalformedAttributeList}
use Rattle.bgp_attr.specs.AsPath.{PathSegment}
use Rattle.bgp_attr.specs.AttributeReading.{NeedMemory, attributes_in}
use Rattle.bgp_attr.specs.UnknownAttributes.{unknown_in}
use Rattle.bgp_attr.specs.AttributeTable.{class_flags_of, class_of, type_of}
use Rattle.bgp_attr.specs.PathReading.{is_malformed_path, is_no_path, path_at}
use Rattle.bgp_attr.specs.declared.attribute_type.AttributeType.TheVariants.{AsPath}
use Rattle.bgp_attr.specs.ReceivedAttributes.{Attribute, Split, attribute_at, split_of, value_of}
use Rattle.bgp_attr.specs.declared.fault.UpdateFault.{UpdateFault}
use Rattle.bgp_attr.specs.declared.peer.PeerKind.{PeerKind}
use Rattle.bgp_attr.proofs.Splits.{split_of-none, split_of-some}

-- How the first fault is looked for.

-- the first fault of the attributes that octets are, behind others of these codes
abbrev pub fault_behind : PeerKind → List ℕ → List ℕ → Option Fault
fault_behind kind earlier octets = fault_among kind earlier (split_of octets).0 (split_of octets).1

-- which codes came is marked, and the first fault is that of the rest
pub record IsChecked (kind : PeerKind) (came : List Bool) (rest : List ℕ) (fault : Option Fault) : Type 0 where
  pub earlier : List ℕ
  pub long : length came ≡ 256
  pub marked : (code : ℕ) → code < 256 → get_or came code false ≡ has_code earlier code
  pub same : fault_behind kind earlier rest ≡ fault

fault_behind-none : (kind : PeerKind) (earlier octets : List ℕ) → attribute_at octets ≡ None → fault_behind kind earlier octets ≡ cut_fault octets
unfolding fault_among
fault_behind-none kind earlier octets h = ap (λ (s : Split). fault_among kind earlier s.0 s.1) (split_of-none octets h)

fault_behind-some : (kind : PeerKind) (earlier octets : List ℕ) (a : Attribute) (rest : List ℕ) → attribute_at octets ≡ Some (a, rest)
    → fault_behind kind earlier octets ≡ or_else (attribute_fault kind earlier a) (fault_behind kind (a.code ∷ earlier) rest)
unfolding fault_among
fault_behind-some kind earlier octets a rest h = ap (λ (s : Split). fault_among kind earlier s.0 s.1) (split_of-some octets a rest h)

-- nothing came yet
pub nothing_checked : (kind : PeerKind) (octets : List ℕ) → IsChecked kind (replicate 256 false) octets (attributes_fault kind octets)
unfolding attributes_fault
nothing_checked kind octets = record { earlier = []; long = length-replicate 256 false; marked = λ code lt. get_or-replicate 256 code false false lt; same = refl }

-- all octets are checked
pub all_checked : (kind : PeerKind) (came : List Bool) (rest : List ℕ) (fault : Option Fault) → IsChecked kind came rest fault → length rest ≤ 0 → fault ≡ None
unfolding attribute_at
all_checked kind came [] fault h none = sym h.same ∙ fault_behind-none kind h.earlier [] refl
all_checked kind came (octet ∷ more) fault h none = absurd (omega arith)

-- the next attribute is cut off
pub cut_checked : (kind : PeerKind) (came : List Bool) (rest : List ℕ) (fault : Option Fault) → IsChecked kind came rest fault → 0 < length rest → attribute_at rest ≡ None → fault ≡ Some MalformedAttributeList
cut_checked kind came [] fault h some none = absurd (omega arith)
cut_checked kind came (octet ∷ more) fault h some none = sym h.same ∙ fault_behind-none kind h.earlier (octet ∷ more) none

-- the fault of an attribute whose code came or did not
fault_of : (kind : PeerKind) (came : List Bool) (rest : List ℕ) (fault : Option Fault) (h : IsChecked kind came rest fault) (a : Attribute) (c : Bool) → a.code < 256 → c ≡ get_or came a.code false
    → first_fault (attribute_tests kind c a) ≡ attribute_fault kind h.earlier a
unfolding attribute_fault
fault_of kind came rest fault h a c small is = ap (λ (b : Bool). first_fault (attribute_tests kind b a)) (is ∙ h.marked a.code small)

or_else-some : (o other : Option Fault) → IsSome o → or_else o other ≡ o
or_else-some None other h = absurd cc
or_else-some (Some fault) other h = refl

-- an attribute has a fault
pub fault_checked : (kind : PeerKind) (came : List Bool) (rest : List ℕ) (fault : Option Fault) (a : Attribute) (behind : List ℕ) (c : Bool) (answer : UpdateFault) → IsChecked kind came rest fault
    → attribute_at rest ≡ Some (a, behind) → a.code < 256 → c ≡ get_or came a.code false → Tells answer (first_fault (attribute_tests kind c a)) → Tells answer fault
fault_checked kind came rest fault a behind c answer h at small is tells =
    let one : first_fault (attribute_tests kind c a) ≡ attribute_fault kind h.earlier a = fault_of kind came rest fault h a c small is in
    let P : Option Fault → Type 0 = λ o. Tells answer o in
    let here : Tells answer (attribute_fault kind h.earlier a) = subst P one tells in
    let all : fault ≡ attribute_fault kind h.earlier a = sym h.same ∙ (fault_behind-some kind h.earlier rest a behind at ∙ or_else-some (attribute_fault kind h.earlier a) (fault_behind kind (a.code ∷ h.earlier) behind) here.0) in
    subst P (sym all) here

marked_at : (came : List Bool) (c code : ℕ) (earlier : List ℕ) → c < length came → get_or came code false ≡ has_code earlier code → get_or (set came c true) code false ≡ has_code (c ∷ earlier) code
marked_at came c code earlier lt h =
    elim (cases_eq c code) [
      | inl same ↦ get_or-set_at came c code true false (sym same) lt ∙ sym (ap (λ (b : Bool). b || has_code earlier code) (eq-eqb c code same))
      | inr other ↦ get_or-set_other came c code true false (λ same. other (sym same)) ∙ (h ∙ sym (ap (λ (b : Bool). b || has_code earlier code) (ne_eqb c code other)))
    ]

-- an attribute without fault is marked
pub attribute_checked : (kind : PeerKind) (came new : List Bool) (rest : List ℕ) (fault : Option Fault) (a : Attribute) (behind : List ℕ) (c : Bool) → IsChecked kind came rest fault
    → attribute_at rest ≡ Some (a, behind) → a.code < 256 → c ≡ get_or came a.code false → first_fault (attribute_tests kind c a) ≡ None → new ≡ set came a.code true → IsChecked kind new behind fault
attribute_checked kind came new rest fault a behind c h at small is none after =
    let here : attribute_fault kind h.earlier a ≡ None = sym (fault_of kind came rest fault h a c small is) ∙ none in
    record {
      earlier = a.code ∷ h.earlier;
      long = ap length after ∙ (length-set came a.code true ∙ h.long);
      marked = λ code lt. ap (λ (marks : List Bool). get_or marks code false) after ∙ marked_at came a.code code h.earlier (omega (arith, h.long)) (h.marked code lt);
      same = ap (λ (o : Option Fault). or_else o (fault_behind kind (a.code ∷ h.earlier) behind)) (sym here) ∙ (sym (fault_behind-some kind h.earlier rest a behind at) ∙ h.same);
    }

-- no fault among more is none in either
pub or_else-none : (o other : Option Fault) → or_else o other ≡ None → (o ≡ None) × (other ≡ None)
or_else-none None other h = (refl, h)
or_else-none (Some fault) other h = absurd cc

-- no test that holds is none in front, and none behind
pub first_fault-none : (holds : Bool) (fault : Fault) (more : List (Bool × Fault)) → first_fault ((holds, fault) ∷ more) ≡ None → (holds ≡ false) × (first_fault more ≡ None)
first_fault-none true fault more h = absurd cc
first_fault-none false fault more h = (refl, h)

-- an AS_PATH without fault is a path
as_path-faultless : (kind : PeerKind) (came : Bool) (a : Attribute) → a.code ≡ 2 → first_fault (attribute_tests kind came a) ≡ None → is_malformed_path kind a.value ≡ false
as_path-faultless kind came a e h =
    let by_type : first_fault (type_tests kind (type_of a.code) a) ≡ None = (first_fault-none came MalformedAttributeList (type_tests kind (type_of a.code) a) h).1 in
    let known : first_fault (type_tests kind (Some AsPath) a) ≡ None = sym (ap (λ (code : ℕ). first_fault (type_tests kind (type_of code) a)) e) ∙ by_type in
    let value : List (Bool × Fault) = value_tests kind AsPath a in
    let length : List (Bool × Fault) = (false, AttributeLength a.whole) ∷ value in
    let behind_flags = first_fault-none (not (bit_and a.flags 192 == class_flags_of (class_of AsPath))) (AttributeFlags a.whole) length known in
    (first_fault-none (is_malformed_path kind a.value) MalformedAsPath [] (first_fault-none false (AttributeLength a.whole) value behind_flags.1).1).0

-- there is a value, and it is a path
abbrev IsPathOrNone : PeerKind → Option (List ℕ) → Type 0
IsPathOrNone kind o = MatchOption o ⊤ (λ value. is_malformed_path kind value ≡ false)

path-among : (kind : PeerKind) (earlier : List ℕ) (attributes : List Attribute) (rest : List ℕ) → fault_among kind earlier attributes rest ≡ None → IsPathOrNone kind (value_of 2 attributes)
unfolding fault_among attribute_fault
path-among kind earlier [] rest h = tt
path-among kind earlier (a ∷ more) rest h =
    let none = or_else-none (first_fault (attribute_tests kind (has_code earlier a.code) a)) (fault_among kind (a.code ∷ earlier) more rest) h in
    let P : Bool → Type 0 = λ own. IsPathOrNone kind (option_map (λ (found : Attribute). found.value) (cond own (Some a) (find (λ (found : Attribute). found.code == 2) more))) in
    elim (cases_eq a.code 2) [
      | inl own ↦ subst P (sym (eq-eqb a.code 2 own)) (as_path-faultless kind (has_code earlier a.code) a own none.0)
      | inr other ↦ subst P (sym (ne_eqb a.code 2 other)) (path-among kind (a.code ∷ earlier) more rest none.1)
    ]

some_path : (kind : PeerKind) (o : Option (List PathSegment)) → is_no_path kind o ≡ false → IsSome o
some_path kind None right = absurd cc
some_path kind (Some path) right = refl

path_in : (kind : PeerKind) (o : Option (List ℕ)) → IsPathOrNone kind o → IsSome o → IsSome (option_and_then path_at o)
path_in kind None right some = absurd cc
path_in kind (Some value) right some = some_path kind (path_at value) right

-- octets without fault among which there is an AS_PATH have a path
has_path : (kind : PeerKind) (octets : List ℕ) → attributes_fault kind octets ≡ None → IsSome (value_of 2 (split_of octets).0) → IsSome (attributes_in kind octets).as_path
unfolding attributes_fault attributes_in
has_path kind octets h some = path_in kind (value_of 2 (split_of octets).0) (path-among kind [] (split_of octets).0 (split_of octets).1 h) some

has_unknown : (kind : PeerKind) (octets : List ℕ) → 0 < length (unknown_in (split_of octets).0) → 0 < length (attributes_in kind octets).unknown
unfolding attributes_in
has_unknown kind octets some = some

-- and those with an AS_PATH, or unknown attributes that are kept, need memory
pub needs_memory : (kind : PeerKind) (octets : List ℕ) → attributes_fault kind octets ≡ None → IsSome (value_of 2 (split_of octets).0) ⊎ (0 < length (unknown_in (split_of octets).0)) → NeedMemory (attributes_in kind octets)
needs_memory kind octets h (inl some) = inl (has_path kind octets h some)
needs_memory kind octets h (inr some) = inr (has_unknown kind octets some)
