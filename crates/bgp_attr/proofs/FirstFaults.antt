use Rattle.std.proofs.Common.{◌≡◌, ◌<◌, ◌||◌, ◌⊎◌, Bool, true, false, ℕ, List, [], ◌∷◌, ◌++◌, length, map, append-nil, Option, Some, None, inl, inr, arith, refl, sym, ap, ◌∙◌}
use Rattle.std.specs.Prelude.{◌==◌}
use Rattle.bgp_attr.specs.AttributeFaults.{AreFaultless, Fault, IsCutFault, IsFirstFault, attribute_fault, attribute_tests, attributes_fault, cut_fault, fault_among, first_fault, has_code, or_else, MalformedAttributeList}
use Rattle.bgp_attr.specs.ReceivedAttributes.{Attribute, split_of}
use Rattle.bgp_attr.specs.declared.peer.PeerKind.{PeerKind}
use Rattle.bgp_attr.proofs.Faults.{or_else-none}

-- The fault that is told is the first one.

abbrev codes : List Attribute → List ℕ
codes attributes = map (λ a. a.code) attributes

-- no attribute has a fault behind others of these codes and those in front of it
AreFaultlessBehind : PeerKind → List ℕ → List Attribute → Type 0
AreFaultlessBehind kind earlier attributes =
    (front more : List Attribute) (a : Attribute) → attributes ≡ front ++ a ∷ more → attribute_fault kind (codes front ++ earlier) a ≡ None

-- the order in which codes came does not matter
swap : (a b c : Bool) → (a || (b || c)) ≡ (b || (a || c))
swap true true c = refl
swap true false c = refl
swap false true c = refl
swap false false c = refl

has_code-moved : (code x : ℕ) (front earlier : List ℕ) → has_code (front ++ code ∷ earlier) x ≡ has_code (code ∷ (front ++ earlier)) x
has_code-moved code x [] earlier = refl
has_code-moved code x (y ∷ ys) earlier =
    ap (λ (b : Bool). y == x || b) (has_code-moved code x ys earlier) ∙ swap (y == x) (code == x) (has_code (ys ++ earlier) x)

attribute_fault-moved : (kind : PeerKind) (code : ℕ) (front earlier : List ℕ) (a : Attribute) → attribute_fault kind (front ++ code ∷ earlier) a ≡ attribute_fault kind (code ∷ (front ++ earlier)) a
unfolding attribute_fault
attribute_fault-moved kind code front earlier a = ap (λ (came : Bool). first_fault (attribute_tests kind came a)) (has_code-moved code a.code front earlier)

not_empty : (front more : List Attribute) (a : Attribute) → [] ≡ front ++ a ∷ more → ⊥
not_empty [] more a h = cc
not_empty (x ∷ front) more a h = cc

-- attributes without fault
faultless_behind : (kind : PeerKind) (earlier : List ℕ) (attributes : List Attribute) (rest : List ℕ) → fault_among kind earlier attributes rest ≡ None → AreFaultlessBehind kind earlier attributes
unfolding fault_among AreFaultlessBehind
faultless_behind kind earlier [] rest h front more a is = absurd (not_empty front more a is)
faultless_behind kind earlier (x ∷ xs) rest h [] more a is =
    let parts = or_else-none (attribute_fault kind earlier x) (fault_among kind (x.code ∷ earlier) xs rest) h in
    let same : x ≡ a = cc in
    ap (attribute_fault kind earlier) (sym same) ∙ parts.0
faultless_behind kind earlier (x ∷ xs) rest h (y ∷ ys) more a is =
    let parts = or_else-none (attribute_fault kind earlier x) (fault_among kind (x.code ∷ earlier) xs rest) h in
    let same : x ≡ y = cc in
    let behind : xs ≡ ys ++ a ∷ more = cc in
    ap (λ (b : Attribute). attribute_fault kind (b.code ∷ (codes ys ++ earlier)) a) (sym same)
    ∙ (sym (attribute_fault-moved kind x.code (codes ys) earlier a)
    ∙ faultless_behind kind (x.code ∷ earlier) xs rest parts.1 ys more a behind)

-- the first fault behind others of these codes
record IsFirstBehind (kind : PeerKind) (earlier : List ℕ) (attributes : List Attribute) (fault : Fault) : Type 0 where
  front : List Attribute
  faulty : Attribute
  more : List Attribute
  split : attributes ≡ front ++ faulty ∷ more
  faultless : fault_among kind earlier front [] ≡ None
  told : attribute_fault kind (codes front ++ earlier) faulty ≡ Some fault

-- or one behind them all
record IsCutBehind (kind : PeerKind) (earlier : List ℕ) (attributes : List Attribute) (rest : List ℕ) (fault : Fault) : Type 0 where
  faultless : fault_among kind earlier attributes [] ≡ None
  cut : cut_fault rest ≡ Some fault

behind_one : (kind : PeerKind) (earlier : List ℕ) (x : Attribute) (xs : List Attribute) (rest : List ℕ) (fault : Fault) → attribute_fault kind earlier x ≡ None
    → IsFirstBehind kind (x.code ∷ earlier) xs fault ⊎ IsCutBehind kind (x.code ∷ earlier) xs rest fault → IsFirstBehind kind earlier (x ∷ xs) fault ⊎ IsCutBehind kind earlier (x ∷ xs) rest fault
unfolding fault_among
behind_one kind earlier x xs rest fault none (inl first) =
    inl (record {
      front = x ∷ first.front;
      faulty = first.faulty;
      more = first.more;
      split = ap (λ (attributes : List Attribute). x ∷ attributes) first.split;
      faultless = ap (λ (o : Option Fault). or_else o (fault_among kind (x.code ∷ earlier) first.front [])) none ∙ first.faultless;
      told = sym (attribute_fault-moved kind x.code (codes first.front) earlier first.faulty) ∙ first.told;
    })
behind_one kind earlier x xs rest fault none (inr cut) =
    inr (record { faultless = ap (λ (o : Option Fault). or_else o (fault_among kind (x.code ∷ earlier) xs [])) none ∙ cut.faultless; cut = cut.cut })

first_if : (kind : PeerKind) (earlier : List ℕ) (x : Attribute) (xs : List Attribute) (rest : List ℕ) (fault : Fault) (o : Option Fault) → attribute_fault kind earlier x ≡ o
    → or_else o (fault_among kind (x.code ∷ earlier) xs rest) ≡ Some fault
    → (fault_among kind (x.code ∷ earlier) xs rest ≡ Some fault → IsFirstBehind kind (x.code ∷ earlier) xs fault ⊎ IsCutBehind kind (x.code ∷ earlier) xs rest fault)
    → IsFirstBehind kind earlier (x ∷ xs) fault ⊎ IsCutBehind kind earlier (x ∷ xs) rest fault
unfolding fault_among
first_if kind earlier x xs rest fault None is h next = behind_one kind earlier x xs rest fault is (next h)
first_if kind earlier x xs rest fault (Some other) is h next = inl (record { front = []; faulty = x; more = xs; split = refl; faultless = refl; told = is ∙ h })

first_behind : (kind : PeerKind) (earlier : List ℕ) (attributes : List Attribute) (rest : List ℕ) (fault : Fault) → fault_among kind earlier attributes rest ≡ Some fault
    → IsFirstBehind kind earlier attributes fault ⊎ IsCutBehind kind earlier attributes rest fault
unfolding fault_among
first_behind kind earlier [] rest fault h = inr (record { faultless = refl; cut = h })
first_behind kind earlier (x ∷ xs) rest fault h = first_if kind earlier x xs rest fault (attribute_fault kind earlier x) refl h (λ next. first_behind kind (x.code ∷ earlier) xs rest fault next)

codes_alone : (front : List Attribute) → codes front ++ [] ≡ codes front
codes_alone front = append-nil (codes front)

are_faultless : (kind : PeerKind) (attributes : List Attribute) (rest : List ℕ) → fault_among kind [] attributes rest ≡ None → AreFaultless kind attributes
unfolding AreFaultlessBehind
are_faultless kind attributes rest h front more a is = ap (λ (earlier : List ℕ). attribute_fault kind earlier a) (sym (codes_alone front)) ∙ faultless_behind kind [] attributes rest h front more a is

cut_some : (rest : List ℕ) (fault : Fault) → cut_fault rest ≡ Some fault → (0 < length rest) × (fault ≡ MalformedAttributeList)
cut_some [] fault h = absurd cc
cut_some (octet ∷ more) fault h = (omega arith, cc)

-- a fault that is told is the first one, from left to right
pub told_is_first : (kind : PeerKind) (attributes : List Attribute) (rest : List ℕ) (fault : Fault) → fault_among kind [] attributes rest ≡ Some fault → IsFirstFault kind attributes fault ⊎ IsCutFault kind attributes rest fault
told_is_first kind attributes rest fault h =
    elim (first_behind kind [] attributes rest fault h) [
      | inl first ↦ inl (record {
        front = first.front;
        faulty = first.faulty;
        more = first.more;
        split = first.split;
        faultless = are_faultless kind first.front [] first.faultless;
        told = ap (λ (earlier : List ℕ). attribute_fault kind earlier first.faulty) (sym (codes_alone first.front)) ∙ first.told;
      })
      | inr cut ↦ let parts = cut_some rest fault cut.cut in inr (record { faultless = are_faultless kind attributes [] cut.faultless; cut = parts.0; told = parts.1 })
    ]

-- octets
pub fault_is_first : (kind : PeerKind) (octets : List ℕ) (fault : Fault) → attributes_fault kind octets ≡ Some fault
    → IsFirstFault kind (split_of octets).0 fault ⊎ IsCutFault kind (split_of octets).0 (split_of octets).1 fault
unfolding attributes_fault
fault_is_first kind octets fault h = told_is_first kind (split_of octets).0 (split_of octets).1 fault h
