-- What may travel is kept.
use Rattle.std.proofs.Common.{◌≡◌, ◌%◌, Bool, true, false, ℕ, List, [], ◌∷◌, length, Option, Some, None, arith, refl, if◌then◌else◌}
use Rattle.std.specs.Prelude.{◌==◌, ◌&&◌, bit_and, is_none, not}
use Rattle.std.proofs.lemmas.Bool.{eq-eqb, eqb-true}
use Rattle.bgp_attr.specs.AttributeTable.{is_an_as, is_list_of, is_passed_on, travels_by, type_of, unknown_codes}
use Rattle.bgp_attr.specs.ReceivedAttributes.{Attribute}
use Rattle.bgp_attr.specs.declared.attribute_type.AttributeType.{AttributeType}
use Rattle.bgp_attr.specs.TravellingAttributes.{IsAnAs, IsListOf, MayTravel}
use Rattle.bgp_attr.specs.UnknownAttributes.{is_kept}

by_if : (b x y : Bool) → (b ≡ true → x ≡ true) → y ≡ true → (if b then x else y) ≡ true
by_if true x y own rest = own refl
by_if false x y own rest = rest

row : {x y : Bool} (code c : ℕ) → (code ≡ c → x ≡ true) → y ≡ true → (if code == c then x else y) ≡ true
row {x} {y} code c own rest = by_if (code == c) x y (λ same. own (eqb-true code c same)) rest

is_zero : (n : ℕ) (b : Bool) → (n == 0) ≡ b → (n ≡ 0 → ⊥) → b ≡ false
is_zero n true is some = absurd (some (eqb-true n 0 is))
is_zero n false is some = refl

list_if : (a b : Bool) → a ≡ false → b ≡ true → (not a && b) ≡ true
list_if true b one two = absurd cc
list_if false b one two = two

same_is : (a b : ℕ) → a ≡ b → (a == b) ≡ true
same_is a b same = eq-eqb a b same

list_is : (item n : ℕ) → (n ≡ 0 → ⊥) → n % item ≡ 0 → is_list_of item n ≡ true
list_is item n some rest = list_if (n == 0) (n % item == 0) (is_zero n (n == 0) refl some) (same_is (n % item) 0 rest)

of_four : (n : ℕ) → IsListOf 4 n → is_list_of 4 n ≡ true
of_four n (more, is) = list_is 4 n (λ none. omega (arith, is, none)) (omega (arith, is))

of_eight : (n : ℕ) → IsListOf 8 n → is_list_of 8 n ≡ true
of_eight n (more, is) = list_is 8 n (λ none. omega (arith, is, none)) (omega (arith, is))

of_twenty : (n : ℕ) → IsListOf 20 n → is_list_of 20 n ≡ true
of_twenty n (more, is) = list_is 20 n (λ none. omega (arith, is, none)) (omega (arith, is))

of_twelve : (n : ℕ) → IsListOf 12 n → is_list_of 12 n ≡ true
of_twelve n (more, is) = list_is 12 n (λ none. omega (arith, is, none)) (omega (arith, is))

all_four : (w x y z : Bool) → (w && x && y && z) ≡ true → (w ≡ true) × (x ≡ true) × (y ≡ true) × (z ≡ true)
all_four true true true true h = (refl, refl, refl, refl)
all_four true true true false h = absurd cc
all_four true true false z h = absurd cc
all_four true false y z h = absurd cc
all_four false x y z h = absurd cc

zeros : (a b c d : ℕ) → a ≡ 0 → b ≡ 0 → c ≡ 0 → d ≡ 0 → a ∷ b ∷ c ∷ d ∷ [] ≡ 0 ∷ 0 ∷ 0 ∷ 0 ∷ []
zeros a b c d one two three four = rw (one, two, three, four) refl

an_as_if : (all : Bool) (a b c d : ℕ) → (a == 0 && b == 0 && c == 0 && d == 0) ≡ all → (a ∷ b ∷ c ∷ d ∷ [] ≡ 0 ∷ 0 ∷ 0 ∷ 0 ∷ [] → ⊥) → not all ≡ true
an_as_if true a b c d is some =
    let each = all_four (a == 0) (b == 0) (c == 0) (d == 0) is in
    absurd (some (zeros a b c d (eqb-true a 0 each.0) (eqb-true b 0 each.1) (eqb-true c 0 each.2) (eqb-true d 0 each.3)))
an_as_if false a b c d is some = refl

an_as : (value : List ℕ) → IsAnAs value → is_an_as value ≡ true
an_as [] is = let o = is.octets in absurd cc
an_as (a ∷ []) is = let o = is.octets in absurd cc
an_as (a ∷ b ∷ []) is = let o = is.octets in absurd cc
an_as (a ∷ b ∷ c ∷ []) is = let o = is.octets in absurd cc
an_as (a ∷ b ∷ c ∷ d ∷ []) is = an_as_if (a == 0 && b == 0 && c == 0 && d == 0) a b c d refl is.some
an_as (a ∷ b ∷ c ∷ d ∷ e ∷ more) is = let o = is.octets in absurd cc

travels_so : (code : ℕ) (value : List ℕ) → MayTravel code value → travels_by unknown_codes code value ≡ true
travels_so code value may =
    row code 8 (λ same. of_four (length value) (may.communities same))
    (row code 9 (λ same. absurd (may.originator_id same))
    (row code 10 (λ same. absurd (may.cluster_list same))
    (row code 14 (λ same. absurd (may.mp_reach_nlri same))
    (row code 15 (λ same. absurd (may.mp_unreach_nlri same))
    (row code 16 (λ same. of_eight (length value) (may.extended_communities same))
    (row code 17 (λ same. absurd (may.as4_path same))
    (row code 18 (λ same. absurd (may.as4_aggregator same))
    (row code 22 (λ same. absurd (may.pmsi_tunnel same))
    (row code 23 (λ same. absurd (may.tunnel_encapsulation same))
    (row code 25 (λ same. of_twenty (length value) (may.ipv6_extended_communities same))
    (row code 32 (λ same. of_twelve (length value) (may.large_communities same))
    (row code 35 (λ same. an_as value (may.only_to_customer same))
    (row code 40 (λ same. absurd (may.prefix_sid same)) refl)))))))))))))

none_is : (o : Option AttributeType) → o ≡ None → is_none o ≡ true
none_is None same = refl
none_is (Some t) same = absurd cc

both_true : (a b : Bool) → a ≡ true → b ≡ true → (a && b) ≡ true
both_true true b one two = two
both_true false b one two = absurd cc

pub what_travels_is_kept : (a : Attribute) → type_of a.code ≡ None → MayTravel a.code a.value → bit_and a.flags 192 ≡ 192 → is_kept a ≡ true
what_travels_is_kept a untyped may flags =
    both_true (is_passed_on a.code a.value) (bit_and a.flags 192 == 192)
    (both_true (is_none (type_of a.code)) (travels_by unknown_codes a.code a.value) (none_is (type_of a.code) untyped) (travels_so a.code a.value may))
    (same_is (bit_and a.flags 192) 192 flags)
