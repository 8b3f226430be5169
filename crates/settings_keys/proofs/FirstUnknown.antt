-- The first key that isn't known, of the keys of a map.
use Rattle.std.proofs.Common.{◌≡◌, ℕ, List, [], ◌∷◌, Bool, true, false, Option, Some, None, String, Global, Bor, if◌then◌else◌, map, string_bytes, refl, ap, ◌∙◌, sym, ◌||◌}
use Rattle.std.specs.List.{list_any}
use Rattle.std.specs.Str.{bytes_eq}
use Rattle.toml.specs.View.{members_view}
use Rattle.toml.specs.declared.value.Value.{Value}
use Rattle.settings_keys.specs.KnownKeys.{first_unknown, is_one_of}

abbrev pub first_of : List (List ℕ) → List (String Global) → Option (List ℕ)
first_of known [] = None
first_of known (key ∷ keys) = if is_one_of (string_bytes key) known then first_of known keys else Some (string_bytes key)

pub first_of-keys : (known : List (List ℕ)) (es : List (String Global × Value)) → first_of known (map (λ e. e.0) es) ≡ first_unknown known (members_view es)
first_of-keys known [] = refl
first_of-keys known (e ∷ es) = ap (λ (rest : Option (List ℕ)). if is_one_of (string_bytes e.0) known then rest else Some (string_bytes e.0)) (first_of-keys known es)

pub is_known : (key : List ℕ) (names : List (Bor (List ℕ))) → list_any (λ name. bytes_eq name.now key) names ≡ is_one_of key (map (λ name. name.now) names)
is_known key [] = refl
is_known key (name ∷ names) = ap (λ (more : Bool). bytes_eq name.now key || more) (is_known key names)

-- behind a known key
pub goes_on : (names : List (Bor (List ℕ))) (old new : List (String Global)) (key : String Global) (text : List ℕ) (first : Option (List ℕ)) → old ≡ key ∷ new → text ≡ string_bytes key → list_any (λ name. bytes_eq name.now text) names ≡ true
    → first_of (map (λ name. name.now) names) old ≡ first → first_of (map (λ name. name.now) names) new ≡ first
goes_on names old new key text first same shown known is =
    let one : is_one_of (string_bytes key) (map (λ name. name.now) names) ≡ true = sym (is_known (string_bytes key) names) ∙ (ap (λ (t : List ℕ). list_any (λ name. bytes_eq name.now t) names) (sym shown) ∙ known) in
    sym (ap (λ (keys : List (String Global)). first_of (map (λ name. name.now) names) keys) same ∙ ap (λ (b : Bool). if b then first_of (map (λ name. name.now) names) new else Some (string_bytes key)) one) ∙ is

-- at one that isn't
pub stops : (names : List (Bor (List ℕ))) (old new : List (String Global)) (key : String Global) (text : List ℕ) (first : Option (List ℕ)) → old ≡ key ∷ new → text ≡ string_bytes key → list_any (λ name. bytes_eq name.now text) names ≡ false
    → first_of (map (λ name. name.now) names) old ≡ first → Some (string_bytes key) ≡ first
stops names old new key text first same shown unknown is =
    let one : is_one_of (string_bytes key) (map (λ name. name.now) names) ≡ false = sym (is_known (string_bytes key) names) ∙ (ap (λ (t : List ℕ). list_any (λ name. bytes_eq name.now t) names) (sym shown) ∙ unknown) in
    sym (ap (λ (keys : List (String Global)). first_of (map (λ name. name.now) names) keys) same ∙ ap (λ (b : Bool). if b then first_of (map (λ name. name.now) names) new else Some (string_bytes key)) one) ∙ is
