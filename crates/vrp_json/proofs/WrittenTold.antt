-- When a list says that it was written, from what its members and metadata say.
use Rattle.std.proofs.Common.{◌≡◌, ◌∙◌, ℕ, false, true, List, [], ◌∷◌, codes, Some, option_map, Result, Ok, Err, IfOk, refl, sym, ap, subst}
use Rattle.std.specs.Str.{IsUtf8}
use Rattle.json.specs.Json.{Json, null, boolean, number, string, array, object, Members, document, value}
use Rattle.json.specs.Lex.{tokens}
use Rattle.json.specs.Token.{Token}
use Rattle.json.proofs.Found.{Some_inj}
use Rattle.vrp_json.specs.PayloadEntries.{is_object}
use Rattle.vrp_json.specs.Places.{FindsMember, IsAtMembers, IsAtValue}
use Rattle.vrp_json.specs.WrittenTimes.{IsToldBy, IsToldIn, IsWritten, metadata_of}
use Rattle.vrp_json.specs.declared.written.Written.{Written}
use Rattle.vrp_json.specs.declared.written.Written.TheVariants.{Untold}
use Rattle.vrp_json.proofs.Steps.{at_value, enter_object}

-- what the member that was read tells
pub told : (ms : Members) (ts t : List Token) (v : Json) (w : Written) → FindsMember (codes "metadata") ms true ts → value 127 ts ≡ Some (v, t) → IsToldBy v w → IsToldIn (metadata_of ms) w
told ms ts t v w (j, behind, first, (after, is, there)) read tells =
    let same : v ≡ j = ap (λ p. p.0) (Some_inj (v, t) (j, after) (sym read ∙ is)) in
    rw first (subst (λ (x : Json). IsToldBy x w) same tells)

-- what is no object says nothing
pub untold_value : (j : Json) → is_object j ≡ false → IsWritten j Untold
untold_value null h = refl
untold_value (boolean b) h = refl
untold_value (number s) h = refl
untold_value (string s) h = refl
untold_value (array js) h = refl
untold_value (object ms) h = absurd (cc h)

-- an object says what its members do
pub of_members : {E : Type 0} (r : Result Written E) (ts s : List Token) → ts ≡ Token.begin_object ∷ s → IfOk r (λ w. (ms : Members) → IsAtMembers ms s → IsToldIn (metadata_of ms) w) → IfOk r (λ w. (j : Json) → IsAtValue j ts → IsWritten j w)
of_members (Ok w) ts s is h = λ j at.
    let (ms, object_is, members) = enter_object j ts s at is in
    rw object_is (h ms members)
of_members (Err e) ts s is h = tt

-- octets say what the value of their text does
pub of_octets : {E : Type 0} (r : Result Written E) (octets text : List ℕ) (ts : List Token) → text ≡ octets → ts ≡ tokens text → IfOk r (λ w. (j : Json) → IsAtValue j ts → IsWritten j w) → IfOk r (λ w. IsUtf8 octets → (j : Json) → document octets ≡ Some j → IsWritten j w)
of_octets (Ok w) octets text ts same stands h = λ utf8 j is. h j (rw (stands, same) (at_value octets j is))
of_octets (Err e) octets text ts same stands h = tt
