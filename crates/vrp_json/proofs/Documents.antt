-- What the value of a text means, from what its members and items mean.
use Rattle.std.proofs.Common.{◌≡◌, ◌∙◌, ℕ, true, false, List, Option, None, Some, Result, Ok, Err, IsSome, MatchResult, inl, inr, refl, ap}
use Rattle.std.specs.Str.{IsUtf8}
use Rattle.json.specs.Json.{Json, null, boolean, number, string, array, object, Items, Members, document}
use Rattle.json.specs.Lex.{tokens}
use Rattle.json.specs.Token.{Token}
use Rattle.vrp_csv.specs.declared.list.Loaded.{Loaded}
use Rattle.vrp_json.specs.ExpiredEntries.{IsLoadAt, IsLoadOfValueAt, LoadsAt}
use Rattle.vrp_json.specs.PayloadDocument.{AreRefused, HasRoas, IsLoad, IsLoadOfValue, IsRefused, IsRefusedValue, entries_of, first_roas}
use Rattle.vrp_json.specs.PayloadEntries.{is_object}
use Rattle.vrp_json.specs.Places.{AreRefusedItems, FindsRoas, IsAtValue, ReadsItems, ReadsValue}
use Rattle.vrp_json.specs.declared.fault.JsonFault.{JsonFault}
use Rattle.vrp_json.specs.declared.fault.JsonFault.TheVariants as fault
use Rattle.vrp_json.proofs.ReadEntries.{said_by}
use Rattle.vrp_json.proofs.Steps.{at_value}

-- what reading the items leads to is what reading their array does
pub of_items : (second : Option ℕ) (j : Json) (js : Items) (behind : Members) (r : Result Loaded JsonFault) (ts : List Token) → j ≡ array js → ReadsItems second js behind r ts → ReadsValue second j behind r ts
of_items second j js behind (Ok loaded) ts is h = (js, is, h.0, h.1)
of_items second j js behind (Err why) ts is h = inr (js, is, h)

refused_items : (ms : Members) (js : Items) (behind : Members) (why : JsonFault) → HasRoas ms js behind → AreRefusedItems (entries_of js) why → AreRefused ms why
refused_items ms js behind (fault.Text octet) here h = absurd h
refused_items ms js behind fault.NotObject here h = absurd h
refused_items ms js behind fault.NoRoas here h = absurd h
refused_items ms js behind fault.NotArray here h = absurd h
refused_items ms js behind (fault.Entry place entry) here h = (js, behind, here, h)
refused_items ms js behind fault.SecondRoas here h = absurd h
refused_items ms js behind fault.NoMemory here h = tt

-- why the value of the member is refused is why the members are
pub refused_value : (second : Option ℕ) (ms : Members) (j : Json) (behind : Members) (why : JsonFault) (ts : List Token) → first_roas ms ≡ Some (j, behind) → ReadsValue second j behind (Err why) ts → AreRefused ms why
refused_value second ms j behind why ts here (inl (is, kind)) = rw is (j, behind, here, kind)
refused_value second ms j behind why ts here (inr (js, is, h)) =
    refused_items ms js behind why (here ∙ ap (λ k. Some (k, behind)) is) h

-- a second member of the name stands behind the first
pub refused_second : (second : Option ℕ) (ms : Members) (j : Json) (behind : Members) (loaded : Loaded) (ts s : List Token) → first_roas ms ≡ Some (j, behind) → ReadsValue second j behind (Ok loaded) ts → FindsRoas behind true s → AreRefused ms fault.SecondRoas
refused_second second ms j behind loaded ts s here (js, is, load, at) (k, more, found, there) =
    let said = said_by second (entries_of js) load.0 load.1 in
    (js, behind, here ∙ ap (λ x. Some (x, behind)) is, (k, more), found, said.0, said.1)

-- the members load what the first of the name loads, where it is the only one
pub loaded_once : (second : Option ℕ) (ms : Members) (j : Json) (behind : Members) (loaded : Loaded) (ts : List Token) → first_roas ms ≡ Some (j, behind) → ReadsValue second j behind (Ok loaded) ts → first_roas behind ≡ None → LoadsAt second ms loaded
loaded_once second ms j behind loaded ts here (js, is, load, at) none =
    (js, behind, here ∙ ap (λ x. Some (x, behind)) is, none, load)

-- an object is what its members are
pub of_object : (second : Option ℕ) (j : Json) (ms : Members) (r : Result Loaded JsonFault) → j ≡ object ms → MatchResult r (λ loaded. LoadsAt second ms loaded) (λ why. AreRefused ms why) → MatchResult r (λ loaded. IsLoadOfValueAt second j loaded) (λ why. IsRefusedValue j why)
of_object second j ms (Ok loaded) is h = rw is h
of_object second j ms (Err why) is h = rw is h

-- what is no object is no list
pub no_list : (j : Json) → is_object j ≡ false → IsRefusedValue j fault.NotObject
no_list null h = refl
no_list (boolean b) h = refl
no_list (number s) h = refl
no_list (string s) h = refl
no_list (array js) h = refl
no_list (object ms) h = absurd (cc h)

some_value : (o : Option Json) → IsSome o → (j : Json) × (o ≡ Some j)
some_value None h = absurd (cc h)
some_value (Some j) h = (j, refl)

-- octets are what the value of their text is
pub of_text : (second : Option ℕ) (octets text : List ℕ) (ts : List Token) (r : Result Loaded JsonFault) → IsUtf8 octets → text ≡ octets → IsSome (document octets) → ts ≡ tokens text
    → ((j : Json) → IsAtValue j ts → MatchResult r (λ loaded. IsLoadOfValueAt second j loaded) (λ why. IsRefusedValue j why))
    → MatchResult r (λ loaded. IsLoadAt second octets loaded) (λ why. IsRefused octets why)
of_text second octets text ts (Ok loaded) utf8 same some stands reads =
    let (j, is) = some_value (document octets) some in
    (utf8, j, is, reads j (rw (stands, same) (at_value octets j is)))
of_text second octets text ts (Err why) utf8 same some stands reads =
    let (j, is) = some_value (document octets) some in
    inr (inr (utf8, j, is, reads j (rw (stands, same) (at_value octets j is))))

-- without a second nothing expires
pub value_at_none : (j : Json) (loaded : Loaded) → IsLoadOfValueAt None j loaded → IsLoadOfValue j loaded
value_at_none null loaded h = h
value_at_none (boolean b) loaded h = h
value_at_none (number s) loaded h = h
value_at_none (string s) loaded h = h
value_at_none (array js) loaded h = h
value_at_none (object ms) loaded h = h

pub none_at_value : (j : Json) (loaded : Loaded) → IsLoadOfValue j loaded → IsLoadOfValueAt None j loaded
none_at_value null loaded h = h
none_at_value (boolean b) loaded h = h
none_at_value (number s) loaded h = h
none_at_value (string s) loaded h = h
none_at_value (array js) loaded h = h
none_at_value (object ms) loaded h = h

pub read_at_none : (octets : List ℕ) (r : Result Loaded JsonFault) → MatchResult r (λ loaded. IsLoadAt None octets loaded) (λ why. IsRefused octets why) → MatchResult r (λ loaded. IsLoad octets loaded) (λ why. IsRefused octets why)
read_at_none octets (Ok loaded) (utf8, j, is, h) = (utf8, j, is, value_at_none j loaded h)
read_at_none octets (Err why) h = h
