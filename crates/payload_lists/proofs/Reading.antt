-- Lists that are read piece by piece.
use Rattle.std.proofs.Common.{◌≡◌, ◌∙◌, ◌++◌, ◌⊎◌, inl, inr, ℕ, Bool, true, false, if◌then◌else◌, List, [], ◌∷◌, Option, None, Some, Result, Ok, Err, append_assoc, append-nil, refl, sym, ap, subst}
use Rattle.std.specs.Io.KnownBytes.{Consumes, IsAtEnd}
use Rattle.std.specs.Result.{MatchResult}
use Rattle.payload_lists.specs.Fronts.{IsFront, tells_format}
use Rattle.payload_lists.specs.PayloadLists.{IsListOf, IsListedIn, IsRefusedAs, IsRefusedIn}
use Rattle.payload_lists.specs.declared.fault.PayloadListFault.{PayloadListFault}
use Rattle.std.specs.Str.{IsUtf8}
use Rattle.json.specs.Json.{Json as Value, document}
use Rattle.payload_lists.specs.declared.list.Listed.{Listed}
use Rattle.payload_lists.specs.declared.fault.PayloadListFault.TheVariants.{Json}
use Rattle.vrp_csv.specs.declared.list.Loaded.{Loaded}
use Rattle.vrp_json.specs.ExpiredEntries.{IsLoadAt}
use Rattle.vrp_json.specs.WrittenTimes.{IsWritten}
use Rattle.vrp_json.specs.declared.fault.JsonFault.TheVariants.{NoMemory}
use Rattle.vrp_json.specs.declared.format.ListFormat.TheVariants.{Json as InJson}
use Rattle.vrp_json.specs.ListFormats.{format_of, is_space, of_first}
use Rattle.vrp_json.specs.declared.format.ListFormat.{ListFormat}

pub consumes_none : (list : Option (List ℕ)) → Consumes list list []
consumes_none None = tt
consumes_none (Some text) = refl

pub consumes_more : (a b c : Option (List ℕ)) (front piece more : List ℕ) → Consumes a b front → Consumes b c piece → more ≡ front ++ piece → Consumes a c more
consumes_more None b c front piece more p q is = tt
consumes_more (Some x) None c front piece more p q is = absurd p
consumes_more (Some x) (Some y) None front piece more p q is = absurd q
consumes_more (Some x) (Some y) (Some z) front piece more p q is =
    p ∙ ap (λ rest. front ++ rest) q ∙ sym (append_assoc front piece z) ∙ ap (λ read. read ++ z) (sym is)

told_behind : (front piece : List ℕ) → tells_format piece ≡ true → tells_format (front ++ piece) ≡ true
told_behind [] piece told = told
told_behind (octet ∷ front) piece told = behind (is_space octet) (tells_format (front ++ piece)) (told_behind front piece told)
  where
    behind : (space rest : Bool) → rest ≡ true → (if space then rest else true) ≡ true
    behind true rest is = is
    behind false rest is = refl

pub is_front : (list left : Option (List ℕ)) (front piece more : List ℕ) → Consumes list left more → more ≡ front ++ piece → IsAtEnd left ⊎ (tells_format piece ≡ true) → IsFront list more left
is_front list left front piece more read is (inl end) = (read, inl end)
is_front list left front piece more read is (inr told) = (read, inr (ap tells_format is ∙ told_behind front piece told))

-- a front tells the format of the whole
told_format : (front rest : List ℕ) → tells_format front ≡ true → format_of (front ++ rest) ≡ format_of front
told_format [] rest told = absurd (cc told)
told_format (octet ∷ front) rest told = of_octet (is_space octet) (format_of (front ++ rest)) (format_of front) (tells_format front) (told_format front rest) told
  where
    of_octet : (space : Bool) (whole begun : ListFormat) (more : Bool) → (more ≡ true → whole ≡ begun) → (if space then more else true) ≡ true → (if space then whole else of_first octet) ≡ (if space then begun else of_first octet)
    of_octet true whole begun more same is = same is
    of_octet false whole begun more same is = refl

abbrev pub Begins : List ℕ → List ℕ → Option (List ℕ) → Type 0
Begins text front left = (rest : List ℕ) × (left ≡ Some rest) × (text ≡ front ++ rest) × (format_of text ≡ format_of front)

pub begins : (text front : List ℕ) (left : Option (List ℕ)) → IsFront (Some text) front left → Begins text front left
begins text front None is = absurd is.0
begins text front (Some rest) (read, inl end) = (rest, refl, read, ap format_of (read ∙ ap (λ behind. front ++ behind) end ∙ append-nil front))
begins text front (Some rest) (read, inr told) = (rest, refl, read, ap format_of read ∙ told_format front rest told)

pub of_format : (second : Option ℕ) (text front now rest : List ℕ) (format : ListFormat) (result : Result Listed PayloadListFault) → text ≡ front ++ rest → now ≡ front → format_of text ≡ format
    → MatchResult result (IsListedIn second format (now ++ rest)) (IsRefusedIn format (now ++ rest)) → MatchResult result (IsListOf second text) (IsRefusedAs text)
of_format second text front now rest format result whole same told read =
    let is : text ≡ now ++ rest = whole ∙ ap (λ f. f ++ rest) (sym same) in
    subst (λ (t : List ℕ). MatchResult result (IsListOf second t) (IsRefusedAs t)) (sym is)
    (subst (λ (f : ListFormat). MatchResult result (IsListedIn second f (now ++ rest)) (IsRefusedIn f (now ++ rest))) (sym (ap format_of (sym is) ∙ told)) read)

-- the time that a text in JSON tells stands beside what it loads
pub timed : (second : Option ℕ) (octets text : List ℕ) (loaded : Loaded) (result : Result Listed PayloadListFault) → octets ≡ text → IsLoadAt second octets loaded
    → MatchResult result (λ listed. (listed.loaded ≡ loaded) × (IsUtf8 octets → (value : Value) → document octets ≡ Some value → IsWritten value listed.written)) (λ fault. fault ≡ Json NoMemory)
    → MatchResult result (λ listed. IsListedIn second InJson text listed) (λ fault. IsRefusedIn InJson text fault)
timed second octets text loaded (Ok listed) same (utf8, value, is, loads) (whole, tells) =
    let load : IsLoadAt second octets loaded = (utf8, value, is, loads) in
    subst (λ (o : List ℕ). IsListedIn second InJson o listed) same (subst (λ (l : Loaded). IsLoadAt second octets l) (sym whole) load, (value, is, tells utf8 value is))
timed second octets text loaded (Err fault) same load is =
    subst (λ (f : PayloadListFault). IsRefusedIn InJson text f) (sym is) (inl refl)
