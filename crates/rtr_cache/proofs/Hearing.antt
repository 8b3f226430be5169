-- What octets that come make of a connection, one PDU after another.
use Rattle.std.proofs.Common.{◌≡◌, ◌≤◌, ◌<◌, ◌-◌, ℕ, Bool, true, List, [], ◌∷◌, ◌++◌, take, drop, min, Option, Some, None, inl, length, refl, ap, sym, subst, ◌∙◌, arith, length-drop}
use Rattle.std.proofs.lemmas.List.{length-take-le, take-append-drop, take_all}
use Rattle.rtr_cache.specs.CacheTable.{Conn, Shared, hears, hears_item, hears_octets, place_of}
use Rattle.rtr_codec.specs.PduStream.{Item, meaning, needed_of}
use Rattle.rtr_codec.specs.Receiving.{Reception, passed_by, received}
use Rattle.rtr_cache.proofs.CacheSteps.{IsPiece, hears-open, hears_octets-none, hears_octets-row}
use Rattle.rtr_codec.proofs.ReaderAnswers.{one_at_most_push, wants_passed}
use Rattle.rtr_cache.specs.Sending.{HearsFront, IsReceiving, Sending, behind_pdu, conn_of}

-- a connection by what was read of it and what is said on it
abbrev conn_by : Reception → Sending → Conn
conn_by r s = conn_of r.place.is_first r.part s

-- octets leave a connection as the rest of them leaves another, whatever memory refuses then
abbrev GoesOnWith : Shared → Conn → List ℕ → Conn → List ℕ → Type 0
GoesOnWith shared conn octets after rest = (later : List Bool) → (refused : List Bool) × (hears_octets shared refused conn octets ≡ hears_octets shared later after rest)

-- the row of an item
heard_row :
    (shared : Shared) (refused is_first : Bool) (s s' : Sending) (item : Item) → s.is_open ≡ true
    → behind_pdu s' ≡ hears_item shared refused (behind_pdu s) item → hears shared refused (conn_of is_first [] s) item ≡ behind_pdu s'
heard_row shared refused is_first s s' item is_open heard = sym (heard ∙ rw is_open refl)

-- a piece of them, by what it completes
piece_goes_on :
    (shared : Shared) (r : Reception) (s s' : Sending) (piece rest : List ℕ) (found : Option Item) → r.place ≡ place_of (conn_by r s) → s.is_open ≡ true
    → IsPiece r.place r.part piece → meaning r.place (r.part ++ piece) ≡ found → HearsFront shared found s s'
    → GoesOnWith shared (conn_by r s) (piece ++ rest) (conn_by (passed_by (received r piece) found) s') rest
piece_goes_on shared r s s' piece rest None stands is_open h none heard = λ later. (
  later,
  hears_octets-none shared later (conn_by r s) piece rest (rw stands at h) (rw stands at none) is_open
      ∙ ap (λ (x : Sending). hears_octets shared later (conn_by (received r piece) x) rest) (sym heard),
)
piece_goes_on shared r s s' piece rest (Some item) stands is_open h is_item heard = λ later. (
  heard.0 ∷ later,
  hears_octets-row shared (heard.0 ∷ later) (conn_by r s) piece rest item (rw stands at h) (rw stands at is_item) is_open
      ∙ ap (λ (conn : Conn). hears_octets shared later conn rest) (heard_row shared heard.0 r.place.is_first s s' item is_open heard.1),
)

-- as many octets as are wanted are heard, and those behind them go on
pub front_goes_on :
    (shared : Shared) (r : Reception) (s s' : Sending) (octets : List ℕ) (count : ℕ) (found : Option Item) → IsReceiving r s → s.is_open ≡ true
    → 0 < count → count ≡ min (needed_of r.place r.part) (length octets) → meaning r.place (r.part ++ take count octets) ≡ found → HearsFront shared found s s'
    → GoesOnWith shared (conn_by r s) octets (conn_by (passed_by (received r (take count octets)) found) s') (take (length octets - count) (drop count octets))
front_goes_on shared r s s' octets count found receiving is_open some count_is is_found heard =
    let size : length (take count octets) ≡ count = length-take-le count octets (omega (arith, count_is)) in
    let rest : take (length octets - count) (drop count octets) ≡ drop count octets = take_all (length octets - count) (drop count octets) (omega (arith, length-drop count octets)) in
    let all : take count octets ++ take (length octets - count) (drop count octets) ≡ octets = ap (λ (more : List ℕ). take count octets ++ more) rest ∙ take-append-drop count octets in
    subst (λ (all : List ℕ). GoesOnWith shared (conn_by r s) all (conn_by (passed_by (received r (take count octets)) found) s') (take (length octets - count) (drop count octets))) all
    (piece_goes_on shared r s s' (take count octets) _ found (receiving.stands is_open) is_open (receiving.wants is_open, omega (arith, size, some), omega (arith, size, count_is)) is_found heard)

-- how the receiver stands behind them
stands_behind :
    (shared : Shared) (r : Reception) (s s' : Sending) (found : Option Item) → r.place ≡ place_of (conn_by r s) → s.is_open ≡ true → HearsFront shared found s s' → s'.is_open ≡ true
    → (passed_by r found).place ≡ place_of (conn_by (passed_by r found) s')
stands_behind shared r s s' None stands was_open heard is_open = stands
stands_behind shared r s s' (Some item) stands was_open heard is_open =
    let row = heard_row shared heard.0 r.place.is_first s s' item was_open heard.1 in
    rw stands
    (sym (hears-open shared heard.0 (conn_of r.place.is_first [] s) item was_open (ap (λ (conn : Conn). conn.is_open) row ∙ is_open)).0 ∙ ap place_of row)

pub front_receives :
    (shared : Shared) (r : Reception) (s s' : Sending) (octets : List ℕ) (count : ℕ) (found : Option Item) → IsReceiving r s → s.is_open ≡ true
    → count ≤ needed_of r.place r.part → meaning r.place (r.part ++ take count octets) ≡ found → HearsFront shared found s s'
    → IsReceiving (passed_by (received r (take count octets)) found) s'
front_receives shared r s s' octets count found receiving was_open fits is_found heard =
    let front = received r (take count octets) in record {
      stands = stands_behind shared front s s' found (receiving.stands was_open) was_open heard;
      wants = λ is_open. wants_passed front found (one_at_most_push r.place r.part octets count (inl (receiving.wants was_open)) fits) is_found;
    }
