-- One end's reading of a connection: what came and no PDU has taken, and where on the connection it stands.
use Rattle.std.specs.Prelude.{◌≡◌, ◌⊎◌, ◌++◌, ℕ, length, true, false, List, [], Option, Some, None}
use Rattle.rtr_codec.specs.declared.place.End.{End}
use Rattle.rtr_codec.specs.declared.place.Place.{Place}
use Rattle.rtr_codec.specs.declared.reading.Step.{Step}
use Rattle.rtr_codec.specs.declared.reading.Step.TheVariants.{Need, Whole, Faulty}
use Rattle.rtr_codec.specs.PduSpelling.{content_of}
use Rattle.rtr_codec.specs.PduStream.{Item, WholePdu, FaultyPdu, Wants, meaning, place_after}

pub record Reception : Type 0 where
  pub place : Place
  pub part : List ℕ

-- the beginning of a connection
abbrev pub beginning : End → Reception
beginning end = record { place = record { end = end; is_first = true; has_response = false }; part = [] }

-- more octets came
abbrev pub received : Reception → List ℕ → Reception
received r octets = record { place = r.place; part = r.part ++ octets }

-- the item at the front is passed
abbrev pub passed : Reception → Item → Reception
passed r item = record { place = place_after r.place (Some item); part = [] }

-- what came is passed, where an item stands there
abbrev pub passed_by : Reception → Option Item → Reception
passed_by r None = r
passed_by r (Some item) = passed r item

-- nothing came behind the last item
abbrev pub emptied : Reception → Reception
emptied r = record { place = r.place; part = [] }

-- what came is the beginning of an item, or one item and no more
abbrev pub IsOneAtMost : Reception → Type 0
IsOneAtMost r = Wants r.place r.part ⊎ ((item : Item) × (meaning r.place r.part ≡ Some item))

-- an answer about octets that are one item and no more uses all of them
abbrev pub UsesAll : List ℕ → Step → Type 0
UsesAll part Need = Unit {0}
UsesAll part (Whole pdu used) = used ≡ length part
UsesAll part (Faulty fault quoted) = quoted.now ≡ part

-- the item that an answer about these octets shows
abbrev pub item_shown : List ℕ → Step → Option Item
item_shown part Need = None
item_shown part (Whole pdu used) = Some (WholePdu (content_of pdu) part)
item_shown part (Faulty fault quoted) = Some (FaultyPdu fault part)
