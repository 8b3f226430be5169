-- The payloads of a client: those in force, those of a load in progress, and what the last step changed.
use Rattle.std.specs.Prelude.{◌≡◌, ◌⊎◌, ℕ, Bool, true, false, List, [], Option, Some, None, Result, Ok, Err, if◌then◌else◌}
use Rattle.std.specs.declared.alloc.AllocError.{AllocError}
use Rattle.net_prefix.specs.declared.payload.Vrp.{Vrp}
use Rattle.net_prefix.specs.PayloadSets.{IsPayloadSet, has, out, put}
use Rattle.rtr_codec.specs.ClientState as table
use Rattle.vrp_delta.specs.Delta.{Change, change_between}
use Rattle.vrp_delta.specs.Keeping.{IsChangeOf, no_change}
use Rattle.rtr_client.specs.declared.payloads.Base.{Base}
pub use Rattle.vrp_delta.specs.Staged.{came, left, loaded_from, with_all}

-- the base with the payloads in force; of the load in progress whether it answers a Serial Query, its session and its payloads so far; and the change
pub record Book : Type 0 where
  pub base : Option table.Base
  pub serially : Bool
  pub session : ℕ
  pub loaded : List Vrp
  pub changed : Change

-- no base, no load, no change
abbrev pub empty_book : Book
empty_book = record { base = None; serially = false; session = 0; loaded = []; changed = no_change }

-- the numbers of a base, and a base of these numbers
abbrev pub named : table.Base → Base
named base = record { session = base.session; serial = base.serial }

abbrev pub base_of : Option Base → List Vrp → Option table.Base
base_of None payloads = None
base_of (Some base) payloads = Some (record { session = base.session; serial = base.serial; payloads = payloads })

-- what a load starts from: the payloads in force after a Serial Query, none after a Reset Query
abbrev pub start_of : Bool → List Vrp → List Vrp
start_of serially payloads = if serially then payloads else []

-- what is kept: without a base no payload is in force, and the load is a change of what it started from
pub record IsBook (base : Option Base) (payloads : List Vrp) (serially : Bool) (load : Change) : Type 0 where
  pub rises : IsPayloadSet payloads
  pub flushed : base ≡ None → payloads ≡ []
  pub change : IsChangeOf (start_of serially payloads) load

-- what the load of a book started from
abbrev pub started_from : Book → List Vrp
started_from book = start_of book.serially (table.payloads_of book.base)

-- a load begins
abbrev pub begun : Bool → ℕ → Book → Book
begun serially session book = record book { serially = serially; session = session; loaded = start_of serially (table.payloads_of book.base) }

-- the payloads in force are flushed, and with them a load that started from them
abbrev pub flushed : Book → Book
flushed book = record book { base = None; loaded = if book.serially then [] else book.loaded; changed = change_between (table.payloads_of book.base) [] }

-- a payload is put in, unless it is there already; memory may be refused where it isn't there
abbrev pub Announces : Book → Vrp → Result Bool AllocError → Book → Type 0
Announces old payload (Ok true) new = (has old.loaded payload ≡ false) × (new ≡ record old { loaded = put payload old.loaded })
Announces old payload (Ok false) new = (has old.loaded payload ≡ true) × (new ≡ old)
Announces old payload (Err refused) new = (has old.loaded payload ≡ false) × (new ≡ old)

-- a payload is taken out, unless it isn't there; memory may be refused where it is there
abbrev pub Withdraws : Book → Vrp → Result Bool AllocError → Book → Type 0
Withdraws old payload (Ok true) new = (has old.loaded payload ≡ true) × (new ≡ record old { loaded = out payload old.loaded })
Withdraws old payload (Ok false) new = (has old.loaded payload ≡ false) × (new ≡ old)
Withdraws old payload (Err refused) new = (has old.loaded payload ≡ true) × (new ≡ old)

-- the load is completed under its session and this serial
abbrev pub completed : ℕ → Book → table.Base
completed serial book = record { session = book.session; serial = serial; payloads = book.loaded }

-- the load is in force, whole or not at all
abbrev pub Commits : Book → ℕ → Result (Unit {0}) AllocError → Book → Type 0
Commits old serial (Ok done) new = (new.base ≡ Some (completed serial old)) × (new.changed ≡ change_between (table.payloads_of old.base) old.loaded)
Commits old serial (Err refused) new = (new.base ≡ old.base) × (new.changed ≡ old.changed)

-- the change is that of the payloads in force, or neither of them has changed
abbrev pub IsTold : Book → Book → Type 0
IsTold old new =
    ((table.payloads_of new.base ≡ table.payloads_of old.base) × (new.changed ≡ old.changed))
    ⊎ (new.changed ≡ change_between (table.payloads_of old.base) (table.payloads_of new.base))
