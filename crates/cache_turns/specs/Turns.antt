-- A turn: the wire is asked for a connection, which is let in or closed, each connection is visited once, and the cache is told the moment.
use Rattle.std.specs.Prelude.{◌≡◌, ◌≢◌, ◌⊎◌, ℕ, zero, suc, List, [], ◌∷◌, length, Option, Some, None, IsSome, Result, Ok, Err, slice_index_or}
use Rattle.std.specs.declared.net.socket_addr.SocketAddr.{SocketAddr}
use Rattle.rtr_cache.specs.CacheState.{CacheState, client_at, tells_client}
use Rattle.net_prefix.specs.declared.payload.Vrp.{Vrp}
use Rattle.rtr_cache.specs.ClientHistory.{CameUp, Loaded, Makes, Ticked, WentDown, Withdrew}
use Rattle.rtr_cache.specs.declared.event.CacheReport.{CacheReport}
use Rattle.rtr_cache.specs.declared.refusal.CacheRefusal.{CacheRefusal}
use Rattle.rtr_cache.specs.declared.refusal.CacheRefusal.TheVariants.{Full}
use Rattle.cache_turns.specs.Patience.{arriving_at}
use Rattle.cache_turns.specs.Serving.{Attends, Connection, Sides}
use Rattle.cache_turns.specs.declared.link.Visit.{Visit}
use Rattle.cache_turns.specs.declared.link.Visit.TheVariants.{Stays, Faulty, Ended, Closed, Overdue}
use Rattle.cache_turns.specs.declared.patience.Patience.{Patience}
use Rattle.wires.specs.Calls.{Accept}
use Rattle.wires.specs.Counts.{Counts, closing_it, counts_of_wire, losing}
use Rattle.wires.specs.Wires.{WireState, accept_failing, arriving, calling, closing}
use Rattle.wires.specs.declared.fault.LoopFault.{LoopFault}
use Rattle.wires.specs.declared.fault.LoopFault.TheVariants as stop
use Rattle.wires.specs.declared.wire.Parting.{Parting}
use Rattle.wires.specs.declared.wire.Parting.TheVariants as parting

-- a loop: how long its clients may be silent, what is counted, its cache, and the connection of each client under the client's key
pub record Turns : Type 0 where
  pub patience : Patience
  pub counts : Counts
  pub cache : CacheState
  pub links : List (Option Connection)

-- the connection of a client
abbrev pub link_at : Turns → ℕ → Option Connection
link_at turns key = slice_index_or turns.links key None

-- what lies on the two sides of its connections
abbrev pub sides : Turns → Sides
sides turns = record { wire = turns.counts.wire; cache = turns.cache }

-- each connection is one of a client that the cache has
abbrev pub EachHasAClient : CacheState → List (Option Connection) → Type 0
EachHasAClient cache links = (key : ℕ) → IsSome (slice_index_or links key None) → IsSome (client_at cache key)

-- a loop before its first turn
abbrev pub idle : Patience → CacheState → WireState → Turns
idle patience cache wire = record { patience = patience; counts = record { lost = 0; closed = 0; wire = wire }; cache = cache; links = [] }

-- every connection stays, and every one but that of a key
abbrev pub LinksStay : Turns → Turns → Type 0
LinksStay old new = (key : ℕ) → link_at new key ≡ link_at old key

abbrev pub OtherLinksStay : Turns → ℕ → Turns → Type 0
OtherLinksStay old key new = (other : ℕ) → other ≢ key → link_at new other ≡ link_at old other

-- no connection waits
abbrev pub NoneComes : Turns → Turns → Type 0
NoneComes old new = new ≡ record old { counts = counts_of_wire (calling (Accept None)) old.counts }

-- the cache is told that a client is gone
abbrev pub GoesDown : CacheState → ℕ → CacheState → Type 0
GoesDown old key new = (result : Result CacheReport CacheRefusal) × Makes old (WentDown key result) new

-- why a connection ends whose client the cache refuses
abbrev pub parting_for : CacheRefusal → Parting
parting_for Full = parting.NoPlace
parting_for other = parting.NoMemory

-- a connection comes whose client the cache refuses, and is closed
pub record TurnsAway (old new : Turns) : Type 0 where
  pub address : SocketAddr
  pub why : CacheRefusal
  pub patience : new.patience ≡ old.patience
  pub counts : new.counts ≡ counts_of_wire (λ wire. closing wire.sockets (parting_for why) (arriving address wire)) old.counts
  pub refused : Makes old.cache (CameUp (Err why)) new.cache
  pub links : LinksStay old new

-- a connection comes for which there is no memory: its client comes up, the connection is closed, and the client goes again
pub record LacksMemory (old new : Turns) : Type 0 where
  pub address : SocketAddr
  pub key : ℕ
  pub told : CacheState
  pub patience : new.patience ≡ old.patience
  pub counts : new.counts ≡ counts_of_wire (λ wire. closing wire.sockets parting.NoMemory (arriving address wire)) old.counts
  pub comes : Makes old.cache (CameUp (Ok (tells_client key))) told
  pub goes : GoesDown told key new.cache
  pub before : link_at old key ≡ None
  pub links : LinksStay old new

-- a connection comes, and stands under the key of its client
pub record ComesUp (now : ℕ) (old new : Turns) : Type 0 where
  pub address : SocketAddr
  pub key : ℕ
  pub patience : new.patience ≡ old.patience
  pub counts : new.counts ≡ counts_of_wire (arriving address) old.counts
  pub comes : Makes old.cache (CameUp (Ok (tells_client key))) new.cache
  pub before : link_at old key ≡ None
  pub here : link_at new key ≡ Some (record { number = old.counts.wire.sockets; waiting = []; moments = arriving_at now })
  pub others : OtherLinksStay old key new

-- accepting goes well: no connection comes, or one is closed, or one is let in
abbrev pub Accepts : ℕ → Turns → Turns → Type 0
Accepts now old new = NoneComes old new ⊎ (TurnsAway old new ⊎ (LacksMemory old new ⊎ ComesUp now old new))

-- a turn that ends at this fault
abbrev pub Stops : Turns → LoopFault → Turns → Type 0
Stops old stop.Accept new = new ≡ record old { counts = counts_of_wire accept_failing old.counts }

-- what accepting makes of a loop
abbrev pub Admits : ℕ → Turns → Result (Unit {0}) LoopFault → Turns → Type 0
Admits now old (Ok nothing) new = Accepts now old new
Admits now old (Err fault) new = Stops old fault new

-- what a visit that found this is counted as: one that ends is lost, and closed on this side where the cache had closed it and said all, or where its client was silent for too long
abbrev pub settled : Visit → ℕ → Counts → Counts
settled Stays number counts = counts
settled Faulty number counts = losing number parting.Failed counts
settled Ended number counts = losing number parting.Ended counts
settled Closed number counts = closing_it number parting.Closed counts
settled Overdue number counts = closing_it number parting.Overdue counts

-- what it is told behind a visit: of a connection that stays nothing
abbrev pub TellsCache : Visit → CacheState → ℕ → CacheState → Type 0
TellsCache Stays old key new = new ≡ old
TellsCache Faulty old key new = GoesDown old key new
TellsCache Ended old key new = GoesDown old key new
TellsCache Closed old key new = GoesDown old key new
TellsCache Overdue old key new = GoesDown old key new

-- what stands under a key behind a visit
abbrev pub link_left : Visit → Connection → Option Connection
link_left Stays link = Some link
link_left Faulty link = None
link_left Ended link = None
link_left Closed link = None
link_left Overdue link = None

-- a visit to the connection under a key: what it found and made of the client and its connection; each one that ends is counted as lost, and its socket closed
pub record VisitsConnection (now : ℕ) (old : Turns) (key : ℕ) (link : Connection) (new : Turns) : Type 0 where
  pub visit : Visit
  pub left : Connection
  pub behind : Sides
  pub attends : Attends old.patience now key link (sides old) visit left behind
  pub patience : new.patience ≡ old.patience
  pub counts : new.counts ≡ settled visit link.number (record old.counts { wire = behind.wire })
  pub tells : TellsCache visit behind.cache key new.cache
  pub stands : link_at new key ≡ link_left visit left
  pub others : OtherLinksStay old key new

-- a key without a connection has no visit
abbrev pub VisitsLink : ℕ → Turns → ℕ → Option Connection → Turns → Type 0
VisitsLink now old key None new = new ≡ old
VisitsLink now old key (Some link) new = VisitsConnection now old key link new

abbrev pub Visits : ℕ → Turns → ℕ → Turns → Type 0
Visits now old key new = VisitsLink now old key (link_at old key) new

-- the keys below this one are visited, each once
abbrev pub VisitsBelow : ℕ → ℕ → Turns → Turns → Type 0
VisitsBelow now zero old new = new ≡ old
VisitsBelow now (suc key) old new = (mid : Turns) × VisitsBelow now key old mid × Visits now mid key new

-- all are
abbrev pub VisitsAll : ℕ → Turns → Turns → Type 0
VisitsAll now old new = VisitsBelow now (length old.links) old new

-- the cache is told the moment
pub record IsTold (now : ℕ) (old new : Turns) : Type 0 where
  pub result : Result CacheReport CacheRefusal
  pub same : new ≡ record old { cache = new.cache }
  pub ticks : Makes old.cache (Ticked now result) new.cache

-- the three steps of a turn
pub record Turned (now : ℕ) (old new : Turns) : Type 0 where
  pub admitted : Turns
  pub visited : Turns
  pub accepts : Accepts now old admitted
  pub visits : VisitsAll now admitted visited
  pub tells : IsTold now visited new

-- a turn, and its answer
abbrev pub TakesTurn : ℕ → Turns → Result (Unit {0}) LoopFault → Turns → Type 0
TakesTurn now old (Ok nothing) new = Turned now old new
TakesTurn now old (Err fault) new = Stops old fault new

-- turns at these moments, one after another, whatever each answers
abbrev pub TakesTurns : List ℕ → Turns → Turns → Type 0
TakesTurns [] old new = new ≡ old
TakesTurns (now ∷ moments) old new =
    (mid : Turns) × (result : Result (Unit {0}) LoopFault) × TakesTurn now old result mid × TakesTurns moments mid new

-- what is done to a loop: a turn at a moment, or, between two turns, a set is loaded, or withdrawn
pub data Step : Type 0 where
  TurnAt : (now : ℕ) → Step
  Load : (set : List Vrp) → Step
  Withdraw : Step

-- a set is handed to the cache, whatever it answers; no connection changes
pub record LoadsSet (set : List Vrp) (old new : Turns) : Type 0 where
  pub result : Result CacheReport CacheRefusal
  pub loads : Makes old.cache (Loaded set result) new.cache
  pub same : new ≡ record old { cache = new.cache }

-- the cache is told to withdraw its set; no connection changes
pub record WithdrawsSet (old new : Turns) : Type 0 where
  pub result : Result CacheReport CacheRefusal
  pub withdraws : Makes old.cache (Withdrew result) new.cache
  pub same : new ≡ record old { cache = new.cache }

abbrev pub TakesStep : Step → Turns → Turns → Type 0
TakesStep (TurnAt now) old new = (result : Result (Unit {0}) LoopFault) × TakesTurn now old result new
TakesStep (Load set) old new = LoadsSet set old new
TakesStep Withdraw old new = WithdrawsSet old new

-- such steps, one after another
abbrev pub TakesSteps : List Step → Turns → Turns → Type 0
TakesSteps [] old new = new ≡ old
TakesSteps (step ∷ steps) old new = (mid : Turns) × TakesStep step old mid × TakesSteps steps mid new
