-- What a client has still to read: what is on its way, what waits in the cache's ring, and what is still to be said of a response. What follows from it fits the client's stage.
use Rattle.std.proofs.Common.{◌≡◌, ◌⊎◌, ℕ, List, [], ◌∷◌, ◌++◌, map, Option, Some, None, inl, inr}
use Rattle.net_prefix.specs.declared.payload.Vrp.{Vrp}
use Rattle.net_prefix.specs.PayloadSets.{out, put}
use Rattle.rtr_codec.specs.ClientTable.{Base, Stage, Off, Opening, Asked_serial, Asked_reset, Waiting, Loading, Synced}
use Rattle.rtr_codec.specs.PduSpelling.{Content, Serial_notify, Serial_query, Reset_query, Cache_response, Announce, Withdraw, Ipv6_prefix, End_of_data, Cache_reset, Router_key, Error_report}
use Rattle.rtr_codec.specs.Responses.{changed_by}
use Rattle.rtr_channels.specs.Channels.{Publication}

-- one of these was published
abbrev pub In : Publication → List Publication → Type 0
In one [] = ⊥
In one (first ∷ more) = (one ≡ first) ⊎ In one more

-- so was this set under its session and serial
abbrev pub IsVersion : List Publication → ℕ → ℕ → List Vrp → Type 0
IsVersion vs session serial set = In (record { session = session; serial = serial; set = set }) vs

abbrev pub IsQuietPdu : Content → Type 0
IsQuietPdu (Serial_notify session serial) = Unit {0}
IsQuietPdu _ = ⊥

-- nothing but Serial Notifies
abbrev pub Quiet : List Content → Type 0
Quiet [] = Unit {0}
Quiet (p ∷ f) = IsQuietPdu p × Quiet f

-- a client that loads in this session and has these payloads so far reads the rest of one version, or of a part of it
abbrev pub Loads : List Publication → ℕ → List Vrp → List Content → Type 0
Loads vs n s [] = Unit {0}
Loads vs n s (Announce p ∷ f) = Loads vs n (put p s) f
Loads vs n s (Withdraw p ∷ f) = Loads vs n (out p s) f
Loads vs n s (Serial_notify m k ∷ f) = Loads vs n s f
Loads vs n s (Ipv6_prefix body ∷ f) = Loads vs n s f
Loads vs n s (Router_key body ∷ f) = Loads vs n s f
Loads vs n s (End_of_data m k intervals ∷ f) = (m ≡ n → IsVersion vs n k s) × Quiet f
Loads vs n s (_ ∷ f) = Unit {0}

-- a client whose query was read, and that starts from these payloads, reads one answer at most
abbrev pub Asked : List Publication → List Vrp → List Content → Type 0
Asked vs s [] = Unit {0}
Asked vs s (Serial_notify n k ∷ f) = Asked vs s f
Asked vs s (Cache_response n ∷ f) = Loads vs n s f
Asked vs s (Cache_reset ∷ f) = Quiet f
Asked vs s (Error_report code quoted ∷ f) = Quiet f
Asked vs s (_ ∷ f) = Unit {0}

-- the query is not read yet and nothing but Notifies is on the way, or it was read
abbrev pub Waits : List Publication → Content → List Vrp → List Content → List Content → Type 0
Waits vs q s asked f = ((asked ≡ q ∷ []) × Quiet f) ⊎ ((asked ≡ []) × Asked vs s f)

abbrev pub WaitsSerially : List Publication → Option Base → List Content → List Content → Type 0
WaitsSerially vs None asked f = ⊥
WaitsSerially vs (Some b) asked f = Waits vs (Serial_query b.session b.serial) b.payloads asked f

-- what is on the way both ways fits the client's stage
abbrev pub Fits : List Publication → Option Base → List Content → List Content → Stage → Type 0
Fits vs base asked f Off = (asked ≡ []) × Quiet f
Fits vs base asked f Opening = (asked ≡ []) × Quiet f
Fits vs base asked f Asked_serial = WaitsSerially vs base asked f
Fits vs base asked f Asked_reset = Waits vs Reset_query [] asked f
Fits vs base asked f Waiting = (asked ≡ []) × Quiet f
Fits vs base asked f (Loading serially n s) = (asked ≡ []) × Loads vs n s f
Fits vs base asked f Synced = (asked ≡ []) × Quiet f

abbrev pub IsBase : List Publication → Option Base → Type 0
IsBase vs None = Unit {0}
IsBase vs (Some b) = IsVersion vs b.session b.serial b.payloads

pub quiet_append : (f g : List Content) → Quiet f → Quiet g → Quiet (f ++ g)
quiet_append [] g h k = k
quiet_append (p ∷ f) g h k = (h.0, quiet_append f g h.1 k)

pub quiet_front : (f g : List Content) → Quiet (f ++ g) → Quiet f
quiet_front [] g h = tt
quiet_front (p ∷ f) g h = (h.0, quiet_front f g h.1)

pub quiet_back : (f g : List Content) → Quiet (f ++ g) → Quiet g
quiet_back [] g h = h
quiet_back (p ∷ f) g h = quiet_back f g h.1

pub asked_after : (vs : List Publication) (s : List Vrp) (f g : List Content) → Quiet f → Asked vs s g → Asked vs s (f ++ g)
asked_after vs s [] g h k = k
asked_after vs s (Serial_notify n m ∷ f) g h k = asked_after vs s f g h.1 k
asked_after vs s (_ ∷ f) g h k = absurd h.0

pub asked_quiet : (vs : List Publication) (s : List Vrp) (f : List Content) → Quiet f → Asked vs s f
asked_quiet vs s [] h = tt
asked_quiet vs s (Serial_notify n m ∷ f) h = asked_quiet vs s f h.1
asked_quiet vs s (_ ∷ f) h = absurd h.0

loads_quiet : (vs : List Publication) (n : ℕ) (s : List Vrp) (f : List Content) → Quiet f → Loads vs n s f
loads_quiet vs n s [] h = tt
loads_quiet vs n s (Serial_notify m k ∷ f) h = loads_quiet vs n s f h.1
loads_quiet vs n s (_ ∷ f) h = absurd h.0

loads_append : (vs : List Publication) (n : ℕ) (s : List Vrp) (f g : List Content) → Loads vs n s f → Quiet g → Loads vs n s (f ++ g)
loads_append vs n s [] g h k = loads_quiet vs n s g k
loads_append vs n s (Announce p ∷ f) g h k = loads_append vs n (put p s) f g h k
loads_append vs n s (Withdraw p ∷ f) g h k = loads_append vs n (out p s) f g h k
loads_append vs n s (Serial_notify m j ∷ f) g h k = loads_append vs n s f g h k
loads_append vs n s (Ipv6_prefix body ∷ f) g h k = loads_append vs n s f g h k
loads_append vs n s (Router_key body ∷ f) g h k = loads_append vs n s f g h k
loads_append vs n s (End_of_data m j i ∷ f) g h k = (h.0, quiet_append f g h.1 k)
loads_append vs n s (_ ∷ f) g h k = tt

asked_append : (vs : List Publication) (s : List Vrp) (f g : List Content) → Asked vs s f → Quiet g → Asked vs s (f ++ g)
asked_append vs s [] g h k = asked_quiet vs s g k
asked_append vs s (Serial_notify n m ∷ f) g h k = asked_append vs s f g h k
asked_append vs s (Cache_response n ∷ f) g h k = loads_append vs n s f g h k
asked_append vs s (Cache_reset ∷ f) g h k = quiet_append f g h k
asked_append vs s (Error_report code quoted ∷ f) g h k = quiet_append f g h k
asked_append vs s (_ ∷ f) g h k = tt

waits_append : (vs : List Publication) (q : Content) (s : List Vrp) (asked f g : List Content) → Waits vs q s asked f → Quiet g → Waits vs q s asked (f ++ g)
waits_append vs q s asked f g (inl h) k = inl (h.0, quiet_append f g h.1 k)
waits_append vs q s asked f g (inr h) k = inr (h.0, asked_append vs s f g h.1 k)

-- Serial Notifies may follow whatever is on the way
pub fits_append : (vs : List Publication) (base : Option Base) (asked f g : List Content) (stage : Stage) → Fits vs base asked f stage → Quiet g → Fits vs base asked (f ++ g) stage
fits_append vs base asked f g Off h k = (h.0, quiet_append f g h.1 k)
fits_append vs base asked f g Opening h k = (h.0, quiet_append f g h.1 k)
fits_append vs None asked f g Asked_serial h k = h
fits_append vs (Some b) asked f g Asked_serial h k = waits_append vs _ b.payloads asked f g h k
fits_append vs base asked f g Asked_reset h k = waits_append vs _ [] asked f g h k
fits_append vs base asked f g Waiting h k = (h.0, quiet_append f g h.1 k)
fits_append vs base asked f g (Loading d n s) h k = (h.0, loads_append vs n s f g h.1 k)
fits_append vs base asked f g Synced h k = (h.0, quiet_append f g h.1 k)

-- one more version takes nothing away
loads_more : (v : Publication) (vs : List Publication) (n : ℕ) (s : List Vrp) (f : List Content) → Loads vs n s f → Loads (v ∷ vs) n s f
loads_more v vs n s [] h = tt
loads_more v vs n s (Announce p ∷ f) h = loads_more v vs n (put p s) f h
loads_more v vs n s (Withdraw p ∷ f) h = loads_more v vs n (out p s) f h
loads_more v vs n s (Serial_notify m j ∷ f) h = loads_more v vs n s f h
loads_more v vs n s (Ipv6_prefix body ∷ f) h = loads_more v vs n s f h
loads_more v vs n s (Router_key body ∷ f) h = loads_more v vs n s f h
loads_more v vs n s (End_of_data m j i ∷ f) h = (λ e. inr (h.0 e), h.1)
loads_more v vs n s (_ ∷ f) h = tt

asked_more : (v : Publication) (vs : List Publication) (s : List Vrp) (f : List Content) → Asked vs s f → Asked (v ∷ vs) s f
asked_more v vs s [] h = tt
asked_more v vs s (Serial_notify n m ∷ f) h = asked_more v vs s f h
asked_more v vs s (Cache_response n ∷ f) h = loads_more v vs n s f h
asked_more v vs s (Cache_reset ∷ f) h = h
asked_more v vs s (Error_report code quoted ∷ f) h = h
asked_more v vs s (_ ∷ f) h = tt

waits_more : (v : Publication) (vs : List Publication) (q : Content) (s : List Vrp) (asked f : List Content) → Waits vs q s asked f → Waits (v ∷ vs) q s asked f
waits_more v vs q s asked f (inl h) = inl h
waits_more v vs q s asked f (inr h) = inr (h.0, asked_more v vs s f h.1)

pub fits_more : (v : Publication) (vs : List Publication) (base : Option Base) (asked f : List Content) (stage : Stage) → Fits vs base asked f stage → Fits (v ∷ vs) base asked f stage
fits_more v vs base asked f Off h = h
fits_more v vs base asked f Opening h = h
fits_more v vs None asked f Asked_serial h = h
fits_more v vs (Some b) asked f Asked_serial h = waits_more v vs _ b.payloads asked f h
fits_more v vs base asked f Asked_reset h = waits_more v vs _ [] asked f h
fits_more v vs base asked f Waiting h = h
fits_more v vs base asked f (Loading d n s) h = (h.0, loads_more v vs n s f h.1)
fits_more v vs base asked f Synced h = h

pub base_more : (v : Publication) (vs : List Publication) (base : Option Base) → IsBase vs base → IsBase (v ∷ vs) base
base_more v vs None h = tt
base_more v vs (Some b) h = inr h

-- the payloads of a response, one after another
pub loads_withdrawn : (vs : List Publication) (n : ℕ) (s gone : List Vrp) (g : List Content) → Loads vs n (changed_by s (map Withdraw gone)) g → Loads vs n s (map Withdraw gone ++ g)
loads_withdrawn vs n s [] g h = h
loads_withdrawn vs n s (x ∷ xs) g h = loads_withdrawn vs n (out x s) xs g h

pub loads_announced : (vs : List Publication) (n : ℕ) (s new : List Vrp) (g : List Content) → Loads vs n (changed_by s (map Announce new)) g → Loads vs n s (map Announce new ++ g)
loads_announced vs n s [] g h = h
loads_announced vs n s (x ∷ xs) g h = loads_announced vs n (put x s) xs g h
