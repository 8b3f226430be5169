-- Each call of a cache, and each step of a client, is an event.
use Rattle.std.proofs.Common.{◌≡◌, ◌≢◌, ◌++◌, ◌==◌, ℕ, inl, inr, take, Bool, true, false, List, [], ◌∷◌, cond, Option, Some, None, Ok, Err, refl, ap, sym, subst, ◌∙◌, append-nil}
use Rattle.std.proofs.lemmas.Bool.{eqb-true, eq-eqb}
use Rattle.net_prefix.specs.declared.payload.Vrp.{Vrp}
use Rattle.rtr_cache.specs.CacheState.{CacheState}
use Rattle.rtr_cache.specs.CacheTable.{Shared}
use Rattle.rtr_cache.specs.ClientHistory.{Call}
use Rattle.rtr_cache.specs.ClientHistory as calls
use Rattle.rtr_cache.specs.declared.event.CacheReport.{CacheReport}
use Rattle.rtr_codec.specs.ClientTable.{Client, Input, No_room, row}
use Rattle.rtr_client.specs.FirstClient.{first_client}
use Rattle.rtr_client.specs.Following.{served}
use Rattle.rtr_codec.specs.PduSpelling.{Content, spelling}
use Rattle.rtr_codec.specs.PduStream.{place_after}
use Rattle.rtr_session.specs.SessionState.{finds_room, input_of}
use Rattle.rtr_session.specs.SessionState as sessions
use Rattle.vrp_delta.specs.Versions.{Version, is_newest_set, kept_versions, newest_serial, next_version}
use Rattle.rtr_channels.specs.Joins.{AcceptancesAreEvents, BeginningsAreNew, CallsAreEvents, CanBeTold, EventsGoOn, FailuresAreEvents, IsStep, HearingsAreEvents, LoadsAreEvents, LossesAreEvents, OthersAreEvents, ReadingsAreEvents, ReadingsWithoutRoomAreEvents, RestartsAreEvents, SessionsAreClients, StepsAreEvents, StepsWithoutRoomAreEvents, TakesAreEvents, spelled}
use Rattle.rtr_channels.specs.ChannelEvents.{IsOwn, brought, LoadsPublishable, called, client_after, handed, link_after, link_lost, published_by, said, settled, up_after}
use Rattle.rtr_channels.specs.Channels.{Awaited, Gone, Link, Publication, TwoEnds, Under, first_place, is_new_session, publication, published_after}
use Rattle.rtr_channels.proofs.Flights.{In}
use Rattle.rtr_channels.proofs.Joining.{if_true}
use Rattle.rtr_channels.proofs.TwoEnds.{brought_none, contains, handed_none, link_stays}

can_load : (call : Call) → ((set : List Vrp) (report : CacheReport) → call ≡ calls.Loaded set (Ok report) → CanBeTold set) → LoadsPublishable call
can_load (calls.Loaded set (Ok report)) can = can set report refl
can_load (calls.Loaded set (Err why)) can = tt
can_load (calls.Withdrew result) can = tt
can_load (calls.CameUp result) can = tt
can_load (calls.Heard key octets result) can = tt
can_load (calls.WentDown key result) can = tt
can_load (calls.Ticked now result) can = tt
can_load (calls.Took key buf result out) can = tt

kept_case : (lost key : ℕ) (report : CacheReport) (t : Bool) → (lost == key) ≡ t → calls.WentDown lost (Ok report) ≢ calls.WentDown key (Ok report) → cond t Gone (Under key) ≡ Under key
kept_case lost key report true at apart = absurd (apart (ap (λ k. calls.WentDown k (Ok report)) (eqb-true lost key at)))
kept_case lost key report false at apart = refl

-- the cache has the connection still
link_same : (link : Link) (call : Call) → ((key : ℕ) (report : CacheReport) → link ≡ Under key → call ≢ calls.WentDown key (Ok report)) → link_after link call ≡ link
link_same Awaited call apart = refl
link_same Gone call apart = refl
link_same (Under key) (calls.WentDown lost (Ok report)) apart = kept_case lost key report (lost == key) refl (apart key report refl)
link_same (Under key) (calls.WentDown lost (Err why)) apart = refl
link_same (Under key) (calls.Loaded set result) apart = refl
link_same (Under key) (calls.Withdrew result) apart = refl
link_same (Under key) (calls.CameUp result) apart = refl
link_same (Under key) (calls.Heard heard octets result) apart = refl
link_same (Under key) (calls.Ticked now result) apart = refl
link_same (Under key) (calls.Took taken buf result out) apart = refl

-- nothing is published
published_same : (w : TwoEnds) (call : Call) → ((set : List Vrp) (report : CacheReport) → call ≢ calls.Loaded set (Ok report)) → published_by w call ≡ w.published
published_same w (calls.Loaded set (Ok report)) apart = absurd (apart set report refl)
published_same w (calls.Loaded set (Err why)) apart = refl
published_same w (calls.Withdrew result) apart = refl
published_same w (calls.CameUp result) apart = refl
published_same w (calls.Heard heard octets result) apart = refl
published_same w (calls.WentDown lost result) apart = refl
published_same w (calls.Ticked now result) apart = refl
published_same w (calls.Took taken buf result out) apart = refl

pub calls_are_events : CallsAreEvents
calls_are_events w call cache rest makes can brings = (
  called w call cache rest,
  record { makes = makes; publishable = can_load call can; brings = brings; leaves = refl },
  refl,
  refl,
  refl,
  refl,
  refl,
  λ apart. link_same w.link call apart,
  λ apart. published_same w call apart,
)

same_key : (key : ℕ) → (key == key) ≡ true
same_key key = eq-eqb key key refl

-- the same with its parts named
parts : (w : TwoEnds) (cache : CacheState) (link other : Link) (up down out : List ℕ) (published shown : List Publication) → link ≡ other → down ≡ out → published ≡ shown
    → record w { cache = cache; link = link; up = up; down = down; published = published } ≡ record w { cache = cache; link = other; up = up; down = out; published = shown }
parts w cache link other up down out published shown a b c = λ i. record w { cache = cache; link = a i; up = up; down = b i; published = c i }

pub hearings_are_events : HearingsAreEvents
hearings_are_events w key octets rest report cache joined makes brings = record {
  makes = makes;
  publishable = tt;
  brings = brings ∙ ap (λ l. l ++ rest) (sym (rw joined (if_true (key == key) octets [] (same_key key))));
  leaves = sym (parts w cache (link_after w.link (calls.Heard key octets (Ok report))) w.link rest (w.down ++ handed w.link (calls.Heard key octets (Ok report))) w.down w.published w.published
      (rw joined refl) (ap (λ l. w.down ++ handed l (calls.Heard key octets (Ok report))) joined ∙ append-nil w.down) refl);
}

brought_case : (heard key : ℕ) (octets : List ℕ) (report : CacheReport) (t : Bool) → (heard == key) ≡ t → calls.Heard heard octets (Ok report) ≢ calls.Heard key octets (Ok report) → cond t octets [] ≡ []
brought_case heard key octets report true at apart = absurd (apart (ap (λ k. calls.Heard k octets (Ok report)) (eqb-true heard key at)))
brought_case heard key octets report false at apart = refl

others_brought : (link : Link) (call : Call) → ((key : ℕ) (octets : List ℕ) (report : CacheReport) → link ≡ Under key → call ≢ calls.Heard key octets (Ok report)) → brought link call ≡ []
others_brought Awaited call apart = refl
others_brought Gone call apart = refl
others_brought (Under key) (calls.Heard heard octets (Ok report)) apart = brought_case heard key octets report (heard == key) refl (apart key octets report refl)
others_brought (Under key) (calls.Heard heard octets (Err why)) apart = refl
others_brought (Under key) (calls.WentDown lost result) apart = refl
others_brought (Under key) (calls.Loaded set result) apart = refl
others_brought (Under key) (calls.Withdrew result) apart = refl
others_brought (Under key) (calls.CameUp result) apart = refl
others_brought (Under key) (calls.Ticked now result) apart = refl
others_brought (Under key) (calls.Took taken buf result out) apart = refl

handed_case : (taken key : ℕ) (buf out : List ℕ) (count : ℕ) (t : Bool) → (taken == key) ≡ t → calls.Took taken buf (Ok count) out ≢ calls.Took key buf (Ok count) out → cond t (take count out) [] ≡ []
handed_case taken key buf out count true at apart = absurd (apart (ap (λ k. calls.Took k buf (Ok count) out) (eqb-true taken key at)))
handed_case taken key buf out count false at apart = refl

others_handed : (link : Link) (call : Call) → ((key : ℕ) (buf out : List ℕ) (count : ℕ) → link ≡ Under key → call ≢ calls.Took key buf (Ok count) out) → handed link call ≡ []
others_handed Awaited call apart = refl
others_handed Gone call apart = refl
others_handed (Under key) (calls.Took taken buf (Ok count) out) apart = handed_case taken key buf out count (taken == key) refl (apart key buf out count refl)
others_handed (Under key) (calls.Took taken buf (Err why) out) apart = refl
others_handed (Under key) (calls.Heard heard octets result) apart = refl
others_handed (Under key) (calls.WentDown lost result) apart = refl
others_handed (Under key) (calls.Loaded set result) apart = refl
others_handed (Under key) (calls.Withdrew result) apart = refl
others_handed (Under key) (calls.CameUp result) apart = refl
others_handed (Under key) (calls.Ticked now result) apart = refl

pub others_are_events : OthersAreEvents
others_are_events w call cache makes no_load no_heard no_took no_loss = record {
  makes = makes;
  publishable = can_load call (λ set report is. absurd (no_load set report is));
  brings = ap (λ l. l ++ w.up) (sym (others_brought w.link call no_heard));
  leaves = sym (parts w cache (link_after w.link call) w.link w.up (w.down ++ handed w.link call) w.down (published_by w call) w.published
      (link_same w.link call no_loss) (ap (λ l. w.down ++ l) (others_handed w.link call no_took) ∙ append-nil w.down) (published_same w call no_load));
}

pub takes_are_events : TakesAreEvents
takes_are_events w key buf out count cache joined makes = record {
  makes = makes;
  publishable = tt;
  brings = rw joined refl;
  leaves = sym (parts w cache (link_after w.link (calls.Took key buf (Ok count) out)) w.link w.up (w.down ++ handed w.link (calls.Took key buf (Ok count) out)) (w.down ++ take count out) w.published w.published
      (rw joined refl) (ap (λ l. w.down ++ l) (ap (λ l. handed l (calls.Took key buf (Ok count) out)) joined ∙ if_true (key == key) (take count out) [] (same_key key))) refl);
}

pub losses_are_events : LossesAreEvents
losses_are_events w key report cache joined makes = record {
  makes = makes;
  publishable = tt;
  brings = rw joined refl;
  leaves = sym (parts w cache (link_after w.link (calls.WentDown key (Ok report))) Gone w.up (w.down ++ handed w.link (calls.WentDown key (Ok report))) w.down w.published w.published
      (ap (λ l. link_after l (calls.WentDown key (Ok report))) joined ∙ if_true (key == key) Gone (Under key) (same_key key)) (ap (λ l. w.down ++ handed l (calls.WentDown key (Ok report))) joined ∙ append-nil w.down) refl);
}

published_case : (shared : Shared) (kept : List Version) (set : List Vrp) (published : List Publication) (t : Bool) → kept ≡ cond t shared.kept (take kept_versions (next_version shared.kept set ∷ shared.kept))
    → cond t published (publication shared set ∷ published) ≡ cond t published (record { session = shared.session; serial = newest_serial kept; set = set } ∷ published)
published_case shared kept set published true e = refl
published_case shared kept set published false e = ap (λ k. record { session = shared.session; serial = k; set = set } ∷ published) (sym (ap newest_serial e))

pub loads_are_events : LoadsAreEvents
loads_are_events w set report cache can makes = record {
  makes = makes;
  publishable = can;
  brings = ap (λ l. l ++ w.up) (sym (brought_none w.link set (Ok report)));
  leaves = sym (parts w cache (link_after w.link (calls.Loaded set (Ok report))) w.link w.up (w.down ++ handed w.link (calls.Loaded set (Ok report))) w.down (published_after w.cache.shared set w.published) _
      (link_stays w.link set (Ok report)) (ap (λ l. w.down ++ l) (handed_none w.link set (Ok report)) ∙ append-nil w.down)
      (published_case w.cache.shared cache.shared.kept set w.published (is_newest_set w.cache.shared.kept set) (ap (λ (s : Shared). s.kept) makes.0.0)
      ∙ ap (λ n. cond (is_newest_set w.cache.shared.kept set) w.published (record { session = n; serial = newest_serial cache.shared.kept; set = set } ∷ w.published)) (sym (ap (λ (s : Shared). s.session) makes.0.0))));
}

pub acceptances_are_events : AcceptancesAreEvents
acceptances_are_events w key cache awaited begun makes = record { awaited = awaited; begun = begun; comes_up = makes; leaves = refl }

-- ---- the client

room_said : (s : Option Content) → spelled s ≡ said true s
room_said None = refl
room_said (Some content) = refl

room_settled : (now : ℕ) (s : Option Content) (client : Client) → client ≡ settled now true s client
room_settled now s client = refl

with_client : (w : TwoEnds) (client other : Client) (up out : List ℕ) → client ≡ other → up ≡ out → record w { client = client; up = up } ≡ record w { client = other; up = out }
with_client w client other up out a b = λ i. record w { client = a i; up = b i }

pub readings_are_events : ReadingsAreEvents
readings_are_events w now starved octets rest item front is =
    let reply = row now w.client (served starved (input_of item)) in
    record {
      octets = octets;
      item = item;
      front = front;
      is = is;
      leaves = with_client (record w { down = rest; place = place_after w.place (Some item) }) reply.client (client_after now true reply) (w.up ++ spelled reply.said) (up_after true reply w.up)
          refl (ap (λ l. w.up ++ l) (room_said reply.said));
    }

unsaid_client : (now : ℕ) (s : Option Content) (query : Content) (client : Client) → s ≡ Some query → (row now client No_room).client ≡ settled now false s client
unsaid_client now None query client e = cc
unsaid_client now (Some content) query client e = refl

unsaid : (s : Option Content) → [] ≡ said false s
unsaid None = refl
unsaid (Some content) = refl

pub readings_without_room_are_events : ReadingsWithoutRoomAreEvents
readings_without_room_are_events w now starved octets rest item query front is asks =
    let reply = row now w.client (served starved (input_of item)) in
    record {
      octets = octets;
      item = item;
      front = front;
      is = is;
      leaves = with_client (record w { down = rest; place = place_after w.place (Some item) }) (row now reply.client No_room).client (client_after now false reply) (w.up ++ []) (up_after false reply w.up)
          (unsaid_client now reply.said query reply.client asks) (ap (λ l. w.up ++ l) (unsaid reply.said));
    }

own_step : (input : Input) → IsStep input → IsOwn input
own_step input (inl is) = subst IsOwn (sym is) tt
own_step input (inr (inl is)) = subst IsOwn (sym is) tt
own_step input (inr (inr is)) = subst IsOwn (sym is) tt

pub steps_are_events : StepsAreEvents
steps_are_events w now input own =
    let reply = row now w.client input in
    (own_step input own, with_client w reply.client (client_after now true reply) (w.up ++ spelled reply.said) (up_after true reply w.up) refl (ap (λ l. w.up ++ l) (room_said reply.said)))

pub steps_without_room_are_events : StepsWithoutRoomAreEvents
steps_without_room_are_events w now input query own asks =
    let reply = row now w.client input in
    (own_step input own, with_client w (row now reply.client No_room).client (client_after now false reply) (w.up ++ []) (up_after false reply w.up) (unsaid_client now reply.said query reply.client asks) (ap (λ l. w.up ++ l) (unsaid reply.said)))

pub failures_are_events : FailuresAreEvents
failures_are_events w now = refl

-- ---- beginnings

pub beginnings_are_new : BeginningsAreNew
beginnings_are_new retry session intervals other_session cache fits new = ((fits, new.0), λ i. record { cache = new.1 i; client = first_client retry; link = Awaited; up = []; down = []; place = first_place; published = [] })

is_new_case : (session : ℕ) (first : Publication) (published : List Publication) (t : Bool) → (first.session == session) ≡ t → first.session ≢ session → is_new_session session published ≡ true
    → cond t false (is_new_session session published) ≡ true
is_new_case session first published true at apart later = absurd (apart (eqb-true first.session session at))
is_new_case session first published false at apart later = later

is_new : (session : ℕ) (published : List Publication) → ((one : Publication) → In one published → one.session ≢ session) → is_new_session session published ≡ true
is_new session [] apart = refl
is_new session (first ∷ published) apart =
    is_new_case session first published (first.session == session) refl (apart first (inl refl)) (is_new session published (λ one there. apart one (inr there)))

pub restarts_are_events : RestartsAreEvents
restarts_are_events w session intervals other_session cache fits new apart = (
  link_lost w.link,
  record {
    fresh = is_new session w.published (λ one there. apart one (contains one w.published there));
    lawful = (fits, new.0);
    leaves = λ i. record w { cache = new.1 i; link = link_lost w.link };
  },
  λ is. ap link_lost is,
  λ key is. ap link_lost is,
  λ is. ap link_lost is,
)

pub events_go_on : EventsGoOn
events_go_on retry session intervals other_session events w event new after happens = (after.0, (w, after.1, happens))

-- ---- a session

room_case : (now : ℕ) (ring : List ℕ) (client : Client) (content : Content) (t : Bool)
    → (cond t client (row now client No_room).client ≡ settled now t (Some content) client) × (ring ++ cond t (spelling content) [] ≡ ring ++ said t (Some content))
room_case now ring client content true = (refl, refl)
room_case now ring client content false = (refl, refl)

said_case : (now : ℕ) (ring : List ℕ) (client : Client) (s : Option Content)
    → (has_room : Bool) × (sessions.settled now s ring client ≡ settled now has_room s client) × (ring ++ sessions.said s ring ≡ ring ++ said has_room s)
said_case now ring client None = (true, refl, refl)
said_case now ring client (Some content) = let k = room_case now ring client content (finds_room content ring) in (finds_room content ring, k.0, k.1)

pub sessions_are_clients : SessionsAreClients
sessions_are_clients now input s = said_case now s.ring (row now s.client input).client (row now s.client input).said
