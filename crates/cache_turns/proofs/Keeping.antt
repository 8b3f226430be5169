-- Turns publish nothing: the versions that the cache keeps stay, and they are withdrawn or not as before.
use Rattle.std.proofs.Common.{◌≡◌, ◌∙◌, refl, ap, ℕ, zero, suc, List, [], ◌∷◌, inl, inr, Option, Some, None, Result, Ok, Err}
use Rattle.rtr_cache.specs.CacheState.{CacheState, tells_client}
use Rattle.rtr_cache.specs.CacheTable.{Shared}
use Rattle.rtr_cache.specs.ClientHistory.{CameUp, Heard, Makes, Ticked, Took, WentDown, Withdrew}
use Rattle.rtr_cache.specs.declared.event.CacheReport.{CacheReport}
use Rattle.rtr_cache.specs.declared.refusal.CacheRefusal.{CacheRefusal}
use Rattle.cache_turns.specs.Serving.{Connection, GoesOn, Hears, Serves, Sides, Takes}
use Rattle.cache_turns.specs.Turns.{Accepts, TakesTurn, TakesTurns, TellsCache, Turns, VisitsBelow, VisitsLink, WithdrawsSet, link_at, sides}
use Rattle.cache_turns.specs.declared.link.Visit.{Visit}
use Rattle.cache_turns.specs.declared.link.Visit.TheVariants.{Stays, Faulty, Ended, Closed, Overdue}
use Rattle.wires.specs.declared.fault.LoopFault.{LoopFault}
use Rattle.wires.specs.declared.fault.LoopFault.TheVariants.{Accept}
use Rattle.wires.specs.declared.wire.Received.{Received}
use Rattle.wires.specs.declared.wire.Received.TheVariants.{Octets as Came, Nothing as NoneCame, End, Fault as ReadFault}

abbrev Keeps : CacheState → CacheState → Type 0
Keeps old new = (new.shared.kept ≡ old.shared.kept) × (new.shared.withdrawn ≡ old.shared.withdrawn)

same_keeps : (old new : CacheState) → new ≡ old → Keeps old new
same_keeps old new same = (ap (λ (c : CacheState). c.shared.kept) same, ap (λ (c : CacheState). c.shared.withdrawn) same)

shared_keeps : (old new : CacheState) → new.shared ≡ old.shared → Keeps old new
shared_keeps old new same = (ap (λ (s : Shared). s.kept) same, ap (λ (s : Shared). s.withdrawn) same)

keeps_on : (old mid new : CacheState) → Keeps old mid → Keeps mid new → Keeps old new
keeps_on old mid new first second = (second.0 ∙ first.0, second.1 ∙ first.1)

coming_up_keeps : (old new : CacheState) (result : Result CacheReport CacheRefusal) → Makes old (CameUp result) new → Keeps old new
coming_up_keeps old new (Ok report) makes = shared_keeps old new makes.0.7
coming_up_keeps old new (Err why) makes = same_keeps old new makes.1

hearing_keeps : (old new : CacheState) (key : ℕ) (octets : List ℕ) (result : Result CacheReport CacheRefusal) → Makes old (Heard key octets result) new → Keeps old new
hearing_keeps old new key octets (Ok report) makes = shared_keeps old new makes.0.4
hearing_keeps old new key octets (Err why) makes = same_keeps old new makes.1

going_down_keeps : (old new : CacheState) (key : ℕ) (result : Result CacheReport CacheRefusal) → Makes old (WentDown key result) new → Keeps old new
going_down_keeps old new key (Ok report) makes = shared_keeps old new makes.0.3
going_down_keeps old new key (Err why) makes = same_keeps old new makes.1

tick_keeps : (old new : CacheState) (now : ℕ) (result : Result CacheReport CacheRefusal) → Makes old (Ticked now result) new → Keeps old new
tick_keeps old new now (Ok report) makes = (ap (λ (s : Shared). s.kept) makes.0.1, ap (λ (s : Shared). s.withdrawn) makes.0.1)
tick_keeps old new now (Err why) makes = same_keeps old new makes.1

taking_keeps : (old new : CacheState) (key : ℕ) (buf : List ℕ) (result : Result ℕ CacheRefusal) (handed : List ℕ) → Makes old (Took key buf result handed) new → Keeps old new
taking_keeps old new key buf (Ok count) handed makes = shared_keeps old new makes.0.6
taking_keeps old new key buf (Err why) handed makes = same_keeps old new makes.1

hears_keeps : (received : Received) (key : ℕ) (buf : List ℕ) (old new : CacheState) → Hears received key buf old new → Keeps old new
hears_keeps (Came count) key buf old new heard = hearing_keeps old new key _ heard.0 heard.1
hears_keeps NoneCame key buf old new same = same_keeps old new same
hears_keeps End key buf old new same = same_keeps old new same
hears_keeps ReadFault key buf old new same = same_keeps old new same

takes_keeps : (key : ℕ) (waiting : List ℕ) (old : CacheState) (octets : List ℕ) (new : CacheState) → Takes key waiting old octets new → Keeps old new
takes_keeps key [] old octets new takes =
    let handed = takes.none_wait refl in
    taking_keeps old new key handed.buf handed.result handed.handed handed.makes
takes_keeps key (octet ∷ waiting) old octets new takes = same_keeps old new (takes.some_wait (λ wrong. cc)).1

going_on_keeps : (received : Received) (key : ℕ) (link : Connection) (old : Sides) (visit : Visit) (left : List ℕ) (new : Sides) → GoesOn received key link old visit left new → Keeps old.cache new.cache
going_on_keeps (Came count) key link old visit left new answers = takes_keeps key link.waiting old.cache answers.octets new.cache answers.takes
going_on_keeps NoneCame key link old visit left new answers = takes_keeps key link.waiting old.cache answers.octets new.cache answers.takes
going_on_keeps End key link old visit left new answers = takes_keeps key link.waiting old.cache answers.octets new.cache answers.takes
going_on_keeps ReadFault key link old visit left new ends = same_keeps old.cache new.cache (ap (λ (s : Sides). s.cache) ends.1)

serving_keeps : (key : ℕ) (link : Connection) (old : Sides) (visit : Visit) (left : List ℕ) (new : Sides) → Serves key link old visit left new → Keeps old.cache new.cache
serving_keeps key link old visit left new serves =
    keeps_on old.cache serves.behind.cache new.cache
    (hears_keeps serves.received key serves.reads.buf old.cache serves.behind.cache serves.reads.hears)
    (going_on_keeps serves.received key link serves.behind visit left new serves.goes_on)

telling_keeps : (visit : Visit) (old : CacheState) (key : ℕ) (new : CacheState) → TellsCache visit old key new → Keeps old new
telling_keeps Stays old key new same = same_keeps old new same
telling_keeps Faulty old key new down = going_down_keeps old new key down.0 down.1
telling_keeps Ended old key new down = going_down_keeps old new key down.0 down.1
telling_keeps Closed old key new down = going_down_keeps old new key down.0 down.1
telling_keeps Overdue old key new down = going_down_keeps old new key down.0 down.1

visit_keeps : (now : ℕ) (old new : Turns) (key : ℕ) (link : Option Connection) → VisitsLink now old key link new → Keeps old.cache new.cache
visit_keeps now old new key None same = same_keeps old.cache new.cache (ap (λ (t : Turns). t.cache) same)
visit_keeps now old new key (Some link) visited =
    keeps_on old.cache visited.behind.cache new.cache
    (serving_keeps key link (sides old) visited.attends.found visited.left.waiting visited.behind visited.attends.stands.serves)
    (telling_keeps visited.visit visited.behind.cache key new.cache visited.tells)

visits_keep : (now places : ℕ) (old new : Turns) → VisitsBelow now places old new → Keeps old.cache new.cache
visits_keep now zero old new same = same_keeps old.cache new.cache (ap (λ (t : Turns). t.cache) same)
visits_keep now (suc key) old new visits =
    keeps_on old.cache visits.0.cache new.cache (visits_keep now key old visits.0 visits.1) (visit_keeps now visits.0 new key (link_at visits.0 key) visits.2)

accepting_keeps : (now : ℕ) (old new : Turns) → Accepts now old new → Keeps old.cache new.cache
accepting_keeps now old new (inl none) = same_keeps old.cache new.cache (ap (λ (t : Turns). t.cache) none)
accepting_keeps now old new (inr (inl away)) = coming_up_keeps old.cache new.cache (Err away.why) away.refused
accepting_keeps now old new (inr (inr (inl lacks))) =
    keeps_on old.cache lacks.told new.cache (coming_up_keeps old.cache lacks.told (Ok (tells_client lacks.key)) lacks.comes) (going_down_keeps lacks.told new.cache lacks.key lacks.goes.0 lacks.goes.1)
accepting_keeps now old new (inr (inr (inr comes))) = coming_up_keeps old.cache new.cache (Ok (tells_client comes.key)) comes.comes

-- a turn publishes nothing
pub turn_keeps : (now : ℕ) (old new : Turns) (result : Result (Unit {0}) LoopFault) → TakesTurn now old result new → Keeps old.cache new.cache
turn_keeps now old new (Ok nothing) turn =
    keeps_on old.cache turn.admitted.cache new.cache (accepting_keeps now old turn.admitted turn.accepts)
    (keeps_on turn.admitted.cache turn.visited.cache new.cache (visits_keep now _ turn.admitted turn.visited turn.visits) (tick_keeps turn.visited.cache new.cache now turn.tells.result turn.tells.ticks))
turn_keeps now old new (Err Accept) stops = same_keeps old.cache new.cache (ap (λ (t : Turns). t.cache) stops)

-- a set that is withdrawn is kept
withdraw_keeps : (old new : CacheState) (result : Result CacheReport CacheRefusal) → Makes old (Withdrew result) new → new.shared.kept ≡ old.shared.kept
withdraw_keeps old new (Ok report) makes = ap (λ (c : CacheState). c.shared.kept) makes.0.0
withdraw_keeps old new (Err why) makes = ap (λ (c : CacheState). c.shared.kept) makes.1

pub withdrawing_keeps : (old new : Turns) → WithdrawsSet old new → new.cache.shared.kept ≡ old.cache.shared.kept
withdrawing_keeps old new withdraws = withdraw_keeps old.cache new.cache withdraws.result withdraws.withdraws

-- nor do any
pub turns_keep : (moments : List ℕ) (old new : Turns) → TakesTurns moments old new → Keeps old.cache new.cache
turns_keep [] old new same = same_keeps old.cache new.cache (ap (λ (t : Turns). t.cache) same)
turns_keep (now ∷ moments) old new turns =
    keeps_on old.cache turns.0.cache new.cache (turn_keeps now old turns.0 turns.1 turns.2) (turns_keep moments turns.0 new turns.3)
