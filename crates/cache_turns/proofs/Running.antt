-- The calls that turns make of the cache, one step after another.
use Rattle.std.proofs.Common.{ℕ, zero, suc, List, [], ◌∷◌, ◌++◌, refl, sym, ap, subst, append_assoc, inl, inr, ◌⊎◌, Option, Some, None, Result, Ok, Err}
use Rattle.rtr_cache.specs.CacheState.{CacheState, tells_client}
use Rattle.rtr_cache.specs.ClientHistory.{Call, CameUp, IsRun, Makes, Turn, WentDown, turn_of}
use Rattle.cache_turns.specs.Serving.{Connection}
use Rattle.cache_turns.specs.Turns.{ComesUp, Load, Step, TakesStep, TakesSteps, TakesTurn, TellsCache, TurnAt, Turns, VisitsBelow, VisitsLink, Withdraw, link_at, sides}
use Rattle.cache_turns.specs.declared.link.Visit.{Visit}
use Rattle.cache_turns.specs.declared.link.Visit.TheVariants.{Stays, Faulty, Ended, Closed, Overdue}
use Rattle.cache_turns.proofs.Carrying.{Passes, accepts_passes, load_passes, stops_passes, tick_passes, withdraw_passes}
use Rattle.cache_turns.proofs.Exchanges.{run_on, serves_carries}
use Rattle.wires.specs.declared.fault.LoopFault.{LoopFault}
use Rattle.wires.specs.declared.fault.LoopFault.TheVariants.{Accept}

-- calls of a cache lead from one state of it to another
abbrev Leads : CacheState → CacheState → Type 0
Leads old new = (history : List Turn) × IsRun old history new

leads_on : (old mid new : CacheState) → Leads old mid → Leads mid new → Leads old new
leads_on old mid new first second = (second.0 ++ first.0, run_on old mid new first.0 second.0 first.1 second.1)

by_call : (old : CacheState) (call : Call) (new : CacheState) → Makes old call new → Leads old new
by_call old call new makes = (turn_of old call ∷ [], (refl, makes))

tells_lead : (visit : Visit) (old : CacheState) (key : ℕ) (new : CacheState) → TellsCache visit old key new → Leads old new
tells_lead Stays old key new same = ([], same)
tells_lead Faulty old key new down = by_call old (WentDown key down.0) new down.1
tells_lead Ended old key new down = by_call old (WentDown key down.0) new down.1
tells_lead Closed old key new down = by_call old (WentDown key down.0) new down.1
tells_lead Overdue old key new down = by_call old (WentDown key down.0) new down.1

visit_leads : (now : ℕ) (old new : Turns) (key : ℕ) (link : Option Connection) → VisitsLink now old key link new → Leads old.cache new.cache
visit_leads now old new key None same = ([], ap (λ (t : Turns). t.cache) same)
visit_leads now old new key (Some link) visited =
    let served = (serves_carries key link (sides old) visited.attends.found visited.left.waiting visited.behind visited.attends.stands.serves).carries in
    leads_on old.cache visited.behind.cache new.cache (served.history, served.run) (tells_lead visited.visit visited.behind.cache key new.cache visited.tells)

visits_lead : (now places : ℕ) (old new : Turns) → VisitsBelow now places old new → Leads old.cache new.cache
visits_lead now zero old new same = ([], ap (λ (t : Turns). t.cache) same)
visits_lead now (suc key) old new v =
    leads_on old.cache v.0.cache new.cache (visits_lead now key old v.0 v.1) (visit_leads now v.0 new key (link_at v.0 key) v.2)

passes_lead : (old new : Turns) → Passes old new → Leads old.cache new.cache
passes_lead old new passes = (passes.history, passes.run)

accepting_leads : (now : ℕ) (old new : Turns) → (ComesUp now old new) ⊎ (Passes old new) → Leads old.cache new.cache
accepting_leads now old new (inl comes) = by_call old.cache (CameUp (Ok (tells_client comes.key))) new.cache comes.comes
accepting_leads now old new (inr passes) = passes_lead old new passes

turn_leads : (now : ℕ) (old new : Turns) (result : Result (Unit {0}) LoopFault) → TakesTurn now old result new → Leads old.cache new.cache
turn_leads now old new (Ok nothing) turn =
    leads_on old.cache turn.admitted.cache new.cache (accepting_leads now old turn.admitted (accepts_passes now old turn.admitted turn.accepts))
    (leads_on turn.admitted.cache turn.visited.cache new.cache (visits_lead now _ turn.admitted turn.visited turn.visits) (passes_lead turn.visited new (tick_passes now turn.visited new turn.tells)))
turn_leads now old new (Err Accept) stops = passes_lead old new (stops_passes old new stops)

step_leads : (step : Step) (old new : Turns) → TakesStep step old new → Leads old.cache new.cache
step_leads (TurnAt now) old new turn = turn_leads now old new turn.0 turn.1
step_leads (Load set) old new loads = passes_lead old new (load_passes set old new loads)
step_leads Withdraw old new withdraws = passes_lead old new (withdraw_passes old new withdraws)

-- any steps lead on from a run
pub steps_lead : (steps : List Step) (start : CacheState) (before : List Turn) (old new : Turns) → IsRun start before old.cache → TakesSteps steps old new → (after : List Turn) × IsRun start (after ++ before) new.cache
steps_lead [] start before old new run same = ([], subst (λ (c : CacheState). IsRun start before c) (sym (ap (λ (t : Turns). t.cache) same)) run)
steps_lead (step ∷ steps) start before old new run taken =
    let calls = step_leads step old taken.0 taken.1 in
    let more = steps_lead steps start (calls.0 ++ before) taken.0 new (run_on start old.cache taken.0.cache before calls.0 run calls.1) taken.2 in
    (more.0 ++ calls.0, subst (λ (h : List Turn). IsRun start h new.cache) (sym (append_assoc more.0 calls.0 before)) more.1)
