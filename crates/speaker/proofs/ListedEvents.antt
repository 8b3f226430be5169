use Rattle.std.proofs.Common.{◌≡◌, ◌≤◌, ◌<◌, ◌++◌, ◌==◌, ◌||◌, ℕ, zero, suc, IfOk, IfErr, Bool, true, false, cond, List, [], ◌∷◌, Option, Some, None, Result, Ok, Err, refl, sym, ap, ◌∙◌, subst, arith}
use Rattle.std.specs.Option.{MatchOption}
use Rattle.std.specs.Prelude.{not}
use Rattle.bgp_conf.specs.declared.refusal.Refusal.{Refusal}
use Rattle.bgp_conf.specs.declared.refusal.Refusal.TheVariants.{NoMemory}
use Rattle.net_prefix.specs.declared.prefix.Prefix.{Prefix}
use Rattle.runs.proofs.RefusedEvents.{agrees_as_before, err_of, unrefused}
use Rattle.runs.specs.Agreement.{CacheAgrees, Agrees, tables_after}
use Rattle.routing.specs.LocRib.{HasNoCandidate}
use Rattle.routing.specs.Tables.{network_route}
use Rattle.routing.proofs.CandidateLists.{none_routed}
use Rattle.runs.proofs.PeerRoutes.{peer_none}
use Rattle.rtr_session.specs.SessionState.{configured}
use Rattle.runs.specs.FirstRefusal.{refusal_in, refusal_of, Grows, LacksMemory}
use Rattle.runs.specs.Played.{Follows, GoesOn, IsPlayed, Point, beginning}
use Rattle.runs.specs.Runs.{Run, Turn, asked, call_of, configuration_of, report_of}
use Rattle.runs.specs.SlotTimes.{are_lawful, is_retry}
use Rattle.runs.specs.SpeakerState.{SpeakerState, is_out_of_range, started, tables_of}
use Rattle.runs.specs.declared.config.Config.{Config}
use Rattle.runs.specs.declared.event.Event.{Event}
use Rattle.runs.specs.declared.event.Report.{Report}
use Rattle.speaker.proofs.Refusals.{refusal_same}
use Rattle.routing.proofs.WaitingLists.{nothing_rises}

-- Lists of events.

-- a cache session that is asked for is as nothing leaves it
cache_starts : (config : Config) (b : Bool) → config.cache ≡ b → CacheAgrees config [] (cond b (Some (configured config.cache_retry)) None)
cache_starts config true is = (is, record { client = refl; reading = λ stands. absurd (cc); ring = refl })
cache_starts config false is = (is, refl)

-- before any call there are no routes and no local networks
none_after : (config : Config) (prefix : Prefix) → HasNoCandidate (tables_after config []) prefix
none_after config prefix c is = none_routed (tables_after config []) prefix c.slot (none (c.slot == 64)) c refl is
  where
    none : (b : Bool) → cond b (network_route (configuration_of config []) prefix) None ≡ None
    none true = refl
    none false = refl

pub some_number : (n : ℕ) → (n == 0) ≡ false → 0 < n
some_number zero none = absurd cc
some_number (suc n) none = omega arith

-- a speaker without peers is as no call leaves it
pub agrees_new : (config : Config) → 0 < config.asn.0 → Agrees config [] (started config)
agrees_new config own = record {
  holds = record {
    config_is = refl;
    moment = refl;
    conf = refl;
    cache = cache_starts config config.cache refl;
    payloads = refl;
    peers = (own, λ slot peer at. absurd (cc));
    slots = λ slot. record {
      configured = refl;
      there = refl;
      link = λ l there. absurd (cc);
      vacant = λ none. (refl, refl);
      routes_are = λ prefix. peer_none slot prefix;
    };
    kept = record {
      made = λ slot prefix. none_routed (tables_of (started config)) prefix slot refl;
      routed = λ slot prefix there. absurd (cc);
      below = λ slot session there. absurd (cc);
    };
    networks = λ prefix. refl;
    chosen = omega arith;
  };
  loc_rib = record { rising = nothing_rises; best = λ prefix c is. none_after config prefix c is };
  settled = λ s peer configured. absurd (cc);
  thrifty = tt;
}

first_false : (a b : Bool) → (a || b) ≡ false → a ≡ false
first_false true b is = absurd cc
first_false false b is = refl

-- a configuration that isn't out of range has an AS
pub own_told : (config : Config) → is_out_of_range config ≡ false → (config.asn.0 == 0) ≡ false
own_told config is =
    first_false (config.asn.0 == 0) (config.identifier == 0)
    (first_false (config.asn.0 == 0 || config.identifier == 0) (not (are_lawful config.timers))
    (first_false (config.asn.0 == 0 || config.identifier == 0 || not (are_lawful config.timers)) (not (is_retry config.cache_retry)) is))

-- one more event with its answer
follows_more : (config : Config) (before : Point) (events : List Event) (answers : List (Result Report Refusal)) (mid after : Point) (event : Event) (answer : Result Report Refusal)
    → Follows config before events answers mid → GoesOn config mid event answer after → Follows config before (events ++ event ∷ []) (answers ++ answer ∷ []) after
follows_more config before [] [] mid after event answer same on = (after, rw (← same) on, refl)
follows_more config before [] (a ∷ answers) mid after event answer follows on = absurd follows
follows_more config before (e ∷ events) [] mid after event answer follows on = absurd follows
follows_more config before (e ∷ events) (a ∷ answers) mid after event answer follows on =
    (follows.0, follows.1, follows_more config follows.0 events answers mid after event answer follows.2 on)

pub played_none : (config : Config) (s : SpeakerState) → Agrees config [] s → s ≡ started config → IsPlayed config [] [] s
played_none config s agrees is = record {
  end = beginning;
  follows = refl;
  agrees = agrees;
  chosen = ap (λ (x : SpeakerState). x.chosen) is;
  chosen_before = ap (λ (x : SpeakerState). x.chosen_before) is;
}

-- what an accepted event leads to
abbrev Accepts : Event → Report → SpeakerState → SpeakerState → Type 0
Accepts event report s new =
    (config : Config) (r : Run) → Agrees config r s → (now : Turn) × (asked now.call ≡ call_of event) × (report ≡ report_of config r now) × Agrees config (now ∷ r) new

-- what was chosen for it, and what before
abbrev Counts : SpeakerState → SpeakerState → Type 0
Counts s new = (new.chosen_before ≡ s.chosen) × (s.chosen ≤ new.chosen)

-- an accepted event
played_ok : (config : Config) (events : List Event) (answers : List (Result Report Refusal)) (event : Event) (report : Report) (s new : SpeakerState) → (h : IsPlayed config events answers s)
    → refusal_in config h.end.run event ≡ None → Accepts event report s new → Counts s new → IsPlayed config (events ++ event ∷ []) (answers ++ Ok report ∷ []) new
played_ok config events answers event report s new h unrefused agrees counts =
    let more = agrees config h.end.run h.agrees in
    let so_far = h.chosen in
    let counted = counts.0 in
    let rises = counts.1 in
    let most = more.3.holds.chosen in
    let next : Point = record { run = more.0 ∷ h.end.run; chosen = new.chosen; chosen_before = new.chosen_before } in
    record {
      end = next;
      follows = follows_more config beginning events answers h.end next event (Ok report) h.follows
          (unrefused, (more.0, more.1, refl, more.2, more.3.settled), record { counted = counted ∙ so_far; rises = omega (arith, so_far, rises); most = omega (arith, so_far, counted, most) });
      agrees = more.3;
      chosen = refl;
      chosen_before = refl;
    }

-- a refused event stands as nothing
played_err : (config : Config) (events : List Event) (answers : List (Result Report Refusal)) (event : Event) (why : Refusal) (s new : SpeakerState) → (h : IsPlayed config events answers s)
    → MatchOption (refusal_in config h.end.run event) ((why ≡ NoMemory) × Grows (configuration_of config h.end.run) event) (λ first. why ≡ first)
    → ((r : Run) → Agrees config r s → Agrees config r new) → new.chosen ≡ s.chosen → new.chosen_before ≡ s.chosen_before → IsPlayed config (events ++ event ∷ []) (answers ++ Err why ∷ []) new
played_err config events answers event why s new h first agrees same same_before = record {
  end = h.end;
  follows = follows_more config beginning events answers h.end h.end event (Err why) h.follows (refl, first);
  agrees = agrees h.end.run h.agrees;
  chosen = same ∙ h.chosen;
  chosen_before = same_before ∙ h.chosen_before;
}

-- what `Speaker::step` promises of a refusal
abbrev Refuses : Option Refusal → Event → Result Report Refusal → SpeakerState → SpeakerState → Type 0
Refuses first event answer s new = MatchOption first (IfErr answer (λ why. (why ≡ NoMemory) × LacksMemory event s new)) (λ why. (answer ≡ Err why) × (new ≡ s))

refused_more : (config : Config) (events : List Event) (answers : List (Result Report Refusal)) (event : Event) (why : Refusal) (s new : SpeakerState) (first : Option Refusal) → (h : IsPlayed config events answers s)
    → refusal_in config h.end.run event ≡ first → Refuses first event (Err why) s new → IsPlayed config (events ++ event ∷ []) (answers ++ Err why ∷ []) new
refused_more config events answers event why s new (Some w) h is m =
    let same : why ≡ w = let answer : err_of why ≡ err_of w = m.0 in cc in
    let M : Option Refusal → Type 0 = λ first. MatchOption first ((why ≡ NoMemory) × Grows (configuration_of config h.end.run) event) (λ x. why ≡ x) in
    played_err config events answers event why s new h (subst M (sym is) same) (λ r a. rw m.1 a) (ap (λ (x : SpeakerState). x.chosen) m.1) (ap (λ (x : SpeakerState). x.chosen_before) m.1)
refused_more config events answers event why s new None h is m =
    let M : Option Refusal → Type 0 = λ first. MatchOption first ((why ≡ NoMemory) × Grows (configuration_of config h.end.run) event) (λ x. why ≡ x) in
    played_err config events answers event why s new h (subst M (sym is) (m.0, subst (λ conf. Grows conf event) h.agrees.holds.conf m.1.0)) (λ r a. agrees_as_before config r s new m.1.1 a) m.1.1.chosen m.1.1.chosen_before

-- one more event
pub played_more : (config : Config) (events : List Event) (answers : List (Result Report Refusal)) (event : Event) (answer : Result Report Refusal) (s new : SpeakerState)
    → IsPlayed config events answers s → IfOk answer (λ report. Accepts event report s new) → IfOk answer (λ report. new.chosen_before ≡ s.chosen) → IfOk answer (λ report. s.chosen ≤ new.chosen)
    → Refuses (refusal_of s event) event answer s new
    → IsPlayed config (events ++ event ∷ []) (answers ++ answer ∷ []) new
played_more config events answers event (Ok report) s new h agrees counted rises refused =
    played_ok config events answers event report s new h (sym (refusal_same config h.end.run s event h.agrees) ∙ unrefused (refusal_of s event) report s new refused) agrees (counted, rises)
played_more config events answers event (Err why) s new h agrees counted rises refused =
    refused_more config events answers event why s new (refusal_of s event) h (sym (refusal_same config h.end.run s event h.agrees)) refused
