-- What a step of the speaker, and a take, make for one of its sessions.
use Rattle.std.proofs.Common.{◌≡◌, ◌≤◌, ℕ, Bool, true, false, is_none, is_ok, is_some, if◌then◌else◌, List, [], ◌∷◌, ◌++◌, refl, sym, ap, ◌∙◌, subst, Option, Some, None, Result, Ok, Err, IfErr, IfOk, IsOk, MatchOption, length, min, take, drop, arith, length-append}
use Rattle.net_prefix.specs.declared.transport.Transport.{Transport}
use Rattle.net_prefix.specs.declared.transport.Transport.TheVariants as transport
use Rattle.bgp_conf.specs.declared.refusal.Refusal.{Refusal}
use Rattle.bgp_conf.specs.declared.refusal.Refusal.TheVariants.{BadSlot, NoMemory, NotExpected}
use Rattle.bgp_fsm.specs.Transports.{transport_of as session_transport}
use Rattle.bgp_fsm.specs.declared.session.Session.{Session}
use Rattle.std.proofs.lemmas.List.{length-take-le, take_min}
use Rattle.std.proofs.Math.Seq.{take-append_seam}
use Rattle.runs.specs.Agreement.{Agrees}
use Rattle.runs.specs.FirstRefusal.{Grows, LacksMemory, cache_refused_at, refusal_of, refused_at, take_refusal_of}
use Rattle.runs.specs.Runs.{Cache_take_call, Call, Run, Take_call, Turn, asked, call_of, report_of, turn}
use Rattle.speaker.specs.Shown.{transport_at, transport_or_none}
use Rattle.runs.specs.SpeakerState.{SpeakerState}
use Rattle.runs.specs.declared.config.Config.{Config}
use Rattle.runs.specs.declared.event.Event.{Event}
use Rattle.runs.specs.declared.event.Event.TheVariants.{Command as Commanded}
use Rattle.bgp_conf.specs.declared.command.Command.{Command}
use Rattle.speaker_turns.specs.Obeying.{Commanding}
use Rattle.runs.specs.declared.event.Report.{Report}
use Rattle.rtr_session.specs.SessionState.{Session as CacheSession}
use Rattle.routing.specs.Linked.{Linked}
use Rattle.runs.specs.Queueing.{Queue}
use Rattle.routing.specs.Tables.{link_at}
use Rattle.speaker_turns.specs.Sessions.{Asks, Makes, is_there, queued_for, ring_of_cache, ring_of_slot, take_call}
use Rattle.speaker_turns.specs.declared.end.End.TheVariants.{Cache, Peer}
use Rattle.speaker_turns.proofs.Exchanges.{take_none}

abbrev Refuses : Event → SpeakerState → Result Report Refusal → SpeakerState → Option Refusal → Type 0
Refuses event old result new found =
    MatchOption found (IfErr result (λ why. (why ≡ NoMemory) × LacksMemory event old new)) (λ why. (result ≡ Err why) × (new ≡ old))

abbrev Made : Event → SpeakerState → Result Report Refusal → SpeakerState → Type 0
Made event old result new =
    IfOk result (λ report. (config : Config) (r : Run) → Agrees config r old → (now : Turn) × (asked now.call ≡ call_of event) × (report ≡ report_of config r now) × Agrees config (now ∷ r) new)

-- an event that takes no memory of its own is made where it isn't refused
pub steps_ask : (event : Event) (old : SpeakerState) (result : Result Report Refusal) (new : SpeakerState) (found : Option Refusal) → (Grows old.conf event → ⊥) → Refuses event old result new found → Made event old result new → Asks (call_of event) (is_ok result) old new
steps_ask event old (Ok report) new found never refused made =
    λ config r agrees. let t = made config r agrees in (t.0 ∷ [], ap (λ (call : Call). call ∷ []) t.1, t.3)
steps_ask event old (Err why) new None never refused made = absurd (never refused.1.0)
steps_ask event old (Err why) new (Some first) never refused made = refused.1

pub steps_well : (event : Event) (old : SpeakerState) (result : Result Report Refusal) (new : SpeakerState) (found : Option Refusal) → (Grows old.conf event → ⊥) → Refuses event old result new found → is_ok result ≡ is_none found
steps_well event old (Ok report) new None never refused = refl
steps_well event old (Ok report) new (Some first) never refused = absurd (let wrong : Ok report ≡ Err first = refused.0 in cc)
steps_well event old (Err why) new None never refused = absurd (never refused.1.0)
steps_well event old (Err why) new (Some first) never refused = refl

abbrev err_of : Refusal → Result Report Refusal
err_of why = Err why

-- a command is accepted, or refused
pub command_steps : (command : Command) (old : SpeakerState) (result : Result Report Refusal) (new : SpeakerState) → Refuses (Commanded command) old result new (refusal_of old (Commanded command)) → Made (Commanded command) old result new → Commanding command old result new
command_steps command old (Ok report) new refused made = made
command_steps command old (Err why) new refused made = by_first (refusal_of old (Commanded command)) refused
  where
    by_first : (first : Option Refusal) → Refuses (Commanded command) old (Err why) new first → MatchOption first ((why ≡ NoMemory) × LacksMemory (Commanded command) old new) (λ w. (why ≡ w) × (new ≡ old))
    by_first None lacks = lacks
    by_first (Some w) is = ((let same : err_of why ≡ err_of w = is.0 in cc), is.1)

-- what a transport takes isn't refused
by_test : (test : Bool) (why : Refusal) → is_none (if test then None else Some why) ≡ test
by_test true why = refl
by_test false why = refl

pub takes_at : (found : Option Session) (takes : Transport → Bool) → takes transport.None ≡ false → is_none (refused_at found takes) ≡ takes (transport_at found)
takes_at None takes none = sym none
takes_at (Some session) takes none = by_test (takes (session_transport session)) NotExpected

pub cache_takes_at : (found : Option Transport) (takes : Transport → Bool) → takes transport.None ≡ false → is_none (cache_refused_at found takes) ≡ takes (transport_or_none found)
cache_takes_at None takes none = sym none
cache_takes_at (Some transport) takes none = by_test (takes transport) NotExpected

-- what is taken of a ring: its first octets, as many as there are and the buffer holds
pub record IsFirst (count : ℕ) (ring old new : List ℕ) : Type 0 where
  pub octets : take count new ≡ take (length old) ring
  pub within : count ≤ length new

take_seam : (count : ℕ) (front behind : List ℕ) → length front ≡ count → take count (front ++ behind) ≡ front
take_seam count front behind same = subst (λ (n : ℕ). take n (front ++ behind) ≡ front) same (take-append_seam front behind)

first_of_ring : (count : ℕ) (ring old new : List ℕ) → count ≡ min (length old) (length ring) → new ≡ take count ring ++ drop count old → IsFirst count ring old new
first_of_ring count ring old new is handed =
    record {
      octets = ap (take count) handed ∙ (take_seam count (take count ring) (drop count old) front ∙ (ap (λ (n : ℕ). take n ring) is ∙ take_min (length old) ring));
      within = subst (λ (l : List ℕ). count ≤ length l) (sym handed) (omega (arith, length-append (take count ring) (drop count old), front));
    }
  where
    front : length (take count ring) ≡ count
    front = length-take-le count ring (omega (arith, is))

abbrev IsHanded : ℕ → List ℕ → List ℕ → List ℕ → Type 0
IsHanded count ring old new = (count ≡ min (length old) (length ring)) × (new ≡ take count ring ++ drop count old)

-- what a take answers that goes well
abbrev answered : ℕ × Report → Result (ℕ × Report) Refusal
answered taken = Ok taken

abbrev well : ℕ × Report → Type 0
well taken = IsOk (answered taken)

-- a slot hands out octets only where it is there
there : (test : Bool) (taken : ℕ × Report) (buf new_buf : List ℕ) (old new : SpeakerState) → MatchOption (if test then None else Some BadSlot) (well taken) (λ why. (answered taken ≡ Err why) × (new ≡ old) × (new_buf ≡ buf)) → test ≡ true
there true taken buf new_buf old new refused = refl
there false taken buf new_buf old new refused = absurd (let wrong : answered taken ≡ Err BadSlot = refused.0 in cc)

of_link : (link : Option Linked) (count : ℕ) (old new : List ℕ) → is_some link ≡ true → ((l : Linked) → link ≡ Some l → IsHanded count l.peer.ring old new) → IsFirst count (ring_of_slot link) old new
of_link None count old new is handed = absurd cc
of_link (Some l) count old new is handed = let h = handed l refl in first_of_ring count l.peer.ring old new h.0 h.1

pub record TakesSlot (slot count : ℕ) (buf new_buf : List ℕ) (old new : SpeakerState) : Type 0 where
  pub first : IsFirst count (queued_for old (Peer slot)) buf new_buf
  pub asks : Asks (take_call (Peer slot) (take count new_buf)) (is_there old (Peer slot)) old new

pub slot_takes : (slot : ℕ) (taken : ℕ × Report) (buf new_buf : List ℕ) (old new : SpeakerState) → MatchOption (take_refusal_of old slot) (well taken) (λ why. (answered taken ≡ Err why) × (new ≡ old) × (new_buf ≡ buf)) → ((l : Linked) → link_at old.links slot ≡ Some l → IsHanded taken.0 l.peer.ring buf new_buf) → ((config : Config) (r : Run) → Agrees config r old → (queue : Queue) × (taken.1 ≡ report_of config r (turn (Take_call slot (take taken.0 new_buf)) queue)) × Agrees config (turn (Take_call slot (take taken.0 new_buf)) queue ∷ r) new) → TakesSlot slot taken.0 buf new_buf old new
slot_takes slot taken buf new_buf old new refused handed agrees =
    record {
      first = of_link (link_at old.links slot) taken.0 buf new_buf is handed;
      asks = subst (λ (test : Bool). Asks (Take_call slot (take taken.0 new_buf)) test old new) (sym is) makes;
    }
  where
    is : is_some (link_at old.links slot) ≡ true
    is = there (is_some (link_at old.links slot)) taken buf new_buf old new refused

    makes : Makes (Take_call slot (take taken.0 new_buf) ∷ []) old new
    makes = λ config r a. let t = agrees config r a in (turn (Take_call slot (take taken.0 new_buf)) t.0 ∷ [], refl, t.2)

-- the ring of the cache session
of_cache : (cache : Option CacheSession) (count : ℕ) (old new : List ℕ) → (cache ≡ None → (count ≡ 0) × (new ≡ old)) → ((s : CacheSession) → cache ≡ Some s → IsHanded count s.ring old new) → IsFirst count (ring_of_cache cache) old new
of_cache None count old new none handed =
    let nothing = none refl in
    record { octets = subst (λ (n : ℕ). take n new ≡ take (length old) []) (sym nothing.0) (sym (take_none (length old) [] refl)); within = omega (arith, nothing.0) }
of_cache (Some s) count old new none handed = let h = handed s refl in first_of_ring count s.ring old new h.0 h.1

pub cache_takes : (count : ℕ) (buf new_buf : List ℕ) (old : SpeakerState) → (old.cache ≡ None → (count ≡ 0) × (new_buf ≡ buf)) → ((s : CacheSession) → old.cache ≡ Some s → IsHanded count s.ring buf new_buf) → IsFirst count (queued_for old Cache) buf new_buf
cache_takes count buf new_buf old none handed = of_cache old.cache count buf new_buf none handed

pub cache_asks : (octets : List ℕ) (old new : SpeakerState) → ((config : Config) (r : Run) → Agrees config r old → Agrees config (turn (Cache_take_call octets) [] ∷ r) new) → Makes (Cache_take_call octets ∷ []) old new
cache_asks octets old new agrees = λ config r a. (turn (Cache_take_call octets) [] ∷ [], refl, agrees config r a)
