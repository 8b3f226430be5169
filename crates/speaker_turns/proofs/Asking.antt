-- Calls of the speaker, one behind another, and what they carry for the session of a place.
use Rattle.std.proofs.Common.{◌≡◌, ◌≢◌, ◌==◌, ◌<◌, ◌++◌, ℕ, Bool, true, false, nat_lt, if◌then◌else◌, List, [], ◌∷◌, refl, sym, ap, ◌∙◌, subst, append_assoc, append-nil, arith}
use Rattle.std.proofs.lemmas.Bool.{eq-eqb, ne_eqb}
use Rattle.runs.specs.Agreement.{Agrees}
use Rattle.runs.specs.Runs.{Call, Run, asked, Up_call, Fail_call, Bytes_call, Starved_call, Tick_call, Command_call, Take_call, Cache_up_call, Cache_fail_call, Cache_bytes_call, Cache_starved_call, Cache_take_call}
use Rattle.runs.specs.SpeakerState.{SpeakerState}
use Rattle.wires.proofs.Sockets.{both_none, chosen, passed_over}
use Rattle.speaker_turns.specs.Carrying.{StaysUp, handed, handed_by, heard, heard_by}
use Rattle.speaker_turns.specs.Ends.{end_at}
use Rattle.speaker_turns.specs.Sessions.{Asks, Makes, asked_in, bytes_call, fail_call, take_call, up_call}
use Rattle.speaker_turns.specs.declared.end.End.{End}
use Rattle.speaker_turns.specs.declared.end.End.TheVariants.{Peer, Cache}

asked_in-on : (later earlier : Run) → asked_in (later ++ earlier) ≡ asked_in later ++ asked_in earlier
asked_in-on [] earlier = refl
asked_in-on (turn ∷ later) earlier = ap (λ (calls : List Call). asked turn.call ∷ calls) (asked_in-on later earlier)

-- no call
pub makes_none : (old new : SpeakerState) → new ≡ old → Makes [] old new
makes_none old new same = λ config r agrees. ([], refl, subst (λ (s : SpeakerState). Agrees config r s) (sym same) agrees)

-- calls behind calls
pub makes_on : (first second : List Call) (old mid new : SpeakerState) → Makes first old mid → Makes second mid new → Makes (second ++ first) old new
makes_on first second old mid new one other = λ config r agrees.
    let a = one config r agrees in
    let b = other config (a.0 ++ r) a.2 in
    (b.0 ++ a.0, asked_in-on b.0 a.0 ∙ (ap (λ (calls : List Call). calls ++ asked_in a.0) b.1 ∙ ap (λ (calls : List Call). second ++ calls) a.1), subst (λ (run : Run). Agrees config run new) (sym (append_assoc b.0 a.0 r)) b.2)

-- a call that is made or refused
abbrev pub if_made : Bool → Call → List Call
if_made true call = call ∷ []
if_made false call = []

pub asks_makes : (call : Call) (accepted : Bool) (old new : SpeakerState) → Asks call accepted old new → Makes (if_made accepted call) old new
asks_makes call true old new makes = makes
asks_makes call false old new same = makes_none old new same

-- a call that is for the session of a place, or for none
abbrev pub IsOf : ℕ → Call → Type 0
IsOf key (Up_call slot) = slot ≡ key
IsOf key (Fail_call slot) = slot ≡ key
IsOf key (Bytes_call slot octets) = slot ≡ key
IsOf key (Starved_call slot before octet behind) = Unit {0}
IsOf key (Tick_call now) = Unit {0}
IsOf key (Command_call command) = Unit {0}
IsOf key (Take_call slot octets) = slot ≡ key
IsOf key Cache_up_call = 64 ≡ key
IsOf key Cache_fail_call = 64 ≡ key
IsOf key (Cache_bytes_call octets) = 64 ≡ key
IsOf key (Cache_starved_call before octet behind) = Unit {0}
IsOf key (Cache_take_call octets) = 64 ≡ key

abbrev pub AreOf : ℕ → List Call → Type 0
AreOf key [] = Unit {0}
AreOf key (call ∷ earlier) = IsOf key call × AreOf key earlier

-- calls that carry nothing for a session, and leave its connection
pub record Silent (key : ℕ) (calls : List Call) : Type 0 where
  pub hears : heard key calls ≡ []
  pub hands : handed key calls ≡ []
  pub up : StaysUp key calls

silent_call : (key other : ℕ) (call : Call) → IsOf key call → other ≢ key → Silent other (call ∷ [])
silent_call key other (Up_call slot) is differs = record { hears = refl; hands = refl; up = ((λ same. differs (sym same ∙ is)), tt) }
silent_call key other (Fail_call slot) is differs = record { hears = refl; hands = refl; up = ((λ same. differs (sym same ∙ is)), tt) }
silent_call key other (Bytes_call slot octets) is differs =
    record { hears = passed_over (slot == other) octets [] (ne_eqb slot other (λ same. differs (sym same ∙ is))); hands = refl; up = (tt, tt) }
silent_call key other (Starved_call slot before octet behind) is differs = record { hears = refl; hands = refl; up = (tt, tt) }
silent_call key other (Tick_call now) is differs = record { hears = refl; hands = refl; up = (tt, tt) }
silent_call key other (Command_call command) is differs = record { hears = refl; hands = refl; up = (tt, tt) }
silent_call key other (Take_call slot octets) is differs =
    record { hears = refl; hands = passed_over (slot == other) octets [] (ne_eqb slot other (λ same. differs (sym same ∙ is))); up = (tt, tt) }
silent_call key other Cache_up_call is differs = record { hears = refl; hands = refl; up = ((λ same. differs (sym same ∙ is)), tt) }
silent_call key other Cache_fail_call is differs = record { hears = refl; hands = refl; up = ((λ same. differs (sym same ∙ is)), tt) }
silent_call key other (Cache_bytes_call octets) is differs =
    record { hears = passed_over (64 == other) octets [] (ne_eqb 64 other (λ same. differs (sym same ∙ is))); hands = refl; up = (tt, tt) }
silent_call key other (Cache_starved_call before octet behind) is differs = record { hears = refl; hands = refl; up = (tt, tt) }
silent_call key other (Cache_take_call octets) is differs =
    record { hears = refl; hands = passed_over (64 == other) octets [] (ne_eqb 64 other (λ same. differs (sym same ∙ is))); up = (tt, tt) }

pub silent : (key other : ℕ) (calls : List Call) → AreOf key calls → other ≢ key → Silent other calls
silent key other [] are differs = record { hears = refl; hands = refl; up = tt }
silent key other (call ∷ earlier) are differs =
    let before = silent key other earlier are.1 differs in
    let now = silent_call key other call are.0 differs in
    record {
      hears = both_none (heard other earlier) (heard_by other call) before.hears now.hears;
      hands = both_none (handed other earlier) (handed_by other call) before.hands now.hands;
      up = (now.up.0, before.up);
    }

-- of calls one behind another
pub heard-on : (key : ℕ) (before after : List Call) → heard key (after ++ before) ≡ heard key before ++ heard key after
heard-on key before [] = sym (append-nil (heard key before))
heard-on key before (call ∷ earlier) =
    ap (λ (l : List ℕ). l ++ heard_by key call) (heard-on key before earlier) ∙ append_assoc (heard key before) (heard key earlier) (heard_by key call)

pub handed-on : (key : ℕ) (before after : List Call) → handed key (after ++ before) ≡ handed key before ++ handed key after
handed-on key before [] = sym (append-nil (handed key before))
handed-on key before (call ∷ earlier) =
    ap (λ (l : List ℕ). l ++ handed_by key call) (handed-on key before earlier) ∙ append_assoc (handed key before) (handed key earlier) (handed_by key call)

pub up-on : (key : ℕ) (before after : List Call) → StaysUp key before → StaysUp key after → StaysUp key (after ++ before)
up-on key before [] first second = first
up-on key before (call ∷ earlier) first second = (second.0, up-on key before earlier first second.1)

pub are-on : (key : ℕ) (before after : List Call) → AreOf key before → AreOf key after → AreOf key (after ++ before)
are-on key before [] first second = first
are-on key before (call ∷ earlier) first second = (second.0, are-on key before earlier first second.1)

-- the calls for the session of a place are for it
is_cache : (key : ℕ) → key < 65 → nat_lt key 64 ≡ false → 64 ≡ key
is_cache key few not_slot = grind (arith, few, not_slot)

by_end : (key : ℕ) (call : End → Call) → key < 65 → ((slot : ℕ) → IsOf slot (call (Peer slot))) → IsOf 64 (call Cache) → IsOf key (call (end_at key))
by_end key call few slots cache = by_test (nat_lt key 64) refl
  where
    by_test : (test : Bool) → nat_lt key 64 ≡ test → IsOf key (call (if test then Peer key else Cache))
    by_test true is = slots key
    by_test false is = subst (λ (k : ℕ). IsOf k (call Cache)) (is_cache key few is) cache

pub of_up : (key : ℕ) → key < 65 → IsOf key (up_call (end_at key))
of_up key few = by_end key up_call few (λ slot. refl) refl

pub of_fail : (key : ℕ) → key < 65 → IsOf key (fail_call (end_at key))
of_fail key few = by_end key fail_call few (λ slot. refl) refl

pub of_bytes : (key : ℕ) (octets : List ℕ) → key < 65 → IsOf key (bytes_call (end_at key) octets)
of_bytes key octets few = by_end key (λ end. bytes_call end octets) few (λ slot. refl) refl

pub of_take : (key : ℕ) (octets : List ℕ) → key < 65 → IsOf key (take_call (end_at key) octets)
of_take key octets few = by_end key (λ end. take_call end octets) few (λ slot. refl) refl

-- what they carry
own_octets : (slot key : ℕ) (octets : List ℕ) → slot ≡ key → (if slot == key then octets else []) ≡ octets
own_octets slot key octets same = chosen (slot == key) octets [] (eq-eqb slot key same)

heard_bytes : (key : ℕ) (end : End) (octets : List ℕ) → IsOf key (bytes_call end octets) → heard_by key (bytes_call end octets) ≡ octets
heard_bytes key (Peer slot) octets is = own_octets slot key octets is
heard_bytes key Cache octets is = own_octets 64 key octets is

pub hears_bytes : (key : ℕ) (octets : List ℕ) → key < 65 → heard key (bytes_call (end_at key) octets ∷ []) ≡ octets
hears_bytes key octets few = heard_bytes key (end_at key) octets (of_bytes key octets few)

handed_take : (key : ℕ) (end : End) (octets : List ℕ) → IsOf key (take_call end octets) → handed_by key (take_call end octets) ≡ octets
handed_take key (Peer slot) octets is = own_octets slot key octets is
handed_take key Cache octets is = own_octets 64 key octets is

pub hands_take : (key : ℕ) (octets : List ℕ) → key < 65 → handed key (take_call (end_at key) octets ∷ []) ≡ octets
hands_take key octets few = handed_take key (end_at key) octets (of_take key octets few)

-- and what they don't
pub bytes_hand_nothing : (key : ℕ) (end : End) (octets : List ℕ) → handed key (bytes_call end octets ∷ []) ≡ []
bytes_hand_nothing key (Peer slot) octets = refl
bytes_hand_nothing key Cache octets = refl

pub bytes_leave : (key : ℕ) (end : End) (octets : List ℕ) → StaysUp key (bytes_call end octets ∷ [])
bytes_leave key (Peer slot) octets = (tt, tt)
bytes_leave key Cache octets = (tt, tt)

pub take_hears_nothing : (key : ℕ) (end : End) (octets : List ℕ) → heard key (take_call end octets ∷ []) ≡ []
take_hears_nothing key (Peer slot) octets = refl
take_hears_nothing key Cache octets = refl

pub take_leaves : (key : ℕ) (end : End) (octets : List ℕ) → StaysUp key (take_call end octets ∷ [])
take_leaves key (Peer slot) octets = (tt, tt)
take_leaves key Cache octets = (tt, tt)

-- a call that is made or refused is for its session
pub are_made : (accepted : Bool) (key : ℕ) (call : Call) → IsOf key call → AreOf key (if_made accepted call)
are_made true key call is = (is, tt)
are_made false key call is = tt
