-- What calls of one client carry, and that they carry nothing of another.
use Rattle.std.proofs.Common.{◌≡◌, ◌≢◌, ◌==◌, ℕ, List, [], ◌∷◌, ◌++◌, refl, sym, ap, ◌∙◌, append_assoc, append-nil, Ok, Err, take}
use Rattle.std.proofs.lemmas.Bool.{ne_eqb}
use Rattle.rtr_cache.specs.CacheState.{CacheState}
use Rattle.rtr_cache.specs.ClientHistory.{Call, CameUp, Heard, Loaded, StaysUp, Ticked, Took, Turn, WentDown, Withdrew, handed_by, handed_out}
use Rattle.cache_turns.specs.Carrying.{heard, heard_by}
use Rattle.wires.proofs.Sockets.{both_none, passed_over}

-- a call that is of one client, or of none
abbrev pub IsOf : ℕ → Call → Type 0
IsOf key (Loaded set result) = Unit {0}
IsOf key (Withdrew result) = Unit {0}
IsOf key (CameUp result) = Unit {0}
IsOf key (Heard heard octets result) = heard ≡ key
IsOf key (WentDown lost result) = lost ≡ key
IsOf key (Ticked now result) = Unit {0}
IsOf key (Took taken buf result handed) = taken ≡ key

abbrev pub AreOf : ℕ → List Turn → Type 0
AreOf key [] = Unit {0}
AreOf key (turn ∷ earlier) = IsOf key turn.call × AreOf key earlier

-- calls that carry nothing of a client, and don't lose it
pub record Silent (key : ℕ) (history : List Turn) : Type 0 where
  pub hears : heard key history ≡ []
  pub hands : handed_out key history ≡ []
  pub up : StaysUp key history

silent_call : (key other : ℕ) (call : Call) (found : CacheState) → IsOf key call → other ≢ key → Silent other (record { found = found; call = call } ∷ [])
silent_call key other (Loaded set result) found is differs = record { hears = refl; hands = refl; up = (tt, tt) }
silent_call key other (Withdrew result) found is differs = record { hears = refl; hands = refl; up = (tt, tt) }
silent_call key other (CameUp result) found is differs = record { hears = refl; hands = refl; up = (tt, tt) }
silent_call key other (Heard k octets result) found is differs =
    record { hears = passed_over (k == other) octets [] (ne_eqb k other (λ same. differs (sym same ∙ is))); hands = refl; up = (tt, tt) }
silent_call key other (WentDown k result) found is differs =
    record { hears = refl; hands = refl; up = ((λ same. differs (sym same ∙ is)), tt) }
silent_call key other (Ticked now result) found is differs = record { hears = refl; hands = refl; up = (tt, tt) }
silent_call key other (Took k buf (Ok count) handed) found is differs =
    record { hears = refl; hands = passed_over (k == other) (take count handed) [] (ne_eqb k other (λ same. differs (sym same ∙ is))); up = (tt, tt) }
silent_call key other (Took k buf (Err why) handed) found is differs = record { hears = refl; hands = refl; up = (tt, tt) }

pub silent : (key other : ℕ) (history : List Turn) → AreOf key history → other ≢ key → Silent other history
silent key other [] are differs = record { hears = refl; hands = refl; up = tt }
silent key other (turn ∷ earlier) are differs =
    let before = silent key other earlier are.1 differs in
    let now = silent_call key other turn.call turn.found are.0 differs in
    record {
      hears = both_none (heard other earlier) (heard_by other turn.call) before.hears now.hears;
      hands = both_none (handed_out other earlier) (handed_by other turn.call) before.hands now.hands;
      up = (now.up.0, before.up);
    }

-- one run behind another
pub heard-on : (key : ℕ) (before after : List Turn) → heard key (after ++ before) ≡ heard key before ++ heard key after
heard-on key before [] = sym (append-nil (heard key before))
heard-on key before (turn ∷ earlier) =
    ap (λ (l : List ℕ). l ++ heard_by key turn.call) (heard-on key before earlier) ∙ append_assoc (heard key before) (heard key earlier) (heard_by key turn.call)

pub handed-on : (key : ℕ) (before after : List Turn) → handed_out key (after ++ before) ≡ handed_out key before ++ handed_out key after
handed-on key before [] = sym (append-nil (handed_out key before))
handed-on key before (turn ∷ earlier) =
    ap (λ (l : List ℕ). l ++ handed_by key turn.call) (handed-on key before earlier) ∙ append_assoc (handed_out key before) (handed_out key earlier) (handed_by key turn.call)

pub up-on : (key : ℕ) (before after : List Turn) → StaysUp key before → StaysUp key after → StaysUp key (after ++ before)
up-on key before [] first second = first
up-on key before (turn ∷ earlier) first second = (second.0, up-on key before earlier first second.1)

pub are-on : (key : ℕ) (before after : List Turn) → AreOf key before → AreOf key after → AreOf key (after ++ before)
are-on key before [] first second = first
are-on key before (turn ∷ earlier) first second = (second.0, are-on key before earlier first second.1)
