-- What settings tell of timers.
use Rattle.std.proofs.Common.{◌≡◌, ◌<◌, ◌++◌, ℕ, zero, suc, List, [], ◌∷◌, Option, None, Some, length, get_or, refl, sym, subst, ◌∙◌, arith, codes}
use Rattle.std.proofs.lemmas.Option.{same_Some}
use Rattle.bgp_fsm.specs.TimerMoments.{usual}
use Rattle.bgp_fsm.specs.declared.timers.PeerTimers.{PeerTimers}
use Rattle.toml.specs.Data.{Data, Members, as_table, get_member}
use Rattle.toml.specs.View.{items_view, view}
use Rattle.toml.specs.declared.value.Value.{Value}
use Rattle.settings_keys.proofs.Faults.{TellsNothing}
use Rattle.settings_keys.specs.Keys.{IsNumber, IsTold, IsToldIfThere, IsToldOrUsual}
use Rattle.speaker_settings.specs.ToldSettings.{AreTimers, IsShortSeconds, IsSlot, IsSlotTimers}

-- no number is no seconds
pub no_short : (seconds : ℕ) (o : Option Data) → TellsNothing (IsToldIfThere IsNumber o) → TellsNothing (IsToldOrUsual IsShortSeconds seconds o)
no_short seconds None none value told = none None refl
no_short seconds (Some found) none value told = none (Some value) told.0

pub no_slot_of_timers : (found : Data) (table : Members) → Some table ≡ as_table found → TellsNothing (IsTold IsSlot (get_member (codes "slot") table)) → TellsNothing (IsSlotTimers found)
no_slot_of_timers found table is none timers told =
    none timers.0 (subst (λ (t : Members). IsTold IsSlot (get_member (codes "slot") t) timers.0) (same_Some _ _ (sym told.1 ∙ sym is)) told.2)

pub no_retry_of_timers : (found : Data) (table : Members) → Some table ≡ as_table found → TellsNothing (IsToldOrUsual IsShortSeconds usual.connect_retry (get_member (codes "connect_retry") table)) → TellsNothing (IsSlotTimers found)
no_retry_of_timers found table is none timers told =
    none timers.1.connect_retry (subst (λ (t : Members). IsToldOrUsual IsShortSeconds usual.connect_retry (get_member (codes "connect_retry") t) timers.1.connect_retry) (same_Some _ _ (sym told.1 ∙ sym is)) told.3)

pub no_hold_of_timers : (found : Data) (table : Members) → Some table ≡ as_table found → TellsNothing (IsToldOrUsual IsShortSeconds usual.idle_hold (get_member (codes "idle_hold") table)) → TellsNothing (IsSlotTimers found)
no_hold_of_timers found table is none timers told =
    none timers.1.idle_hold (subst (λ (t : Members). IsToldOrUsual IsShortSeconds usual.idle_hold (get_member (codes "idle_hold") t) timers.1.idle_hold) (same_Some _ _ (sym told.1 ∙ sym is)) told.4)

-- one more table
pub are_timers-push : (vs : List Value) (ts : List (ℕ × PeerTimers)) (v : Value) (t : ℕ × PeerTimers) → AreTimers (items_view vs) ts → IsSlotTimers (view v) t → AreTimers (items_view (vs ++ v ∷ [])) (ts ++ t ∷ [])
are_timers-push [] [] v t are is = (is, tt)
are_timers-push [] (u ∷ ts) v t are is = absurd are
are_timers-push (w ∷ vs) [] v t are is = absurd are
are_timers-push (w ∷ vs) (u ∷ ts) v t are is = (are.0, are_timers-push vs ts v t are.1 is)

-- a value that tells none leaves none
pub no_timers : (vs : List Value) (k : ℕ) (d : Value) → k < length vs → TellsNothing (IsSlotTimers (view (get_or vs k d))) → TellsNothing (AreTimers (items_view vs))
no_timers [] k d within none ts are = absurd (omega arith)
no_timers (w ∷ vs) k d within none [] are = are
no_timers (w ∷ vs) zero d within none (u ∷ ts) are = none u are.0
no_timers (w ∷ vs) (suc k) d within none (u ∷ ts) are = no_timers vs k d (omega arith) none ts are.1
