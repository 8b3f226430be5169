-- What ends turns early.
use Rattle.std.proofs.Common.{◌≡◌, ◌⊎◌, ◌++◌, inl, inr, ℕ, Bool, true, false, List, [], ◌∷◌, Option, None, Some, length, sym, ap, subst, ◌∙◌}
use Rattle.std.proofs.lemmas.Bool.{false≢true}
use Rattle.control_lines.specs.declared.talk.Wish.{Wish}
use Rattle.cache_desk.proofs.Stopping.{stops_by_word}
use Rattle.cache_desk.specs.Desks.{AtDesk, DeskState, Hearing, IsToldToStop, StopsAt, TellsIf, stopped_at}
use Rattle.cache_desk.specs.declared.reading.Reading.{Reading}
use Rattle.cache_program.specs.AttendedTurns.{AttendsIf, AttendsOnce, AttendsTurns, EndsTurns, GoesOn, HearsThem}
use Rattle.cache_program.specs.ServedTurns.{Moment}
use Rattle.cache_watch.specs.declared.reread.Reread.{Reread}

module _ {P : Type 0} (wish : P → ℕ → Wish) (line : P → ℕ → List ℕ) (goes : ℕ → P → P → Type 0) (hears : Hearing P) where
  -- the desk has stopped as it had, or was told to
  abbrev IsStoppedOnly : Option ℕ → Option ℕ → Type 0
  IsStoppedOnly old new = (new ≡ old) ⊎ IsToldToStop wish line

  both : (old mid new : Option ℕ) → IsStoppedOnly old mid → IsStoppedOnly mid new → IsStoppedOnly old new
  both old mid new before (inr told) = inr told
  both old mid new (inl same) (inl stays) = inl (stays ∙ same)
  both old mid new (inr told) (inl stays) = inr told

  attended : (waits : Bool) (now : ℕ) (asked : Option Reading) (old new : DeskState P) → AttendsIf wish line goes hears waits now asked old new → IsStoppedOnly old.stopped new.stopped
  attended false now asked old new same = inl (ap (λ s. s.stopped) same.1)
  attended true now asked old new attends = said (stops_by_word wish line hears now asked old new attends)
    where
      said : (new.stopped ≡ old.stopped) ⊎ ((new.stopped ≡ Some now) × IsToldToStop wish line) → IsStoppedOnly old.stopped new.stopped
      said (inl same) = inl same
      said (inr told) = inr told.1

  heard : (now : ℕ) (asked : Option Reading) (old new : Option (DeskState P)) → AtDesk (HearsThem wish line goes hears now asked) old new → IsStoppedOnly (stopped_at old) (stopped_at new)
  heard now asked None new same = inl (ap stopped_at same)
  heard now asked (Some old) None never = absurd never
  heard now asked (Some old) (Some new) is =
      both old.stopped (is.1).stopped new.stopped (inl (ap (λ s. s.stopped) (is.2).same)) (attended is.0 now asked is.1 new is.3)

  told : (led : Option Reread) (old new : DeskState P) → TellsIf hears led old new → new.stopped ≡ old.stopped
  told None old new same = ap (λ s. s.stopped) same
  told (Some led) old new tells = ap (λ s. s.stopped) tells.noted

  told_at : (led : Option Reread) (old new : Option (DeskState P)) → AtDesk (TellsIf hears led) old new → stopped_at new ≡ stopped_at old
  told_at led None new same = ap stopped_at same
  told_at led (Some old) None never = absurd never
  told_at led (Some old) (Some new) tells = told led old new tells

  once : (at : Moment) (old new : Option (DeskState P)) → AttendsOnce wish line goes hears at old new → IsStoppedOnly (stopped_at old) (stopped_at new)
  once at old new is = both (stopped_at old) (stopped_at is.0) (stopped_at new) (heard at.now at.asked old is.0 is.1.0) (inl (told_at at.led is.0 new is.2))

  going : (moments : List Moment) (old new : Option (DeskState P)) → GoesOn wish line goes hears moments old new → IsStoppedOnly (stopped_at old) (stopped_at new)
  going [] old new same = inl (ap stopped_at same)
  going (at ∷ moments) old new all = both (stopped_at old) (stopped_at all.0) (stopped_at new) (once at old all.0 all.1) (going moments all.0 new all.3)

  -- fewer turns are taken only where an operator says so
  pub ends_by_word : (old new : Option (DeskState P)) (count : ℕ) (moments : List Moment) → stopped_at old ≡ None → AttendsTurns wish line goes hears old new count moments → (length moments ≡ count) ⊎ IsToldToStop wish line
  ends_by_word old new count moments none is = by_end is.ends
    where
      stopped : (new : Option (DeskState P)) (now : ℕ) → IsStoppedOnly (stopped_at old) (stopped_at new) → StopsAt (stopped_at new) now true → IsToldToStop wish line
      stopped new now (inr told) stops = told
      stopped new now (inl same) stops = absurd (false≢true (sym (subst (λ (s : Option ℕ). StopsAt s now true) (same ∙ none) stops)))

      by_end : EndsTurns wish line goes hears count is.going moments is.mid new → (length moments ≡ count) ⊎ IsToldToStop wish line
      by_end (inl all) = inl all.1
      by_end (inr last) = inr (stopped new last.0.now (both (stopped_at old) (stopped_at is.mid) (stopped_at new) (going is.going old is.mid is.goes_on) (once last.0 is.mid new last.2)) last.3)
