-- Operators in turns of a served list.
use Rattle.std.proofs.Common.{◌≡◌, ◌⊎◌, ◌++◌, inl, inr, ℕ, Bool, true, false, List, [], ◌∷◌, Option, None, Some, String, Global, is_some, length, option_map, refl, sym, ap, subst, ◌∙◌}
use Rattle.std.proofs.lemmas.Bool.{false≢true}
use Rattle.control_lines.specs.declared.talk.Wish.{Wish}
use Rattle.cache_desk.specs.Desks.{AtDesk, Attends, DeskState, Hearing, StopsAt, TellsIf, Visits, nothing_asked, stopped_at}
use Rattle.cache_desk.specs.declared.reading.Reading.{Reading}
use Rattle.cache_settings.specs.declared.settings.CacheSettings.{CacheSettings}
use Rattle.cache_program.specs.AttendedTurns.{AreOperatorsOf, AttendsOnce, AttendsOperators, AttendsTurns, EndsTurns, GoesOn, HearsAt, HearsThem, IsDeskOf}
use Rattle.cache_program.specs.ServedTurns.{Moment, NobodyAsks}

-- without a path the desk is closed
pub closed_desk : {P : Type 0} (Gives : List ℕ → P → Type 0) (path : Option (String Global)) (desk : Option (DeskState P)) → IsDeskOf Gives path desk → is_some path ≡ false → desk ≡ None
closed_desk {P} Gives None desk is off = is.2 ∙ ap (λ (operators : Option P). option_map nothing_asked operators) is.1
closed_desk Gives (Some path) desk is off = absurd (false≢true (sym off))

-- where the operators come from may be said otherwise
operators_as : {P : Type 0} (Gives Given : List ℕ → P → Type 0) (path : Option (String Global)) (operators : Option P) → ((at : List ℕ) (there : P) → Gives at there → Given at there) → AreOperatorsOf Gives path operators → AreOperatorsOf Given path operators
operators_as Gives Given None operators so is = is
operators_as Gives Given (Some path) operators so is = (is.0, so _ is.0 is.1, is.2)

module _ {P : Type 0} (wish : P → ℕ → Wish) (line : P → ℕ → List ℕ) (goes : ℕ → P → P → Type 0) (hears : Hearing P) where
  -- nobody waits for anything
  pub heard_none : (now : ℕ) (old new : Option (DeskState P)) → AtDesk (Visits goes wish now false) old new → HearsAt wish line goes hears now None old new
  heard_none now None new visits = (visits, λ closed. refl)
  heard_none now (Some old) None visits = absurd visits
  heard_none now (Some old) (Some new) visits = ((false, new, visits, (refl, refl)), λ closed. refl)

  -- one does
  pub heard_all : (now : ℕ) (asked : Option Reading) (old mid new : Option (DeskState P)) → AtDesk (Visits goes wish now true) old mid → AtDesk (Attends wish line hears now asked) mid new → (mid ≡ None → asked ≡ None) → HearsAt wish line goes hears now asked old new
  heard_all now asked None None new visits attends nobody = (attends, nobody)
  heard_all now asked None (Some mid) new visits attends nobody = absurd cc
  heard_all now asked (Some old) None new visits attends nobody = absurd visits
  heard_all now asked (Some old) (Some mid) None visits attends nobody = absurd attends
  heard_all now asked (Some old) (Some mid) (Some new) visits attends nobody = ((true, mid, visits, attends), λ closed. absurd cc)

  -- one more turn behind which the program goes on
  pub goes_one_more : (moments : List Moment) (at : Moment) (old mid new : Option (DeskState P)) → GoesOn wish line goes hears moments old mid → AttendsOnce wish line goes hears at mid new → StopsAt (stopped_at new) at.now false → GoesOn wish line goes hears (moments ++ at ∷ []) old new
  goes_one_more [] at old mid new same once goes_on = (new, subst (λ (d : Option (DeskState P)). AttendsOnce wish line goes hears at d new) same once, goes_on, refl)
  goes_one_more (moment ∷ moments) at old mid new all once goes_on = (all.0, all.1, all.2, goes_one_more moments at all.0 mid new all.3 once goes_on)

  -- what a turn is to operators
  pub attends_once : (at : Moment) (old heard new : Option (DeskState P)) → HearsAt wish line goes hears at.now at.asked old heard → AtDesk (TellsIf hears at.led) heard new → AttendsOnce wish line goes hears at old new
  attends_once at old heard new hear tell = (heard, hear, tell)

  -- all turns were taken
  pub all_attended : (count : ℕ) (moments : List Moment) (old new : Option (DeskState P)) → GoesOn wish line goes hears moments old new → length moments ≡ count → AttendsTurns wish line goes hears old new count moments
  all_attended count moments old new goes_on all = record { going = moments; mid = new; goes_on = goes_on; ends = inl (refl, all, refl) }

  -- the last one has stopped them
  pub stopped_attended : (count : ℕ) (moments : List Moment) (at : Moment) (old mid new : Option (DeskState P)) → GoesOn wish line goes hears moments old mid → AttendsOnce wish line goes hears at mid new → StopsAt (stopped_at new) at.now true → AttendsTurns wish line goes hears old new count (moments ++ at ∷ [])
  stopped_attended count moments at old mid new goes_on once stops = record { going = moments; mid = mid; goes_on = goes_on; ends = inr (at, refl, once, stops) }

  -- at a closed desk
  closed_once : (at : Moment) (new : Option (DeskState P)) → AttendsOnce wish line goes hears at None new → (at.asked ≡ None) × (new ≡ None)
  closed_once at new once = (once.1.1 refl, closed_told once.0 once.1.0 once.2)
    where
      closed_told : (heard : Option (DeskState P)) → heard ≡ None → AtDesk (TellsIf hears at.led) heard new → new ≡ None
      closed_told None is told = told
      closed_told (Some heard) is told = absurd cc

  closed_all : (moments : List Moment) (new : Option (DeskState P)) → GoesOn wish line goes hears moments None new → NobodyAsks moments × (new ≡ None)
  closed_all [] new same = (tt, same)
  closed_all (at ∷ moments) new all =
      let once = closed_once at all.0 all.1 in
      let more = closed_all moments new (subst (λ (d : Option (DeskState P)). GoesOn wish line goes hears moments d new) once.1 all.3) in
      ((once.0, more.0), more.1)

  closed_stops : (desk : Option (DeskState P)) (now : ℕ) → desk ≡ None → StopsAt (stopped_at desk) now true → ⊥
  closed_stops None now is stops = absurd (false≢true (sym stops))
  closed_stops (Some desk) now is stops = absurd cc

  -- just so many turns are taken, and nobody asks
  pub all_taken : (new : Option (DeskState P)) (count : ℕ) (moments : List Moment) → AttendsTurns wish line goes hears None new count moments → (length moments ≡ count) × NobodyAsks moments
  all_taken new count moments is = by_end is.ends
    where
      so_far : NobodyAsks is.going × (is.mid ≡ None)
      so_far = closed_all is.going is.mid is.goes_on

      by_end : EndsTurns wish line goes hears count is.going moments is.mid new → (length moments ≡ count) × NobodyAsks moments
      by_end (inl all) = (all.1, subst NobodyAsks (sym all.0) so_far.0)
      by_end (inr stopped) =
          absurd (closed_stops new stopped.0.now (closed_once stopped.0 new (subst (λ (d : Option (DeskState P)). AttendsOnce wish line goes hears stopped.0 d new) so_far.1 stopped.2)).1 stopped.3)

  -- turns of a desk are those of the settings' desk
  pub attends_operators : (Gives : List ℕ → P → Type 0) (settings : CacheSettings) (desk left : Option (DeskState P)) → IsDeskOf Gives settings.control desk → (count : ℕ) (moments : List Moment) → AttendsTurns wish line goes hears desk left count moments → AttendsOperators wish line goes hears Gives settings count moments
  attends_operators Gives settings desk left opened count moments takes = record { desk = desk; left = left; opened = opened; takes = takes }

  pub attends_as : (Gives Given : List ℕ → P → Type 0) (settings : CacheSettings) (count : ℕ) (moments : List Moment) → ((at : List ℕ) (there : P) → Gives at there → Given at there) → AttendsOperators wish line goes hears Gives settings count moments → AttendsOperators wish line goes hears Given settings count moments
  attends_as Gives Given settings count moments so is = record {
    desk = is.desk;
    left = is.left;
    opened = (is.opened.0, operators_as Gives Given settings.control is.opened.0 so is.opened.1, is.opened.2);
    takes = is.takes;
  }
