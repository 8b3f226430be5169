-- What stops a desk.
use Rattle.std.proofs.Common.{◌≡◌, ◌⊎◌, inl, inr, ℕ, zero, suc, Bool, true, false, List, Option, Some, codes, refl, ap, subst, ◌∙◌}
use Rattle.control_lines.specs.declared.talk.Wish.{Wish}
use Rattle.control_lines.specs.declared.talk.Wish.TheVariants.{Nothing, Answer, More}
use Rattle.cache_desk.specs.Desks.{AnswersLine, AsksIf, Attends, AttendsBelow, AttendsBy, DeskState, Hearing, IsAnswered, IsAnsweredWholly, IsToldToStop, LeadsTo, NotesIf}
use Rattle.cache_desk.specs.Readings.{AsksAsItSays, IsTextOf, has_sense, may_ask}
use Rattle.cache_desk.specs.declared.line.Line.{Line}
use Rattle.cache_desk.specs.declared.line.Line.TheVariants.{Show, Read, Stop, Bad}
use Rattle.cache_desk.specs.declared.reading.Reading.{Reading}

-- it is stopped at this moment, where this is so, or as it was
abbrev StopsIf : {P : Type 0} → Type 0 → ℕ → DeskState P → DeskState P → Type 0
StopsIf Told now old new = (new.stopped ≡ old.stopped) ⊎ ((new.stopped ≡ Some now) × Told)

whole : {P : Type 0} (Hears : Hearing P) (key : ℕ) (old new : DeskState P) → IsAnsweredWholly Hears key old new → new.stopped ≡ old.stopped
whole Hears key old new is = ap (λ s. s.stopped) is.2

piece : {P : Type 0} (Hears : Hearing P) (key : ℕ) (old new : DeskState P) → IsAnswered Hears key old new → new.stopped ≡ old.stopped
piece Hears key old new is = ap (λ s. s.stopped) is.3

noted : {P : Type 0} (may : Bool) (key : ℕ) (reading : Reading) (old new : DeskState P) → NotesIf may key reading old new → new.stopped ≡ old.stopped
noted true key reading old new is = ap (λ s. s.stopped) is
noted false key reading old new is = ap (λ s. s.stopped) is

asked : {P : Type 0} (Hears : Hearing P) (sense : Bool) (now key : ℕ) (reading : Reading) (old new : DeskState P) → AsksIf Hears sense now key reading old new → new.stopped ≡ old.stopped
asked Hears true now key reading old new is = noted (may_ask old.asking reading old.asked now) key reading old new is
asked Hears false now key reading old new is = whole Hears key old new is

by_line : {P : Type 0} (Hears : Hearing P) (now key : ℕ) (text : List ℕ) (line : Line) (old new : DeskState P) → AsksAsItSays text line → LeadsTo Hears now key line old new → StopsIf (text ≡ codes "stop") now old new
by_line Hears now key text (Show shown) old new asks is = inl (piece Hears key old new is)
by_line Hears now key text (Read reading) old new asks is = inl (asked Hears (has_sense reading old.last) now key reading old new is)
by_line Hears now key text Stop old new asks is = inr (whole Hears key (record old { stopped = Some now }) new is, asks)
by_line Hears now key text Bad old new asks is = inl (whole Hears key old new is)

by_text : {P : Type 0} (Hears : Hearing P) (now key : ℕ) (octets : List ℕ) (old new : DeskState P) → AnswersLine Hears now key octets old new → StopsIf (IsTextOf octets (codes "stop")) now old new
by_text Hears now key octets old new answers = said (by_line Hears now key answers.0 answers.2.0 old new answers.2.1 answers.2.2)
  where
    said : StopsIf (answers.0 ≡ codes "stop") now old new → StopsIf (IsTextOf octets (codes "stop")) now old new
    said (inl same) = inl same
    said (inr (stops, word)) = inr (stops, subst (λ (text : List ℕ). IsTextOf octets text) word answers.1)

by_wish : {P : Type 0} (Hears : Hearing P) (wish : Wish) (octets : List ℕ) (now key : ℕ) (old new : DeskState P) → AttendsBy Hears wish octets now key old new → StopsIf ((wish ≡ Answer) × IsTextOf octets (codes "stop")) now old new
by_wish Hears Nothing octets now key old new is = inl (ap (λ s. s.stopped) is)
by_wish Hears More octets now key old new is = inl (piece Hears key old new is)
by_wish Hears Answer octets now key old new is = said (by_text Hears now key octets old new is)
  where
    said : StopsIf (IsTextOf octets (codes "stop")) now old new → StopsIf ((Answer ≡ Answer) × IsTextOf octets (codes "stop")) now old new
    said (inl same) = inl same
    said (inr (stops, word)) = inr (stops, (refl, word))

module _ {P : Type 0} (wish : P → ℕ → Wish) (line : P → ℕ → List ℕ) (Hears : Hearing P) (now : ℕ) where
  below : (keys : ℕ) (old new : DeskState P) → AttendsBelow wish line Hears now keys old new → StopsIf (IsToldToStop wish line) now old new
  below zero old new same = inl (ap (λ s. s.stopped) same)
  below (suc key) old new all = both (below key old all.0 all.1) (by_wish Hears (wish (all.0).operators key) (line (all.0).operators key) now key all.0 new all.2)
    where
      both : StopsIf (IsToldToStop wish line) now old all.0 → StopsIf ((wish (all.0).operators key ≡ Answer) × IsTextOf (line (all.0).operators key) (codes "stop")) now all.0 new → StopsIf (IsToldToStop wish line) now old new
      both before (inr (stops, told)) = inr (stops, ((all.0).operators, key, told.0, told.1))
      both (inl same) (inl stays) = inl (stays ∙ same)
      both (inr (stops, told)) (inl stays) = inr (stays ∙ stops, told)

  pub stops_by_word : (reading : Option Reading) (old new : DeskState P) → Attends wish line Hears now reading old new → (new.stopped ≡ old.stopped) ⊎ ((new.stopped ≡ Some now) × IsToldToStop wish line)
  stops_by_word reading old new attends = said (below 16 old attends.between attends.attends)
    where
      said : StopsIf (IsToldToStop wish line) now old attends.between → StopsIf (IsToldToStop wish line) now old new
      said (inl same) = inl (ap (λ s. s.stopped) attends.noted ∙ same)
      said (inr (stops, told)) = inr (ap (λ s. s.stopped) attends.noted ∙ stops, told)
