-- What operators' lines ask for (own).
use Rattle.std.specs.Prelude.{◌≡◌, ◌≢◌, ◌==◌, ◌⊎◌, ◌++◌, ◌∷◌, [], ℕ, Bool, true, false, not, is_some, List, Option, None, Some, codes}
use Rattle.cache_watch.specs.Outcomes.{count_refused}
use Rattle.cache_watch.specs.declared.reread.Reread.{Reread as Led}
use Rattle.cache_watch.specs.declared.reread.Reread.TheVariants.{Refused, Same, Unchanged, Published}
use Rattle.cache_desk.specs.declared.line.Line.{Line}
use Rattle.cache_desk.specs.declared.line.Line.TheVariants.{Show, Read, Stop, Bad}
use Rattle.cache_desk.specs.declared.reading.Reading.{Reading}
use Rattle.cache_desk.specs.declared.reading.Reading.TheVariants.{Reread, Accept}

-- the word that asks for a reading
abbrev pub word_for : Reading → List ℕ
word_for Reread = codes "reread"
word_for Accept = codes "accept"

-- the text is no word for which more is done than that it is answered
abbrev pub IsNoWord : List ℕ → Type 0
IsNoWord text = (text ≢ codes "reread") × (text ≢ codes "accept") × (text ≢ codes "stop")

-- a reading is asked for, or the end of the program, just by its word
abbrev pub AsksAsItSays : List ℕ → Line → Type 0
AsksAsItSays text (Show shown) = IsNoWord text
AsksAsItSays text (Read reading) = text ≡ word_for reading
AsksAsItSays text Stop = text ≡ codes "stop"
AsksAsItSays text Bad = IsNoWord text

-- the text of a line, of which a carriage return at the end is no part
abbrev pub IsTextOf : List ℕ → List ℕ → Type 0
IsTextOf line text =
    (line ≡ text ++ 13 ∷ [])
    ⊎ ((line ≡ text) × ((front : List ℕ) → line ≢ front ++ 13 ∷ []))

-- whether a reading is asked for: where none was in this second, or as the one that is asked for already
abbrev pub may_ask : Option Reading → Reading → Option ℕ → ℕ → Bool
may_ask None reading None now = true
may_ask None reading (Some asked) now = not (asked == now)
may_ask (Some Reread) Reread asked now = true
may_ask (Some Reread) Accept asked now = false
may_ask (Some Accept) reading asked now = false

-- the list was refused when it was read last, and is one that may be accepted
abbrev pub is_refused : Option Led → Bool
is_refused None = false
is_refused (Some (Refused why)) = is_some (count_refused why)
is_refused (Some Same) = false
is_refused (Some Unchanged) = false
is_refused (Some (Published serial)) = false

-- the guards may be set aside where they refused the list when it was read last
abbrev pub has_sense : Reading → Option Led → Bool
has_sense Reread last = true
has_sense Accept last = is_refused last
