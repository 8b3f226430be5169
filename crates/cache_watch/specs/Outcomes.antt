-- What reading the list again has led to, as it is counted.
use Rattle.std.specs.Prelude.{ℕ, Option, None, Some}
use Rattle.cache_figures.specs.declared.figures.Outcome.{Outcome}
use Rattle.cache_figures.specs.declared.figures.Outcome.TheVariants.{Taken, Same as IsSame, Unchanged as IsUnchanged, Refused as IsRefused}
use Rattle.list_guards.specs.Guarding.{payloads_of}
use Rattle.cache_watch.specs.declared.reread.ListFault.{ListFault}
use Rattle.cache_watch.specs.declared.reread.ListFault.TheVariants.{NoFile, Source, Guard, Old, Other, NoMemory}
use Rattle.cache_watch.specs.declared.reread.Reread.{Reread}
use Rattle.cache_watch.specs.declared.reread.Reread.TheVariants.{Refused, Same, Unchanged, Published}

abbrev pub outcome_of : Reread → Outcome
outcome_of (Refused why) = IsRefused
outcome_of Same = IsSame
outcome_of Unchanged = IsUnchanged
outcome_of (Published serial) = Taken

abbrev pub counted_as : Option Reread → Option Outcome
counted_as None = None
counted_as (Some led) = Some (outcome_of led)

-- how many payloads a list has that is refused, where an operator may accept it
abbrev pub count_refused : ListFault → Option ℕ
count_refused (NoFile file) = None
count_refused (Source why) = None
count_refused (Guard why) = Some (payloads_of why)
count_refused (Old payloads seconds most) = Some payloads
count_refused (Other payloads refused) = Some payloads
count_refused NoMemory = None
