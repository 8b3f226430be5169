-- The list with which a cache begins (own).
use Rattle.std.specs.Prelude.{◌≡◌, ℕ, List, [], Option, Some, None, Result, Ok}
use Rattle.list_guards.specs.Guarding.{guard_fault}
use Rattle.list_guards.specs.declared.Guards.{Guards}
use Rattle.net_prefix.specs.declared.payload.Vrp.{Vrp}
use Rattle.payload_sources.specs.PayloadSources.{IsRefused, IsSetOf, SaysWritten, SourceTexts}
use Rattle.payload_sources.specs.declared.fault.SourceFile.{SourceFile}
use Rattle.payload_sources.specs.declared.opening.SourceStamps.{SourceStamps}
use Rattle.vrp_json.specs.declared.written.Written.{Written}
use Rattle.vrp_delta.specs.Versions.{Version, kept_after, newest_serial}
use Rattle.cache_watch.specs.declared.reread.ListFault.{ListFault}
use Rattle.cache_watch.specs.declared.reread.ListFault.TheVariants.{NoFile, Source, Guard, Old, Other, NoMemory}

-- the set is that of the list that the text spells, under the exceptions of the SLURM file where there is one, and the
-- guards let it be served first
abbrev pub Passes : Guards → SourceTexts → List Vrp → Type 0
Passes guards sources set = IsSetOf sources set × (guard_fault guards [] set ≡ None)

-- why what files say can't be served first
abbrev pub IsNoFirst : Guards → SourceTexts → ListFault → Type 0
IsNoFirst guards sources (NoFile file) = ⊥
IsNoFirst guards sources (Source refused) = IsRefused sources refused
IsNoFirst guards sources (Guard why) = (set : List Vrp) × IsSetOf sources set × (guard_fault guards [] set ≡ Some why)
IsNoFirst guards sources (Old payloads seconds most) = ⊥
IsNoFirst guards sources (Other payloads refused) = ⊥
IsNoFirst guards sources NoMemory = ⊥

-- what a cache has published then: the set of files that the system gave, which the guards let pass, of a list that says that
-- it was written then, and of files that have these stamps
pub record IsFirst (Lists : Result SourceTexts SourceFile → Type 0) (guards : Guards) (kept : List Version) (serial : ℕ) (set : List Vrp) (written : Written) (stamps : Option SourceStamps) : Type 0 where
  pub sources : SourceTexts
  pub given : Lists (Ok sources)
  pub passes : Passes guards sources set
  pub says : SaysWritten sources written
  pub known : stamps ≡ sources.stamps
  pub kept_is : kept ≡ kept_after [] set
  pub serial_is : serial ≡ newest_serial kept
