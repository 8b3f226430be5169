-- A list that is due, by what opening its files has led to.
use Rattle.std.proofs.Common.{◌≡◌, ◌∙◌, ℕ, Bool, true, List, Option, Some, Result, Ok, Err, MatchResult, refl, sym, subst}
use Rattle.net_prefix.specs.declared.payload.Vrp.{Vrp}
use Rattle.payload_sources.specs.PayloadSources.{IsSetOf, SaysWritten, SourceTexts}
use Rattle.payload_sources.specs.declared.fault.SourceFile.{SourceFile}
use Rattle.payload_sources.specs.declared.opening.SourceStamps.{SourceStamps}
use Rattle.vrp_json.specs.declared.written.Written.{Written}
use Rattle.cache_program.specs.Rereads.{age_told, IsKeptOrRereads, IsKeptOut, IsNoList, LooksAt, Notes, Publishes, RereadsFile, RereadsWhenDue, Served}
use Rattle.cache_watch.specs.declared.reread.ListFault.{ListFault}
use Rattle.cache_watch.specs.declared.reread.ListFault.TheVariants.{NoFile, Source, Guard, Old, Other, NoMemory}
use Rattle.cache_watch.specs.declared.reread.Reread.{Reread}
use Rattle.cache_watch.specs.declared.reread.Reread.TheVariants.{Refused, Same, Unchanged, Published}
use Rattle.cache_watch.specs.declared.telling.FileAge.{FileAge}

given_then : (Lists : Result SourceTexts SourceFile → Type 0) (is_asked : Bool) (accepts : Option ℕ) (is_due : Bool) (now : ℕ) (age : FileAge) (sources : Result SourceTexts SourceFile) (old : Served) (led : Reread) (new : Served)
    → is_due ≡ true → Lists sources → LooksAt is_asked accepts now age sources old led new → RereadsWhenDue Lists is_asked accepts is_due now age old (Some led) new
given_then Lists is_asked accepts is_due now age sources old led new is given rereads =
    subst (λ (due : Bool). RereadsWhenDue Lists is_asked accepts due now age old (Some led) new) (sym is) (led, refl, sources, given, rereads)

pub reread_when_due : {S U : Type 0} (r : Result S U) (texts : S → SourceTexts) (which : U → SourceFile) (Lists : Result SourceTexts SourceFile → Type 0) (is_asked : Bool) (accepts : Option ℕ) (is_due : Bool) (now : ℕ) (age : FileAge) (old : Served) (led : Reread) (new : Served)
    → is_due ≡ true → MatchResult r (λ s. Lists (Ok (texts s))) (λ u. Lists (Err (which u)))
    → MatchResult r (λ s. LooksAt is_asked accepts now age (Ok (texts s)) old led new) (λ u. LooksAt is_asked accepts now age (Err (which u)) old led new) → RereadsWhenDue Lists is_asked accepts is_due now age old (Some led) new
reread_when_due (Ok s) texts which Lists is_asked accepts is_due now age old led new is given rereads = given_then Lists is_asked accepts is_due now age (Ok (texts s)) old led new is given rereads
reread_when_due (Err u) texts which Lists is_asked accepts is_due now age old led new is given rereads = given_then Lists is_asked accepts is_due now age (Err (which u)) old led new is given rereads

-- why a set is kept out that was read of these files, whose list says that it was written then
kept_out : (accepts : Option ℕ) (file : FileAge) (sources : SourceTexts) (old : Served) (set : List Vrp) (written : Written) (why : ListFault) → IsSetOf sources set → SaysWritten sources written
    → IsKeptOut accepts (age_told written file) set old why → IsNoList accepts file sources old why
kept_out accepts file sources old set written (NoFile which) is says out = absurd out
kept_out accepts file sources old set written (Source refused) is says out = absurd out
kept_out accepts file sources old set written (Old payloads seconds most) is says out = (set, is, written, says, out)
kept_out accepts file sources old set written (Guard why) is says out = (record { set = set; of_text = is; judged = out.0; shown = out.2 }, (written, says, out.1))
kept_out accepts file sources old set written (Other payloads refused) is says out = (set, is, out)
kept_out accepts file sources old set written NoMemory is says out = (record { set = set; of_text = is; judged = out.passes; shown = out.shown }, (written, says, out.young))

-- the set of files that were read is handed in, or kept out
pub reread_so : (accepts : Option ℕ) (now : ℕ) (file : FileAge) (sources : SourceTexts) (old : Served) (led : Reread) (new : Served) (set : List Vrp) (written : Written) (stamps : Option SourceStamps) → IsSetOf sources set → SaysWritten sources written
    → stamps ≡ sources.stamps → Publishes accepts now (age_told written file) set old led new → Notes written stamps led new → RereadsFile accepts now file sources old led new
reread_so accepts now file sources old (Refused why) new set written stamps is says known published notes = (kept_out accepts file sources old set written why is says published.0, published.1)
reread_so accepts now file sources old Same new set written stamps is says known published notes =
    (set, is, subst (λ (w : Written). Publishes accepts now (age_told w file) set old Same new) (sym notes.0) published, subst (λ (w : Written). SaysWritten sources w) (sym notes.0) says, notes.1 ∙ known)
reread_so accepts now file sources old Unchanged new set written stamps is says known published notes = absurd published
reread_so accepts now file sources old (Published serial) new set written stamps is says known published notes =
    (set, is, subst (λ (w : Written). Publishes accepts now (age_told w file) set old (Published serial) new) (sym notes.0) published, subst (λ (w : Written). SaysWritten sources w) (sym notes.0) says, notes.1 ∙ known)

-- what was read last stands, or the files are read
pub looked_so : (stands : Bool) (test : Bool) (accepts : Option ℕ) (now : ℕ) (age : FileAge) (sources : Result SourceTexts SourceFile) (old : Served) (led : Reread) (new : Served)
    → test ≡ stands → IsKeptOrRereads test accepts now age sources old led new → IsKeptOrRereads stands accepts now age sources old led new
looked_so stands test accepts now age sources old led new is looks = subst (λ (t : Bool). IsKeptOrRereads t accepts now age sources old led new) is looks
