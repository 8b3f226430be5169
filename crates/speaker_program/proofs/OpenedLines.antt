-- The lines of a file that was opened.
use Rattle.std.proofs.Common.{◌≡◌, ◌∙◌, ◌++◌, ◌==◌, ℕ, inr, List, [], Option, None, Some, Result, Ok, Err, IfOk, Vec, if◌then◌else◌, refl, ap, subst, sym}
use Rattle.std.specs.Global.{Global as TheGlobal}
use Rattle.std.specs.Result.{IsErrAnd}
use Rattle.std.specs.declared.io.Error.{Error as IoError}
use Rattle.file_paths.specs.OpenedFiles.{AreOctetsOf}
use Rattle.speaker_program.specs.Files.{AreOctetsAt, IsAnswered, IsLost}
use Rattle.std.specs.Io.Buffered.{reader_buffer, reader_capacity, reader_inner, reader_remaining}
use Rattle.std.specs.Io.KnownBytes.{prepend_known}
use Rattle.std.specs.declared.io.buffered.BufReader.{BufReader}

none_read : (read : List ℕ) (text : Option (List ℕ)) → read ≡ [] → prepend_known read text ≡ text
none_read read None none = refl
none_read read (Some text) none = ap (λ (r : List ℕ). Some (r ++ text)) none

-- where none was read yet, its text is what remains
text_remains : {A F : Type 0} (remaining : F → Option (List ℕ)) (lines : BufReader F A) (file : F) → reader_inner lines ≡ file → reader_buffer lines ≡ [] → reader_capacity lines ≡ 8192 → reader_remaining remaining lines ≡ remaining file
text_remains {A} {F} remaining lines file inner none capacity =
    ap (λ (count : ℕ). if count == 0 then None else prepend_known (reader_buffer lines) (remaining (reader_inner lines))) capacity
    ∙ (none_read (reader_buffer lines) (remaining (reader_inner lines)) none ∙ ap (λ (f : F). remaining f) inner)

-- what is answered of it
pub lines_answered : {A F : Type 0} (Opened : List ℕ → Option (List ℕ) → Type 0) (Refused : List ℕ → IoError → Type 0) (remaining : F → Option (List ℕ)) (r : Result (BufReader F A) IoError) (path : List ℕ) (file : F) → Opened path (remaining file) → IfOk r (λ lines. reader_inner lines ≡ file)
    → IfOk r (λ lines. reader_buffer lines ≡ []) → IfOk r (λ lines. reader_capacity lines ≡ 8192) → IsAnswered Opened Refused (λ lines. Opened path (reader_remaining remaining lines)) path r
lines_answered Opened Refused remaining (Ok lines) path file at inner none capacity = subst (λ (text : Option (List ℕ)). Opened path text) (sym (text_remains remaining lines file inner none capacity)) at
lines_answered Opened Refused remaining (Err why) path file at inner none capacity = inr (remaining file, at)

pub octets_answered : (Opened : List ℕ → Option (List ℕ) → Type 0) (Refused : List ℕ → IoError → Type 0) (r : Result (Vec ℕ TheGlobal) IoError) (path : List ℕ) (text : Option (List ℕ)) → Opened path text → IfOk r (λ octets. AreOctetsOf text octets.items) → IsAnswered Opened Refused (λ octets. AreOctetsAt Opened path octets.items) path r
octets_answered Opened Refused (Ok octets) path text at are = (text, at, are)
octets_answered Opened Refused (Err why) path text at are = inr (text, at)

-- it is lost for the error that is passed on
pub lost_so : {T : Type 0} (Opened : List ℕ → Option (List ℕ) → Type 0) (Refused : List ℕ → IoError → Type 0) (Is : T → Type 0) (path : List ℕ) (r : Result T IoError) (error : IoError) → IsErrAnd r (λ told. told ≡ error) → IsLost Opened Refused path error → IsAnswered Opened Refused Is path r
lost_so Opened Refused Is path (Ok it) error told lost = absurd told
lost_so Opened Refused Is path (Err other) error told lost = subst (λ (e : IoError). IsLost Opened Refused path e) (sym told) lost
