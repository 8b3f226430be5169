-- A payload list in either format, which its first octet that is no white space tells (our own choice).
use Rattle.std.specs.Prelude.{◌≡◌, ℕ, List, Option, Some, ⊤}
use Rattle.csv.specs.Reading.{default_config, records, strip_bom}
use Rattle.vrp_csv.specs.ExpiredRows.{IsLoadAt as IsLoadOfRecordsAt}
use Rattle.vrp_csv.specs.PayloadList.{IsRefused as AreRefusedRecords, IsStop}
use Rattle.vrp_csv.specs.declared.list.Loaded.{Loaded}
use Rattle.vrp_json.specs.ExpiredEntries.{IsLoadAt}
use Rattle.json.specs.Json.{Json as Value, document}
use Rattle.vrp_json.specs.ListFormats.{format_of}
use Rattle.vrp_json.specs.PayloadDocument.{IsRefused}
use Rattle.vrp_json.specs.WrittenTimes.{IsWritten}
use Rattle.vrp_json.specs.declared.format.ListFormat.{ListFormat}
use Rattle.vrp_json.specs.declared.format.ListFormat.TheVariants.{Csv, Json as InJson}
use Rattle.vrp_json.specs.declared.written.Written.{Written}
use Rattle.vrp_json.specs.declared.written.Written.TheVariants.{Untold}
use Rattle.payload_lists.specs.declared.list.Listed.{Listed}
use Rattle.payload_lists.specs.declared.fault.PayloadListFault.{PayloadListFault}
use Rattle.payload_lists.specs.declared.fault.PayloadListFault.TheVariants.{Row, Json, Io}

-- in this format the text is a list that loads this at a second since 1970; without a second nothing expires
abbrev pub IsListIn : Option ℕ → ListFormat → List ℕ → Loaded → Type 0
IsListIn second Csv text loaded = IsLoadOfRecordsAt second (records default_config (strip_bom text)) loaded
IsListIn second InJson text loaded = IsLoadAt second text loaded

-- in this format the text says that it was written then
abbrev pub IsWrittenIn : ListFormat → List ℕ → Written → Type 0
IsWrittenIn Csv text written = written ≡ Untold
IsWrittenIn InJson text written = (value : Value) × (document text ≡ Some value) × IsWritten value written

abbrev pub IsListedIn : Option ℕ → ListFormat → List ℕ → Listed → Type 0
IsListedIn second format text listed = IsListIn second format text listed.loaded × IsWrittenIn format text listed.written

-- why the text is no list in this format, or that reading stopped: before the format was told, or behind that
abbrev pub IsRefusedIn : ListFormat → List ℕ → PayloadListFault → Type 0
IsRefusedIn Csv text (Row refused) = AreRefusedRecords (records default_config (strip_bom text)) refused.fault refused.row
IsRefusedIn Csv text (Json fault) = ⊥
IsRefusedIn Csv text Io = ⊥
IsRefusedIn InJson text (Row refused) = IsStop refused.fault × (refused.row ≡ 0)
IsRefusedIn InJson text (Json fault) = IsRefused text fault
IsRefusedIn InJson text Io = ⊤

-- the text is a list that loads this at a second, and says when it was written
abbrev pub IsListOf : Option ℕ → List ℕ → Listed → Type 0
IsListOf second text listed = IsListedIn second (format_of text) text listed

-- the text says that it was written then
abbrev pub IsWrittenBy : List ℕ → Written → Type 0
IsWrittenBy text written = IsWrittenIn (format_of text) text written

-- why the text is no list, or that reading stopped
abbrev pub IsRefusedAs : List ℕ → PayloadListFault → Type 0
IsRefusedAs text fault = IsRefusedIn (format_of text) text fault
