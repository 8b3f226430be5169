-- What refused files are to a program.
use Rattle.payload_lists.specs.declared.fault.PayloadListFault.{PayloadListFault}
use Rattle.payload_lists.specs.declared.fault.PayloadListFault.TheVariants.{Row, Json, Io as IoOfList}
use Rattle.payload_sources.specs.declared.fault.SourceFault.{SourceFault}
use Rattle.payload_sources.specs.declared.fault.SourceFault.TheVariants.{List, Slurm, SlurmDevice, Changed}
use Rattle.slurm_files.specs.declared.fault.SlurmFault.{SlurmFault}
use Rattle.slurm_files.specs.declared.fault.SlurmFault.TheVariants.{Text as NoJson, File as OfFile, Filters, Assertions, Entry as OfEntry, NoMemory as NoMemoryOfSlurm}
use Rattle.vrp_csv.specs.declared.fault.RowFault.{RowFault}
use Rattle.vrp_csv.specs.declared.fault.RowFault.TheVariants.{Header, Fields, Asn, Prefix, Max, Io, NoMemory as NoMemoryOfRows, Csv}
use Rattle.vrp_json.specs.declared.fault.JsonFault.{JsonFault}
use Rattle.vrp_json.specs.declared.fault.JsonFault.TheVariants.{Text, NotObject, NoRoas, NotArray, Entry, SecondRoas, NoMemory as NoMemoryOfJson}
use Rattle.program_endings.specs.declared.fault.ExitFault.{ExitFault}
use Rattle.program_endings.specs.declared.fault.ExitFault.TheVariants.{Settings, Device}

-- what the fault of a row is to the program
abbrev pub exit_of_row : RowFault → ExitFault
exit_of_row Header = Settings
exit_of_row Fields = Settings
exit_of_row Asn = Settings
exit_of_row Prefix = Settings
exit_of_row Max = Settings
exit_of_row Io = Device
exit_of_row NoMemoryOfRows = Device
exit_of_row Csv = Settings

-- what the fault of a list in JSON is to the program
abbrev pub exit_of_json : JsonFault → ExitFault
exit_of_json (Text octet) = Settings
exit_of_json NotObject = Settings
exit_of_json NoRoas = Settings
exit_of_json NotArray = Settings
exit_of_json (Entry place fault) = Settings
exit_of_json SecondRoas = Settings
exit_of_json NoMemoryOfJson = Device

-- what a refused list is to the program
abbrev pub exit_of_list : PayloadListFault → ExitFault
exit_of_list (Row refused) = exit_of_row refused.fault
exit_of_list (Json fault) = exit_of_json fault
exit_of_list IoOfList = Device

-- what the fault of a SLURM file is to the program
abbrev pub exit_of_slurm : SlurmFault → ExitFault
exit_of_slurm (NoJson octet) = Settings
exit_of_slurm (OfFile cause) = Settings
exit_of_slurm (Filters cause) = Settings
exit_of_slurm (Assertions cause) = Settings
exit_of_slurm (OfEntry part place cause) = Settings
exit_of_slurm NoMemoryOfSlurm = Device

-- what files that are refused are to the program
abbrev pub exit_of_source : SourceFault → ExitFault
exit_of_source (List refused) = exit_of_list refused
exit_of_source (Slurm fault) = exit_of_slurm fault
exit_of_source SlurmDevice = Device
exit_of_source (Changed file) = Device
