use Rattle.vrp_csv.proofs.fault.CsvFault.number.Goals as goal

pub returns-in-Max : goal.returns-in-Max
returns-in-Max c = rw c.in-Max.is
