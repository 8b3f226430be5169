use Rattle.prefix_table.proofs.Remembered.{none_at}
use Rattle.prefix_table.proofs.recent.RecentPlaces.new.Goals as goal

pub returns : goal.returns
returns c = none_at 1024
