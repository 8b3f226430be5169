use Rattle.live_book.proofs.Groups.{bests_enough}
use Rattle.live_book.proofs.laws.one_of_bests.Goals as goal

pub returns : goal.returns
returns c = bests_enough c.args.candidates.now c.args.bests.now c.requires.distinct c.requires.apart c.requires.bests
