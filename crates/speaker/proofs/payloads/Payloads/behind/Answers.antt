use Rattle.local_exceptions.proofs.Sets.{under-is_set}
use Rattle.local_exceptions.specs.ExceptionSets.{under}
use Rattle.speaker.specs.Shown.{keys_if}
use Rattle.speaker.proofs.PayloadRows.{behind-is_set}
use Rattle.speaker.proofs.payloads.Payloads.behind.Goals as goal

pub returns-clause-rising : goal.returns-clause-rising
returns-clause-rising g c =
    behind-is_set c.args.after (under c.args.exceptions.now (keys_if c.args.loaded)) (under-is_set c.args.exceptions.now (keys_if c.args.loaded) c.requires.rising)
