use Rattle.rtr_channels.proofs.FewSets.{all_are_few}
use Rattle.rtr_channels.proofs.TwoEnds.{holds, holds_start, published_holds}
use Rattle.rtr_channels.specs.Channels.{start}
use Rattle.rtr_channels.proofs.laws.versions_agree.Goals as goal

pub returns-clause-agree : goal.returns-clause-agree
returns-clause-agree c retry session intervals other_session events w after few =
    published_holds w (holds (start retry session intervals other_session) events w (holds_start retry session intervals other_session after.0) after.1 few)

pub returns-clause-few : goal.returns-clause-few
returns-clause-few c = all_are_few
