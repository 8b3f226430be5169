use Rattle.std.proofs.Common.{◌≡◌, ◌∙◌, ap, sym}
use Rattle.prefix_trie.specs.TrieWalks.{all_after}
use Rattle.routing.proofs.WaitingLists.{nothing_rises}
use Rattle.speaker.specs.Shown.{held_by}
use Rattle.speaker.proofs.PeersSeen.{held_seen, table_in_link, unseen}
use Rattle.speaker.proofs.ViewsBehind.{none_after}
use Rattle.speaker.proofs.step.Speaker.held_after.Goals as goal

pub returns-in-Some-clause-kept : goal.returns-in-Some-clause-kept
returns-in-Some-clause-kept g c = rw (← c.self.view_is) (c.held_after.ensures.all ∙ ap (all_after c.args.after) (held_seen _ _ c.in-Some.ensures.value))

pub returns-in-None-clause-kept : goal.returns-in-None-clause-kept
returns-in-None-clause-kept g c = rw (← c.self.view_is) (none_after c.args.after ∙ ap (λ l. all_after c.args.after (held_by l)) (sym (unseen table_in_link _ c.in-None.ensures.value)))

pub returns-in-None-clause-rising : goal.returns-in-None-clause-rising
returns-in-None-clause-rising g c = nothing_rises
