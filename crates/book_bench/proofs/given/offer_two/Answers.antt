use Rattle.std.proofs.Common.{◌≡◌, ◌∷◌, [], IfSome}
use Rattle.book_bench.proofs.Addresses.{apart_changed, keeps_two, own_slot, sound_added, sound_changed, two_all}
use Rattle.book_bench.proofs.given.offer_two.Goals as goal

pub returns-in_err-add : goal.returns-in_err-add
returns-in_err-add g c = sound_added _ c.args.first.slot _ _ c.requires.addressed c.add.ensures.places c.add.ensures.best c.add.ensures.few

pub returns-in_err-add-2 : goal.returns-in_err-add-2
returns-in_err-add-2 g c =
    (sound_added _ c.args.second.slot _ _ (sound_added _ c.args.first.slot _ _ c.requires.addressed c.add.ensures.places c.add.ensures.best c.add.ensures.few) c.add-2.ensures.places c.add-2.ensures.best c.add-2.ensures.few)

pub change-requires-clause-kept : goal.change-requires-clause-kept
change-requires-clause-kept g c =
    (sound_added _ c.args.second.slot _ _ (sound_added _ c.args.first.slot _ _ c.requires.addressed c.add.ensures.places c.add.ensures.best c.add.ensures.few) c.add-2.ensures.places c.add-2.ensures.best c.add-2.ensures.few).kept

pub change-requires-clause-named : goal.change-requires-clause-named
change-requires-clause-named g c =
    two_all (λ ch. IfSome ch.candidate (λ r. r.slot ≡ ch.slot)) c.args.first c.args.second
    (own_slot c.args.first.slot c.args.first.candidate c.requires.first) (own_slot c.args.second.slot c.args.second.candidate c.requires.second)

pub change-requires-clause-apart : goal.change-requires-clause-apart
change-requires-clause-apart g c =
    apart_changed (c.args.first ∷ c.args.second ∷ []) (keeps_two c.args.first c.args.second c.requires.first c.requires.second) _
    (sound_added _ c.args.second.slot _ _ (sound_added _ c.args.first.slot _ _ c.requires.addressed c.add.ensures.places c.add.ensures.best c.add.ensures.few) c.add-2.ensures.places c.add-2.ensures.best c.add-2.ensures.few)

pub returns : goal.returns
returns g c =
    sound_changed (c.args.first ∷ c.args.second ∷ []) (keeps_two c.args.first c.args.second c.requires.first c.requires.second) _ _
    (sound_added _ c.args.second.slot _ _ (sound_added _ c.args.first.slot _ _ c.requires.addressed c.add.ensures.places c.add.ensures.best c.add.ensures.few) c.add-2.ensures.places c.add-2.ensures.best c.add-2.ensures.few)
    c.change.ensures.kept c.change.ensures.places
