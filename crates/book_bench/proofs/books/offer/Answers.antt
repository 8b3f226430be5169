use Rattle.std.proofs.Common.{◌≡◌, ◌∷◌, [], IfSome}
use Rattle.book_bench.proofs.Addresses.{apart_changed, keeps_one, one_all, own_slot, sound_added, sound_changed}
use Rattle.book_bench.proofs.books.offer.Goals as goal

pub returns-in_err-add : goal.returns-in_err-add
returns-in_err-add g c = sound_added _ c.args.change.slot _ _ c.requires.addressed c.add.ensures.places c.add.ensures.best c.add.ensures.few

pub change-requires-clause-kept : goal.change-requires-clause-kept
change-requires-clause-kept g c = (sound_added _ c.args.change.slot _ _ c.requires.addressed c.add.ensures.places c.add.ensures.best c.add.ensures.few).kept

pub change-requires-clause-named : goal.change-requires-clause-named
change-requires-clause-named g c = one_all (λ ch. IfSome ch.candidate (λ r. r.slot ≡ ch.slot)) c.args.change (own_slot c.args.change.slot c.args.change.candidate c.requires.own)

pub change-requires-clause-apart : goal.change-requires-clause-apart
change-requires-clause-apart g c =
    apart_changed (c.args.change ∷ []) (keeps_one c.args.change c.requires.own) _ (sound_added _ c.args.change.slot _ _ c.requires.addressed c.add.ensures.places c.add.ensures.best c.add.ensures.few)

pub returns : goal.returns
returns g c =
    sound_changed (c.args.change ∷ []) (keeps_one c.args.change c.requires.own) _ _ (sound_added _ c.args.change.slot _ _ c.requires.addressed c.add.ensures.places c.add.ensures.best c.add.ensures.few) c.change.ensures.kept c.change.ensures.places
