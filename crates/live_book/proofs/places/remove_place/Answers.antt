use Rattle.std.proofs.Common.{not, nat_eq, rules}
use Rattle.std.proofs.lemmas.Fn.{filter_same}
use Rattle.live_book.specs.Places.{Place}
use Rattle.live_book.proofs.places.remove_place.Goals as goal

pub returns : goal.returns
returns g c = filter_same _ (λ (p : Place). not (nat_eq c.args.slot p.slot)) _ (λ x b f' k. search rules) _ _ c.retain.ensures.filtered
