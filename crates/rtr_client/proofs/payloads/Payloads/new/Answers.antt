use Rattle.std.proofs.Common.{◌∙◌, List, [], None, ap, false}
use Rattle.net_prefix.specs.declared.payload.Vrp.{Vrp}
use Rattle.vrp_delta.specs.Delta.{Change}
use Rattle.rtr_client.specs.Book.{Book, loaded_from}
use Rattle.rtr_client.proofs.Books.{loaded_from-nothing}
use Rattle.rtr_client.proofs.payloads.Payloads.new.Goals as goal

pub returns : goal.returns
returns g c =
    let seen : List Vrp → Change → Book = λ set change. record { base = None; serially = false; session = 0; loaded = set; changed = change } in
    ap (λ set. seen set c.in_ok-changed.changed) (ap (λ load. loaded_from [] load) c.in_ok-load.ensures ∙ loaded_from-nothing [])
    ∙ ap (λ change. seen [] change) c.in_ok-changed.ensures
