use Rattle.std.proofs.Common.{◌≡◌, ◌∙◌, List, ap, sym, subst}
use Rattle.net_prefix.specs.declared.payload.Vrp.{Vrp}
use Rattle.rtr_client.specs.Book.{Book, base_of, begun, loaded_from, start_of}
use Rattle.rtr_client.proofs.Books.{loaded_from-nothing, no_change-fits, payloads_of-base}
use Rattle.rtr_client.proofs.payloads.Payloads.begin.Goals as goal

pub invariant_of-self : goal.invariant_of-self
invariant_of-self g c = record {
  rises = c.self.invariant.rises;
  flushed = c.self.invariant.flushed;
  change = rw c.clear.ensures (no_change-fits (start_of c.args.serially c.self.inside.in_force.keys));
}

pub returns : goal.returns
returns g c =
    let i = c.self.inside in
    let keys = i.in_force.keys in
    let serially = c.args.serially in
    let start = start_of serially keys in
    let seen : List Vrp → Book = λ set. record { base = base_of i.base keys; serially = serially; session = c.args.session; loaded = set; changed = i.changed } in
    subst (λ (b : Book). seen (loaded_from start c.clear.new.self) ≡ begun serially c.args.session b) c.self.view_is
    (ap seen (ap (λ load. loaded_from start load) c.clear.ensures ∙ loaded_from-nothing start ∙ ap (λ set. start_of serially set) (sym (payloads_of-base i.base keys c.self.invariant.flushed))))
