use Rattle.std.proofs.Common.{◌≡◌, ◌∙◌, List, [], ap, sym, subst, true, false}
use Rattle.net_prefix.specs.declared.payload.Vrp.{Vrp}
use Rattle.vrp_delta.specs.Keeping.{IsChangeOf}
use Rattle.rtr_client.specs.Book.{Book, base_of, loaded_from, start_of}
use Rattle.rtr_codec.specs.ClientState.{payloads_of}
use Rattle.vrp_delta.specs.Versions.{is_same_set}
use Rattle.rtr_client.proofs.Books.{change_between-fits, loaded-change_between, loaded-from_none, on_err, payloads_of-base}
use Rattle.rtr_client.proofs.payloads.Payloads.rebase.Goals as goal

pub invariant_of-self-2 : goal.invariant_of-self-2
invariant_of-self-2 g c = record {
  rises = c.self.invariant.rises;
  flushed = c.self.invariant.flushed;
  change = rw c.in_ok-turn_against.ensures.ok (change_between-fits c.self.inside.in_force.keys c.self.inside.load.announced c.self.invariant.rises c.self.invariant.change.announced_rises);
}

pub returns-clause-ok : goal.returns-clause-ok
returns-clause-ok g c =
    let i = c.self.inside in
    let keys = i.in_force.keys in
    let none : IsChangeOf [] i.load = subst (λ s. IsChangeOf (start_of s keys) i.load) c.if-self.false c.self.invariant.change in
    let same : loaded_from keys c.turn_against.new.load ≡ loaded_from (start_of i.serially keys) i.load =
    ap (λ load. loaded_from keys load) c.in_ok-turn_against.ensures.ok
    ∙ loaded-change_between keys i.load.announced c.self.invariant.rises c.self.invariant.change.announced_rises
    ∙ sym (loaded-from_none i.load none) ∙ ap (λ s. loaded_from (start_of s keys) i.load) (sym c.if-self.false) in
    let seen : List Vrp → Book = λ set. record { base = base_of i.base keys; serially = true; session = i.session; loaded = set; changed = i.changed } in
    subst (λ (b : Book). seen (loaded_from keys c.turn_against.new.load) ≡ record b { serially = true }) c.self.view_is (ap seen same)

pub returns-in_err-turn_against-clause-needs : goal.returns-in_err-turn_against-clause-needs
returns-in_err-turn_against-clause-needs g c =
    let i = c.self.inside in
    let keys = i.in_force.keys in
    let none : IsChangeOf [] i.load = subst (λ s. IsChangeOf (start_of s keys) i.load) c.if-self.false c.self.invariant.change in
    let loaded : loaded_from (start_of i.serially keys) i.load ≡ i.load.announced = ap (λ s. loaded_from (start_of s keys) i.load) c.if-self.false ∙ loaded-from_none i.load none in
    on_err c.from_residual.result
    (subst (λ (b : Book). is_same_set b.loaded (payloads_of b.base) ≡ false) c.self.view_is
    (ap (λ set. is_same_set (loaded_from (start_of i.serially keys) i.load) set) (payloads_of-base i.base keys c.self.invariant.flushed)
    ∙ ap (λ set. is_same_set set keys) loaded ∙ c.in_err-turn_against.ensures.needs))
