use Rattle.std.proofs.Common.{◌≡◌, ◌∙◌, List, ap, sym, subst, false}
use Rattle.net_prefix.specs.declared.payload.Vrp.{Vrp}
use Rattle.net_prefix.specs.PayloadSets.{has, put}
use Rattle.rtr_client.specs.Book.{Book, base_of, loaded_from, start_of, started_from}
use Rattle.rtr_client.proofs.Books.{came-put, came_anew, on_err, payloads_of-base, start_of-is_set}
use Rattle.rtr_client.proofs.payloads.Payloads.announce.Goals as goal

pub invariant_of-self-2 : goal.invariant_of-self-2
invariant_of-self-2 g c =
    let p = c.args.payload in
    let i = c.self.inside in
    let start = start_of i.serially i.in_force.keys in
    let loaded : has (loaded_from start i.load) p ≡ false = ap (λ (b : Book). has b.loaded p) c.self.view_is ∙ sym c.has_loaded.ensures ∙ c.if-has_loaded.false in
    let step = came-put p start i.load (start_of-is_set i.serially i.in_force.keys c.self.invariant.rises) c.self.invariant.change loaded in
    record { rises = c.self.invariant.rises; flushed = c.self.invariant.flushed; change = rw c.in_ok-come.ensures.ok step.0 }

pub returns-clause-does : goal.returns-clause-does
returns-clause-does g c =
    let p = c.args.payload in
    let i = c.self.inside in
    let start = start_of i.serially i.in_force.keys in
    let loaded : has (loaded_from start i.load) p ≡ false = ap (λ (b : Book). has b.loaded p) c.self.view_is ∙ sym c.has_loaded.ensures ∙ c.if-has_loaded.false in
    let step = came-put p start i.load (start_of-is_set i.serially i.in_force.keys c.self.invariant.rises) c.self.invariant.change loaded in
    let seen : List Vrp → Book = λ set. record { base = base_of i.base i.in_force.keys; serially = i.serially; session = i.session; loaded = set; changed = i.changed } in (
      sym c.has_loaded.ensures ∙ c.if-has_loaded.false,
      subst (λ (b : Book). seen (loaded_from start c.come.new.self) ≡ record b { loaded = put p b.loaded }) c.self.view_is
          (ap seen (ap (λ load. loaded_from start load) c.in_ok-come.ensures.ok ∙ step.1)),
    )

pub returns-in_err-come-clause-needs : goal.returns-in_err-come-clause-needs
returns-in_err-come-clause-needs g c =
    let p = c.args.payload in
    let i = c.self.inside in
    let keys = i.in_force.keys in
    let loaded : has (loaded_from (start_of i.serially keys) i.load) p ≡ false = ap (λ (b : Book). has b.loaded p) c.self.view_is ∙ sym c.has_loaded.ensures ∙ c.if-has_loaded.false in
    let known : has (start_of i.serially keys) p ≡ false = came_anew p (start_of i.serially keys) i.load loaded c.in_err-come.ensures.needs in
    on_err c.from_residual.result
    (subst (λ (b : Book). has (started_from b) p ≡ false) c.self.view_is (ap (λ set. has (start_of i.serially set) p) (payloads_of-base i.base keys c.self.invariant.flushed) ∙ known))
