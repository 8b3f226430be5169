use Rattle.std.proofs.Common.{◌≡◌, ◌∙◌, List, ap, sym, subst, true}
use Rattle.net_prefix.specs.declared.payload.Vrp.{Vrp}
use Rattle.net_prefix.specs.PayloadSets.{has, out}
use Rattle.rtr_client.specs.Book.{Book, base_of, loaded_from, start_of, started_from}
use Rattle.rtr_client.proofs.Books.{left-out, left_start, on_err, payloads_of-base, start_of-is_set}
use Rattle.rtr_client.proofs.payloads.Payloads.withdraw.Goals as goal

pub invariant_of-self-2 : goal.invariant_of-self-2
invariant_of-self-2 g c =
    let there : c.has_loaded.result ≡ true = cc in
    let p = c.args.payload in
    let i = c.self.inside in
    let start = start_of i.serially i.in_force.keys in
    let loaded : has (loaded_from start i.load) p ≡ true = ap (λ (b : Book). has b.loaded p) c.self.view_is ∙ sym c.has_loaded.ensures ∙ there in
    let step = left-out p start i.load (start_of-is_set i.serially i.in_force.keys c.self.invariant.rises) c.self.invariant.change loaded in
    record { rises = c.self.invariant.rises; flushed = c.self.invariant.flushed; change = rw c.in_ok-leave.ensures.ok step.0 }

pub returns-clause-does : goal.returns-clause-does
returns-clause-does g c =
    let there : c.has_loaded.result ≡ true = cc in
    let p = c.args.payload in
    let i = c.self.inside in
    let start = start_of i.serially i.in_force.keys in
    let loaded : has (loaded_from start i.load) p ≡ true = ap (λ (b : Book). has b.loaded p) c.self.view_is ∙ sym c.has_loaded.ensures ∙ there in
    let step = left-out p start i.load (start_of-is_set i.serially i.in_force.keys c.self.invariant.rises) c.self.invariant.change loaded in
    let seen : List Vrp → Book = λ set. record { base = base_of i.base i.in_force.keys; serially = i.serially; session = i.session; loaded = set; changed = i.changed } in (
      sym c.has_loaded.ensures ∙ there,
      subst (λ (b : Book). seen (loaded_from start c.leave.new.self) ≡ record b { loaded = out p b.loaded }) c.self.view_is
          (ap seen (ap (λ load. loaded_from start load) c.in_ok-leave.ensures.ok ∙ step.1)),
    )

pub returns-in_err-leave-clause-needs : goal.returns-in_err-leave-clause-needs
returns-in_err-leave-clause-needs g c =
    let there : c.has_loaded.result ≡ true = cc in
    let p = c.args.payload in
    let i = c.self.inside in
    let keys = i.in_force.keys in
    let loaded : has (loaded_from (start_of i.serially keys) i.load) p ≡ true = ap (λ (b : Book). has b.loaded p) c.self.view_is ∙ sym c.has_loaded.ensures ∙ there in
    let known : has (start_of i.serially keys) p ≡ true = left_start p (start_of i.serially keys) i.load loaded c.in_err-leave.ensures.needs in
    on_err c.from_residual.result
    (subst (λ (b : Book). has (started_from b) p ≡ true) c.self.view_is (ap (λ set. has (start_of i.serially set) p) (payloads_of-base i.base keys c.self.invariant.flushed) ∙ known))
