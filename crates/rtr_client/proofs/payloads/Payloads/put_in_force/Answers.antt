use Rattle.std.proofs.Common.{◌≡◌, ◌∙◌, List, Option, Some, ap, sym, subst, true}
use Rattle.net_prefix.specs.declared.payload.Vrp.{Vrp}
use Rattle.vrp_delta.specs.Delta.{change_between}
use Rattle.vrp_delta.specs.Keeping.{IsChangeOf, no_change}
use Rattle.rtr_codec.specs.ClientState as table
use Rattle.rtr_client.specs.Book.{Book, completed, loaded_from, start_of}
use Rattle.rtr_client.specs.Following.{has_more}
use Rattle.rtr_client.proofs.Books.{announced_more, applied-loaded, change_between-loaded, no_change-fits, on_err, payloads_of-base}
use Rattle.rtr_client.proofs.payloads.Payloads.put_in_force.Goals as goal

pub invariant_of-self-2 : goal.invariant_of-self-2
invariant_of-self-2 g c =
    let nothing : c.swap.new.x ≡ no_change = c.swap.ensures.x_after ∙ ap (λ (b : Book). b.changed) c.self.view_is ∙ c.requires.told in
    record {
      rises = c.change_both.ensures.rises;
      flushed = λ h. cc;
      change = rw nothing (no_change-fits (start_of c.self.inside.serially c.change_both.new.set.keys));
    }

pub returns-clause-does : goal.returns-clause-does
returns-clause-does g c =
    let i = c.self.inside in
    let keys = i.in_force.keys in
    let serially : i.serially ≡ true = ap (λ (b : Book). b.serially) c.self.view_is ∙ c.requires.serially in
    let fits : IsChangeOf keys i.load = subst (λ s. IsChangeOf (start_of s keys) i.load) serially c.self.invariant.change in
    let start : loaded_from keys i.load ≡ loaded_from (start_of i.serially keys) i.load = ap (λ s. loaded_from (start_of s keys) i.load) (sym serially) in
    let new = applied-loaded keys c.change_both.new.set.keys i.load c.self.invariant.rises c.change_both.ensures.rises c.in_ok-change_both.ensures.ok in
    let seen : List Vrp → Option table.Base = λ set. Some (record { session = i.session; serial = c.args.serial; payloads = set }) in (
      subst (λ (b : Book). seen c.change_both.new.set.keys ≡ Some (completed c.args.serial b)) c.self.view_is (ap seen (new ∙ start)),
      subst (λ (b : Book). c.swap.new.y ≡ change_between (table.payloads_of b.base) b.loaded) c.self.view_is
          (c.swap.ensures.y_after ∙ change_between-loaded keys i.load c.self.invariant.rises fits
          ∙ ap (λ set. change_between keys set) start
          ∙ ap (λ set. change_between set (loaded_from (start_of i.serially keys) i.load)) (sym (payloads_of-base i.base keys c.self.invariant.flushed))),
    )

pub returns-in_err-change_both-clause-needs : goal.returns-in_err-change_both-clause-needs
returns-in_err-change_both-clause-needs g c =
    let i = c.self.inside in
    let keys = i.in_force.keys in
    let serially : i.serially ≡ true = ap (λ (b : Book). b.serially) c.self.view_is ∙ c.requires.serially in
    let fits : IsChangeOf keys i.load = subst (λ s. IsChangeOf (start_of s keys) i.load) serially c.self.invariant.change in
    let more : has_more (loaded_from keys i.load) keys ≡ true = announced_more keys i.load fits c.in_err-change_both.ensures.needs in
    on_err c.from_residual.result
    (subst (λ (b : Book). has_more b.loaded (table.payloads_of b.base) ≡ true) c.self.view_is
    (ap (λ set. has_more (loaded_from (start_of i.serially keys) i.load) set) (payloads_of-base i.base keys c.self.invariant.flushed)
    ∙ ap (λ s. has_more (loaded_from (start_of s keys) i.load) keys) serially ∙ more))
