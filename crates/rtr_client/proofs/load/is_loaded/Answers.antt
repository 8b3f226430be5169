use Rattle.std.proofs.Common.{◌≡◌, ◌∙◌, ap, sym, subst, true, false}
use Rattle.net_prefix.specs.PayloadSets.{has}
use Rattle.vrp_delta.specs.Delta.{Change}
use Rattle.rtr_client.specs.Book.{loaded_from, start_of}
use Rattle.rtr_client.proofs.Books.{loaded-announced, loaded-withdrawn, loaded-started}
use Rattle.rtr_client.proofs.load.is_loaded.Goals as goal

pub returns-then-contains : goal.returns-then-contains
returns-then-contains g c =
    let start = start_of c.args.serially c.args.in_force.now.keys in
    let p = c.args.payload.now in
    subst (λ (load : Change). true ≡ has (loaded_from start load) p) c.load.view_is
    (sym (loaded-announced start _ p (sym c.contains.ensures ∙ c.if-contains.true)))

pub returns-then-contains-2 : goal.returns-then-contains-2
returns-then-contains-2 g c =
    let start = start_of c.args.serially c.args.in_force.now.keys in
    let p = c.args.payload.now in
    subst (λ (load : Change). false ≡ has (loaded_from start load) p) c.load.view_is
    (sym (loaded-withdrawn start _ p (sym c.contains.ensures ∙ c.if-contains.false) (sym c.contains-2.ensures ∙ c.if-contains-2.true)))

pub returns-then-serially : goal.returns-then-serially
returns-then-serially g c =
    let start = start_of c.args.serially c.args.in_force.now.keys in
    let p = c.args.payload.now in
    subst (λ (load : Change). c.contains-then-serially.result ≡ has (loaded_from start load) p) c.load.view_is
    (c.contains-then-serially.ensures ∙ ap (λ s. has (start_of s c.args.in_force.now.keys) p) (sym c.if-serially.true)
    ∙ sym (loaded-started start _ p (sym c.contains.ensures ∙ c.if-contains.false) (sym c.contains-2.ensures ∙ c.if-contains-2.false)))

pub returns-else-serially : goal.returns-else-serially
returns-else-serially g c =
    let start = start_of c.args.serially c.args.in_force.now.keys in
    let p = c.args.payload.now in
    subst (λ (load : Change). c.args.serially ≡ has (loaded_from start load) p) c.load.view_is
    (c.if-serially.false ∙ ap (λ s. has (start_of s c.args.in_force.now.keys) p) (sym c.if-serially.false)
    ∙ sym (loaded-started start _ p (sym c.contains.ensures ∙ c.if-contains.false) (sym c.contains-2.ensures ∙ c.if-contains-2.false)))
