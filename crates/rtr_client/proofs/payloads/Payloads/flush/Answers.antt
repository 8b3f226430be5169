use Rattle.std.proofs.Common.{◌≡◌, ◌∙◌, List, [], None, ap, refl, sym, subst, if◌then◌else◌}
use Rattle.net_prefix.specs.declared.payload.Vrp.{Vrp}
use Rattle.vrp_delta.specs.Delta.{Change, change_between}
use Rattle.vrp_delta.specs.Keeping.{IsChangeOf}
use Rattle.rtr_codec.specs.ClientState.{payloads_of}
use Rattle.rtr_client.specs.Book.{Book, base_of, flushed, loaded_from, start_of}
use Rattle.rtr_client.proofs.Books.{change_between-nothing, empty_rises, loaded_from-nothing, no_change-fits, payloads_of-base}
use Rattle.rtr_client.proofs.payloads.Payloads.flush.Goals as goal
use Rattle.rtr_client.proofs.payloads.Payloads.flush.Goals.{then-self, else-self}

pub invariant_of-self : goal.invariant_of-self
invariant_of-self g c =
    let i = c.self.inside in
    let left = c.leave_all.ensures.set in
    elim c.if-self.branch [
      | then-self w ↦
          rw w.self-inside-is
          (record { rises = rw left empty_rises; flushed = λ h. left; change = rw w.clear.ensures (no_change-fits (start_of i.serially c.leave_all.new.set.keys)) })
      | else-self w ↦
          let none : IsChangeOf [] i.load = subst (λ s. IsChangeOf (start_of s i.in_force.keys) i.load) w.if-self.false c.self.invariant.change in
          rw w.self-inside-is
          (record {
            rises = rw left empty_rises;
            flushed = λ h. left;
            change = subst (λ s. IsChangeOf (start_of s c.leave_all.new.set.keys) i.load) (sym w.if-self.false) none;
          })
    ]

pub returns-clause-book : goal.returns-clause-book
returns-clause-book g c =
    let i = c.self.inside in
    let keys = i.in_force.keys in
    let new = c.leave_all.new.set.keys in
    let left = c.leave_all.ensures.set in
    let seen : List Vrp → Change → Book = λ set change. record { base = None; serially = i.serially; session = i.session; loaded = set; changed = change } in
    let kept : List Vrp = if i.serially then [] else loaded_from (start_of i.serially keys) i.load in
    let told : record { withdrawn = keys; announced = [] } ≡ change_between (payloads_of (base_of i.base keys)) [] =
    sym (change_between-nothing keys) ∙ ap (λ set. change_between set []) (sym (payloads_of-base i.base keys c.self.invariant.flushed)) in
    elim c.if-self.branch [
      | then-self w ↦
          let changed = rw w.self-inside-is at c.leave_all.ensures.changed in
          let loaded = subst (λ s. loaded_from (start_of s new) w.clear.new.self ≡ (if s then [] else loaded_from (start_of s keys) i.load)) (sym w.if-self.true)
          (ap (λ load. loaded_from new load) w.clear.ensures ∙ loaded_from-nothing new ∙ left) in
          rw w.self-inside-is
          (subst (λ (b : Book). seen (loaded_from (start_of i.serially new) w.clear.new.self) c.leave_all.new.changed ≡ flushed b) c.self.view_is
          (ap (λ set. seen set c.leave_all.new.changed) loaded ∙ ap (λ change. seen kept change) (changed ∙ told)))
      | else-self w ↦
          let changed = rw w.self-inside-is at c.leave_all.ensures.changed in
          let loaded = subst (λ s. loaded_from (start_of s new) i.load ≡ (if s then [] else loaded_from (start_of s keys) i.load)) (sym w.if-self.false) refl in
          rw w.self-inside-is
          (subst (λ (b : Book). seen (loaded_from (start_of i.serially new) i.load) c.leave_all.new.changed ≡ flushed b) c.self.view_is
          (ap (λ set. seen set c.leave_all.new.changed) loaded ∙ ap (λ change. seen kept change) (changed ∙ told)))
    ]
