use Rattle.std.proofs.Common.{◌≡◌, ◌==◌, ◌&&◌, ℕ, Bool, Some, false, cond, ap, ◌∙◌}
use Rattle.net_prefix.specs.declared.prefix.Prefix.{Prefix}
use Rattle.prefix_trie.specs.TrieMap.{found}
use Rattle.rib_out.specs.Held.{HeldRoute, is_among}
use Rattle.rib_rows.specs.Records.{held_of, sent_of}
use Rattle.loc_rib.proofs.SentTables.{put_asked, put_held, put_others, rest_same, same_marks, send_marks, sent_rising, sent_same, still_needed}
use Rattle.loc_rib.proofs.ribs.Ribs.announce_sent.Goals as goal

pub invariant_of-self : goal.invariant_of-self
invariant_of-self g c =
    let old = c.self.inside.rows.entries in
    let new = c.tidy_all.new.rows.entries in
    let rising = c.self.invariant.0.0 in
    let also = c.tidy_all.ensures.rows.0 in (
      still_needed old new c.args.prefixes.now c.self.invariant.0 c.tidy_all.ensures.rows (λ p out. c.tidy_all.ensures.others p out ∙ c.ready_all.ensures.others p out) c.tidy_all.ensures.needed,
      same_marks (sent_of old) (sent_of new) c.self.inside.marks.holders c.self.inside.marks.askers c.self.inside.marks.all_asked
          (λ s. sent_same old new rising also s (λ p. c.tidy_all.ensures.held p s ∙ c.ready_all.ensures.held p s)) c.self.invariant.1,
    )

pub returns-then-is_err-clause-others : goal.returns-then-is_err-clause-others
returns-then-is_err-clause-others g c =
    let old = c.self.inside.rows.entries in
    let new = c.tidy_all.new.rows.entries in
    let rising = c.self.invariant.0.0 in
    let also = c.tidy_all.ensures.rows.0 in
    rw (← c.self.view_is) (λ s other. sent_same old new rising also s (λ p. c.tidy_all.ensures.held p s ∙ c.ready_all.ensures.held p s))

pub returns-then-is_err-clause-err : goal.returns-then-is_err-clause-err
returns-then-is_err-clause-err g c =
    let old = c.self.inside.rows.entries in
    let new = c.tidy_all.new.rows.entries in
    let rising = c.self.invariant.0.0 in
    let also = c.tidy_all.ensures.rows.0 in
    rw (← c.self.view_is) (λ s. sent_same old new rising also s (λ p. c.tidy_all.ensures.held p s ∙ c.ready_all.ensures.held p s))

pub returns-then-is_err-clause-rest : goal.returns-then-is_err-clause-rest
returns-then-is_err-clause-rest g c =
    let old = c.self.inside.rows.entries in
    let new = c.tidy_all.new.rows.entries in
    let rising = c.self.invariant.0.0 in
    let also = c.tidy_all.ensures.rows.0 in
    rw (← c.self.view_is) (rest_same old new rising also c.self.inside.meter.count (λ p. c.tidy_all.ensures.routed p ∙ c.ready_all.ensures.routed p))

pub invariant_of-self-2 : goal.invariant_of-self-2
invariant_of-self-2 g c =
    let old = c.self.inside.rows.entries in
    let new = c.hold_all.new.rows.entries in
    let rising = c.self.invariant.0.0 in
    let also = c.hold_all.ensures.rows.0 in
    let told : Prefix → Bool = λ q. is_among q c.args.prefixes.now in
    let route : HeldRoute = record { octets = c.args.attrs.now; asked = false } in
    let put : (p : Prefix) (s : ℕ) → held_of (found new p) s ≡ cond (s == c.args.slot && is_among p c.args.prefixes.now) (Some route) (held_of (found old p) s) =
    λ p s. c.hold_all.ensures.held p s ∙ ap (cond (s == c.args.slot && is_among p c.args.prefixes.now) (Some route)) (c.ready_all.ensures.held p s) in (
      still_needed old new c.args.prefixes.now c.self.invariant.0 c.hold_all.ensures.rows (λ p out. c.hold_all.ensures.others p out ∙ c.ready_all.ensures.others p out) c.hold_all.ensures.needed,
      send_marks (sent_of old) (sent_of new) c.args.slot c.self.inside.marks.holders c.self.inside.marks.askers c.self.inside.marks.all_asked c.send.new.self.holders c.send.new.self.askers c.send.new.self.all_asked c.self.invariant.1
          (put_others old new rising also c.args.slot told (λ o. Some route) put) (sent_rising new also c.args.slot) told (put_asked old new rising also c.args.slot told (λ o. Some route) put) c.send.ensures.holders c.send.ensures.askers c.send.ensures.all_asked,
    )

pub returns-clause-held : goal.returns-clause-held
returns-clause-held g c =
    let old = c.self.inside.rows.entries in
    let new = c.hold_all.new.rows.entries in
    let rising = c.self.invariant.0.0 in
    let also = c.hold_all.ensures.rows.0 in
    let told : Prefix → Bool = λ q. is_among q c.args.prefixes.now in
    let route : HeldRoute = record { octets = c.args.attrs.now; asked = false } in
    let put : (p : Prefix) (s : ℕ) → held_of (found new p) s ≡ cond (s == c.args.slot && is_among p c.args.prefixes.now) (Some route) (held_of (found old p) s) =
    λ p s. c.hold_all.ensures.held p s ∙ ap (cond (s == c.args.slot && is_among p c.args.prefixes.now) (Some route)) (c.ready_all.ensures.held p s) in
    rw (← c.self.view_is) (put_held old new rising also c.args.slot told (λ o. Some route) put)

pub returns-clause-asked : goal.returns-clause-asked
returns-clause-asked g c =
    let old = c.self.inside.rows.entries in
    let new = c.hold_all.new.rows.entries in
    let rising = c.self.invariant.0.0 in
    let also = c.hold_all.ensures.rows.0 in
    let told : Prefix → Bool = λ q. is_among q c.args.prefixes.now in
    let route : HeldRoute = record { octets = c.args.attrs.now; asked = false } in
    let put : (p : Prefix) (s : ℕ) → held_of (found new p) s ≡ cond (s == c.args.slot && is_among p c.args.prefixes.now) (Some route) (held_of (found old p) s) =
    λ p s. c.hold_all.ensures.held p s ∙ ap (cond (s == c.args.slot && is_among p c.args.prefixes.now) (Some route)) (c.ready_all.ensures.held p s) in
    rw (← c.self.view_is) (put_asked old new rising also c.args.slot told (λ o. Some route) put)

pub returns-clause-others : goal.returns-clause-others
returns-clause-others g c =
    let old = c.self.inside.rows.entries in
    let new = c.hold_all.new.rows.entries in
    let rising = c.self.invariant.0.0 in
    let also = c.hold_all.ensures.rows.0 in
    let told : Prefix → Bool = λ q. is_among q c.args.prefixes.now in
    let route : HeldRoute = record { octets = c.args.attrs.now; asked = false } in
    let put : (p : Prefix) (s : ℕ) → held_of (found new p) s ≡ cond (s == c.args.slot && is_among p c.args.prefixes.now) (Some route) (held_of (found old p) s) =
    λ p s. c.hold_all.ensures.held p s ∙ ap (cond (s == c.args.slot && is_among p c.args.prefixes.now) (Some route)) (c.ready_all.ensures.held p s) in
    rw (← c.self.view_is) (put_others old new rising also c.args.slot told (λ o. Some route) put)

pub returns-clause-rest : goal.returns-clause-rest
returns-clause-rest g c =
    let old = c.self.inside.rows.entries in
    let new = c.hold_all.new.rows.entries in
    let rising = c.self.invariant.0.0 in
    let also = c.hold_all.ensures.rows.0 in
    rw (← c.self.view_is) (rest_same old new rising also c.self.inside.meter.count (λ p. c.hold_all.ensures.routed p ∙ c.ready_all.ensures.routed p))
