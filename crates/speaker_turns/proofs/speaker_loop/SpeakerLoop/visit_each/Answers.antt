use Rattle.std.proofs.Common.{◌≡◌, ◌<◌, ◌≤◌, ◌||◌, ℕ, suc, Bool, Option, IfSome, ap, sym, subst, is_some, length, nat_lt, ◌∙◌}
use native.Mathlib.Numerals.{unary_clauses}
use Rattle.speaker_turns.specs.Turns.{AtPlace, AtPlaces, Turns, VisitsBut}
use Rattle.speaker_turns.proofs.Places.{as_many}
use Rattle.speaker_turns.proofs.Ending.{below_it, few, one_few, one_within, visited_more, visits_unless}
use Rattle.speaker_turns.proofs.speaker_loop.SpeakerLoop.visit_each.Goals as goal

pub loop-place-preserved : goal.loop-place-preserved
loop-place-preserved g c =
    let i = c.loop-place.invariant in
    let next = c.args.self.now.next in
    let one = c.loop-place.one in
    let key = c.loop-place.place in
    let test : c.is_put_off-is_off.result ≡ (nat_lt key next || is_some one) = c.is_put_off-is_off.ensures ∙ ap (λ (n : ℕ). nat_lt key n || is_some one) (ap (λ (t : Turns). t.next) c.self-in-loop-place.view_is ∙ i.1) in
    let place = subst (λ (b : Bool). AtPlace (visits_unless b c.args.now c.visit-is_one.result) c.loop-place.self key c.visit-is_one.new.self) test c.visit-is_one.ensures.visits in
    let there : key < 65 = few key (length c.args.self.now.places) (subst (λ (n : ℕ). key < n) i.4 c.loop-place-test.true) (ap (λ (t : Turns). length t.places) (sym c.self.view_is) ∙ c.self.invariant) in (
      simp unary_clauses
          (subst (λ (o : Option ℕ). AtPlaces (VisitsBut next o c.args.now) (suc key) c.args.self.now c.visit-is_one.new.self) (sym c.the_one-one.ensures) (visited_more next one c.args.now key c.visit-is_one.result c.args.self.now c.loop-place.self c.visit-is_one.new.self there (below_it next key one i.2) i.0 place)),
      place.next ∙ i.1,
      simp unary_clauses
          (subst (λ (o : Option ℕ). IfSome o (λ found. (next ≤ found) × (found < suc key))) (sym c.the_one-one.ensures) (one_within next key one c.visit-is_one.result c.args.now c.loop-place.self c.visit-is_one.new.self i.2 place)),
      as_many c.loop-place.self c.visit-is_one.new.self key place.left place.places ∙ i.3,
      i.4,
      c.visit-is_one.ensures.room,
    )

pub returns-clause-few : goal.returns-clause-few
returns-clause-few g c =
    let i = c.loop-place.invariant in
    one_few c.loop-place.one c.args.self.now.next c.loop-place.place (length c.args.self.now.places) (ap (λ (t : Turns). length t.places) (sym c.self.view_is) ∙ c.self.invariant)
    (subst (λ (n : ℕ). c.loop-place.place ≤ n) i.4 c.loop-place.auto.place-end) i.2
