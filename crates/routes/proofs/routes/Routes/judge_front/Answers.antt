use Rattle.std.proofs.Common.{◌≡◌, ◌∙◌, ◌≤◌, ◌+◌, Option, Some, refl, sym, ap, subst}
use Rattle.std.specs.Option.{option_and_then, option_map}
use Rattle.bgp_msg.specs.MessageStream.{meaning}
use Rattle.bgp_peer.specs.SessionInputs.{input_of}
use Rattle.routing.specs.Chosen.{named_if}
use Rattle.routing.specs.Heard.{IsHeard, KeepsUnnamed, TakesMemoryAt, update_heard}
use Rattle.routing.specs.Linked.{Linked}
use Rattle.routing.specs.Tables.{session_at}
use Rattle.routing.proofs.Results.{IfOk-as, OnErr-as, OnErr-is, OnOk-as}
use Rattle.routing.specs.Sent.{linked}
use Rattle.routes.proofs.FoundPeers.{found_as, never_found}
use Rattle.routes.proofs.routes.Routes.judge_front.Goals as goal

some_same : {X : Type 0} (o : Option X) (x y : X) → Some x ≡ o → o ≡ Some y → x ≡ y
some_same o x y a b = cc

pub returns-clause-none : goal.returns-clause-none
returns-clause-none g c = rw (← c.self.view_is) (λ none. absurd (let never = (found_as c.self.inside.links.entries c.self.inside.routing.sent c.args.slot c.in-Some.peer.now c.in-Some.ensures.value) ∙ none in cc))

pub returns-clause-input : goal.returns-clause-input
returns-clause-input g c =
    rw (← c.self.view_is) (IfOk-as c.take_front.result _ _
    (λ found is terms l of linked. subst (λ (x : Linked). found ≡ option_map (input_of x.peer.session.state terms) (meaning x.peer.rest)) (some_same _ _ _ (found_as c.self.inside.links.entries c.self.inside.routing.sent c.args.slot c.in-Some.peer.now c.in-Some.ensures.value) linked) (is terms of))
    c.take_front.ensures.input)

pub returns-clause-routes : goal.returns-clause-routes
returns-clause-routes g c =
    rw (← c.self.view_is) (OnOk-as c.take_front.result _ _
    (λ heard terms l of linked. subst (λ (x : Linked). IsHeard c.args.slot (option_and_then (update_heard x.peer.session.state terms) (meaning x.peer.rest)) c.self.inside.routing.adj_in c.take_front.new.routing.adj_in) (some_same _ _ _ (found_as c.self.inside.links.entries c.self.inside.routing.sent c.args.slot c.in-Some.peer.now c.in-Some.ensures.value) linked) (heard terms of))
    c.take_front.ensures.routes)

pub returns-clause-unnamed : goal.returns-clause-unnamed
returns-clause-unnamed g c =
    rw (← c.self.view_is) (OnOk-as c.take_front.result _ _
    (λ kept terms l of linked. subst (λ (x : Linked). KeepsUnnamed c.args.slot (option_and_then (update_heard x.peer.session.state terms) (meaning x.peer.rest)) c.self.inside.routing.book c.take_front.new.routing.book) (some_same _ _ _ (found_as c.self.inside.links.entries c.self.inside.routing.sent c.args.slot c.in-Some.peer.now c.in-Some.ensures.value) linked) (kept terms of))
    c.take_front.ensures.unnamed)

pub returns-clause-chosen : goal.returns-clause-chosen
returns-clause-chosen g c =
    rw (← c.self.view_is) (OnOk-as c.take_front.result _ _
    (λ few terms l of linked. subst (λ (x : Linked). c.take_front.new.routing.chosen ≤ c.self.inside.routing.chosen + named_if (option_and_then (update_heard x.peer.session.state terms) (meaning x.peer.rest))) (some_same _ _ _ (found_as c.self.inside.links.entries c.self.inside.routing.sent c.args.slot c.in-Some.peer.now c.in-Some.ensures.value) linked) (few terms of))
    c.take_front.ensures.chosen)

pub returns-clause-kept : goal.returns-clause-kept
returns-clause-kept g c =
    let told : c.in-Some.peer.now.session.identifier ≡ c.identifier.result = sym c.identifier.ensures in
    rw (← c.self.view_is) (OnOk-as c.take_front.result _ _
    (λ kept. rw c.take_front.ensures.sent (kept c.in-Some.peer.now.session refl told (session_at (linked c.self.inside.links.entries c.self.inside.routing.sent)) (ap (option_map (λ (l : Linked). l.peer.session)) (sym (found_as c.self.inside.links.entries c.self.inside.routing.sent c.args.slot c.in-Some.peer.now c.in-Some.ensures.value)))))
    c.take_front.ensures.kept)

pub returns-clause-memory : goal.returns-clause-memory
returns-clause-memory g c =
    rw (← c.self.view_is) (OnErr-as c.take_front.result _ _
    (λ takes l linked. subst (λ x. TakesMemoryAt c.args.standard.kind x) (some_same _ _ _ (found_as c.self.inside.links.entries c.self.inside.routing.sent c.args.slot c.in-Some.peer.now c.in-Some.ensures.value) linked) takes)
    c.take_front.ensures.memory)

pub returns-clause-within : goal.returns-clause-within
returns-clause-within g c = OnErr-is _ _ (c.self.invariant.1.there.within c.args.slot _ (sym (found_as c.self.inside.links.entries c.self.inside.routing.sent c.args.slot c.in-Some.peer.now c.in-Some.ensures.value)))

pub returns-clause-refused : goal.returns-clause-refused
returns-clause-refused g c = rw (← c.self.view_is) c.take_front.ensures.refused

pub returns-clause-rest : goal.returns-clause-rest
returns-clause-rest g c = rw (← c.self.view_is, c.take_front.ensures.sent) refl

pub returns-clause-rises : goal.returns-clause-rises
returns-clause-rises g c = rw (← c.self.view_is) c.take_front.ensures.rises

pub returns-in_default-clause-input : goal.returns-in_default-clause-input
returns-in_default-clause-input g c = λ terms l of there.
    absurd (never_found c.self.inside.links.entries c.self.inside.routing.sent c.args.slot l c.in_default.ensures.value (rw (← c.self.view_is) at there))

pub returns-in_default-clause-routes : goal.returns-in_default-clause-routes
returns-in_default-clause-routes g c = λ terms l of there s prefix.
    absurd (never_found c.self.inside.links.entries c.self.inside.routing.sent c.args.slot l c.in_default.ensures.value (rw (← c.self.view_is) at there))
