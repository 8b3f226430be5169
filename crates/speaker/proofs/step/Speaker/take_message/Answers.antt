use Rattle.std.proofs.Common.{◌≡◌, ◌∙◌, ℕ, refl, sym, ap, subst}
use Rattle.bgp_conf.specs.Configuration.{peer_at}
use Rattle.bgp_fsm.specs.SessionTable.{effects_of}
use Rattle.bgp_fsm.specs.declared.input.Input.TheVariants.{NoMemory}
use Rattle.bgp_peer.specs.SessionInputs.{kind_of}
use Rattle.routing.specs.Heard.{TakesMemoryAt}
use Rattle.routing.specs.RoutesState.{RoutesState}
use Rattle.routing.specs.Tables.{link_at}
use Rattle.runs.specs.Runs.{terms_in}
use Rattle.runs.specs.SpeakerState.{SpeakerState}
use Rattle.speaker.proofs.Messages.{refused_chosen, rises_once, rises_twice, starves, takes, takes_none, some_same}
use Rattle.speaker.proofs.step.Speaker.take_message.Goals as goal

pub judge_front-requires : goal.judge_front-requires
judge_front-requires g c = (terms_in c.self.inside.config c.in-Some.peer, record { expected_is = refl; kind_is = c.between.ensures })

pub returns-in-Some-heard-clause-taken : goal.returns-in-Some-heard-clause-taken
returns-in-Some-heard-clause-taken g c = λ l peer linked configured.
    let linked_here = rw (← c.self.view_is) at linked in
    let configured_here = rw (← c.self.view_is) at configured in
    let peer_same : c.in-Some.peer ≡ peer = some_same _ _ _ (c.in-Some.ensures ∙ ap (λ x. peer_at x c.args.slot) c.conf.ensures) configured_here in
    let rest = c.judge_front.ensures.rest in
    let links : (s : ℕ) → link_at c.judge_front.new.self.links s ≡ link_at c.self.inside.routes.links s = λ s. ap (λ (r : RoutesState). link_at r.links s) rest in
    let linked_now = links c.args.slot ∙ linked_here in
    rw (← peer_same, ← c.self.view_is)
    (takes c.args.slot (terms_in c.self.inside.config c.in-Some.peer) l _ c.in-Some-heard.input _ _ _
    (sym c.in-Some-heard.is ∙ c.in-Ok.ensures.input (terms_in c.self.inside.config c.in-Some.peer) l (record { expected_is = refl; kind_is = c.between.ensures }) linked_here)
    (c.in-Ok.ensures.routes (terms_in c.self.inside.config c.in-Some.peer) l (record { expected_is = refl; kind_is = c.between.ensures }) linked_here)
    (c.in-Ok.ensures.chosen (terms_in c.self.inside.config c.in-Some.peer) l (record { expected_is = refl; kind_is = c.between.ensures }) linked_here)
    c.in-Ok.ensures.kept
    (record { config = refl; moment = refl; conf = ap (λ (r : RoutesState). r.conf) rest; cache = refl; payloads = c.judge_front.ensures.payloads; chosen_before = refl })
    links
    linked_now
    (c.input-in-Some-heard.ensures.moves l linked_now)
    (c.input-in-Some-heard.ensures.chosen l linked_now))

pub returns-in_default-heard-clause-taken : goal.returns-in_default-heard-clause-taken
returns-in_default-heard-clause-taken g c = λ l peer linked configured.
    let linked_here = rw (← c.self.view_is) at linked in
    let configured_here = rw (← c.self.view_is) at configured in
    let peer_same : c.in-Some.peer ≡ peer = some_same _ _ _ (c.in-Some.ensures ∙ ap (λ x. peer_at x c.args.slot) c.conf.ensures) configured_here in
    let rest = c.judge_front.ensures.rest in
    let links : (s : ℕ) → link_at c.judge_front.new.self.links s ≡ link_at c.self.inside.routes.links s = λ s. ap (λ (r : RoutesState). link_at r.links s) rest in
    rw (← peer_same, ← c.self.view_is)
    (takes_none c.args.slot (terms_in c.self.inside.config c.in-Some.peer) l _ _ _
    (sym c.in_default-heard.is ∙ c.in-Ok.ensures.input (terms_in c.self.inside.config c.in-Some.peer) l (record { expected_is = refl; kind_is = c.between.ensures }) linked_here)
    (c.in-Ok.ensures.routes (terms_in c.self.inside.config c.in-Some.peer) l (record { expected_is = refl; kind_is = c.between.ensures }) linked_here)
    (c.in-Ok.ensures.chosen (terms_in c.self.inside.config c.in-Some.peer) l (record { expected_is = refl; kind_is = c.between.ensures }) linked_here)
    c.judge_front.ensures.rises
    c.in-Ok.ensures.kept
    (record { config = refl; moment = refl; conf = ap (λ (r : RoutesState). r.conf) rest; cache = refl; payloads = c.judge_front.ensures.payloads; chosen_before = refl })
    links)

pub returns-in-Err-clause-starved : goal.returns-in-Err-clause-starved
returns-in-Err-clause-starved g c = λ l peer linked configured.
    let linked_here = rw (← c.self.view_is) at linked in
    let configured_here = rw (← c.self.view_is) at configured in
    let peer_same : c.in-Some.peer ≡ peer = some_same _ _ _ (c.in-Some.ensures ∙ ap (λ x. peer_at x c.args.slot) c.conf.ensures) configured_here in
    let rest = c.judge_front.ensures.rest in
    let links : (s : ℕ) → link_at c.judge_front.new.self.links s ≡ link_at c.self.inside.routes.links s = λ s. ap (λ (r : RoutesState). link_at r.links s) rest in
    let linked_now = links c.args.slot ∙ linked_here in
    let kind : c.between.result ≡ kind_of (terms_in c.self.inside.config c.in-Some.peer) = c.between.ensures in
    let takes : TakesMemoryAt (kind_of (terms_in c.self.inside.config c.in-Some.peer)) l = subst (λ k. TakesMemoryAt k l) kind (c.in-Err.ensures.memory l linked_here) in
    let refused = c.in-Err.ensures.refused in
    rw (← peer_same, ← c.self.view_is) (
      takes,
      starves c.args.slot l _ _ _ takes.established links (λ s p other. refused.routes s p) (λ s p other. refused.offers s p)
          (record { config = refl; moment = refl; conf = ap (λ (r : RoutesState). r.conf) rest; cache = refl; payloads = c.judge_front.ensures.payloads; chosen_before = refl }) (c.input.ensures.moves l linked_now),
      refused_chosen c.args.slot (effects_of NoMemory l.peer.session).left _ _ _ _ (rw takes.established refl) refused.routes refused.chosen (c.input.ensures.chosen l linked_now),
    )

pub returns-in-Err-clause-within : goal.returns-in-Err-clause-within
returns-in-Err-clause-within g c = c.in-Err.ensures.within

pub returns-in-Err-clause-counted : goal.returns-in-Err-clause-counted
returns-in-Err-clause-counted g c = c.input.ensures.counted ∙ ap (λ (s : SpeakerState). s.chosen_before) c.self.view_is

pub returns-in-Some-heard-clause-counted : goal.returns-in-Some-heard-clause-counted
returns-in-Some-heard-clause-counted g c = c.input-in-Some-heard.ensures.counted ∙ ap (λ (s : SpeakerState). s.chosen_before) c.self.view_is

pub returns-in-Err-clause-rises : goal.returns-in-Err-clause-rises
returns-in-Err-clause-rises g c = rises_twice _ _ _ _ (ap (λ (s : SpeakerState). s.chosen) c.self.view_is) c.judge_front.ensures.rises c.input.ensures.rises

pub returns-in-Some-heard-clause-rises : goal.returns-in-Some-heard-clause-rises
returns-in-Some-heard-clause-rises g c = rises_twice _ _ _ _ (ap (λ (s : SpeakerState). s.chosen) c.self.view_is) c.judge_front.ensures.rises c.input-in-Some-heard.ensures.rises

pub returns-in_default-heard-clause-rises : goal.returns-in_default-heard-clause-rises
returns-in_default-heard-clause-rises g c = rises_once _ _ _ (ap (λ (s : SpeakerState). s.chosen) c.self.view_is) c.judge_front.ensures.rises

pub returns-in_default-heard-clause-counted : goal.returns-in_default-heard-clause-counted
returns-in_default-heard-clause-counted g c = ap (λ (s : SpeakerState). s.chosen_before) c.self.view_is
