use Rattle.std.proofs.Common.{◌≢◌, ◌∙◌, take, refl, ap, arith}
use Rattle.net_prefix.specs.declared.transport.Transport.TheVariants.{Open as Connected}
use Rattle.rtr_codec.specs.ClientTable.{transport_of}
use Rattle.runs.specs.SpeakerState.{SpeakerState}
use Rattle.speaker.proofs.CacheSteps.{cache_dropped_whole, cache_heard, cache_starves}
use Rattle.speaker.proofs.Revalidating.{cache_moved}
use Rattle.speaker.proofs.step.Speaker.hear_cache_next.Goals as goal

pub returns-in_default-transport-clause-heard : goal.returns-in_default-transport-clause-heard
returns-in_default-transport-clause-heard g c = λ unstarved.
    let shut : transport_of c.in-Some.session.client ≢ Connected = λ stands. c.in_default-transport.not-Open (c.transport.ensures ∙ stands) in
    cache_dropped_whole c.args.octets.now c.in-Some.session _ _ _ c.self.view_is refl c.in-Some.is shut

pub returns-clause-heard : goal.returns-clause-heard
returns-clause-heard g c = λ unstarved config r done holds.
    let m = cache_moved _ c.args.self.now _ c.choose_touched.new.self c.in-Some.session c.hear_next-heard.new.self c.self.view_is c.in-Some.is c.self.invariant refl c.hear_next-heard.ensures.changes c.hear_next-heard.ensures.kept c.choose_touched.ensures.touched c.choose_touched.ensures.keeps in
    cache_heard config r done (take c.hear_next-heard.result.count c.args.octets.now) c.in-Some.session c.hear_next-heard.new.self c.args.self.now c.choose_touched.new.self holds m.was m.is
    (λ k a at. c.hear_next-heard.ensures.agrees config.cache_retry k a (ap (λ (x : SpeakerState). x.moment) c.self.view_is ∙ at) unstarved) m.payloads m.moves

pub returns-clause-starved : goal.returns-clause-starved
returns-clause-starved g c = λ starved config r done holds.
    let m = cache_moved _ c.args.self.now _ c.choose_touched.new.self c.in-Some.session c.hear_next-heard.new.self c.self.view_is c.in-Some.is c.self.invariant refl c.hear_next-heard.ensures.changes c.hear_next-heard.ensures.kept c.choose_touched.ensures.touched c.choose_touched.ensures.keeps in
    cache_starves config r done c.args.octets.now c.hear_next-heard.result.count c.in-Some.session c.hear_next-heard.new.self c.args.self.now c.choose_touched.new.self holds m.was m.is (let count = c.hear_next-heard.ensures.count in omega (arith, count))
    (λ k a at. c.hear_next-heard.ensures.starves config.cache_retry k a (ap (λ (x : SpeakerState). x.moment) c.self.view_is ∙ at) starved) m.payloads m.moves
