use Rattle.std.proofs.Common.{◌≡◌, ◌≤◌, ◌+◌, ◌==◌, ℕ, List, Some, Result, OnErr, OnOk, cond}
use Rattle.bgp_conf.specs.Configuration.{Configuration}
use Rattle.bgp_fsm.specs.declared.state.State.TheVariants.{Established}
use Rattle.bgp_msg.specs.UpdateMeaning.{UpdateBody}
use Rattle.net_prefix.specs.declared.payload.Vrp.{Vrp}
use Rattle.net_prefix.specs.declared.prefix.Prefix.{Prefix}
use Rattle.rib_in.specs.LatestRoutes.{route_at}
use Rattle.routing.specs.Candidates.{judged_at}
use Rattle.routing.specs.Chosen.{named_in}
use Rattle.routing.specs.Heard.{KeepsUnnamed}
use Rattle.routing.specs.Offers.{KeepsHeard}
use Rattle.routing.specs.RoutingState.{RoutingState, StayWhole}
use Rattle.routing.specs.Taken.{IsTaken}
use Rattle.routing.specs.Updates.{is_among, is_only_withdrawn, word_of}
use Rattle.routing.specs.declared.updates.Sender.{Sender}
use Rattle.routing.proofs.HeardOffers.{kept_taken, unnamed_taken, words_taken}
use Rattle.routing.proofs.Results.{OnErr-as, OnOk-as, most_where}

-- What follows where an UPDATE is taken.

pub taken_routes : {T F : Type 0} (r : Result T F) (conf : Configuration) (payloads : List Vrp) (sender : Sender) (update : UpdateBody) (old new : RoutingState) → OnOk r (IsTaken conf payloads sender update old new)
    → OnOk r ((s : ℕ) (p : Prefix) → route_at new.adj_in s p ≡ cond (s == sender.slot) (word_of update p (route_at old.adj_in s p)) (route_at old.adj_in s p))
taken_routes r conf payloads sender update old new = OnOk-as r (IsTaken conf payloads sender update old new) _ (λ t. words_taken sender.slot update (route_at old.adj_in) (route_at new.adj_in) t.routes)

pub taken_unnamed : {T F : Type 0} (r : Result T F) (conf : Configuration) (payloads : List Vrp) (sender : Sender) (update : UpdateBody) (old new : RoutingState) → OnOk r (IsTaken conf payloads sender update old new)
    → OnOk r (KeepsUnnamed sender.slot (Some update) old.book new.book)
taken_unnamed r conf payloads sender update old new = OnOk-as r (IsTaken conf payloads sender update old new) _ (λ t. unnamed_taken sender.slot update (judged_at conf payloads update.attrs t.found) old new t.offers)

pub taken_kept : {T F : Type 0} (r : Result T F) (conf : Configuration) (payloads : List Vrp) (sender : Sender) (update : UpdateBody) (old new : RoutingState) → OnOk r (IsTaken conf payloads sender update old new)
    → OnOk r (KeepsHeard conf payloads sender Established old new)
taken_kept r conf payloads sender update old new =
    OnOk-as r (IsTaken conf payloads sender update old new) _
    (λ t. kept_taken conf payloads sender update.attrs t.found (is_only_withdrawn update.withdrawn update.announced) (λ p. is_among p update.announced) old new t.made t.routes t.offers)

pub taken_chosen : {T F : Type 0} (r : Result T F) (conf : Configuration) (payloads : List Vrp) (sender : Sender) (update : UpdateBody) (old new : RoutingState) → OnOk r (IsTaken conf payloads sender update old new)
    → OnErr r (StayWhole old.adj_in new.adj_in old.book new.book old.chosen new.chosen) → new.chosen ≤ old.chosen + named_in update
taken_chosen r conf payloads sender update old new taken refused =
    most_where r old.chosen new.chosen (named_in update) (OnOk-as r (IsTaken conf payloads sender update old new) _ (λ t. t.chosen) taken)
    (OnErr-as r (StayWhole old.adj_in new.adj_in old.book new.book old.chosen new.chosen) _ (λ stays. stays.chosen) refused)
