-- An UPDATE that announces routes, once it is taken (RFC 4271 section 4.3).
use Rattle.std.specs.Prelude.{◌≡◌, ◌==◌, ◌&&◌, ◌≤◌, ◌+◌, ℕ, List, Option, Some, None, if◌then◌else◌}
use Rattle.bgp_msg.specs.UpdateMeaning.{UpdateBody}
use Rattle.decision.specs.BookContents.{offer_at}
use Rattle.decision.specs.declared.candidate.Candidate.{Candidate}
use Rattle.bgp_conf.specs.Configuration.{Configuration}
use Rattle.net_prefix.specs.declared.payload.Vrp.{Vrp}
use Rattle.net_prefix.specs.declared.prefix.Prefix.{Prefix}
use Rattle.rib_in.specs.LatestRoutes.{route_at}
use Rattle.routing.specs.Candidates.{IsMade, judged_at}
use Rattle.routing.specs.Chosen.{named_in}
use Rattle.routing.specs.RoutingState.{RoutingState}
use Rattle.routing.specs.Updates.{is_among, is_only_withdrawn}
use Rattle.routing.specs.declared.updates.Sender.{Sender}

-- of the sender this is what there is for each prefix that is announced, nothing for what is only withdrawn, and all else as before
abbrev pub Replaces : {X : Type 0} → Sender → UpdateBody → (Prefix → Option X) → (ℕ → Prefix → Option X) → (ℕ → Prefix → Option X) → Type 0
Replaces sender update what old new =
    (s : ℕ) (prefix : Prefix) → new s prefix ≡ (if s == sender.slot && is_among prefix update.announced then what prefix else (if s == sender.slot && is_only_withdrawn update.withdrawn update.announced prefix then None else old s prefix))

-- the sender's routes are those of the UPDATE, its candidates are what its attributes make of each prefix, and a best route is chosen
-- once at most for each prefix that it names
pub record IsTaken (conf : Configuration) (payloads : List Vrp) (sender : Sender) (update : UpdateBody) (old new : RoutingState) : Type 0 where
  pub found : Option Candidate
  pub made : IsMade conf sender.slot sender.identifier update.attrs found
  pub routes : Replaces sender update (λ prefix. Some update.attrs) (route_at old.adj_in) (route_at new.adj_in)
  pub offers : Replaces sender update (judged_at conf payloads update.attrs found) (offer_at old.book) (offer_at new.book)
  pub chosen : new.chosen ≤ old.chosen + named_in update
