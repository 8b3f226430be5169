-- How often a best route was chosen from one state to the next, in the midst of a call (own, for RFC 4271 section 9.1).
use Rattle.std.specs.Prelude.{◌≡◌, ◌≤◌, ◌+◌, ℕ, Bool, List, [], length, Option, true, false}
use Rattle.std.specs.Option.{IsSome}
use Rattle.bgp_msg.specs.UpdateMeaning.{UpdateBody}
use Rattle.net_prefix.specs.declared.prefix.Prefix.{Prefix}
use Rattle.rib_in.specs.LatestRoutes.{route_at}
use Rattle.routing.specs.Updates.{word_if}
use Rattle.routing.specs.Chosen.{named_if, AreDifferent, Ends}
use Rattle.runs.specs.SpeakerState.{SpeakerState}

-- a session takes an input: where it leaves Established, as above; else none is chosen
pub record Chooses (slot : ℕ) (left : Bool) (old new : SpeakerState) : Type 0 where
  pub ends : left ≡ true → Ends slot old.adj_in old.chosen new.chosen
  pub stays : left ≡ false → new.chosen ≡ old.chosen

-- a message that is taken: once for each prefix that its UPDATE names, and for the routes of a session that it ends
pub record ChoosesHeard (slot : ℕ) (update : Option UpdateBody) (left : Bool) (old new : SpeakerState) : Type 0 where
  pub ended : List Prefix
  pub routed : AreDifferent (λ p. IsSome (word_if update p (route_at old.adj_in slot p))) ended
  pub none : left ≡ false → ended ≡ []
  pub chosen : new.chosen ≤ old.chosen + named_if update + length ended
