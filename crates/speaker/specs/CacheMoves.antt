-- What an event of the cache session makes of the speaker (RFC 8210 section 8, RFC 6811 section 2).
use Rattle.std.specs.Prelude.{◌≡◌, Bool, List, Option, Some, None, true}
use Rattle.decision.specs.BookContents.{offer_at}
use Rattle.local_exceptions.specs.ExceptionSets.{ExceptionSets, behind}
use Rattle.net_prefix.specs.declared.payload.Vrp.{Vrp}
use Rattle.net_prefix.specs.declared.prefix.Prefix.{Prefix}
use Rattle.origin_valid.specs.Stretches.{changed_prefixes, stretches}
use Rattle.rib_in.specs.LatestRoutes.{HasRoute}
use Rattle.routing.specs.Chosen.{OncePerPrefix}
use Rattle.routing.specs.Offers.{AreMadeWhere, is_within}
use Rattle.runs.specs.SpeakerState.{SpeakerState, tables_of}
use Rattle.rtr_session.specs.SessionState.{Session as CacheSession}
use Rattle.vrp_delta.specs.Delta.{Change, change_between}
use Rattle.vrp_delta.specs.Keeping.{no_change}

-- whether a change from one set of loaded payloads to another concerns the prefix: behind the exceptions, one that comes or goes
-- covers it
abbrev pub concerns : ExceptionSets → List Vrp → List Vrp → Prefix → Bool
concerns exceptions before after = is_within (stretches (changed_prefixes (behind exceptions (change_between before after))))

-- the loaded payloads were these and have become others: the routes that this concerns are judged again, and a best route was
-- chosen once at most for each of their prefixes. But for the cache session and the payloads nothing else changes
pub record RevalidatesFrom (before : List Vrp) (old new : SpeakerState) : Type 0 where
  pub config : new.config ≡ old.config
  pub moment : new.moment ≡ old.moment
  pub conf : new.conf ≡ old.conf
  pub links : new.links ≡ old.links
  pub adj_in : new.adj_in ≡ old.adj_in
  pub made : AreMadeWhere (tables_of new) (concerns old.conf.exceptions before new.payloads) (offer_at old.book) (offer_at new.book)
  pub chosen : OncePerPrefix (λ p. (concerns old.conf.exceptions before new.payloads p ≡ true) × HasRoute old.adj_in p) old.chosen new.chosen
  pub chosen_before : new.chosen_before ≡ old.chosen_before

-- so it is from the one state to the other
abbrev pub Revalidates : SpeakerState → SpeakerState → Type 0
Revalidates old new = RevalidatesFrom old.payloads old new

-- what the last event of the cache session changed of the loaded payloads, where there is such a session
abbrev pub last_change : Option CacheSession → Change
last_change None = no_change
last_change (Some session) = session.changed

-- the cache session and the payloads stay
pub record KeepsCache (old new : SpeakerState) : Type 0 where
  pub cache : new.cache ≡ old.cache
  pub payloads : new.payloads ≡ old.payloads
