use Rattle.std.proofs.Common.{◌≡◌, ◌∙◌, List, Some, true, sym, ap, subst}
use Rattle.net_prefix.specs.declared.payload.Vrp.{Vrp}
use Rattle.rib_in.specs.LatestRoutes.{HasRoute}
use Rattle.decision.specs.BookContents.{offer_at}
use Rattle.rtr_codec.specs.ClientTable.{in_force}
use Rattle.rtr_session.specs.SessionState.{Session as CacheSession}
use Rattle.speaker.specs.CacheMoves.{KeepsCache, Revalidates, RevalidatesFrom, concerns, last_change}
use Rattle.routing.specs.Chosen.{OncePerPrefix}
use Rattle.routing.specs.Offers.{AreMadeWhere}
use Rattle.runs.specs.SpeakerState.{SpeakerState, payloads_in, tables_of}
use Rattle.vrp_delta.specs.Delta.{change_between}

-- The same, told of a state that is written otherwise.

pub revalidated : (before : List Vrp) (a old new : SpeakerState) → a ≡ old → RevalidatesFrom before a new → RevalidatesFrom before old new
revalidated before a old new same moves = subst (λ x. RevalidatesFrom before x new) same moves

-- the cache session has taken its event, and the routes that this concerns have been judged again
pub revalidates_from : (a old mid new : SpeakerState) → a ≡ old → mid ≡ record a { cache = mid.cache; payloads = mid.payloads } → RevalidatesFrom a.payloads mid new → Revalidates old new
revalidates_from a old mid new same is moves = subst (λ x. Revalidates x new) same (record {
  config = moves.config ∙ ap (λ (x : SpeakerState). x.config) is;
  moment = moves.moment ∙ ap (λ (x : SpeakerState). x.moment) is;
  conf = moves.conf ∙ ap (λ (x : SpeakerState). x.conf) is;
  links = moves.links ∙ ap (λ (x : SpeakerState). x.links) is;
  adj_in = moves.adj_in ∙ ap (λ (x : SpeakerState). x.adj_in) is;
  made = subst (λ (x : SpeakerState). AreMadeWhere (tables_of new) (concerns x.conf.exceptions a.payloads new.payloads) (offer_at x.book) (offer_at new.book)) is moves.made;
  chosen = subst (λ (x : SpeakerState). OncePerPrefix (λ p. (concerns x.conf.exceptions a.payloads new.payloads p ≡ true) × HasRoute x.adj_in p) x.chosen new.chosen) is moves.chosen;
  chosen_before = moves.chosen_before ∙ ap (λ (x : SpeakerState). x.chosen_before) is;
})

-- the session of a speaker became another, and what that changed of the payloads in force has been treated
pub record CacheMoved (s t : CacheSession) (old new : SpeakerState) : Type 0 where
  pub was : old.cache ≡ Some s
  pub is : new.cache ≡ Some t
  pub payloads : new.payloads ≡ in_force t.client
  pub moves : Revalidates old new

pub cache_moved : (a old mid new : SpeakerState) (s t : CacheSession) → a ≡ old → a.cache ≡ Some s → a.payloads ≡ payloads_in a.cache → mid ≡ record a { cache = Some t; payloads = mid.payloads } → t.changed ≡ change_between (in_force s.client) (in_force t.client)
    → mid.payloads ≡ in_force t.client → ((before : List Vrp) → last_change mid.cache ≡ change_between before mid.payloads → RevalidatesFrom before mid new) → KeepsCache mid new → CacheMoved s t old new
cache_moved a old mid new s t same found kept is changes follows touched keeps =
    let now : mid.cache ≡ Some t = ap (λ (x : SpeakerState). x.cache) is in
    let before : a.payloads ≡ in_force s.client = kept ∙ ap payloads_in found in
    let told : last_change mid.cache ≡ change_between a.payloads mid.payloads = ap last_change now ∙ changes ∙ ap (λ x. change_between x (in_force t.client)) (sym before) ∙ ap (λ x. change_between a.payloads x) (sym follows) in
    record {
      was = ap (λ (x : SpeakerState). x.cache) (sym same) ∙ found;
      is = keeps.cache ∙ now;
      payloads = keeps.payloads ∙ follows;
      moves = revalidates_from a old mid new same (is ∙ ap (λ x. record a { cache = x; payloads = mid.payloads }) (sym now)) (touched a.payloads told);
    }
