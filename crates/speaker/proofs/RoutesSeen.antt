use Rattle.std.proofs.Common.{◌≡◌, ◌++◌, ◌⊎◌, ◌∙◌, ℕ, Bool, true, false, List, Option, Some, None, MatchOption, OnErr, OnOk, Result, Ok, Err, take, drop, inl, inr, refl, sym, ap, subst}
use Rattle.std.specs.Option.{IsSome}
use Rattle.bgp_conf.specs.ConfAfter.{conf_after}
use Rattle.bgp_conf.specs.Configuration.{Configuration, peer_at}
use Rattle.bgp_conf.specs.declared.command.Command.TheVariants.{Network}
use Rattle.bgp_fsm.specs.declared.state.State.TheVariants.{Established}
use Rattle.bgp_peer.specs.Slot.{handed}
use Rattle.decision.specs.BookContents.{rows_of}
use Rattle.net_prefix.specs.declared.prefix.Prefix.{Prefix}
use Rattle.routing.specs.Linked.{Linked}
use Rattle.routing.specs.Offers.{AreMadeWhere, Offers}
use Rattle.routing.specs.RoutesState.{BringsNetwork, IsSet, RoutesState, StaysAsIs, TellsSlot, payloads_in_force, tables_in}
use Rattle.routing.specs.Tables.{link_at, tables}
use Rattle.rtr_session.specs.SessionState.{Session as CacheSession}
use Rattle.speaker.specs.Moves.{Announces, Hands}
use Rattle.speaker.specs.Serving.{IsServedBy, IsStill, IsToldAt, IsUpAt}
use Rattle.runs.specs.SpeakerState.{IsAsBefore, SpeakerState}
use Rattle.runs.specs.declared.config.Config.{Config}

-- What a call of the routes makes of the speaker.

-- a speaker with these routes
abbrev pub seen : Config → ℕ → Option CacheSession → ℕ → RoutesState → SpeakerState
seen config moment cache before r = record {
  config = config;
  moment = moment;
  conf = r.conf;
  cache = cache;
  payloads = r.payloads;
  links = r.links;
  adj_in = r.adj_in;
  book = r.book;
  loc_rib = rows_of r.book;
  chosen = r.chosen;
  chosen_before = before;
}

pub true_or_false : (b : Bool) → (b ≡ true) ⊎ (b ≡ false)
true_or_false true = inl refl
true_or_false false = inr refl

pub as_before : (config : Config) (moment : ℕ) (cache : Option CacheSession) (before : ℕ) (old new : RoutesState) → StaysAsIs old new → IsAsBefore (seen config moment cache before old) (seen config moment cache before new)
as_before config moment cache before old new same = record {
  config = refl;
  moment = refl;
  conf = same.conf;
  cache = refl;
  payloads = same.payloads;
  links = same.links;
  routes = same.routes;
  offers = same.offers;
  loc_rib = same.rows;
  chosen = same.chosen;
  chosen_before = refl;
}

-- octets of a slot are handed out
pub hands_out : (F : ℕ → Type 0) (config : Config) (moment : ℕ) (cache : Option CacheSession) (counted : ℕ) (slot : ℕ) (l : Linked) (before after : List ℕ) (result : Option ℕ) (old new : RoutesState)
    → MatchOption result ⊥ (λ taken. F taken × (after ≡ take taken l.peer.ring ++ drop taken before) × IsSet slot (Some (record { peer = handed l.peer taken; adj_out = l.adj_out })) old new)
    → new ≡ record old { links = new.links }
    → MatchOption result ⊥ (λ taken. F taken × (after ≡ take taken l.peer.ring ++ drop taken before) × Hands slot l taken (seen config moment cache counted old) (seen config moment cache counted new))
hands_out F config moment cache counted slot l before after None old new some rest = some
hands_out F config moment cache counted slot l before after (Some taken) old new some rest = (
  some.0,
  some.1,
  record {
    links = some.2;
    routes = ap (λ (r : RoutesState). r.adj_in) rest;
    book = ap (λ (r : RoutesState). r.book) rest;
    loc_rib = ap (λ (r : RoutesState). rows_of r.book) rest;
    chosen = ap (λ (r : RoutesState). r.chosen) rest;
    rest = record { config = refl; moment = refl; conf = ap (λ (r : RoutesState). r.conf) rest; cache = refl; payloads = ap (λ (r : RoutesState). r.payloads) rest; chosen_before = refl };
  },
)

-- candidates that were made again, read by what stands before
pub made_of : (holds : Prefix → Bool) (had has : Offers) (old new : RoutesState) → new ≡ record old { conf = new.conf; book = new.book; chosen = new.chosen } → AreMadeWhere (tables_in new) holds had has
    → AreMadeWhere (tables new.conf (payloads_in_force new) old.links old.adj_in) holds had has
made_of holds had has old new rest made = subst (λ (r : RoutesState). AreMadeWhere (tables new.conf (payloads_in_force new) r.links r.adj_in) holds had has) rest made

-- the prefix was a local network already
pub network_there : (config : Config) (moment : ℕ) (cache : Option CacheSession) (counted before : ℕ) (old new : RoutesState) (conf : Configuration) → new ≡ record old { conf = new.conf } → new.conf ≡ conf → before ≡ old.chosen
    → seen config moment cache before new ≡ record (seen config moment cache counted old) { conf = conf; chosen_before = old.chosen }
network_there config moment cache counted before old new conf same is begun =
    ap (seen config moment cache before) (same ∙ ap (λ c. record old { conf = c }) is) ∙ ap (λ n. seen config moment cache n (record old { conf = conf })) begun

-- a local network comes, behind its command
pub announces : (config : Config) (moment : ℕ) (cache : Option CacheSession) (counted before : ℕ) (network : Prefix) (old new : RoutesState) → new.conf ≡ conf_after old.conf (Network network) → BringsNetwork network old new → before ≡ old.chosen
    → Announces network (record (seen config moment cache counted old) { conf = conf_after old.conf (Network network) }) (seen config moment cache before new)
announces config moment cache counted before network old new conf comes begun = record {
  routes = comes.routes;
  offers = comes.offers;
  links = comes.links;
  conf = conf;
  config = refl;
  moment = refl;
  cache = refl;
  payloads = comes.payloads;
  chosen = comes.chosen;
  chosen_before = begun;
}

-- a peer is told
pub told_at : {T F : Type 0} (result : Result T F) (config : Config) (moment : ℕ) (cache : Option CacheSession) (counted : ℕ) (slot : ℕ) (named : List Prefix) (export : Option (List ℕ)) (old new : RoutesState) → OnOk result (TellsSlot slot named export old new)
    → OnOk result (IsToldAt slot named export (seen config moment cache counted old) (seen config moment cache counted new))
told_at (Ok done) config moment cache counted slot named export old new did = record { before = did.before; after = did.after; was = did.was; told = did.told; puts = did.puts; rest = ap (seen config moment cache counted) did.rest }
told_at (Err why) config moment cache counted slot named export old new did = tt

pub still_at : {T F : Type 0} (result : Result T F) (config : Config) (moment : ℕ) (cache : Option CacheSession) (counted : ℕ) (old new : RoutesState) → OnErr result ((t : ℕ) → link_at new.links t ≡ link_at old.links t) → new ≡ record old { links = new.links }
    → OnErr result (IsStill (seen config moment cache counted old) (seen config moment cache counted new))
still_at (Ok done) config moment cache counted old new same rest = tt
still_at (Err why) config moment cache counted old new same rest = record { rest = ap (seen config moment cache counted) rest; links = same }

some_of : {X : Type 0} (o : Option X) → IsSome o → (x : X) × (o ≡ Some x)
some_of None some = absurd (cc)
some_of (Some x) some = (x, refl)

some_once : {X : Type 0} {x y : X} → Some x ≡ Some y → x ≡ y
some_once is = cc

-- a configured slot whose session is Established
pub served_up : (s : SpeakerState) (slot : ℕ) (l : Linked) → IsUpAt s slot → IsSome (peer_at s.conf slot) → link_at s.links slot ≡ Some l → IsServedBy s slot l
served_up s slot l up there linked =
    let peer = some_of (peer_at s.conf slot) there in
    record { peer = peer.0; configured = peer.1; linked = linked; established = subst (λ (x : Linked). x.peer.session.state ≡ Established) (some_once (sym up.1 ∙ linked)) up.2 }
