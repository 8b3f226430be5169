-- An UPDATE whose announced prefixes are given routes before they make candidates (our own, so that it is taken whole or not
-- at all).
use Rattle.std.specs.Prelude.{◌≡◌, ◌==◌, ◌&&◌, ℕ, List, [], ◌∷◌, Option, Some, None, MatchOption, true, if◌then◌else◌}
use Rattle.std.specs.Option.{IsSome, is_some}
use Rattle.bgp_attr.specs.PathAttributes.{PathAttributes}
use Rattle.decision.specs.BookContents.{offer_at}
use Rattle.net_prefix.specs.declared.prefix.Prefix.{Prefix}
use Rattle.rib_in.specs.LatestRoutes.{RouteTable, route_at}
use Rattle.routing.specs.RoutingState.{RoutingState}
use Rattle.routing.specs.Updates.{is_among}

-- a prefix that is announced, with the attributes for the route that replaces the slot's, where it had one
pub record NamedPrefix : Type 0 where
  pub prefix : Prefix
  pub replacing : Option PathAttributes

abbrev pub prefixes_of : List NamedPrefix → List Prefix
prefixes_of [] = []
prefixes_of (n ∷ named) = n.prefix ∷ prefixes_of named

-- those to which the slot had no route
abbrev pub new_of : List NamedPrefix → List Prefix
new_of [] = []
new_of (n ∷ named) = if is_some n.replacing then new_of named else n.prefix ∷ new_of named

-- the slot has a route to the prefix: a new one has these attributes, and another is to be replaced by one that has them
abbrev pub IsReady : ℕ → PathAttributes → RouteTable → NamedPrefix → Type 0
IsReady slot attrs adj_in n =
    MatchOption n.replacing (route_at adj_in slot n.prefix ≡ Some attrs) (λ replacing. (replacing ≡ attrs) × IsSome (route_at adj_in slot n.prefix))

abbrev pub AreReady : ℕ → PathAttributes → RouteTable → List NamedPrefix → Type 0
AreReady slot attrs adj_in [] = Unit {0}
AreReady slot attrs adj_in (n ∷ named) = IsReady slot attrs adj_in n × AreReady slot attrs adj_in named

-- the slot has a route to each of these prefixes, those with these attributes alone are new, and no candidate is another
pub record IsBrought (slot : ℕ) (attrs : PathAttributes) (prefixes : List Prefix) (named : List NamedPrefix) (old new : RoutingState) : Type 0 where
  pub all : prefixes_of named ≡ prefixes
  pub ready : AreReady slot attrs new.adj_in named
  pub routes : (s : ℕ) (p : Prefix) → route_at new.adj_in s p ≡ (if s == slot && is_among p (new_of named) then Some attrs else route_at old.adj_in s p)
  pub lacked : (p : Prefix) → is_among p (new_of named) ≡ true → (route_at old.adj_in slot p ≡ None) × (offer_at old.book slot p ≡ None)
  pub offers : (s : ℕ) (p : Prefix) → offer_at new.book s p ≡ offer_at old.book s p
  pub chosen : new.chosen ≡ old.chosen

-- the routes to the new prefixes are to go again, and then all is as before
pub record IsPartial (slot : ℕ) (named : List NamedPrefix) (old new : RoutingState) : Type 0 where
  pub routes : (s : ℕ) (p : Prefix) → (if s == slot && is_among p (new_of named) then None else route_at new.adj_in s p) ≡ route_at old.adj_in s p
  pub lacked : (p : Prefix) → is_among p (new_of named) ≡ true → offer_at new.book slot p ≡ None
  pub offers : (s : ℕ) (p : Prefix) → offer_at new.book s p ≡ offer_at old.book s p
  pub chosen : new.chosen ≡ old.chosen
