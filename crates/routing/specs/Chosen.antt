-- How often a best route may be chosen, by what comes and goes (own, for RFC 4271 section 9.1).
use Rattle.std.specs.Prelude.{◌+◌, ◌&&◌, ℕ, suc, Bool, true, not, List, [], ◌∷◌, ◌++◌, Option, Some, None, false, if◌then◌else◌, ◌≡◌, ◌≤◌, length}
use Rattle.bgp_msg.specs.UpdateMeaning.{UpdateBody}
use Rattle.net_prefix.specs.declared.prefix.Prefix.{Prefix}
use Rattle.routing.specs.Updates.{is_among}
use Rattle.std.specs.Option.{IsSome}
use Rattle.rib_in.specs.LatestRoutes.{RouteTable, route_at}

-- of how many of these prefixes this is so, each counted once
abbrev pub how_many : (Prefix → Bool) → List Prefix → ℕ
how_many holds [] = 0
how_many holds (p ∷ prefixes) = if holds p && not (is_among p prefixes) then suc (how_many holds prefixes) else how_many holds prefixes

-- how many prefixes an UPDATE names, each counted once
abbrev pub named_in : UpdateBody → ℕ
named_in update = how_many (λ p. true) (update.withdrawn ++ update.announced)

-- the same of an UPDATE that may be there
abbrev pub named_if : Option UpdateBody → ℕ
named_if None = 0
named_if (Some update) = named_in update

-- what an UPDATE announces, where there is one
abbrev pub announced_if : Option UpdateBody → List Prefix
announced_if None = []
announced_if (Some update) = update.announced

-- prefixes of each of which this holds, none of them twice
abbrev pub AreDifferent : (Prefix → Type 0) → List Prefix → Type 0
AreDifferent holds [] = Unit {0}
AreDifferent holds (p ∷ prefixes) = (is_among p prefixes ≡ false) × holds p × AreDifferent holds prefixes

-- a best route was chosen once at most for each of some prefixes, none of them twice, of each of which this holds
abbrev pub OncePerPrefix : (Prefix → Type 0) → ℕ → ℕ → Type 0
OncePerPrefix holds before after = (prefixes : List Prefix) × AreDifferent holds prefixes × (after ≤ before + length prefixes)

-- a slot leaves Established: a best route is chosen once at most for each prefix to which it had a route
abbrev pub Ends : ℕ → RouteTable → ℕ → ℕ → Type 0
Ends slot adj_in before after = OncePerPrefix (λ p. IsSome (route_at adj_in slot p)) before after
