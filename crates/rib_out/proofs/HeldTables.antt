-- What a peer holds, and what it has asked for again.
use Rattle.std.proofs.Common.{◌≡◌, ℕ, Bool, true, false, cond, List, [], ◌∷◌, Option, Some, None, refl, sym, ap, ◌∙◌}
use Rattle.std.specs.Map.{keys_of, lookup}
use Rattle.std.specs.Option.{IsSome, is_some, option_map, option_map_or}
use Rattle.std.proofs.lemmas.Map.Made.{lookup-map_values}
use Rattle.net_prefix.specs.declared.prefix.Prefix.{Prefix}
use Rattle.prefix_trie.proofs.MapLaws.{one_prefix}
use Rattle.rib_out.specs.Held.{HeldRoute, all_asked, asked_at, held_at, is_prefix, octets_of}

-- one route, asked for again
abbrev asked_again : HeldRoute → HeldRoute
asked_again route = record { octets = route.octets; asked = true }

octets_again : (o : Option HeldRoute) → option_map (λ route. route.octets) (option_map asked_again o) ≡ option_map (λ route. route.octets) o
octets_again None = refl
octets_again (Some route) = refl

all_again : (o : Option HeldRoute) → option_map_or (λ route. route.asked) (option_map asked_again o) false ≡ is_some (option_map (λ route. route.octets) o)
all_again None = refl
all_again (Some route) = refl

-- whoever asks for all again holds what it held
pub held_at-all_asked : (table : List (Prefix × HeldRoute)) (q : Prefix) → held_at (all_asked table) q ≡ held_at table q
held_at-all_asked table q = ap (option_map (λ route. route.octets)) (lookup-map_values asked_again (is_prefix q) table) ∙ octets_again (lookup (is_prefix q) table)

-- and has asked for just that
pub asked_at-all_asked : (table : List (Prefix × HeldRoute)) (q : Prefix) → asked_at (all_asked table) q ≡ is_some (held_at table q)
asked_at-all_asked table q = ap (λ o. option_map_or (λ (route : HeldRoute). route.asked) o false) (lookup-map_values asked_again (is_prefix q) table) ∙ all_again (lookup (is_prefix q) table)

-- asking once more changes nothing
pub again_all_asked : (table : List (Prefix × HeldRoute)) → all_asked (all_asked table) ≡ all_asked table
again_all_asked [] = refl
again_all_asked (e ∷ table) = ap (λ rest. (e.0, asked_again e.1) ∷ rest) (again_all_asked table)

held_if_of : (o : Option HeldRoute) → option_map_or (λ route. route.asked) o false ≡ true → IsSome (option_map (λ route. route.octets) o)
held_if_of None asked = absurd cc
held_if_of (Some route) asked = refl

-- only what is held was asked for again
pub held_if_asked : (table : List (Prefix × HeldRoute)) (q : Prefix) → asked_at table q ≡ true → IsSome (held_at table q)
held_if_asked table q asked = held_if_of (lookup (is_prefix q) table) asked

-- the octets alone
pub lookup-octets_of : (table : List (Prefix × HeldRoute)) (q : Prefix) → lookup (is_prefix q) (octets_of table) ≡ held_at table q
lookup-octets_of table q = lookup-map_values (λ route. route.octets) (is_prefix q) table

pub keys_of-octets_of : (table : List (Prefix × HeldRoute)) → keys_of (octets_of table) ≡ keys_of table
keys_of-octets_of [] = refl
keys_of-octets_of (e ∷ table) = ap (λ keys. e.0 ∷ keys) (keys_of-octets_of table)

-- what one place holds from now on
held_put : (b : Bool) (found : Option HeldRoute) (o : Option HeldRoute) → option_map (λ (route : HeldRoute). route.octets) (cond b found o) ≡ cond b (option_map (λ route. route.octets) found) (option_map (λ route. route.octets) o)
held_put true found o = refl
held_put false found o = refl

asked_put : (b : Bool) (found : Option HeldRoute) (o : Option HeldRoute)
    → option_map_or (λ (route : HeldRoute). route.asked) (cond b found o) false ≡ cond b (option_map_or (λ route. route.asked) found false) (option_map_or (λ route. route.asked) o false)
asked_put true found o = refl
asked_put false found o = refl

module _ (old new : List (Prefix × HeldRoute)) (prefix : Prefix) (found : Option HeldRoute) (put : (q : Prefix) → lookup (is_prefix q) new ≡ cond (is_prefix prefix q) found (lookup (is_prefix q) old)) where
  pub held_of-put : (q : Prefix) → held_at new q ≡ cond (is_prefix prefix q) (option_map (λ route. route.octets) found) (held_at old q)
  held_of-put q = ap (option_map (λ route. route.octets)) (put q) ∙ held_put (is_prefix prefix q) found (lookup (is_prefix q) old)

  pub asked_of-put : (q : Prefix) → asked_at new q ≡ cond (is_prefix prefix q) (option_map_or (λ route. route.asked) found false) (asked_at old q)
  asked_of-put q = ap (λ o. option_map_or (λ (route : HeldRoute). route.asked) o false) (put q) ∙ asked_put (is_prefix prefix q) found (lookup (is_prefix q) old)

-- what a peer holds of one prefix is told once more
module _ (old new : List (Prefix × HeldRoute)) (prefix : Prefix) (octets : List ℕ) (was : held_at old prefix ≡ Some octets)
    (put : (q : Prefix) → lookup (is_prefix q) new ≡ cond (is_prefix prefix q) (Some (record { octets = octets; asked = false })) (lookup (is_prefix q) old)) where
  pub held_renewed : (q : Prefix) → held_at new q ≡ held_at old q
  held_renewed q = held_of-put old new prefix (Some (record { octets = octets; asked = false })) put q ∙ same (is_prefix prefix q) refl
    where
      same : (b : Bool) → is_prefix prefix q ≡ b → cond b (Some octets) (held_at old q) ≡ held_at old q
      same true is = sym was ∙ ap (held_at old) (one_prefix prefix q is)
      same false other = refl

-- of a prefix that isn't held nothing was asked for
pub unasked_absent : (table : List (Prefix × HeldRoute)) (prefix q : Prefix) → lookup (is_prefix prefix) table ≡ None → asked_at table q ≡ cond (is_prefix prefix q) false (asked_at table q)
unasked_absent table prefix q none = by_prefix (is_prefix prefix q) refl
  where
    by_prefix : (b : Bool) → is_prefix prefix q ≡ b → asked_at table q ≡ cond b false (asked_at table q)
    by_prefix true is = ap (asked_at table) (sym (one_prefix prefix q is)) ∙ ap (λ o. option_map_or (λ (route : HeldRoute). route.asked) o false) none
    by_prefix false other = refl

-- a prefix that stands in the table is held, and no other one
held_there : (o : Option HeldRoute) → is_some (option_map (λ route. route.octets) o) ≡ is_some o
held_there None = refl
held_there (Some route) = refl

pub is_some_held : (table : List (Prefix × HeldRoute)) (q : Prefix) → is_some (held_at table q) ≡ is_some (lookup (is_prefix q) table)
is_some_held table q = held_there (lookup (is_prefix q) table)

pub there_if_held : (table : List (Prefix × HeldRoute)) (q : Prefix) → IsSome (held_at table q) → IsSome (lookup (is_prefix q) table)
there_if_held table q held = sym (is_some_held table q) ∙ held

pub none_held : (table : List (Prefix × HeldRoute)) (q : Prefix) → lookup (is_prefix q) table ≡ None → held_at table q ≡ None
none_held table q none = ap (option_map (λ route. route.octets)) none

pub is_found : {X : Type 0} (o : Option X) (route : X) → o ≡ Some route → IsSome o
is_found None route found = cc
is_found (Some here) route found = refl

-- who has asked for nothing again hasn't behind what is told, or told once more
still_case : (b asked : Bool) → asked ≡ false → cond b false asked ≡ false
still_case true asked none = refl
still_case false asked none = none

pub still_unasked : (old new : List (Prefix × HeldRoute)) (told : Prefix → Bool) → ((q : Prefix) → asked_at new q ≡ cond (told q) false (asked_at old q))
    → ((q : Prefix) → asked_at old q ≡ false) → (q : Prefix) → asked_at new q ≡ false
still_unasked old new told asks none q = asks q ∙ still_case (told q) (asked_at old q) (none q)
