-- The payloads by prefix: an entry of each prefix that some have, with those that have it.
use Rattle.std.specs.Prelude.{◌≡◌, ◌⊎◌, ◌<◌, ◌==◌, ◌++◌, Bool, false, List, [], ◌∷◌, Option, None, Some, MatchOption, length}
use Rattle.std.specs.Borrow.{Bor}
use Rattle.std.specs.List.{AllByRecursion}
use Rattle.net_prefix.specs.PayloadSets.{IsPayloadSet, has, out, put}
use Rattle.net_prefix.specs.declared.payload.Vrp.{Vrp}
use Rattle.net_prefix.specs.declared.prefix.Prefix.{Prefix}
use Rattle.prefix_trie.specs.TrieMap.{IsRising, found}

-- all payloads, the least first
abbrev pub payloads_of : List (Prefix × List Vrp) → List Vrp
payloads_of [] = []
payloads_of (e ∷ es) = e.1 ++ payloads_of es

-- what holds of the payloads of a prefix: they are a set, there is one at least, and each has the prefix
pub record AreOfPrefix (prefix : Prefix) (set : List Vrp) : Type 0 where
  pub rising : IsPayloadSet set
  pub some : 0 < length set
  pub own : AllByRecursion (λ payload. payload.prefix ≡ prefix) set

-- what holds of the entries: each has payloads of its prefix, and the prefixes rise
pub record AreByPrefix (entries : List (Prefix × List Vrp)) : Type 0 where
  pub each : AllByRecursion (λ e. AreOfPrefix e.0 e.1) entries
  pub rising : IsRising entries

-- whether a payload is among those of a prefix, if there are any
abbrev pub has_among : Option (List Vrp) → Vrp → Bool
has_among None payload = false
has_among (Some set) payload = has set payload

-- whether a payload is among the entries
abbrev pub has_by_prefix : List (Prefix × List Vrp) → Vrp → Bool
has_by_prefix entries payload = has_among (found entries payload.prefix) payload

-- a payload was put in, or there was no memory for it
abbrev pub MayPut : Vrp → List Vrp → List Vrp → Type 0
MayPut payload old new = (new ≡ put payload old) ⊎ (new ≡ old)

-- whether the set has no other payload
abbrev pub is_only : Vrp → List Vrp → Bool
is_only payload set = length (out payload set) == 0

-- without the payload, where there is another
abbrev pub IsLeft : Vrp → List Vrp → List Vrp → Type 0
IsLeft payload old new = is_only payload old ≡ false → new ≡ out payload old

-- the payloads of the first of some entries, behind which come the others; or there is none
abbrev pub IsNextPayloads : Option (Bor (List Vrp)) → List (Prefix × List Vrp) → List (Prefix × List Vrp) → Type 0
IsNextPayloads next old new = MatchOption next (old ≡ []) (λ payloads. (p : Prefix) × (old ≡ (p, payloads.now) ∷ new))
