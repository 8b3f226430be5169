-- What a policy makes of a route (own): the first rule that matches decides.
use Rattle.std.specs.Prelude.{ℕ, ◌==◌, ◌&&◌, nat_le, Bool, true, false, List, find, Option, Some, None}
use Rattle.bgp_attr.specs.AsPath.{PathSegment, has_as}
use Rattle.net_prefix.specs.declared.asn.Asn.{Asn}
use Rattle.net_prefix.specs.declared.prefix.Prefix.{Prefix}
use Rattle.origin_valid.specs.declared.validity.Validity.{Validity}
use Rattle.origin_valid.specs.declared.validity.Validity.TheVariants.{Valid, Invalid, NotFound}
use Rattle.prefix_trie.specs.CoverWalks.{covers}
use Rattle.policy.specs.declared.rule.Action.{Action}
use Rattle.policy.specs.declared.rule.Action.TheVariants.{Reject}
use Rattle.policy.specs.declared.rule.Condition.{Condition}
use Rattle.policy.specs.declared.rule.PrefixRange.{PrefixRange}
use Rattle.policy.specs.declared.rule.Rule.{Rule}

-- a route as policies see it: as it was received
pub record Route : Type 0 where
  pub prefix : Prefix
  pub state : Validity
  pub origin : Option Asn
  pub path : Option (List PathSegment)
  pub from : Option ℕ

-- what isn't given isn't asked
abbrev pub holds : {X : Type 0} → Option X → (X → Bool) → Bool
holds None test = true
holds (Some x) test = test x

-- what there is meets the test
abbrev pub has : {X : Type 0} → Option X → (X → Bool) → Bool
has None test = false
has (Some x) test = test x

-- the prefix lies within that of the range, and its length too
abbrev pub is_within : PrefixRange → Prefix → Bool
is_within range prefix = covers range.prefix prefix && nat_le range.from prefix.len && nat_le prefix.len range.to

-- both are one state
abbrev pub is_state : Validity → Validity → Bool
is_state Valid Valid = true
is_state Invalid Invalid = true
is_state NotFound NotFound = true
is_state asked state = false

-- the route is as the condition asks: its prefix, its state, its origin AS, an AS in its path, the slot that announced it
abbrev pub matches : Condition → Route → Bool
matches condition route =
    holds condition.prefix (λ range. is_within range route.prefix)
    && holds condition.state (λ state. is_state state route.state)
    && holds condition.origin (λ asn. has route.origin (λ origin. origin.0 == asn.0))
    && holds condition.path (λ asn. has route.path (λ path. has_as path asn))
    && holds condition.from (λ slot. has route.from (λ from. from == slot))

-- a rule's action; where there is none, the route is rejected
abbrev pub action_or_reject : Option Rule → Action
action_or_reject None = Reject
action_or_reject (Some rule) = rule.action

-- what these rules make of a route: the action of the first that matches
abbrev pub action_by : List Rule → Route → Action
action_by rules route = action_or_reject (find (λ rule. matches rule.condition route) rules)
