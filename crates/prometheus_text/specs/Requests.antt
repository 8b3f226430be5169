-- What the first octets of a connection ask for: the head of a request (RFC 9112), as httparse has it.
use Rattle.std.specs.Prelude.{◌≡◌, ◌≤◌, ◌<◌, ◌⊎◌, ℕ, List, length, codes}
use Rattle.httparse.specs.Grammar.{HasNoRequest, MayBecomeRequest, NeverHasRequest, ReadsRequest, RequestHead}
use Rattle.httparse.specs.Spans.{RequestExceeds}
use Rattle.prometheus_text.specs.declared.request.Asked.{Asked}
use Rattle.prometheus_text.specs.declared.request.Asked.TheVariants.{More, Metrics, OtherTarget, OtherMethod, NoRequest, TooMuch}

-- how many octets a head may have, and how many fields
abbrev pub most_octets : ℕ
most_octets = 4096

abbrev pub most_headers : ℕ
most_headers = 32

-- what a head of this method and target asks for
abbrev pub AsksOf : List ℕ → List ℕ → Asked → Type 0
AsksOf method target Metrics = (method ≡ codes "GET") × (target ≡ codes "/metrics")
AsksOf method target OtherTarget = (method ≡ codes "GET") × ¬ (target ≡ codes "/metrics")
AsksOf method target OtherMethod = ¬ (method ≡ codes "GET")
AsksOf method target More = ⊥
AsksOf method target NoRequest = ⊥
AsksOf method target TooMuch = ⊥

-- a whole head stands at the front
abbrev pub HasHead : List ℕ → (RequestHead → Type 0) → Type 0
HasHead octets Is = (head : RequestHead) × (rest : List ℕ) × ReadsRequest octets head rest × Is head

-- what octets ask for
abbrev pub AsksFor : List ℕ → Asked → Type 0
AsksFor octets Metrics = HasHead octets (λ head. AsksOf head.method head.target Metrics)
AsksFor octets OtherTarget = HasHead octets (λ head. AsksOf head.method head.target OtherTarget)
AsksFor octets OtherMethod = HasHead octets (λ head. AsksOf head.method head.target OtherMethod)
AsksFor octets More = HasNoRequest octets × MayBecomeRequest octets × (length octets < most_octets)
AsksFor octets NoRequest = NeverHasRequest octets
AsksFor octets TooMuch = RequestExceeds most_headers octets ⊎ (HasNoRequest octets × (most_octets ≤ length octets))
