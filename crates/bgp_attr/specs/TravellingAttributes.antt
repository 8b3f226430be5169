-- Which attributes may go on to another peer, whatever came (own choice, beyond RFC 4271 section 5).
use Rattle.std.specs.Prelude.{◌≡◌, ◌≢◌, ◌*◌, ℕ, suc, List, [], ◌∷◌, length}
use Rattle.std.specs.List.{AllByRecursion}
use Rattle.bgp_attr.specs.ReceivedAttributes.{split_of}
use Rattle.bgp_attr.specs.UnknownAttributes.{Unknown}

-- so many octets are a list of at least one item, each of so many
abbrev pub IsListOf : ℕ → ℕ → Type 0
IsListOf item n = (more : ℕ) × (n ≡ item * suc more)

-- a value is an AS number (RFC 9234 section 5), and not that of no AS
pub record IsAnAs (value : List ℕ) : Type 0 where
  pub octets : length value ≡ 4
  pub some : value ≢ 0 ∷ 0 ∷ 0 ∷ 0 ∷ []

-- an attribute of this code, with this value, may go on
pub record MayTravel (code : ℕ) (value : List ℕ) : Type 0 where
  -- what is for speakers that reflect routes (RFC 4456)
  pub originator_id : code ≢ 9
  pub cluster_list : code ≢ 10
  -- what says routes of other address families (RFC 4760)
  pub mp_reach_nlri : code ≢ 14
  pub mp_unreach_nlri : code ≢ 15
  -- what is for speakers of two-octet AS numbers (RFC 6793)
  pub as4_path : code ≢ 17
  pub as4_aggregator : code ≢ 18
  -- what is for the routers of one domain (RFC 6514, RFC 9012, RFC 8669)
  pub pmsi_tunnel : code ≢ 22
  pub tunnel_encapsulation : code ≢ 23
  pub prefix_sid : code ≢ 40
  -- what has a form of its own standard (RFC 1997, RFC 4360, RFC 5701, RFC 8092, RFC 9234)
  pub communities : code ≡ 8 → IsListOf 4 (length value)
  pub extended_communities : code ≡ 16 → IsListOf 8 (length value)
  pub ipv6_extended_communities : code ≡ 25 → IsListOf 20 (length value)
  pub large_communities : code ≡ 32 → IsListOf 12 (length value)
  pub only_to_customer : code ≡ 35 → IsAnAs value

-- each of these unknown attributes may go on
abbrev pub MayAllTravel : Unknown → Type 0
MayAllTravel unknown = AllByRecursion (λ e. MayTravel e.0 e.1) unknown

-- the octets are whole attributes, each of which may go on
pub record AreTravelling (octets : List ℕ) : Type 0 where
  pub each : AllByRecursion (λ a. MayTravel a.code a.value) (split_of octets).0
  pub whole : (split_of octets).1 ≡ []
