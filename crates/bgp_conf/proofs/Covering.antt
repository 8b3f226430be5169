use Rattle.std.proofs.Common.{◌≡◌, ℕ, List, Option, Some, None, refl, sym, ◌∙◌, add-zero, arith}
use Rattle.std.proofs.lemmas.Nat.{div-add-mod'}
use Rattle.net_prefix.specs.Cover.{Covers, masked_bits, block_size}
use Rattle.net_prefix.specs.declared.prefix.Prefix.{Prefix}
use Rattle.bgp_conf.specs.Configuration.{entry_at}
use Rattle.bgp_conf.specs.Reach.{IsCovering, IsCost}

-- Which prefix of a length covers an address.

-- no other prefix of that length does
pub bits-from_covering : (prefix : Prefix) (address : ℕ) → Covers prefix.bits prefix.len address 32 → prefix.bits ≡ masked_bits address prefix.len
bits-from_covering prefix address covers =
    let whole = div-add-mod' prefix.bits (block_size prefix.len) in
    sym (rw (prefix.no_host_bits, covers.1, add-zero) at whole)

-- an entry that was found, and covers
pub IsCovering-from_entry : (reach : List (Prefix × ℕ)) (address : ℕ) (prefix : Prefix) (cost : ℕ) → entry_at reach prefix ≡ Some cost → Covers prefix.bits prefix.len address 32 → IsCovering reach address prefix
IsCovering-from_entry reach address prefix cost is covers = (rw is refl, covers)

-- two answers to one question are the same
pub IsCost-unique : (reach : List (Prefix × ℕ)) (next_hop : ℕ) (a b : Option ℕ) → IsCost reach next_hop a → IsCost reach next_hop b → a ≡ b
IsCost-unique reach next_hop None None h k = refl
IsCost-unique reach next_hop None (Some d) h k = absurd (h k.0 (IsCovering-from_entry reach next_hop k.0 d k.1 k.2))
IsCost-unique reach next_hop (Some c) None h k = absurd (k h.0 (IsCovering-from_entry reach next_hop h.0 c h.1 h.2))
IsCost-unique reach next_hop (Some c) (Some d) h k =
    let same_length : h.0.len ≡ k.0.len =
    omega (arith, k.3 h.0 (IsCovering-from_entry reach next_hop h.0 c h.1 h.2), h.3 k.0 (IsCovering-from_entry reach next_hop k.0 d k.1 k.2)) in
    let same_bits : h.0.bits ≡ k.0.bits =
    bits-from_covering h.0 next_hop h.2 ∙ rw same_length (sym (bits-from_covering k.0 next_hop k.2)) in
    let same_entry : entry_at reach h.0 ≡ entry_at reach k.0 = rw (same_bits, same_length) refl in
    sym h.1 ∙ same_entry ∙ k.1
