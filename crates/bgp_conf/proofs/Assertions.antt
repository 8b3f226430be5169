use Rattle.std.proofs.Common.{◌≡◌, ℕ, Bool, true, false, nat_le, Some, None, Result, Ok, Err, MatchResult, inl, inr, refl, ap, sym, arith}
use Rattle.std.proofs.lemmas.Bool.{leb-true, leb-false}
use Rattle.std.specs.Result.{result_ok}
use Rattle.net_prefix.specs.MaxLengths.{IsMaxLength, IsNoMaxLength}
use Rattle.net_prefix.specs.declared.asn.Asn.{Asn}
use Rattle.net_prefix.specs.declared.fault.PrefixFault.{PrefixFault}
use Rattle.net_prefix.specs.declared.fault.PrefixFault.TheVariants.{MaxRange}
use Rattle.net_prefix.specs.declared.prefix.Prefix.{Prefix}
use Rattle.net_prefix.specs.declared.payload.Vrp.{Vrp}
use Rattle.net_prefix.proofs.PayloadSets.{same_payload}
use Rattle.bgp_conf.specs.ConfAfter.{asserted_if, asserted_of}

-- The payload that an assertion puts in is that of its parts.

-- the parts of a payload are that payload
asserted_if-is :
    (prefix : Prefix) (max_len : ℕ) (asn : Asn) (payload : Vrp) (reaches short : Bool) (tells : nat_le prefix.len max_len ≡ reaches) (says : nat_le max_len 32 ≡ short)
    → payload.prefix ≡ prefix → payload.max_len ≡ max_len → payload.asn ≡ asn → asserted_if prefix max_len asn reaches short tells says ≡ Some payload
asserted_if-is prefix max_len asn payload false short tells says prefix_is max_is asn_is =
    let below = leb-false prefix.len max_len tells in
    let reaches = payload.reaches in
    let len_is : payload.prefix.len ≡ prefix.len = ap (λ (p : Prefix). p.len) prefix_is in
    absurd (omega (arith, below, reaches, len_is, max_is))
asserted_if-is prefix max_len asn payload true false tells says prefix_is max_is asn_is =
    let over = leb-false max_len 32 says in
    let short = payload.short in
    absurd (omega (arith, over, short, max_is))
asserted_if-is prefix max_len asn payload true true tells says prefix_is max_is asn_is =
    ap (λ (p : Vrp). Some p) (same_payload (record { prefix = prefix; max_len = max_len; asn = asn; reaches = leb-true prefix.len max_len tells; short = leb-true max_len 32 says }) payload (sym prefix_is) (sym max_is) (sym (ap (λ (a : Asn). a.0) asn_is)))

-- a maximum length that no payload has
asserted_if-none :
    (prefix : Prefix) (max_len : ℕ) (asn : Asn) (reaches short : Bool) (tells : nat_le prefix.len max_len ≡ reaches) (says : nat_le max_len 32 ≡ short)
    → IsNoMaxLength prefix.len max_len → asserted_if prefix max_len asn reaches short tells says ≡ None
asserted_if-none prefix max_len asn false short tells says h = refl
asserted_if-none prefix max_len asn true false tells says h = refl
asserted_if-none prefix max_len asn true true tells says (inl below) = let reaches = leb-true prefix.len max_len tells in absurd (omega (arith, reaches, below))
asserted_if-none prefix max_len asn true true tells says (inr over) = let short = leb-true max_len 32 says in absurd (omega (arith, short, over))

-- what a test of the parts answers
pub asserted_of-answer :
    (prefix : Prefix) (max_len : ℕ) (asn : Asn) (answer : Result Vrp PrefixFault)
    → MatchResult answer (λ payload. (payload.prefix ≡ prefix) × (payload.max_len ≡ max_len) × (payload.asn ≡ asn) × IsMaxLength prefix.len max_len) (λ fault. (fault ≡ MaxRange) × IsNoMaxLength prefix.len max_len)
    → result_ok answer ≡ asserted_of prefix max_len asn
unfolding asserted_of
asserted_of-answer prefix max_len asn (Ok payload) h = sym (asserted_if-is prefix max_len asn payload (nat_le prefix.len max_len) (nat_le max_len 32) refl refl h.0 h.1 h.2)
asserted_of-answer prefix max_len asn (Err fault) h = sym (asserted_if-none prefix max_len asn (nat_le prefix.len max_len) (nat_le max_len 32) refl refl h.1)
