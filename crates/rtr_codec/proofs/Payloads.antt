use Rattle.std.proofs.Common.{◌≡◌, ◌%◌, ◌==◌, ℕ, Bool, true, false, nat_le, Some, None, Result, Ok, Err, MatchResult, inl, inr, refl, ap, sym, subst, arith}
use Rattle.std.proofs.lemmas.Bool.{leb-true, leb-false, eqb-true, eqb-false}
use Rattle.std.specs.Result.{result_ok}
use Rattle.net_prefix.specs.Cover.{HasNoHostBits, block_size}
use Rattle.net_prefix.specs.MaxLengths.{IsMaxLength, IsNoMaxLength}
use Rattle.net_prefix.specs.PrefixFaults.{IsNoPrefix}
use Rattle.net_prefix.specs.declared.asn.Asn.{Asn}
use Rattle.net_prefix.specs.declared.fault.PrefixFault.{PrefixFault}
use Rattle.net_prefix.specs.declared.fault.PrefixFault.TheVariants.{LenOver32, HostBits, Text, MaxRange, Cut}
use Rattle.net_prefix.specs.declared.prefix.Prefix.{Prefix}
use Rattle.net_prefix.specs.declared.payload.Vrp.{Vrp}
use Rattle.net_prefix.proofs.PayloadSets.{same_payload}
use Rattle.net_prefix.proofs.Prefixes.{same_prefix}
use Rattle.rtr_codec.specs.PduContents.{prefix_if, prefix_of, payload_if, payload_with}

-- A payload is its numbers.

-- the numbers of a prefix are that prefix
prefix_if-is :
    (bits len : ℕ) (prefix : Prefix) (short clean : Bool) (tells : nat_le len 32 ≡ short) (says : (bits % block_size len == 0) ≡ clean)
    → prefix.bits ≡ bits → prefix.len ≡ len → prefix_if bits len short clean tells says ≡ Some prefix
prefix_if-is bits len prefix false clean tells says bits_are len_is =
    let over = leb-false len 32 tells in
    let short = prefix.short in
    absurd (omega (arith, over, short, len_is))
prefix_if-is bits len prefix true false tells says bits_are len_is =
    let clean : HasNoHostBits bits len = subst (λ (b : ℕ). HasNoHostBits b len) bits_are (subst (λ (l : ℕ). HasNoHostBits prefix.bits l) len_is prefix.no_host_bits) in
    absurd (eqb-false (bits % block_size len) 0 says clean)
prefix_if-is bits len prefix true true tells says bits_are len_is =
    ap (λ (p : Prefix). Some p) (same_prefix (record { bits = bits; len = len; short = leb-true len 32 tells; no_host_bits = eqb-true (bits % block_size len) 0 says }) prefix (sym bits_are) (sym len_is))

pub prefix_of-is : (bits len : ℕ) (prefix : Prefix) → prefix.bits ≡ bits → prefix.len ≡ len → prefix_of bits len ≡ Some prefix
unfolding prefix_of
prefix_of-is bits len prefix bits_are len_is = prefix_if-is bits len prefix (nat_le len 32) (bits % block_size len == 0) refl refl bits_are len_is

-- numbers of no prefix are none
prefix_if-none :
    (bits len : ℕ) (fault : PrefixFault) (short clean : Bool) (tells : nat_le len 32 ≡ short) (says : (bits % block_size len == 0) ≡ clean)
    → IsNoPrefix bits len fault → prefix_if bits len short clean tells says ≡ None
prefix_if-none bits len fault false clean tells says h = refl
prefix_if-none bits len fault true false tells says h = refl
prefix_if-none bits len LenOver32 true true tells says h = let short = leb-true len 32 tells in absurd (omega (arith, short, h))
prefix_if-none bits len HostBits true true tells says h = absurd (h.1 (eqb-true (bits % block_size len) 0 says))
prefix_if-none bits len Text true true tells says h = absurd h
prefix_if-none bits len MaxRange true true tells says h = absurd h
prefix_if-none bits len Cut true true tells says h = absurd h

pub prefix_of-none : (bits len : ℕ) (fault : PrefixFault) → IsNoPrefix bits len fault → prefix_of bits len ≡ None
unfolding prefix_of
prefix_of-none bits len fault h = prefix_if-none bits len fault (nat_le len 32) (bits % block_size len == 0) refl refl h

-- the parts of a payload are that payload
payload_if-is :
    (prefix : Prefix) (max_len asn : ℕ) (payload : Vrp) (reaches short : Bool) (tells : nat_le prefix.len max_len ≡ reaches) (says : nat_le max_len 32 ≡ short)
    → payload.prefix ≡ prefix → payload.max_len ≡ max_len → payload.asn.0 ≡ asn → payload_if prefix max_len asn reaches short tells says ≡ Some payload
payload_if-is prefix max_len asn payload false short tells says prefix_is max_is asn_is =
    let below = leb-false prefix.len max_len tells in
    let reaches = payload.reaches in
    let len_is : payload.prefix.len ≡ prefix.len = ap (λ (p : Prefix). p.len) prefix_is in
    absurd (omega (arith, below, reaches, len_is, max_is))
payload_if-is prefix max_len asn payload true false tells says prefix_is max_is asn_is =
    let over = leb-false max_len 32 says in
    let short = payload.short in
    absurd (omega (arith, over, short, max_is))
payload_if-is prefix max_len asn payload true true tells says prefix_is max_is asn_is =
    ap (λ (p : Vrp). Some p) (same_payload (record { prefix = prefix; max_len = max_len; asn = record { 0 = asn }; reaches = leb-true prefix.len max_len tells; short = leb-true max_len 32 says }) payload (sym prefix_is) (sym max_is) (sym asn_is))

pub payload_with-is :
    (prefix : Prefix) (max_len asn : ℕ) (payload : Vrp) → payload.prefix ≡ prefix → payload.max_len ≡ max_len → payload.asn.0 ≡ asn
    → payload_with max_len asn prefix ≡ Some payload
unfolding payload_with
payload_with-is prefix max_len asn payload prefix_is max_is asn_is =
    payload_if-is prefix max_len asn payload (nat_le prefix.len max_len) (nat_le max_len 32) refl refl prefix_is max_is asn_is

-- a maximum length that no payload has
payload_if-none :
    (prefix : Prefix) (max_len asn : ℕ) (reaches short : Bool) (tells : nat_le prefix.len max_len ≡ reaches) (says : nat_le max_len 32 ≡ short)
    → IsNoMaxLength prefix.len max_len → payload_if prefix max_len asn reaches short tells says ≡ None
payload_if-none prefix max_len asn false short tells says h = refl
payload_if-none prefix max_len asn true false tells says h = refl
payload_if-none prefix max_len asn true true tells says (inl below) = let reaches = leb-true prefix.len max_len tells in absurd (omega (arith, reaches, below))
payload_if-none prefix max_len asn true true tells says (inr over) = let short = leb-true max_len 32 says in absurd (omega (arith, short, over))

pub payload_with-none : (prefix : Prefix) (max_len asn : ℕ) → IsNoMaxLength prefix.len max_len → payload_with max_len asn prefix ≡ None
unfolding payload_with
payload_with-none prefix max_len asn h = payload_if-none prefix max_len asn (nat_le prefix.len max_len) (nat_le max_len 32) refl refl h

-- what a test of the parts answers
pub payload_answer :
    (prefix : Prefix) (max_len asn : ℕ) (answer : Result Vrp PrefixFault)
    → MatchResult answer (λ payload. (payload.prefix ≡ prefix) × (payload.max_len ≡ max_len) × (payload.asn ≡ record { 0 = asn }) × IsMaxLength prefix.len max_len) (λ fault. (fault ≡ MaxRange) × IsNoMaxLength prefix.len max_len)
    → result_ok answer ≡ payload_with max_len asn prefix
payload_answer prefix max_len asn (Ok payload) h = sym (payload_with-is prefix max_len asn payload h.0 h.1 (ap (λ (a : Asn). a.0) h.2))
payload_answer prefix max_len asn (Err fault) h = sym (payload_with-none prefix max_len asn h.1)
