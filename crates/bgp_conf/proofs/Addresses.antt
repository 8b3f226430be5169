use Rattle.std.proofs.Common.{◌≡◌, ◌≢◌, ◌==◌, ◌||◌, ◌⊎◌, ℕ, Bool, true, false, cond, List, [], ◌∷◌, Option, Some, None, if◌then◌else◌, refl, sym, ◌∙◌, ap, inl, inr, ⊎_elim}
use Rattle.std.proofs.lemmas.Bool.{false≢true, eq-eqb}
use Rattle.std.proofs.lemmas.Bool.Decides.{eqb_tells}
use Rattle.std.specs.BTreeMap.{is_at}
use Rattle.std.specs.Map.{lookup}
use Rattle.std.specs.Ordering.{nat_cmp}
use Rattle.bgp_conf.specs.declared.conf.ConfiguredPeer.{ConfiguredPeer}
use Rattle.bgp_conf.specs.Configuration.{AddressesDiffer}
use Rattle.bgp_conf.specs.FirstRefusal.{has_address}

-- That a new peer's address differs from all others.

-- neither of two tests holds
or_false : (a b : Bool) → (a || b) ≡ false → (a ≡ false) × (b ≡ false)
or_false true b h = absurd (false≢true (sym h))
or_false false b h = (refl, h)

-- a choice of a value is one side
choice : {X : Type 0} → (b : Bool) (x q : X) (rest : Option X) → cond b (Some x) rest ≡ Some q → (x ≡ q) ⊎ (rest ≡ Some q)
choice true x q rest h = let e : x ≡ q = cc in inl e
choice false x q rest h = inr h

-- no peer has an address that none has
pub address-from_free : (test : ℕ → Bool) (peers : List (ℕ × ConfiguredPeer)) (address : ℕ) (q : ConfiguredPeer) → has_address peers address ≡ false → lookup test peers ≡ Some q → q.address ≢ address
address-from_free test [] address q free found same = absurd cc
address-from_free test (e ∷ es) address q free found same =
    let both = or_false (e.1.address == address) (has_address es address) free in
    let here = λ (is : e.1 ≡ q). false≢true (sym both.0 ∙ eq-eqb e.1.address address (ap (λ (p : ConfiguredPeer). p.address) is ∙ same)) in
    let there = λ (is : lookup test es ≡ Some q). address-from_free test es address q both.1 is same in
    ⊎_elim here there (choice (test e.0) e.1 q (lookup test es) found)

-- no peers have the same address
pub AddressesDiffer-none : AddressesDiffer []
AddressesDiffer-none = λ s t p q at_s at_t same. absurd cc

-- a peer with an address that no other has keeps them apart
pub AddressesDiffer-set : (old new : List (ℕ × ConfiguredPeer)) (slot : ℕ) (peer : ConfiguredPeer) → ((s : ℕ) → lookup (is_at (nat_cmp s)) new ≡ (if s == slot then Some peer else lookup (is_at (nat_cmp s)) old)) → has_address old peer.address ≡ false → AddressesDiffer old → AddressesDiffer new
AddressesDiffer-set old new slot peer set free differ s t p q at_s at_t same =
    let known_s = sym (set s) ∙ at_s in
    let known_t = sym (set t) ∙ at_t in
    ⊎_elim
    (λ (a : ((s == slot) ≡ true) × (s ≡ slot)).
    let is_p : Some peer ≡ Some p = rw a.0 at known_s in
    let of_p : peer ≡ p = cc in
    ⊎_elim
    (λ (b : ((t == slot) ≡ true) × (t ≡ slot)). a.1 ∙ sym b.1)
    (λ (b : ((t == slot) ≡ false) × (t ≢ slot)).
    absurd (address-from_free _ old peer.address q free (rw b.0 at known_t) (sym same ∙ ap (λ (x : ConfiguredPeer). x.address) (sym of_p))))
    (eqb_tells t slot))
    (λ (a : ((s == slot) ≡ false) × (s ≢ slot)).
    let old_s : lookup (is_at (nat_cmp s)) old ≡ Some p = rw a.0 at known_s in
    ⊎_elim
    (λ (b : ((t == slot) ≡ true) × (t ≡ slot)).
    let is_q : Some peer ≡ Some q = rw b.0 at known_t in
    let of_q : peer ≡ q = cc in
    absurd (address-from_free _ old peer.address p free old_s (same ∙ ap (λ (x : ConfiguredPeer). x.address) (sym of_q))))
    (λ (b : ((t == slot) ≡ false) × (t ≢ slot)). differ s t p q old_s (rw b.0 at known_t) same)
    (eqb_tells t slot))
    (eqb_tells s slot)

-- nor do fewer peers
pub AddressesDiffer-without : (old new : List (ℕ × ConfiguredPeer)) (slot : ℕ) → ((s : ℕ) → lookup (is_at (nat_cmp s)) new ≡ (if s == slot then None else lookup (is_at (nat_cmp s)) old)) → AddressesDiffer old → AddressesDiffer new
AddressesDiffer-without old new slot without differ s t p q at_s at_t same =
    differ s t p q (still s p (s == slot) (sym (without s) ∙ at_s)) (still t q (t == slot) (sym (without t) ∙ at_t)) same
  where
    still : (u : ℕ) (x : ConfiguredPeer) (b : Bool) → cond b None (lookup (is_at (nat_cmp u)) old) ≡ Some x → lookup (is_at (nat_cmp u)) old ≡ Some x
    still u x true at = absurd cc
    still u x false at = at
