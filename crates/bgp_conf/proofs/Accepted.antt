use Rattle.std.proofs.Common.{◌≡◌, ◌<◌, ◌==◌, ◌||◌, ◌&&◌, ℕ, Bool, true, false, Option, Some, None, is_some, nat_le, not, if◌then◌else◌, refl, arith}
use Rattle.std.proofs.lemmas.Bool.Decides.{nat_tests}
use Rattle.bgp_attr.specs.AttributeFaults.{is_host}
use Rattle.bgp_conf.specs.Configuration.{Configuration, peer_at}
use Rattle.bgp_conf.specs.FirstRefusal.{first_refusal, has_address, has_bit, is_in_range}
use Rattle.bgp_conf.specs.declared.command.PeerConf.{PeerConf}
use Rattle.bgp_conf.specs.declared.command.Command.TheVariants.{AddPeer}
use Rattle.bgp_conf.specs.declared.refusal.Refusal.{Refusal}
use Rattle.bgp_conf.specs.declared.refusal.Refusal.TheVariants.{BadSlot, SlotTaken, AddressTaken, Range}

-- What an accepted AddPeer tells.

-- where no test of a chain holds, the first four don't
four_false : (a b d e : Bool) (r s t u : Refusal) (rest : Option Refusal) → (if a then Some r else (if b then Some s else (if d then Some t else (if e then Some u else rest)))) ≡ None → (a ≡ false) × (b ≡ false) × (d ≡ false) × (e ≡ false)
four_false true b d e r s t u rest h = absurd cc
four_false false true d e r s t u rest h = absurd cc
four_false false false true e r s t u rest h = absurd cc
four_false false false false true r s t u rest h = absurd cc
four_false false false false false r s t u rest h = (refl, refl, refl, refl)

-- the first four tests of AddPeer failed
tests_false : (conf : Configuration) (closing slot : ℕ) (peer : PeerConf) → first_refusal conf closing (AddPeer slot peer) ≡ None
    → (nat_le 64 slot ≡ false) × ((is_some (peer_at conf slot) || has_bit closing slot) ≡ false) × (has_address conf.peers peer.address ≡ false) × (not (is_in_range peer) ≡ false)
tests_false conf closing slot peer h =
    four_false (nat_le 64 slot) (is_some (peer_at conf slot) || has_bit closing slot) (has_address conf.peers peer.address) (not (is_in_range peer)) BadSlot SlotTaken AddressTaken Range _ h

-- neither of two tests holds
or_false : (a b : Bool) → (a || b) ≡ false → a ≡ false
or_false true b h = h
or_false false b h = refl

-- a look-up that is no Some
none_from_is_some : {X : Type 0} → (o : Option X) → is_some o ≡ false → o ≡ None
none_from_is_some None h = refl
none_from_is_some (Some x) h = absurd cc

-- of tests that all hold
and_left : (a b : Bool) → (a && b) ≡ true → a ≡ true
and_left true b h = refl
and_left false b h = absurd cc

and_right : (a b : Bool) → (a && b) ≡ true → b ≡ true
and_right true b h = h
and_right false b h = absurd cc

not_held : (a : Bool) → not a ≡ true → a ≡ false
not_held true h = absurd cc
not_held false h = refl

not_missed : (a : Bool) → not a ≡ false → a ≡ true
not_missed true h = refl
not_missed false h = absurd cc

-- there is such a slot
pub slot-from_accepted : (conf : Configuration) (closing slot : ℕ) (peer : PeerConf) → first_refusal conf closing (AddPeer slot peer) ≡ None → slot < 64
slot-from_accepted conf closing slot peer h =
    let below : nat_le 64 slot ≡ false = (tests_false conf closing slot peer h).0 in
    grind (arith, nat_tests)

-- the slot has no peer
pub peer_at-from_accepted : (conf : Configuration) (closing slot : ℕ) (peer : PeerConf) → first_refusal conf closing (AddPeer slot peer) ≡ None → peer_at conf slot ≡ None
peer_at-from_accepted conf closing slot peer h =
    none_from_is_some (peer_at conf slot) (or_false _ (has_bit closing slot) (tests_false conf closing slot peer h).1)

-- no peer has the address
pub has_address-from_accepted : (conf : Configuration) (closing slot : ℕ) (peer : PeerConf) → first_refusal conf closing (AddPeer slot peer) ≡ None → has_address conf.peers peer.address ≡ false
has_address-from_accepted conf closing slot peer h = (tests_false conf closing slot peer h).2

-- the peer has an address
pub addressed-from_accepted : (conf : Configuration) (closing slot : ℕ) (peer : PeerConf) → first_refusal conf closing (AddPeer slot peer) ≡ None → (peer.address == 0) ≡ false
addressed-from_accepted conf closing slot peer h =
    let inside = not_missed _ (tests_false conf closing slot peer h).3 in
    not_held _ (and_right _ _ (and_left _ _ (and_left _ _ (and_left _ _ (and_left _ _ (and_left _ _ (and_left _ _ inside)))))))

-- the peer sees of us the address of a host
pub is_host-from_accepted : (conf : Configuration) (closing slot : ℕ) (peer : PeerConf) → first_refusal conf closing (AddPeer slot peer) ≡ None → is_host peer.local ≡ true
is_host-from_accepted conf closing slot peer h =
    let inside = not_missed _ (tests_false conf closing slot peer h).3 in
    and_right _ _ (and_left _ _ (and_left _ _ (and_left _ _ (and_left _ _ (and_left _ _ inside)))))

-- which isn't its own
pub apart-from_accepted : (conf : Configuration) (closing slot : ℕ) (peer : PeerConf) → first_refusal conf closing (AddPeer slot peer) ≡ None → (peer.local == peer.address) ≡ false
apart-from_accepted conf closing slot peer h =
    let inside = not_missed _ (tests_false conf closing slot peer h).3 in
    not_held _ (and_right _ _ (and_left _ _ (and_left _ _ (and_left _ _ (and_left _ _ inside)))))
