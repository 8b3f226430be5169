use Rattle.std.proofs.Common.{◌≡◌, ◌≤◌, ◌+◌, ◌↔◌, ℕ, nat_le, Bool, Result, Ok, Err, OnErr, OnOk, IfOk, IsTrue, false, refl, true, sym, ◌∙◌, arith}
use Rattle.std.proofs.lemmas.Bool.{leb-true, le-leb}
use Rattle.bgp_peer.specs.PeerLimits.{ring_octets, room_for_update}
use Rattle.std.specs.Bool.{OnTrue}
use Rattle.std.specs.Result.{is_err}

-- What holds of an answer that is none of a failure.

pub OnOk-got : {T F : Type 0} (r : Result T F) (P : Type 0) → OnOk r P → false ≡ is_err r → P
OnOk-got (Ok v) P p is = p
OnOk-got (Err e) P p is = absurd (cc)

pub OnErr-got : {T F : Type 0} (r : Result T F) (P : Type 0) → OnErr r P → true ≡ is_err r → P
OnErr-got (Ok v) P p is = absurd (cc)
OnErr-got (Err e) P p is = p

pub OnErr-is : {T F : Type 0} (r : Result T F) (P : Type 0) → P → OnErr r P
OnErr-is (Ok v) P p = tt
OnErr-is (Err e) P p = p

pub OnOk-never : {T F : Type 0} (r : Result T F) (P : Type 0) → true ≡ is_err r → OnOk r P
OnOk-never (Ok v) P failed = absurd (cc)
OnOk-never (Err e) P failed = tt

-- what holds where a test is met
pub OnTrue-if : (b : Bool) (P : Type 0) → (IsTrue b → P) → OnTrue b P
OnTrue-if true P p = p refl
OnTrue-if false P p = tt

-- an answer that can't be a failure
pub OnOk-sure : {T F : Type 0} (r : Result T F) (P X : Type 0) → OnOk r P → OnErr r X → (X → ⊥) → P
OnOk-sure (Ok v) P X p x never = p
OnOk-sure (Err e) P X p x never = absurd (never x)

-- what follows from what holds of an answer
pub OnOk-as : {T F : Type 0} (r : Result T F) (P Q : Type 0) → (P → Q) → OnOk r P → OnOk r Q
OnOk-as (Ok v) P Q so p = so p
OnOk-as (Err e) P Q so p = tt

pub OnErr-as : {T F : Type 0} (r : Result T F) (P Q : Type 0) → (P → Q) → OnErr r P → OnErr r Q
OnErr-as (Ok v) P Q so p = tt
OnErr-as (Err e) P Q so p = so p

pub IfOk-as : {T F : Type 0} (r : Result T F) (P Q : T → Type 0) → ((v : T) → P v → Q v) → IfOk r P → IfOk r Q
IfOk-as (Ok v) P Q so p = so v p
IfOk-as (Err e) P Q so p = tt

-- a ring has room where so many octets of it are free
pub room_test : (free ring : ℕ) → free + ring ≡ ring_octets → IsTrue (nat_le room_for_update free) ↔ (ring + room_for_update ≤ ring_octets)
room_test free ring is = (
  λ yes. let low = leb-true room_for_update free yes in omega (arith, low, is),
  λ room. le-leb room_for_update free (omega (arith, room, is)),
)

-- what a test tells
pub told_true : (r b : Bool) → r ≡ true → r ≡ b → b ≡ true
told_true r b told is = sym is ∙ told

pub told_false : (r b : Bool) → r ≡ false → r ≡ b → b ≡ false
told_false r b told is = sym is ∙ told

-- a count that rises at most so far, or stays
pub most_where : {T F : Type 0} (r : Result T F) (a b n : ℕ) → OnOk r (b ≤ a + n) → OnErr r (b ≡ a) → b ≤ a + n
most_where (Ok v) a b n most stays = most
most_where (Err e) a b n most stays = omega (arith, stays)
