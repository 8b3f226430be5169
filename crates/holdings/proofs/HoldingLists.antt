-- What the peers hold of one prefix.
use Rattle.std.proofs.Common.{◌≡◌, ◌==◌, ◌||◌, ℕ, Bool, true, false, cond, not, List, [], ◌∷◌, Option, Some, None, inl, inr, refl, sym, ◌∙◌, arith}
use Rattle.std.proofs.lemmas.Bool.Decides.{nat_tests}
use Rattle.std.proofs.lemmas.Nat.Bits.{bit_at-zero}
use Rattle.holdings.specs.Holdings.{Holding, HoldingsState, IsListedAmong, holds_any, octets_among, octets_by}
use Rattle.rib_out.specs.Slots.{has_slot}
use Rattle.holdings.specs.HoldingLists.{IsMarked, any_held}

-- where no peer holds anything, none does
none_here : (slots s : ℕ) → not (slots == 0) ≡ false → has_slot slots s ≡ false
none_here slots s h = let none : slots ≡ 0 = grind (arith, nat_tests) in rw (none, bit_at-zero s) refl

none_step : (c b : Bool) (x y : Option (List ℕ)) → b ≡ false → y ≡ None → cond b x y ≡ None
none_step c true x y h more = absurd cc
none_step c false x y h more = more

here_or_behind : (a b : Bool) → (a || b) ≡ false → (a ≡ false) × (b ≡ false)
here_or_behind true b h = absurd cc
here_or_behind false b h = (refl, h)

pub none_among : (hs : List Holding) → any_held hs ≡ false → (s : ℕ) → octets_among hs s ≡ None
none_among [] h s = refl
none_among (x ∷ hs) h s =
    let both = here_or_behind (not (x.slots == 0)) (any_held hs) h in
    rw (none_here x.slots s both.0) (none_among hs both.1 s)

pub holds_any-none : (h : HoldingsState) → holds_any h ≡ false → (s : ℕ) → octets_by h s ≡ None
holds_any-none h none s = none_among h.holdings none s

-- and where one does, some peer holds something
pub any_among : (hs : List Holding) (s : ℕ) (o : List ℕ) → octets_among hs s ≡ Some o → any_held hs ≡ true
any_among hs s o there = by_any (any_held hs) refl
  where
    by_any : (b : Bool) → any_held hs ≡ b → any_held hs ≡ true
    by_any true is = is
    by_any false is = let no : None ≡ Some o = sym (none_among hs is s) ∙ there in absurd cc

pub holds_any-some : (h : HoldingsState) (s : ℕ) (o : List ℕ) → octets_by h s ≡ Some o → holds_any h ≡ true
holds_any-some h s o there = any_among h.holdings s o there

-- what a slot's peer holds is listed
listed_step : (x : Holding) (hs : List Holding) (s : ℕ) (o : List ℕ) (b : Bool) → (octets_among hs s ≡ Some o → IsListedAmong o hs) → cond b (Some x.octets) (octets_among hs s) ≡ Some o → IsListedAmong o (x ∷ hs)
listed_step x hs s o true more h = inl cc
listed_step x hs s o false more h = inr (more h)

pub listed_among : (hs : List Holding) (s : ℕ) (o : List ℕ) → octets_among hs s ≡ Some o → IsListedAmong o hs
listed_among [] s o h = absurd cc
listed_among (x ∷ hs) s o h = listed_step x hs s o (has_slot x.slots s) (listed_among hs s o) h

-- what a slot's peer is to hold, it holds: it is listed, and some peer holds something
marked_here : (slot : ℕ) (o : List ℕ) (old new : List Holding) → IsMarked slot o old new → octets_among new slot ≡ Some o
marked_here slot o old new marked = let same : (slot == slot) ≡ true = grind (arith, nat_tests) in marked slot ∙ rw same refl

pub listed_by_mark : (slot : ℕ) (o : List ℕ) (old new : List Holding) → IsMarked slot o old new → IsListedAmong o new
listed_by_mark slot o old new marked = listed_among new slot o (marked_here slot o old new marked)

pub any_by_mark : (slot : ℕ) (o : List ℕ) (old new : List Holding) → IsMarked slot o old new → any_held new ≡ true
any_by_mark slot o old new marked = any_among new slot o (marked_here slot o old new marked)
