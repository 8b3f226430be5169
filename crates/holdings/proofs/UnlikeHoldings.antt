-- Each list of octets is there once.
use Rattle.std.proofs.Common.{◌≡◌, List, [], ◌∷◌, inl, inr, sym}
use Rattle.holdings.specs.Bounded.{AreUnlike}
use Rattle.holdings.specs.Holdings.{Holding, IsListedAmong}
use Rattle.holdings.specs.HoldingLists.{KeepsListed, octets_listed}

-- where the octets are the same, so is what is listed
listed_by_octets : (old new : List Holding) → octets_listed new ≡ octets_listed old → KeepsListed new old
listed_by_octets [] [] same o there = there
listed_by_octets [] (y ∷ new) same o there = absurd cc
listed_by_octets (x ∷ old) [] same o there = absurd there
listed_by_octets (x ∷ old) (y ∷ new) same o there = elim there [ inl is ↦ inl (cc) | inr behind ↦ inr (listed_by_octets old new (cc) o behind) ]

pub unlike_by_octets : (old new : List Holding) → octets_listed new ≡ octets_listed old → AreUnlike old → AreUnlike new
unlike_by_octets [] [] same unlike = unlike
unlike_by_octets [] (y ∷ new) same unlike = absurd cc
unlike_by_octets (x ∷ old) [] same unlike = tt
unlike_by_octets (x ∷ old) (y ∷ new) same unlike =
    let first : y.octets ≡ x.octets = cc in
    ((λ there. unlike.0 (rw first at (listed_by_octets old new (cc) y.octets there))), unlike_by_octets old new (cc) unlike.1)

-- behind the first there is room for one of other octets
pub unlike_put : (x y : Holding) (hs : List Holding) → (IsListedAmong y.octets (x ∷ hs) → ⊥) → AreUnlike (x ∷ hs) → AreUnlike (x ∷ (y ∷ hs))
unlike_put x y hs new unlike =
    ((λ there. elim there [ inl same ↦ new (inl (sym same)) | inr behind ↦ unlike.0 behind ]), ((λ there. new (inr there)), unlike.1))
