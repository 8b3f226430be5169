-- The versions that were published.
use Rattle.std.proofs.Common.{◌≡◌, ◌≢◌, ◌==◌, ℕ, Bool, true, false, List, [], ◌∷◌, Option, Some, None, IfSome, IfNone, cond, refl, ap, sym, ◌∙◌, ◌≤◌, zero, suc, take, arith}
use Rattle.std.proofs.lemmas.Bool.{eqb-true, eqb-false}
use Rattle.std.proofs.lemmas.List.Elements.{All-cons, All-nil}
use Rattle.std.proofs.lemmas.Slice.Eq.{slice_eq-Decides}
use Rattle.std.specs.Bool.{Decides}
use Rattle.std.specs.Cmp.{Equal-is}
use Rattle.std.specs.List.{All, Contains}
use Rattle.std.specs.Ordering.{eq_by_cmp}
use Rattle.net_prefix.proofs.PayloadSets.{payload_cmp_exact}
use Rattle.net_prefix.specs.PayloadOrder.{payload_cmp}
use Rattle.net_prefix.specs.declared.payload.Vrp.{Vrp}
use Rattle.vrp_delta.proofs.PayloadMembers.{same_from_clone}
use Rattle.vrp_delta.specs.Versions.{Version, is_newest_set, is_same_set, kept_after, kept_versions, newest_serial, next_version, published_after, serial_after, version_of}

payload-Decides : (a b : Vrp) → Decides (eq_by_cmp payload_cmp a b) (a ≡ b)
payload-Decides a b = (λ e. payload_cmp_exact a b ((Equal-is (payload_cmp a b)).0 e), λ e. same_from_clone a b (sym e))

-- sets are the same where they are equal
pub same_set-Decides : (a b : List Vrp) → Decides (is_same_set a b) (a ≡ b)
same_set-Decides a b = slice_eq-Decides payload-Decides a b (is_same_set a b) refl

found_later : (v : Version) (vs : List Version) (serial : ℕ) (o : Option Version) → IfSome o (λ version. Contains vs version × (version.serial ≡ serial))
    → IfSome o (λ version. Contains (v ∷ vs) version × (version.serial ≡ serial))
found_later v vs serial None h = h
found_later v vs serial (Some w) h = ((suc h.0.0, omega arith, h.0.2), h.1)

-- the version of a serial is one of them
pub version_of-found : (versions : List Version) (serial : ℕ) → IfSome (version_of versions serial) (λ version. Contains versions version × (version.serial ≡ serial))
version_of-found [] serial = tt
version_of-found (v ∷ vs) serial = choice (v.serial == serial) refl (found_later v vs serial (version_of vs serial) (version_of-found vs serial))
  where
    choice : (b : Bool) → (v.serial == serial) ≡ b → IfSome (version_of vs serial) (λ version. Contains (v ∷ vs) version × (version.serial ≡ serial))
        → IfSome (cond b (Some v) (version_of vs serial)) (λ version. Contains (v ∷ vs) version × (version.serial ≡ serial))
    choice true e h = ((0, omega arith, refl), eqb-true v.serial serial e)
    choice false e h = h

none_later : (v : Version) (vs : List Version) (serial : ℕ) (o : Option Version) → v.serial ≢ serial → IfNone o (All (λ version. version.serial ≢ serial) vs)
    → IfNone o (All (λ version. version.serial ≢ serial) (v ∷ vs))
none_later v vs serial None other h = All-cons (λ version. version.serial ≢ serial) v vs other h
none_later v vs serial (Some w) other h = h

-- where a serial has no version, none has it
pub version_of-none : (versions : List Version) (serial : ℕ) → IfNone (version_of versions serial) (All (λ version. version.serial ≢ serial) versions)
version_of-none [] serial = All-nil (λ version. version.serial ≢ serial)
version_of-none (v ∷ vs) serial = choice (v.serial == serial) refl (version_of-none vs serial)
  where
    choice : (b : Bool) → (v.serial == serial) ≡ b → IfNone (version_of vs serial) (All (λ version. version.serial ≢ serial) vs)
        → IfNone (cond b (Some v) (version_of vs serial)) (All (λ version. version.serial ≢ serial) (v ∷ vs))
    choice true e h = tt
    choice false e h = none_later v vs serial (version_of vs serial) (eqb-false v.serial serial e) h

-- ---- what is kept

newest_kept : (all : List Version) (set : List Vrp) → is_newest_set (take kept_versions all) set ≡ is_newest_set all set
newest_kept [] set = refl
newest_kept (v ∷ vs) set = refl

newest_serial-take : (n : ℕ) (all : List Version) → newest_serial (take (suc n) all) ≡ newest_serial all
newest_serial-take n [] = refl
newest_serial-take n (v ∷ vs) = refl

take_again : (n m : ℕ) (all : List Version) → n ≤ m → take n (take m all) ≡ take n all
take_again zero m all fits = refl
take_again (suc n) zero all fits = absurd (omega (arith, fits))
take_again (suc n) (suc m) [] fits = refl
take_again (suc n) (suc m) (v ∷ vs) fits = ap (λ l. v ∷ l) (take_again n m vs (omega (arith, fits)))

kept_case : (t : Bool) (n : ℕ) (all : List Version) (set : List Vrp)
    → cond t (take (suc n) all) (take (suc n) (next_version (take (suc n) all) set ∷ take (suc n) all)) ≡ take (suc n) (cond t all (next_version all set ∷ all))
kept_case true n all set = refl
kept_case false n all set =
    ap (λ serial. record { serial = serial_after serial; set = set } ∷ take n (take (suc n) all)) (newest_serial-take n all)
    ∙ ap (λ l. next_version all set ∷ l) (take_again n (suc n) all (omega arith))

pub kept-take : (all : List Version) (set : List Vrp) → kept_after (take kept_versions all) set ≡ take kept_versions (published_after all set)
kept-take all set =
    ap (λ t. cond t (take kept_versions all) (take kept_versions (next_version (take kept_versions all) set ∷ take kept_versions all))) (newest_kept all set)
    ∙ kept_case (is_newest_set all set) 64 all set
