-- The serials of the versions that were published.
use Rattle.std.proofs.Common.{◌≡◌, ◌≢◌, ◌+◌, ◌%◌, ◌^◌, ◌<◌, ℕ, zero, suc, Bool, true, false, List, [], ◌∷◌, cond, take, length, get_or, refl, arith}
use Rattle.std.proofs.lemmas.List.{get_or-take, length-take}
use Rattle.std.specs.List.{AllPairs}
use Rattle.net_prefix.specs.declared.payload.Vrp.{Vrp}
use Rattle.vrp_delta.specs.Versions.{Version, is_newest_set, kept_versions, newest_serial, next_version, published, serial_after}

-- each version has the serial after that of the one before it
abbrev IsChain : List Version → Type 0
IsChain [] = Unit {0}
IsChain (v ∷ vs) = (v.serial ≡ serial_after (newest_serial vs)) × IsChain vs

chain_published : (sets : List (List Vrp)) → IsChain (published sets)
chain_published [] = tt
chain_published (set ∷ before) = choice (is_newest_set (published before) set) (chain_published before)
  where
    choice : (b : Bool) → IsChain (published before) → IsChain (cond b (published before) (next_version (published before) set ∷ published before))
    choice true h = h
    choice false h = (refl, h)

mod_itself : (a b : ℕ) → a ≡ b % 2 ^ 32 → a ≡ (a + 0) % 2 ^ 32
mod_itself a b e = omega arith

one_more : (a b c j : ℕ) → a ≡ (b + 1) % 2 ^ 32 → b ≡ (c + j) % 2 ^ 32 → a ≡ (c + suc j) % 2 ^ 32
one_more a b c j e f = omega arith

-- the newest serial counts on from each one
counts_on : (vs : List Version) (j : ℕ) (d : Version) → IsChain vs → j < length vs → newest_serial vs ≡ ((get_or vs j d).serial + j) % 2 ^ 32
counts_on [] j d h less = absurd (omega arith)
counts_on (v ∷ vs) zero d h less = mod_itself v.serial (newest_serial vs + 1) h.0
counts_on (v ∷ vs) (suc j) d h less = one_more v.serial (newest_serial vs) (get_or vs j d).serial j h.0 (counts_on vs j d h.1 (omega arith))

small : (vs : List Version) (j : ℕ) (d : Version) → IsChain vs → j < length vs → (get_or vs j d).serial < 2 ^ 32
small [] j d h less = absurd (omega arith)
small (v ∷ vs) zero d h less = rw h.0 (omega arith)
small (v ∷ vs) (suc j) d h less = small vs j d h.1 (omega arith)

no_turn : (a b j : ℕ) → b < 2 ^ 32 → 0 < j → j < 2 ^ 32 → a ≡ (b + j) % 2 ^ 32 → a ≡ b → ⊥
no_turn a b j small some few e same = omega arith

-- serials that stand less than a turn apart differ
differ : (vs : List Version) (i j : ℕ) (d : Version) → IsChain vs → i < j → j < 2 ^ 32 → j < length vs → (get_or vs i d).serial ≢ (get_or vs j d).serial
differ [] i j d h before few less = absurd (omega arith)
differ (v ∷ vs) zero j d h before few less = no_turn v.serial (get_or (v ∷ vs) j d).serial j (small (v ∷ vs) j d h less) before few (counts_on (v ∷ vs) j d h less)
differ (v ∷ vs) (suc i) zero d h before few less = absurd (omega arith)
differ (v ∷ vs) (suc i) (suc j) d h before few less = differ vs i j d h.1 (omega arith) (omega arith) (omega arith)

-- no two kept versions have one serial
pub kept_differ : (sets : List (List Vrp)) → AllPairs (λ newer older. newer.serial ≢ older.serial) (take kept_versions (published sets))
kept_differ sets i j d before less =
    let few : j < 65 = omega (arith, length-take 65 (published sets)) in
    let inside : j < length (published sets) = omega (arith, length-take 65 (published sets)) in
    rw (get_or-take 65 (published sets) i d (omega arith), get_or-take 65 (published sets) j d few)
    (differ (published sets) i j d (chain_published sets) before (omega arith) inside)
