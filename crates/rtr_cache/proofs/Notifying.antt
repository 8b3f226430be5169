-- Clients notified one after another, by rising key.
use Rattle.std.proofs.Common.{arith, ◌≡◌, ◌≢◌, ◌⊎◌, refl, sym, ap, ◌∙◌, inl, inr, zero, suc, length, ℕ, ◌+◌, ◌<◌, ◌≤◌, Option, None}
use Rattle.std.proofs.lemmas.Bool.{cases_eq}
use Rattle.std.proofs.lemmas.List.{get_or_past}
use Rattle.std.specs.Option.{option_map}
use Rattle.rtr_cache.specs.CacheTable.{Conn, Shared, notified, pumped}
use Rattle.rtr_cache.specs.CacheState.{AllAreNotified, CacheState, OthersStay, client_at}

-- what a Load or a Tick makes of a client
abbrev pub told : Shared → Option Conn → Option Conn
told shared found = option_map (λ conn. pumped (notified shared conn)) found

-- the clients of lower keys are notified, and the others are as they were
pub record AreNotifiedBelow (key : ℕ) (old now : CacheState) : Type 0 where
  pub shared : now.shared ≡ old.shared
  pub long : length now.clients ≡ length old.clients
  pub below : (k : ℕ) → k < key → client_at now k ≡ told old.shared (client_at old k)
  pub above : (k : ℕ) → key ≤ k → client_at now k ≡ client_at old k

pub none_notified : (old : CacheState) → AreNotifiedBelow 0 old old
none_notified old = record { shared = refl; long = refl; below = λ k low. absurd (omega (arith, low)); above = λ k high. refl }

pub one_more_notified : (key : ℕ) (old now next : CacheState) → AreNotifiedBelow key old now → next.shared ≡ now.shared → client_at next key ≡ told now.shared (client_at now key) → OthersStay now key next → length next.clients ≡ length now.clients → AreNotifiedBelow (key + 1) old next
one_more_notified key old now next notified shared client others long =
    record {
      shared = shared ∙ notified.shared;
      long = long ∙ notified.long;
      below = λ k low. at_or_below k low (cases_eq k key);
      above = λ k high. others k (λ same. omega (arith, high, same)) ∙ notified.above k (omega (arith, high));
    }
  where
    at_or_below : (k : ℕ) → k < key + 1 → (k ≡ key) ⊎ (k ≢ key) → client_at next k ≡ told old.shared (client_at old k)
    at_or_below k low (inl same) =
        ap (client_at next) same ∙ client ∙ ap (told now.shared) (notified.above key (omega (arith))) ∙ ap (λ s. told s (client_at old key)) notified.shared ∙ ap (λ x. told old.shared (client_at old x)) (sym same)
    at_or_below k low (inr differs) = others k differs ∙ notified.below k (omega (arith, low, differs))

pub all_notified : (key : ℕ) (old now : CacheState) → AreNotifiedBelow key old now → length old.clients ≤ key → AllAreNotified old now
all_notified key old now notified long k = by_side k (cases k key)
  where
    cases : (k key : ℕ) → (k < key) ⊎ (key ≤ k)
    cases zero zero = inr (omega arith)
    cases zero (suc key) = inl (omega arith)
    cases (suc k) zero = inr (omega arith)
    cases (suc k) (suc key) = elim (cases k key) [ inl low ↦ inl (omega (arith, low)) | inr high ↦ inr (omega (arith, high)) ]

    by_side : (k : ℕ) → (k < key) ⊎ (key ≤ k) → client_at now k ≡ told now.shared (client_at old k)
    by_side k (inl low) = notified.below k low ∙ ap (λ s. told s (client_at old k)) (sym notified.shared)
    by_side k (inr high) =
        let past : client_at old k ≡ None = get_or_past old.clients k None (omega (arith, high, long)) in
        notified.above k high ∙ past ∙ ap (told now.shared) (sym past)
