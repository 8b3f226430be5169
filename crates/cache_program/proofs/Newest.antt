-- The payloads of the newest version, behind a set that was handed in.
use Rattle.std.proofs.Common.{◌≡◌, ℕ, Bool, true, false, if◌then◌else◌, List, [], ◌∷◌, Ok, is_some, unwrap_or, refl, sym, ap, ◌∙◌, take, length}
use Rattle.list_guards.specs.declared.Guards.{Guards}
use Rattle.rtr_cache.specs.CacheState.{CacheState, Loads}
use Rattle.rtr_cache.specs.CacheTable.{Shared}
use Rattle.rtr_cache.specs.declared.event.CacheReport.{CacheReport}
use Rattle.vrp_delta.proofs.Published.{same_set-Decides}
use Rattle.vrp_delta.specs.Versions.{Version, is_newest_set, kept_after, kept_versions, next_version}
use Rattle.net_prefix.specs.declared.payload.Vrp.{Vrp}
use Rattle.cache_program.specs.Rereads.{IsServing, newest_set}

same_newest : (kept : List Version) (set : List Vrp) → is_newest_set kept set ≡ true → newest_set kept ≡ set
same_newest [] set is = absurd cc
same_newest (version ∷ older) set is = (same_set-Decides version.set set).0 is

by_test : (test : Bool) (kept : List Version) (set : List Vrp) → (test ≡ true → newest_set kept ≡ set) → newest_set (if test then kept else take kept_versions (next_version kept set ∷ kept)) ≡ set
by_test true kept set same = same refl
by_test false kept set same = refl

pub newest_set-kept_after : (kept : List Version) (set : List Vrp) → newest_set (kept_after kept set) ≡ set
newest_set-kept_after kept set = by_test (is_newest_set kept set) kept set (same_newest kept set)

-- what is served behind a set that was handed in
pub serving : (guards : Guards) (old new : CacheState) (set looked_at : List Vrp) (report : CacheReport) (before serial payloads : ℕ) → Loads old set (Ok report) new
    → serial ≡ unwrap_or report.serial before → payloads ≡ length set → (is_some guards.max_shrink ≡ true → looked_at ≡ set) → IsServing guards new.shared.kept serial payloads looked_at
serving guards old new set looked_at report before serial payloads loads unwrapped counted looks =
    let served : newest_set new.shared.kept ≡ set = ap (λ (s : Shared). newest_set s.kept) loads.0 ∙ newest_set-kept_after old.shared.kept set in
    record {
      newest = record {
        serial_is = unwrapped ∙ ap (λ (r : CacheReport). unwrap_or r.serial before) loads.2;
        payloads_are = counted ∙ ap (λ (payloads : List Vrp). length payloads) (sym served);
      };
      served = λ is. looks is ∙ sym served;
    }
