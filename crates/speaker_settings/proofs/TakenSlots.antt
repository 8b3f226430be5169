-- One more peer.
use Rattle.std.proofs.Common.{◌≡◌, ◌==◌, ◌<◌, ◌++◌, ℕ, Bool, true, false, List, [], ◌∷◌, length, get_or, refl}
use Rattle.std.proofs.lemmas.List.Elements.{All-push}
use Rattle.std.proofs.lemmas.List.Folds.{list_any_at}
use Rattle.std.proofs.lemmas.List.Quantifiers.{all_pairs_push}
use Rattle.std.specs.List.{list_any}
use Rattle.std.specs.declared.net.socket_addr.SocketAddr.{SocketAddr as Address}
use Rattle.speaker_settings.specs.PeerSlots.{AreSlots, has_slot}

none_at : (p : (ℕ × Address) → Bool) (peers : List (ℕ × Address)) → list_any p peers ≡ false → (k : ℕ) (d : ℕ × Address) → k < length peers → p (get_or peers k d) ≡ false
none_at p peers none k d within = by_test (p (get_or peers k d)) (list_any_at p peers k d within)
  where
    by_test : (b : Bool) → (b ≡ true → list_any p peers ≡ true) → b ≡ false
    by_test false some = refl
    by_test true some = let is = some refl in absurd cc

pub are_slots-push : (peers : List (ℕ × Address)) (peer : ℕ × Address) → AreSlots peers → peer.0 < 64 → has_slot peers peer.0 ≡ false → AreSlots (peers ++ peer ∷ [])
are_slots-push peers peer are within none = record {
  within = All-push (λ other. other.0 < 64) peers peer are.within within;
  once = all_pairs_push (λ other another. (other.0 == another.0) ≡ false) peers peer are.once (none_at (λ other. other.0 == peer.0) peers none);
}
