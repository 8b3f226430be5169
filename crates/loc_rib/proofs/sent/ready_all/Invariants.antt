use Rattle.std.proofs.Common.{◌≡◌, ◌==◌, ◌&&◌, ℕ, None, true, false, cond, drop, option_map}
use Rattle.net_prefix.specs.declared.prefix.Prefix.{Prefix}
use Rattle.prefix_trie.specs.TrieMap.{found}
use Rattle.rib_out.specs.Held.{is_among}
use Rattle.rib_rows.specs.Records.{AreSound, IsPrepared, held_of, routed}
use Rattle.loc_rib.proofs.sent.ready_all.Given as goal

-- those that were passed have a place
abbrev pub invariant-loop-prefix : goal.invariant-loop-prefix
invariant-loop-prefix g l = record {
  rows : AreSound l.rows.entries;
  routed : (p : Prefix) → found (routed l.rows.entries) p ≡ found (routed l.fn.rows.entries) p;
  held : (p : Prefix) (s : ℕ) → held_of (found l.rows.entries p) s ≡ held_of (found l.fn.rows.entries p) s;
  others : (p : Prefix) → is_among p l.prefixes ≡ false → found l.rows.entries p ≡ found l.fn.rows.entries p;
  ready : (p : Prefix) → is_among p l.prefixes ≡ true → is_among p (drop l.prefix-index l.prefixes) ≡ false → IsPrepared l.sent (found l.rows.entries p);
}
