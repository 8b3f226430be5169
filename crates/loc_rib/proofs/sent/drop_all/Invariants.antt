use Rattle.std.proofs.Common.{◌≡◌, ◌==◌, ◌&&◌, ℕ, None, true, false, cond, drop, option_map}
use Rattle.net_prefix.specs.declared.prefix.Prefix.{Prefix}
use Rattle.prefix_trie.specs.TrieMap.{found}
use Rattle.rib_out.specs.Held.{is_among}
use Rattle.rib_rows.specs.Records.{AreRecords, held_of, routed}
use Rattle.loc_rib.proofs.sent.drop_all.Given as goal

-- those that were dropped so far, and those that are left, are all of them
abbrev pub invariant-loop-prefix : goal.invariant-loop-prefix
invariant-loop-prefix g l = record {
  rows : AreRecords l.rows.entries;
  routed : (p : Prefix) → found (routed l.rows.entries) p ≡ found (routed l.fn.rows.entries) p;
  held : (p : Prefix) (s : ℕ) → cond (s == l.slot && is_among p (drop l.prefix-index l.prefixes)) None (held_of (found l.rows.entries p) s) ≡ cond (s == l.slot && is_among p l.prefixes) None (held_of (found l.fn.rows.entries p) s);
}
