use Rattle.std.proofs.Common.{◌≡◌, ◌≢◌, ℕ, true, false, drop}
use Rattle.net_prefix.specs.declared.prefix.Prefix.{Prefix}
use Rattle.rib_out.specs.Alike.{alike, has_alike}
use Rattle.rib_out.specs.Held.{is_among}
use Rattle.rib_out.specs.declared.slot_list.Alike.{Alike as Entry}
use Rattle.rib_out.proofs.slot_list.SlotList.remove_all.Given as goal

-- what is none of them is none of those that are left, and is listed still; those that aren't left are gone
abbrev pub invariant-loop-prefix : goal.invariant-loop-prefix
invariant-loop-prefix g l = record {
  left : (p : Prefix) → is_among p l.prefixes ≡ false → is_among p (drop l.prefix-index l.prefixes) ≡ false;
  kept : (n : ℕ) (p : Prefix) → is_among p l.prefixes ≡ false → has_alike l.self (alike n p) ≡ has_alike l.fn.self (alike n p);
  gone : (p : Prefix) → is_among p l.prefixes ≡ true → is_among p (drop l.prefix-index l.prefixes) ≡ false → has_alike l.self (alike l.number p) ≡ false;
  fewer : (a : Entry) → has_alike l.self a ≡ true → has_alike l.fn.self a ≡ true;
  others : (a : Entry) → a.number ≢ l.number → has_alike l.self a ≡ has_alike l.fn.self a;
}
