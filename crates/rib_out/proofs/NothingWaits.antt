-- What waits where nothing does.
use Rattle.std.proofs.Common.{◌≡◌, ℕ, zero, suc, List, false, replicate, slice_index_or, refl, ap, ◌∙◌}
use Rattle.std.specs.BTreeSet.{BTreeSet}
use Rattle.net_prefix.specs.declared.prefix.Prefix.{Prefix}
use Rattle.rib_out.specs.Alike.{has_alike, no_list}
use Rattle.rib_out.specs.Waiting.{QueuesState, is_waiting, no_queues}
use Rattle.rib_out.specs.declared.marks.Owed.{Owed}
use Rattle.rib_out.specs.declared.marks.Owed.TheVariants.{Withdrawal, Announcement}
use Rattle.rib_out.specs.declared.slot_list.Alike.{Alike}

each : {X : Type 0} → (n s : ℕ) (x : X) → slice_index_or (replicate n x) s x ≡ x
each zero s x = refl
each (suc n) zero x = refl
each (suc n) (suc s) x = each n s x

none_waits : (o : Owed) (p : Prefix) → is_waiting no_queues o p ≡ false
none_waits Withdrawal p = refl
none_waits Announcement p = refl

-- nothing waits for any slot
pub none_queued : (queues : List QueuesState) (s : ℕ) (o : Owed) (p : Prefix) → queues ≡ replicate 64 no_queues → is_waiting (slice_index_or queues s no_queues) o p ≡ false
none_queued queues s o p empty = ap (λ q. is_waiting (slice_index_or q s no_queues) o p) empty ∙ (ap (λ q. is_waiting q o p) (each 64 s no_queues) ∙ none_waits o p)

-- nothing is listed for any slot
pub none_listed : (lists : List (BTreeSet Alike)) (s : ℕ) (a : Alike) → lists ≡ replicate 64 no_list → has_alike (slice_index_or lists s no_list) a ≡ false
none_listed lists s a empty = ap (λ l. has_alike (slice_index_or l s no_list) a) empty ∙ ap (λ l. has_alike l a) (each 64 s no_list)
