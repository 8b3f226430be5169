-- What waits for each slot, in order (own): a withdrawal of a prefix, or an announcement.
use Rattle.std.specs.Prelude.{ℕ, ◌≡◌, Bool, List, [], Option, None, Some, true, false, slice_index_or}
use Rattle.std.specs.BTreeSet.{BTreeSet, contains}
use Rattle.net_prefix.specs.PrefixOrder.{prefix_cmp}
use Rattle.net_prefix.specs.declared.prefix.Prefix.{Prefix}
use Rattle.rib_out.specs.Slots.{has_slot}
use Rattle.rib_out.specs.declared.marks.Owed.{Owed}
use Rattle.rib_out.specs.declared.marks.Owed.TheVariants.{Withdrawal, Announcement}

-- the prefixes of which a withdrawal waits for one slot, and an announcement
pub record QueuesState : Type 0 where
  pub withdrawals : BTreeSet Prefix
  pub announcements : BTreeSet Prefix

-- no prefixes
abbrev pub no_queues : QueuesState
no_queues = record { withdrawals = record { keys = [] }; announcements = record { keys = [] } }

-- the prefixes of which this waits
abbrev pub queue_of : QueuesState → Owed → BTreeSet Prefix
queue_of queues Withdrawal = queues.withdrawals
queue_of queues Announcement = queues.announcements

-- whether this waits of the prefix
abbrev pub is_waiting : QueuesState → Owed → Prefix → Bool
is_waiting queues owed prefix = contains prefix_cmp (queue_of queues owed) prefix

-- what waits for each slot, and the slots whose queues are whole
pub record WaitingState : Type 0 where
  pub queues : List QueuesState
  pub whole : ℕ

-- whether this is queued for the slot
abbrev pub is_queued : WaitingState → ℕ → Owed → Prefix → Bool
is_queued waiting slot owed prefix = is_waiting (slice_index_or waiting.queues slot no_queues) owed prefix

-- whether this is what waits, if anything does
abbrev pub is_owed : Owed → Option Owed → Bool
is_owed owed None = false
is_owed Withdrawal (Some Withdrawal) = true
is_owed Withdrawal (Some Announcement) = false
is_owed Announcement (Some Withdrawal) = false
is_owed Announcement (Some Announcement) = true

-- just this is queued of the prefix for the slot, where its queue is whole
abbrev pub IsAwaited : WaitingState → ℕ → Prefix → Option Owed → Type 0
IsAwaited waiting slot prefix owed = has_slot waiting.whole slot ≡ true → (o : Owed) → is_queued waiting slot o prefix ≡ is_owed o owed
