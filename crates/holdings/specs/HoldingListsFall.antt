-- The attributes behind the first are fewer by one.
use Rattle.std.specs.Prelude.{◌≤◌, suc, None, Some, length}
use Rattle.std.proofs.Common.{arith}
use Rattle.std.specs.declared.alloc.Allocator as allocator
use Rattle.holdings.specs.HoldingLists.{list_of}
use Rattle.holdings.specs.declared.holding_list.HoldingList.TheInside.{Inside}
use Rattle.holdings.specs.declared.holding_list.HoldingList.TheDeep.{deep-HoldingList}

pub falls : {A : Type 0} (alloc : allocator.Ghosts A) (p : Inside A) → deep-HoldingList A alloc p ≤ suc (length (list_of p.more))
falls {A} alloc p =
    elim p.more as (λ o. deep-HoldingList A alloc (record p { more = o }) ≤ suc (length (list_of o))) [ None ↦ omega arith | Some b ↦ omega arith ]
