-- The routes of the higher slots are fewer by one.
use Rattle.std.specs.Prelude.{◌≤◌, suc, length}
use Rattle.std.proofs.Common.{arith}
use Rattle.std.specs.declared.alloc.Allocator as allocator
use Rattle.rib_in.specs.Chains.{behind}
use Rattle.rib_in.specs.PrefixRoutes.{higher_of}
use Rattle.rib_in.specs.declared.prefix_routes.Chain.TheVariants.{Last, Before}
use Rattle.rib_in.specs.declared.prefix_routes.PrefixRoutes.TheInside.{Inside}
use Rattle.rib_in.specs.declared.prefix_routes.PrefixRoutes.TheDeep.{deep-PrefixRoutes}

pub falls : {A : Type 0} (alloc : allocator.Ghosts A) (r : Inside A) → deep-PrefixRoutes A alloc r ≤ suc (length (higher_of (behind r.chain)))
falls {A} alloc r =
    elim r.chain as (λ o. deep-PrefixRoutes A alloc (record r { chain = o }) ≤ suc (length (higher_of (behind o)))) [ Last slot ↦ omega arith | Before slot b ↦ omega arith ]
