-- What a call for one client leaves: between any two calls every client is at rest.
use Rattle.std.proofs.Common.{◌≡◌, ℕ, zero, suc, Bool, List, [], ◌∷◌, Option, Some, None, Ok, IfSome, ap, refl, ◌∙◌}
use Rattle.std.proofs.Math.ListN.{get_or, set}
use Rattle.std.proofs.lemmas.List.{get_or-set_other}
use Rattle.rtr_cache.specs.CacheTable.{Conn, Shared, hears_octets, pumped}
use Rattle.rtr_cache.proofs.QueueingLaws.{full-queues}
use Rattle.rtr_cache.specs.CacheState.{CacheState, HearsOctets, IsAtRest, client_at, tells_nothing}

-- a client is at rest once what its response has left is queued
pumped_rests : (conn : Conn) → IsAtRest (pumped conn)
pumped_rests conn = full-queues conn conn.left

-- a client at rest takes the place of the key's
rests-put :
    (clients : List (Option Conn)) (key : ℕ) (client : Option Conn) → IfSome client IsAtRest
    → ((other : ℕ) → IfSome (get_or clients other None) IsAtRest) → (other : ℕ) → IfSome (get_or (set clients key client) other None) IsAtRest
rests-put [] key client here rests other = rests other
rests-put (old ∷ more) zero client here rests zero = here
rests-put (old ∷ more) zero client here rests (suc other) = rests (suc other)
rests-put (old ∷ more) (suc key) client here rests zero = rests 0
rests-put (old ∷ more) (suc key) client here rests (suc other) = rests-put more key client here (λ o. rests (suc o)) other

-- one client's call ends with queueing what its response has left
pub rests-pumped :
    (clients : List (Option Conn)) (key : ℕ) (conn before : Conn) → conn ≡ pumped before
    → ((other : ℕ) → IfSome (get_or clients other None) IsAtRest) → (other : ℕ) → IfSome (get_or (set clients key (Some conn)) other None) IsAtRest
rests-pumped clients key conn before is rests = rests-put clients key (Some conn) (rw is (pumped_rests before)) rests

-- what takes the place of a client that is there
put_there :
    (clients : List (Option Conn)) (key : ℕ) (conn next : Conn) → get_or clients key None ≡ Some conn → get_or (set clients key (Some next)) key None ≡ Some next
put_there [] key conn next is = cc
put_there (old ∷ more) zero conn next is = refl
put_there (old ∷ more) (suc key) conn next is = put_there more key conn next is

-- octets of one client are heard, and nothing of what all share changes
pub hears-put :
    (old : CacheState) (shared : Shared) (key : ℕ) (octets : List ℕ) (conn next : Conn) → shared ≡ old.shared → client_at old key ≡ Some conn
    → ((refused : List Bool) × (next ≡ pumped (hears_octets old.shared refused conn octets)))
    → HearsOctets old key octets (Ok tells_nothing) (record { shared = shared; clients = set old.clients key (Some next) })
hears-put old shared key octets conn next same there heard = (
  conn,
  there,
  (heard.0, put_there old.clients key conn next there ∙ ap (λ (client : Conn). Some client) heard.1),
  λ other apart. get_or-set_other old.clients key other (Some next) None apart,
  same,
  refl,
)
