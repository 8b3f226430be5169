-- A connection for which there is no memory, one step of its turn after another.
use Rattle.std.proofs.Common.{◌≡◌, ◌∙◌, sym, ap, subst, ℕ, List, Option, None, Ok, slice_index_or}
use Rattle.std.specs.declared.net.socket_addr.SocketAddr.{SocketAddr}
use Rattle.rtr_cache.specs.CacheState.{CacheState, tells_client}
use Rattle.rtr_cache.specs.ClientHistory.{CameUp, Makes}
use Rattle.cache_turns.specs.Serving.{Connection}
use Rattle.cache_turns.specs.Turns.{GoesDown, LacksMemory, LinksStay, Turns, link_at}
use Rattle.wires.specs.Counts.{counts_of_wire}
use Rattle.wires.specs.Wires.{arriving, closing}
use Rattle.wires.specs.declared.wire.Parting.TheVariants.{NoMemory}

-- the connection comes, then its client, no place is made, and both go
pub lacked : (address : SocketAddr) (old arrived called made new : Turns) (key number : ℕ) → arrived ≡ record old { counts = counts_of_wire (arriving address) old.counts } → number ≡ old.counts.wire.sockets → called ≡ record arrived { cache = called.cache } → Makes arrived.cache (CameUp (Ok (tells_client key))) called.cache → link_at arrived key ≡ None → made ≡ record called { links = made.links } → LinksStay called made → new.patience ≡ made.patience → new.counts ≡ counts_of_wire (closing number NoMemory) made.counts → GoesDown made.cache key new.cache → new.links ≡ made.links → LacksMemory old new
lacked address old arrived called made new key number arrives numbered calls comes unused makes stay patience counts goes links =
    record {
      address = address;
      key = key;
      told = made.cache;
      patience = patience ∙ ap (λ (t : Turns). t.patience) makes ∙ ap (λ (t : Turns). t.patience) calls ∙ ap (λ (t : Turns). t.patience) arrives;
      counts = counts ∙ (ap (λ (n : ℕ). counts_of_wire (closing n NoMemory) made.counts) numbered ∙ ap (counts_of_wire (closing old.counts.wire.sockets NoMemory)) counted);
      comes = subst (λ (c : CacheState). Makes c (CameUp (Ok (tells_client key))) made.cache) (ap (λ (t : Turns). t.cache) arrives) (subst (λ (c : CacheState). Makes arrived.cache (CameUp (Ok (tells_client key))) c) (sym (ap (λ (t : Turns). t.cache) makes)) comes);
      goes = goes;
      before = sym (ap (λ (t : Turns). link_at t key) arrives) ∙ unused;
      links = λ other. ap (λ (ls : List (Option Connection)). slice_index_or ls other None) links ∙ (stay other ∙ (ap (λ (t : Turns). link_at t other) calls ∙ ap (λ (t : Turns). link_at t other) arrives));
    }
  where
    counted : made.counts ≡ counts_of_wire (arriving address) old.counts
    counted = ap (λ (t : Turns). t.counts) makes ∙ (ap (λ (t : Turns). t.counts) calls ∙ ap (λ (t : Turns). t.counts) arrives)
