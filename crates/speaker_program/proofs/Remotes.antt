-- Where the other sides are changes nothing of where the wire listens.
use Rattle.std.proofs.Common.{◌≡◌, ◌∙◌, ℕ, Bool, true, false, List, [], ◌∷◌, Option, None, Some, if◌then◌else◌, nat_lt, length, refl}
use Rattle.std.specs.declared.net.socket_addr.SocketAddr.{SocketAddr as Address}
use Rattle.speaker_turns.specs.Ends.{place_of}
use Rattle.speaker_turns.specs.Turns.{Turns, with_remote}
use Rattle.speaker_turns.specs.declared.end.End.{End}
use Rattle.speaker_turns.specs.declared.end.End.TheVariants.{Peer, Cache}
use Rattle.speaker_program.specs.Begun.{with_cache, with_peers, with_remotes}

either_listens : (test : Bool) (one other : Turns) → one.counts.wire.listens ≡ other.counts.wire.listens → (if test then one else other).counts.wire.listens ≡ other.counts.wire.listens
either_listens true one other same = same
either_listens false one other same = refl

remote_listens : (end : End) (remote : Address) (turns : Turns) → (with_remote end remote turns).counts.wire.listens ≡ turns.counts.wire.listens
remote_listens end remote turns = either_listens (nat_lt (place_of end) (length turns.places)) _ turns refl

peers_listen : (peers : List (ℕ × Address)) (turns : Turns) → (with_peers peers turns).counts.wire.listens ≡ turns.counts.wire.listens
peers_listen [] turns = refl
peers_listen (peer ∷ peers) turns = peers_listen peers (with_remote (Peer peer.0) peer.1 turns) ∙ remote_listens (Peer peer.0) peer.1 turns

cache_listens : (cache : Option Address) (turns : Turns) → (with_cache cache turns).counts.wire.listens ≡ turns.counts.wire.listens
cache_listens None turns = refl
cache_listens (Some remote) turns = remote_listens Cache remote turns

pub remotes_listen : (peers : List (ℕ × Address)) (cache : Option Address) (turns : Turns) → (with_remotes peers cache turns).counts.wire.listens ≡ turns.counts.wire.listens
remotes_listen peers cache turns = cache_listens cache (with_peers peers turns) ∙ peers_listen peers turns
