-- What answering a client comes to, by whether anything is to be written, and what serving it does, by what was read.
use Rattle.std.proofs.Common.{◌≡◌, ◌≢◌, ◌⊎◌, inl, inr, ℕ, List, [], refl, sym, ap, subst, ◌∙◌}
use Rattle.net_prefix.specs.declared.transport.Transport.{Transport}
use Rattle.net_prefix.specs.declared.transport.Transport.TheVariants as transport
use Rattle.rtr_cache.specs.CacheState.{client_at, transport_of}
use Rattle.cache_turns.specs.Serving.{Answers, Connection, GoesOn, Reads, Sides, Stands, Takes, Writes, found_at_rest, heard_by}
use Rattle.cache_turns.specs.declared.link.Visit.{Visit}
use Rattle.cache_turns.specs.declared.link.Visit.TheVariants.{Stays}
use Rattle.cache_turns.specs.declared.patience.Moments.{Moments}
use Rattle.wires.specs.declared.wire.Received.{Received}
use Rattle.wires.specs.declared.wire.Received.TheVariants.{Octets as Came, Nothing as NoneCame, End, Fault as ReadFault}

-- a client that the cache hasn't closed leaves its connection as it is
pub open_stays : (resting : Visit) (between : Transport) → between ≢ transport.Closing → found_at_rest resting between ≡ resting
open_stays resting transport.None differs = refl
open_stays resting transport.Opening differs = refl
open_stays resting transport.Listening differs = refl
open_stays resting transport.Open differs = refl
open_stays resting transport.Closing differs = absurd (differs refl)

-- nothing is to be written
pub rests : (resting : Visit) (key : ℕ) (link : Connection) (old new : Sides) (visit : Visit) (octets : List ℕ) → Takes key link.waiting old.cache octets new.cache → octets ≡ [] → new.wire ≡ old.wire → visit ≡ found_at_rest resting (transport_of (client_at new.cache key)) → Answers resting key link old visit octets new
rests resting key link old new visit octets takes none same finds =
    record {
      octets = octets;
      takes = takes;
      none = λ _. record { same = same; finds = finds; leaves = none };
      some = λ some. absurd (some none);
    }

-- something is
pub writes : (resting : Visit) (key : ℕ) (link : Connection) (old new : Sides) (visit : Visit) (octets left : List ℕ) → Takes key link.waiting old.cache octets new.cache → octets ≢ [] → Writes link.number octets old.wire visit left new.wire → Answers resting key link old visit left new
writes resting key link old new visit octets left takes some write =
    record {
      octets = octets;
      takes = takes;
      none = λ none. absurd (some none);
      some = λ _. write;
    }

-- what follows a read is no matter of the moments
same_goes_on : (received : Received) (key : ℕ) (link : Connection) (moments : Moments) (old new : Sides) (visit : Visit) (left : List ℕ) → GoesOn received key (record link { moments = moments }) old visit left new → GoesOn received key link old visit left new
same_goes_on (Came count) key link moments old new visit left answers =
    record { octets = answers.octets; takes = answers.takes; none = answers.none; some = answers.some }
same_goes_on NoneCame key link moments old new visit left answers =
    record { octets = answers.octets; takes = answers.takes; none = answers.none; some = answers.some }
same_goes_on End key link moments old new visit left answers =
    record { octets = answers.octets; takes = answers.takes; none = answers.none; some = answers.some }
same_goes_on ReadFault key link moments old new visit left ends = ends

-- what follows a read that told neither an end nor a fault
pub answered : (received : Received) (key : ℕ) (link : Connection) (old new : Sides) (visit : Visit) (left : List ℕ) → ((count : ℕ) × (received ≡ Came count)) ⊎ (received ≡ NoneCame) → Answers Stays key link old visit left new → GoesOn received key link old visit left new
answered received key link old new visit left (inl came) answers =
    subst (λ (r : Received). GoesOn r key link old visit left new) (sym came.1) answers
answered received key link old new visit left (inr none) answers =
    subst (λ (r : Received). GoesOn r key link old visit left new) (sym none) answers

-- a client is served: what was read, and what follows
pub served : (now key : ℕ) (link between left : Connection) (old mid new : Sides) (received : Received) (visit : Visit) → Reads key link.number received old mid → between ≡ record link { moments = heard_by now (client_at old.cache key) received link.moments } → GoesOn received key between mid visit left.waiting new → left ≡ record between { waiting = left.waiting } → Stands now key link old visit left new
served now key link between left old mid new received visit reads hears goes_on same =
    record {
      serves = record {
        received = received;
        behind = mid;
        reads = reads;
        goes_on = same_goes_on received key link _ mid new visit left.waiting (subst (λ (l : Connection). GoesOn received key l mid visit left.waiting new) hears goes_on);
      };
      number = ap (λ (l : Connection). l.number) same ∙ ap (λ (l : Connection). l.number) hears;
      moments = ap (λ (l : Connection). l.moments) same ∙ ap (λ (l : Connection). l.moments) hears;
    }
