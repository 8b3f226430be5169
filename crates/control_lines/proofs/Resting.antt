-- Visits at which nothing came or went.
use Rattle.std.proofs.Common.{◌≡◌, ◌&&◌, ◌∙◌, inl, inr, ℕ, zero, suc, Bool, true, false, not, List, [], Option, None, Some, take, refl, sym}
use Rattle.std.specs.Io.KnownBytes.{Appends, Consumes, Keeps}
use Rattle.std.proofs.lemmas.Bool.{false≢true}
use Rattle.std.proofs.lemmas.List.{append-nil}
use Rattle.control_lines.specs.Talks.{Awaits, Exchanges, Listening, MovedAt, Rests, Stays, Visits, Writing, has_begun, is_late}
use Rattle.control_lines.specs.declared.talk.Talk.{Talk}

-- what isn't touched is kept
pub keeps : (known : Option (List ℕ)) → Keeps known known
keeps None = tt
keeps (Some octets) = refl

-- no octets were taken
pub none_taken : (octets : List ℕ) (taken behind : Option (List ℕ)) → Appends taken behind (take 0 octets) → Keeps taken behind
none_taken octets None behind took = tt
none_taken octets (Some had) None took = took
none_taken octets (Some had) (Some has) took = took ∙ append-nil had

-- and none came
pub none_came : (before after : Option (List ℕ)) → Consumes before after [] → Keeps before after
none_came None after came = tt
none_came (Some had) None came = came
none_came (Some had) (Some has) came = sym came

pub fresh_none : (count : ℕ) (octets : List ℕ) (before after : Option (List ℕ)) → Consumes before after (take count octets) → count ≡ 0 → Keeps before after
fresh_none zero octets before after came is = none_came before after came
fresh_none (suc count) octets before after came is = absurd cc

pub exchanged_by_writing : (result : Option Bool) (old new : Talk) (before after taken behind : Option (List ℕ)) → Writing result old new before after taken behind → Exchanges result old new before after taken behind
exchanged_by_writing None old new before after taken behind writes = writes
exchanged_by_writing (Some false) old new before after taken behind writes = writes
exchanged_by_writing (Some true) old new before after taken behind writes = inl writes

pub exchanged_by_listening : (result : Option Bool) (old new : Talk) (before after taken behind : Option (List ℕ)) → Awaits old → Listening result old new before after taken behind → Exchanges result old new before after taken behind
exchanged_by_listening None old new before after taken behind awaits listens = listens
exchanged_by_listening (Some false) old new before after taken behind awaits listens = listens
exchanged_by_listening (Some true) old new before after taken behind awaits listens = inr (awaits, listens)

pub rests : (old : Talk) (before taken : Option (List ℕ)) → Rests old old before before taken taken
rests old before taken = (refl, keeps before, keeps taken)

pub late : (has_moved : Bool) (now at moved : ℕ) (old new : Talk) (before after taken behind : Option (List ℕ)) → (has_moved && not (has_begun old && has_begun new)) ≡ false → is_late at now ≡ true → Exchanges (Some has_moved) old new before after taken behind → Visits None now at moved old new before after taken behind
late false now at moved old new before after taken behind slow past exchanged = inl exchanged
late true now at moved old new before after taken behind slow past exchanged = inr (record { begun = both (has_begun old && has_begun new) slow; late = past; goes_on = exchanged })
  where
    both : (begun : Bool) → (true && not begun) ≡ false → begun ≡ true
    both true is = refl
    both false is = absurd cc

pub gone : (result exchanged : Option Bool) (now at moved : ℕ) (old new : Talk) (before after taken behind : Option (List ℕ)) → exchanged ≡ None → result ≡ None → Exchanges exchanged old new before after taken behind → Visits result now at moved old new before after taken behind
gone None None now at moved old new before after taken behind was is exchanged = inl exchanged
gone (Some stays) exchanged now at moved old new before after taken behind was is rests = absurd cc
gone None (Some moves) now at moved old new before after taken behind was is rests = absurd cc

moved_at : (goes_on : Bool) (now at moved : ℕ) → MovedAt (not (true && not goes_on)) now at moved → MovedAt goes_on now at moved
moved_at true now at moved is = is
moved_at false now at moved is = is

-- who stays was visited
pub visited : (result : Option Bool) (has_moved : Bool) (now at moved : ℕ) (old new : Talk) (before after taken behind : Option (List ℕ)) → Exchanges (Some has_moved) old new before after taken behind → Stays result has_moved (has_begun old && has_begun new) now at moved → Visits result now at moved old new before after taken behind
visited None has_moved now at moved old new before after taken behind exchanged stays = late has_moved now at moved old new before after taken behind stays.0 stays.1 exchanged
visited (Some true) true now at moved old new before after taken behind exchanged stays = (exchanged, moved_at (has_begun old && has_begun new) now at moved stays.1)
visited (Some false) false now at moved old new before after taken behind exchanged stays = (exchanged, stays.1.0, stays.1.1)
visited (Some true) false now at moved old new before after taken behind exchanged stays = absurd (false≢true (sym stays.0))
visited (Some false) true now at moved old new before after taken behind exchanged stays = absurd (false≢true stays.0)
