use Rattle.std.proofs.Common.{◌≡◌, ℕ, Bool, true, false, not, nat_le, ◌&&◌, ◌||◌, List, [], ◌∷◌, ◌++◌, map, refl, ap, sym, ◌∙◌}
use Rattle.std.specs.Cmp.{Equal-is}
use Rattle.std.specs.BTreeMap.{is_at}
use Rattle.std.specs.List.{AllByRecursion}
use Rattle.std.specs.List.Sorted.{IsStrictlySortedBy}
use Rattle.std.specs.Ordering.{is_eq}
use Rattle.std.specs.declared.cmp.Ordering.{Ordering}
use Rattle.std.specs.declared.cmp.Ordering.TheVariants.{Less, Equal}
use Rattle.std.proofs.lemmas.Bool.{and_from, and_parts, or_right}
use Rattle.std.proofs.lemmas.Cmp.{alike_right, eq_by_cmp_equiv, tied_itself}
use Rattle.std.proofs.lemmas.List.Kept.{IsStrictlySortedBy-filter}
use Rattle.net_prefix.specs.declared.payload.Vrp.{Vrp}
use Rattle.net_prefix.specs.PayloadOrder.{payload_cmp}
use Rattle.net_prefix.specs.PayloadSets.{IsPayloadSet, has, out, put}
use Rattle.net_prefix.proofs.PayloadSets.{payload_cmp_total, has-out, has-put, out-is_set, put-is_set, same_set}
use Rattle.rtr_codec.specs.declared.intervals.Intervals.{Intervals}
use Rattle.rtr_codec.specs.PduSpelling.{Content, Announce, End_of_data, Withdraw, length_of}
use Rattle.rtr_codec.specs.Responses.{are_changes, are_short, is_change, changed, changed_by, changes_between, response}
use Rattle.vrp_delta.specs.Delta.{lacked}
use Rattle.vrp_delta.specs.Versions.{Version}
use Rattle.vrp_delta.proofs.PayloadMembers.{has-lacked}

-- What a client has once it has read a response.

-- PDUs one list after another
changed_by-append : (set : List Vrp) (front back : List Content) → changed_by set (front ++ back) ≡ changed_by (changed_by set front) back
changed_by-append set [] back = refl
changed_by-append set (content ∷ front) back = changed_by-append (changed set content) front back

and_assoc : (a b c : Bool) → ((a && b) && c) ≡ (a && (b && c))
and_assoc true b c = refl
and_assoc false b c = refl

are_changes-append : (set : List Vrp) (front back : List Content) → are_changes set (front ++ back) ≡ (are_changes set front && are_changes (changed_by set front) back)
are_changes-append set [] back = refl
are_changes-append set (content ∷ front) back =
    ap (λ (b : Bool). is_change set content && b) (are_changes-append (changed set content) front back)
    ∙ sym (and_assoc (is_change set content) (are_changes (changed set content) front) (are_changes (changed_by (changed set content) front) back))

-- payloads compare alike both ways
alike : (p q : Vrp) → is_eq (payload_cmp p q) ≡ is_eq (payload_cmp q p)
alike p q = (eq_by_cmp_equiv payload_cmp_total).symm p q

-- what withdrawals leave, and what announcements add
takes_out : (here rest has_it : Bool) → (not rest && (not here && has_it)) ≡ (not (here || rest) && has_it)
takes_out true true has_it = refl
takes_out true false has_it = refl
takes_out false true has_it = refl
takes_out false false has_it = refl

puts_in : (here rest has_it : Bool) → (rest || (here || has_it)) ≡ ((here || rest) || has_it)
puts_in true true has_it = refl
puts_in true false has_it = refl
puts_in false true has_it = refl
puts_in false false has_it = refl

has-withdrawn : (set gone : List Vrp) (q : Vrp) → has (changed_by set (map Withdraw gone)) q ≡ (not (has gone q) && has set q)
has-withdrawn set [] q = refl
has-withdrawn set (p ∷ gone) q =
    has-withdrawn (out p set) gone q
    ∙ ap (λ (b : Bool). not (has gone q) && b) (has-out set p q ∙ ap (λ (b : Bool). not b && has set q) (alike p q))
    ∙ takes_out (is_at (payload_cmp q) p) (has gone q) (has set q)

has-announced : (set come : List Vrp) (q : Vrp) → has (changed_by set (map Announce come)) q ≡ (has come q || has set q)
has-announced set [] q = refl
has-announced set (p ∷ come) q =
    has-announced (put p set) come q
    ∙ ap (λ (b : Bool). has come q || b) (has-put set p q)
    ∙ puts_in (is_at (payload_cmp q) p) (has come q) (has set q)

-- sets stay sets
withdrawn-is_set : (set gone : List Vrp) → IsPayloadSet set → IsPayloadSet (changed_by set (map Withdraw gone))
withdrawn-is_set set [] h = h
withdrawn-is_set set (p ∷ gone) h = withdrawn-is_set (out p set) gone (out-is_set set p h)

announced-is_set : (set come : List Vrp) → IsPayloadSet set → IsPayloadSet (changed_by set (map Announce come))
announced-is_set set [] h = h
announced-is_set set (p ∷ come) h = announced-is_set (put p set) come (put-is_set set p h)

both : (a b : Bool) → ((not a && b) || (not (not b && a) && a)) ≡ b
both true true = refl
both true false = refl
both false true = refl
both false false = refl

-- the payloads of a response lead from the old set to the new one
has-changes : (old new : List Vrp) (q : Vrp) → has (changed_by old (changes_between old new)) q ≡ has new q
has-changes old new q =
    ap (λ (set : List Vrp). has set q) (changed_by-append old (map Withdraw (lacked old new)) (map Announce (lacked new old)))
    ∙ has-announced (changed_by old (map Withdraw (lacked old new))) (lacked new old) q
    ∙ ap (λ (b : Bool). has (lacked new old) q || b) (has-withdrawn old (lacked old new) q)
    ∙ rw (has-lacked old new q, has-lacked new old q) (both (has old q) (has new q))

changes-is_set : (old new : List Vrp) → IsPayloadSet old → IsPayloadSet (changed_by old (changes_between old new))
changes-is_set old new h =
    rw (changed_by-append old (map Withdraw (lacked old new)) (map Announce (lacked new old)))
    (announced-is_set (changed_by old (map Withdraw (lacked old new))) (lacked new old) (withdrawn-is_set old (lacked old new) h))

changes-give : (old new : List Vrp) → IsPayloadSet old → IsPayloadSet new → changed_by old (changes_between old new) ≡ new
changes-give old new h k = same_set (changed_by old (changes_between old new)) new (changes-is_set old new h) k (has-changes old new)

pub response-gives :
    (session : ℕ) (intervals : Intervals) (version : Version) (old : List Vrp) → IsPayloadSet old → IsPayloadSet version.set
    → changed_by old (response session intervals version old) ≡ version.set
response-gives session intervals version old h k =
    changed_by-append old (changes_between old version.set) (End_of_data session version.serial intervals ∷ []) ∙ changes-give old version.set h k

-- each payload of a rising list is apart from those behind it
apart_one : (r : Ordering) → r ≡ Less → is_eq r ≡ false
apart_one r e = ap is_eq e

apart_case : (p q x : Vrp) (same rest : Bool) → is_eq (payload_cmp q x) ≡ same → payload_cmp p x ≡ Less → (rest ≡ true → is_eq (payload_cmp q p) ≡ false) → (same || rest) ≡ true → is_eq (payload_cmp q p) ≡ false
apart_case p q x true rest e below others h =
    let equal : payload_cmp q x ≡ Equal = (Equal-is (payload_cmp q x)).0 e in
    alike q p ∙ ap is_eq (alike_right payload_cmp_total q x p equal ∙ below)
apart_case p q x false rest e below others h = others h

apart : (p : Vrp) (others : List Vrp) (q : Vrp) → AllByRecursion (λ y. payload_cmp p y ≡ Less) others → has others q ≡ true → is_at (payload_cmp q) p ≡ false
apart p [] q below h = absurd cc
apart p (x ∷ others) q below h = apart_case p q x _ (has others q) refl below.0 (apart p others q below.1) h

has_first : (p : Vrp) (rest : List Vrp) → has (p ∷ rest) p ≡ true
has_first p rest = rw (tied_itself payload_cmp_total p) refl

has_later : (p : Vrp) (rest : List Vrp) (q : Vrp) → has rest q ≡ true → has (p ∷ rest) q ≡ true
has_later p rest q among = or_right (is_at (payload_cmp q) p) (has rest q) among

-- each payload that leaves is there
still_there : (p : Vrp) (rest set : List Vrp) (q : Vrp) → AllByRecursion (λ y. payload_cmp p y ≡ Less) rest → has rest q ≡ true → has set q ≡ true → has (out p set) q ≡ true
still_there p rest set q below among there =
    has-out set p q ∙ rw (alike p q, apart p rest q below among) there

all_leave : (set gone : List Vrp) → IsPayloadSet gone → ((q : Vrp) → has gone q ≡ true → has set q ≡ true) → are_changes set (map Withdraw gone) ≡ true
unfolding IsStrictlySortedBy
all_leave set [] rising inside = refl
all_leave set (p ∷ gone) rising inside =
    and_from (has set p) _ (inside p (has_first p gone))
    (all_leave (out p set) gone rising.1 (λ q among. still_there p gone set q rising.0 among (inside q (has_later p gone q among))))

-- each payload that comes isn't there
still_missing : (p : Vrp) (rest set : List Vrp) (q : Vrp) → AllByRecursion (λ y. payload_cmp p y ≡ Less) rest → has rest q ≡ true → has set q ≡ false → has (put p set) q ≡ false
still_missing p rest set q below among missing =
    has-put set p q ∙ rw (apart p rest q below among) missing

all_come : (set come : List Vrp) → IsPayloadSet come → ((q : Vrp) → has come q ≡ true → has set q ≡ false) → are_changes set (map Announce come) ≡ true
unfolding IsStrictlySortedBy
all_come set [] rising outside = refl
all_come set (p ∷ come) rising outside =
    and_from (not (has set p)) _ (ap not (outside p (has_first p come)))
    (all_come (put p set) come rising.1 (λ q among. still_missing p come set q rising.0 among (outside q (has_later p come q among))))

-- what is lacked is a set, within the one and outside of the other
lacked-is_set : (set other : List Vrp) → IsPayloadSet set → IsPayloadSet (lacked set other)
lacked-is_set set other h = IsStrictlySortedBy-filter payload_cmp (λ payload. not (has other payload)) set h

only_right : (a b : Bool) → (not a && b) ≡ true → b ≡ true
only_right true b h = absurd cc
only_right false b h = h

neither : (a b : Bool) → (not a && b) ≡ true → (not (not b && a) && a) ≡ false
neither true b h = absurd cc
neither false true h = refl
neither false false h = refl

leave_inside : (old new : List Vrp) (q : Vrp) → has (lacked old new) q ≡ true → has old q ≡ true
leave_inside old new q among = only_right (has new q) (has old q) (sym (has-lacked old new q) ∙ among)

come_outside : (old new : List Vrp) (q : Vrp) → has (lacked new old) q ≡ true → has (changed_by old (map Withdraw (lacked old new))) q ≡ false
come_outside old new q among =
    has-withdrawn old (lacked old new) q
    ∙ ap (λ (b : Bool). not b && has old q) (has-lacked old new q)
    ∙ neither (has old q) (has new q) (sym (has-lacked new old q) ∙ among)

changes-faultless : (old new : List Vrp) → IsPayloadSet old → IsPayloadSet new → are_changes old (changes_between old new) ≡ true
changes-faultless old new h k =
    are_changes-append old (map Withdraw (lacked old new)) (map Announce (lacked new old))
    ∙ and_from _ _
    (all_leave old (lacked old new) (lacked-is_set old new h) (leave_inside old new))
    (all_come (changed_by old (map Withdraw (lacked old new))) (lacked new old) (lacked-is_set new old k) (come_outside old new))

pub response-faultless :
    (session : ℕ) (intervals : Intervals) (version : Version) (old : List Vrp) → IsPayloadSet old → IsPayloadSet version.set
    → are_changes old (response session intervals version old) ≡ true
response-faultless session intervals version old h k =
    are_changes-append old (changes_between old version.set) (End_of_data session version.serial intervals ∷ [])
    ∙ and_from _ _ (changes-faultless old version.set h k) refl

-- each PDU of a response is short
short-append : (front back : List Content) → are_short front ≡ true → are_short back ≡ true → are_short (front ++ back) ≡ true
short-append [] back h k = k
short-append (content ∷ front) back h k =
    let both = and_parts (nat_le (length_of content) 24) (are_short front) h in
    and_from (nat_le (length_of content) 24) (are_short (front ++ back)) both.0 (short-append front back both.1 k)

short-withdrawals : (gone : List Vrp) → are_short (map Withdraw gone) ≡ true
short-withdrawals [] = refl
short-withdrawals (p ∷ gone) = short-withdrawals gone

short-announcements : (come : List Vrp) → are_short (map Announce come) ≡ true
short-announcements [] = refl
short-announcements (p ∷ come) = short-announcements come

pub short-response : (session : ℕ) (intervals : Intervals) (version : Version) (old : List Vrp) → are_short (response session intervals version old) ≡ true
short-response session intervals version old =
    short-append (changes_between old version.set) (End_of_data session version.serial intervals ∷ [])
    (short-append (map Withdraw (lacked old version.set)) (map Announce (lacked version.set old)) (short-withdrawals (lacked old version.set)) (short-announcements (lacked version.set old)))
    refl
