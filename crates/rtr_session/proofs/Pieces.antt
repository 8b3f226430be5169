-- Octets up to the end of the PDU that is being read.
use Rattle.std.proofs.Common.{◌≡◌, ◌≤◌, ◌<◌, ◌-◌, ◌+◌, ◌⊎◌, inl, inr, ℕ, Bool, true, false, List, [], ◌∷◌, ◌++◌, length, take, get_or, min, Option, Some, None, refl, ap, sym, subst, ◌∙◌, arith, append_assoc, append-nil, length-append}
use Rattle.std.proofs.lemmas.Bool.{cases_lt}
use Rattle.std.proofs.lemmas.List.{take_more}
use Rattle.net_prefix.specs.declared.transport.Transport.TheVariants.{Open as Connected}
use Rattle.octet_streams.proofs.Streams.{front_is_none, wants_front, some_is_not_none}
use Rattle.rtr_codec.specs.declared.place.Place.{Place}
use Rattle.rtr_client.specs.Following.{load_takes}
use Rattle.rtr_codec.specs.ClientTable.{Client, in_force, transport_of}
use Rattle.rtr_codec.specs.PduStream.{Item, WholePdu, FaultyPdu, Wants, meaning, needed_of, pdu_grammar}
use Rattle.rtr_codec.specs.Receiving.{Reception, passed_by, received}
use Rattle.rtr_codec.proofs.ReaderAnswers.{one_at_most_push, wants_passed}
use Rattle.rtr_codec.proofs.Streams.{is_grammar, wants_none}
use Rattle.rtr_session.specs.Agreement.{SessionAgrees, Starves}
use Rattle.rtr_session.specs.SessionHistory.{Event, Octet, moment_of, onto}
use Rattle.rtr_session.specs.SessionState.{Changes, HearsOctets, MayStarve, Session, heard, with_octets}
use Rattle.rtr_session.proofs.Agreeing.{agrees_item, agrees_octet, agrees_refused, item_here}
use Rattle.rtr_client.proofs.Books.{change_between-same}

-- octets and then others come as all of them do
pub onto-append : (front back : List ℕ) (h : List Event) → onto (front ++ back) h ≡ onto back (onto front h)
onto-append [] back h = refl
onto-append (octet ∷ front) back h = onto-append front back (Octet octet ∷ h)

-- no front of the octets completes an item
abbrev pub IsQuiet : Place → List ℕ → List ℕ → Type 0
IsQuiet place part octets = (front back : List ℕ) → octets ≡ front ++ back → meaning place (part ++ front) ≡ None

quiet_wants : (place : Place) (part octets : List ℕ) → Wants place (part ++ octets) → IsQuiet place part octets
unfolding pdu_grammar
quiet_wants place part octets wants front back all =
    wants_front pdu_grammar is_grammar place (part ++ front) back (subst (λ (x : List ℕ). Wants place x) (ap (λ (x : List ℕ). part ++ x) all ∙ sym (append_assoc part front back)) wants)

quiet_front : (place : Place) (part octets : List ℕ) (octet : ℕ) (item : Item) → meaning place (part ++ (octets ++ octet ∷ [])) ≡ Some item → IsQuiet place part octets
unfolding pdu_grammar
quiet_front place part octets octet item some front back all =
    front_is_none pdu_grammar is_grammar place (part ++ front) (back ++ octet ∷ []) item
    (subst (λ (x : List ℕ). meaning place x ≡ Some item)
    (ap (λ (x : List ℕ). part ++ (x ++ octet ∷ [])) all ∙ ap (λ (x : List ℕ). part ++ x) (append_assoc front back (octet ∷ [])) ∙ sym (append_assoc part front (back ++ octet ∷ []))) some)
    (omega (arith, length-append back (octet ∷ [])))

quiet_behind : (place : Place) (part octets : List ℕ) (octet : ℕ) → IsQuiet place part (octet ∷ octets) → IsQuiet place (part ++ octet ∷ []) octets
quiet_behind place part octets octet quiet front back all =
    ap (meaning place) (append_assoc part (octet ∷ []) front) ∙ quiet (octet ∷ front) back (ap (λ (x : List ℕ). octet ∷ x) all)

-- octets that are wanted leave more wanted behind the item that they complete
pub wants_behind :
    (r : Reception) (octets : List ℕ) (count : ℕ) → Wants r.place r.part → count ≡ min (needed_of r.place r.part) (length octets)
    → Wants (passed_by (received r (take count octets)) (meaning r.place (r.part ++ take count octets))).place (passed_by (received r (take count octets)) (meaning r.place (r.part ++ take count octets))).part
wants_behind r octets count wants count_is =
    wants_passed (received r (take count octets)) _ (one_at_most_push r.place r.part octets count (inl wants) (omega (arith, count_is))) refl

-- what they change of the payloads in force
pub heard_changes : (now : ℕ) (starved : Bool) (found : Option Item) (s : Session) → Changes s (heard now starved found s)
heard_changes now starved None s = sym (change_between-same (in_force s.client))
heard_changes now starved (Some item) s = refl

moment_onto : (octets : List ℕ) (h : List Event) → moment_of (onto octets h) ≡ moment_of h
moment_onto [] h = refl
moment_onto (octet ∷ octets) h = moment_onto octets (Octet octet ∷ h)

some_wanted : (r : Reception) (octets : List ℕ) (count : ℕ) (item : Item) → Wants r.place r.part → meaning r.place (r.part ++ take count octets) ≡ Some item → (0 < count) ⊎ (count ≤ 0) → 1 ≤ count
some_wanted r octets count item wants some (inl more) = omega arith
some_wanted r octets count item wants some (inr none) =
    let zero : count ≡ 0 = omega arith in
    let nothing : take count octets ≡ [] = rw zero refl in
    absurd (some_is_not_none _ item some (rw (nothing, append-nil r.part) (wants_none r.place r.part wants)))

-- a session that has begun with this Retry Interval
module _ (retry : ℕ) where
  -- octets come that complete nothing
  pub agrees_quiet :
      (h : List Event) (s : Session) (octets : List ℕ) → transport_of s.client ≡ Connected → IsQuiet s.reading.place s.reading.part octets → SessionAgrees retry h s
      → SessionAgrees retry (onto octets h) (with_octets s octets)
  agrees_quiet h s [] connected quiet a = rw (append-nil s.reading.part) a
  agrees_quiet h s (octet ∷ octets) connected quiet a =
      subst (λ (part : List ℕ). SessionAgrees retry (onto octets (Octet octet ∷ h)) (record { client = s.client; reading = record { place = s.reading.place; part = part }; ring = s.ring; changed = s.changed }))
      (append_assoc s.reading.part (octet ∷ []) octets)
      (agrees_quiet (Octet octet ∷ h) (with_octets s (octet ∷ [])) octets connected (quiet_behind s.reading.place s.reading.part octets octet quiet)
      (agrees_octet retry h s octet connected (quiet (octet ∷ []) octets refl) a))

  -- what is known where these octets come and complete this item
  record Completes (h : List Event) (s : Session) (now : ℕ) (octets : List ℕ) (count : ℕ) (item : Item) : Type 0 where
    pub some : 1 ≤ count
    pub history_is : onto (take count octets) h ≡ Octet (get_or octets (count - 1) 0) ∷ onto (take (count - 1) octets) h
    pub moment_is : now ≡ moment_of (onto (take (count - 1) octets) h)
    pub completes : meaning s.reading.place ((s.reading.part ++ take (count - 1) octets) ++ get_or octets (count - 1) 0 ∷ []) ≡ Some item
    pub before : SessionAgrees retry (onto (take (count - 1) octets) h) (with_octets s (take (count - 1) octets))

  completes :
      (h : List Event) (s : Session) (now : ℕ) (octets : List ℕ) (count : ℕ) (item : Item) → transport_of s.client ≡ Connected → Wants s.reading.place s.reading.part
      → count ≤ length octets → meaning s.reading.place (s.reading.part ++ take count octets) ≡ Some item → now ≡ moment_of h → SessionAgrees retry h s
      → Completes h s now octets count item
  completes h s now octets count item connected wants fits some_item now_is a =
      let some : 1 ≤ count = some_wanted s.reading octets count item wants some_item (cases_lt 0 count) in
      let pieces : take count octets ≡ take (count - 1) octets ++ get_or octets (count - 1) 0 ∷ [] =
      subst (λ (n : ℕ). take n octets ≡ take (count - 1) octets ++ get_or octets (count - 1) 0 ∷ []) (let e : count - 1 + 1 ≡ count = omega arith in e) (take_more octets (count - 1) 0 (omega arith)) in
      let found : meaning s.reading.place (s.reading.part ++ (take (count - 1) octets ++ get_or octets (count - 1) 0 ∷ [])) ≡ Some item = ap (λ (x : List ℕ). meaning s.reading.place (s.reading.part ++ x)) (sym pieces) ∙ some_item in
      record {
        some = some;
        history_is = ap (λ (x : List ℕ). onto x h) pieces ∙ onto-append (take (count - 1) octets) (get_or octets (count - 1) 0 ∷ []) h;
        moment_is = now_is ∙ sym (moment_onto (take (count - 1) octets) h);
        completes = ap (meaning s.reading.place) (append_assoc s.reading.part (take (count - 1) octets) (get_or octets (count - 1) 0 ∷ [])) ∙ found;
        before = agrees_quiet h s (take (count - 1) octets) connected (quiet_front s.reading.place s.reading.part (take (count - 1) octets) (get_or octets (count - 1) 0) item found) a;
      }

  -- octets are heard, and memory is not refused
  agrees_by :
      (h : List Event) (s : Session) (now : ℕ) (octets : List ℕ) (count : ℕ) (starved : Bool) (found : Option Item) → transport_of s.client ≡ Connected → Wants s.reading.place s.reading.part
      → count ≡ min (needed_of s.reading.place s.reading.part) (length octets) → meaning s.reading.place (s.reading.part ++ take count octets) ≡ found
      → now ≡ moment_of h → starved ≡ false → SessionAgrees retry h s → SessionAgrees retry (onto (take count octets) h) (heard now starved found (with_octets s (take count octets)))
  agrees_by h s now octets count starved None connected wants count_is none now_is fed a =
      let more = wants_passed (received s.reading (take count octets)) None (one_at_most_push s.reading.place s.reading.part octets count (inl wants) (omega (arith, count_is))) none in
      let so = agrees_quiet h s (take count octets) connected (quiet_wants s.reading.place s.reading.part (take count octets) more) a in
      record { client = so.client; reading = so.reading; ring = so.ring }
  agrees_by h s now octets count starved (Some item) connected wants count_is some now_is fed a =
      let k = completes h s now octets count item connected wants (omega (arith, count_is)) some now_is a in
      rw (fed, k.history_is) (agrees_item retry (onto (take (count - 1) octets) h) (with_octets s (take (count - 1) octets)) now (get_or octets (count - 1) 0) item k.moment_is connected k.completes k.before)

  pub agrees_heard :
      (h : List Event) (s new : Session) (now : ℕ) (octets : List ℕ) (count : ℕ) (starved : Bool) → transport_of s.client ≡ Connected → Wants s.reading.place s.reading.part
      → count ≡ min (needed_of s.reading.place s.reading.part) (length octets) → HearsOctets now (take count octets) starved s new
      → now ≡ moment_of h → starved ≡ false → SessionAgrees retry h s → SessionAgrees retry (onto (take count octets) h) new
  agrees_heard h s new now octets count starved connected wants count_is hears now_is fed a =
      subst (λ (x : Session). SessionAgrees retry (onto (take count octets) h) x) (sym hears.exact) (agrees_by h s now octets count starved _ connected wants count_is refl now_is fed a)

  -- octets are heard, and memory is refused
  starves_by :
      (h : List Event) (s : Session) (now : ℕ) (octets : List ℕ) (count : ℕ) (starved : Bool) (found : Option Item) → transport_of s.client ≡ Connected → Wants s.reading.place s.reading.part
      → count ≤ length octets → meaning s.reading.place (s.reading.part ++ take count octets) ≡ found → MayStarve s.client found
      → now ≡ moment_of h → starved ≡ true → SessionAgrees retry h s → Starves retry h octets count (heard now starved found (with_octets s (take count octets)))
  starves_by h s now octets count starved None connected wants fits none may now_is refused a = absurd may
  starves_by h s now octets count starved (Some (FaultyPdu fault whole)) connected wants fits some may now_is refused a = absurd cc
  starves_by h s now octets count starved (Some (WholePdu content whole)) connected wants fits some may now_is refused a =
      let k = completes h s now octets count (WholePdu content whole) connected wants fits some now_is a in
      rw refused (record {
        content = content;
        whole = whole;
        some = k.some;
        item = item_here retry (onto (take (count - 1) octets) h) (with_octets s (take (count - 1) octets)) (get_or octets (count - 1) 0) (Some (WholePdu content whole)) connected k.completes k.before;
        takes = ap (λ (c : Client). load_takes c content) (sym k.before.client) ∙ may;
        agrees = agrees_refused retry (onto (take (count - 1) octets) h) (with_octets s (take (count - 1) octets)) now (WholePdu content whole) k.moment_is k.before;
      })

  pub starves_heard :
      (h : List Event) (s new : Session) (now : ℕ) (octets : List ℕ) (count : ℕ) (starved : Bool) → transport_of s.client ≡ Connected → Wants s.reading.place s.reading.part
      → count ≡ min (needed_of s.reading.place s.reading.part) (length octets) → HearsOctets now (take count octets) starved s new
      → now ≡ moment_of h → starved ≡ true → SessionAgrees retry h s → Starves retry h octets count new
  starves_heard h s new now octets count starved connected wants count_is hears now_is refused a =
      subst (λ (x : Session). Starves retry h octets count x) (sym hears.exact)
      (starves_by h s now octets count starved _ connected wants (omega (arith, count_is)) refl (hears.may_starve refused) now_is refused a)
