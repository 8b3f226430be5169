-- What stands on the way as octets: which PDUs they are, and what of them a reader finds that gets them in pieces.
use Rattle.std.proofs.Common.{◌≡◌, ◌≢◌, ◌<◌, ◌≤◌, ◌+◌, ◌⊎◌, ℕ, List, [], ◌∷◌, ◌++◌, length, Some, inl, inr, refl, ap, sym, subst, ◌∙◌, append_assoc, append-nil, length-append, arith}
use Rattle.std.proofs.lemmas.Bool.{cases_lt}
use Rattle.octet_streams.proofs.Streams.{only_whole, some_is_not_none, wants-then}
use Rattle.rtr_codec.specs.declared.place.Place.{Place}
use Rattle.rtr_codec.specs.PduContents.{told_length}
use Rattle.rtr_codec.specs.PduSpelling.{Content, IsLawful, spelling}
use Rattle.rtr_codec.specs.PduStream.{Item, IsPdu, Wants, WholePdu, meaning, pdu_grammar, pdus, pdus_from, place_from, unread, unread_from}
use Rattle.rtr_codec.specs.Responses.{spellings}
use Rattle.rtr_codec.proofs.Spellings.{spelled_is, spelling_spells, written_is, written_first}
use Rattle.rtr_codec.proofs.Streams.{header_fault-append, is_grammar, pdus_from-append, told_length-append, unread_behind, wants_none}
use Rattle.rtr_channels.proofs.Answering.{AreLawful}

-- ---- two cuts of one list

abbrev pub Cut : List ℕ → List ℕ → List ℕ → List ℕ → Type 0
Cut a b c d = ((x : List ℕ) × (a ≡ c ++ x) × (d ≡ x ++ b)) ⊎ ((x : List ℕ) × (c ≡ a ++ x) × (b ≡ x ++ d))

cut_behind : (x : ℕ) (a b c d : List ℕ) → Cut a b c d → Cut (x ∷ a) b (x ∷ c) d
cut_behind x a b c d (inl h) = inl (h.0, ap (λ l. x ∷ l) h.1, h.2)
cut_behind x a b c d (inr h) = inr (h.0, ap (λ l. x ∷ l) h.1, h.2)

-- a list that is cut at two places is cut at one behind the other
pub cuts : (a b c d : List ℕ) → a ++ b ≡ c ++ d → Cut a b c d
cuts [] b c d e = inr (c, refl, e)
cuts (x ∷ a) b [] d e = inl (x ∷ a, refl, sym e)
cuts (x ∷ a) b (y ∷ c) d e =
    let same : x ≡ y = cc e in
    let rest : a ++ b ≡ c ++ d = cc e in
    subst (λ z. Cut (x ∷ a) b (z ∷ c) d) same (cut_behind x a b c d (cuts a b c d rest))

-- ---- the front of the way to the client

-- the PDU that the octets at the front are, and those behind it
pub record Front (octets rest : List ℕ) (item : Item) (sent : List Content) : Type 0 where
  pub content : Content
  pub more : List Content
  pub sent_is : sent ≡ content ∷ more
  pub item_is : item ≡ WholePdu content octets
  pub rest_is : rest ≡ spellings more

one_whole : (place : Place) (octets more : List ℕ) (item other : Item) → meaning place octets ≡ Some item → meaning place (octets ++ more) ≡ Some other → more ≡ []
one_whole place octets more item other h k = only_whole pdu_grammar is_grammar place octets more item other h k

some_same : (item other : Item) → Some item ≡ Some other → item ≡ other
some_same item other e = cc e

front_is : (place : Place) (octets rest : List ℕ) (item : Item) (content : Content) (more : List Content) → meaning place octets ≡ Some item → IsLawful content → octets ≡ spelling content → rest ≡ spellings more
    → Front octets rest item (content ∷ more)
front_is place octets rest item content more found fits same behind = record {
  content = content;
  more = more;
  sent_is = refl;
  item_is = some_same item (WholePdu content octets) (sym found ∙ ap (λ o. meaning place o) same ∙ written_is place content fits ∙ ap (λ o. Some (WholePdu content o)) (sym same));
  rest_is = behind;
}

front_case : (place : Place) (octets rest : List ℕ) (item : Item) (content : Content) (more : List Content) → meaning place octets ≡ Some item → IsLawful content → Cut octets rest (spelling content) (spellings more)
    → Front octets rest item (content ∷ more)
front_case place octets rest item content more found fits (inl h) =
    let none : h.0 ≡ [] = one_whole place (spelling content) h.0 (WholePdu content (spelling content)) item (written_is place content fits) (ap (λ o. meaning place o) (sym h.1) ∙ found) in
    front_is place octets rest item content more found fits (h.1 ∙ ap (λ x. spelling content ++ x) none ∙ append-nil (spelling content)) (ap (λ x. x ++ rest) (sym none) ∙ sym h.2)
front_case place octets rest item content more found fits (inr h) =
    let none : h.0 ≡ [] = one_whole place octets h.0 item (WholePdu content (spelling content)) found (ap (λ o. meaning place o) (sym h.1) ∙ written_is place content fits) in
    front_is place octets rest item content more found fits (sym (h.1 ∙ ap (λ x. octets ++ x) none ∙ append-nil octets)) (h.2 ∙ ap (λ x. x ++ spellings more) none)

no_front : (a b : List ℕ) → a ++ b ≡ [] → a ≡ []
no_front [] b e = refl
no_front (x ∷ a) b e = cc

nothing_meant : (place : Place) (octets : List ℕ) (item : Item) → octets ≡ [] → meaning place octets ≡ Some item → ⊥
nothing_meant place octets item none found =
    some_is_not_none (meaning place octets) item found (ap (λ o. meaning place o) none ∙ wants_none place [] (inl (omega arith)))

-- what stands at the front of spelled PDUs is the first of them
pub first_read : (place : Place) (octets rest : List ℕ) (item : Item) (sent : List Content) → octets ++ rest ≡ spellings sent → AreLawful sent → meaning place octets ≡ Some item → Front octets rest item sent
first_read place octets rest item [] all fits found = absurd (nothing_meant place octets item (no_front octets rest all) found)
first_read place octets rest item (content ∷ more) all fits found = front_case place octets rest item content more found fits.0 (cuts octets rest (spelling content) (spellings more) all)

-- ---- a query that comes to the cache in pieces

some_octets : (octets : List ℕ) → octets ≢ [] → 0 < length octets
some_octets [] some = absurd (some refl)
some_octets (x ∷ xs) some = omega arith

wants_case : (place : Place) (front back : List ℕ) (content : Content) → IsPdu place (front ++ back) content → back ≢ [] → (length front < 8) ⊎ (8 ≤ length front) → Wants place front
wants_case place front back content is some (inl short) = inl short
wants_case place front back content is some (inr whole) =
    let both : length (front ++ back) ≡ length front + length back = length-append front back in
    let more = some_octets back some in
    let told : told_length (front ++ back) ≡ told_length front = told_length-append front back whole in
    let all : length (front ++ back) ≡ told_length (front ++ back) = is.length_is in
    inr (whole, sym (header_fault-append place front back whole) ∙ is.sound, omega (arith, both, more, told, all))

-- more is wanted behind a front of a PDU
front_wants : (place : Place) (front back : List ℕ) (content : Content) → IsLawful content → front ++ back ≡ spelling content → back ≢ [] → Wants place front
front_wants place front back content fits all some =
    wants_case place front back content (subst (λ o. IsPdu place o content) (sym all) (spelled_is place (spelling content) content (spelling_spells place content fits))) some (cases_lt (length front) 8)

-- what comes behind a front, and is not the end
pub read_part : (place : Place) (part octets rest : List ℕ) (content : Content) → IsLawful content → part ++ (octets ++ rest) ≡ spelling content → rest ≢ []
    → (pdus_from place part octets ≡ []) × (unread_from place part octets ≡ part ++ octets)
unfolding pdu_grammar
read_part place part octets rest content fits all some =
    let w = wants-then pdu_grammar is_grammar place part octets (front_wants place (part ++ octets) rest content fits (append_assoc part octets rest ∙ all) some) in
    (w.0, w.1)

-- and what is the end
pub read_end : (place : Place) (part octets : List ℕ) (content : Content) → IsLawful content → part ++ octets ≡ spelling content → octets ≢ []
    → (pdus_from place part octets ≡ WholePdu content (spelling content) ∷ []) × (unread_from place part octets ≡ [])
unfolding pdu_grammar
read_end place part octets content fits all some =
    let w = wants-then pdu_grammar is_grammar place [] part (front_wants place part octets content fits all some) in
    let first = written_first place content fits [] in
    let whole : spelling content ++ [] ≡ part ++ octets = append-nil (spelling content) ∙ sym all in (
      subst (λ p. pdus_from p part octets ≡ WholePdu content (spelling content) ∷ []) w.2
          (subst (λ u. pdus_from (place_from place [] part) u octets ≡ WholePdu content (spelling content) ∷ []) w.1
          (ap (λ l. l ++ pdus_from (place_from place [] part) (unread_from place [] part) octets) (sym w.0)
          ∙ sym (pdus_from-append place [] part octets) ∙ ap (λ o. pdus place o) (sym whole) ∙ first.0)),
      subst (λ p. unread_from p part octets ≡ []) w.2
          (subst (λ u. unread_from (place_from place [] part) u octets ≡ []) w.1
          (sym (unread_behind place [] part octets) ∙ ap (λ o. unread place o) (sym whole) ∙ first.1)),
    )

-- ---- PDUs on the way

pub spellings_behind : (front back : List Content) → spellings (front ++ back) ≡ spellings front ++ spellings back
spellings_behind [] back = refl
spellings_behind (content ∷ front) back = ap (λ l. spelling content ++ l) (spellings_behind front back) ∙ sym (append_assoc (spelling content) (spellings front) (spellings back))
