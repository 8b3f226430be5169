use Rattle.std.proofs.Common.{◌≡◌, ◌≤◌, ◌<◌, ◌+◌, ◌^◌, ◌&&◌, ◌||◌, ℕ, Bool, true, false, not, List, [], ◌∷◌, ◌++◌, Option, Some, None, length, cond, get_or, refl, sym, ap, ◌∙◌, subst, arith, append-nil, inl, inr}
use Rattle.std.specs.Prelude.{All}
use Rattle.std.specs.List.{list_any}
use Rattle.std.proofs.lemmas.Bool.{le-leb}
use Rattle.bgp_attr.specs.PathAttributes.{PathAttributes}
use Rattle.bgp_attr.specs.declared.peer.PeerKind.{PeerKind}
use Rattle.bgp_conf.specs.declared.conf.ConfiguredPeer.{ConfiguredPeer}
use Rattle.bgp_fsm.specs.declared.session.Session.{Session}
use Rattle.bgp_fsm.specs.declared.state.State.TheVariants.{Established}
use Rattle.bgp_msg.specs.MessageSpelling.{front_prefixes, wire_form, update_of, update_body, is_lawful_length}
use Rattle.bgp_msg.specs.UpdateMeaning.{update_fault}
use Rattle.bgp_msg.specs.MessageStream.{IsMessage, WholeMessage, messages}
use Rattle.bgp_msg.specs.declared.frame.MessageType.TheVariants.{Update}
use Rattle.bgp_msg.proofs.PrefixLists.{prefixes_in-parts, wire_form-read}
use Rattle.bgp_msg.proofs.Spellings.{spelling_is_message}
use Rattle.bgp_msg.proofs.StreamPieces.{messages-nil}
use Rattle.bgp_msg.proofs.Updates.{no_attributes, written_says}
use Rattle.bgp_msg.proofs.WrittenMessages.{update_first, update_has_parts, update_is, update_length}
use Rattle.bgp_peer.specs.Agreement.{IsUpdateMessage}
use Rattle.bgp_peer.specs.SentMessages.{sent}
use Rattle.bgp_peer.specs.SessionInputs.{Event, Queued, session}
use Rattle.bgp_peer.proofs.Agreeing.{agrees-queue}
use Rattle.export_rules.specs.Export.{AreAccepted}
use Rattle.net_prefix.specs.declared.prefix.Prefix.{Prefix}
use Rattle.rib_out.specs.Held.{is_among}
use Rattle.runs.specs.Held.{told_by, told_from, told_in, held_in}
use Rattle.runs.specs.Refreshes.{asked, named, named_by, names_in}
use Rattle.routing.specs.Linked.{Linked}
use Rattle.runs.specs.Agreement.{Names}
use Rattle.routing.specs.Packing.{room_beside}
use Rattle.routing.specs.Told.{update_saying, IsTold, HasRoom}
use Rattle.routing.specs.Places.{rank_of}
use Rattle.runs.specs.declared.config.Config.{Config}
use Rattle.bgp_fsm.specs.StateTests.{is_established}
use Rattle.runs.proofs.Histories.{route_stays}
use Rattle.runs.proofs.SlotStates.{SlotIs}
use Rattle.runs.proofs.SentPrefixes.{told_in-append}
use Rattle.routing.proofs.NeededMemory.{no_prefixes}

-- prefixes that one UPDATE says this of
pub record CanBeSaid (prefixes : List Prefix) (export : Option (List ℕ)) : Type 0 where
  pub places : All (λ p. rank_of p < 2 ^ 38) prefixes
  pub room : length (wire_form prefixes) ≤ room_beside export
  pub short : (a : List ℕ) → export ≡ Some a → length a ≤ 4068

small_bits : (p : Prefix) → rank_of p < 2 ^ 38 → p.bits < 2 ^ 32
small_bits p place = omega (arith, place)

all_small : (prefixes : List Prefix) → All (λ p. rank_of p < 2 ^ 38) prefixes → All (λ p. p.bits < 2 ^ 32) prefixes
all_small prefixes places k d h = small_bits (get_or prefixes k d) (places k d h)

read_back : (prefixes : List Prefix) → All (λ p. rank_of p < 2 ^ 38) prefixes → (front_prefixes (wire_form prefixes)).0 ≡ prefixes
read_back prefixes places = (prefixes_in-parts (wire_form prefixes) prefixes (wire_form-read prefixes (all_small prefixes places))).0

-- an UPDATE of these parts, as long as it may be
pub record Fits (w a n : List ℕ) : Type 0 where
  pub all : 23 + length w + length a + length n ≤ 4096

-- it is one whole UPDATE
pub update_message : (w a n : List ℕ) → Fits w a n → IsUpdateMessage (update_of w a n)
update_message w a n fits =
    let count = update_length w a n in
    let may : is_lawful_length Update (19 + length (update_body w a n)) ≡ true = le-leb 23 _ (omega (arith, count)) in
    let F : List ℕ → Type 0 = λ octets. IsMessage octets Update (update_body w a n) in
    (update_body w a n, subst F (update_is w a n) (spelling_is_message Update (update_body w a n) may (omega (arith, count, fits.all))))

-- and tells just what its parts say
pub update_tells : (w a n : List ℕ) (before : Option (List ℕ)) (q : Prefix) → Fits w a n
    → told_from before (messages (update_of w a n)) q ≡ told_by (Some (w, a, n)) q before
update_tells w a n before q fits =
    ap (λ octets. told_from before (messages octets) q) (sym (append-nil (update_of w a n)))
    ∙ ap (λ items. told_from before items q) (update_first w a n fits.all []).0
    ∙ ap (λ items. told_from before (WholeMessage Update (update_body w a n) ∷ items) q) messages-nil
    ∙ ap (λ parts. told_by parts q before) (update_has_parts w a n fits.all)

withdrawal_fits : (prefixes : List Prefix) → CanBeSaid prefixes None → Fits (wire_form prefixes) [] []
withdrawal_fits prefixes can = record { all = omega (arith, can.room) }

announcement_fits : (prefixes : List Prefix) (a : List ℕ) → CanBeSaid prefixes (Some a) → Fits [] a (wire_form prefixes)
announcement_fits prefixes a can = record { all = omega (arith, can.room, can.short a refl) }

withdrawal_tells : (prefixes : List Prefix) (before : Option (List ℕ)) (q : Prefix) → All (λ p. rank_of p < 2 ^ 38) prefixes
    → told_by (Some (wire_form prefixes, [], [])) q before ≡ cond (is_among q prefixes) None before
withdrawal_tells prefixes before q places = rw (no_prefixes, read_back prefixes places) refl

announcement_tells : (prefixes : List Prefix) (a : List ℕ) (before : Option (List ℕ)) (q : Prefix) → All (λ p. rank_of p < 2 ^ 38) prefixes
    → told_by (Some ([], a, wire_form prefixes)) q before ≡ cond (is_among q prefixes) (Some a) before
announcement_tells prefixes a before q places = rw (read_back prefixes places, no_prefixes) refl

or_false : (b : Bool) → (b || false) ≡ b
or_false true = refl
or_false false = refl

-- it names what its parts name
update_named : (w a n : List ℕ) (q : Prefix) → Fits w a n → names_in (update_of w a n) q ≡ named_by (Some (w, a, n)) q
update_named w a n q fits =
    ap (λ octets. list_any (λ item. named item q) (messages octets)) (sym (append-nil (update_of w a n)))
    ∙ ap (λ items. list_any (λ item. named item q) items) (update_first w a n fits.all []).0
    ∙ ap (λ items. list_any (λ item. named item q) (WholeMessage Update (update_body w a n) ∷ items)) messages-nil
    ∙ or_false (named (WholeMessage Update (update_body w a n)) q)
    ∙ ap (λ parts. named_by parts q) (update_has_parts w a n fits.all)

withdrawal_named : (prefixes : List Prefix) (q : Prefix) → All (λ p. rank_of p < 2 ^ 38) prefixes → named_by (Some (wire_form prefixes, [], [])) q ≡ is_among q prefixes
withdrawal_named prefixes q places = rw (no_prefixes, read_back prefixes places) refl

announcement_named : (prefixes : List Prefix) (a : List ℕ) (q : Prefix) → All (λ p. rank_of p < 2 ^ 38) prefixes → named_by (Some ([], a, wire_form prefixes)) q ≡ is_among q prefixes
announcement_named prefixes a q places = rw (read_back prefixes places, no_prefixes) (or_false (is_among q prefixes))

saying_named : (prefixes : List Prefix) (export : Option (List ℕ)) (q : Prefix) → CanBeSaid prefixes export → names_in (update_saying prefixes export) q ≡ is_among q prefixes
saying_named prefixes None q can = update_named (wire_form prefixes) [] [] q (withdrawal_fits prefixes can) ∙ withdrawal_named prefixes q can.places
saying_named prefixes (Some a) q can = update_named [] a (wire_form prefixes) q (announcement_fits prefixes a can) ∙ announcement_named prefixes a q can.places

-- the UPDATE that says this of prefixes is one, and says this of them and nothing of any other
pub saying_is_update : (prefixes : List Prefix) (export : Option (List ℕ)) → CanBeSaid prefixes export → IsUpdateMessage (update_saying prefixes export)
saying_is_update prefixes None can = update_message (wire_form prefixes) [] [] (withdrawal_fits prefixes can)
saying_is_update prefixes (Some a) can = update_message [] a (wire_form prefixes) (announcement_fits prefixes a can)

pub saying_tells : (prefixes : List Prefix) (export before : Option (List ℕ)) (q : Prefix) → CanBeSaid prefixes export
    → told_from before (messages (update_saying prefixes export)) q ≡ cond (is_among q prefixes) export before
saying_tells prefixes None before q can = update_tells (wire_form prefixes) [] [] before q (withdrawal_fits prefixes can) ∙ withdrawal_tells prefixes before q can.places
saying_tells prefixes (Some a) before q can = update_tells [] a (wire_form prefixes) before q (announcement_fits prefixes a can) ∙ announcement_tells prefixes a before q can.places

names_by : (b : Bool) (export before : Option (List ℕ)) → b ≡ true → cond b export before ≡ cond b export None
names_by true export before is = refl
names_by false export before is = absurd (cc)

-- it names these prefixes
pub saying_names : (prefixes : List Prefix) (export : Option (List ℕ)) (q : Prefix) → CanBeSaid prefixes export → is_among q prefixes ≡ true → Names (update_saying prefixes export) q
saying_names prefixes export q can among before =
    saying_tells prefixes export before q can ∙ names_by (is_among q prefixes) export before among ∙ sym (saying_tells prefixes export None q can)

none_named : (b : Bool) (export : Option (List ℕ)) → cond b export (Some []) ≡ cond b export None → b ≡ true
none_named true export same = refl
none_named false export same = absurd (cc)

-- and no other one
pub named_is : (prefixes : List Prefix) (export : Option (List ℕ)) (q : Prefix) → CanBeSaid prefixes export → Names (update_saying prefixes export) q → is_among q prefixes ≡ true
named_is prefixes export q can names =
    none_named (is_among q prefixes) export (sym (saying_tells prefixes export (Some []) q can) ∙ names (Some []) ∙ saying_tells prefixes export None q can)

told_by_it : (b : Bool) (export : Option (List ℕ)) → b ≡ true → cond b export None ≡ export
told_by_it true export is = refl
told_by_it false export is = absurd (cc)

-- it says this of them
pub saying_says : (prefixes : List Prefix) (export : Option (List ℕ)) (q : Prefix) → CanBeSaid prefixes export → is_among q prefixes ≡ true → told_in (update_saying prefixes export) q ≡ export
saying_says prefixes export q can among = saying_tells prefixes export None q can ∙ told_by_it (is_among q prefixes) export among

-- who hears this side as such a peer finds no fault with what is exported
abbrev pub IsGood : PeerKind → Option (List ℕ) → Type 0
IsGood kind export = (a : List ℕ) → export ≡ Some a → AreAccepted kind a

none_named_in : All (λ (prefix : Prefix). prefix.bits < 2 ^ 32) []
none_named_in k d h = absurd (omega (arith, h))

-- nor with the UPDATE that says it
pub saying_faultless : (prefixes : List Prefix) (export : Option (List ℕ)) (kind : PeerKind) (can : CanBeSaid prefixes export) → IsGood kind export
    → update_fault kind (saying_is_update prefixes export can).0 ≡ None
unfolding saying_is_update update_message
saying_faultless prefixes None kind can good =
    (written_says kind prefixes [] [] (all_small prefixes can.places) none_named_in (omega (arith, can.room)) (no_attributes kind) (inl refl)).0
saying_faultless prefixes (Some a) kind can good =
    (written_says kind [] prefixes a none_named_in (all_small prefixes can.places) (omega (arith, can.room, can.short a refl)) (good a refl).faultless (inr (good a refl).complete)).0

-- what it names isn't asked for any more
answered : (b asked : Bool) → cond b false asked ≡ (asked && not b)
answered true true = refl
answered true false = refl
answered false true = refl
answered false false = refl

-- the slot after an UPDATE
pub slot_queued : (config : Config) (peer : ConfiguredPeer) (prefixes : List Prefix) (export : Option (List ℕ)) (l new : Linked) (routes : Prefix → Option PathAttributes) (h : List Event)
    → CanBeSaid prefixes export → l.peer.session.state ≡ Established → HasRoom l → IsTold prefixes export l new → SlotIs config peer l routes h
    → SlotIs config peer new routes (Queued (update_saying prefixes export) ∷ h)
slot_queued config peer prefixes export l new routes h can up room told s =
    let established : (session h).state ≡ Established = ap (λ (x : Session). x.state) (sym s.link.peer.session) ∙ up in
    record {
      terms = s.terms;
      link = record {
        peer = rw told.peer (agrees-queue h l.peer (update_saying prefixes export) up (saying_is_update prefixes export can) room s.link.peer);
        held = λ q.
            told.held q
            ∙ ap (λ before. cond (is_among q prefixes) export before) (s.link.held q ∙ ap (λ state. held_in state (sent h) q) established)
            ∙ sym (saying_tells prefixes export (told_in (sent h) q) q can)
            ∙ sym (told_in-append (sent h) (update_saying prefixes export) q s.link.peer.whole)
            ∙ ap (λ state. held_in state (sent h ++ update_saying prefixes export) q) (sym established);
        asked = λ q.
            told.asked q
            ∙ ap (λ before. cond (is_among q prefixes) false before) (s.link.asked q)
            ∙ answered (is_among q prefixes) (asked h q)
            ∙ ap (λ b. asked h q && not b) (sym (saying_named prefixes export q can))
            ∙ ap (λ b. b && (asked h q && not (names_in (update_saying prefixes export) q))) (sym (ap is_established established));
        silent = λ k new p. let back = ap is_established established in absurd (cc);
      };
      routes_are = λ p. s.routes_are p ∙ sym (route_stays h p);
    }
