-- What a change of one record makes of the records, and of what is read of them.
use Rattle.std.proofs.Common.{◌≡◌, ◌||◌, ℕ, Bool, true, false, cond, List, [], ◌∷◌, All, Option, Some, None, Result, Ok, Err, OnOk, OnErr, IfOk, IfNone, IfSome, IsSome, is_some, option_map, option_and_then, refl, sym, ap, ◌∙◌, subst}
use Rattle.std.proofs.lemmas.List.Elements.{All-cons, All-nil}
use Rattle.std.proofs.lemmas.Map.Views.{IfSome-lookup_from_All}
use Rattle.std.specs.Borrow.{Bor, MutBor}
use Rattle.std.specs.BTreeMap.{is_at}
use Rattle.std.specs.List.{cons_option}
use Rattle.std.specs.List.Sorted.{IsStrictlySortedBy}
use Rattle.std.specs.Map.{values_of}
use Rattle.std.specs.Option.{OnSome, option_copied}
use Rattle.std.specs.Ordering.{is_eq}
use Rattle.net_prefix.specs.PrefixOrder.{prefix_cmp}
use Rattle.net_prefix.specs.declared.prefix.Prefix.{Prefix}
use Rattle.prefix_trie.proofs.MapLaws.{is_at-refl, one_prefix}
use Rattle.prefix_trie.specs.TrieMap.{IsRising, found}
use Rattle.bgp_attr.specs.PathAttributes.{PathAttributes}
use Rattle.decision.specs.BookContents.{rows_of}
use Rattle.rib_in.proofs.SlotWalks.{some_copied}
use Rattle.rib_in.specs.LatestRoutes.{listed, route_in, routes_of}
use Rattle.holdings.proofs.HoldingLists.{holds_any-none}
use Rattle.rib_out.specs.Held.{HeldRoute}
use Rattle.holdings.specs.Bounded.{IsCompact}
use Rattle.holdings.specs.Holdings.{HoldingsState, held_by, holds_any, octets_by}
use Rattle.rib_out.specs.Slots.{has_slot}
use Rattle.prefix_table.specs.Tables.{IsPut}
use Rattle.prefix_table.proofs.Picked.{found_head, map_picked, none_behind, picked_each, picked_found, picked_map, picked_others, picked_rising, picked_stays, picked_twice, same_found}
use Rattle.rib_rows.proofs.RowSteps.{none_from}
use Rattle.prefix_table.specs.Picked.{picked}
use Rattle.rib_rows.specs.PrefixRows.{AreRows, IsRow, PrefixRow, RowTable, adj_in_of, best_of, book_of, route_of}
use Rattle.rib_rows.specs.Records.{AreRecords, AreSound, IsNeeded, IsRecord, IsSound, PrefixRecord, RecordTable, routed, row_of, sent_in, sent_of}

-- ---- what holds of each value, and of what is found

module _ {X : Type 0} (P : X → Type 0) where
  rest_case : (e : Prefix × X) (es : List (Prefix × X)) (q : Prefix) (b : Bool) → is_eq (prefix_cmp q e.0) ≡ b → found es e.0 ≡ None → IfSome (cond b (Some e.1) (found es q)) P → IfSome (found es q) P
  rest_case e es q true is none each = subst (λ o. IfSome o P) (sym (ap (found es) (one_prefix q e.0 is) ∙ none)) tt
  rest_case e es q false is none each = each

  pub all_found : (es : List (Prefix × X)) → IsRising es → ((q : Prefix) → IfSome (found es q) P) → All P (values_of es)
  unfolding IsStrictlySortedBy
  all_found [] rising each = All-nil P
  all_found (e ∷ es) rising each =
      All-cons P e.1 (values_of es) (subst (λ o. IfSome o P) (found_head e es) (each e.0))
      (all_found es rising.1 (λ q. rest_case e es q (is_eq (prefix_cmp q e.0)) refl (none_behind e.0 es rising.0) (each q)))

  pub each_found : (es : List (Prefix × X)) → All P (values_of es) → (q : Prefix) → IfSome (found es q) P
  each_found es all q = IfSome-lookup_from_All P (is_at (prefix_cmp q)) es all

-- ---- what nobody holds

or_left : (a b : Bool) → (a || b) ≡ false → a ≡ false
or_left true b is = absurd (cc)
or_left false b is = refl

or_right : (a b : Bool) → (a || b) ≡ false → b ≡ false
or_right true b is = absurd (cc)
or_right false b is = is

pub none_held : (h : HoldingsState) → holds_any h ≡ false → (s : ℕ) → held_by h s ≡ None
none_held h is s = ap (option_map (λ octets. record { octets = octets; asked = has_slot h.asked s })) (holds_any-none h is s)

pub sent_same : (was now : PrefixRecord) → now.sent ≡ was.sent → sent_in now ≡ sent_in was
sent_same was now same = ap (λ h. cond (holds_any h) (Some h) None) same

pub sent_none : (r : PrefixRecord) → holds_any r.sent ≡ false → sent_in r ≡ None
sent_none r none = ap (λ b. cond b (Some r.sent) None) none

pub nothing_left : {X : Type 0} (b : Bool) (o : Option X) → o ≡ None → o ≡ cond b None o
nothing_left true o none = none
nothing_left false o none = refl

-- ---- whether something is read

pub test_copied : {X : Type 0} (o : Option X) (r : Option (Bor X)) (b : Bool) → option_copied r ≡ o → b ≡ is_some r → is_some o ≡ b
test_copied o r b copied is = ap is_some (sym copied) ∙ sym (some_copied r) ∙ sym is

pub held_some : (h : HoldingsState) (slot : ℕ) → is_some (held_by h slot) ≡ is_some (octets_by h slot)
held_some h slot = by (octets_by h slot)
  where
    by : (o : Option (List ℕ)) → is_some (option_map (λ octets. (let r : HeldRoute = record { octets = octets; asked = has_slot h.asked slot } in r)) o) ≡ is_some o
    by None = refl
    by (Some octets) = refl

-- ---- the rows

-- each record's row is one
pub sound_records : (es : RecordTable) → AreRecords es → AreSound es
sound_records es are = (are.0, all_found IsSound es are.0 (λ q. by (found es q) (each_found IsRecord es are.1 q)))
  where
    by : (o : Option PrefixRecord) → IfSome o IsRecord → IfSome o IsSound
    by None is = tt
    by (Some r) is = is.row

pub rows_sound : (es : RecordTable) → AreSound es → AreRows (routed es)
rows_sound es are = (picked_rising (λ (r : PrefixRecord). r.row) es are.0, picked_each (λ (r : PrefixRecord). r.row) IsSound IsRow (λ r is. is) es are.1)

-- the rows are those that stood before what the peers hold stood beside them
pub rows_routed : (es : RecordTable) → AreRecords es → AreRows (routed es)
rows_routed es are = rows_sound es (sound_records es are)

both : (o : Option PrefixRecord) → IfSome o IsSound → IsNeeded o → IfSome o IsRecord
both None sound needed = tt
both (Some r) sound needed = record { row = sound; needed = needed.0; compact = needed.1 }

-- records that somebody needs
pub records_needed : (es : RecordTable) → AreSound es → ((q : Prefix) → IsNeeded (found es q)) → AreRecords es
records_needed es are needed = (are.0, all_found IsRecord es are.0 (λ q. both (found es q) (each_found IsSound es are.1 q) (needed q)))

needed_record : (o : Option PrefixRecord) → IfSome o IsRecord → IsNeeded o
needed_record None is = tt
needed_record (Some r) is = (is.needed, is.compact)

pub needed_found : (es : RecordTable) → AreRecords es → (q : Prefix) → IsNeeded (found es q)
needed_found es are q = needed_record (found es q) (each_found IsRecord es are.1 q)

pub routed_found : (es : RecordTable) → IsRising es → (q : Prefix) → found (routed es) q ≡ row_of (found es q)
routed_found es rising q = picked_found (λ (r : PrefixRecord). r.row) es rising q

pub sent_found : (es : RecordTable) → IsRising es → (q : Prefix) → found (sent_of es) q ≡ option_and_then sent_in (found es q)
sent_found es rising q = picked_found sent_in es rising q

-- the routes of all rows
pub routes_picked : (es : RecordTable) → adj_in_of (routed es) ≡ picked (λ r. option_map (λ row. row.routes) r.row) es
routes_picked es = map_picked (λ (r : PrefixRecord). r.row) (λ (row : PrefixRow). row.routes) es

-- the best routes of all rows
pub best_picked : (es : RecordTable) → rows_of (book_of (routed es)) ≡ picked (λ r. best_of r.row) es
best_picked es =
    picked_map (λ kept. kept.best) (λ (row : PrefixRow). row.kept) (routed es)
    ∙ picked_twice (λ (r : PrefixRecord). r.row) (λ (row : PrefixRow). row.kept.best) es

-- the routes of a slot
slot_case : (slot : ℕ) (p : Prefix) (o : Option PrefixRow) (rest : RowTable) → routes_of slot (adj_in_of (cons_option (option_map (λ x. (p, x)) o) rest)) ≡ cons_option (option_map (λ a. (p, a)) (route_of o slot)) (routes_of slot (adj_in_of rest))
slot_case slot p None rest = refl
slot_case slot p (Some row) rest = listed_case p (route_in row.routes slot) (routes_of slot (adj_in_of rest))
  where
    listed_case : (p : Prefix) (o : Option PathAttributes) (rest : List (Prefix × PathAttributes)) → listed p o rest ≡ cons_option (option_map (λ a. (p, a)) o) rest
    listed_case p None rest = refl
    listed_case p (Some a) rest = refl

pub slot_picked : (slot : ℕ) (es : RecordTable) → routes_of slot (adj_in_of (routed es)) ≡ picked (λ r. route_of r.row slot) es
slot_picked slot [] = refl
slot_picked slot (e ∷ es) = slot_case slot e.0 e.1.row (routed es) ∙ ap (λ rest. cons_option (option_map (λ a. (e.0, a)) (route_of e.1.row slot)) rest) (slot_picked slot es)

-- ---- a record that changes

-- what a value that was there is written to
pub through_lent : {X : Type 0} (r : Option (MutBor X)) (b : MutBor X) (P : Type 0) → r ≡ Some b → OnSome r P → P
through_lent r b P is holds = subst (λ o. OnSome o P) is holds

twice : {X : Type 0} (b : Bool) (x y z : X) → cond b x (cond b y z) ≡ cond b x z
twice true x y z = refl
twice false x y z = refl

-- what is written and then taken out is out
pub put_twice : {old written new : RecordTable} {prefix : Prefix} {was now : Option PrefixRecord} → IsPut old written prefix was → IsPut written new prefix now → IsPut old new prefix now
put_twice {old} {written} {new} {prefix} {was} {now} first second = record {
  was_rising = first.was_rising;
  rising = second.rising;
  puts = λ q. second.puts q ∙ ap (cond (is_eq (prefix_cmp prefix q)) now) (first.puts q) ∙ twice (is_eq (prefix_cmp prefix q)) now was (found old q);
}

each_put : (P : PrefixRecord → Type 0) (b : Bool) (now old : Option PrefixRecord) → IfSome now P → IfSome old P → IfSome (cond b now old) P
each_put P true now old is was = is
each_put P false now old is was = was

module _ {old new : RecordTable} {prefix : Prefix} {now : Option PrefixRecord} (put : IsPut old new prefix now) where
  pub now_found : found new prefix ≡ now
  now_found = put.puts prefix ∙ ap (λ b. cond b now (found old prefix)) (is_at-refl prefix)

  pub others_found : (q : Prefix) → is_eq (prefix_cmp prefix q) ≡ false → found new q ≡ found old q
  others_found q other = put.puts q ∙ ap (λ b. cond b now (found old q)) other

  all_put : (P : PrefixRecord → Type 0) → All P (values_of old) → IfSome now P → All P (values_of new)
  all_put P all is = all_found P new put.rising (λ q. subst (λ o. IfSome o P) (sym (put.puts q)) (each_put P (is_eq (prefix_cmp prefix q)) now (found old q) is (each_found P old all q)))

  pub records_put : AreRecords old → IfSome now IsRecord → AreRecords new
  records_put are is = (put.rising, all_put IsRecord are.1 is)

  pub sound_put : AreSound old → IfSome now IsSound → AreSound new
  sound_put are is = (put.rising, all_put IsSound are.1 is)

  -- what the prefix has as its row
  pub row_found : found (routed new) prefix ≡ row_of now
  row_found = routed_found new put.rising prefix ∙ ap row_of now_found

  pub row_others : (q : Prefix) → is_eq (prefix_cmp prefix q) ≡ false → found (routed new) q ≡ found (routed old) q
  row_others = picked_others (λ (r : PrefixRecord). r.row) old new put.was_rising put.rising prefix others_found

  -- what is read of it is as before
  pub same_read : {X : Type 0} (read : PrefixRecord → Option X) → option_and_then read now ≡ option_and_then read (found old prefix) → picked read new ≡ picked read old
  same_read read same = picked_stays read old new put.was_rising put.rising prefix now put.puts same

  -- the rows are as before
  pub same_rows : row_of now ≡ row_of (found old prefix) → (q : Prefix) → found (routed new) q ≡ found (routed old) q
  same_rows same q = ap (λ es. found es q) (same_read (λ (r : PrefixRecord). r.row) same)

  pub same_sent : option_and_then sent_in now ≡ option_and_then sent_in (found old prefix) → sent_of new ≡ sent_of old
  same_sent same = same_read sent_in same

stays_case : (old : RecordTable) (prefix : Prefix) (now : Option PrefixRecord) (q : Prefix) (b : Bool) → is_eq (prefix_cmp prefix q) ≡ b → now ≡ found old prefix → cond b now (found old q) ≡ found old q
stays_case old prefix now q true is same = same ∙ ap (found old) (one_prefix prefix q is)
stays_case old prefix now q false is same = refl

-- where it is what it was, nothing changed
pub same_put : {old new : RecordTable} {prefix : Prefix} {now : Option PrefixRecord} → IsPut old new prefix now → now ≡ found old prefix → new ≡ old
same_put {old} {new} {prefix} {now} put same =
    same_found new old put.rising put.was_rising (λ q. put.puts q ∙ stays_case old prefix now q (is_eq (prefix_cmp prefix q)) refl same)

-- ---- one record

-- what a look-up finds
pub record_found : (es : RecordTable) (prefix : Prefix) (r : PrefixRecord) → AreRecords es → found es prefix ≡ Some r → IsRecord r
record_found es prefix r are there = subst (λ o. IfSome o IsRecord) there (each_found IsRecord es are.1 prefix)

pub row_there : (es : RecordTable) (prefix : Prefix) (r : PrefixRecord) → IsRising es → found es prefix ≡ Some r → found (routed es) prefix ≡ r.row
row_there es prefix r rising there = routed_found es rising prefix ∙ ap row_of there

pub row_lacking : (es : RecordTable) (prefix : Prefix) → IsRising es → found es prefix ≡ None → found (routed es) prefix ≡ None
row_lacking es prefix rising none = routed_found es rising prefix ∙ ap row_of none

pub is_there : (row : Option PrefixRow) → IsSome row → {P : Type 0} → row ≡ None → P
is_there None there none = absurd (cc)
is_there (Some row) there none = absurd (cc)

-- one with a row
pub record_routed : (r : PrefixRecord) → IsSound r → IsSome r.row → IsCompact r.sent.holdings → IsRecord r
record_routed r sound there compact = record { row = sound; needed = λ none. is_there r.row there none; compact = compact }

-- what the peers hold is as it was
pub compact_same : (was now : PrefixRecord) → IsCompact was.sent.holdings → now.sent ≡ was.sent → IsCompact now.sent.holdings
compact_same was now compact same = subst (λ h. IsCompact h.holdings) (sym same) compact

-- after a call that either leaves a row there or fails and changes nothing
pub record_after : {T E : Type 0} (r : Result T E) (P Q : Type 0) (was now : PrefixRecord) → OnOk r (IsSome now.row × P) → OnErr r ((now ≡ was) × Q) → IsRecord was → IsSound now → now.sent ≡ was.sent → IsRecord now
record_after (Ok x) P Q was now there same is sound sent = record_routed now sound there.0 (compact_same was now is.compact sent)
record_after (Err e) P Q was now there same is sound sent = subst IsRecord (sym same.0) is

-- after one that fails, answers something, or leaves a row there
pub record_brought : {T E : Type 0} (r : Result (Option T) E) (was now : PrefixRecord) → IfOk r (λ back. IfNone back (IsSome now.row)) → IfOk r (λ back. IfSome back (λ x. now ≡ was)) → OnErr r (now ≡ was) → IsRecord was → (IsSound was → IsSound now)
    → now.sent ≡ was.sent → IsRecord now
record_brought (Ok None) was now brought back same is sound sent = record_routed now (sound is.row) brought (compact_same was now is.compact sent)
record_brought (Ok (Some x)) was now brought back same is sound sent = subst IsRecord (sym back) is
record_brought (Err e) was now brought back same is sound sent = subst IsRecord (sym same) is

-- the routes of a row are as they were
rows_case : (o p : Option PrefixRow) → option_map (λ r. r.routes) o ≡ option_map (λ r. r.routes) p → p ≡ None → o ≡ None
rows_case None p same none = refl
rows_case (Some row) None same none = absurd (cc)
rows_case (Some row) (Some other) same none = absurd (cc)

pub record_changed : (was now : PrefixRecord) → IsRecord was → IsSound now → option_map (λ r. r.routes) now.row ≡ option_map (λ r. r.routes) was.row → now.sent ≡ was.sent → IsRecord now
record_changed was now is sound same sent = record {
  row = sound;
  needed = λ none. ap holds_any sent ∙ is.needed (rows_case was.row now.row (sym same) none);
  compact = compact_same was now is.compact sent;
}

-- the row is as it was
pub sound_kept : (was now : PrefixRecord) → IsSound was → now.row ≡ was.row → IsSound now
sound_kept was now is same = subst (λ o. IfSome o IsRow) (sym same) is

pub record_kept : (was now : PrefixRecord) → IsRecord was → now.row ≡ was.row → holds_any now.sent ≡ holds_any was.sent → now.sent.holdings ≡ was.sent.holdings → IsRecord now
record_kept was now is same any stays = record { row = sound_kept was now is.row same; needed = λ none. any ∙ is.needed (sym same ∙ none); compact = subst IsCompact (sym stays) is.compact }

or_needed : (o : Option PrefixRow) (h : Bool) → (is_some o || h) ≡ true → o ≡ None → h ≡ true
or_needed None h is none = is
or_needed (Some row) h is none = absurd (cc)

-- somebody needs it
pub record_needed : (r : PrefixRecord) (b : Bool) → IsSound r → b ≡ (is_some r.row || holds_any r.sent) → b ≡ true → IsCompact r.sent.holdings → IsRecord r
record_needed r b sound is needed compact = record { row = sound; needed = or_needed r.row (holds_any r.sent) (sym is ∙ needed); compact = compact }

-- as somebody did, where no more is kept than that
pub needed_kept : (was now : PrefixRecord) → IsNeeded (Some was) → now.row ≡ was.row → holds_any now.sent ≡ holds_any was.sent → IsCompact now.sent.holdings → IsNeeded (Some now)
needed_kept was now needed same any compact = (λ none. any ∙ needed.0 (sym same ∙ none), compact)

-- nobody does
pub row_unneeded : (r : PrefixRecord) (b : Bool) → b ≡ (is_some r.row || holds_any r.sent) → b ≡ false → r.row ≡ None
row_unneeded r b is not_needed = none_from r.row (or_left (is_some r.row) (holds_any r.sent) (sym is ∙ not_needed))

pub sent_unneeded : (r : PrefixRecord) (b : Bool) → b ≡ (is_some r.row || holds_any r.sent) → b ≡ false → sent_in r ≡ None
sent_unneeded r b is not_needed = sent_none r (or_right (is_some r.row) (holds_any r.sent) (sym is ∙ not_needed))

pub held_unneeded : (r : PrefixRecord) (b : Bool) → b ≡ (is_some r.row || holds_any r.sent) → b ≡ false → (s : ℕ) → held_by r.sent s ≡ None
held_unneeded r b is not_needed s = none_held r.sent (or_right (is_some r.row) (holds_any r.sent) (sym is ∙ not_needed)) s
