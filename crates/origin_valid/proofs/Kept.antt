-- What the payloads by prefix have, and what is left when those of one prefix change.
use Rattle.std.proofs.Common.{◌≡◌, ◌<◌, ◌&&◌, ◌||◌, ◌++◌, ◌==◌, Bool, true, false, not, cond, List, [], ◌∷◌, Option, None, Some, inl, inr, length, refl, sym, ap, subst, ◌∙◌, arith}
use Rattle.std.proofs.lemmas.Bool.{eqb-true}
use Rattle.std.proofs.lemmas.List.Folds.{list_any-append}
use Rattle.std.specs.BTreeMap.{is_at}
use Rattle.std.specs.Borrow.{Bor}
use Rattle.std.specs.Cmp.{tied_itself}
use Rattle.std.specs.List.{AllByRecursion}
use Rattle.std.specs.List.Sorted.{IsStrictlySortedBy}
use Rattle.std.specs.Map.{keys_of}
use Rattle.std.specs.Option.{is_some, option_copied}
use Rattle.std.specs.Ordering.{is_eq, match_ordering, nat_cmp, ordering_then}
use Rattle.std.specs.declared.cmp.Ordering.{Ordering}
use Rattle.std.specs.declared.cmp.Ordering.TheVariants.{Less, Equal, Greater}
use Rattle.net_prefix.specs.PayloadOrder.{payload_cmp}
use Rattle.net_prefix.specs.PayloadSets.{IsPayloadSet, has, out, put}
use Rattle.net_prefix.specs.PrefixOrder.{prefix_cmp}
use Rattle.net_prefix.specs.declared.payload.Vrp.{Vrp}
use Rattle.net_prefix.specs.declared.prefix.Prefix.{Prefix}
use Rattle.net_prefix.proofs.PayloadSets.{has-out, has-put, out-is_set, payload_cmp_total, prefix_cmp_exact, put-is_set, same_set}
use Rattle.prefix_trie.specs.TrieMap.{IsRising, found, with_entry, without}
use Rattle.prefix_trie.proofs.EntryLists.{rising_with, rising_without}
use Rattle.prefix_trie.proofs.MapLaws.{found-with_entry, found-without, one_prefix}
use Rattle.origin_valid.specs.KeptPayloads.{AreByPrefix, AreOfPrefix, IsLeft, MayPut, has_among, has_by_prefix, is_only, payloads_of}
use Rattle.origin_valid.proofs.CoverFacts.{apart-turned}
use Rattle.origin_valid.proofs.PrefixSets.{at_one, cons_set, below_first, tail_set}

abbrev Entries : Type 0
Entries = List (Prefix × List Vrp)

abbrev Own : Prefix → List Vrp → Type 0
Own p set = AllByRecursion (λ v. v.prefix ≡ p) set

abbrev Each : Entries → Type 0
Each es = AllByRecursion (λ e. AreOfPrefix e.0 e.1) es

abbrev Below : Vrp → List Vrp → Type 0
Below v set = AllByRecursion (λ w. payload_cmp v w ≡ Less) set

abbrev Above : Prefix → Entries → Type 0
Above p es = AllByRecursion (λ q. prefix_cmp p q ≡ Less) (keys_of es)

above_first : (e : Prefix × List Vrp) (es : Entries) → IsRising (e ∷ es) → Above e.0 es
unfolding IsStrictlySortedBy
above_first e es h = h.0

rising_tail : (e : Prefix × List Vrp) (es : Entries) → IsRising (e ∷ es) → IsRising es
unfolding IsStrictlySortedBy
rising_tail e es h = h.1

-- ---- the payloads rise
below_own : (v : Vrp) (p : Prefix) (set : List Vrp) → prefix_cmp v.prefix p ≡ Less → Own p set → Below v set
below_own v p [] less own = tt
below_own v p (w ∷ set) less own = (rw (own.0, less) refl, below_own v p set less own.1)

below_append : (v : Vrp) (a b : List Vrp) → Below v a → Below v b → Below v (a ++ b)
below_append v [] b h k = k
below_append v (w ∷ a) b h k = (h.0, below_append v a b h.1 k)

below_kept : (v : Vrp) (es : Entries) → Above v.prefix es → Each es → Below v (payloads_of es)
below_kept v [] above each = tt
below_kept v (e ∷ es) above each =
    below_append v e.1 (payloads_of es) (below_own v e.0 e.1 above.0 each.0.own) (below_kept v es above.1 each.1)

append_set : (p : Prefix) (a : List Vrp) (es : Entries) → Own p a → IsPayloadSet a → Above p es → Each es → IsPayloadSet (payloads_of es) → IsPayloadSet (a ++ payloads_of es)
append_set p [] es own rising above each rest = rest
append_set p (v ∷ a) es own rising above each rest =
    cons_set v (a ++ payloads_of es)
    (below_append v a (payloads_of es) (below_first v a rising) (below_kept v es (subst (λ (q : Prefix). Above q es) (sym own.0) above) each))
    (append_set p a es own.1 (tail_set v a rising) above each rest)

kept_set : (es : Entries) → Each es → IsRising es → IsPayloadSet (payloads_of es)
unfolding IsStrictlySortedBy
kept_set [] each rising = tt
kept_set (e ∷ es) each rising = append_set e.0 e.1 es each.0.own each.0.rising rising.0 each.1 (kept_set es each.1 rising.1)

-- all payloads are a set
pub payloads_of-set : (es : Entries) → AreByPrefix es → IsPayloadSet (payloads_of es)
payloads_of-set es h = kept_set es h.each h.rising

pub by_prefix_none : AreByPrefix []
unfolding IsStrictlySortedBy
by_prefix_none = record { each = tt; rising = tt }

-- ---- which they are
apart_case : (o r : Ordering) → is_eq o ≡ false → is_eq (ordering_then o r) ≡ false
apart_case Less r h = refl
apart_case Equal r h = absurd cc
apart_case Greater r h = refl

has_apart : (q : Vrp) (p : Prefix) (set : List Vrp) → is_eq (prefix_cmp q.prefix p) ≡ false → Own p set → has set q ≡ false
has_apart q p [] h own = refl
has_apart q p (v ∷ set) h own =
    let first : is_at (payload_cmp q) v ≡ false = apart_case (prefix_cmp q.prefix v.prefix) (ordering_then (nat_cmp q.max_len v.max_len) (nat_cmp q.asn.0 v.asn.0)) (rw own.0 h) in
    rw first (has_apart q p set h own.1)

above_apart : (q p : Prefix) → prefix_cmp q p ≡ Less → is_eq (prefix_cmp q p) ≡ false
above_apart q p h = ap is_eq h

has_above : (q : Vrp) (es : Entries) → Above q.prefix es → Each es → has (payloads_of es) q ≡ false
has_above q [] above each = refl
has_above q (e ∷ es) above each =
    rw (list_any-append (is_at (payload_cmp q)) e.1 (payloads_of es), has_apart q e.0 e.1 (above_apart q.prefix e.0 above.0) each.0.own) (has_above q es above.1 each.1)

or_none : (b : Bool) → (b || false) ≡ b
or_none true = refl
or_none false = refl

has_case : (q : Vrp) (e : Prefix × List Vrp) (es : Entries) (b : Bool) → is_at (prefix_cmp q.prefix) e.0 ≡ b → Each (e ∷ es) → Above e.0 es
    → has (payloads_of es) q ≡ has_by_prefix es q → (has e.1 q || has (payloads_of es) q) ≡ has_among (cond b (Some e.1) (found es q.prefix)) q
has_case q e es true at each above more =
    let same : q.prefix ≡ e.0 = one_prefix q.prefix e.0 at in
    rw (has_above q es (subst (λ (p : Prefix). Above p es) (sym same) above) each.1) (or_none (has e.1 q))
has_case q e es false at each above more = rw (has_apart q e.0 e.1 at each.0.own) more

has_kept : (q : Vrp) (es : Entries) → Each es → IsRising es → has (payloads_of es) q ≡ has_by_prefix es q
has_kept q [] each rising = refl
has_kept q (e ∷ es) each rising =
    list_any-append (is_at (payload_cmp q)) e.1 (payloads_of es)
    ∙ has_case q e es (is_at (prefix_cmp q.prefix) e.0) refl each (above_first e es rising) (has_kept q es each.1 (rising_tail e es rising))

-- a payload is among all where it is among those of its prefix
pub has-payloads_of : (es : Entries) (q : Vrp) → AreByPrefix es → has (payloads_of es) q ≡ has_by_prefix es q
has-payloads_of es q h = has_kept q es h.each h.rising

-- ---- changes at one prefix
with_case : (p : Prefix) (set : List Vrp) (e : Prefix × List Vrp) (es : Entries) (r : Ordering) → prefix_cmp p e.0 ≡ r → AreOfPrefix p set → Each (e ∷ es) → Each (with_entry es p set)
    → Each (match_ordering r ((p, set) ∷ e ∷ es) ((e.0, set) ∷ es) (e ∷ with_entry es p set))
with_case p set e es Less is new each more = (new, each)
with_case p set e es Equal is new each more = (subst (λ (q : Prefix). AreOfPrefix q set) (prefix_cmp_exact p e.0 is) new, each.1)
with_case p set e es Greater is new each more = (each.0, more)

each_with : (p : Prefix) (set : List Vrp) (es : Entries) → AreOfPrefix p set → Each es → Each (with_entry es p set)
each_with p set [] new each = (new, tt)
each_with p set (e ∷ es) new each = with_case p set e es (prefix_cmp p e.0) refl new each (each_with p set es new each.1)

kept_case : (e : Prefix × List Vrp) (es : Entries) (b : Bool) → AreOfPrefix e.0 e.1 → Each es → Each (cond b (e ∷ es) es)
kept_case e es true first rest = (first, rest)
kept_case e es false first rest = rest

each_without : (p : Prefix) (es : Entries) → Each es → Each (without es p)
each_without p [] each = tt
each_without p (e ∷ es) each = kept_case e (without es p) (not (is_at (prefix_cmp p) e.0)) each.0 (each_without p es each.1)

by_prefix_with : (p : Prefix) (set : List Vrp) (es : Entries) → AreOfPrefix p set → AreByPrefix es → AreByPrefix (with_entry es p set)
by_prefix_with p set es new h = record { each = each_with p set es new h.each; rising = rising_with p set es h.rising }

by_prefix_without : (p : Prefix) (es : Entries) → AreByPrefix es → AreByPrefix (without es p)
by_prefix_without p es h = record { each = each_without p es h.each; rising = rising_without p es h.rising }

found_case : (p : Prefix) (set : List Vrp) (e : Prefix × List Vrp) (more : Option (List Vrp)) (b : Bool) → is_at (prefix_cmp p) e.0 ≡ b → AreOfPrefix e.0 e.1 → (more ≡ Some set → AreOfPrefix p set)
    → cond b (Some e.1) more ≡ Some set → AreOfPrefix p set
found_case p set e more true at first rest is =
    let same : e.1 ≡ set = cc in
    subst (λ l. AreOfPrefix p l) same (subst (λ (q : Prefix). AreOfPrefix q e.1) (sym (one_prefix p e.0 at)) first)
found_case p set e more false at first rest is = rest is

each_found : (p : Prefix) (set : List Vrp) (es : Entries) → Each es → found es p ≡ Some set → AreOfPrefix p set
each_found p set [] each is = absurd cc
each_found p set (e ∷ es) each is = found_case p set e (found es p) (is_at (prefix_cmp p) e.0) refl each.0 (each_found p set es each.1) is

pub of_prefix_found : (p : Prefix) (set : List Vrp) (es : Entries) → AreByPrefix es → found es p ≡ Some set → AreOfPrefix p set
of_prefix_found p set es h is = each_found p set es h.each is

-- where the payloads of one prefix are changed by a step on each, so are all
change_case : (old : Entries) (p : Prefix) (w : Option (List Vrp)) (step : Vrp → Bool → Bool) (q : Vrp) (b : Bool) → is_eq (prefix_cmp p q.prefix) ≡ b
    → (q.prefix ≡ p → has_among w q ≡ step q (has_among (found old p) q)) → ((c : Bool) → is_eq (prefix_cmp p q.prefix) ≡ false → step q c ≡ c)
    → has_among (cond b w (found old q.prefix)) q ≡ step q (has_among (found old q.prefix) q)
change_case old p w step q true at here there =
    let same : q.prefix ≡ p = sym (one_prefix p q.prefix at) in
    here same ∙ ap (λ (k : Prefix). step q (has_among (found old k) q)) (sym same)
change_case old p w step q false at here there = sym (there (has_among (found old q.prefix) q) at)

has_changed : (old new : Entries) (p : Prefix) (w : Option (List Vrp)) (step : Vrp → Bool → Bool) → AreByPrefix old → AreByPrefix new
    → ((q : Prefix) → found new q ≡ cond (is_eq (prefix_cmp p q)) w (found old q))
    → ((q : Vrp) → q.prefix ≡ p → has_among w q ≡ step q (has_among (found old p) q))
    → ((q : Vrp) (c : Bool) → is_eq (prefix_cmp p q.prefix) ≡ false → step q c ≡ c)
    → (q : Vrp) → has (payloads_of new) q ≡ step q (has (payloads_of old) q)
has_changed old new p w step old_is new_is there here other q =
    has-payloads_of new q new_is ∙ ap (λ o. has_among o q) (there q.prefix)
    ∙ change_case old p w step q (is_eq (prefix_cmp p q.prefix)) refl (here q) (other q)
    ∙ ap (step q) (sym (has-payloads_of old q old_is))

-- ---- putting in
abbrev with_one : Vrp → Vrp → Bool → Bool
with_one payload q b = is_at (payload_cmp q) payload || b

with_other : (payload q : Vrp) (c : Bool) → is_eq (prefix_cmp payload.prefix q.prefix) ≡ false → with_one payload q c ≡ c
with_other payload q c h =
    let apart : is_at (payload_cmp q) payload ≡ false = apart_case (prefix_cmp q.prefix payload.prefix) (ordering_then (nat_cmp q.max_len payload.max_len) (nat_cmp q.asn.0 payload.asn.0)) (apart-turned payload.prefix q.prefix h) in
    rw apart refl

-- what putting a payload in comes to
pub record IsPutIn (old new : Entries) (payload : Vrp) : Type 0 where
  pub parts : AreByPrefix new
  pub kept : payloads_of new ≡ put payload (payloads_of old)

put_in : (old new : Entries) (payload : Vrp) (set : List Vrp) → AreByPrefix old → AreOfPrefix payload.prefix set → new ≡ with_entry old payload.prefix set
    → ((q : Vrp) → has set q ≡ with_one payload q (has_among (found old payload.prefix) q)) → IsPutIn old new payload
put_in old new payload set h of_prefix is here =
    let parts : AreByPrefix new = subst AreByPrefix (sym is) (by_prefix_with payload.prefix set old of_prefix h) in
    record {
      parts = parts;
      kept = same_set (payloads_of new) (put payload (payloads_of old)) (payloads_of-set new parts) (put-is_set (payloads_of old) payload (payloads_of-set old h)) (λ q.
          has_changed old new payload.prefix (Some set) (with_one payload) h parts (λ p. ap (λ es. found es p) is ∙ found-with_entry old payload.prefix p set) (λ q _. here q) (with_other payload) q
          ∙ sym (has-put (payloads_of old) payload q));
    }

one_set : (payload : Vrp) → AreOfPrefix payload.prefix (payload ∷ [])
unfolding IsStrictlySortedBy
one_set payload = record { rising = (tt, tt); some = omega arith; own = (refl, tt) }

-- the first payload of a prefix
pub first_put : (old new : Entries) (payload : Vrp) → AreByPrefix old → found old payload.prefix ≡ None → new ≡ with_entry old payload.prefix (payload ∷ []) → IsPutIn old new payload
first_put old new payload h none is =
    put_in old new payload (payload ∷ []) h (one_set payload) is (λ q. ap (λ o. with_one payload q (has_among o q)) (sym none))

own_case : (p : Prefix) (k v : Vrp) (set : List Vrp) (r : Ordering) → k.prefix ≡ p → Own p (v ∷ set) → Own p (put k set) → Own p (match_ordering r (k ∷ v ∷ set) (v ∷ set) (v ∷ put k set))
own_case p k v set Less first own more = (first, own)
own_case p k v set Equal first own more = own
own_case p k v set Greater first own more = (own.0, more)

own_put : (p : Prefix) (k : Vrp) (set : List Vrp) → k.prefix ≡ p → Own p set → Own p (put k set)
own_put p k [] first own = (first, tt)
own_put p k (v ∷ set) first own = own_case p k v set (payload_cmp k v) first own (own_put p k set first own.1)

some_case : (k v : Vrp) (set : List Vrp) (r : Ordering) → 0 < length (match_ordering r (k ∷ v ∷ set) (v ∷ set) (v ∷ put k set))
some_case k v set Less = omega arith
some_case k v set Equal = omega arith
some_case k v set Greater = omega arith

some_put : (k : Vrp) (set : List Vrp) → 0 < length (put k set)
some_put k [] = omega arith
some_put k (v ∷ set) = some_case k v set (payload_cmp k v)

-- a further payload of a prefix
pub more_put : (old new : Entries) (payload : Vrp) (set : List Vrp) → AreByPrefix old → found old payload.prefix ≡ Some set → new ≡ with_entry old payload.prefix (put payload set) → IsPutIn old new payload
more_put old new payload set h there is =
    let of_prefix = of_prefix_found payload.prefix set old h there in
    put_in old new payload (put payload set) h
    (record { rising = put-is_set set payload of_prefix.rising; some = some_put payload set; own = own_put payload.prefix payload set refl of_prefix.own })
    is (λ q. has-put set payload q ∙ ap (λ o. with_one payload q (has_among o q)) (sym there))

-- the payloads of a prefix as they were
pub same_put : (old new : Entries) (p : Prefix) (set : List Vrp) → AreByPrefix old → found old p ≡ Some set → new ≡ with_entry old p set → AreByPrefix new × (payloads_of new ≡ payloads_of old)
same_put old new p set h there is =
    let parts : AreByPrefix new = subst AreByPrefix (sym is) (by_prefix_with p set old (of_prefix_found p set old h there) h) in (
      parts,
      same_set (payloads_of new) (payloads_of old) (payloads_of-set new parts) (payloads_of-set old h) (λ q.
          has_changed old new p (Some set) (λ _ b. b) h parts (λ k. ap (λ es. found es k) is ∙ found-with_entry old p k set) (λ q _. ap (λ o. has_among o q) (sym there)) (λ q c _. refl) q),
    )

-- ---- taking out
abbrev without_one : Vrp → Vrp → Bool → Bool
without_one payload q b = not (is_at (payload_cmp payload) q) && b

without_other : (payload q : Vrp) (c : Bool) → is_eq (prefix_cmp payload.prefix q.prefix) ≡ false → without_one payload q c ≡ c
without_other payload q c h =
    let apart : is_at (payload_cmp payload) q ≡ false = apart_case (prefix_cmp payload.prefix q.prefix) (ordering_then (nat_cmp payload.max_len q.max_len) (nat_cmp payload.asn.0 q.asn.0)) h in
    rw apart refl

-- what taking a payload out comes to
pub record IsTakenOut (old new : Entries) (payload : Vrp) : Type 0 where
  pub parts : AreByPrefix new
  pub kept : payloads_of new ≡ out payload (payloads_of old)

taken_out : (old new : Entries) (payload : Vrp) (w : Option (List Vrp)) → AreByPrefix old → AreByPrefix new → ((p : Prefix) → found new p ≡ cond (is_eq (prefix_cmp payload.prefix p)) w (found old p))
    → ((q : Vrp) → has_among w q ≡ without_one payload q (has_among (found old payload.prefix) q)) → IsTakenOut old new payload
taken_out old new payload w h parts there here = record {
  parts = parts;
  kept = same_set (payloads_of new) (out payload (payloads_of old)) (payloads_of-set new parts) (out-is_set (payloads_of old) payload (payloads_of-set old h)) (λ q.
      has_changed old new payload.prefix w (without_one payload) h parts there (λ q _. here q) (without_other payload) q
      ∙ sym (has-out (payloads_of old) payload q));
}

nothing : (set : List Vrp) → (length set == 0) ≡ true → set ≡ []
nothing [] h = refl
nothing (v ∷ set) h = let none : length (v ∷ set) ≡ 0 = eqb-true (length (v ∷ set)) 0 h in absurd (omega arith)

something : (set : List Vrp) → (length set == 0) ≡ false → 0 < length set
something [] h = absurd cc
something (v ∷ set) h = omega arith

-- the only payload of a prefix
pub only_out : (old new : Entries) (payload : Vrp) (set : List Vrp) → AreByPrefix old → found old payload.prefix ≡ Some set → is_only payload set ≡ true → new ≡ without old payload.prefix → IsTakenOut old new payload
only_out old new payload set h there only is =
    taken_out old new payload None h (subst AreByPrefix (sym is) (by_prefix_without payload.prefix old h)) (λ p. ap (λ es. found es p) is ∙ found-without old payload.prefix p) (λ q.
    ap (λ l. has l q) (sym (nothing (out payload set) only)) ∙ has-out set payload q ∙ ap (λ o. without_one payload q (has_among o q)) (sym there))

kept_own : (p : Prefix) (v : Vrp) (set : List Vrp) (b : Bool) → v.prefix ≡ p → Own p set → Own p (cond b (v ∷ set) set)
kept_own p v set true first own = (first, own)
kept_own p v set false first own = own

own_out : (p : Prefix) (k : Vrp) (set : List Vrp) → Own p set → Own p (out k set)
own_out p k [] own = tt
own_out p k (v ∷ set) own = kept_own p v (out k set) (not (is_at (payload_cmp k) v)) own.0 (own_out p k set own.1)

-- one of several payloads of a prefix
one_out : (old new : Entries) (payload : Vrp) (set : List Vrp) → AreByPrefix old → found old payload.prefix ≡ Some set → is_only payload set ≡ false → new ≡ with_entry old payload.prefix (out payload set) → IsTakenOut old new payload
one_out old new payload set h there more is =
    let of_prefix = of_prefix_found payload.prefix set old h there in
    let left : AreOfPrefix payload.prefix (out payload set) =
    record { rising = out-is_set set payload of_prefix.rising; some = something (out payload set) more; own = own_out payload.prefix payload set of_prefix.own } in
    taken_out old new payload (Some (out payload set)) h (subst AreByPrefix (sym is) (by_prefix_with payload.prefix (out payload set) old left h))
    (λ p. ap (λ es. found es p) is ∙ found-with_entry old payload.prefix p (out payload set)) (λ q. has-out set payload q ∙ ap (λ o. without_one payload q (has_among o q)) (sym there))

absent_case : (set : List Vrp) (payload q : Vrp) (b : Bool) → is_at (payload_cmp payload) q ≡ b → has set payload ≡ false → has set q ≡ (not b && has set q)
absent_case set payload q true at none = subst (λ x. has set x ≡ false) (sym (at_one q payload at)) none
absent_case set payload q false at none = refl

-- a payload that isn't there
pub none_out : (es : Entries) (payload : Vrp) → AreByPrefix es → found es payload.prefix ≡ None → payloads_of es ≡ out payload (payloads_of es)
none_out es payload h none =
    let absent : has (payloads_of es) payload ≡ false = has-payloads_of es payload h ∙ ap (λ o. has_among o payload) none in
    same_set (payloads_of es) (out payload (payloads_of es)) (payloads_of-set es h) (out-is_set (payloads_of es) payload (payloads_of-set es h)) (λ q.
    absent_case (payloads_of es) payload q (is_at (payload_cmp payload) q) refl absent ∙ sym (has-out (payloads_of es) payload q))

-- ---- what a call tells
-- a prefix that was found has payloads
pub found_some : (r : Option (Bor (List Vrp))) (o : Option (List Vrp)) → option_copied r ≡ o → is_some r ≡ true → (set : List Vrp) × (o ≡ Some set)
found_some None o is some = absurd cc
found_some (Some set) o is some = (set.now, sym is)

-- and one that wasn't has none
pub found_none : (r : Option (Bor (List Vrp))) (o : Option (List Vrp)) → option_copied r ≡ o → is_some r ≡ false → o ≡ None
found_none None o is none = sym is
found_none (Some set) o is none = absurd cc

-- the first payload of a prefix, if there was memory for it
pub may_put_first : (old new : Entries) (payload : Vrp) (set : List Vrp) (b : Bool) → AreByPrefix old → found old payload.prefix ≡ None → set ≡ payload ∷ []
    → new ≡ cond b (with_entry old payload.prefix set) old → AreByPrefix new × (payloads_of new ≡ cond b (put payload (payloads_of old)) (payloads_of old))
may_put_first old new payload set true h none one is = let made = first_put old new payload h none (is ∙ ap (with_entry old payload.prefix) one) in (made.parts, made.kept)
may_put_first old new payload set false h none one is = (subst AreByPrefix (sym is) h, ap payloads_of is)

-- what changing the payloads of a prefix makes of them
pub taken : (S P N : List Vrp → Type 0) → (w : List Vrp) × S w × N w → ((w : List Vrp) → S w → P w) → (w : List Vrp) × P w × N w
taken S P N u f = (u.0, f u.0 u.1, u.2)

-- one of several payloads of a prefix was taken out
pub left_one : (old new : Entries) (payload : Vrp) (set : List Vrp) → AreByPrefix old → found old payload.prefix ≡ Some set → is_only payload set ≡ false
    → (w : List Vrp) × IsLeft payload set w × (new ≡ with_entry old payload.prefix w) → IsTakenOut old new payload
left_one old new payload set h there more (w, left, made) = one_out old new payload set h there more (made ∙ ap (with_entry old payload.prefix) (left more))

-- a further payload of a prefix, if there was memory for it
pub may_put_more : (old new : Entries) (payload : Vrp) (set : List Vrp) → AreByPrefix old → found old payload.prefix ≡ Some set
    → (w : List Vrp) × MayPut payload set w × (new ≡ with_entry old payload.prefix w)
    → AreByPrefix new × MayPut payload (payloads_of old) (payloads_of new)
may_put_more old new payload set h there (w, inl is, made) =
    let put = more_put old new payload set h there (made ∙ ap (with_entry old payload.prefix) is) in (put.parts, inl put.kept)
may_put_more old new payload set h there (w, inr is, made) =
    let same = same_put old new payload.prefix set h there (made ∙ ap (with_entry old payload.prefix) is) in (same.0, inr same.1)

-- the payload is there behind it where it was put in, or was there before
there_case : (set : List Vrp) (payload q : Vrp) (b : Bool) → is_at (payload_cmp q) payload ≡ b → has set payload ≡ true → has set q ≡ (b || has set q)
there_case set payload q true at there = subst (λ x. has set x ≡ true) (at_one payload q at) there
there_case set payload q false at there = refl

pub put_there : (old new : List Vrp) (payload : Vrp) → IsPayloadSet old → MayPut payload old new → has new payload ≡ true → new ≡ put payload old
put_there old new payload rising (inl is) there = is
put_there old new payload rising (inr is) there =
    is ∙ same_set old (put payload old) rising (put-is_set old payload rising) (λ q.
    there_case old payload q (is_at (payload_cmp q) payload) refl (subst (λ l. has l payload ≡ true) is there) ∙ sym (has-put old payload q))

pub put_nowhere : (old new : List Vrp) (payload : Vrp) → MayPut payload old new → has new payload ≡ false → new ≡ old
put_nowhere old new payload (inl is) none =
    let there : has (put payload old) payload ≡ true = has-put old payload payload ∙ ap (λ o. is_eq o || has old payload) (tied_itself payload_cmp_total payload) in
    let absent : has (put payload old) payload ≡ false = subst (λ l. has l payload ≡ false) is none in
    absurd cc
put_nowhere old new payload (inr is) none = is
