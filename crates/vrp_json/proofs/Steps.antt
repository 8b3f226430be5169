-- The steps of a reader through a list, over the grammar of `json`.
use Rattle.std.proofs.Common.{◌≡◌, ◌<◌, ◌∙◌, ◌-◌, ℕ, zero, suc, true, false, List, [], ◌∷◌, length, if◌then◌else◌, Option, None, Some, option_and_then, option_map, inl, inr, refl, sym, ap, arith}
use Rattle.std.specs.Str.{bytes_eq}
use Rattle.json.specs.Json.{Json, null, boolean, number, string, array, object, Items, no_items, item, Members, no_members, member, after_end_array, document, if_last, items, items_step, members, members_step, parse_map, read_key, skip_value, value}
use Rattle.json.specs.Lex.{tokens}
use Rattle.json.specs.Token.{Token}
use Rattle.json.proofs.Found.{Some_inj, not_found}
use Rattle.json.proofs.Grammar.{value-begin_array, value-begin_object, value_is}
use Rattle.vrp_json.specs.PayloadDocument.{first_named, is_array}
use Rattle.vrp_json.specs.PayloadEntries.{is_object}
use Rattle.vrp_json.specs.Places.{FindsMember, IsAtItems, IsAtMemberValue, IsAtMembers, IsAtValue, NoNameComes, opens_array, opens_object}

last : (o : Option (Json × List Token)) (j : Json) → option_and_then (λ p. if_last p.0 p.1) o ≡ Some j → o ≡ Some (j, [])
last None j e = not_found j e
last (Some (i, [])) j e = ap (λ x. Some (x, [])) (Some_inj i j e)
last (Some (i, t ∷ ts)) j e = not_found j e

-- a reader of a text stands before the text's value
pub at_value : (octets : List ℕ) (j : Json) → document octets ≡ Some j → IsAtValue j (tokens octets)
at_value octets j e = last (value 128 (tokens octets)) j e

mapped : {A B : Type 0} (f : A → B) (r : Option (A × List Token)) (b : B) (after : List Token) → parse_map f r ≡ Some (b, after) → (a : A) × (r ≡ Some (a, after)) × (b ≡ f a)
mapped f None b after e = not_found (b, after) e
mapped f (Some p) b after e =
    let both = Some_inj (f p.0, p.1) (b, after) e in
    (p.0, ap (λ x. Some (p.0, x)) (ap (λ x. x.1) both), sym (ap (λ x. x.0) both))

-- by its first token a value is an object or an array
pub kinds : (d : ℕ) (ts : List Token) (j : Json) (after : List Token) → 0 < d → value d ts ≡ Some (j, after) → (is_object j ≡ opens_object ts) × (is_array j ≡ opens_array ts)
kinds d [] j after h e = not_found (j, after) (sym (value_is d []) ∙ e)
kinds d (Token.begin_object ∷ ts) j after h e =
    let m = mapped object (members (value (d - 1)) (length ts) ts) j after (sym (value-begin_object d ts h) ∙ e) in
    (ap is_object m.2, ap is_array m.2)
kinds d (Token.end_object ∷ ts) j after h e = not_found (j, after) (sym (value_is d (Token.end_object ∷ ts)) ∙ e)
kinds d (Token.begin_array ∷ ts) j after h e =
    let m = mapped array (items (value (d - 1)) (length ts) ts) j after (sym (value-begin_array d ts h) ∙ e) in
    (ap is_object m.2, ap is_array m.2)
kinds d (Token.end_array ∷ ts) j after h e = not_found (j, after) (sym (value_is d (Token.end_array ∷ ts)) ∙ e)
kinds d (Token.key s ∷ ts) j after h e = not_found (j, after) (sym (value_is d (Token.key s ∷ ts)) ∙ e)
kinds d (Token.string s ∷ ts) j after h e =
    let same = sym (Some_inj (string s, ts) (j, after) (sym (value_is d (Token.string s ∷ ts)) ∙ e)) in
    (ap (λ p. is_object p.0) same, ap (λ p. is_array p.0) same)
kinds d (Token.number s ∷ ts) j after h e =
    let same = sym (Some_inj (number s, ts) (j, after) (sym (value_is d (Token.number s ∷ ts)) ∙ e)) in
    (ap (λ p. is_object p.0) same, ap (λ p. is_array p.0) same)
kinds d (Token.boolean b ∷ ts) j after h e =
    let same = sym (Some_inj (boolean b, ts) (j, after) (sym (value_is d (Token.boolean b ∷ ts)) ∙ e)) in
    (ap (λ p. is_object p.0) same, ap (λ p. is_array p.0) same)
kinds d (Token.null ∷ ts) j after h e =
    let same = sym (Some_inj (null, ts) (j, after) (sym (value_is d (Token.null ∷ ts)) ∙ e)) in
    (ap (λ p. is_object p.0) same, ap (λ p. is_array p.0) same)
kinds d (Token.bad ∷ ts) j after h e = not_found (j, after) (sym (value_is d (Token.bad ∷ ts)) ∙ e)

-- behind the mark that opens an object stand its members
pub enter_object : (j : Json) (ts s : List Token) → IsAtValue j ts → ts ≡ Token.begin_object ∷ s → (ms : Members) × (j ≡ object ms) × IsAtMembers ms s
enter_object j ts s at is =
    let m = mapped object (members (value 127) (length s) s) j [] (sym (value-begin_object 128 s (omega arith)) ∙ ap (value 128) (sym is) ∙ at) in
    (m.0, m.2, (length s, [], m.1))

-- behind the mark that opens an array stand its items
pub enter_array : (j : Json) (behind : Members) (ts s : List Token) → IsAtMemberValue j behind ts → ts ≡ Token.begin_array ∷ s → (js : Items) × (j ≡ array js) × IsAtItems js behind s
enter_array j behind ts s (after, e, at) is =
    let m = mapped array (items (value 126) (length s) s) j after (sym (value-begin_array 127 s (omega arith)) ∙ ap (value 127) (sym is) ∙ e) in
    (m.0, m.2, (length s, after, m.1, at))

-- ---- members

member_read : (n : ℕ) (name : List ℕ) (ms : Members) (s after : List Token) (o : Option (Json × List Token))
    → value 127 s ≡ o → option_and_then (λ p. parse_map (member name p.0) (members (value 127) n p.1)) o ≡ Some (ms, after)
    → (j : Json) × (behind : Members) × (ms ≡ member name j behind) × IsAtMemberValue j behind s
member_read n name ms s after None is e = not_found (ms, after) e
member_read n name ms s after (Some p) is e =
    let m = mapped (member name p.0) (members (value 127) n p.1) ms after e in
    (p.0, m.0, m.2, (p.1, is, (n, after, m.1)))

-- behind a name stands its value
pub next_member : (ms : Members) (ts s : List Token) (name : List ℕ) → IsAtMembers ms ts → read_key ts ≡ Some (Some name, s) → (j : Json) × (behind : Members) × (ms ≡ member name j behind) × IsAtMemberValue j behind s
unfolding members
next_member ms ts s name (zero, after, e) key = not_found (ms, after) e
next_member ms ts s name (suc n, after, e) key =
    member_read n name ms s after (value 127 s) refl (sym (ap (option_and_then (λ p. members_step (value 127) (members (value 127) n) p.0 p.1)) key) ∙ e)

-- where no name comes there are no members
pub no_member : (ms : Members) (ts s : List Token) → IsAtMembers ms ts → read_key ts ≡ Some (None, s) → ms ≡ no_members
unfolding members
no_member ms ts s (zero, after, e) key = not_found (ms, after) e
no_member ms ts s (suc n, after, e) key =
    sym (ap (λ p. p.0) (Some_inj (no_members, s) (ms, after) (sym (ap (option_and_then (λ p. members_step (value 127) (members (value 127) n) p.0 p.1)) key) ∙ e)))

-- among members a name comes, or their end
pub no_fault : (ms : Members) (ts : List Token) → IsAtMembers ms ts → read_key ts ≡ None → ⊥
unfolding members
no_fault ms ts (zero, after, e) key = not_found (ms, after) e
no_fault ms ts (suc n, after, e) key =
    not_found (ms, after) (sym (ap (option_and_then (λ p. members_step (value 127) (members (value 127) n) p.0 p.1)) key) ∙ e)

-- ---- the member that is looked for

-- of these members the first of a name is the first of those
abbrev pub IsPast : List ℕ → Members → List Token → Type 0
IsPast wanted ms ts = (rest : Members) × (first_named wanted ms ≡ first_named wanted rest) × IsAtMembers rest ts

-- a member of another name was passed over
pub pass_other : (wanted : List ℕ) (ms : Members) (ts s t : List Token) (name : List ℕ) → IsPast wanted ms ts → read_key ts ≡ Some (Some name, s) → bytes_eq name wanted ≡ false → skip_value 127 s ≡ Some t → IsPast wanted ms t
pass_other wanted ms ts s t name (rest, same, at) key other skip =
    let (j, behind, whole, (after, is, there)) = next_member rest ts s name at key in
    let here : t ≡ after = Some_inj t after (sym skip ∙ ap (option_map (λ p. p.1)) is) in
    (behind, same ∙ ap (first_named wanted) whole ∙ ap (λ b. if b then Some (j, behind) else first_named wanted behind) other, rw here there)

-- the value of a member can be passed over
pub can_skip : (wanted : List ℕ) (ms : Members) (ts s : List Token) (name : List ℕ) → IsPast wanted ms ts → read_key ts ≡ Some (Some name, s) → skip_value 127 s ≡ None → ⊥
can_skip wanted ms ts s name (rest, same, at) key none =
    let (j, behind, whole, (after, is, there)) = next_member rest ts s name at key in
    not_found after (sym none ∙ ap (option_map (λ p. p.1)) is)

-- the member was found
pub found : (wanted : List ℕ) (ms : Members) (ts s : List Token) (name : List ℕ) → IsPast wanted ms ts → read_key ts ≡ Some (Some name, s) → bytes_eq name wanted ≡ true → FindsMember wanted ms true s
found wanted ms ts s name (rest, same, at) key is =
    let (j, behind, whole, there) = next_member rest ts s name at key in
    (j, behind, same ∙ ap (first_named wanted) whole ∙ ap (λ b. if b then Some (j, behind) else first_named wanted behind) is, there)

-- there is none
pub not_there : (wanted : List ℕ) (ms : Members) (ts s : List Token) → IsPast wanted ms ts → NoNameComes ts s → first_named wanted ms ≡ None
not_there wanted ms ts s (rest, same, at) (inl key) = same ∙ ap (first_named wanted) (no_member rest ts s at key)
not_there wanted ms ts s (rest, same, at) (inr key) = absurd (no_fault rest ts at key)

-- ---- items

-- behind the last item stand the members that follow
pub close_items : (js : Items) (behind : Members) (ts s : List Token) → IsAtItems js behind ts → after_end_array ts ≡ Some s → (js ≡ no_items) × IsAtMembers behind s
unfolding items
close_items js behind ts s (zero, after, e, at) end = not_found (js, after) e
close_items js behind ts s (suc n, after, e, at) end =
    let same = Some_inj (no_items, s) (js, after) (sym (ap (items_step (value 126) (items (value 126) n) ts) end) ∙ e) in
    (sym (ap (λ p. p.0) same), rw (ap (λ p. p.1) same) at)

-- the value that was read is the next item
pub next_item : (js : Items) (behind : Members) (ts t : List Token) (j : Json) → IsAtItems js behind ts → after_end_array ts ≡ None → value 126 ts ≡ Some (j, t) → (left : Items) × (js ≡ item j left) × IsAtItems left behind t
unfolding items
next_item js behind ts t j (zero, after, e, at) end is = not_found (js, after) e
next_item js behind ts t j (suc n, after, e, at) end is =
    let step = sym (ap (items_step (value 126) (items (value 126) n) ts) end) ∙ e in
    let m = mapped (item j) (items (value 126) n t) js after (sym (ap (option_and_then (λ p. parse_map (item p.0) (items (value 126) n p.1))) is) ∙ step) in
    (m.0, m.2, (n, after, m.1, at))
