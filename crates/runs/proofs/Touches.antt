use Rattle.std.proofs.Common.{◌≡◌, ◌≤◌, ◌+◌, ◌&&◌, ◌||◌, ◌++◌, ℕ, Bool, true, false, not, suc, List, [], ◌∷◌, cond, refl, sym, ap, ◌∙◌, arith}
use Rattle.std.proofs.lemmas.List.Folds.{list_any-append}
use Rattle.std.specs.BTreeMap.{is_at}
use Rattle.net_prefix.specs.PayloadOrder.{payload_cmp}
use Rattle.net_prefix.specs.PayloadSets.{has}
use Rattle.net_prefix.specs.declared.payload.Vrp.{Vrp}
use Rattle.net_prefix.specs.declared.prefix.Prefix.{Prefix}
use Rattle.net_prefix.proofs.PayloadSets.{payload_cmp_exact, payload_cmp_total}
use Rattle.origin_valid.proofs.Members.{any_inside}
use Rattle.origin_valid.specs.Touched.{is_touched}
use Rattle.prefix_trie.specs.CoverWalks.{covers}
use Rattle.rtr_session.specs.SessionHistory as cached
use Rattle.routing.specs.Updates.{is_among}
use Rattle.runs.specs.Choices.{choices_cached_on, in_force_with, is_known, named_to}
use Rattle.routing.specs.Chosen.{how_many}
use Rattle.runs.specs.Runs.{Run}
use Rattle.runs.specs.declared.config.Config.{Config}
use Rattle.vrp_delta.specs.Delta.{lacked}
use Rattle.vrp_delta.proofs.PayloadMembers.{has-lacked}

-- Which prefixes changes of the payloads concern, one after another.

-- what comes and what goes
abbrev changes : List Vrp → List Vrp → List Vrp
changes before after = lacked before after ++ lacked after before

has_both : (xs ys : List Vrp) (q : Vrp) → has (xs ++ ys) q ≡ (has xs q || has ys q)
has_both xs ys q = list_any-append (is_at (payload_cmp q)) xs ys

has_changes : (before after : List Vrp) (q : Vrp) → has (changes before after) q ≡ ((not (has after q) && has before q) || (not (has before q) && has after q))
has_changes before after q = has_both (lacked before after) (lacked after before) q ∙ rw (has-lacked before after q, has-lacked after before q) refl

-- what differs between the first and the last differs in one of two steps
one_of_two : (a b c : Bool) → ((not c && a) || (not a && c)) ≡ true → (((not b && a) || (not a && b)) || ((not c && b) || (not b && c))) ≡ true
one_of_two true b true is = absurd (cc)
one_of_two true true false is = refl
one_of_two true false false is = refl
one_of_two false true true is = refl
one_of_two false false true is = refl
one_of_two false b false is = absurd (cc)

touched_twice : (a b c : List Vrp) (p : Prefix) → is_touched a c p ≡ true → (is_touched a b p || is_touched b c p) ≡ true
touched_twice a b c p is =
    sym (list_any-append (λ (payload : Vrp). covers payload.prefix p) (changes a b) (changes b c))
    ∙ any_inside payload_cmp_total payload_cmp_exact (λ (payload : Vrp). covers payload.prefix p) (changes a c) (changes a b ++ changes b c) inside is
  where
    inside : (q : Vrp) → covers q.prefix p ≡ true → has (changes a c) q ≡ true → has (changes a b ++ changes b c) q ≡ true
    inside q over there =
        has_both (changes a b) (changes b c) q
        ∙ rw (has_changes a b q, has_changes b c q) (one_of_two (has a q) (has b q) (has c q) (sym (has_changes a c q) ∙ there))

never_both : (b : Bool) → ((not b && b) || (not b && b)) ≡ false
never_both true = refl
never_both false = refl

-- where nothing changes
pub untouched : (a : List Vrp) (p : Prefix) → is_touched a a p ≡ false
untouched a p = none (is_touched a a p) refl
  where
    none : (b : Bool) → is_touched a a p ≡ b → b ≡ false
    none false is = refl
    none true is =
        let never = any_inside payload_cmp_total payload_cmp_exact (λ (payload : Vrp). covers payload.prefix p) (changes a a) [] (λ q over there. absurd (let no = sym there ∙ has_changes a a q ∙ never_both (has a q) in cc)) is in
        absurd (cc)

-- ---- how many

none_held : (holds : Prefix → Bool) (ps : List Prefix) → ((p : Prefix) → holds p ≡ false) → how_many holds ps ≡ 0
none_held holds [] none = refl
none_held holds (p ∷ ps) none = rw (none p) (none_held holds ps none)

-- one more of the first is one more of the second or of the third
count_more : (f g h m : Bool) (n a b : ℕ) → (f ≡ true → (g || h) ≡ true) → n ≤ a + b → cond (f && m) (suc n) n ≤ cond (g && m) (suc a) a + cond (h && m) (suc b) b
count_more true true true true n a b either few = omega (arith, few)
count_more true true false true n a b either few = omega (arith, few)
count_more true false true true n a b either few = omega (arith, few)
count_more true false false m n a b either few = absurd (let never = either refl in cc)
count_more true true true false n a b either few = omega (arith, few)
count_more true true false false n a b either few = omega (arith, few)
count_more true false true false n a b either few = omega (arith, few)
count_more false true true true n a b either few = omega (arith, few)
count_more false true false true n a b either few = omega (arith, few)
count_more false false true true n a b either few = omega (arith, few)
count_more false false false true n a b either few = omega (arith, few)
count_more false true true false n a b either few = omega (arith, few)
count_more false true false false n a b either few = omega (arith, few)
count_more false false true false n a b either few = omega (arith, few)
count_more false false false false n a b either few = omega (arith, few)

how_many_twice : (f g h : Prefix → Bool) (ps : List Prefix) → ((p : Prefix) → f p ≡ true → (g p || h p) ≡ true) → how_many f ps ≤ how_many g ps + how_many h ps
how_many_twice f g h [] either = omega arith
how_many_twice f g h (p ∷ ps) either =
    count_more (f p) (g p) (h p) (not (is_among p ps)) (how_many f ps) (how_many g ps) (how_many h ps) (either p) (how_many_twice f g h ps either)

-- ---- histories of the cache session

-- what one of them and another allow, where slots have routes as the run has them
abbrev pub choices_from : Config → Run → List cached.Event → List cached.Event → ℕ
choices_from config r k1 k2 = how_many (λ p. is_known config r p && is_touched (in_force_with config r k1) (in_force_with config r k2) p) (named_to config r)

routed_twice : (r a b c : Bool) → (a ≡ true → (b || c) ≡ true) → (r && a) ≡ true → ((r && b) || (r && c)) ≡ true
routed_twice true a b c either is = either is
routed_twice false a b c either is = absurd (cc)

routed_none : (r a : Bool) → a ≡ false → (r && a) ≡ false
routed_none true a is = is
routed_none false a is = refl

pub choices_twice : (config : Config) (r : Run) (k1 k2 k3 : List cached.Event) → choices_from config r k1 k3 ≤ choices_from config r k1 k2 + choices_from config r k2 k3
choices_twice config r k1 k2 k3 =
    how_many_twice _ _ _ (named_to config r)
    (λ p is. routed_twice (is_known config r p) _ _ _ (touched_twice (in_force_with config r k1) (in_force_with config r k2) (in_force_with config r k3) p) is)

pub choices_none : (config : Config) (r : Run) (k1 k2 : List cached.Event) → in_force_with config r k2 ≡ in_force_with config r k1 → choices_from config r k1 k2 ≡ 0
choices_none config r k1 k2 same =
    none_held _ (named_to config r)
    (λ p. routed_none (is_known config r p) _ (ap (λ x. is_touched (in_force_with config r k1) x p) same ∙ untouched (in_force_with config r k1) p))

-- octets one after another
pub choices_octets : (config : Config) (r : Run) (octets : List ℕ) (k : List cached.Event) → choices_from config r k (cached.onto octets k) ≤ choices_cached_on config r octets k
choices_octets config r [] k = let none = choices_none config r k k refl in omega (arith, none)
choices_octets config r (octet ∷ octets) k =
    let first = choices_twice config r k (cached.Octet octet ∷ k) (cached.onto octets (cached.Octet octet ∷ k)) in
    let later = choices_octets config r octets (cached.Octet octet ∷ k) in
    omega (arith, first, later)

pub choices_joined : (config : Config) (r : Run) (front back : List ℕ) (k : List cached.Event) → choices_cached_on config r (front ++ back) k ≡ choices_cached_on config r front k + choices_cached_on config r back (cached.onto front k)
choices_joined config r [] back k = omega arith
choices_joined config r (octet ∷ front) back k = let later = choices_joined config r front back (cached.Octet octet ∷ k) in omega (arith, later)
