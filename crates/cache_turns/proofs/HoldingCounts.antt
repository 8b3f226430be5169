-- Counting what routers hold.
use Rattle.std.proofs.Common.{◌≡◌, ◌<◌, ◌+◌, ◌==◌, ℕ, zero, suc, Bool, true, false, cond, not, List, [], ◌∷◌, Option, Some, None, drop, get_or, is_none, is_some, length, refl, ap, sym, ◌∙◌, arith}
use Rattle.std.specs.List.{count_by}
use Rattle.std.proofs.lemmas.List.Sums.{sum_by-cons}
use Rattle.rtr_cache.specs.CacheState.{CacheState}
use Rattle.cache_turns.specs.Holding.{counting, held_from, holding_of, is_behind, is_current, one_if}
use Rattle.cache_turns.specs.declared.holding.Holding.{Holding}

-- the first of a list is counted
count_by-first : {X : Type 0} (p : X → Bool) (x : X) (xs : List X) → count_by p (x ∷ xs) ≡ cond (p x) 1 0 + count_by p xs
count_by-first p x xs = sum_by-cons (λ y. cond (p y) 1 0) x xs

-- how many were counted
abbrev pub total : Holding → ℕ
total counted = counted.current + (counted.behind + counted.without)

-- what was counted and the rest are all
pub record CountsOn (serial : ℕ) (counted : Holding) (rest all : List (Option ℕ)) : Type 0 where
  pub current : counted.current + count_by (is_current serial) rest ≡ count_by (is_current serial) all
  pub behind : counted.behind + count_by (is_behind serial) rest ≡ count_by (is_behind serial) all
  pub without : counted.without + count_by is_none rest ≡ count_by is_none all

pub none_counted : (serial : ℕ) (all : List (Option ℕ)) → CountsOn serial (record { current = 0; behind = 0; without = 0 }) all all
none_counted serial all = record { current = omega arith; behind = omega arith; without = omega arith }

-- the first of the rest is counted
one_more_by : (b : Bool) (count rest all : ℕ) → count + (cond b 1 0 + rest) ≡ all → one_if b count + rest ≡ all
one_more_by true count rest all is = omega (arith, is)
one_more_by false count rest all is = omega (arith, is)

one_more : (p : Option ℕ → Bool) (count : ℕ) (holds : Option ℕ) (rest all : List (Option ℕ)) → count + count_by p (holds ∷ rest) ≡ count_by p all → one_if (p holds) count + count_by p rest ≡ count_by p all
one_more p count holds rest all is = one_more_by (p holds) count (count_by p rest) (count_by p all) (ap (λ (n : ℕ). count + n) (sym (count_by-first p holds rest)) ∙ is)

pub one_counted : (serial : ℕ) (counted : Holding) (holds : Option ℕ) (rest all : List (Option ℕ)) → CountsOn serial counted (holds ∷ rest) all → CountsOn serial (counting serial holds counted) rest all
one_counted serial counted holds rest all so_far = record {
  current = one_more (is_current serial) counted.current holds rest all so_far.current;
  behind = one_more (is_behind serial) counted.behind holds rest all so_far.behind;
  without = one_more is_none counted.without holds rest all so_far.without;
}

more_by : (b : Bool) (current behind without : ℕ) → one_if b current + (one_if (not b) behind + without) ≡ current + (behind + without) + 1
more_by true current behind without = omega arith
more_by false current behind without = omega arith

pub total-counting : (serial : ℕ) (holds : Option ℕ) (counted : Holding) → total (counting serial holds counted) ≡ total counted + 1
total-counting serial None counted = omega arith
total-counting serial (Some other) counted = more_by (other == serial) counted.current counted.behind counted.without

-- at the end all are counted
same_counts : (counted : Holding) (current behind without : ℕ) → counted.current ≡ current → counted.behind ≡ behind → counted.without ≡ without → counted ≡ record { current = current; behind = behind; without = without }
same_counts counted current behind without a b c =
    ap (λ (n : ℕ). record { current = n; behind = counted.behind; without = counted.without }) a
    ∙ ap (λ (n : ℕ). record { current = current; behind = n; without = counted.without }) b
    ∙ ap (λ (n : ℕ). record { current = current; behind = behind; without = n }) c

pub all_counted : (serial : ℕ) (counted : Holding) (all : List (Option ℕ)) → CountsOn serial counted [] all → counted ≡ holding_of serial all
all_counted serial counted all so_far = same_counts counted _ _ _ (omega (arith, so_far.current)) (omega (arith, so_far.behind)) (omega (arith, so_far.without))

-- the place that comes next
pub drop_next : {X : Type 0} (places : List (Option X)) (at : ℕ) → at < length places → drop at places ≡ get_or places at None ∷ drop (suc at) places
drop_next [] at within = absurd (omega (arith, within))
drop_next (place ∷ places) zero within = refl
drop_next (place ∷ places) (suc at) within = drop_next places at (omega (arith, within))

-- each router holds one of the three, or none
sums_by : (b : Bool) (current behind without all : ℕ) → current + (behind + without) ≡ all → (cond b 1 0 + current) + ((cond (not b) 1 0 + behind) + (0 + without)) ≡ suc all
sums_by true current behind without all is = omega (arith, is)
sums_by false current behind without all is = omega (arith, is)

total-holding_of : (serial : ℕ) (held : List (Option ℕ)) → total (holding_of serial held) ≡ length held
total-holding_of serial [] = refl
total-holding_of serial (None ∷ held) =
    omega (arith, count_by-first (is_current serial) None held, count_by-first (is_behind serial) None held, count_by-first is_none None held, total-holding_of serial held)
total-holding_of serial (Some other ∷ held) =
    rw (count_by-first (is_current serial) (Some other) held, count_by-first (is_behind serial) (Some other) held, count_by-first is_none (Some other) held)
    (sums_by (other == serial) (count_by (is_current serial) held) (count_by (is_behind serial) held) (count_by is_none held) (length held) (total-holding_of serial held))

length-held_from : {X : Type 0} (cache : CacheState) (key : ℕ) (links : List (Option X)) → length (held_from cache key links) ≡ count_by is_some links
length-held_from cache key [] = refl
length-held_from cache key (None ∷ links) = omega (arith, length-held_from cache (suc key) links, count_by-first is_some None links)
length-held_from cache key (Some link ∷ links) = omega (arith, length-held_from cache (suc key) links, count_by-first is_some (Some link) links)

pub all_are_held : {X : Type 0} (serial : ℕ) (cache : CacheState) (links : List (Option X)) → total (holding_of serial (held_from cache 0 links)) ≡ count_by is_some links
all_are_held serial cache links = total-holding_of serial (held_from cache 0 links) ∙ length-held_from cache 0 links
