-- The rules of groups of words.
use Rattle.std.proofs.Common.{◌≡◌, ◌+◌, ◌<◌, ◌++◌, ◌∙◌, ℕ, zero, suc, Bool, true, false, cond, List, [], ◌∷◌, length, map, take, refl, ap, sym, subst, Bor, Global, Result, Ok, Err, Vec, get_or, arith}
use Rattle.std.proofs.lemmas.List.{map-append, take_more}
use Rattle.std.specs.List.{onto_first, slice_split}
use Rattle.policy.specs.declared.rule.Rule.{Rule}
use Rattle.command_lines.specs.RuleWords.{AreNoRules, AreRules, IsRule, are_apart, rule_groups}
use Rattle.command_lines.specs.Words.{Reads}
use Rattle.command_lines.specs.declared.command_line.LineFault.{LineFault}
use Rattle.command_lines.specs.declared.command_line.LineFault.TheVariants.{BadLine, NoMemory}

are_rules-push : (groups : List (List (List ℕ))) (words : List (List ℕ)) (rules : List Rule) (rule : Rule) → AreRules groups rules → IsRule words rule → AreRules (groups ++ words ∷ []) (rules ++ rule ∷ [])
are_rules-push [] words [] rule are is = (is, tt)
are_rules-push [] words (other ∷ rules) rule are is = absurd are
are_rules-push (group ∷ groups) words [] rule are is = absurd are
are_rules-push (group ∷ groups) words (other ∷ rules) rule are is = (are.0, are_rules-push groups words rules rule are.1 is)

-- one more rule, of the group at this place
pub one_more : {G : Type 0} (words_of : G → List (List ℕ)) (groups : List G) (i : ℕ) (other : G) (rules : List Rule) (rule : Rule) → i < length groups
    → AreRules (map words_of (take i groups)) rules → IsRule (words_of (get_or groups i other)) rule → AreRules (map words_of (take (i + 1) groups)) (rules ++ rule ∷ [])
one_more words_of groups i other rules rule within are is =
    let shown : map words_of (take (i + 1) groups) ≡ map words_of (take i groups) ++ words_of (get_or groups i other) ∷ [] =
    ap (map words_of) (take_more groups i other within) ∙ map-append words_of (take i groups) (get_or groups i other ∷ []) in
    subst (λ gs. AreRules gs (rules ++ rule ∷ [])) (sym shown) (are_rules-push (map words_of (take i groups)) (words_of (get_or groups i other)) rules rule are is)

-- each group has its rule
pub rule_at : {G : Type 0} (words_of : G → List (List ℕ)) (groups : List G) (i : ℕ) (other : G) (rules : List Rule) → i < length groups → AreRules (map words_of groups) rules → (rule : Rule) × IsRule (words_of (get_or groups i other)) rule
rule_at words_of [] i other rules within are = absurd (omega (arith, within))
rule_at words_of (group ∷ groups) i other [] within are = absurd are
rule_at words_of (group ∷ groups) zero other (rule ∷ rules) within are = (rule, are.0)
rule_at words_of (group ∷ groups) (suc i) other (rule ∷ rules) within are = rule_at words_of groups i other rules (omega (arith, within)) are.1

onto_first-shown : {X Y : Type 0} (f : X → Y) (x : X) (groups : List (List X)) → map (map f) (onto_first x groups) ≡ onto_first (f x) (map (map f) groups)
onto_first-shown f x [] = refl
onto_first-shown f x (group ∷ groups) = refl

-- words are cut as what they show is
split_shown : {X Y : Type 0} (f : X → Y) (p : Y → Bool) (xs : List X) → map (map f) (slice_split (λ x. p (f x)) xs) ≡ slice_split p (map f xs)
split_shown f p [] = refl
split_shown f p (x ∷ xs) = by_test (p (f x)) (split_shown f p xs)
  where
    by_test : (b : Bool) → map (map f) (slice_split (λ y. p (f y)) xs) ≡ slice_split p (map f xs)
        → map (map f) (cond b ([] ∷ slice_split (λ y. p (f y)) xs) (onto_first x (slice_split (λ y. p (f y)) xs))) ≡ cond b ([] ∷ slice_split p (map f xs)) (onto_first (f x) (slice_split p (map f xs)))
    by_test true rest = ap (λ gs. [] ∷ gs) rest
    by_test false rest = onto_first-shown f x (slice_split (λ y. p (f y)) xs) ∙ ap (onto_first (f x)) rest

each_shown : {X Y : Type 0} (f : X → Y) (groups : List (Bor (List X))) → map (λ group. map f group.now) groups ≡ map (map f) (map (λ group. group.now) groups)
each_shown f [] = refl
each_shown f (group ∷ groups) = ap (λ gs. map f group.now ∷ gs) (each_shown f groups)

-- the rules of the groups are those between the words that part them
rules_between : (words : List (Bor (List ℕ))) (groups : List (Bor (List (Bor (List ℕ))))) (rules : List Rule) → map (λ group. group.now) groups ≡ slice_split (λ word. are_apart word.now) words
    → AreRules (map (λ group. map (λ word. word.now) group.now) groups) rules → AreRules (rule_groups (map (λ word. word.now) words)) rules
rules_between words groups rules cut are =
    subst (λ gs. AreRules gs rules) (each_shown (λ word. word.now) groups ∙ ap (map (map (λ word. word.now))) cut ∙ split_shown (λ (word : Bor (List ℕ)). word.now) are_apart words) are

-- the rules of the words are those of the groups
rules_of_words : (words : List (Bor (List ℕ))) (groups : List (Bor (List (Bor (List ℕ))))) (rules : List Rule) → map (λ group. group.now) groups ≡ slice_split (λ word. are_apart word.now) words
    → AreRules (rule_groups (map (λ word. word.now) words)) rules → AreRules (map (λ group. map (λ word. word.now) group.now) groups) rules
rules_of_words words groups rules cut are =
    subst (λ gs. AreRules gs rules) (sym (each_shown (λ word. word.now) groups ∙ ap (map (map (λ word. word.now))) cut ∙ split_shown (λ (word : Bor (List ℕ)). word.now) are_apart words)) are

pub rules_of_groups : (words : List (Bor (List ℕ))) (groups : List (Bor (List (Bor (List ℕ))))) (result : Result (Vec Rule Global) LineFault) → map (λ group. group.now) groups ≡ slice_split (λ word. are_apart word.now) words
    → Reads (λ rules. AreRules (map (λ group. map (λ word. word.now) group.now) groups) rules.items) (AreNoRules (map (λ group. map (λ word. word.now) group.now) groups)) result
    → Reads (λ rules. AreRules (rule_groups (map (λ word. word.now) words)) rules.items) (AreNoRules (rule_groups (map (λ word. word.now) words))) result
rules_of_groups words groups (Ok rules) cut are = rules_between words groups rules.items cut are
rules_of_groups words groups (Err BadLine) cut none = λ rules are. none rules (rules_of_words words groups rules cut are)
rules_of_groups words groups (Err NoMemory) cut are = tt
