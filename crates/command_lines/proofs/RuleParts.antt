-- The parts of a rule, one after another.
use Rattle.std.proofs.Common.{◌≡◌, ◌≢◌, ◌≤◌, ◌<◌, ◌^◌, ◌∙◌, ◌∷◌, ℕ, List, [], Option, None, Some, IfSome, arith, codes, refl, sym, subst}
use Rattle.origin_valid.specs.declared.validity.Validity.{Validity}
use Rattle.policy.specs.declared.rule.Action.{Action}
use Rattle.policy.specs.declared.rule.Action.TheVariants.{Reject, Accept}
use Rattle.policy.specs.declared.rule.PrefixRange.{PrefixRange}
use Rattle.policy.specs.declared.rule.Rule.{Rule}
use Rattle.command_lines.proofs.FirstWords.{apart}
use Rattle.command_lines.specs.RuleWords.{IsAction, IsNumbered, IsPrefixTest, IsRule, IsStateTest}
use Rattle.command_lines.specs.Words.{Begin}

first_is : (words : List (List ℕ)) (one two : List ℕ) (rest behind : List (List ℕ)) → words ≡ one ∷ rest → words ≡ two ∷ behind → one ≡ two
first_is words one two rest behind same are = cc

-- an action begins with nothing else
pub action_begins : (words : List (List ℕ)) (action : Action) (other : List ℕ) → IsAction words action → other ≢ codes "reject" → other ≢ codes "accept" → ¬ (Begin words other)
action_begins words Reject other is reject accept begins = reject (first_is words _ _ _ _ begins.1 is)
action_begins words (Accept degree med prepend) other is reject accept begins = accept (first_is words _ _ _ _ begins.1 is.3)

-- nor does a test of a number, where what follows it doesn't
pub number_begins : (bits : ℕ) (name : List ℕ) (words : List (List ℕ)) (number : Option ℕ) (rest : List (List ℕ)) (other : List ℕ) → IsNumbered bits name words number rest → other ≢ name → ¬ (Begin rest other) → ¬ (Begin words other)
number_begins bits name words None rest other is apart_from none begins = none (begins.0, sym is ∙ begins.1)
number_begins bits name words (Some number) rest other is apart_from none begins = apart_from (first_is words _ _ _ _ begins.1 is.1)

-- nor that of a state
pub state_begins : (words : List (List ℕ)) (state : Option Validity) (rest : List (List ℕ)) (other : List ℕ) → IsStateTest words state rest → other ≢ codes "state" → ¬ (Begin rest other) → ¬ (Begin words other)
state_begins words None rest other is apart_from none begins = none (begins.0, sym is ∙ begins.1)
state_begins words (Some state) rest other is apart_from none begins = apart_from (first_is words _ _ _ _ begins.1 is)

-- a number of fewer bits is one of more
pub wider : (few many : ℕ) (name : List ℕ) (words : List (List ℕ)) (number : Option ℕ) (rest : List (List ℕ)) → 2 ^ few ≤ 2 ^ many → IsNumbered few name words number rest → IsNumbered many name words number rest
wider few many name words None rest more is = is
wider few many name words (Some number) rest more is = (is.0, is.1, (is.2.0, omega (arith, more, is.2.1)))

-- the parts of a rule begin with none of the words before them
pub record BeginLater (rule : Rule) (states origins paths froms actions : List (List ℕ)) : Type 0 where
  pub prefix : ¬ (Begin states (codes "prefix"))
  pub state : ¬ (Begin origins (codes "state"))
  pub origin : ¬ (Begin paths (codes "origin"))
  pub path : ¬ (Begin froms (codes "path"))
  pub from : ¬ (Begin actions (codes "from"))

pub begin_later : (words : List (List ℕ)) (rule : Rule) (is : IsRule words rule) → BeginLater rule is.states is.origins is.paths is.froms is.actions
begin_later words rule is = record {
  prefix = state_begins is.states _ is.origins (codes "prefix") is.state (apart _ _ refl refl) (in_origins (codes "prefix") (apart _ _ refl refl) (apart _ _ refl refl) (apart _ _ refl refl) (apart _ _ refl refl) (apart _ _ refl refl));
  state = in_origins (codes "state") (apart _ _ refl refl) (apart _ _ refl refl) (apart _ _ refl refl) (apart _ _ refl refl) (apart _ _ refl refl);
  origin = in_paths (codes "origin") (apart _ _ refl refl) (apart _ _ refl refl) (apart _ _ refl refl) (apart _ _ refl refl);
  path = in_froms (codes "path") (apart _ _ refl refl) (apart _ _ refl refl) (apart _ _ refl refl);
  from = action_begins is.actions rule.action (codes "from") is.action (apart _ _ refl refl) (apart _ _ refl refl);
}
  where
    in_froms : (other : List ℕ) → other ≢ codes "from" → other ≢ codes "reject" → other ≢ codes "accept" → ¬ (Begin is.froms other)
    in_froms other from reject accept = number_begins 8 (codes "from") is.froms _ is.actions other is.from from (action_begins is.actions rule.action other is.action reject accept)

    in_paths : (other : List ℕ) → other ≢ codes "path" → other ≢ codes "from" → other ≢ codes "reject" → other ≢ codes "accept" → ¬ (Begin is.paths other)
    in_paths other path from reject accept = number_begins 32 (codes "path") is.paths _ is.froms other is.path path (in_froms other from reject accept)

    in_origins : (other : List ℕ) → other ≢ codes "origin" → other ≢ codes "path" → other ≢ codes "from" → other ≢ codes "reject" → other ≢ codes "accept" → ¬ (Begin is.origins other)
    in_origins other origin path from reject accept = number_begins 32 (codes "origin") is.origins _ is.paths other is.origin origin (in_paths other path from reject accept)

-- a number of 8 bits isn't one that has more
pub no_octet : (name : List ℕ) (words : List (List ℕ)) (number told : Option ℕ) (rest : List (List ℕ)) (value : ℕ) → IsNumbered 8 name words number rest → told ≡ number → told ≡ Some value → 2 ^ 8 ≤ value → ⊥
no_octet name words None told rest value is same that more = absurd (let wrong : None ≡ Some value = sym same ∙ that in cc)
no_octet name words (Some number) told rest value is same that more =
    let equal : number ≡ value = let one : Some number ≡ Some value = sym same ∙ that in cc in
    omega (arith, equal, is.2.1, more)

-- the words of a prefix's test aren't there
pub no_prefix_words : (words : List (List ℕ)) → ((prefix from to : List ℕ) (rest : List (List ℕ)) → words ≢ codes "prefix" ∷ prefix ∷ from ∷ to ∷ rest) → (range : Option PrefixRange) (rest : List (List ℕ)) → IsPrefixTest words range rest → words ≡ rest
no_prefix_words words none None rest is = is
no_prefix_words words none (Some range) rest is = absurd (none is.0 is.1 is.2 rest is.3)

-- where they are, the test is of them
pub record IsTestOf (prefix from to : List ℕ) (behind rest : List (List ℕ)) : Type 0 where
  pub range : PrefixRange
  pub test : IsPrefixTest (codes "prefix" ∷ prefix ∷ from ∷ to ∷ behind) (Some range) rest
  pub same_prefix : test.0 ≡ prefix
  pub same_from : test.1 ≡ from
  pub same_to : test.2 ≡ to
  pub same_rest : behind ≡ rest

pub test_of : (words : List (List ℕ)) (prefix from to : List ℕ) (behind : List (List ℕ)) → words ≡ codes "prefix" ∷ prefix ∷ from ∷ to ∷ behind → (range : Option PrefixRange) (rest : List (List ℕ)) → IsPrefixTest words range rest
    → ¬ (Begin rest (codes "prefix")) → IsTestOf prefix from to behind rest
test_of words prefix from to behind are None rest is none = absurd (none (prefix ∷ from ∷ to ∷ behind, sym is ∙ are))
test_of words prefix from to behind are (Some range) rest is none =
    let all : codes "prefix" ∷ prefix ∷ from ∷ to ∷ behind ≡ codes "prefix" ∷ is.0 ∷ is.1 ∷ is.2 ∷ rest = sym are ∙ is.3 in
    record {
      range = range;
      test = (is.0, is.1, is.2, all, is.4, is.5, is.6);
      same_prefix = third_is all;
      same_from = fourth_is all;
      same_to = fifth_is all;
      same_rest = behind_is all;
    }
  where
    third_is : {w a b c d e f : List ℕ} {r s : List (List ℕ)} → w ∷ a ∷ b ∷ c ∷ r ≡ w ∷ d ∷ e ∷ f ∷ s → d ≡ a
    third_is same = cc

    fourth_is : {w a b c d e f : List ℕ} {r s : List (List ℕ)} → w ∷ a ∷ b ∷ c ∷ r ≡ w ∷ d ∷ e ∷ f ∷ s → e ≡ b
    fourth_is same = cc

    fifth_is : {w a b c d e f : List ℕ} {r s : List (List ℕ)} → w ∷ a ∷ b ∷ c ∷ r ≡ w ∷ d ∷ e ∷ f ∷ s → f ≡ c
    fifth_is same = cc

    behind_is : {w a b c d e f : List ℕ} {r s : List (List ℕ)} → w ∷ a ∷ b ∷ c ∷ r ≡ w ∷ d ∷ e ∷ f ∷ s → r ≡ s
    behind_is same = cc

-- a number that is found to have 8 bits at most
pub narrower : (name : List ℕ) (words : List (List ℕ)) (number : Option ℕ) (rest : List (List ℕ)) → IfSome number (λ n. n < 2 ^ 8) → IsNumbered 32 name words number rest → IsNumbered 8 name words number rest
narrower name words None rest small is = is
narrower name words (Some number) rest small is = (is.0, is.1, (is.2.0, small))

nothing_begins : (other : List ℕ) → ¬ (Begin [] other)
nothing_begins other begins = let same = begins.1 in cc

tail_is : (one : List ℕ) (rest behind : List (List ℕ)) → one ∷ rest ≡ one ∷ behind → rest ≡ behind
tail_is one rest behind same = cc

-- what is accepted is what these words set
pub record IsAccepted (words : List (List ℕ)) : Type 0 where
  pub degree : Option ℕ
  pub med : Option ℕ
  pub prepend : Option ℕ
  pub meds : List (List ℕ)
  pub prepends : List (List ℕ)
  pub degrees_are : IsNumbered 32 (codes "degree") words degree meds
  pub meds_are : IsNumbered 32 (codes "med") meds med prepends
  pub prepends_are : IsNumbered 8 (codes "prepend") prepends prepend []
  pub no_degree : ¬ (Begin meds (codes "degree"))
  pub no_med : ¬ (Begin prepends (codes "med"))
  pub no_prepend : ¬ (Begin [] (codes "prepend"))

pub accepted : (words : List (List ℕ)) (action : Action) → IsAction (codes "accept" ∷ words) action → IsAccepted words
accepted words Reject is = absurd (apart (codes "accept") (codes "reject") refl refl (first_is _ _ _ _ _ refl is))
accepted words (Accept d m p) is = record {
  degree = d;
  med = m;
  prepend = p;
  meds = is.1;
  prepends = is.2;
  degrees_are = subst (λ ws. IsNumbered 32 (codes "degree") ws d is.1) (sym (tail_is _ _ _ is.3)) is.4;
  meds_are = is.5;
  prepends_are = is.6;
  no_degree = number_begins 32 (codes "med") is.1 m is.2 (codes "degree") is.5 (apart _ _ refl refl) (number_begins 8 (codes "prepend") is.2 p [] (codes "degree") is.6 (apart _ _ refl refl) (nothing_begins _));
  no_med = number_begins 8 (codes "prepend") is.2 p [] (codes "med") is.6 (apart _ _ refl refl) (nothing_begins _);
  no_prepend = nothing_begins _;
}
