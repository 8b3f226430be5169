-- Which command a first word begins.
use Rattle.std.proofs.Common.{◌∙◌, true, false, nat_eq, ◌≡◌, ◌≢◌, ◌⊎◌, ◌∷◌, ℕ, List, Option, None, Some, MatchOption, codes, inl, inr, ap, refl, sym, subst}
use Rattle.std.specs.Cmp.Lexicographic.{pointwise}
use Rattle.bgp_conf.specs.declared.command.Command.{Command}
use Rattle.bgp_conf.specs.declared.command.Command.TheVariants.{AddPeer, RemovePeer, Enable, Disable, SetPolicy, DropPolicy, UseIn, UseOut, Network, NoNetwork, Reach, NoReach, Filter, NoFilter, Assert, NoAssert}
use Rattle.bgp_conf.specs.declared.command.PeerConf.{PeerConf}
use Rattle.net_prefix.specs.declared.asn.Asn.{Asn}
use Rattle.net_prefix.specs.declared.prefix.Prefix.{Prefix}
use Rattle.policy.specs.declared.rule.Rule.{Rule}
use Rattle.command_lines.specs.CommandWords.{AreBehind, IsAssertion, IsFilter, IsNamed, IsPolicy, IsPrefixWord, IsReach, IsSlot, IsSlotAndPeer, IsUse, SayNone, Says, word_of}

-- words that a test tells apart
pub apart : (one two : List ℕ) → pointwise nat_eq one one ≡ true → pointwise nat_eq two one ≡ false → one ≢ two
apart one two same other is =
    let wrong : pointwise nat_eq one one ≡ pointwise nat_eq two one = ap (λ word. pointwise nat_eq word one) is in
    absurd (true_not_false (sym same ∙ wrong ∙ other))
  where
    true_not_false : true ≡ false → ⊥
    true_not_false wrong = cc

-- a word says a command where it and what stands behind it do
pub says_none : (word : List ℕ) (behind : List (List ℕ)) → ((command : Command) → word ≡ word_of command → ¬ (AreBehind command behind)) → SayNone (word ∷ behind)
says_none word behind none command says =
    let first : word ≡ word_of command = let same = says.1 in cc in
    let rest : says.0 ≡ behind = let same = says.1 in cc in
    none command first (subst (λ words. AreBehind command words) rest says.2)

-- the same of another spelling of the word
pub says_as : (word text : List ℕ) (behind : List (List ℕ)) (found : Option Command) → word ≡ text → MatchOption found (SayNone (text ∷ behind)) (Says (text ∷ behind))
    → MatchOption found (word ≢ codes "policy" → SayNone (word ∷ behind)) (Says (word ∷ behind))
says_as word text behind None is said = λ other. subst (λ w. SayNone (w ∷ behind)) (sym is) said
says_as word text behind (Some command) is said = subst (λ w. Says (w ∷ behind) command) (sym is) said

-- words of which none is a command
pub none_as : (word text : List ℕ) (behind : List (List ℕ)) → word ≡ text → SayNone (text ∷ behind) → word ≢ codes "policy" → SayNone (word ∷ behind)
none_as word text behind is said other = subst (λ w. SayNone (w ∷ behind)) (sym is) said

-- words of which one is
pub some_as : (word : List ℕ) (behind : List (List ℕ)) (command : Command) → word ≡ word_of command → AreBehind command behind → Says (word ∷ behind) command
some_as word behind command is are = (behind, ap (λ w. w ∷ behind) is, are)

-- `in` or `out`
abbrev pub IsWay : List ℕ → Type 0
IsWay way = (way ≡ codes "in") ⊎ (way ≡ codes "out")

pub no_way : (word : List ℕ) → word ≢ codes "in" → word ≢ codes "out" → ¬ (IsWay word)
no_way word other third (inl is) = other is
no_way word other third (inr is) = third is

pub peer_none : (behind : List (List ℕ)) → ((slot : ℕ) (peer : PeerConf) → ¬ (IsSlotAndPeer behind slot peer)) → SayNone (codes "peer" ∷ behind)
peer_none behind none = says_none (codes "peer") behind each
  where
    each : (command : Command) → codes "peer" ≡ word_of command → ¬ (AreBehind command behind)
    each (AddPeer slot peer) same is = none slot peer is
    each (RemovePeer slot) same is = apart _ _ refl refl same
    each (Enable slot) same is = apart _ _ refl refl same
    each (Disable slot) same is = apart _ _ refl refl same
    each (SetPolicy name rules) same is = apart _ _ refl refl same
    each (DropPolicy name) same is = apart _ _ refl refl same
    each (UseIn slot policy) same is = apart _ _ refl refl same
    each (UseOut slot policy) same is = apart _ _ refl refl same
    each (Network prefix) same is = apart _ _ refl refl same
    each (NoNetwork prefix) same is = apart _ _ refl refl same
    each (Reach prefix cost) same is = apart _ _ refl refl same
    each (NoReach prefix) same is = apart _ _ refl refl same
    each (Filter prefix asn) same is = apart _ _ refl refl same
    each (NoFilter prefix asn) same is = apart _ _ refl refl same
    each (Assert prefix max_len asn) same is = apart _ _ refl refl same
    each (NoAssert prefix max_len asn) same is = apart _ _ refl refl same

pub drop_none : (behind : List (List ℕ)) → ((slot : ℕ) → ¬ (IsSlot behind slot)) → SayNone (codes "drop" ∷ behind)
drop_none behind none = says_none (codes "drop") behind each
  where
    each : (command : Command) → codes "drop" ≡ word_of command → ¬ (AreBehind command behind)
    each (AddPeer slot peer) same is = apart _ _ refl refl same
    each (RemovePeer slot) same is = none slot is
    each (Enable slot) same is = apart _ _ refl refl same
    each (Disable slot) same is = apart _ _ refl refl same
    each (SetPolicy name rules) same is = apart _ _ refl refl same
    each (DropPolicy name) same is = apart _ _ refl refl same
    each (UseIn slot policy) same is = apart _ _ refl refl same
    each (UseOut slot policy) same is = apart _ _ refl refl same
    each (Network prefix) same is = apart _ _ refl refl same
    each (NoNetwork prefix) same is = apart _ _ refl refl same
    each (Reach prefix cost) same is = apart _ _ refl refl same
    each (NoReach prefix) same is = apart _ _ refl refl same
    each (Filter prefix asn) same is = apart _ _ refl refl same
    each (NoFilter prefix asn) same is = apart _ _ refl refl same
    each (Assert prefix max_len asn) same is = apart _ _ refl refl same
    each (NoAssert prefix max_len asn) same is = apart _ _ refl refl same

pub enable_none : (behind : List (List ℕ)) → ((slot : ℕ) → ¬ (IsSlot behind slot)) → SayNone (codes "enable" ∷ behind)
enable_none behind none = says_none (codes "enable") behind each
  where
    each : (command : Command) → codes "enable" ≡ word_of command → ¬ (AreBehind command behind)
    each (AddPeer slot peer) same is = apart _ _ refl refl same
    each (RemovePeer slot) same is = apart _ _ refl refl same
    each (Enable slot) same is = none slot is
    each (Disable slot) same is = apart _ _ refl refl same
    each (SetPolicy name rules) same is = apart _ _ refl refl same
    each (DropPolicy name) same is = apart _ _ refl refl same
    each (UseIn slot policy) same is = apart _ _ refl refl same
    each (UseOut slot policy) same is = apart _ _ refl refl same
    each (Network prefix) same is = apart _ _ refl refl same
    each (NoNetwork prefix) same is = apart _ _ refl refl same
    each (Reach prefix cost) same is = apart _ _ refl refl same
    each (NoReach prefix) same is = apart _ _ refl refl same
    each (Filter prefix asn) same is = apart _ _ refl refl same
    each (NoFilter prefix asn) same is = apart _ _ refl refl same
    each (Assert prefix max_len asn) same is = apart _ _ refl refl same
    each (NoAssert prefix max_len asn) same is = apart _ _ refl refl same

pub disable_none : (behind : List (List ℕ)) → ((slot : ℕ) → ¬ (IsSlot behind slot)) → SayNone (codes "disable" ∷ behind)
disable_none behind none = says_none (codes "disable") behind each
  where
    each : (command : Command) → codes "disable" ≡ word_of command → ¬ (AreBehind command behind)
    each (AddPeer slot peer) same is = apart _ _ refl refl same
    each (RemovePeer slot) same is = apart _ _ refl refl same
    each (Enable slot) same is = apart _ _ refl refl same
    each (Disable slot) same is = none slot is
    each (SetPolicy name rules) same is = apart _ _ refl refl same
    each (DropPolicy name) same is = apart _ _ refl refl same
    each (UseIn slot policy) same is = apart _ _ refl refl same
    each (UseOut slot policy) same is = apart _ _ refl refl same
    each (Network prefix) same is = apart _ _ refl refl same
    each (NoNetwork prefix) same is = apart _ _ refl refl same
    each (Reach prefix cost) same is = apart _ _ refl refl same
    each (NoReach prefix) same is = apart _ _ refl refl same
    each (Filter prefix asn) same is = apart _ _ refl refl same
    each (NoFilter prefix asn) same is = apart _ _ refl refl same
    each (Assert prefix max_len asn) same is = apart _ _ refl refl same
    each (NoAssert prefix max_len asn) same is = apart _ _ refl refl same

pub policy_none : (behind : List (List ℕ)) → ((name : List ℕ) (rules : List Rule) → ¬ (IsPolicy behind name rules)) → SayNone (codes "policy" ∷ behind)
policy_none behind none = says_none (codes "policy") behind each
  where
    each : (command : Command) → codes "policy" ≡ word_of command → ¬ (AreBehind command behind)
    each (AddPeer slot peer) same is = apart _ _ refl refl same
    each (RemovePeer slot) same is = apart _ _ refl refl same
    each (Enable slot) same is = apart _ _ refl refl same
    each (Disable slot) same is = apart _ _ refl refl same
    each (SetPolicy name rules) same is = none name.now rules.now is
    each (DropPolicy name) same is = apart _ _ refl refl same
    each (UseIn slot policy) same is = apart _ _ refl refl same
    each (UseOut slot policy) same is = apart _ _ refl refl same
    each (Network prefix) same is = apart _ _ refl refl same
    each (NoNetwork prefix) same is = apart _ _ refl refl same
    each (Reach prefix cost) same is = apart _ _ refl refl same
    each (NoReach prefix) same is = apart _ _ refl refl same
    each (Filter prefix asn) same is = apart _ _ refl refl same
    each (NoFilter prefix asn) same is = apart _ _ refl refl same
    each (Assert prefix max_len asn) same is = apart _ _ refl refl same
    each (NoAssert prefix max_len asn) same is = apart _ _ refl refl same

pub nopolicy_none : (behind : List (List ℕ)) → ((name : List ℕ) → ¬ (IsNamed behind name)) → SayNone (codes "nopolicy" ∷ behind)
nopolicy_none behind none = says_none (codes "nopolicy") behind each
  where
    each : (command : Command) → codes "nopolicy" ≡ word_of command → ¬ (AreBehind command behind)
    each (AddPeer slot peer) same is = apart _ _ refl refl same
    each (RemovePeer slot) same is = apart _ _ refl refl same
    each (Enable slot) same is = apart _ _ refl refl same
    each (Disable slot) same is = apart _ _ refl refl same
    each (SetPolicy name rules) same is = apart _ _ refl refl same
    each (DropPolicy name) same is = none name.now is
    each (UseIn slot policy) same is = apart _ _ refl refl same
    each (UseOut slot policy) same is = apart _ _ refl refl same
    each (Network prefix) same is = apart _ _ refl refl same
    each (NoNetwork prefix) same is = apart _ _ refl refl same
    each (Reach prefix cost) same is = apart _ _ refl refl same
    each (NoReach prefix) same is = apart _ _ refl refl same
    each (Filter prefix asn) same is = apart _ _ refl refl same
    each (NoFilter prefix asn) same is = apart _ _ refl refl same
    each (Assert prefix max_len asn) same is = apart _ _ refl refl same
    each (NoAssert prefix max_len asn) same is = apart _ _ refl refl same

pub use_none : (behind : List (List ℕ)) → ((way : List ℕ) (slot : ℕ) (policy : List ℕ) → IsWay way → ¬ (IsUse way behind slot policy)) → SayNone (codes "use" ∷ behind)
use_none behind none = says_none (codes "use") behind each
  where
    each : (command : Command) → codes "use" ≡ word_of command → ¬ (AreBehind command behind)
    each (AddPeer slot peer) same is = apart _ _ refl refl same
    each (RemovePeer slot) same is = apart _ _ refl refl same
    each (Enable slot) same is = apart _ _ refl refl same
    each (Disable slot) same is = apart _ _ refl refl same
    each (SetPolicy name rules) same is = apart _ _ refl refl same
    each (DropPolicy name) same is = apart _ _ refl refl same
    each (UseIn slot policy) same is = none (codes "in") slot policy.now (inl refl) is
    each (UseOut slot policy) same is = none (codes "out") slot policy.now (inr refl) is
    each (Network prefix) same is = apart _ _ refl refl same
    each (NoNetwork prefix) same is = apart _ _ refl refl same
    each (Reach prefix cost) same is = apart _ _ refl refl same
    each (NoReach prefix) same is = apart _ _ refl refl same
    each (Filter prefix asn) same is = apart _ _ refl refl same
    each (NoFilter prefix asn) same is = apart _ _ refl refl same
    each (Assert prefix max_len asn) same is = apart _ _ refl refl same
    each (NoAssert prefix max_len asn) same is = apart _ _ refl refl same

pub network_none : (behind : List (List ℕ)) → ((prefix : Prefix) → ¬ (IsPrefixWord behind prefix)) → SayNone (codes "network" ∷ behind)
network_none behind none = says_none (codes "network") behind each
  where
    each : (command : Command) → codes "network" ≡ word_of command → ¬ (AreBehind command behind)
    each (AddPeer slot peer) same is = apart _ _ refl refl same
    each (RemovePeer slot) same is = apart _ _ refl refl same
    each (Enable slot) same is = apart _ _ refl refl same
    each (Disable slot) same is = apart _ _ refl refl same
    each (SetPolicy name rules) same is = apart _ _ refl refl same
    each (DropPolicy name) same is = apart _ _ refl refl same
    each (UseIn slot policy) same is = apart _ _ refl refl same
    each (UseOut slot policy) same is = apart _ _ refl refl same
    each (Network prefix) same is = none prefix is
    each (NoNetwork prefix) same is = apart _ _ refl refl same
    each (Reach prefix cost) same is = apart _ _ refl refl same
    each (NoReach prefix) same is = apart _ _ refl refl same
    each (Filter prefix asn) same is = apart _ _ refl refl same
    each (NoFilter prefix asn) same is = apart _ _ refl refl same
    each (Assert prefix max_len asn) same is = apart _ _ refl refl same
    each (NoAssert prefix max_len asn) same is = apart _ _ refl refl same

pub nonetwork_none : (behind : List (List ℕ)) → ((prefix : Prefix) → ¬ (IsPrefixWord behind prefix)) → SayNone (codes "nonetwork" ∷ behind)
nonetwork_none behind none = says_none (codes "nonetwork") behind each
  where
    each : (command : Command) → codes "nonetwork" ≡ word_of command → ¬ (AreBehind command behind)
    each (AddPeer slot peer) same is = apart _ _ refl refl same
    each (RemovePeer slot) same is = apart _ _ refl refl same
    each (Enable slot) same is = apart _ _ refl refl same
    each (Disable slot) same is = apart _ _ refl refl same
    each (SetPolicy name rules) same is = apart _ _ refl refl same
    each (DropPolicy name) same is = apart _ _ refl refl same
    each (UseIn slot policy) same is = apart _ _ refl refl same
    each (UseOut slot policy) same is = apart _ _ refl refl same
    each (Network prefix) same is = apart _ _ refl refl same
    each (NoNetwork prefix) same is = none prefix is
    each (Reach prefix cost) same is = apart _ _ refl refl same
    each (NoReach prefix) same is = apart _ _ refl refl same
    each (Filter prefix asn) same is = apart _ _ refl refl same
    each (NoFilter prefix asn) same is = apart _ _ refl refl same
    each (Assert prefix max_len asn) same is = apart _ _ refl refl same
    each (NoAssert prefix max_len asn) same is = apart _ _ refl refl same

pub reach_none : (behind : List (List ℕ)) → ((prefix : Prefix) (cost : ℕ) → ¬ (IsReach behind prefix cost)) → SayNone (codes "reach" ∷ behind)
reach_none behind none = says_none (codes "reach") behind each
  where
    each : (command : Command) → codes "reach" ≡ word_of command → ¬ (AreBehind command behind)
    each (AddPeer slot peer) same is = apart _ _ refl refl same
    each (RemovePeer slot) same is = apart _ _ refl refl same
    each (Enable slot) same is = apart _ _ refl refl same
    each (Disable slot) same is = apart _ _ refl refl same
    each (SetPolicy name rules) same is = apart _ _ refl refl same
    each (DropPolicy name) same is = apart _ _ refl refl same
    each (UseIn slot policy) same is = apart _ _ refl refl same
    each (UseOut slot policy) same is = apart _ _ refl refl same
    each (Network prefix) same is = apart _ _ refl refl same
    each (NoNetwork prefix) same is = apart _ _ refl refl same
    each (Reach prefix cost) same is = none prefix cost is
    each (NoReach prefix) same is = apart _ _ refl refl same
    each (Filter prefix asn) same is = apart _ _ refl refl same
    each (NoFilter prefix asn) same is = apart _ _ refl refl same
    each (Assert prefix max_len asn) same is = apart _ _ refl refl same
    each (NoAssert prefix max_len asn) same is = apart _ _ refl refl same

pub noreach_none : (behind : List (List ℕ)) → ((prefix : Prefix) → ¬ (IsPrefixWord behind prefix)) → SayNone (codes "noreach" ∷ behind)
noreach_none behind none = says_none (codes "noreach") behind each
  where
    each : (command : Command) → codes "noreach" ≡ word_of command → ¬ (AreBehind command behind)
    each (AddPeer slot peer) same is = apart _ _ refl refl same
    each (RemovePeer slot) same is = apart _ _ refl refl same
    each (Enable slot) same is = apart _ _ refl refl same
    each (Disable slot) same is = apart _ _ refl refl same
    each (SetPolicy name rules) same is = apart _ _ refl refl same
    each (DropPolicy name) same is = apart _ _ refl refl same
    each (UseIn slot policy) same is = apart _ _ refl refl same
    each (UseOut slot policy) same is = apart _ _ refl refl same
    each (Network prefix) same is = apart _ _ refl refl same
    each (NoNetwork prefix) same is = apart _ _ refl refl same
    each (Reach prefix cost) same is = apart _ _ refl refl same
    each (NoReach prefix) same is = none prefix is
    each (Filter prefix asn) same is = apart _ _ refl refl same
    each (NoFilter prefix asn) same is = apart _ _ refl refl same
    each (Assert prefix max_len asn) same is = apart _ _ refl refl same
    each (NoAssert prefix max_len asn) same is = apart _ _ refl refl same

pub filter_none : (behind : List (List ℕ)) → ((prefix : Option Prefix) (asn : Option Asn) → ¬ (IsFilter behind prefix asn)) → SayNone (codes "filter" ∷ behind)
filter_none behind none = says_none (codes "filter") behind each
  where
    each : (command : Command) → codes "filter" ≡ word_of command → ¬ (AreBehind command behind)
    each (AddPeer slot peer) same is = apart _ _ refl refl same
    each (RemovePeer slot) same is = apart _ _ refl refl same
    each (Enable slot) same is = apart _ _ refl refl same
    each (Disable slot) same is = apart _ _ refl refl same
    each (SetPolicy name rules) same is = apart _ _ refl refl same
    each (DropPolicy name) same is = apart _ _ refl refl same
    each (UseIn slot policy) same is = apart _ _ refl refl same
    each (UseOut slot policy) same is = apart _ _ refl refl same
    each (Network prefix) same is = apart _ _ refl refl same
    each (NoNetwork prefix) same is = apart _ _ refl refl same
    each (Reach prefix cost) same is = apart _ _ refl refl same
    each (NoReach prefix) same is = apart _ _ refl refl same
    each (Filter prefix asn) same is = none prefix asn is
    each (NoFilter prefix asn) same is = apart _ _ refl refl same
    each (Assert prefix max_len asn) same is = apart _ _ refl refl same
    each (NoAssert prefix max_len asn) same is = apart _ _ refl refl same

pub nofilter_none : (behind : List (List ℕ)) → ((prefix : Option Prefix) (asn : Option Asn) → ¬ (IsFilter behind prefix asn)) → SayNone (codes "nofilter" ∷ behind)
nofilter_none behind none = says_none (codes "nofilter") behind each
  where
    each : (command : Command) → codes "nofilter" ≡ word_of command → ¬ (AreBehind command behind)
    each (AddPeer slot peer) same is = apart _ _ refl refl same
    each (RemovePeer slot) same is = apart _ _ refl refl same
    each (Enable slot) same is = apart _ _ refl refl same
    each (Disable slot) same is = apart _ _ refl refl same
    each (SetPolicy name rules) same is = apart _ _ refl refl same
    each (DropPolicy name) same is = apart _ _ refl refl same
    each (UseIn slot policy) same is = apart _ _ refl refl same
    each (UseOut slot policy) same is = apart _ _ refl refl same
    each (Network prefix) same is = apart _ _ refl refl same
    each (NoNetwork prefix) same is = apart _ _ refl refl same
    each (Reach prefix cost) same is = apart _ _ refl refl same
    each (NoReach prefix) same is = apart _ _ refl refl same
    each (Filter prefix asn) same is = apart _ _ refl refl same
    each (NoFilter prefix asn) same is = none prefix asn is
    each (Assert prefix max_len asn) same is = apart _ _ refl refl same
    each (NoAssert prefix max_len asn) same is = apart _ _ refl refl same

pub assert_none : (behind : List (List ℕ)) → ((prefix : Prefix) (max_len : ℕ) (asn : Asn) → ¬ (IsAssertion behind prefix max_len asn)) → SayNone (codes "assert" ∷ behind)
assert_none behind none = says_none (codes "assert") behind each
  where
    each : (command : Command) → codes "assert" ≡ word_of command → ¬ (AreBehind command behind)
    each (AddPeer slot peer) same is = apart _ _ refl refl same
    each (RemovePeer slot) same is = apart _ _ refl refl same
    each (Enable slot) same is = apart _ _ refl refl same
    each (Disable slot) same is = apart _ _ refl refl same
    each (SetPolicy name rules) same is = apart _ _ refl refl same
    each (DropPolicy name) same is = apart _ _ refl refl same
    each (UseIn slot policy) same is = apart _ _ refl refl same
    each (UseOut slot policy) same is = apart _ _ refl refl same
    each (Network prefix) same is = apart _ _ refl refl same
    each (NoNetwork prefix) same is = apart _ _ refl refl same
    each (Reach prefix cost) same is = apart _ _ refl refl same
    each (NoReach prefix) same is = apart _ _ refl refl same
    each (Filter prefix asn) same is = apart _ _ refl refl same
    each (NoFilter prefix asn) same is = apart _ _ refl refl same
    each (Assert prefix max_len asn) same is = none prefix max_len asn is
    each (NoAssert prefix max_len asn) same is = apart _ _ refl refl same

pub noassert_none : (behind : List (List ℕ)) → ((prefix : Prefix) (max_len : ℕ) (asn : Asn) → ¬ (IsAssertion behind prefix max_len asn)) → SayNone (codes "noassert" ∷ behind)
noassert_none behind none = says_none (codes "noassert") behind each
  where
    each : (command : Command) → codes "noassert" ≡ word_of command → ¬ (AreBehind command behind)
    each (AddPeer slot peer) same is = apart _ _ refl refl same
    each (RemovePeer slot) same is = apart _ _ refl refl same
    each (Enable slot) same is = apart _ _ refl refl same
    each (Disable slot) same is = apart _ _ refl refl same
    each (SetPolicy name rules) same is = apart _ _ refl refl same
    each (DropPolicy name) same is = apart _ _ refl refl same
    each (UseIn slot policy) same is = apart _ _ refl refl same
    each (UseOut slot policy) same is = apart _ _ refl refl same
    each (Network prefix) same is = apart _ _ refl refl same
    each (NoNetwork prefix) same is = apart _ _ refl refl same
    each (Reach prefix cost) same is = apart _ _ refl refl same
    each (NoReach prefix) same is = apart _ _ refl refl same
    each (Filter prefix asn) same is = apart _ _ refl refl same
    each (NoFilter prefix asn) same is = apart _ _ refl refl same
    each (Assert prefix max_len asn) same is = apart _ _ refl refl same
    each (NoAssert prefix max_len asn) same is = none prefix max_len asn is
