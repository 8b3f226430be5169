-- The command that words say (own).
use Rattle.std.specs.Prelude.{◌≡◌, ◌∷◌, [], ℕ, List, Option, None, Some, codes}
use Rattle.bgp_attr.specs.declared.peer.Mode.{Mode}
use Rattle.bgp_conf.specs.declared.command.Command.{Command}
use Rattle.bgp_conf.specs.declared.command.Command.TheVariants.{AddPeer, RemovePeer, Enable, Disable, SetPolicy, DropPolicy, UseIn, UseOut, Network, NoNetwork, Reach, NoReach, Filter, NoFilter, Assert, NoAssert}
use Rattle.bgp_conf.specs.declared.command.PeerConf.{PeerConf}
use Rattle.net_prefix.specs.PrefixText.{Writes}
use Rattle.net_prefix.specs.declared.asn.Asn.{Asn}
use Rattle.net_prefix.specs.declared.prefix.Prefix.{Prefix}
use Rattle.policy.specs.declared.rule.Rule.{Rule}
use Rattle.command_lines.specs.Keywords.{text_of}
use Rattle.command_lines.specs.RuleWords.{AreRules, rule_groups}
use Rattle.command_lines.specs.Words.{IsName, WritesAddress, WritesBits, mode_word}
use Rattle.command_lines.specs.declared.command_line.CommandLine.{CommandLine}
use Rattle.command_lines.specs.declared.keywords.Keyword.{Keyword}
use Rattle.command_lines.specs.declared.keywords.Keyword.TheVariants as word
use Rattle.command_lines.specs.declared.command_line.CommandLine.TheVariants.{Plain, SetPolicy as SetOwnPolicy}

-- the word writes the prefix
abbrev pub WritesPrefix : List ℕ → Prefix → Type 0
WritesPrefix word prefix = Writes word prefix.bits prefix.len

-- `active|passive HOLD IMPORT EXPORT`
abbrev pub AreTerms : List (List ℕ) → Mode → ℕ → List ℕ → List ℕ → Type 0
AreTerms words mode hold import export =
    (way : List ℕ) × (seconds : List ℕ) × (words ≡ way ∷ seconds ∷ import ∷ export ∷ []) × (way ≡ mode_word mode) × WritesBits 16 seconds hold
    × IsName import × IsName export

-- `AS ADDRESS LOCAL active|passive HOLD IMPORT EXPORT`
abbrev pub IsPeer : List (List ℕ) → PeerConf → Type 0
IsPeer words peer =
    (asn : List ℕ) × (address : List ℕ) × (local : List ℕ) × (terms : List (List ℕ)) × (words ≡ asn ∷ address ∷ local ∷ terms)
    × WritesBits 32 asn peer.asn.0 × WritesAddress address peer.address × WritesAddress local peer.local
    × AreTerms terms peer.mode peer.hold peer.import.now peer.export.now

-- a slot
abbrev pub IsSlot : List (List ℕ) → ℕ → Type 0
IsSlot words slot = (word : List ℕ) × (words ≡ word ∷ []) × WritesBits 8 word slot

-- a name
abbrev pub IsNamed : List (List ℕ) → List ℕ → Type 0
IsNamed words name = (words ≡ name ∷ []) × IsName name

-- `in` or `out`, a slot and a policy
abbrev pub IsUse : List ℕ → List (List ℕ) → ℕ → List ℕ → Type 0
IsUse way words slot policy = (word : List ℕ) × (words ≡ way ∷ word ∷ policy ∷ []) × WritesBits 8 word slot × IsName policy

-- a prefix
abbrev pub IsPrefixWord : List (List ℕ) → Prefix → Type 0
IsPrefixWord words prefix = (word : List ℕ) × (words ≡ word ∷ []) × WritesPrefix word prefix

-- a prefix and a cost
abbrev pub IsReach : List (List ℕ) → Prefix → ℕ → Type 0
IsReach words prefix cost = (word : List ℕ) × (number : List ℕ) × (words ≡ word ∷ number ∷ []) × WritesPrefix word prefix × WritesBits 32 number cost

-- an AS
abbrev pub IsAsWord : List (List ℕ) → Asn → Type 0
IsAsWord words asn = (word : List ℕ) × (words ≡ word ∷ []) × WritesBits 32 word asn.0

-- a prefix and an AS
abbrev pub IsPrefixAndAs : List (List ℕ) → Prefix → Asn → Type 0
IsPrefixAndAs words prefix asn = (word : List ℕ) × (number : List ℕ) × (words ≡ word ∷ number ∷ []) × WritesPrefix word prefix × WritesBits 32 number asn.0

-- `prefix P`, `as AS` or `both P AS`
abbrev pub IsFilter : List (List ℕ) → Option Prefix → Option Asn → Type 0
IsFilter words None None = ⊥
IsFilter words (Some prefix) None = (behind : List (List ℕ)) × (words ≡ codes "prefix" ∷ behind) × IsPrefixWord behind prefix
IsFilter words None (Some asn) = (behind : List (List ℕ)) × (words ≡ codes "as" ∷ behind) × IsAsWord behind asn
IsFilter words (Some prefix) (Some asn) = (behind : List (List ℕ)) × (words ≡ codes "both" ∷ behind) × IsPrefixAndAs behind prefix asn

-- a prefix, a maximum length and an AS
abbrev pub IsAssertion : List (List ℕ) → Prefix → ℕ → Asn → Type 0
IsAssertion words prefix max_len asn =
    (word : List ℕ) × (maximum : List ℕ) × (number : List ℕ) × (words ≡ word ∷ maximum ∷ number ∷ [])
    × WritesPrefix word prefix × WritesBits 8 maximum max_len × WritesBits 32 number asn.0

-- a slot, and what is said of its peer
abbrev pub IsSlotAndPeer : List (List ℕ) → ℕ → PeerConf → Type 0
IsSlotAndPeer words slot peer = (word : List ℕ) × (body : List (List ℕ)) × (words ≡ word ∷ body) × WritesBits 8 word slot × IsPeer body peer

-- `NAME RULE ; RULE ..`
abbrev pub IsPolicy : List (List ℕ) → List ℕ → List Rule → Type 0
IsPolicy words name rules = (body : List (List ℕ)) × (words ≡ name ∷ body) × IsName name × AreRules (rule_groups body) rules

-- the first word of a command
abbrev pub keyword_in : Command → Keyword
keyword_in (AddPeer slot peer) = word.Peer
keyword_in (RemovePeer slot) = word.Drop
keyword_in (Enable slot) = word.Enable
keyword_in (Disable slot) = word.Disable
keyword_in (SetPolicy name rules) = word.Policy
keyword_in (DropPolicy name) = word.NoPolicy
keyword_in (UseIn slot policy) = word.Use
keyword_in (UseOut slot policy) = word.Use
keyword_in (Network prefix) = word.Network
keyword_in (NoNetwork prefix) = word.NoNetwork
keyword_in (Reach prefix cost) = word.Reach
keyword_in (NoReach prefix) = word.NoReach
keyword_in (Filter prefix asn) = word.Filter
keyword_in (NoFilter prefix asn) = word.NoFilter
keyword_in (Assert prefix max_len asn) = word.Assert
keyword_in (NoAssert prefix max_len asn) = word.NoAssert

-- how it is spelled
abbrev pub word_of : Command → List ℕ
word_of command = text_of (keyword_in command)

-- the words behind its first one
abbrev pub AreBehind : Command → List (List ℕ) → Type 0
AreBehind (AddPeer slot peer) words = IsSlotAndPeer words slot peer
AreBehind (RemovePeer slot) words = IsSlot words slot
AreBehind (Enable slot) words = IsSlot words slot
AreBehind (Disable slot) words = IsSlot words slot
AreBehind (SetPolicy name rules) words = IsPolicy words name.now rules.now
AreBehind (DropPolicy name) words = IsNamed words name.now
AreBehind (UseIn slot policy) words = IsUse (codes "in") words slot policy.now
AreBehind (UseOut slot policy) words = IsUse (codes "out") words slot policy.now
AreBehind (Network prefix) words = IsPrefixWord words prefix
AreBehind (NoNetwork prefix) words = IsPrefixWord words prefix
AreBehind (Reach prefix cost) words = IsReach words prefix cost
AreBehind (NoReach prefix) words = IsPrefixWord words prefix
AreBehind (Filter prefix asn) words = IsFilter words prefix asn
AreBehind (NoFilter prefix asn) words = IsFilter words prefix asn
AreBehind (Assert prefix max_len asn) words = IsAssertion words prefix max_len asn
AreBehind (NoAssert prefix max_len asn) words = IsAssertion words prefix max_len asn

-- the words say this command
abbrev pub Says : List (List ℕ) → Command → Type 0
Says words command = (behind : List (List ℕ)) × (words ≡ word_of command ∷ behind) × AreBehind command behind

-- the words say no command
abbrev pub SayNone : List (List ℕ) → Type 0
SayNone words = (command : Command) → ¬ (Says words command)

-- the same as `Says` of a line that has been read
abbrev pub SaysLine : List (List ℕ) → CommandLine → Type 0
SaysLine words (Plain command) = Says words command
SaysLine words (SetOwnPolicy name rules) = (behind : List (List ℕ)) × (words ≡ codes "policy" ∷ behind) × IsPolicy behind name.now rules.items
