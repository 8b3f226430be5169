use Rattle.bgp_conf.specs.declared.command.Command.TheVariants.{RemovePeer, Enable, Disable, DropPolicy, Network, NoNetwork, NoReach}
use Rattle.command_lines.proofs.FirstWords.{assert_none, disable_none, drop_none, enable_none, filter_none, network_none, noassert_none, nofilter_none, nonetwork_none, nopolicy_none, noreach_none, none_as, says_as, says_none, some_as}
use Rattle.command_lines.specs.CommandWords.{keyword_in}
use Rattle.command_lines.proofs.command_line.command.Goals as goal

pub returns-in_err-keyword : goal.returns-in_err-keyword
returns-in_err-keyword c = rw c.from_residual.ensures (λ other. says_none c.args.word.now _ (λ command same is. c.in_err-keyword.ensures (keyword_in command) same))

pub returns-in-Policy : goal.returns-in-Policy
returns-in-Policy c = λ other. absurd (other (rw c.in-Policy.is at c.in_ok-keyword.ensures))

pub returns-in-Peer : goal.returns-in-Peer
returns-in-Peer c = says_as c.args.word.now _ _ c.add_peer.result (rw c.in-Peer.is at c.in_ok-keyword.ensures) c.add_peer.ensures

pub returns-in-Use : goal.returns-in-Use
returns-in-Use c = says_as c.args.word.now _ _ c.use_policy.result (rw c.in-Use.is at c.in_ok-keyword.ensures) c.use_policy.ensures

pub returns-in-Reach : goal.returns-in-Reach
returns-in-Reach c = says_as c.args.word.now _ _ c.reach.result (rw c.in-Reach.is at c.in_ok-keyword.ensures) c.reach.ensures

pub returns-in_err-slot-in-Drop : goal.returns-in_err-slot-in-Drop
returns-in_err-slot-in-Drop c = rw c.from_residual-in_err-slot-in-Drop.ensures (none_as c.args.word.now _ _ (rw c.in-Drop.is at c.in_ok-keyword.ensures) (drop_none _ c.in_err-slot-in-Drop.ensures))

pub returns-in_ok-slot-in-Drop : goal.returns-in_ok-slot-in-Drop
returns-in_ok-slot-in-Drop c = some_as c.args.word.now _ (RemovePeer c.in_ok-slot-in-Drop.field-0) (rw c.in-Drop.is at c.in_ok-keyword.ensures) c.in_ok-slot-in-Drop.ensures

pub returns-in_err-slot-in-Enable : goal.returns-in_err-slot-in-Enable
returns-in_err-slot-in-Enable c = rw c.from_residual-in_err-slot-in-Enable.ensures (none_as c.args.word.now _ _ (rw c.in-Enable.is at c.in_ok-keyword.ensures) (enable_none _ c.in_err-slot-in-Enable.ensures))

pub returns-in_ok-slot-in-Enable : goal.returns-in_ok-slot-in-Enable
returns-in_ok-slot-in-Enable c = some_as c.args.word.now _ (Enable c.in_ok-slot-in-Enable.field-0) (rw c.in-Enable.is at c.in_ok-keyword.ensures) c.in_ok-slot-in-Enable.ensures

pub returns-in_err-slot-in-Disable : goal.returns-in_err-slot-in-Disable
returns-in_err-slot-in-Disable c = rw c.from_residual-in_err-slot-in-Disable.ensures (none_as c.args.word.now _ _ (rw c.in-Disable.is at c.in_ok-keyword.ensures) (disable_none _ c.in_err-slot-in-Disable.ensures))

pub returns-in_ok-slot-in-Disable : goal.returns-in_ok-slot-in-Disable
returns-in_ok-slot-in-Disable c = some_as c.args.word.now _ (Disable c.in_ok-slot-in-Disable.field-0) (rw c.in-Disable.is at c.in_ok-keyword.ensures) c.in_ok-slot-in-Disable.ensures

pub returns-in_err-name-in-NoPolicy : goal.returns-in_err-name-in-NoPolicy
returns-in_err-name-in-NoPolicy c = rw c.from_residual-in_err-name-in-NoPolicy.ensures (none_as c.args.word.now _ _ (rw c.in-NoPolicy.is at c.in_ok-keyword.ensures) (nopolicy_none _ c.in_err-name-in-NoPolicy.ensures))

pub returns-in_ok-name-in-NoPolicy : goal.returns-in_ok-name-in-NoPolicy
returns-in_ok-name-in-NoPolicy c = some_as c.args.word.now _ (DropPolicy c.in_ok-name-in-NoPolicy.field-0) (rw c.in-NoPolicy.is at c.in_ok-keyword.ensures) c.in_ok-name-in-NoPolicy.ensures

pub returns-in_err-prefix-in-Network : goal.returns-in_err-prefix-in-Network
returns-in_err-prefix-in-Network c = rw c.from_residual-in_err-prefix-in-Network.ensures (none_as c.args.word.now _ _ (rw c.in-Network.is at c.in_ok-keyword.ensures) (network_none _ c.in_err-prefix-in-Network.ensures))

pub returns-in_ok-prefix-in-Network : goal.returns-in_ok-prefix-in-Network
returns-in_ok-prefix-in-Network c = some_as c.args.word.now _ (Network c.in_ok-prefix-in-Network.field-0) (rw c.in-Network.is at c.in_ok-keyword.ensures) c.in_ok-prefix-in-Network.ensures

pub returns-in_err-prefix-in-NoNetwork : goal.returns-in_err-prefix-in-NoNetwork
returns-in_err-prefix-in-NoNetwork c = rw c.from_residual-in_err-prefix-in-NoNetwork.ensures (none_as c.args.word.now _ _ (rw c.in-NoNetwork.is at c.in_ok-keyword.ensures) (nonetwork_none _ c.in_err-prefix-in-NoNetwork.ensures))

pub returns-in_ok-prefix-in-NoNetwork : goal.returns-in_ok-prefix-in-NoNetwork
returns-in_ok-prefix-in-NoNetwork c = some_as c.args.word.now _ (NoNetwork c.in_ok-prefix-in-NoNetwork.field-0) (rw c.in-NoNetwork.is at c.in_ok-keyword.ensures) c.in_ok-prefix-in-NoNetwork.ensures

pub returns-in_err-prefix-in-NoReach : goal.returns-in_err-prefix-in-NoReach
returns-in_err-prefix-in-NoReach c = rw c.from_residual-in_err-prefix-in-NoReach.ensures (none_as c.args.word.now _ _ (rw c.in-NoReach.is at c.in_ok-keyword.ensures) (noreach_none _ c.in_err-prefix-in-NoReach.ensures))

pub returns-in_ok-prefix-in-NoReach : goal.returns-in_ok-prefix-in-NoReach
returns-in_ok-prefix-in-NoReach c = some_as c.args.word.now _ (NoReach c.in_ok-prefix-in-NoReach.field-0) (rw c.in-NoReach.is at c.in_ok-keyword.ensures) c.in_ok-prefix-in-NoReach.ensures

pub returns-in_err-prefix-in-Filter : goal.returns-in_err-prefix-in-Filter
returns-in_err-prefix-in-Filter c = rw c.from_residual-in_err-prefix-in-Filter.ensures (none_as c.args.word.now _ _ (rw c.in-Filter.is at c.in_ok-keyword.ensures) (filter_none _ (λ prefix asn. c.in_err-prefix-in-Filter.ensures (prefix, asn))))

pub returns-in_err-prefix-in-NoFilter : goal.returns-in_err-prefix-in-NoFilter
returns-in_err-prefix-in-NoFilter c = rw c.from_residual-in_err-prefix-in-NoFilter.ensures (none_as c.args.word.now _ _ (rw c.in-NoFilter.is at c.in_ok-keyword.ensures) (nofilter_none _ (λ prefix asn. c.in_err-prefix-in-NoFilter.ensures (prefix, asn))))

pub returns-in_err-prefix-in-Assert : goal.returns-in_err-prefix-in-Assert
returns-in_err-prefix-in-Assert c = rw c.from_residual-in_err-prefix-in-Assert.ensures (none_as c.args.word.now _ _ (rw c.in-Assert.is at c.in_ok-keyword.ensures) (assert_none _ (λ prefix max_len asn. c.in_err-prefix-in-Assert.ensures (prefix, max_len, asn))))

pub returns-in_err-prefix-in-NoAssert : goal.returns-in_err-prefix-in-NoAssert
returns-in_err-prefix-in-NoAssert c = rw c.from_residual-in_err-prefix-in-NoAssert.ensures (none_as c.args.word.now _ _ (rw c.in-NoAssert.is at c.in_ok-keyword.ensures) (noassert_none _ (λ prefix max_len asn. c.in_err-prefix-in-NoAssert.ensures (prefix, max_len, asn))))
