use Rattle.bgp_msg.proofs.WrittenMessages.{open_first, open_hold_time, open_identifier, open_asn, open_faultless}
use Rattle.bgp_msg.proofs.stream.open_is_read.Goals as goal

pub returns-clause-message : goal.returns-clause-message
returns-clause-message c multiprotocol asn hold_time identifier = open_first multiprotocol asn hold_time identifier

pub returns-clause-hold_time : goal.returns-clause-hold_time
returns-clause-hold_time c multiprotocol asn hold_time identifier small = open_hold_time multiprotocol asn hold_time identifier small

pub returns-clause-identifier : goal.returns-clause-identifier
returns-clause-identifier c multiprotocol asn hold_time identifier small = open_identifier multiprotocol asn hold_time identifier small

pub returns-clause-asn : goal.returns-clause-asn
returns-clause-asn c multiprotocol asn hold_time identifier small = open_asn multiprotocol asn hold_time identifier small

pub returns-clause-faultless : goal.returns-clause-faultless
returns-clause-faultless c multiprotocol asn hold_time identifier expected small small_time small_identifier same some other not_one not_two =
    open_faultless multiprotocol asn hold_time identifier expected small small_time small_identifier same some other not_one not_two
