use Rattle.bgp_msg.proofs.OpenFaults.{form_from_parts, parts_from_form}
use Rattle.bgp_msg.proofs.open_message.only_parts.Goals as goal

pub returns : goal.returns
returns c octets parts = (form_from_parts octets parts, parts_from_form octets parts)
