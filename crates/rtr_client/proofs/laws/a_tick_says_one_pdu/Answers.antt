use Rattle.rtr_client.proofs.Ticks.{ticks_say_one}
use Rattle.rtr_client.proofs.laws.a_tick_says_one_pdu.Goals as goal

pub returns : goal.returns
returns c = ticks_say_one
