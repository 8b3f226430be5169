-- The names of the states (RFC 4271 section 8.2.2).
use Rattle.std.specs.Prelude.{ℕ, List, codes}
use Rattle.bgp_fsm.specs.declared.state.State.{State}
use Rattle.bgp_fsm.specs.declared.state.State.TheVariants.{Idle, Connect, Active, OpenSent, OpenConfirm, Established}

-- the text of a state's name
abbrev pub name_of : State → List ℕ
name_of Idle = codes "Idle"
name_of Connect = codes "Connect"
name_of Active = codes "Active"
name_of OpenSent = codes "OpenSent"
name_of OpenConfirm = codes "OpenConfirm"
name_of Established = codes "Established"
