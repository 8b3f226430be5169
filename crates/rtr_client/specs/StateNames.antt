-- The names of a client's states (our own).
use Rattle.std.specs.Prelude.{ℕ, List, codes}
use Rattle.rtr_client.specs.declared.state.ClientState.{ClientState}
use Rattle.rtr_client.specs.declared.state.ClientState.TheVariants.{Off, Opening, Asked, Loading, Synced, Wait}

-- the text of a state's name
abbrev pub name_of : ClientState → List ℕ
name_of Off = codes "Off"
name_of Opening = codes "Opening"
name_of Asked = codes "Asked"
name_of Loading = codes "Loading"
name_of Synced = codes "Synced"
name_of Wait = codes "Wait"
