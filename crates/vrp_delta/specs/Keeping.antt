-- What follows a set of payloads change by change (our own).
use Rattle.std.specs.Prelude.{◌≡◌, true, false, List, []}
use Rattle.net_prefix.specs.declared.payload.Vrp.{Vrp}
use Rattle.net_prefix.specs.PayloadSets.{IsPayloadSet, has}
use Rattle.vrp_delta.specs.Delta.{Change}

-- the change takes out what the set has, and puts in what it lacks; both lists rise
pub record IsChangeOf (set : List Vrp) (change : Change) : Type 0 where
  pub withdrawn_rises : IsPayloadSet change.withdrawn
  pub announced_rises : IsPayloadSet change.announced
  pub withdraws_known : (payload : Vrp) → has change.withdrawn payload ≡ true → has set payload ≡ true
  pub announces_unknown : (payload : Vrp) → has change.announced payload ≡ true → has set payload ≡ false

-- nothing leaves, and nothing comes
abbrev pub no_change : Change
no_change = record { withdrawn = []; announced = [] }
