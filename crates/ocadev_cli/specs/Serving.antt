-- What a device does that is served by the program.
use Rattle.std.specs.Prelude.{Bool, false, [], Option, None, Some}
use Rattle.oca_net.specs.EndStates.{EndState}
use Rattle.oca_device.specs.declared.report.Report.{Report}
use Rattle.oca_device.specs.Devices.{DeviceState}
use Rattle.oca_device.specs.Following.{ElectronicsState, ServesLongWith}
use Rattle.oca_device.specs.Keeping.{ServesKeeping, StoreState}

abbrev pub no_electronics : ElectronicsState
no_electronics = record { tells = false; followed = [] }

-- whether something is not stored, and what a store says
pub record StoreNow : Type 0 where
  pub is_behind : Bool
  pub store : StoreState

-- A DEVICE SERVED AN END, with a store that was in this state or without one, and returned the report of that, as far
-- as 64 bits go.
abbrev pub ServesFrom : Option StoreNow → (old new : DeviceState) → (before after : EndState) → Report → Type 0
ServesFrom None old new before after returned = ServesLongWith old new before after no_electronics no_electronics returned
ServesFrom (Some had) old new before after returned = (has : StoreNow)
    × ServesKeeping had.is_behind has.is_behind old new before after no_electronics no_electronics had.store has.store returned
