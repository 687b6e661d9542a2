-- A device that is in a state, seen as its parts.
use Rattle.oca_device.proofs.Words.{◌≡◌, ℕ, List, sym, subst, ap, ◌∙◌, Local, after_change, state_after, DeviceSizes, Object, Table, Effect, State, DeviceState, IsIn, LocalChange}
use Rattle.oca_device.specs.Devices.{Appends}

abbrev pub device_with : List Object → Table → List ℕ → List Effect → DeviceState
device_with tree sessions written effects = record { tree = tree; sessions = sessions; written = written; effects = effects }

pub parts_in : {most : ℕ} {written : List ℕ} {effects : List Effect} (tree : List Object) (sessions : Table) (d : DeviceState) (w : DeviceSizes) (s : State) → device_with tree sessions written effects ≡ d → IsIn most w d s →
    IsIn most w (device_with tree sessions written effects) s
parts_in {most} tree sessions d w s e h = subst (λ (x : DeviceState). IsIn most w x s) (sym e) h

-- what a device wrote to is what its parts say
pub written_in : {tree : List Object} {sessions : Table} {written : List ℕ} {effects : List Effect} {d : DeviceState} → device_with tree sessions written effects ≡ d → written ≡ d.written
written_in e = ap (λ (x : DeviceState). x.written) e

-- and what became of the commands
pub effects_in : {tree : List Object} {sessions : Table} {written : List ℕ} {effects : List Effect} {d : DeviceState} → device_with tree sessions written effects ≡ d → effects ≡ d.effects
effects_in e = ap (λ (x : DeviceState). x.effects) e

-- a change at the local front is appended
pub local_in : {written : List ℕ} {effects : List Effect} (room : ℕ) (tree new : List Object) (sessions : Table) (d : DeviceState) (ono : ℕ) (change : LocalChange) → device_with tree sessions written effects ≡ d →
    new ≡ after_change tree ono change → Appends room d (device_with new sessions written effects) (Local ono change)
local_in room tree new sessions d ono change e made = λ w T E h.
    let was = parts_in tree sessions d w (state_after w T E) e h.state in
    record {
      state = record { tree = made ∙ ap (λ (t : List Object). after_change t ono change) was.tree; sessions = was.sessions };
      written = written_in e ∙ h.written;
      effects = effects_in e ∙ h.effects;
    }
