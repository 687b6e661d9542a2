-- WHAT RUNNING A SCHEDULE ANSWERS.
use Rattle.std.specs.Prelude.{◌≡◌, Err, List, None, Ok, Result, Some, false, map, true, ℕ}
use Rattle.oca_pair.specs.Words.{DeviceSizes, Object, Represents, ToEnabled, ToFailing, ToLabel, ToUnlocked, ToValue}
use Rattle.oca_pair.specs.Words.{span_size}
use Rattle.oca_pair.specs.declared.fault.PairFault.{PairFault}
use Rattle.oca_pair.specs.declared.fault.PairFault.TheVariants as faults
use Rattle.oca_pair.specs.declared.pair.Transcript.{Transcript}
use Rattle.oca_pair.specs.declared.start.Start.{Start}
use Rattle.oca_pair.specs.declared.step.Step as declared
use Rattle.oca_pair.specs.declared.step.Step.TheVariants as given
use Rattle.oca_control.specs.Links.{request_with}
use Rattle.oca_pair.specs.Networks.{Network, run_setup, opening}
use Rattle.oca_pair.specs.Steps.{Step, Submit, Due, ToDevice, ToLink, Other, Tick, Local, Take, Renew, Beside}
use Rattle.oca_pair.specs.Steps.{after_steps, outcomes_of, first_missing}
use Rattle.oca_pair.specs.Premises.{are_apart}

-- a step without where its bytes lie in memory; the clock of a renewed link shows the time of all clocks
abbrev pub step_of : declared.Step → Step
step_of (given.Submit link target method count params now) =
    Submit link (request_with target method count params.now) now
step_of (given.Due link now) = Due link now
step_of (given.ToDevice k now) = ToDevice k now
step_of (given.ToLink k now) = ToLink k now
step_of (given.Other from bytes now) = Other from bytes.now now
step_of (given.Tick now) = Tick now
step_of (given.Local ono value) = Local ono.0 (ToValue value)
step_of (given.Label ono label) = Local ono.0 (ToLabel label.now)
step_of (given.Enable ono enabled) = Local ono.0 (ToEnabled enabled)
step_of (given.Unlock ono) = Local ono.0 ToUnlocked
step_of (given.Fail ono failing) = Local ono.0 (ToFailing failing)
step_of (given.Take link handle) = Take link handle.0
step_of (given.Renew link first span now) = Renew link first.0 (span_size span) now 0
step_of (given.Beside link now) = Beside link now

-- The transcript of the steps from a network on: its lists, one outcome for each step, and a device that represents
-- what came to it.
pub record IsTranscript (t : Transcript) (steps : List Step) (n : Network) : Type 0 where
  pub device : let last = after_steps steps n in Represents last.sizes t.device last.tree last.events
  pub to_device : t.to_device.items ≡ (after_steps steps n).to_device
  pub to_links : t.to_links.items ≡ (after_steps steps n).to_links
  pub log : t.log.items ≡ outcomes_of steps n

-- SamePeer comes exactly where starts are not apart, and BadStep is exactly the first step that names what is not
-- there.
abbrev pub IsRunOf : Result Transcript PairFault → List Start → List Step → Network → Type 0
IsRunOf (Ok t) starts steps n =
    (are_apart n.address starts ≡ true) × (first_missing steps n ≡ None) × IsTranscript t steps n
IsRunOf (Err faults.NoMemory) starts steps n = are_apart n.address starts ≡ true
IsRunOf (Err (faults.BadStep k)) starts steps n = (are_apart n.address starts ≡ true) × (first_missing steps n ≡ Some k)
IsRunOf (Err faults.SamePeer) starts steps n = are_apart n.address starts ≡ false

abbrev pub RunsSchedule : Result Transcript PairFault → DeviceSizes → ℕ → List Object → List Start →
    List declared.Step → Type 0
RunsSchedule result sizes span tree starts steps =
    IsRunOf result starts (map step_of steps) (opening sizes (run_setup span) tree starts)

-- the number of a fault
abbrev pub pair_fault_number : PairFault → ℕ
pair_fault_number faults.NoMemory = 1
pair_fault_number (faults.BadStep k) = 2
pair_fault_number faults.SamePeer = 3
