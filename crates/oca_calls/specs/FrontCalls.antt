-- What C sets at the local front panel of a device: a value, a label, whether an object is enabled, that no lock is on
-- it, or whether its hardware refuses to be changed.
use Rattle.std.specs.Prelude.{◌≡◌, IsUtf8, ℕ, List, ◌∷◌, Option, Some, None}
use Rattle.oca_types.specs.Sizes.{DeviceSizes}
use Rattle.oca_model.specs.declared.request.Request.{Request}
use Rattle.oca_model.specs.declared.request.Request.TheVariants as asked
use Rattle.oca_model.specs.declared.value.Value.{Value}
use Rattle.oca_tree.specs.declared.object.Object.{Object}
use Rattle.oca_tree.specs.Settings.{set_fault}
use Rattle.oca_tree.specs.LocalChanges.{LocalChange, ToValue, ToLabel, front_fault}
use Rattle.oca_tree.specs.declared.front.FrontFault.{FrontFault}
use Rattle.oca_device.specs.Events.{Event, Local}
use Rattle.oca_device.specs.States.{state_after}
use Rattle.oca_calls.specs.declared.answer.Answer.{Answer}
use Rattle.oca_calls.specs.declared.answer.Answer.TheVariants as answers
use Rattle.oca_calls.specs.declared.device.DeviceBehind.{DeviceBehind}
use Rattle.oca_calls.specs.declared.value_words.ValueWords.{ValueWords}
use Rattle.oca_calls.specs.Numbers.{answer_number, front_answer}
use Rattle.oca_calls.specs.Calls.{HandleRuns, RunsBehind, set_answers}
use Rattle.oca_calls.specs.CValues.{AreWordsOf}
use Rattle.oca_calls.specs.LinkRooms.{Rooms}

-- A device is set to a value, as a value of the object's class alone can be set, with this answer; where there is no
-- value, nothing is set.
abbrev pub SetsWords :
    Rooms → DeviceSizes → Answer → DeviceBehind → List Object → List Event → ℕ → Option Value → Type 0
SetsWords r w answer new tree events ono None = (answer ≡ answers.NoValue) × RunsBehind r w new tree events
SetsWords r w answer new tree events ono (Some value) =
    (answer ≡ set_answers (set_fault (state_after w tree events).tree ono value))
    × RunsBehind r w new tree (Local ono (ToValue value) ∷ events)

-- the same behind an open handle
abbrev pub HandleSetsValue :
    Rooms → DeviceSizes → ℕ → Option DeviceBehind → List Object → List Event → ℕ → Option Value → Type 0
HandleSetsValue r w number new tree events ono None = (number ≡ 24) × HandleRuns r w new tree events
HandleSetsValue r w number new tree events ono (Some value) =
    (number ≡ answer_number (set_answers (set_fault (state_after w tree events).tree ono value)))
    × HandleRuns r w new tree (Local ono (ToValue value) ∷ events)

-- It is set to the value whose words these are.
abbrev pub HandleSetsWords : ℕ → Option DeviceBehind → Option DeviceBehind → ℕ → ValueWords → Type 0
HandleSetsWords number old new ono words =
    (r : Rooms) (w : DeviceSizes) (tree : List Object) (events : List Event) → HandleRuns r w old tree events →
    (value : Option Value) × AreWordsOf words value × HandleSetsValue r w number new tree events ono value

-- ---- a label, whether it is enabled, its lock, whether its hardware refuses

abbrev pub front_answers : Option FrontFault → Answer
front_answers None = answers.Done
front_answers (Some fault) = front_answer fault

-- A device was changed at its front, with this answer. A change that is refused changes nothing.
abbrev pub ChangesFront :
    Rooms → DeviceSizes → Answer → DeviceBehind → List Object → List Event → ℕ → LocalChange → Request → Type 0
ChangesFront r w answer new tree events ono change request =
    (answer ≡ front_answers (front_fault (state_after w tree events).tree ono request))
    × RunsBehind r w new tree (Local ono change ∷ events)

-- The same behind an open handle.
abbrev pub HandleChanges : ℕ → Option DeviceBehind → Option DeviceBehind → ℕ → LocalChange → Request → Type 0
HandleChanges number old new ono change request =
    (r : Rooms) (w : DeviceSizes) (tree : List Object) (events : List Event) → HandleRuns r w old tree events →
    HandleRuns r w new tree (Local ono change ∷ events)
    × (number ≡ answer_number (front_answers (front_fault (state_after w tree events).tree ono request)))

-- Behind an open handle a device gets a label; bytes that are no text in UTF-8 are none, and nothing is changed.
abbrev pub HandleLabels : ℕ → Option DeviceBehind → Option DeviceBehind → ℕ → List ℕ → Type 0
HandleLabels number old new ono label =
    (IsUtf8 label → HandleChanges number old new ono (ToLabel label) (asked.SetLabel label))
    × ((IsUtf8 label → ⊥) → (r : Rooms) (w : DeviceSizes) (tree : List Object) (events : List Event) →
    HandleRuns r w old tree events → (number ≡ 6) × HandleRuns r w new tree events)
