-- What is asked of objects in words: each is set, locked or unlocked once, and in time (AES70-2).
use Rattle.std.specs.Prelude.{◌≡◌, ◌⊎◌, ◌+◌, ◌<◌, ◌≤◌, ℕ, List, [], ◌∷◌, ◌++◌, Option, Some, None, Result, Ok, Err}
use Rattle.std.specs.List.{position}
use Rattle.std.specs.Str.{bytes_eq}
use Rattle.oca_types.specs.declared.class.Class.{Class}
use Rattle.oca_types.specs.declared.class.Class.TheVariants as class
use Rattle.oca_types.specs.declared.words.Handle.{Handle}
use Rattle.oca_script.specs.Escapes.{escaped}
use Rattle.oca_control.specs.Asking.{IsPresent}
use Rattle.oca_control.specs.Limits.{longest_life}
use Rattle.oca_control.specs.declared.fault.ControlFault.{ControlFault}
use Rattle.oca_control.specs.declared.fault.ControlFault.TheVariants as faults
use Rattle.oca_model.specs.declared.request.Request.TheVariants as requests
use Rattle.oca_model.specs.declared.value.Value.{Value}
use Rattle.oca_model.specs.declared.value.Value.TheVariants as values
use Rattle.oca_model.specs.Words.{IsRead}
use Rattle.oca_panel.specs.declared.trouble.Trouble.{Trouble}
use Rattle.oca_panel.specs.declared.trouble.Trouble.TheVariants as trouble
use Rattle.oca_panel.specs.Panels.{PanelState}
use Rattle.oca_panel.specs.Outcomes.{done_answered, names_answered}
use Rattle.oca_panel.specs.Objects.{AsksClass, BeginsSetting, Reads}
use Rattle.ocactl_cli.specs.declared.objects.LockAction.{LockAction}
use Rattle.ocactl_cli.specs.declared.objects.LockAction.TheVariants as action

-- ---- a word for a value

abbrev pub found_position : Option ℕ → Result Value Trouble
found_position None = Err trouble.NoSuchWord
found_position (Some n) = Ok (values.Switch n)

-- the first position whose name is printed so
abbrev pub position_of : List ℕ → Result (List (List ℕ)) Trouble → Result Value Trouble
position_of word (Ok names) = found_position (position (λ name. bytes_eq (escaped name) word) names)
position_of word (Err t) = Err t

abbrev pub FindsPosition : ℕ → List ℕ → PanelState → PanelState → Result Value Trouble → Type 0
FindsPosition target word old new result =
    (names : Result (List (List ℕ)) Trouble)
    × Reads target class.Switch requests.GetPositionNames names_answered old new names
    × (result ≡ position_of word names)

-- A word that is none of the class's: of a switch it may be the name of a position, by GetPositionNames.
abbrev pub FindsName : ℕ → List ℕ → Class → PanelState → PanelState → Result Value Trouble → Type 0
FindsName target word class.Block old new result = (new ≡ old) × (result ≡ Err trouble.NoValue)
FindsName target word class.Switch old new result = FindsPosition target word old new result
FindsName target word _ old new result = (new ≡ old) × (result ≡ Err trouble.NoSuchWord)

-- the value that a word of the class means, where it is one
abbrev pub FindsBy : ℕ → List ℕ → Class → Option Value → PanelState → PanelState → Result Value Trouble → Type 0
FindsBy target word of None old new result = FindsName target word of old new result
FindsBy target word of (Some v) old new result = (new ≡ old) × (result ≡ Ok v)

abbrev pub FindsFor : ℕ → List ℕ → Result Class Trouble → PanelState → PanelState → Result Value Trouble → Type 0
FindsFor target word (Ok of) old new result =
    (found : Option Value) × IsRead of word found × FindsBy target word of found old new result
FindsFor target word (Err t) old new result = (new ≡ old) × (result ≡ Err t)

-- THE VALUE THAT A WORD NAMES of an object: its class was asked first, and of a switch maybe the names of its
-- positions.
abbrev pub FindsValue : ℕ → List ℕ → PanelState → PanelState → Result Value Trouble → Type 0
FindsValue target word old new result =
    (s : PanelState) × (of : Result Class Trouble) × AsksClass target old s of × FindsFor target word of s new result

-- ---- commands in time

-- The present moment is at most so long after this one, of the command before, as a command may take to leave.
pub record IsSoonBehind (since now : ℕ) (s : PanelState) : Type 0 where
  pub present : IsPresent now s.end_state
  pub in_time : now ≤ since + longest_life

-- The present moment is later than that.
pub record IsLate (since : ℕ) (s : PanelState) : Type 0 where
  pub now : ℕ
  pub present : IsPresent now s.end_state
  pub late : since + longest_life < now

-- A command came late behind this moment: nothing was submitted.
abbrev pub LeavesOut : (since : ℕ) → PanelState → PanelState → Type 0
LeavesOut since old new = IsLate since old × (new ≡ old)

-- ---- objects that are set

-- The value that a word names was sought, in time behind the question before it; or that came late, and nothing was
-- asked.
abbrev pub FindsInTime : (since now : ℕ) → ℕ × List ℕ → PanelState → PanelState → Result Value Trouble → Type 0
FindsInTime since now pair old new result =
    (IsSoonBehind since now old × FindsValue pair.0 pair.1 old new result)
    ⊎ ((now ≡ since) × (result ≡ Err (trouble.NotSubmitted faults.Lost)) × LeavesOut since old new)

-- The command that sets an object was submitted once, in time behind the command before it, or the link refused it; or
-- it came late, and nothing was submitted.
abbrev pub BeginsSet : (since now : ℕ) → ℕ × Value → Result Handle ControlFault → PanelState → PanelState → Type 0
BeginsSet since now assignment returned old new =
    (IsSoonBehind since now old × BeginsSetting assignment.0 assignment.1 returned old new)
    ⊎ ((now ≡ since) × (returned ≡ Err faults.Lost) × LeavesOut since old new)

-- ---- objects that are locked

-- An object was locked or unlocked, by LockTotal or Unlock, once.
abbrev pub AsksLock : LockAction → ℕ → PanelState → PanelState → Result Unit Trouble → Type 0
AsksLock action.Lock target old new done = Reads target class.Block requests.LockTotal done_answered old new done
AsksLock action.Unlock target old new done = Reads target class.Block requests.Unlock done_answered old new done

-- It was asked in time behind the command before it; or it came late, and nothing was asked.
abbrev pub LocksBehind : (since now : ℕ) → LockAction → (target : ℕ) → PanelState → PanelState
    → Result Unit Trouble → Type 0
LocksBehind since now locks target old new done =
    (IsSoonBehind since now old × AsksLock locks target old new done)
    ⊎ ((now ≡ since) × (done ≡ Err (trouble.NotSubmitted faults.Lost)) × LeavesOut since old new)
