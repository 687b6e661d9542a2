-- WHAT A PANEL SAYS, in its own words: what `set`, `get`, `reading_of`, `class`, `role`, `label`, `members`, `lock` and
-- `unlock` tell, and what a walk finds of an object, is so of the device's objects, in each network in which the call
-- is made.
use Rattle.std.specs.Prelude.{[], ◌++◌, ◌≡◌, Err, List, None, Ok, Some, map, true, ℕ}
use Rattle.std.specs.List.{All, slice_get}
use Rattle.oca_promise.specs.Words.{Answer, AreInTime, AsksClass, AsksIn, ChangedNothing, Class, Describes, DeviceSizes}
use Rattle.oca_promise.specs.Words.{Fit, GetsValue, IsOfItsType, IsOfItsTypes, IsOfOneExecutionSince, IsRequestTo}
use Rattle.oca_promise.specs.Words.{IsTree, Network, Object, PanelState, Peer, ReadSo, Reading, Reads, ReadsBy}
use Rattle.oca_promise.specs.Words.{RequestFields, SetsObject, SetsValue, Setup, Start, Step, Total, Value, after_steps}
use Rattle.oca_promise.specs.Words.{answer_fields, are_apart, class_of_ono, class_of_value, class_with, done_answered}
use Rattle.oca_promise.specs.Words.{get_method, members, members_answered, object_of, objects_left, opening}
use Rattle.oca_promise.specs.Words.{text_answered, value_without_limits, with_object}
use Rattle.oca_types.specs.declared.class.Class.TheVariants as class
use Rattle.oca_model.specs.declared.request.Request.{Request as Asked}
use Rattle.oca_model.specs.declared.request.Request.TheVariants as asked
use Rattle.oca_control.specs.declared.outcome.Outcome.TheVariants as outcomes
use Rattle.oca_panel.specs.declared.trouble.Trouble.TheVariants as trouble
use Rattle.oca_promise.specs.Doings.{Doing, AreOfDevice, Plays}
use Rattle.oca_promise.specs.Calls.{OfAnAnswer, IsDoneByCall, KeepsInNetworks}

-- the device's objects at first are a tree, and their texts and numbers are of their types
abbrev pub IsRightAtFirst : List Object → Type 0
IsRightAtFirst tree = IsTree tree × All IsOfItsTypes tree

-- A call that asked this of the object with this number, as of an object of the class, was answered, and keeps it.
pub record CallKeeps (target : ℕ) (of : Class) (r : Asked) (Holds : OfAnAnswer) (old new : PanelState) : Type 0 where
  pub request : RequestFields
  pub asks : IsRequestTo target of r request
  pub handle : ℕ
  pub answer : Answer
  pub answered : AsksIn request old new (outcomes.Answered answer)
  pub keeps : KeepsInNetworks Holds request handle (answer_fields answer) [] old new

-- ---- SET: the object, where it is of the value's class, was set to the value by the only execution of the command,
-- which lies between the call and its return.
abbrev pub WasSetTo : ℕ → Value → OfAnAnswer
WasSetTo target value p c answer later called =
    IsRightAtFirst called.tree → class_of_ono called.tree target ≡ Some (class_of_value value) →
    (said : IsOfOneExecutionSince p c answer later called)
    × SetsObject target value said.execution.objects (objects_left said.between)

abbrev pub EverySetKeeps : Type 0
EverySetKeeps =
    (target : ℕ) (value : Value) (old new : PanelState) → IsOfItsType value → SetsValue target value old new (Ok tt) →
    CallKeeps target (class_of_value value) (asked.Set value) (WasSetTo target value) old new

-- ---- READING OF A CLASS: the object, where it is of that class, read so at a moment between the call and its return.
abbrev pub HadReading : ℕ → Class → Reading → OfAnAnswer
HadReading target of reading p c answer later called =
    IsRightAtFirst called.tree → class_of_ono called.tree target ≡ Some of → ReadSo target reading later called

abbrev pub EveryReadingKeeps : Type 0
EveryReadingKeeps =
    (target : ℕ) (of : Class) (reading : Reading) (old new : PanelState) →
    ReadsBy target of (get_method of) old new (Ok reading) →
    CallKeeps target of asked.Get (HadReading target of reading) old new

-- ---- LOCK AND UNLOCK: the object is locked for the peer, or its lock is taken off, and nothing else differs.
pub record LocksObject (p : Peer) (target : ℕ) (met left : List Object) : Type 0 where
  pub object : Object
  pub there : object_of met target ≡ Some object
  pub left_is : left ≡ with_object met (record object { lock = Some (record { kind = Total; holder = p }) })

pub record UnlocksObject (target : ℕ) (met left : List Object) : Type 0 where
  pub object : Object
  pub there : object_of met target ≡ Some object
  pub left_is : left ≡ with_object met (record object { lock = None })

abbrev pub WasLocked : ℕ → OfAnAnswer
WasLocked target p c answer later called = IsRightAtFirst called.tree →
    (said : IsOfOneExecutionSince p c answer later called)
    × LocksObject p target said.execution.objects (objects_left said.between)

abbrev pub WasUnlocked : ℕ → OfAnAnswer
WasUnlocked target p c answer later called = IsRightAtFirst called.tree →
    (said : IsOfOneExecutionSince p c answer later called)
    × UnlocksObject target said.execution.objects (objects_left said.between)

abbrev pub EveryLockKeeps : Type 0
EveryLockKeeps =
    (target : ℕ) (old new : PanelState) → Reads target class.Block asked.LockTotal done_answered old new (Ok tt) →
    CallKeeps target class.Block asked.LockTotal (WasLocked target) old new

abbrev pub EveryUnlockKeeps : Type 0
EveryUnlockKeeps =
    (target : ℕ) (old new : PanelState) → Reads target class.Block asked.Unlock done_answered old new (Ok tt) →
    CallKeeps target class.Block asked.Unlock (WasUnlocked target) old new

-- ---- REFUSED: nothing was changed by the call.
abbrev pub WasRefused : ℕ → OfAnAnswer
WasRefused status p c answer later called =
    (answer.status ≡ status)
    × ((said : IsOfOneExecutionSince p c answer later called)
    × ChangedNothing answer p said.execution (objects_left said.between))

abbrev pub EveryRefusedSetKeeps : Type 0
EveryRefusedSetKeeps =
    (target : ℕ) (value : Value) (status : ℕ) (old new : PanelState) →
    SetsValue target value old new (Err (trouble.Refused status)) →
    CallKeeps target (class_of_value value) (asked.Set value) (WasRefused status) old new

-- ---- GET: the first of its two calls asks the class, and that is the object's; in a network that plays the one and
-- then the other, the object read so, but for the limits, at a moment in the second.
abbrev pub HadClass : ℕ → Class → OfAnAnswer
HadClass target of p c answer later called = IsRightAtFirst called.tree → class_of_ono called.tree target ≡ Some of

abbrev pub EveryClassKeeps : Type 0
EveryClassKeeps =
    (target : ℕ) (of : Class) (old new : PanelState) → AsksClass target old new (Ok of) →
    CallKeeps target class.Block asked.GetClassIdentification (HadClass target of) old new

pub record GetKeeps (target : ℕ) (value : Value) (old new : PanelState) : Type 0 where
  pub of : Class
  pub reading : Reading
  pub value_is : value_without_limits reading ≡ value
  pub between : PanelState
  pub class_call : CallKeeps target class.Block asked.GetClassIdentification (HadClass target of) old between
  pub value_call : CallKeeps target of asked.Get (HadReading target of reading) between new
  pub read : (xs ys : List Doing)
      (class_done : IsDoneByCall class_call.request class_call.handle (answer_fields class_call.answer) xs old between)
      (value_done : IsDoneByCall value_call.request value_call.handle
      (answer_fields value_call.answer) ys between new) →
      AreOfDevice old.link.device class_done.done.deliveries →
      AreOfDevice between.link.device value_done.done.deliveries →
      (w : DeviceSizes) (s : Setup) (tree : List Object) (starts : List Start) (before one two : List Step) (i : ℕ)
      (p : Peer) →
      let start : Network = opening w s tree starts in
      let n : Network = after_steps before start in
      are_apart s.address starts ≡ true → Fit starts ((before ++ one) ++ two) →
      AreInTime s i [] ((before ++ one) ++ two) start →
      IsRightAtFirst tree → slice_get n.links i ≡ Some (record { peer = p; link = old.link }) →
      Plays i p n xs one → Plays i p (after_steps one n) ys two →
      ReadSo target reading two (after_steps one n)

abbrev pub EveryGetKeeps : Type 0
EveryGetKeeps =
    (target : ℕ) (value : Value) (old new : PanelState) → GetsValue target old new (Ok value) →
    GetKeeps target value old new

-- ---- ROLE AND LABEL: the text is that of the object as the only execution of the question, which lies between the
-- call and its return, met it.
abbrev pub HadText : (Object → List ℕ) → ℕ → List ℕ → OfAnAnswer
HadText text_of target text p c answer later called = IsRightAtFirst called.tree →
    (said : IsOfOneExecutionSince p c answer later called)
    × (object : Object) × (object_of said.execution.objects target ≡ Some object) × (text ≡ text_of object)

abbrev pub EveryTextKeeps : Asked → (Object → List ℕ) → Type 0
EveryTextKeeps question text_of =
    (target : ℕ) (text : List ℕ) (old new : PanelState) →
    Reads target class.Block question text_answered old new (Ok text) →
    CallKeeps target class.Block question (HadText text_of target text) old new

abbrev pub EveryRoleKeeps : Type 0
EveryRoleKeeps = EveryTextKeeps asked.GetRole (λ o. o.role)

abbrev pub EveryLabelKeeps : Type 0
EveryLabelKeeps = EveryTextKeeps asked.GetLabel (λ o. o.label)

-- ---- MEMBERS: the numbers are those of the block's members, in their order, as the only execution of the question met
-- them.
abbrev pub HadMembers : ℕ → List ℕ → OfAnAnswer
HadMembers target numbers p c answer later called =
    IsRightAtFirst called.tree → class_of_ono called.tree target ≡ Some class.Block →
    (said : IsOfOneExecutionSince p c answer later called)
    × (numbers ≡ map (λ o. o.ono.0) (members said.execution.objects target))

abbrev pub EveryMembersKeep : Type 0
EveryMembersKeep =
    (target : ℕ) (numbers : List ℕ) (old new : PanelState) →
    Reads target class.Block asked.GetMembers members_answered old new (Ok numbers) →
    CallKeeps target class.Block asked.GetMembers (HadMembers target numbers) old new

-- ---- WHAT A WALK FINDS of an object that it describes: the first call asks the class, and its fields are those of the
-- object's class; the second asks the role, and that is the object's.
abbrev pub HadFields : ℕ → List ℕ → OfAnAnswer
HadFields target fields p c answer later called =
    IsRightAtFirst called.tree → class_of_ono called.tree target ≡ class_with fields

pub record DescriptionKeeps (target : ℕ) (fields role : List ℕ) (old new : PanelState) : Type 0 where
  pub between : PanelState
  pub class_call : CallKeeps target class.Block asked.GetClassIdentification (HadFields target fields) old between
  pub role_call : CallKeeps target class.Block asked.GetRole (HadText (λ o. o.role) target role) between new

abbrev pub EveryDescriptionKeeps : Type 0
EveryDescriptionKeeps =
    (target : ℕ) (fields role : List ℕ) (old new : PanelState) → Describes target old new (Ok (fields, role)) →
    DescriptionKeeps target fields role old new
