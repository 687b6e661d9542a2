-- THE LAW OF WHAT A PANEL SAYS OF A DEVICE, over every schedule: where a link and the network are in time, each answer
-- to a command of the link is that of one execution, which lies between the call and its answer; and what it says is
-- what the device then held.
use Rattle.std.specs.Prelude.{[], ◌++◌, ◌∷◌, ◌≡◌, ◌≢◌, ◌⊎◌, Bool, List, Some, false, true, ℕ}
use Rattle.std.specs.List.{All, slice_get}
use Rattle.oca_pair.specs.Words.{AnswerFields, AskedBy, Class, CommandFields, DeviceSizes, Handle, IsCallFor}
use Rattle.oca_pair.specs.Words.{IsOfItsTypes, IsRequest, IsTree, Method, Object, Peer, Reading, Request, Value}
use Rattle.oca_pair.specs.Words.{answer_given, answer_in, answer_under, changed_by, changes, class_of, class_of_ono}
use Rattle.oca_pair.specs.Words.{class_of_value, command_under, execution, held_set_to, object_of, reading_held}
use Rattle.oca_pair.specs.Words.{reading_set_to, reply_of, status_number, status_of, value_without_limits, with_object}
use Rattle.oca_model.specs.declared.answer.Answer.TheVariants as answers
use Rattle.oca_model.specs.declared.request.Request.{Request as Asked}
use Rattle.oca_model.specs.declared.request.Request.TheVariants as asked
use Rattle.oca_device.specs.LawByEvents as law
use Rattle.oca_pair.specs.declared.outcome.Outcome.TheVariants as outcomes
use Rattle.oca_pair.specs.declared.start.Start.{Start}
use Rattle.oca_pair.specs.Networks.{Network, PeerLink, Setup, opening}
use Rattle.oca_pair.specs.Steps.{Step, Submit, ToDevice, Tick, after_step, after_steps, outcome_of_step}
use Rattle.oca_pair.specs.Happenings.{happenings}
use Rattle.oca_pair.specs.Premises.{are_apart, Fit}
use Rattle.oca_pair.specs.Laws.{Execution, executions_for, executions_under, answer_of, WasTaken, IsExecutedNow}
use Rattle.oca_pair.specs.GettingThrough.{copy_of}
use Rattle.oca_pair.specs.InTime.{AreInTime}

-- ---- what the device holds

-- the device's objects, by its law
abbrev pub objects_held : Network → List Object
objects_held n = law.objects n.tree (changes n.sizes (happenings n.events))

-- its objects when something comes to it at this moment: the locks of peers that lapsed till then are taken off
abbrev pub objects_met : ℕ → Network → List Object
objects_met now n = objects_held (after_step (Tick now) n)

-- ---- when a command is executed

-- THE EXECUTION HAPPENS with the delivery, at this moment, of this datagram: a copy of its command. It meets the
-- objects that the device then holds, and nothing else is executed. What it leaves the device holds.
pub record HappensWith (k now : ℕ) (p : Peer) (x : Execution) (n : Network) : Type 0 where
  pub copy : slice_get n.to_device k ≡ Some (copy_of p x.command)
  pub met : x.objects ≡ objects_met now n
  pub executed : IsExecutedNow k now p x n
  pub reply : x.reply ≡ reply_of x.objects p x.command
  pub left : (execution x.objects p x.command).tree ≡ objects_held (after_step (ToDevice k now) n)

-- It happens in one of these steps.
pub record HappensIn (p : Peer) (x : Execution) (steps : List Step) (n : Network) : Type 0 where
  pub first : List Step
  pub k : ℕ
  pub now : ℕ
  pub last : List Step
  pub steps_are : steps ≡ first ++ ToDevice k now ∷ last
  pub happens : HappensWith k now p x (after_steps first n)

-- ---- BETWEEN: the answer is that of the only execution of the command, and this happened in a step after the call.
pub record IsOfOneExecutionSince (p : Peer) (c : CommandFields) (answer : AnswerFields) (later : List Step)
    (called : Network) : Type 0 where
  pub execution : Execution
  pub command : execution.command ≡ c
  pub none_before : executions_under c.handle (executions_for p called) ≡ []
  pub only : executions_under c.handle (executions_for p (after_steps later called)) ≡ execution ∷ []
  pub between : HappensIn p execution later called
  pub answer_is : answer ≡ answer_of execution.reply

-- what the device holds just after it
abbrev pub objects_left : {p : Peer} {x : Execution} {steps : List Step} {n : Network} → HappensIn p x steps n →
    List Object
objects_left {p} {x} {steps} {n} at = objects_held (after_step (ToDevice at.k at.now) (after_steps at.first n))

-- ---- REFUSED: where the status is not OK, nothing was changed, and the status is the first that applies.
pub record ChangedNothing (answer : AnswerFields) (p : Peer) (x : Execution) (left : List Object) : Type 0 where
  pub same : left ≡ x.objects
  pub status : answer.status
      ≡ status_number (status_of x.objects p (object_of x.objects x.command.target) x.command)

abbrev pub RefusalsChangeNothing : Peer → CommandFields → AnswerFields → List Step → Network → Type 0
RefusalsChangeNothing p c answer later called = answer.status ≢ 0 →
    (said : IsOfOneExecutionSince p c answer later called) →
    ChangedNothing answer p said.execution (objects_left said.between)

-- ---- OK: where the status is OK, the answer says what the object that the device held answers, and the device holds
-- what the request makes of it.

-- every class answers it alike: the methods of OcaRoot and OcaWorker (AES70-2)
abbrev pub is_of_every_class : Asked → Bool
is_of_every_class asked.GetClassIdentification = true
is_of_every_class asked.GetLockable = true
is_of_every_class asked.LockTotal = true
is_of_every_class asked.LockReadonly = true
is_of_every_class asked.Unlock = true
is_of_every_class asked.GetRole = true
is_of_every_class asked.GetEnabled = true
is_of_every_class (asked.SetEnabled truth) = true
is_of_every_class asked.GetLabel = true
is_of_every_class (asked.SetLabel label) = true
is_of_every_class asked.GetOwner = true
is_of_every_class _ = false

-- The command asks this of an object of the class.
abbrev pub CommandAsks : Class → Asked → CommandFields → Type 0
CommandAsks of r c = IsRequest r
    × IsCallFor of r (record { method = record { level = c.level; index = c.index }; count = c.count }) c.params

-- What is read of the answer, as of an object of the class, is what the object answers; and these are the objects that
-- were met, with what the request makes of this one in its place.
pub record AnswersTyped (of : Class) (r : Asked) (answer : AnswerFields) (p : Peer) (x : Execution) (left : List Object)
    (o : Object) : Type 0 where
  pub said : (m : Method) → AskedBy of r m →
      answer_in of m answer.count answer.params ≡ Some (answer_given x.objects o r)
  pub left_is : left ≡ with_object x.objects (changed_by o p r)

-- The device held the object with this number, and where that is of the class, or every class answers alike, it
-- answers.
pub record IsAnsweredByItsObject (of : Class) (r : Asked) (target : ℕ) (answer : AnswerFields) (p : Peer)
    (x : Execution)
    (left : List Object) : Type 0 where
  pub object : Object
  pub there : object_of x.objects target ≡ Some object
  pub answers : (class_of object.value ≡ of) ⊎ (is_of_every_class r ≡ true) → AnswersTyped of r answer p x left object

-- The device's objects at first are a tree, and their texts and numbers are of their types.
abbrev pub OksSayWhatIsHeld : Peer → CommandFields → AnswerFields → List Step → Network → Type 0
OksSayWhatIsHeld p c answer later called = (of : Class) (r : Asked) → IsTree called.tree →
    All IsOfItsTypes called.tree →
    CommandAsks of r c → answer.status ≡ 0 → (said : IsOfOneExecutionSince p c answer later called) →
    IsAnsweredByItsObject of r c.target answer p said.execution (objects_left said.between)

-- ---- IN A PANEL'S WORDS

-- When a datagram came to the device in these steps, the object with this number read so, with its limits.
pub record ReadSo (target : ℕ) (reading : Reading) (steps : List Step) (n : Network) : Type 0 where
  pub first : List Step
  pub k : ℕ
  pub now : ℕ
  pub last : List Step
  pub steps_are : steps ≡ first ++ ToDevice k now ∷ last
  pub object : Object
  pub there : object_of (objects_met now (after_steps first n)) target ≡ Some object
  pub reads : reading_held object.value ≡ Some reading

-- READS: what is read of an OK answer to a get method, by the object's class, is what the object read at a moment
-- between the call and the answer.
abbrev pub ReadingsWereHeld : Peer → CommandFields → AnswerFields → List Step → Network → Type 0
ReadingsWereHeld p c answer later called =
    (of : Class) (m : Method) (reading : Reading) → IsTree called.tree → All IsOfItsTypes called.tree →
    class_of_ono called.tree c.target ≡ Some of → CommandAsks of asked.Get c → AskedBy of asked.Get m →
    answer.status ≡ 0 → answer_in of m answer.count answer.params ≡ Some (answers.Reading reading) →
    ReadSo c.target reading later called

-- The object with this number, which read so, is set to the value: nothing else of it differs, it reads as the value
-- with the limits that it had, and the other objects are as they were.
pub record SetsObject (target : ℕ) (value : Value) (met left : List Object) : Type 0 where
  pub object : Object
  pub there : object_of met target ≡ Some object
  pub reading : Reading
  pub read : reading_held object.value ≡ Some reading
  pub new : Object
  pub left_is : left ≡ with_object met new
  pub new_there : object_of left target ≡ Some new
  pub new_is : new ≡ record object { value = held_set_to object.value value }
  pub reads : reading_held new.value ≡ Some (reading_set_to reading value)
  pub value_is : value_without_limits (reading_set_to reading value) ≡ value

-- SETS: where the answer to a set method is OK, the only execution of the command set the object to the value.
abbrev pub SettingsWereMade : Peer → CommandFields → AnswerFields → List Step → Network → Type 0
SettingsWereMade p c answer later called =
    (value : Value) → IsTree called.tree → All IsOfItsTypes called.tree →
    class_of_ono called.tree c.target ≡ Some (class_of_value value) →
    CommandAsks (class_of_value value) (asked.Set value) c → answer.status ≡ 0 →
    (said : IsOfOneExecutionSince p c answer later called) →
    SetsObject c.target value said.execution.objects (objects_left said.between)

-- MET: the classes of the objects that the only execution met are those of the objects at first.
abbrev pub ClassesMetAreThoseAtFirst : Peer → CommandFields → AnswerFields → List Step → Network → Type 0
ClassesMetAreThoseAtFirst p c answer later called =
    (said : IsOfOneExecutionSince p c answer later called) (number : ℕ) →
    class_of_ono said.execution.objects number ≡ class_of_ono called.tree number

-- ---- over every schedule

-- Over every schedule, for all sizes: this holds of each answer that the link holds at the end, or gave, to a command
-- that it submitted in a step before.
abbrev pub OfEachAnswer : (Peer → CommandFields → AnswerFields → List Step → Network → Type 0) → Type 0
OfEachAnswer Holds =
    (w : DeviceSizes) (s : Setup) (tree : List Object) (starts : List Start) (before later : List Step) (i : ℕ)
    (l : PeerLink) (request : Request) (now : ℕ) (h : Handle) (answer : AnswerFields) →
    let start : Network = opening w s tree starts in
    let old : Network = after_steps before start in
    let called : Network = after_step (Submit i request now) old in
    let end : Network = after_steps later called in
    are_apart s.address starts ≡ true → Fit starts (before ++ Submit i request now ∷ later) →
    AreInTime s i [] (before ++ Submit i request now ∷ later) start →
    outcome_of_step (Submit i request now) old ≡ outcomes.Submitted h ∷ [] → slice_get end.links i ≡ Some l →
    (answer_under h.0 l.link.untaken ≡ Some answer) ⊎ WasTaken l.peer h.0 answer end.taken →
    Holds l.peer (command_under h.0 request) answer later called

-- ---- CLASS: over every schedule, the class of the object with a number is what it was at first, and there are no
-- other numbers.
abbrev pub ClassesStay : Type 0
ClassesStay =
    (w : DeviceSizes) (s : Setup) (tree : List Object) (starts : List Start) (steps : List Step) (number : ℕ) →
    class_of_ono (objects_held (after_steps steps (opening w s tree starts))) number ≡ class_of_ono tree number
