-- COMMANDS IN FLIGHT: one call of a panel begins a command, another one takes its answer, and other calls lie between:
-- for other commands, or earlier waits for this one.
use Rattle.std.specs.Prelude.{[], ◌++◌, ◌∷◌, ◌≡◌, ◌⊎◌, Bool, Err, List, Ok, Result, Some, true, ℕ}
use Rattle.oca_promise.specs.Words.{Answer, AskedBy, BeginsIn, Class, ControlFault, FinishesIn, Handle, IsOfItsType}
use Rattle.oca_promise.specs.Words.{IsOfOneExecutionSince, IsRequest, IsRequestTo, Method, Object, Outcome, PanelState}
use Rattle.oca_promise.specs.Words.{Reading, RequestFields, SettlesIn, TurnsOnce, Value, answer_fields, answer_given}
use Rattle.oca_promise.specs.Words.{changed_by, class_of_ono, class_of_value, done_answered, is_of_every_class}
use Rattle.oca_promise.specs.Words.{model_answered, object_of, objects_left, reading_answered, with_object}
use Rattle.oca_model.specs.declared.answer.Answer.{Answer as Typed}
use Rattle.oca_model.specs.declared.request.Request.{Request as Asked}
use Rattle.oca_model.specs.declared.request.Request.TheVariants as asked
use Rattle.oca_control.specs.declared.outcome.Outcome.TheVariants as outcomes
use Rattle.oca_promise.specs.Calls.{OfAnAnswer, NothingIsSentLate, KeepsInNetworks}
use Rattle.oca_promise.specs.Doings.{Doing, Submits, Takes}
use Rattle.oca_promise.specs.Promises.{IsRightAtFirst, WasSetTo, HadReading}

-- the command that was begun, where it got a handle
abbrev pub begun_by : RequestFields → ℕ → Result Handle ControlFault → List Doing
begun_by request now (Ok handle) = Submits request now ∷ []
begun_by request now (Err fault) = []

-- the answer that was taken, where one came
abbrev pub takes_by : ℕ → Outcome → List Doing
takes_by handle (outcomes.Answered a) = Takes handle ∷ []
takes_by handle _ = []

-- CALLS WERE MADE on a panel, one after another: each began a command, waited for one, looked one up, or took a turn.
-- What they began and took, in order.
pub data AreMade : (doings : List Doing) → (old new : PanelState) → Type 0 where
  NoCall : {s : PanelState} → AreMade [] s s
  OneBegins : {xs : List Doing} {old s new : PanelState} {request : RequestFields}
      {returned : Result Handle ControlFault} →
      AreMade xs old s → (begins : BeginsIn request returned s new) →
      AreMade (xs ++ begun_by request begins.begins.now returned) old new
  OneWaits : {xs : List Doing} {old s new : PanelState} {handle : ℕ} {outcome : Outcome} → AreMade xs old s →
      FinishesIn handle s new outcome → AreMade (xs ++ takes_by handle outcome) old new
  OneLooksUp : {xs : List Doing} {old s new : PanelState} {handle : ℕ} {outcome : Outcome} → AreMade xs old s →
      SettlesIn handle s new outcome → AreMade (xs ++ takes_by handle outcome) old new
  OneTurns : {xs : List Doing} {old s new : PanelState} {further : Bool} → AreMade xs old s →
      TurnsOnce s new further → AreMade xs old new

-- THE COMMAND WAS IN FLIGHT: it was begun and got this handle, calls were made meanwhile that began and took this, and
-- then it was waited for, or looked up, and came out so.
pub record WasInFlight (request : RequestFields) (handle : ℕ) (others : List Doing) (old new : PanelState)
    (outcome : Outcome) : Type 0 where
  pub begun : PanelState
  pub last : PanelState
  pub begins : BeginsIn request (Ok (record { 0 = handle })) old begun
  pub meanwhile : AreMade others begun last
  pub ends : FinishesIn handle last new outcome ⊎ SettlesIn handle last new outcome

-- Each command that was in flight, and to which an answer came, keeps it.
abbrev pub EveryAnsweredFlightKeeps : OfAnAnswer → Type 0
EveryAnsweredFlightKeeps Holds =
    (request : RequestFields) (handle : ℕ) (others : List Doing) (old new : PanelState) (a : Answer) →
    WasInFlight request handle others old new (outcomes.Answered a) →
    KeepsInNetworks Holds request handle (answer_fields a) others old new

-- However it came out, nothing was sent while the link was late.
abbrev pub EveryFlightIsInTime : Type 0
EveryFlightIsInTime =
    (request : RequestFields) (handle : ℕ) (others : List Doing) (old new : PanelState) (outcome : Outcome) →
    WasInFlight request handle others old new outcome → NothingIsSentLate old new

-- SET: where it says OK, the object, where it is of the value's class, was set to the value by the only execution of
-- the command, which lies between its begin and the taking of its answer.
abbrev pub EverySetInFlightKeeps : Type 0
EverySetInFlightKeeps =
    (target : ℕ) (value : Value) (request : RequestFields) (handle : ℕ) (others : List Doing) (old new : PanelState)
    (a : Answer) → IsOfItsType value → IsRequestTo target (class_of_value value) (asked.Set value) request →
    WasInFlight request handle others old new (outcomes.Answered a) → done_answered (outcomes.Answered a) ≡ Ok tt →
    KeepsInNetworks (WasSetTo target value) request handle (answer_fields a) others old new

-- READING: what is read of it by the object's class is how the object read at a moment between.
abbrev pub EveryReadingInFlightKeeps : Type 0
EveryReadingInFlightKeeps =
    (target : ℕ) (of : Class) (reading : Reading) (request : RequestFields) (handle : ℕ) (others : List Doing)
    (old new : PanelState) (a : Answer) → IsRequestTo target of asked.Get request →
    WasInFlight request handle others old new (outcomes.Answered a) →
    reading_answered of (outcomes.Answered a) ≡ Ok reading →
    KeepsInNetworks (HadReading target of reading) request handle (answer_fields a) others old new

-- ANY METHOD: what is read of it, by a class, is what the object as the only execution met it answers; and this
-- execution left what the request makes of the object, the others being as they were. The object is of the class, or
-- every class answers the request alike.
abbrev pub AnsweredSo : ℕ → Class → Asked → Typed → OfAnAnswer
AnsweredSo target of r typed p c answer later called =
    IsRightAtFirst called.tree → (class_of_ono called.tree target ≡ Some of) ⊎ (is_of_every_class r ≡ true) →
    (said : IsOfOneExecutionSince p c answer later called) × (object : Object)
    × (object_of said.execution.objects target ≡ Some object)
    × (typed ≡ answer_given said.execution.objects object r)
    × (objects_left said.between ≡ with_object said.execution.objects (changed_by object p r))

abbrev pub EveryAnswerInFlightKeeps : Type 0
EveryAnswerInFlightKeeps =
    (target : ℕ) (of : Class) (r : Asked) (m : Method) (typed : Typed) (request : RequestFields) (handle : ℕ)
    (others : List Doing) (old new : PanelState) (a : Answer) → IsRequest r → AskedBy of r m →
    IsRequestTo target of r request → WasInFlight request handle others old new (outcomes.Answered a) →
    model_answered of m (outcomes.Answered a) ≡ Ok typed →
    KeepsInNetworks (AnsweredSo target of r typed) request handle (answer_fields a) others old new
