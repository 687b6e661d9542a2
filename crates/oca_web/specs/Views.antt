-- What a view of a device does over its panel.
use Rattle.std.specs.Prelude.{◌≡◌, ℕ, ◌+◌, ◌-◌, min, max, nat_lt, Bool, true, false, Option, Some, None, Ok, List}
use Rattle.oca_types.specs.declared.words.Handle.{Handle}
use Rattle.oca_types.specs.declared.class.Class.{Class}
use Rattle.oca_types.specs.declared.words.Peer.{Peer}
use Rattle.oca_types.specs.declared.sizes.Span.{Span}
use Rattle.oca_types.specs.Sizes.{span_size}
use Rattle.oca_net.specs.Ends.{last_u64}
use Rattle.oca_control.specs.declared.report.DriveReport.{DriveReport}
use Rattle.oca_control.specs.declared.outcome.Outcome.{Outcome}
use Rattle.oca_panel.specs.Panels.{PanelState, MaySettle, SettlesIn}
use Rattle.oca_panel.specs.Renewals.{IsRenewed, TurnsWith}
use Rattle.oca_panel.specs.Beginnings.{BeginsAsking}
use Rattle.oca_web.specs.declared.question.Property.{Property}
use Rattle.oca_web.specs.declared.question.PendingQuestion.{PendingQuestion}
use Rattle.oca_web.specs.declared.object.Object.{Object}
use Rattle.oca_web.specs.Asking.{class_for, request_for}
use Rattle.oca_web.specs.Orders.{OrdersState, EndsUnsent, LosesOrders, SettlesOrders, SubmitsOrders, without_waiting}

-- THE PROGRAM'S CLOCK at a moment of the end, which it is so far ahead of: it never goes back.
abbrev pub moment_noted : (ahead moment before : ℕ) → ℕ
moment_noted ahead moment before = max before (min (ahead + moment) last_u64)

-- THE PROGRAM STOOD STILL where more than 2,000 ms passed since it looked at its clock before: nobody knows how long
-- what waits has done so.
abbrev pub stood_still : ℕ → ℕ → Bool
stood_still before now = nat_lt 2000 (now - before)

-- the orders then: none waits any longer
abbrev pub orders_after : Bool → OrdersState → OrdersState
orders_after true s = without_waiting s
orders_after false s = s

-- A TURN WAS TAKEN.
abbrev pub TurnsPanel : PanelState → PanelState → Type 0
TurnsPanel before after = (report : DriveReport) × TurnsWith report before after

-- ANSWERS WERE TAKEN, one after another, each under the handle of its command: nothing was sent.
pub data TakesAnswers : PanelState → PanelState → Type 0 where
  NoneTaken : {p : PanelState} → TakesAnswers p p
  OneTaken : {p q r : PanelState} (handle : ℕ) (outcome : Outcome) → TakesAnswers p q → SettlesIn handle q r outcome
      → TakesAnswers p r

-- THE ANSWER TO A QUESTION IN FLIGHT was taken under the handle of its own command, if it was there.
abbrev pub TakesAnswerOf : Option PendingQuestion → PanelState → PanelState → Type 0
TakesAnswerOf None before after = after ≡ before
TakesAnswerOf (Some asked) before after = (outcome : Option Outcome) × MaySettle outcome asked.handle.0 before after

-- A turn was taken. Then the results of orders that were answered were noted; what followed of it only took answers to
-- questions.
pub record TurnsAndSettles (old : OrdersState) (before : PanelState) (new : OrdersState) (after : PanelState) : Type 0 where
  pub turned : PanelState
  pub settled : PanelState
  pub turns : TurnsPanel before turned
  pub settles : SettlesOrders old turned new settled
  pub answers : TakesAnswers settled after

-- QUESTIONS WERE ASKED, one after another: each asks something to know an object, and sets nothing.
pub data AsksQuestions : PanelState → PanelState → Type 0 where
  NoneAsked : {p : PanelState} → AsksQuestions p p
  OneAsked : {p q r : PanelState} (ono : ℕ) (of : Option Class) (ask : Property) (handle : Handle) → AsksQuestions p q
      → BeginsAsking ono (class_for of) (request_for ask) (Ok handle) q r → AsksQuestions p r

-- the first handle of another link: the view's next one, but no lower than the one that the next command of the old
-- link would get
abbrev pub begins_behind : ℕ → Option ℕ → ℕ
begins_behind next None = next
begins_behind next (Some h) = max next h

-- Where the link is lost or late, all orders are noted as lost, and the panel goes on with another link to the same
-- device, with that first handle; else nothing changes.
pub record RenewsLost (device : Peer) (span : Span) (next : ℕ) (old : OrdersState) (before : PanelState) (new : OrdersState)
    (after : PanelState) : Type 0 where
  pub is_lost : Bool
  pub loses : LosesOrders is_lost before old new
  pub same : is_lost ≡ false → after ≡ before
  pub renews : is_lost ≡ true → IsRenewed device (begins_behind next before.link.next) (span_size span) before after

-- WHAT IS DONE BEHIND A TURN. Where the link is lost, all orders are noted as lost, and another one begins. Then orders
-- end that are never to be sent. Then those that wait are submitted, in their order, each once, in time, and for the
-- object that its page showed, by what is known. The program's clock is so far ahead of the end's. What follows only
-- asks questions.
pub record Continues (device : Peer) (span : Span) (next ahead : ℕ) (known : List Object) (old : OrdersState) (before : PanelState)
    (new : OrdersState) (after : PanelState) : Type 0 where
  pub lost : OrdersState
  pub renewed : PanelState
  pub ended : OrdersState
  pub submitted : PanelState
  pub renews : RenewsLost device span next old before lost renewed
  pub ends : EndsUnsent lost ended
  pub submits : SubmitsOrders ahead known ended renewed new submitted
  pub asks : AsksQuestions submitted after
