-- Orders: what pages want done with objects, in the order in which they came.
use Rattle.std.specs.Prelude.{◌≡◌, ℕ, ◌+◌, ◌==◌, ◌||◌, ◌&&◌, Bool, true, false, if◌then◌else◌, List, [], ◌∷◌, ◌++◌}
use Rattle.std.specs.Prelude.{length, nat_le, nat_lt, ◌≤◌, drop, insert, remove, slice_get, Option, Some, None, Result, Ok, Err}
use Rattle.std.specs.List.{list_any, position}
use Rattle.oca_types.specs.declared.class.Class.{Class}
use Rattle.oca_types.specs.declared.class.Class.TheVariants as class
use Rattle.oca_types.specs.declared.words.Handle.{Handle}
use Rattle.oca_net.specs.Ends.{last_u64}
use Rattle.oca_control.specs.declared.fault.ControlFault.TheVariants as faults
use Rattle.oca_control.specs.declared.outcome.Outcome.{Outcome}
use Rattle.oca_control.specs.Asking.{IsPresent}
use Rattle.oca_model.specs.declared.request.Request.{Request}
use Rattle.oca_model.specs.declared.request.Request.TheVariants as requests
use Rattle.oca_model.specs.Values.{class_of_value}
use Rattle.oca_panel.specs.declared.trouble.Trouble.{Trouble}
use Rattle.oca_panel.specs.declared.trouble.Trouble.TheVariants as trouble
use Rattle.oca_panel.specs.Panels.{PanelState, SettlesIn}
use Rattle.oca_panel.specs.Outcomes.{done_answered}
use Rattle.oca_panel.specs.Beginnings.{BeginsAsking}
use Rattle.oca_panel.specs.Renewals.{IsFoundLost}
use Rattle.oca_web.specs.Labels.{IsTextOf}
use Rattle.oca_web.specs.declared.order.Action.{Action}
use Rattle.oca_web.specs.declared.order.Action.TheVariants as actions
use Rattle.oca_web.specs.declared.order.NotDone.{NotDone}
use Rattle.oca_web.specs.declared.order.NotDone.TheVariants as why
use Rattle.oca_web.specs.declared.order.Order.{Order}
use Rattle.oca_web.specs.declared.order.NewOrder.{NewOrder}
use Rattle.oca_web.specs.declared.order.OrderInFlight.{OrderInFlight}
use Rattle.oca_web.specs.declared.order.OrderResult.{OrderResult}
use Rattle.oca_web.specs.declared.orders.SettledOrder.{SettledOrder}
use Rattle.oca_web.specs.declared.object.Object.{Object}
use Rattle.oca_web.specs.Known.{is_confirmed}

-- The orders that wait, the first that came first; those in flight under their handles; how the last ones ended, by
-- their tickets; and the ticket of the last order.
pub record OrdersState : Type 0 where
  pub waiting : List Order
  pub in_flight : List OrderInFlight
  pub results : List OrderResult
  pub tickets : ℕ

abbrev pub no_orders : OrdersState
no_orders = record { waiting = []; in_flight = []; results = []; tickets = 0 }

-- whether an order waits, and whether one waits or is in flight
abbrev pub has_waiting : OrdersState → Bool
has_waiting s = nat_lt 0 (length s.waiting)

abbrev pub has_orders : OrdersState → Bool
has_orders s = has_waiting s || nat_lt 0 (length s.in_flight)

-- what is asked for an order, and of which class
abbrev pub class_asked : Action → Class
class_asked (actions.Set value) = class_of_value value
class_asked actions.Lock = class.Block
class_asked actions.Unlock = class.Block
class_asked (actions.Rename label) = class.Block

abbrev pub AsksOrdered : Action → Request → Type 0
AsksOrdered (actions.Set value) request = request ≡ requests.Set value
AsksOrdered actions.Lock request = request ≡ requests.LockTotal
AsksOrdered actions.Unlock request = request ≡ requests.Unlock
AsksOrdered (actions.Rename label) request = (text : List ℕ) × (request ≡ requests.SetLabel text) × IsTextOf label text

-- ---- an order comes

-- ONE ORDER WAS ADDED, behind all others, with the moment after which it must not be submitted, and a ticket of its
-- own: one more than that of the order before it.
abbrev pub order_added : NewOrder → ℕ → OrdersState → Order
order_added w last s = record { ticket = s.tickets + 1; ono = w.ono; identity = w.identity; action = w.action; last = last }

abbrev pub with_order : NewOrder → ℕ → OrdersState → OrdersState
with_order w last s = record s {
  waiting = s.waiting ++ order_added w last s ∷ [];
  tickets = s.tickets + 1;
}

-- MANY ORDERS WERE ADDED, in their order, each with the same last moment and a ticket of its own.
abbrev pub with_all : List NewOrder → ℕ → OrdersState → OrdersState
with_all [] last s = s
with_all (w ∷ ws) last s = with_all ws last (with_order w last s)

-- whether there is room for so many, and a ticket for each
abbrev pub has_room_for : ℕ → OrdersState → Bool
has_room_for n s = nat_le (length s.waiting + n) 256 && nat_lt (s.tickets + n) last_u64

-- Where there was room for all of them they were, and this is the ticket of the first; the others have those that
-- follow. Where there was not, none was.
abbrev pub AddsAll : List NewOrder → ℕ → OrdersState → Option ℕ → OrdersState → Type 0
AddsAll ws last old (Some first) new = (has_room_for (length ws) old ≡ true) × (first ≡ old.tickets + 1)
    × (new ≡ with_all ws last old)
AddsAll ws last old None new = (has_room_for (length ws) old ≡ false) × (new ≡ old)

-- ---- an order is submitted

-- an order of this object is in flight
abbrev pub is_in_flight : ℕ → List OrderInFlight → Bool
is_in_flight ono sent = list_any (λ s. s.order.ono.0 == ono) sent

-- THE ORDER THAT IS SUBMITTED NEXT is the first that waits, unless one of its object is in flight, or 32 are.
abbrev pub ready_of : List Order → List OrderInFlight → Option Order
ready_of [] sent = None
ready_of (o ∷ os) sent = if is_in_flight o.ono.0 sent || (length sent == 32) then None else Some o

-- THAT ORDER WAS SUBMITTED, once: it no longer waits, and is in flight under the handle of its command. It was so at a
-- moment not after its last one, and the device had said at most 2,000 ms before that its object is the one that the
-- page showed. The program's clock is so far ahead of the end's.
pub record SubmitsOrder (ahead : ℕ) (known : List Object) (old : OrdersState) (before : PanelState) (new : OrdersState) (after : PanelState) : Type 0
  where
    pub order : Order
    pub handle : Handle
    pub ready : ready_of old.waiting old.in_flight ≡ Some order
    pub first : old.waiting ≡ order ∷ new.waiting
    pub in_flight : new.in_flight ≡ old.in_flight ++ (record { handle = handle; order = order }) ∷ []
    pub results : new.results ≡ old.results
    pub tickets : new.tickets ≡ old.tickets
    pub now : ℕ
    pub present : IsPresent now before.end_state
    pub in_time : ahead + now ≤ order.last
    pub confirmed : is_confirmed (ahead + now) order known ≡ true
    pub request : Request
    pub is_for : AsksOrdered order.action request
    pub asks : BeginsAsking order.ono.0 (class_asked order.action) request (Ok handle) before after

-- whether one was submitted: where none was, nothing changed
abbrev pub SubmitsFirst : ℕ → List Object → Bool → OrdersState → PanelState → OrdersState → PanelState → Type 0
SubmitsFirst ahead known true old before new after = SubmitsOrder ahead known old before new after
SubmitsFirst ahead known false old before new after = (new ≡ old) × (after ≡ before)

-- ---- an order is answered

-- one more stands before the first that has a greater ticket, and else behind all
abbrev pub placed : Option ℕ → OrderResult → List OrderResult → List OrderResult
placed (Some at) t results = insert results at t
placed None t results = results ++ t ∷ []

abbrev pub by_ticket : OrderResult → List OrderResult → List OrderResult
by_ticket t results = placed (position (λ r. nat_lt t.ticket r.ticket) results) t results

-- what is kept of how orders ended, with one more: at most 512
abbrev pub with_result : List OrderResult → OrderResult → List OrderResult
with_result results t = by_ticket t (if length results == 512 then drop 1 results else results)

-- why its command was not carried out
abbrev pub not_done : Result Unit Trouble → Result Unit NotDone
not_done (Ok u) = Ok u
not_done (Err e) = Err (why.Trouble e)

-- how an order ended
abbrev pub result_of : Order → Result Unit NotDone → OrderResult
result_of order done = record { ticket = order.ticket; ono = order.ono; done = done }

-- AN ORDER IN FLIGHT CAME OUT SO, under its ticket: as the answer says that the link held under its handle, or
-- as lost where the link is lost and holds none.
pub record SettlesOrder (at : ℕ) (sent : OrderInFlight) (done : Result Unit Trouble) (old : OrdersState) (before : PanelState)
    (new : OrdersState) (after : PanelState) : Type 0 where
  pub stood : slice_get old.in_flight at ≡ Some sent
  pub outcome : Outcome
  pub settles : SettlesIn sent.handle.0 before after outcome
  pub answered : done ≡ done_answered outcome
  pub orders : new ≡ record old {
    in_flight = remove old.in_flight at;
    results = with_result old.results
        (result_of sent.order (not_done done));
  }

abbrev pub SettlesAt : ℕ → Option SettledOrder → OrdersState → PanelState → OrdersState → PanelState → Type 0
SettlesAt at (Some settled) old before new after = SettlesOrder at settled.sent settled.done old before new after
SettlesAt at None old before new after = (new ≡ old) × (after ≡ before)

-- ---- the link is lost

abbrev pub lost_result : OrderInFlight → OrderResult
lost_result sent = result_of sent.order (Err (why.Trouble trouble.Lost))

-- it was never sent, since the link was lost
abbrev pub link_was_lost : NotDone
link_was_lost = why.Trouble (trouble.NotSubmitted faults.Lost)

abbrev pub with_lost : List OrderInFlight → List OrderResult → List OrderResult
with_lost [] results = results
with_lost (s ∷ sent) results = with_lost sent (with_result results (lost_result s))

-- none of these was sent, for this reason
abbrev pub with_unsent : NotDone → List Order → List OrderResult → List OrderResult
with_unsent reason [] results = results
with_unsent reason (o ∷ orders) results = with_unsent reason orders (with_result results (result_of o (Err reason)))

-- ALL ORDERS ARE LOST with the link: those in flight, which may have been carried out, and those that wait, which were
-- never sent.
abbrev pub lost_orders : OrdersState → OrdersState
lost_orders s = record s {
  waiting = [];
  in_flight = [];
  results = with_unsent link_was_lost s.waiting
      (with_lost s.in_flight s.results);
}

-- They are lost where the link is lost, or late at the present moment, and only there.
abbrev pub LosesOrders : Bool → PanelState → OrdersState → OrdersState → Type 0
LosesOrders true p old new = IsFoundLost p true × (new ≡ lost_orders old)
LosesOrders false p old new = IsFoundLost p false × (new ≡ old)

-- ---- an order is never submitted

-- THE ORDER THAT WAITS AT THIS PLACE IS NEVER SUBMITTED: it waits no longer, and it is noted why.
abbrev pub without : (at : ℕ) → Order → NotDone → OrdersState → OrdersState
without at order reason s = record s {
  waiting = remove s.waiting at;
  results = with_result s.results (result_of order (Err reason));
}

abbrev pub EndsAt : (at : ℕ) → NotDone → Option Order → OrdersState → OrdersState → Type 0
EndsAt at reason None old new = new ≡ old
EndsAt at reason (Some order) old new = new ≡ without at order reason old

-- ORDERS ENDED UNSENT, one after another; all others are as they were.
pub data EndsUnsent : OrdersState → OrdersState → Type 0 where
  NoneEnds : {s : OrdersState} → EndsUnsent s s
  OneEnds : {s t : OrdersState} (at : ℕ) (order : Order) (reason : NotDone) → EndsUnsent s t
      → slice_get t.waiting at ≡ Some order → EndsUnsent s (without at order reason t)

-- THE PROGRAM STOOD STILL: no order waits any longer, and those that did were never sent; those in flight stay so.
abbrev pub without_waiting : OrdersState → OrdersState
without_waiting s = record s { waiting = []; results = with_unsent why.TooLate s.waiting s.results }

-- ---- one step after another

pub data Steps {S P : Type 0} (Step : S → P → S → P → Type 0) : S → P → S → P → Type 0 where
  NoStep : {s : S} {p : P} → Steps Step s p s p
  OneMore : {s t u : S} {p q r : P} → Steps Step s p t q → Step t q u r → Steps Step s p u r

-- ORDERS WERE SUBMITTED, in the order in which they came, each once, in time, and for the object that its page showed;
-- nothing else was asked.
abbrev pub SubmitsOrders : ℕ → List Object → OrdersState → PanelState → OrdersState → PanelState → Type 0
SubmitsOrders ahead known = Steps (SubmitsOrder ahead known)

-- WHAT TICKETS WERE TOLD: of one order after another, how it came out.
abbrev pub SettlesOne : OrdersState → PanelState → OrdersState → PanelState → Type 0
SettlesOne old before new after = (at : ℕ) × (sent : OrderInFlight) × (done : Result Unit Trouble)
    × SettlesOrder at sent done old before new after

abbrev pub SettlesOrders : OrdersState → PanelState → OrdersState → PanelState → Type 0
SettlesOrders = Steps SettlesOne
