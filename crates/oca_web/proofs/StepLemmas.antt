-- One step more.
use Rattle.std.proofs.Common.{◌≡◌, ℕ, List, Bool, true, false, Option, Some, None, Result, sym}
use Rattle.std.specs.Prelude.{slice_get}
use Rattle.oca_types.specs.declared.class.Class.{Class}
use Rattle.oca_types.specs.declared.words.Handle.{Handle}
use Rattle.oca_control.specs.declared.outcome.Outcome.{Outcome}
use Rattle.oca_panel.specs.declared.trouble.Trouble.{Trouble}
use Rattle.oca_panel.specs.Panels.{PanelState, MaySettle}
use Rattle.oca_web.specs.declared.question.Property.{Property}
use Rattle.oca_web.specs.declared.object.Object.{Object}
use Rattle.oca_web.specs.declared.order.NotDone.{NotDone}
use Rattle.oca_web.specs.declared.order.Order.{Order}
use Rattle.oca_web.specs.declared.orders.SettledOrder.{SettledOrder}
use Rattle.oca_types.specs.declared.words.Peer.{Peer}
use Rattle.oca_types.specs.declared.sizes.Span.{Span}
use Rattle.oca_web.specs.Asking.{AsksOne}
use Rattle.oca_web.specs.Views.{AsksQuestions, NoneAsked, OneAsked, TakesAnswers, NoneTaken, OneTaken}
use Rattle.oca_web.specs.Views.{Continues, RenewsLost, TurnsAndSettles, TurnsPanel}
use Rattle.oca_web.specs.Orders.{OrdersState, Steps, NoStep, OneMore, SubmitsOrder, SubmitsFirst, SettlesOne, SettlesAt, SettlesOrders, SubmitsOrders}
use Rattle.oca_web.specs.Orders.{EndsAt, EndsUnsent, NoneEnds, OneEnds}

-- ---- orders

pub none_submitted : (ahead : ℕ) (known : List Object) (s t : OrdersState) (p q : PanelState) → t ≡ s → q ≡ p
    → Steps (SubmitsOrder ahead known) s p t q
none_submitted ahead known s t p q e f = rw (e, f) NoStep

pub one_submitted : (ahead : ℕ) (known : List Object) (b : Bool) (s t u : OrdersState) (p q r : PanelState)
    → Steps (SubmitsOrder ahead known) s p t q → SubmitsFirst ahead known b t q u r → Steps (SubmitsOrder ahead known) s p u r
one_submitted ahead known true s t u p q r steps h = OneMore steps h
one_submitted ahead known false s t u p q r steps h = rw (h.0, h.1) steps

pub ruleset submit_rules = (none_submitted, one_submitted)

pub none_settles : (s t : OrdersState) (p q : PanelState) → t ≡ s → q ≡ p → Steps SettlesOne s p t q
none_settles s t p q e f = rw (e, f) NoStep

pub one_settles : (at : ℕ) (o : Option SettledOrder) (s t u : OrdersState) (p q r : PanelState)
    → Steps SettlesOne s p t q → SettlesAt at o t q u r → Steps SettlesOne s p u r
one_settles at (Some one) s t u p q r steps h = OneMore steps (at, one.sent, one.done, h)
one_settles at None s t u p q r steps h = rw (h.0, h.1) steps

pub ruleset settle_rules = (none_settles, one_settles)

pub none_ends : (s t : OrdersState) → t ≡ s → EndsUnsent s t
none_ends s t e = rw e NoneEnds

pub one_ends : (at : ℕ) (reason : NotDone) (o : Option Order) (s t u : OrdersState) → EndsUnsent s t → o ≡ slice_get t.waiting at
    → EndsAt at reason o t u → EndsUnsent s u
one_ends at reason (Some order) s t u ends there h = rw h (OneEnds at order reason ends (sym there))
one_ends at reason None s t u ends there h = rw h ends

pub ruleset ending_rules = (none_ends, one_ends)

-- ---- answers that are taken, and questions that are asked

pub takes_none : (p q : PanelState) → q ≡ p → TakesAnswers p q
takes_none p q e = rw e NoneTaken

pub takes_one : (handle : ℕ) (o : Option Outcome) (p q : PanelState) → MaySettle o handle p q → TakesAnswers p q
takes_one handle (Some outcome) p q h = OneTaken handle outcome NoneTaken h
takes_one handle None p q h = rw h.0 NoneTaken

pub takes_on : (p q r : PanelState) → TakesAnswers p q → TakesAnswers q r → TakesAnswers p r
takes_on p q r a NoneTaken = a
takes_on p q r a (OneTaken {q = s} handle outcome before one) = OneTaken handle outcome (takes_on p q s a before) one

pub ruleset answer_rules = (takes_none, takes_one, takes_on)

pub asks_none : (p q : PanelState) → q ≡ p → AsksQuestions p q
asks_none p q e = rw e NoneAsked

pub asks_one : (ono : ℕ) (of : Option Class) (ask : Property) (h : Option Handle) (p q : PanelState) → AsksOne ono of ask h p q → AsksQuestions p q
asks_one ono of ask (Some handle) p q h = OneAsked ono of ask handle NoneAsked h
asks_one ono of ask None p q h = rw h NoneAsked

pub asks_on : (p q r : PanelState) → AsksQuestions p q → AsksQuestions q r → AsksQuestions p r
asks_on p q r a NoneAsked = a
asks_on p q r a (OneAsked {q = s} ono of ask handle before one) = OneAsked ono of ask handle (asks_on p q s a before) one

pub ruleset question_rules = (asks_none, asks_one, asks_on)

-- ---- a turn, and what is done behind it

pub turned_and_settled : (a b c d : OrdersState) (p q r s : PanelState) → TurnsPanel p q → b ≡ a → SettlesOrders b q c r → TakesAnswers r s
    → d ≡ c → TurnsAndSettles a p d s
turned_and_settled a b c d p q r s turns e settles answers f = record {
  turned = q;
  settled = r;
  turns = turns;
  settles = rw (sym e, f) settles;
  answers = answers;
}

pub ruleset turn_rules = (takes_none, turned_and_settled)

pub continues : (device : Peer) (span : Span) (next ahead found : ℕ) (known list : List Object) (a b c d e : OrdersState) (p q r s : PanelState)
    → RenewsLost device span next a p b q → EndsUnsent b c → SubmitsOrders found list c q d r → AsksQuestions r s → found ≡ ahead → list ≡ known
    → e ≡ d → Continues device span next ahead known a p e s
continues device span next ahead found known list a b c d e p q r s renews ends submits asks f k g = record {
  lost = b;
  renewed = q;
  ended = c;
  submitted = r;
  renews = renews;
  ends = ends;
  submits = rw (sym f, sym k, g) submits;
  asks = asks;
}
