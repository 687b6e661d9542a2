-- The order that is submitted next, and orders whose results are noted one after another.
use Rattle.std.proofs.Common.{◌≡◌, ◌≢◌, ℕ, ◌==◌, ◌||◌, Bool, true, false, if◌then◌else◌, List, [], ◌∷◌, length, remove, slice_get, Option, Some, None, OnSome, Err, refl, sym, ap, arith, drop, get_or, ◌∙◌, ◌<◌, ◌≤◌, ◌+◌}
use Rattle.std.specs.Prelude.{IfSome}
use Rattle.std.specs.List.{position}
use Rattle.std.proofs.lemmas.List.{drop_more, drop_all, length-append}
use Rattle.std.proofs.lemmas.List.Quantifiers.{position-Some}
use Rattle.oca_web.specs.declared.order.NotDone.{NotDone}
use Rattle.oca_web.specs.declared.order.Order.{Order}
use Rattle.oca_web.specs.declared.order.OrderResult.{OrderResult}
use Rattle.oca_web.specs.declared.order.OrderInFlight.{OrderInFlight}
use Rattle.oca_web.specs.declared.order.NewOrder.{NewOrder}
use Rattle.oca_web.specs.Orders.{OrdersState, ready_of, is_in_flight, lost_result, order_added, result_of, with_all, with_lost, with_order}
use Rattle.oca_web.specs.Orders.{with_result, with_unsent}

pick : {X : Type 0} (b : Bool) (x o : X) → (if b then None else Some x) ≡ Some o → (b ≡ false) × (x ≡ o)
pick true x o e = absurd (cc e)
pick false x o e = (refl, cc e)

full-not : (b : Bool) (n : ℕ) → n ≡ 32 → (b || (n == 32)) ≡ false → ⊥
full-not true n e h = cc h
full-not false n e h = let k : (32 == 32) ≡ false = rw e at h in cc k

-- it is the first that waits
pub ready_is_first : (ws : List Order) (ss : List OrderInFlight) (o : Order) (rest : List Order) → ready_of ws ss ≡ Some o → rest ≡ remove ws 0 → ws ≡ o ∷ rest
ready_is_first [] ss o rest e r = absurd (cc e)
ready_is_first (w ∷ ws) ss o rest e r =
    let p : ((is_in_flight w.ono.0 ss || (length ss == 32)) ≡ false) × (w ≡ o) = pick (is_in_flight w.ono.0 ss || (length ss == 32)) w o e in
    let q : rest ≡ ws = r in
    rw (p.1, q) refl

-- fewer than 32 are in flight
pub ready_has_room : (ws : List Order) (ss : List OrderInFlight) (o : Order) → ready_of ws ss ≡ Some o → length ss ≢ 32
ready_has_room [] ss o e full = cc e
ready_has_room (w ∷ ws) ss o e full =
    let p : ((is_in_flight w.ono.0 ss || (length ss == 32)) ≡ false) × (w ≡ o) = pick (is_in_flight w.ono.0 ss || (length ss == 32)) w o e in
    absurd (full-not (is_in_flight w.ono.0 ss) (length ss) full p.0)

-- the first of a list, and the rest
pub first_and_rest : {X : Type 0} (xs : List X) (x : X) (rest : List X) → slice_get xs 0 ≡ Some x → rest ≡ remove xs 0 → xs ≡ x ∷ rest
first_and_rest [] x rest e r = absurd (cc e)
first_and_rest (y ∷ ys) x rest e r =
    let p : y ≡ x = cc e in
    let q : rest ≡ ys = r in
    rw (p, q) refl

-- what was taken from the front is the order that is next
pub taken_first : (v ws : List Order) (ss : List OrderInFlight) (o : Order) (rest : List Order) (r : Option Order)
    → v ≡ ws → ready_of v ss ≡ Some o → r ≡ slice_get ws 0 → OnSome r (rest ≡ remove ws 0) → v ≡ o ∷ rest
taken_first v [] ss o rest r same e is h = let k : ready_of [] ss ≡ Some o = rw same at e in absurd (cc k)
taken_first v (w ∷ ws) ss o rest None same e is h = absurd (cc is)
taken_first v (w ∷ ws) ss o rest (Some x) same e is h =
    let k : ready_of (w ∷ ws) ss ≡ Some o = rw same at e in
    rw same (ready_is_first (w ∷ ws) ss o rest k h)

-- a place that was found is one of the list's
pub placed_within : (p : OrderResult → Bool) (results : List OrderResult) (r : Option ℕ) → r ≡ position p results → IfSome r (λ at. at < length results)
placed_within p results None e = tt
placed_within p [] (Some at) e = absurd (cc e)
placed_within p (x ∷ xs) (Some at) e = (position-Some p (x ∷ xs) at x (sym e)).0

-- many orders are added one after another: with those from this one on, those so far are all
pub record AddedSoFar (ws : List NewOrder) (last i : ℕ) (old s : OrdersState) : Type 0 where
  pub room : length s.waiting + length ws ≤ 256 + i
  pub tickets : s.tickets + length ws ≤ 18446744073709551615 + i
  pub rest : with_all (drop i ws) last s ≡ with_all ws last old

pub added_more : (ws : List NewOrder) (i : ℕ) (w : NewOrder) (last : ℕ) (old s t : OrdersState) → AddedSoFar ws last i old s → i < length ws
    → w ≡ get_or ws i w → t ≡ with_order w last s → AddedSoFar ws last (i + 1) old t
added_more ws i w last old s t before within e f =
    let n : length t.waiting ≡ length s.waiting + 1 = ap (λ (o : OrdersState). length o.waiting) f ∙ length-append s.waiting (order_added w last s ∷ []) in
    let k : t.tickets ≡ s.tickets + 1 = ap (λ (o : OrdersState). o.tickets) f in
    let p : drop i ws ≡ w ∷ drop (i + 1) ws = drop_more ws i w within ∙ ap (λ x. x ∷ drop (i + 1) ws) (sym e) in
    record {
      room = omega (arith, n, before.room);
      tickets = omega (arith, k, before.tickets);
      rest = ap (λ o. with_all (drop (i + 1) ws) last o) f ∙ ap (λ l. with_all l last s) (sym p) ∙ before.rest;
    }

pub added_all : (ws : List NewOrder) (i last : ℕ) (old s : OrdersState) → AddedSoFar ws last i old s → length ws ≤ i → s ≡ with_all ws last old
added_all ws i last old s before past = ap (λ l. with_all l last s) (sym (drop_all i ws past)) ∙ before.rest

pub ruleset many_rules = (added_more, added_all)

-- orders are noted as lost one after another
pub lost_first : (sent : List OrderInFlight) (s : OrderInFlight) (rest : List OrderInFlight) (results new : List OrderResult) → slice_get sent 0 ≡ Some s → rest ≡ remove sent 0
    → new ≡ with_result results (lost_result s) → with_lost rest new ≡ with_lost sent results
lost_first sent s rest results new e r f = rw (first_and_rest sent s rest e r, f) refl

pub lost_none : (sent : List OrderInFlight) (results : List OrderResult) → None ≡ slice_get sent 0 → results ≡ with_lost sent results
lost_none [] results e = refl
lost_none (s ∷ sent) results e = absurd (cc e)

pub unsent_first : (reason : NotDone) (orders : List Order) (o : Order) (rest : List Order) (results new : List OrderResult) → slice_get orders 0 ≡ Some o
    → rest ≡ remove orders 0 → new ≡ with_result results (result_of o (Err reason)) → with_unsent reason rest new ≡ with_unsent reason orders results
unsent_first reason orders o rest results new e r f = rw (first_and_rest orders o rest e r, f) refl

pub unsent_none : (reason : NotDone) (orders : List Order) (results : List OrderResult) → None ≡ slice_get orders 0 → results ≡ with_unsent reason orders results
unsent_none reason [] results e = refl
unsent_none reason (o ∷ orders) results e = absurd (cc e)

pub ruleset losing_rules = (first_and_rest, lost_first, lost_none, unsent_first, unsent_none)
