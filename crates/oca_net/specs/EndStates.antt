-- What an end says of itself, and what its calls do to that.
use Rattle.std.specs.Prelude.{◌≡◌, ℕ, ◌+◌, ◌<◌, Bool, ◌||◌, List, ◌++◌, length, IsTrue, IfSome, ◌≤◌, Option}
use Rattle.oca_types.specs.declared.words.Peer.{Peer}
use Rattle.oca_net.specs.declared.end.Heard.{Heard}
use Rattle.oca_net.specs.Deliveries.{Delivery, Sent}
use Rattle.oca_net.specs.Ends.{Delivers, KeepsTime, HoldsOnlyADatagram, is_closed, failures_after, failures_sent}
use Rattle.oca_net.specs.Ends.{taken_after, one_more, last_u64, TakesAllBut}

-- Whether the end tells what it delivers and takes; what it delivered and what it took (the latest last), which say
-- nothing of an end that does not tell; whether it has returned Closed; how many calls failed, how often `receive` was
-- called, failed and closed calls too, and how often `send` was, failed calls too: 64-bit numbers that stay at their
-- last value. Where the end keeps time, the latest moment that it has said. And the earliest and the latest moment that
-- it may say to be its present one, as long as it neither receives nor sends.
pub record EndState : Type 0 where
  pub tells : Bool
  pub delivered : List Delivery
  pub taken : List Sent
  pub closed : Bool
  pub failures : ℕ
  pub receives : ℕ
  pub sends : ℕ
  pub moment : Option ℕ
  pub earliest : ℕ
  pub latest : ℕ

-- THE PRESENT MOMENT of an end: it is one that the end may say, and none that a receive returned is later. 0 is the
-- link's own moment (`oca_control`), as of an end that keeps no time. Over any end no other moment is known to be one
-- but what `now` returned.
pub record IsPresent (now : ℕ) (e : EndState) : Type 0 where
  pub from : e.earliest ≤ now
  pub to : now ≤ e.latest
  pub later : 0 < now → IfSome e.moment (λ m. m ≤ now)

-- A receive returned this, and the packet then held these bytes. Time goes on: of the present moment nothing is said.
pub record Receives (heard : Heard) (bytes : List ℕ) (old new : EndState) : Type 0 where
  pub telling : new.tells ≡ old.tells
  pub delivered : IsTrue old.tells → Delivers heard bytes old.delivered new.delivered
  pub taken : IsTrue old.tells → new.taken ≡ old.taken
  pub packet : HoldsOnlyADatagram heard bytes
  pub closed : new.closed ≡ (old.closed || is_closed heard)
  pub failures : new.failures ≡ failures_after heard old.failures
  pub receives : new.receives ≡ one_more old.receives
  pub sends : new.sends ≡ old.sends
  pub moment : KeepsTime heard old.moment new.moment

-- A send of these bytes to a peer returned whether the end took them. Of the present moment nothing is said.
pub record Sends (was_taken : Bool) (to : Peer) (bytes : List ℕ) (old new : EndState) : Type 0 where
  pub telling : new.tells ≡ old.tells
  pub delivered : IsTrue old.tells → new.delivered ≡ old.delivered
  pub taken : IsTrue old.tells → new.taken ≡ taken_after was_taken to bytes old.taken
  pub closed : new.closed ≡ old.closed
  pub failures : new.failures ≡ failures_sent was_taken old.failures
  pub receives : new.receives ≡ old.receives
  pub sends : new.sends ≡ one_more old.sends
  pub moment : new.moment ≡ old.moment

-- These datagrams were sent, in order, and so many of the sends failed.
pub record SendsAllBut (failed : ℕ) (old new : EndState) (all : List Sent) : Type 0 where
  pub telling : new.tells ≡ old.tells
  pub delivered : IsTrue old.tells → new.delivered ≡ old.delivered
  pub taken : IsTrue old.tells → TakesAllBut failed old.taken new.taken all
  pub closed : new.closed ≡ old.closed
  pub failures : new.failures < last_u64 → new.failures ≡ old.failures + failed
  pub receives : new.receives ≡ old.receives
  pub sends : new.sends < last_u64 → new.sends ≡ old.sends + length all

-- These were delivered and these sent, and so many receives and sends failed: where the end tells, it delivered
-- the ones and took the others but for those whose send failed.
pub record DeliversAndTakes (deliveries : List Delivery) (all : List Sent) (failed_receives failed_sends : ℕ)
    (old new : EndState) : Type 0 where
  pub telling : new.tells ≡ old.tells
  pub delivered : IsTrue old.tells → new.delivered ≡ old.delivered ++ deliveries
  pub taken : IsTrue old.tells → TakesAllBut failed_sends old.taken new.taken all
  pub failures : new.failures < last_u64 → new.failures ≡ old.failures + (failed_receives + failed_sends)
  pub sends : new.sends < last_u64 → new.sends ≡ old.sends + length all
