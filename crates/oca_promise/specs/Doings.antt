-- WHAT IS DONE WITH A LINK, and a schedule of a network in which that is done. Of doings the first stands first;
-- moments are in milliseconds.
use Rattle.std.specs.Prelude.{[], ◌++◌, ◌+◌, ◌<◌, ◌==◌, ◌∷◌, ◌≡◌, ◌≤◌, ◌⊎◌, Bool, IsTrue, List, Some, false}
use Rattle.std.specs.Prelude.{if◌then◌else◌, length, nat_le, true, ℕ}
use Rattle.std.specs.List.{AllByRecursion, filter, flat_map, slice_get}
use Rattle.oca_promise.specs.Words.{Due, EndState, LinkState, Network, Peer, Request, Step, Submit, Take, ToLink}
use Rattle.oca_promise.specs.Words.{after_step, content_read, decision, gone_on, late_at, received, submitted, taken}
use Rattle.oca_net.specs.Deliveries.{Delivery, Datagram, Quiet, Failed, Sent}
use Rattle.oca_net.specs.Ends.{largest_datagram, last_u64, TakesAllBut}
use Rattle.oca_pdu.specs.Laws.{AreBytes}
use Rattle.oca_control.specs.Driving.{given_to}

-- ---- what is done

pub data Doing : Type 0 where
  -- a command is given to the link
  Submits : (request : Request) (now : ℕ) → Doing
  -- the link is asked what is due, and that is sent
  Sends : (now : ℕ) → Doing
  -- a datagram of its device comes to the link
  Hears : (bytes : List ℕ) (now : ℕ) → Doing
  -- the answer under a handle is taken from the link
  Takes : (handle : ℕ) → Doing

-- the link after it
abbrev pub done : Doing → LinkState → LinkState
done (Submits request now) l = submitted request now l
done (Sends now) l = gone_on now l
done (Hears bytes now) l = received l.device (content_read bytes) now l
done (Takes h) l = taken h l

unfoldable pub all_done : List Doing → LinkState → LinkState
all_done [] l = l
all_done (x ∷ xs) l = all_done xs (done x l)

-- a command is given to the link, or an answer is taken
abbrev pub is_begun_or_taken : Doing → Bool
is_begun_or_taken (Submits request now) = true
is_begun_or_taken (Sends now) = false
is_begun_or_taken (Hears bytes now) = false
is_begun_or_taken (Takes h) = true

-- the answer under this handle is taken
abbrev pub is_taking : ℕ → Doing → Bool
is_taking handle (Submits request now) = false
is_taking handle (Sends now) = false
is_taking handle (Hears bytes now) = false
is_taking handle (Takes h) = h == handle

-- nothing is sent at a moment at which the link is late
unfoldable pub AreSentInTime : List Doing → LinkState → Type 0
AreSentInTime [] l = Unit {0}
AreSentInTime (Sends now ∷ xs) l = (late_at now l ≡ false) × AreSentInTime xs (gone_on now l)
AreSentInTime (Submits request now ∷ xs) l = AreSentInTime xs (submitted request now l)
AreSentInTime (Hears bytes now ∷ xs) l = AreSentInTime xs (received l.device (content_read bytes) now l)
AreSentInTime (Takes h ∷ xs) l = AreSentInTime xs (taken h l)

-- ---- over an end

-- what a delivery has a link hear: a datagram of at most 1,472 bytes
abbrev pub hearing_of : Delivery → List Doing
hearing_of (Datagram from bytes now) = if nat_le (length bytes) largest_datagram then Hears bytes now ∷ [] else []
hearing_of _ = []

abbrev pub is_hearing : Doing → Bool
is_hearing (Hears bytes now) = true
is_hearing _ = false

-- the datagrams that were heard
abbrev pub hearings : List Doing → List Doing
hearings xs = filter is_hearing xs

-- the datagrams that are sent to the device where this is done with the link
unfoldable pub sent_by : List Doing → LinkState → List Sent
sent_by [] l = []
sent_by (Sends now ∷ xs) l = given_to l.device (decision now l) ++ sent_by xs (gone_on now l)
sent_by (Submits request now ∷ xs) l = sent_by xs (submitted request now l)
sent_by (Hears bytes now ∷ xs) l = sent_by xs (received l.device (content_read bytes) now l)
sent_by (Takes h ∷ xs) l = sent_by xs (taken h l)

-- a datagram that was delivered came from the device's address
abbrev pub IsOfDevice : Peer → Delivery → Type 0
IsOfDevice device (Datagram from bytes now) = (from ≡ device) × AreBytes bytes
IsOfDevice device _ = Unit {0}

-- so did each
abbrev pub AreOfDevice : Peer → List Delivery → Type 0
AreOfDevice device deliveries = AllByRecursion (IsOfDevice device) deliveries

-- THIS WAS DONE with a link over an end, which became another by it. Where the end tells, what was heard is what it
-- delivered; and where each of these datagrams came from the link's device, the link is what is said, the end was given
-- just as many datagrams as are sent, and where it tells it took these but for so many sends that failed, no more than
-- it counted.
pub record WasDone (doings : List Doing) (old new : LinkState) (before after : EndState) : Type 0 where
  pub deliveries : List Delivery
  pub telling : after.tells ≡ before.tells
  pub delivered : IsTrue before.tells → after.delivered ≡ before.delivered ++ deliveries
  pub heard : hearings doings ≡ flat_map hearing_of deliveries
  pub link : AreOfDevice old.device deliveries → new ≡ all_done doings old
  pub failed : ℕ
  pub failures : after.failures < last_u64 → before.failures + failed ≤ after.failures
  pub sent : AreOfDevice old.device deliveries → IsTrue before.tells →
      TakesAllBut failed before.taken after.taken (sent_by doings old)
  pub sends : AreOfDevice old.device deliveries → after.sends < last_u64 →
      after.sends ≡ before.sends + length (sent_by doings old)

-- ---- in a network

-- The step does this with the link of this number, which is the peer's; what the link hears is a datagram that the
-- device sent to it.
abbrev pub IsStepFor : ℕ → Peer → Network → Doing → Step → Type 0
IsStepFor i p n (Submits request now) step = step ≡ Submit i request now
IsStepFor i p n (Sends now) step = step ≡ Due i now
IsStepFor i p n (Hears bytes now) step =
    (k : ℕ) × (step ≡ ToLink k now) × (slice_get n.to_links k ≡ Some (record { peer = p; bytes = bytes }))
IsStepFor i p n (Takes h) step = step ≡ Take i h

-- The step leaves the link as it is, and all is still to be done; or it does the first.
abbrev pub GoesOnWith : ℕ → Peer → Network → Step → (doings rest : List Doing) → Type 0
GoesOnWith i p n step doings rest =
    ((rest ≡ doings) × (slice_get (after_step step n).links i ≡ slice_get n.links i))
    ⊎ ((x : Doing) × (doings ≡ x ∷ rest) × IsStepFor i p n x step)

-- A SCHEDULE PLAYS WHAT WAS DONE with the link of this number, which is the peer's: each doing is a step of that link,
-- in order, and all other steps leave the link as it is.
unfoldable pub Plays : ℕ → Peer → Network → List Doing → List Step → Type 0
Plays i p n doings [] = doings ≡ []
Plays i p n doings (step ∷ steps) =
    (rest : List Doing) × GoesOnWith i p n step doings rest × Plays i p (after_step step n) rest steps
