-- WHAT COMES OF A COMMAND over histories of calls: each that is due is sent, again and again where the link is asked
-- often enough, and what was answered stays so. As in Histories the latest call stands first.
use Rattle.std.specs.Prelude.{[], ⊤, ◌*◌, ◌++◌, ◌+◌, ◌<◌, ◌==◌, ◌∷◌, ◌≡◌, ◌≤◌, ◌⊎◌, Bool, List, None, Ok, Some, false}
use Rattle.std.specs.Prelude.{if◌then◌else◌, is_some, length, max, true, ℕ}
use Rattle.std.specs.List.{AllByRecursion, list_any}
use Rattle.oca_control.specs.Words.{Handle, Msg, Peer, same_peer}
use Rattle.oca_control.specs.declared.due.Due.{Due}
use Rattle.oca_control.specs.declared.due.Due.TheVariants as dues
use Rattle.oca_control.specs.declared.reception.Reception.{Reception}
use Rattle.oca_control.specs.Untaken.{answer_under}
use Rattle.oca_control.specs.Limits.{repeat_time, most_sendings}
use Rattle.oca_control.specs.Links.{LinkState, Request}
use Rattle.oca_control.specs.Histories.{Call, Submits, SendsDue, Receives, TakesAnswer, IsHistory, clock_of_calls}
use Rattle.oca_control.specs.Histories.{Sending}
use Rattle.oca_control.specs.Histories.{sendings, answers_among, answers_to, first_of, is_untaken, is_due_at, is_lost}

-- a response among the messages is to this handle
abbrev pub has_response : ℕ → List Msg → Bool
has_response h messages = is_some (first_of (answers_among h messages))

-- a call is no take of this handle
abbrev pub TakesNothingOf : ℕ → Call → Type 0
TakesNothingOf h (TakesAnswer x answer) = x ≡ h → ⊥
TakesNothingOf h _ = ⊤

-- A well-formed datagram came from the device, with a response to an untaken command, whatever else it has. Then
-- whatever is called, but for a take of this handle, the link holds an answer to it, which a take gives.
abbrev pub EveryAnswerIsKept : Type 0
EveryAnswerIsKept =
    (device : Peer) (first opened span : ℕ) (before later : List Call) (after : LinkState) (h : ℕ) (from : Peer)
    (bytes : List ℕ) (messages : List Msg) (now : ℕ) (returned : Reception) →
    0 < span →
    IsHistory device first opened span (later ++ Receives from bytes (Some messages) now returned ∷ before) after →
    same_peer from device ≡ true → is_untaken h before ≡ true → has_response h messages ≡ true →
    AllByRecursion (TakesNothingOf h) later →
    is_some (answer_under h after.untaken) ≡ true

-- a call of `due` at this moment
abbrev pub CallsDueAt : ℕ → Call → Type 0
CallsDueAt t (SendsDue now returned bytes) = now ≡ t
CallsDueAt t _ = ⊥

-- the command of this handle was sent in the call
abbrev pub is_send_of : ℕ → Due → Bool
is_send_of h (dues.Send x) = x.0 == h
is_send_of h _ = false

-- the same of a call: one of `due` that returned it
abbrev pub is_given_in : ℕ → Call → Bool
is_given_in h (SendsDue now returned bytes) = is_send_of h returned
is_given_in h _ = false

-- the handle stands in the list
abbrev pub is_among : ℕ → List ℕ → Bool
is_among h hs = list_any (λ x. x == h) hs

-- Where no others than these k handles are due at a moment, each that is due is sent within k calls of `due` at
-- that moment, or the link is lost.
abbrev pub EveryDueCommandIsSent : Type 0
EveryDueCommandIsSent =
    (device : Peer) (first opened span : ℕ) (before calls : List Call) (after : LinkState) (now h : ℕ) (due : List ℕ) →
    0 < span → IsHistory device first opened span (calls ++ before) after → AllByRecursion (CallsDueAt now) calls →
    is_due_at device opened (max (clock_of_calls opened before) now) h before ≡ true →
    ((x : ℕ) → is_due_at device opened (max (clock_of_calls opened before) now) x before ≡ true →
    is_among x due ≡ true) →
    length due ≤ length calls →
    (is_lost (calls ++ before) ≡ true) ⊎ (list_any (is_given_in h) calls ≡ true)

-- ---- a link that is asked often enough

-- `due` returned that no command is left to send: with a keep-alive, with nothing, or that the link is lost
abbrev pub is_none_left : Due → Bool
is_none_left (dues.Send h) = false
is_none_left _ = true

-- THE LAST TIME that it did, by the clock, and at first the moment since when the calls are looked at.
abbrev pub last_asked : ℕ → List Call → ℕ
last_asked since [] = since
last_asked since (SendsDue now returned bytes ∷ before) =
    if is_none_left returned then max (clock_of_calls since before) now else last_asked since before
last_asked since (Submits request now returned ∷ before) = last_asked since before
last_asked since (Receives from bytes content now returned ∷ before) = last_asked since before
last_asked since (TakesAnswer h answer ∷ before) = last_asked since before

-- A link IS ASKED EVERY so many ms: after each of the calls, that was at most so long ago by the clock. So its `due` is
-- called until no command is left, and again before that time is over.
abbrev pub IsAskedEvery : ℕ → ℕ → List Call → Type 0
IsAskedEvery ms since [] = ⊤
IsAskedEvery ms since (call ∷ before) =
    (clock_of_calls since (call ∷ before) ≤ last_asked since (call ∷ before) + ms) × IsAskedEvery ms since before

-- A command IS WAITING while it is untaken, no answer came to it, and the link is not lost.
pub record IsWaiting (device : Peer) (h : ℕ) (calls : List Call) : Type 0 where
  pub untaken : is_untaken h calls ≡ true
  pub unanswered : first_of (answers_to device h calls) ≡ None
  pub not_lost : is_lost calls ≡ false

-- Of a command that was submitted at a moment and waits at t: it was sent less than 250 ms and so many ago; or it
-- was never sent, and submitted at most so many ms ago.
abbrev pub IsRecent : ℕ → ℕ → ℕ → List Sending → Type 0
IsRecent ms since t [] = t ≤ since + ms
IsRecent ms since t (s ∷ before) = t < s.at + (repeat_time + ms)

-- And it does not wait for ever, since it is sent at most 20 times.
pub record IsSentInTime (ms since t : ℕ) (given : List Sending) : Type 0 where
  pub recent : IsRecent ms since t given
  pub ends : t ≤ since + ms + most_sendings * (repeat_time + ms)

-- Where a link is asked every so many ms from the submit of a command on, the command is sent in time as long as
-- it waits.
abbrev pub EveryCommandIsSentInTime : Type 0
EveryCommandIsSentInTime =
    (device : Peer) (first opened span : ℕ) (before later : List Call) (after : LinkState)
    (request : Request) (now ms : ℕ) (h : Handle) →
    let since : ℕ = max (clock_of_calls opened before) now in
    let calls : List Call = later ++ Submits request now (Ok h) ∷ before in
    0 < span → IsHistory device first opened span calls after → IsAskedEvery ms since later →
    IsWaiting device h.0 calls →
    IsSentInTime ms since (clock_of_calls opened calls) (sendings opened h.0 calls)
