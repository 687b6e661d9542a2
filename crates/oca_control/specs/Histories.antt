-- THE LAW OF A LINK over whole histories of its calls. Of calls, commands and sendings the LATEST STANDS FIRST, so that
-- what stands after a member (`before`) came before it. Messages and answers stand in order, the first one first.
-- Moments are in milliseconds.
use Rattle.std.specs.Prelude.{[], ⊤, ◌&&◌, ◌++◌, ◌+◌, ◌-◌, ◌<◌, ◌==◌, ◌||◌, ◌∷◌, ◌≡◌, ◌≤◌, ◌⊎◌, Bool, Err, List, None}
use Rattle.std.specs.Prelude.{Ok, Option, Result, Some, false, if◌then◌else◌, is_none, is_some, length, max, nat_le}
use Rattle.std.specs.Prelude.{not, true, ℕ}
use Rattle.std.specs.List.{AllByRecursion}
use Rattle.oca_control.specs.Words.{Command, CommandFields, Commands, Handle, KeepAlive, Msg, OneKeepAlive, Peer}
use Rattle.oca_control.specs.Words.{Response, Seconds, most_command_parameter_bytes, pdu_encoding, same_peer}
use Rattle.oca_control.specs.declared.fault.ControlFault.{ControlFault}
use Rattle.oca_control.specs.declared.fault.ControlFault.TheVariants as faults
use Rattle.oca_control.specs.declared.due.Due.{Due}
use Rattle.oca_control.specs.declared.due.Due.TheVariants as dues
use Rattle.oca_control.specs.declared.reception.Reception.{Reception}
use Rattle.oca_control.specs.Answers.{AnswerFields, answer_of_response}
use Rattle.oca_control.specs.Contents.{IsContent}
use Rattle.oca_control.specs.Untaken.{answer_under, first_answered}
use Rattle.oca_control.specs.Limits.{repeat_time, most_sendings, keep_alive_time, last_handle}
use Rattle.oca_control.specs.Links.{LinkState, Request, new_link, command_under, submission, submitted, decision}
use Rattle.oca_control.specs.Links.{due_answer, due_bytes, gone_on, reception, received, taken}

-- ---- what happened to a link

-- A CALL of a link: what it was given, and what it answered. Of a datagram the content stands beside its bytes.
pub data Call : Type 0 where
  Submits : (request : Request) (now : ℕ) (returned : Result Handle ControlFault) → Call
  SendsDue : (now : ℕ) (returned : Due) (bytes : List ℕ) → Call
  Receives : (from : Peer) (bytes : List ℕ) (content : Option (List Msg)) (now : ℕ) (returned : Reception) → Call
  TakesAnswer : (handle : ℕ) (answer : Option AnswerFields) → Call

-- The call of a link makes another of it: just what the clauses of `submit`, `due`, `datagram` and `take` say.
abbrev pub IsCall : LinkState → Call → LinkState → Type 0
IsCall l (Submits request now returned) after = (returned ≡ submission request l) × (after ≡ submitted request now l)
IsCall l (SendsDue now returned bytes) after =
    (returned ≡ due_answer (decision now l)) × (bytes ≡ due_bytes (decision now l)) × (after ≡ gone_on now l)
IsCall l (Receives from bytes content now returned) after =
    IsContent content bytes × (returned ≡ reception from content l) × (after ≡ received from content now l)
IsCall l (TakesAnswer h answer) after = (answer ≡ answer_under h l.untaken) × (after ≡ taken h l)

-- A HISTORY: a link that is new at a moment becomes this one by these calls.
abbrev pub IsHistory : Peer → ℕ → ℕ → ℕ → List Call → LinkState → Type 0
IsHistory device first opened span [] after = after ≡ new_link device first opened span
IsHistory device first opened span (call ∷ before) after =
    (l : LinkState) × IsHistory device first opened span before l × IsCall l call after

-- ---- what a history says

-- THE CLOCK: the greatest moment so far. A refused submit keeps no moment, and `take` has none.
abbrev pub clock_of_calls : ℕ → List Call → ℕ
clock_of_calls opened [] = opened
clock_of_calls opened (Submits request now (Ok h) ∷ before) = max (clock_of_calls opened before) now
clock_of_calls opened (Submits request now (Err fault) ∷ before) = clock_of_calls opened before
clock_of_calls opened (SendsDue now returned bytes ∷ before) = max (clock_of_calls opened before) now
clock_of_calls opened (Receives from bytes content now returned ∷ before) = max (clock_of_calls opened before) now
clock_of_calls opened (TakesAnswer h answer ∷ before) = clock_of_calls opened before

-- THE ACCEPTED COMMANDS, the latest first.
abbrev pub commands : List Call → List CommandFields
commands [] = []
commands (Submits request now (Ok h) ∷ before) = command_under h.0 request ∷ commands before
commands (Submits request now (Err fault) ∷ before) = commands before
commands (SendsDue now returned bytes ∷ before) = commands before
commands (Receives from bytes content now returned ∷ before) = commands before
commands (TakesAnswer h answer ∷ before) = commands before

-- the command that was accepted under a handle
abbrev pub command_accepted : ℕ → List CommandFields → Option CommandFields
command_accepted h [] = None
command_accepted h (c ∷ before) = if h == c.handle then Some c else command_accepted h before

-- A sending of a command: when by the clock, and the bytes that were sent.
pub record Sending : Type 0 where
  pub at : ℕ
  pub bytes : List ℕ

-- it is one of the handle h, where the link answered so
abbrev pub sending_of : ℕ → Due → Sending → List Sending → List Sending
sending_of h (dues.Send handle) s before = if h == handle.0 then s ∷ before else before
sending_of h other s before = before

-- THE SENDINGS of the command under a handle, the latest first.
abbrev pub sendings : ℕ → ℕ → List Call → List Sending
sendings opened h [] = []
sendings opened h (SendsDue now returned bytes ∷ before) =
    sending_of h returned (record { at = max (clock_of_calls opened before) now; bytes = bytes })
    (sendings opened h before)
sendings opened h (Submits request now returned ∷ before) = sendings opened h before
sendings opened h (Receives from bytes content now returned ∷ before) = sendings opened h before
sendings opened h (TakesAnswer handle answer ∷ before) = sendings opened h before

-- what the responses among messages answer under a handle, in order
abbrev pub answers_among : ℕ → List Msg → List AnswerFields
answers_among h [] = []
answers_among h (Response r ∷ more) =
    if h == r.handle then answer_of_response r ∷ answers_among h more else answers_among h more
answers_among h (KeepAlive form ∷ more) = answers_among h more
answers_among h (Command respond c ∷ more) = answers_among h more

-- of bytes that are no datagram, nothing
abbrev pub answers_of : ℕ → Option (List Msg) → List AnswerFields
answers_of h None = []
answers_of h (Some messages) = answers_among h messages

-- THE ANSWERS THAT CAME to a handle: all those in the device's datagrams since the command was submitted, in order.
abbrev pub answers_to : Peer → ℕ → List Call → List AnswerFields
answers_to device h [] = []
answers_to device h (Submits request now (Ok x) ∷ before) = if h == x.0 then [] else answers_to device h before
answers_to device h (Submits request now (Err fault) ∷ before) = answers_to device h before
answers_to device h (SendsDue now returned bytes ∷ before) = answers_to device h before
answers_to device h (Receives from bytes content now returned ∷ before) =
    answers_to device h before ++ (if same_peer from device then answers_of h content else [])
answers_to device h (TakesAnswer x answer ∷ before) = answers_to device h before

-- the first of the answers, where there is one
abbrev pub first_of : List AnswerFields → Option AnswerFields
first_of [] = None
first_of (a ∷ later) = Some a

-- A handle is UNTAKEN from its submit until its answer is taken.
abbrev pub is_untaken : ℕ → List Call → Bool
is_untaken h [] = false
is_untaken h (Submits request now (Ok x) ∷ before) = is_untaken h before || (x.0 == h)
is_untaken h (Submits request now (Err fault) ∷ before) = is_untaken h before
is_untaken h (SendsDue now returned bytes ∷ before) = is_untaken h before
is_untaken h (Receives from bytes content now returned ∷ before) = is_untaken h before
is_untaken h (TakesAnswer x (Some answer) ∷ before) = not (x == h) && is_untaken h before
is_untaken h (TakesAnswer x None ∷ before) = is_untaken h before

-- a command may be sent at t where it never was, or last 250 ms before or earlier
abbrev pub may_be_sent : ℕ → List Sending → Bool
may_be_sent t [] = true
may_be_sent t (s ∷ before) = nat_le repeat_time (t - s.at)

-- A handle is DUE at t while it is untaken, no answer came to it, and its command may be sent.
abbrev pub is_due_at : Peer → ℕ → ℕ → ℕ → List Call → Bool
is_due_at device opened t h before =
    is_untaken h before && (is_none (first_of (answers_to device h before)) && may_be_sent t (sendings opened h before))

-- a command or a keep-alive was sent at t, or nothing was since the last time
abbrev pub given_at : ℕ → Due → ℕ → ℕ
given_at t (dues.Send h) last = t
given_at t dues.KeepAlive last = t
given_at t _ last = last

-- THE LAST MOMENT when a command or a keep-alive was sent, and at first that of the opening.
abbrev pub last_given : ℕ → List Call → ℕ
last_given opened [] = opened
last_given opened (SendsDue now returned bytes ∷ before) =
    given_at (max (clock_of_calls opened before) now) returned (last_given opened before)
last_given opened (Submits request now returned ∷ before) = last_given opened before
last_given opened (Receives from bytes content now returned ∷ before) = last_given opened before
last_given opened (TakesAnswer h answer ∷ before) = last_given opened before

-- THE LAST TIME that a well-formed datagram came from the device, and at first that of the opening.
abbrev pub last_heard : Peer → ℕ → List Call → ℕ
last_heard device opened [] = opened
last_heard device opened (Receives from bytes content now returned ∷ before) =
    if same_peer from device && is_some content then max (clock_of_calls opened before) now
    else last_heard device opened before
last_heard device opened (Submits request now returned ∷ before) = last_heard device opened before
last_heard device opened (SendsDue now returned bytes ∷ before) = last_heard device opened before
last_heard device opened (TakesAnswer h answer ∷ before) = last_heard device opened before

-- A handle is ANSWERED from the first answer to it until it is taken.
abbrev pub is_answered : Peer → ℕ → List Call → Bool
is_answered device h calls = is_untaken h calls && is_some (first_of (answers_to device h calls))

-- it is the answer that the link is lost
abbrev pub is_lost_answer : Due → Bool
is_lost_answer (dues.Send h) = false
is_lost_answer dues.KeepAlive = false
is_lost_answer dues.Nothing = false
is_lost_answer dues.Lost = true

-- A link is LOST once it answered so.
abbrev pub is_lost : List Call → Bool
is_lost [] = false
is_lost (SendsDue now returned bytes ∷ before) = is_lost_answer returned || is_lost before
is_lost (Submits request now returned ∷ before) = is_lost before
is_lost (Receives from bytes content now returned ∷ before) = is_lost before
is_lost (TakesAnswer h answer ∷ before) = is_lost before

-- ---- THE LAW

-- HANDLES are given once and rise by one: each is the first handle plus the number of the commands before it.
abbrev pub RiseFrom : ℕ → List CommandFields → Type 0
RiseFrom first [] = ⊤
RiseFrom first (c ∷ before) = (c.handle ≡ first + length before) × RiseFrom first before

-- the next handle lies below each untaken one plus the span; or not below one of them
abbrev pub HasSpanRoom : ℕ → ℕ → List Call → Type 0
HasSpanRoom span n before = (x : ℕ) → is_untaken x before ≡ true → n < x + span

abbrev pub IsFull : ℕ → ℕ → List Call → Type 0
IsFull span n before = (x : ℕ) × (is_untaken x before ≡ true) × (x + span ≤ n)

-- What `submit` returns, n being the next handle and k the number of parameter bytes: the handle; or that the link is
-- lost; or that no handle is left; or that the span is full; or that the parameters are too long.
abbrev pub IsSubmitAnswer : ℕ → ℕ → ℕ → List Call → Result Handle ControlFault → Type 0
IsSubmitAnswer span n k before (Ok h) =
    (is_lost before ≡ false) × (h.0 ≡ n) × (n ≤ last_handle) × HasSpanRoom span n before
    × (k ≤ most_command_parameter_bytes)
IsSubmitAnswer span n k before (Err faults.Lost) = is_lost before ≡ true
IsSubmitAnswer span n k before (Err faults.HandlesSpent) = (is_lost before ≡ false) × (last_handle < n)
IsSubmitAnswer span n k before (Err faults.SpanFull) =
    (is_lost before ≡ false) × (n ≤ last_handle) × IsFull span n before
IsSubmitAnswer span n k before (Err faults.TooLong) =
    (is_lost before ≡ false) × (n ≤ last_handle) × HasSpanRoom span n before × (most_command_parameter_bytes < k)

-- EACH SUBMIT answers that.
abbrev pub AnswersSubmits : ℕ → ℕ → List Call → Type 0
AnswersSubmits first span [] = ⊤
AnswersSubmits first span (Submits request now returned ∷ before) =
    IsSubmitAnswer span (first + length (commands before)) (length request.params) before returned
    × AnswersSubmits first span before
AnswersSubmits first span (SendsDue now returned bytes ∷ before) = AnswersSubmits first span before
AnswersSubmits first span (Receives from bytes content now returned ∷ before) = AnswersSubmits first span before
AnswersSubmits first span (TakesAnswer h answer ∷ before) = AnswersSubmits first span before

-- A COPY: bytes that are a PDU of type 1 with the command of the handle alone (AES70-3). So all copies of a handle are
-- the same.
pub record IsCopy (h : ℕ) (accepted : List CommandFields) (bytes : List ℕ) : Type 0 where
  pub command : CommandFields
  pub accepted_under : command_accepted h accepted ≡ Some command
  pub bytes_are : bytes ≡ pdu_encoding (Commands true (command ∷ []))

-- SENDINGS are at least 250 ms apart.
abbrev pub AreSendingsApart : List Sending → Type 0
AreSendingsApart [] = ⊤
AreSendingsApart (s ∷ []) = ⊤
AreSendingsApart (s ∷ r ∷ before) = (r.at + repeat_time ≤ s.at) × AreSendingsApart (r ∷ before)

-- EACH TAKE of an untaken handle gives the first answer that came to it, where one came. Of another handle it gives
-- nothing.
abbrev pub TakesTheFirst : Peer → List Call → Type 0
TakesTheFirst device [] = ⊤
TakesTheFirst device (TakesAnswer h answer ∷ before) =
    (answer ≡ (if is_untaken h before then first_of (answers_to device h before) else None))
    × TakesTheFirst device before
TakesTheFirst device (Submits request now returned ∷ before) = TakesTheFirst device before
TakesTheFirst device (SendsDue now returned bytes ∷ before) = TakesTheFirst device before
TakesTheFirst device (Receives from bytes content now returned ∷ before) = TakesTheFirst device before

-- the lowest handle that is due at t
pub record IsLowestDue (device : Peer) (opened t h : ℕ) (before : List Call) : Type 0 where
  pub due : is_due_at device opened t h before ≡ true
  pub lowest : (x : ℕ) → is_due_at device opened t x before ≡ true → h ≤ x

-- no handle is due at t
abbrev pub NoneIsDue : Peer → ℕ → ℕ → List Call → Type 0
NoneIsDue device opened t before = (x : ℕ) → is_due_at device opened t x before ≡ false

-- the lowest due command was sent 20 times
abbrev pub IsLostNow : Peer → ℕ → ℕ → List Call → Type 0
IsLostNow device opened t before =
    (h : ℕ) × IsLowestDue device opened t h before × (length (sendings opened h before) ≡ most_sendings)

-- What `due` returns at t. A command: the lowest due one, which was sent less than 20 times. A keep-alive of 5
-- seconds: none is due, and nothing was sent for 2,500 ms. Nothing: none is due. Lost: the link is lost now, or it
-- was.
abbrev pub IsDueAnswer : Peer → ℕ → ℕ → List ℕ → List Call → Due → Type 0
IsDueAnswer device opened t bytes before (dues.Send h) =
    (is_lost before ≡ false) × IsLowestDue device opened t h.0 before
    × (length (sendings opened h.0 before) < most_sendings)
IsDueAnswer device opened t bytes before dues.KeepAlive =
    (is_lost before ≡ false) × NoneIsDue device opened t before × (last_given opened before + keep_alive_time ≤ t)
    × (bytes ≡ pdu_encoding (OneKeepAlive (Seconds 5)))
IsDueAnswer device opened t bytes before dues.Nothing =
    (is_lost before ≡ false) × NoneIsDue device opened t before × (t < last_given opened before + keep_alive_time)
    × (bytes ≡ [])
IsDueAnswer device opened t bytes before dues.Lost =
    ((is_lost before ≡ true) ⊎ IsLostNow device opened t before) × (bytes ≡ [])

-- EACH DUE gives that, at the clock.
abbrev pub GivesWhatIsDue : Peer → ℕ → List Call → Type 0
GivesWhatIsDue device opened [] = ⊤
GivesWhatIsDue device opened (SendsDue now returned bytes ∷ before) =
    IsDueAnswer device opened (max (clock_of_calls opened before) now) bytes before returned
    × GivesWhatIsDue device opened before
GivesWhatIsDue device opened (Submits request now returned ∷ before) = GivesWhatIsDue device opened before
GivesWhatIsDue device opened (Receives from bytes content now returned ∷ before) = GivesWhatIsDue device opened before
GivesWhatIsDue device opened (TakesAnswer h answer ∷ before) = GivesWhatIsDue device opened before

-- THE CALLS of a link to a device that was opened at a moment, with a first handle and a span.
pub record IsLawful (device : Peer) (first opened span : ℕ) (calls : List Call) : Type 0 where
  pub handles : RiseFrom first (commands calls)
  -- each first handle has 32 bits
  pub submits_are : first ≤ last_handle → AnswersSubmits first span calls
  pub copies : (h : ℕ) → AllByRecursion (λ s. IsCopy h (commands calls) s.bytes) (sendings opened h calls)
  pub at_most_20 : (h : ℕ) → length (sendings opened h calls) ≤ most_sendings
  pub apart : (h : ℕ) → AreSendingsApart (sendings opened h calls)
  pub dues_are : GivesWhatIsDue device opened calls
  pub answers : TakesTheFirst device calls
  -- the next handle, which is the first one plus the number of accepted commands, lies within the span above each
  -- untaken one
  pub within_span : (h : ℕ) → is_untaken h calls ≡ true → first + length (commands calls) ≤ h + span

-- THE LAW holds of every history of a link whose span is not 0, as no span is.
abbrev pub EveryHistoryIsLawful : Type 0
EveryHistoryIsLawful =
    (device : Peer) (first opened span : ℕ) (calls : List Call) (after : LinkState) → 0 < span →
    IsHistory device first opened span calls after →
    IsLawful device first opened span calls

-- the lowest answered handle, where there is one
abbrev pub IsFirstAnswered : Peer → List Call → Option ℕ → Type 0
IsFirstAnswered device calls None = (x : ℕ) → is_answered device x calls ≡ false
IsFirstAnswered device calls (Some h) =
    (is_answered device h calls ≡ true) × ((x : ℕ) → is_answered device x calls ≡ true → h ≤ x)

-- THE STATE OF A LINK after these calls, as `last_heard`, `is_lost` and `answered` return it, agrees with them.
pub record AgreesWithCalls (device : Peer) (opened : ℕ) (calls : List Call) (after : LinkState) : Type 0 where
  pub heard_is : after.heard ≡ last_heard device opened calls
  pub lost_is : after.lost ≡ is_lost calls
  pub answered_is : IsFirstAnswered device calls (first_answered after.untaken)

-- So it is of every link whose span is not 0, as no span is.
abbrev pub EveryLinkAgreesWithItsCalls : Type 0
EveryLinkAgreesWithItsCalls =
    (device : Peer) (first opened span : ℕ) (calls : List Call) (after : LinkState) → 0 < span →
    IsHistory device first opened span calls after →
    AgreesWithCalls device opened calls after

-- Bytes have one content: a history says what was received by the bytes alone.
abbrev pub BytesHaveOneContent : Type 0
BytesHaveOneContent = (bytes : List ℕ) (one other : Option (List Msg)) → IsContent one bytes → IsContent other bytes →
    one ≡ other
