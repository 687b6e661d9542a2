-- THE CONTROLLER: its link to a device, and what each call makes of it (*profile*). Moments are in milliseconds.
use Rattle.std.specs.Prelude.{[], ◌&&◌, ◌++◌, ◌+◌, ◌-◌, ◌<◌, ◌==◌, ◌^◌, ◌∷◌, ◌≡◌, ◌≤◌, Bool, Err, List, None, Ok}
use Rattle.std.specs.Prelude.{Option, Result, Some, false, if◌then◌else◌, is_some, length, map, max, nat_le, nat_lt}
use Rattle.std.specs.Prelude.{true, ℕ}
use Rattle.std.specs.List.{list_any}
use Rattle.oca_control.specs.Words.{Commands, Handle, Msg, OneKeepAlive, Peer, Seconds, pdu_encoding}
pub use Rattle.oca_types.specs.Peers.{CommandFields, RequestFields, same_peer}
pub use Rattle.oca_types.specs.Sizes.{most_command_parameter_bytes}
use Rattle.oca_types.specs.declared.words.MethodId.{MethodId}
use Rattle.oca_types.specs.declared.words.Ono.{Ono}
use Rattle.oca_control.specs.declared.fault.ControlFault.{ControlFault}
use Rattle.oca_control.specs.declared.fault.ControlFault.TheVariants as faults
use Rattle.oca_control.specs.declared.due.Due.{Due}
use Rattle.oca_control.specs.declared.due.Due.TheVariants as dues
use Rattle.oca_control.specs.declared.reception.Reception.{Reception}
use Rattle.oca_control.specs.declared.reception.Reception.TheVariants as receptions
use Rattle.oca_control.specs.Limits.{most_sendings, keep_alive_time, last_handle}
use Rattle.oca_control.specs.Untaken.{Untaken, new_untaken, span_has_room, is_late, first_due, marked_sent, hears_all}
use Rattle.oca_control.specs.Untaken.{answers_by_all, answer_under, without_handle}

-- The device's address, the present moment, the handle of the next command or none, the moment when something was given
-- out last, that of the last well-formed datagram from the device, whether the link is lost, its span, and the untaken
-- commands.
pub record LinkState : Type 0 where
  pub device : Peer
  pub moment : ℕ
  pub next : Option ℕ
  pub sent : ℕ
  pub heard : ℕ
  pub lost : Bool
  pub span : ℕ
  pub untaken : List Untaken

-- a new link
abbrev pub new_link : Peer → ℕ → ℕ → ℕ → LinkState
new_link device first now span =
    record {
      device = device;
      moment = now;
      next = Some first;
      sent = now;
      heard = now;
      lost = false;
      span = span;
      untaken = [];
    }

-- A moment earlier than one already seen counts as the one already seen.
abbrev pub present_moment : ℕ → LinkState → ℕ
present_moment now l = max l.moment now

-- LATE. A link is late at a moment at which a command of it is: to give that out once more would be unsafe.
abbrev pub late_at : ℕ → LinkState → Bool
late_at now l = list_any (is_late (present_moment now l)) l.untaken

-- SUBMIT. The command of a request, under a handle (AES70-3).
abbrev pub command_under : ℕ → RequestFields → CommandFields
command_under h r =
    record { handle = h; target = r.target; level = r.level; index = r.index; count = r.count; params = r.params }

-- a request with these parts
abbrev pub request_with : Ono → MethodId → ℕ → List ℕ → RequestFields
request_with target method count params =
    record { target = target.0; level = method.level; index = method.index; count = count; params = params }

-- what is submitted: `RequestFields`, which stand for a request as `oca_types` has it, before it has a handle
abbrev pub Request : Type 0
Request = RequestFields

-- what `submit` returns where this is the next handle, or none is left, and a command may have so many bytes of
-- parameters
abbrev pub submission_under : ℕ → RequestFields → Option ℕ → LinkState → Result Handle ControlFault
submission_under most r None l = Err faults.HandlesSpent
submission_under most r (Some h) l =
    if span_has_room l.span h l.untaken
    then (if nat_lt most (length r.params) then Err faults.TooLong else Ok (record { 0 = h }))
    else Err faults.SpanFull

-- what `submit` returns where a command may have so many
abbrev pub submission_within : ℕ → RequestFields → LinkState → Result Handle ControlFault
submission_within most r l = if l.lost then Err faults.Lost else submission_under most r l.next l

-- what `submit` returns where it may have as many as a datagram holds
abbrev pub submission : RequestFields → LinkState → Result Handle ControlFault
submission r l = submission_within most_command_parameter_bytes r l

-- After 4294967295 no handle is left.
abbrev pub handle_after : ℕ → Option ℕ
handle_after h = if h == last_handle then None else Some (h + 1)

-- the link after it: a refusal changes nothing, and keeps no moment
abbrev pub after_submission : Result Handle ControlFault → RequestFields → ℕ → LinkState → LinkState
after_submission (Err fault) r now l = l
after_submission (Ok h) r now l =
    record l {
      moment = present_moment now l;
      next = handle_after h.0;
      untaken = l.untaken ++ new_untaken (present_moment now l) (command_under h.0 r) ∷ [];
    }

abbrev pub submitted_within : ℕ → RequestFields → ℕ → LinkState → LinkState
submitted_within most r now l = after_submission (submission_within most r l) r now l

abbrev pub submitted : RequestFields → ℕ → LinkState → LinkState
submitted r now l = submitted_within most_command_parameter_bytes r now l

-- DUE. What is to be sent: a command, a keep-alive or nothing; or the link is lost.
pub data Decision : Type 0 where
  GivesCommand : (command : CommandFields) → Decision
  GivesKeepAlive : Decision
  GivesNothing : Decision
  IsLost : Decision

-- The due command with the lowest handle decides: if it was sent 20 times already, the link is lost. With none, a
-- keep-alive is sent 2,500 ms after anything was.
abbrev pub decision_among : ℕ → ℕ → Option Untaken → Decision
decision_among now sent None = if nat_le keep_alive_time (now - sent) then GivesKeepAlive else GivesNothing
decision_among now sent (Some u) = if nat_lt u.times most_sendings then GivesCommand u.command else IsLost

-- what is decided; a link that is lost stays lost
abbrev pub decision : ℕ → LinkState → Decision
decision now l =
    if l.lost then IsLost else decision_among (present_moment now l) l.sent (first_due (present_moment now l) l.untaken)

-- what `due` returns
abbrev pub due_answer : Decision → Due
due_answer (GivesCommand c) = dues.Send (record { 0 = c.handle })
due_answer GivesKeepAlive = dues.KeepAlive
due_answer GivesNothing = dues.Nothing
due_answer IsLost = dues.Lost

-- the bytes that it sends: a PDU of type 1 with the command alone, or a keep-alive of 5 seconds (AES70-3)
abbrev pub due_bytes : Decision → List ℕ
due_bytes (GivesCommand c) = pdu_encoding (Commands true (c ∷ []))
due_bytes GivesKeepAlive = pdu_encoding (OneKeepAlive (Seconds 5))
due_bytes _ = []

-- the link after it, at the present moment
abbrev pub after_due : Decision → ℕ → LinkState → LinkState
after_due (GivesCommand c) now l = record l {
  moment = now;
  sent = now;
  untaken = map (marked_sent now c.handle) l.untaken;
}
after_due GivesKeepAlive now l = record l { moment = now; sent = now }
after_due GivesNothing now l = record l { moment = now }
after_due IsLost now l = record l { moment = now; lost = true }

-- the link after `due` at a moment, by what is decided then
abbrev pub gone_on : ℕ → LinkState → LinkState
gone_on now l = after_due (decision now l) (present_moment now l) l

-- NEXT DUE. Something is due at this moment, or the link is lost; and at no earlier one, from the link's own on.
pub record IsNextDue (l : LinkState) (t : ℕ) : Type 0 where
  pub own : l.moment ≤ t
  pub due : decision t l ≡ GivesNothing → ⊥
  pub earlier : (s : ℕ) → l.moment ≤ s → s < t → decision s l ≡ GivesNothing

-- nothing is due at any moment of 64 bits, from the link's own on
pub record NeverIsDue (l : LinkState) : Type 0 where
  pub never : (s : ℕ) → l.moment ≤ s → s < 2 ^ 64 → decision s l ≡ GivesNothing

-- DATAGRAM. What it returns where so many commands were answered.
abbrev pub reception_counted : ℕ → Reception
reception_counted n = if n == 0 then receptions.NothingNew else receptions.Answered n

-- what it returns of messages, or of bytes that are no datagram
abbrev pub reception_of : Option (List Msg) → List Untaken → Reception
reception_of None us = receptions.Malformed
reception_of (Some messages) us = reception_counted (answers_by_all messages us)

-- what `datagram` returns: the address is looked at first
abbrev pub reception : Peer → Option (List Msg) → LinkState → Reception
reception from content l = if same_peer from l.device then reception_of content l.untaken else receptions.Stranger

-- the untaken commands after a datagram: one that is malformed changes nothing
abbrev pub hears_content : Option (List Msg) → List Untaken → List Untaken
hears_content None us = us
hears_content (Some messages) us = hears_all messages us

-- the link after it: it keeps the moment, whatever it returns; it was heard from where the device sent a well-formed
-- datagram
abbrev pub received : Peer → Option (List Msg) → ℕ → LinkState → LinkState
received from content now l =
    record l {
      moment = present_moment now l;
      heard = if same_peer from l.device && is_some content then present_moment now l else l.heard;
      untaken = if same_peer from l.device then hears_content content l.untaken else l.untaken;
    }

-- TAKE. The link without the command of the handle, where it has an answer.
abbrev pub taken : ℕ → LinkState → LinkState
taken h l = record l { untaken = if is_some (answer_under h l.untaken) then without_handle h l.untaken else l.untaken }
