-- For private contracts: where the untaken commands lie in memory. The command of the handle h lies in the slot number
-- h modulo 32, and the handle itself is not stored.
use Rattle.std.specs.Prelude.{[], ◌%◌, ◌&&◌, ◌++◌, ◌+◌, ◌-◌, ◌<◌, ◌==◌, ◌||◌, ◌∷◌, ◌≡◌, ◌≤◌, Bool, List, None, Option}
use Rattle.std.specs.Prelude.{Some, false, if◌then◌else◌, is_none, is_some, length, map, nat_le, nat_lt, slice_index_or}
use Rattle.std.specs.Prelude.{suc, true, zero, ℕ}
use Rattle.std.specs.List.{AllByRecursion}
use Rattle.std.specs.Option.{option_map}
use Rattle.oca_control.specs.Words.{most_parameter_bytes}
pub use Rattle.oca_pdu.specs.Messages.{Msg, Command, Response, KeepAlive, msg_of}
pub use Rattle.oca_pdu.specs.Limits.{most_messages}
pub use Rattle.oca_pdu.specs.Datagrams.{messages_left}
use Rattle.oca_control.specs.Answers.{AnswerFields}
use Rattle.oca_control.specs.Limits.{repeat_time, most_sendings, longest_life}
use Rattle.oca_control.specs.Untaken.{Untaken, first_due, marked_sent}
use Rattle.oca_control.specs.Links.{Request, command_under, due_bytes, Decision, GivesCommand, GivesKeepAlive}
use Rattle.oca_control.specs.Links.{GivesNothing, IsLost}

-- what a slot holds of a command
pub record Held : Type 0 where
  pub request : Request
  pub submitted : ℕ
  pub times : ℕ
  pub last : ℕ
  pub answer : Option AnswerFields

-- what a slot holds of a command that was submitted now
abbrev pub new_held : ℕ → Request → Held
new_held now r = record { request = r; submitted = now; times = 0; last = 0; answer = None }

-- its command is due
abbrev pub held_is_due : ℕ → Option Held → Bool
held_is_due now None = false
held_is_due now (Some k) = is_none k.answer && (k.times == 0 || nat_le repeat_time (now - k.last))

-- its command is late
abbrev pub held_is_late : ℕ → Option Held → Bool
held_is_late now None = false
held_is_late now (Some k) = is_none k.answer && nat_lt longest_life (now - k.submitted)

-- its command has no answer yet
abbrev pub held_waits : Option Held → Bool
held_waits None = false
held_waits (Some k) = is_none k.answer

-- the answer of its command
abbrev pub held_answer : Option Held → Option AnswerFields
held_answer None = None
held_answer (Some k) = k.answer

-- sent once more
abbrev pub held_given : ℕ → Held → Held
held_given now k =
    record { request = k.request; submitted = k.submitted; times = k.times + 1; last = now; answer = k.answer }

-- it gets the answer
abbrev pub held_answered : AnswerFields → Held → Held
held_answered answer k =
    record { request = k.request; submitted = k.submitted; times = k.times; last = k.last; answer = Some answer }

-- the command of the handle, where its slot holds one
abbrev pub untaken_at : ℕ → Option Held → List Untaken
untaken_at h None = []
untaken_at h (Some k) = (record {
  command = command_under h k.request;
  submitted = k.submitted;
  times = k.times;
  last = k.last;
  answer = k.answer;
}) ∷ []

-- the slot of the handle
abbrev pub held_at : ℕ → List (Option Held) → Option Held
held_at h slots = slice_index_or slots (h % 32) None

-- the commands of n handles from lo on
unfoldable pub untaken_from : ℕ → ℕ → List (Option Held) → List Untaken
untaken_from lo zero slots = []
untaken_from lo (suc n) slots = untaken_at lo (held_at lo slots) ++ untaken_from (lo + 1) n slots

-- the handle of the next command, 4294967296 where none is left, and the untaken commands
pub record TableState : Type 0 where
  pub next : ℕ
  pub untaken : List Untaken

-- The lowest untaken handle is low, or nothing is untaken and it is the next. All that is untaken lies in 32 handles.
pub record IsSlotTable (low next : ℕ) (slots : List (Option Held)) : Type 0 where
  pub ordered : low ≤ next
  pub near : next ≤ low + 32
  pub last : next ≤ 4294967296
  pub all : length slots ≡ 32
  pub lowest : low < next → held_at low slots ≡ None → ⊥

-- the next handle, where one is left
abbrev pub handle_left : ℕ → Option ℕ
handle_left next = if nat_lt next 4294967296 then Some next else None

-- what the first due command decides, where there is one
abbrev pub decided : Untaken → Decision
decided u = if nat_lt u.times most_sendings then GivesCommand u.command else IsLost

abbrev pub first_decided : ℕ → List Untaken → Option Decision
first_decided now us = option_map decided (first_due now us)

-- the untaken commands after that
abbrev pub after_decision : ℕ → Option Decision → List Untaken → List Untaken
after_decision now None us = us
after_decision now (Some (GivesCommand c)) us = map (marked_sent now c.handle) us
after_decision now _ us = us

-- the bytes that are sent then
abbrev pub bytes_decided : Option Decision → List ℕ
bytes_decided None = []
bytes_decided (Some d) = due_bytes d

-- The handle is the lowest due one from low on and below next; or none of them is due.
abbrev pub IsLowestDueSlot : ℕ → List (Option Held) → ℕ → ℕ → Option ℕ → Type 0
IsLowestDueSlot now slots low next None = first_due now (untaken_from low (next - low) slots) ≡ None
IsLowestDueSlot now slots low next (Some h) = (low ≤ h) × (h < next) × (held_is_due now (held_at h slots) ≡ true)
    × (first_due now (untaken_from low (next - low) slots) ≡ first_due now (untaken_at h (held_at h slots)))

-- a command is due
abbrev pub some_due : List Untaken → ℕ → Bool
some_due us s = is_some (first_due s us)

-- The slot of a handle from low on and below next; another handle has none.
abbrev pub IsPlaceOf : ℕ → ℕ → ℕ → Option ℕ → Type 0
IsPlaceOf h low next None = (low ≤ h) → (h < next) → ⊥
IsPlaceOf h low next (Some place) = (low ≤ h) × (h < next) × (place ≡ h % 32)

-- The parameters of a response in a datagram have at most 1,452 bytes.
abbrev pub IsShortResponse : Msg → Type 0
IsShortResponse (Command respond c) = Unit {0}
IsShortResponse (Response r) = length r.params ≤ most_parameter_bytes
IsShortResponse (KeepAlive form) = Unit {0}

-- so it is of each message
abbrev pub AreShortResponses : List Msg → Type 0
AreShortResponses messages = AllByRecursion IsShortResponse messages
