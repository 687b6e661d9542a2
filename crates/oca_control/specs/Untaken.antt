-- The commands whose answers have not been taken. In a list of them the lowest handle stands first.
use Rattle.std.specs.Prelude.{[], ◌&&◌, ◌+◌, ◌-◌, ◌==◌, ◌||◌, ◌∷◌, Bool, List, None, Option, Some, filter}
use Rattle.std.specs.Prelude.{if◌then◌else◌, is_none, is_some, map, nat_le, nat_lt, not, ℕ}
use Rattle.std.specs.List.{list_all, list_any}
use Rattle.oca_control.specs.Words.{Command, CommandFields, KeepAlive, Msg, Response}
use Rattle.oca_control.specs.Limits.{repeat_time, longest_life}
use Rattle.oca_control.specs.Answers.{AnswerFields, answer_of_response}

-- A command, when it was submitted, how often and when last it was sent, and its answer where one came. Moments are
-- in milliseconds by the link's clock; the last one of a command that was never sent says nothing.
pub record Untaken : Type 0 where
  pub command : CommandFields
  pub submitted : ℕ
  pub times : ℕ
  pub last : ℕ
  pub answer : Option AnswerFields

-- a command that was submitted now
abbrev pub new_untaken : ℕ → CommandFields → Untaken
new_untaken now c = record { command = c; submitted = now; times = 0; last = 0; answer = None }

-- A new handle lies below each untaken one plus the span.
abbrev pub span_has_room : ℕ → ℕ → List Untaken → Bool
span_has_room s h us = list_all (λ u. nat_lt h (u.command.handle + s)) us

-- A command is due while it is unanswered, and was never sent or was sent 250 ms ago or earlier.
abbrev pub is_due : ℕ → Untaken → Bool
is_due now u = is_none u.answer && (u.times == 0 || nat_le repeat_time (now - u.last))

-- A command is late while it is unanswered and was submitted more than 15,000 ms ago, whether it was ever sent or
-- not.
abbrev pub is_late : ℕ → Untaken → Bool
is_late now u = is_none u.answer && nat_lt longest_life (now - u.submitted)

-- the due command with the lowest handle
abbrev pub first_due : ℕ → List Untaken → Option Untaken
first_due now [] = None
first_due now (u ∷ us) = if is_due now u then Some u else first_due now us

-- the command of the handle is sent now
abbrev pub marked_sent : ℕ → ℕ → Untaken → Untaken
marked_sent now h u =
    record {
      command = u.command;
      submitted = u.submitted;
      times = if u.command.handle == h then u.times + 1 else u.times;
      last = if u.command.handle == h then now else u.last;
      answer = u.answer;
    }

-- the command of the handle has no answer yet
abbrev pub waits : ℕ → Untaken → Bool
waits h u = (u.command.handle == h) && is_none u.answer

-- the command of the handle gets the answer, unless it has one
abbrev pub answered : ℕ → AnswerFields → Untaken → Untaken
answered h answer u =
    record {
      command = u.command;
      submitted = u.submitted;
      times = u.times;
      last = u.last;
      answer = if waits h u then Some answer else u.answer;
    }

-- after a message: a response brings an answer; commands and keep-alives are ignored
abbrev pub hears : Msg → List Untaken → List Untaken
hears (Response r) us = map (answered r.handle (answer_of_response r)) us
hears _ us = us

-- after messages, in order
abbrev pub hears_all : List Msg → List Untaken → List Untaken
hears_all [] us = us
hears_all (m ∷ messages) us = hears_all messages (hears m us)

-- how many commands a message answers: 1 or none
abbrev pub answers_by : Msg → List Untaken → ℕ
answers_by (Response r) us = if list_any (waits r.handle) us then 1 else 0
answers_by _ us = 0

-- how many commands messages answer, in order: a second response to one counts nothing
abbrev pub answers_by_all : List Msg → List Untaken → ℕ
answers_by_all [] us = 0
answers_by_all (m ∷ messages) us = answers_by m us + answers_by_all messages (hears m us)

-- the answer that is held under the handle
abbrev pub answer_under : ℕ → List Untaken → Option AnswerFields
answer_under h [] = None
answer_under h (u ∷ us) = if u.command.handle == h then u.answer else answer_under h us

-- the lowest handle that has its answer
abbrev pub first_answered : List Untaken → Option ℕ
first_answered [] = None
first_answered (u ∷ us) = if is_some u.answer then Some u.command.handle else first_answered us

-- those with another handle
abbrev pub without_handle : ℕ → List Untaken → List Untaken
without_handle h us = filter (λ u. not (u.command.handle == h)) us

-- a command is held under the handle
abbrev pub holds : ℕ → List Untaken → Bool
holds h us = list_any (λ u. u.command.handle == h) us
