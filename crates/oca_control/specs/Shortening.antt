-- Answers that a link has no room for: such an answer is shortened to its handle and a status.
use Rattle.std.specs.Prelude.{[], List, Option, if◌then◌else◌, length, map, nat_le, nat_lt, ℕ}
use Rattle.std.specs.Option.{option_map}
use Rattle.oca_control.specs.Words.{Command, KeepAlive, Msg, Response, most_parameter_bytes}
use Rattle.oca_types.specs.Status.{status_number}
use Rattle.oca_types.specs.declared.status.Status.TheVariants as status
use Rattle.oca_control.specs.Answers.{AnswerFields, answer_of_response}

-- An answer with more than so many bytes of parameters becomes BufferOverflow (AES70-2, OcaStatus) without parameters.
-- Any other stays.
abbrev pub shortened_answer : ℕ → AnswerFields → AnswerFields
shortened_answer most a =
    record {
      status = if nat_lt most (length a.params) then status_number status.BufferOverflow else a.status;
      count = if nat_lt most (length a.params) then 0 else a.count;
      params = if nat_lt most (length a.params) then [] else a.params;
    }

-- a response carries such an answer, under the same handle; commands and keep-alives stay
abbrev pub shortened_message : ℕ → Msg → Msg
shortened_message most (Command respond c) = Command respond c
shortened_message most (Response r) =
    let a : AnswerFields = shortened_answer most (answer_of_response r) in
    Response (record { handle = r.handle; status = a.status; count = a.count; params = a.params })
shortened_message most (KeepAlive form) = KeepAlive form

-- What a datagram holds, or bytes that are none. No response of a datagram has more than 1,452 bytes of parameters: a
-- link with room for as many keeps each answer as it came.
abbrev pub shortened : ℕ → Option (List Msg) → Option (List Msg)
shortened most content =
    if nat_le most_parameter_bytes most then content else option_map (map (shortened_message most)) content
