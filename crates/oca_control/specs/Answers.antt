-- What a device answered to a command (AES70-3).
use Rattle.std.specs.Prelude.{List, ℕ}
use Rattle.oca_control.specs.Words.{ResponseFields}
use Rattle.oca_control.specs.declared.answer.Answer.{Answer}

-- the number of the status, ParamCount and the parameters
pub record AnswerFields : Type 0 where
  pub status : ℕ
  pub count : ℕ
  pub params : List ℕ

-- the answer that a response carries (AES70-3)
abbrev pub answer_of_response : ResponseFields → AnswerFields
answer_of_response r = record { status = r.status; count = r.count; params = r.params }

-- an answer without where its parameters lie in memory
abbrev pub answer_fields : Answer → AnswerFields
answer_fields a = record { status = a.status; count = a.count; params = a.params.items }
