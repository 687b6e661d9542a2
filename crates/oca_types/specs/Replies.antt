-- The result of a command (AES70-3).
use Rattle.std.specs.Prelude.{ℕ}
use Rattle.arrayvec.specs.ArrayVec.{ArrayVec}
use Rattle.oca_types.specs.declared.status.Status.{Status}
use Rattle.oca_types.specs.declared.words.ReplyParts.{ReplyParts}

-- OcaStatus, ParamCount, and the bytes of the parameters
pub record Reply : Type 0 where
  pub status : Status
  pub count : ℕ
  pub params : ArrayVec ℕ

-- a reply whose parameters lie elsewhere
abbrev pub reply_in : ReplyParts → Reply
reply_in r = record { status = r.status; count = r.count; params = record { items = r.params.now } }
