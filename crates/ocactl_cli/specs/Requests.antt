-- What the lines of `run` ask for.
use Rattle.std.specs.Prelude.{ℕ, Bool, false, if◌then◌else◌, List, [], ◌∷◌, codes, Result, Ok, Err}
use Rattle.std.specs.Str.{bytes_eq}
use Rattle.oca_types.specs.Peers.{RequestFields}
use Rattle.oca_script.specs.declared.fault.LineFault.{LineFault}
use Rattle.ocactl_replay.specs.Requests.{asked_command}

-- What a line of commands asks for: a command is sent, or all before it are to be answered first.
pub data LineAsked : Type 0 where
  Send : (request : RequestFields) → LineAsked
  Wait : LineAsked

-- the one field `wait`
abbrev pub is_wait : List (List ℕ) → Bool
is_wait (a ∷ []) = bytes_eq a (codes "wait")
is_wait other = false

abbrev pub sent : Result RequestFields LineFault → Result LineAsked LineFault
sent (Ok request) = Ok (Send request)
sent (Err f) = Err f

-- What the fields of a line ask for: `wait`, or ONO LEVEL INDEX COUNT HEX.
unfoldable pub asked_line : List (List ℕ) → Result LineAsked LineFault
asked_line fs = if is_wait fs then Ok Wait else sent (asked_command fs)
