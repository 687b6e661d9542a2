-- What the lines of the controller's scripts ask for.
use Rattle.std.specs.Prelude.{ℕ, if◌then◌else◌, List, [], ◌∷◌, codes, Option, Some, None, Result, Ok, Err}
use Rattle.std.specs.Str.{bytes_eq}
use Rattle.oca_types.specs.declared.words.Peer.{Peer}
use Rattle.oca_types.specs.Peers.{RequestFields}
use Rattle.oca_script.specs.Fields.{moment_of, peer_of, hex_of}
use Rattle.oca_script.specs.LineFields.{needs, u32_of, u16_of, u8_of}
use Rattle.oca_script.specs.declared.fault.LineFault.{LineFault}
use Rattle.oca_script.specs.declared.fault.LineFault.TheVariants as fault

-- What a line asks of a link: a command is submitted, what is due is sent, a datagram has come, or an answer is taken.
-- Moments are in milliseconds.
pub data LinkCall : Type 0 where
  Submit : (now : ℕ) (request : RequestFields) → LinkCall
  Due : (now : ℕ) → LinkCall
  Datagram : (now : ℕ) (from : Peer) (bytes : List ℕ) → LinkCall
  Take : (handle : ℕ) → LinkCall

-- ---- how many fields there are

abbrev pub one_text : List (List ℕ) → Option (List ℕ)
one_text (a ∷ []) = Some a
one_text other = None

abbrev pub two_texts : List (List ℕ) → Option (List ℕ × List ℕ)
two_texts (a ∷ b ∷ []) = Some (a, b)
two_texts other = None

-- the fields of a command: ONO LEVEL INDEX COUNT HEX
pub record CommandTexts : Type 0 where
  pub target : List ℕ
  pub level : List ℕ
  pub index : List ℕ
  pub count : List ℕ
  pub params : List ℕ

abbrev pub command_texts : List (List ℕ) → Option CommandTexts
command_texts (a ∷ b ∷ c ∷ d ∷ e ∷ []) = Some (record { target = a; level = b; index = c; count = d; params = e })
command_texts other = None

-- ---- what they ask for

-- a command
unfoldable pub command_of : CommandTexts → Result RequestFields LineFault
command_of t =
    needs fault.Number (u32_of t.target) (λ target.
    needs fault.Number (u16_of t.level) (λ level.
    needs fault.Number (u16_of t.index) (λ index.
    needs fault.Number (u8_of t.count) (λ count.
    needs fault.Hex (hex_of t.params) (λ params.
    Ok (record { target = target; level = level; index = index; count = count; params = params }))))))

-- a command that is submitted at a moment
abbrev pub submit_at : ℕ → Result RequestFields LineFault → Result LinkCall LineFault
submit_at now (Err f) = Err f
submit_at now (Ok request) = Ok (Submit now request)

abbrev pub submit_of : List ℕ → List (List ℕ) → Result LinkCall LineFault
submit_of moment rest =
    needs fault.Form (command_texts rest) (λ texts.
    needs fault.Moment (moment_of moment) (λ now. submit_at now (command_of texts)))

abbrev pub due_of : List ℕ → List (List ℕ) → Result LinkCall LineFault
due_of moment [] = needs fault.Moment (moment_of moment) (λ now. Ok (Due now))
due_of moment (a ∷ more) = Err fault.Form

-- a datagram: its moment, its sender and its bytes
unfoldable pub datagram_call_of : List ℕ → List ℕ × List ℕ → Result LinkCall LineFault
datagram_call_of moment texts =
    needs fault.Moment (moment_of moment) (λ now.
    needs fault.Peer (peer_of texts.0) (λ from.
    needs fault.Hex (hex_of texts.1) (λ bytes. Ok (Datagram now from bytes))))

abbrev pub from_of : List ℕ → List (List ℕ) → Result LinkCall LineFault
from_of moment rest = needs fault.Form (two_texts rest) (datagram_call_of moment)

abbrev pub take_of : List (List ℕ) → Result LinkCall LineFault
take_of rest = needs fault.Form (one_text rest) (λ text. needs fault.Number (u32_of text) (λ handle. Ok (Take handle)))

-- a line that begins with a moment: its second field says what it asks for
abbrev pub timed_of : List ℕ → List (List ℕ) → Result LinkCall LineFault
timed_of moment [] = Err fault.Form
timed_of moment (word ∷ rest) =
    if bytes_eq word (codes "submit") then submit_of moment rest
    else if bytes_eq word (codes "due") then due_of moment rest
    else if bytes_eq word (codes "from") then from_of moment rest
    else Err fault.Form

-- What the fields of a line ask for. A line whose first field is `take` takes an answer.
abbrev pub asked_call : List (List ℕ) → Result LinkCall LineFault
asked_call [] = Err fault.Form
asked_call (first ∷ rest) = if bytes_eq first (codes "take") then take_of rest else timed_of first rest

-- What the fields of a line of commands ask for: ONO LEVEL INDEX COUNT HEX.
abbrev pub asked_command : List (List ℕ) → Result RequestFields LineFault
asked_command fs = needs fault.Form (command_texts fs) command_of
