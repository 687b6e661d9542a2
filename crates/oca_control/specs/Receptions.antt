-- WHAT BECAME OF EACH DATAGRAM over histories of calls. As in Histories the latest call stands first.
use Rattle.std.specs.Prelude.{[], ⊤, ◌&&◌, ◌<◌, ◌==◌, ◌∷◌, ◌≡◌, Bool, List, None, Option, Some, false, is_none, is_some}
use Rattle.std.specs.Prelude.{length, true, ℕ}
use Rattle.std.specs.List.{AllByRecursion, list_any}
use Rattle.oca_control.specs.Words.{Msg, Peer, same_peer}
use Rattle.oca_control.specs.declared.reception.Reception.{Reception}
use Rattle.oca_control.specs.declared.reception.Reception.TheVariants as receptions
use Rattle.oca_control.specs.Links.{LinkState}
use Rattle.oca_control.specs.Histories.{Call, Submits, SendsDue, Receives, TakesAnswer, IsHistory, answers_among}
use Rattle.oca_control.specs.Histories.{answers_to, first_of, is_untaken}

-- a handle gets its first answer in these messages: it is untaken, none came before, and one is among them
abbrev pub is_answered_first : Peer → ℕ → List Msg → List Call → Bool
is_answered_first device h messages before =
    is_untaken h before
    && (is_none (first_of (answers_to device h before)) && is_some (first_of (answers_among h messages)))

-- each number is below those behind it
abbrev pub AreRising : List ℕ → Type 0
AreRising [] = ⊤
AreRising (x ∷ more) = AllByRecursion (λ y. x < y) more × AreRising more

-- SO MANY untaken commands got their first answer in these messages: a list without repetition has just their handles.
pub record AnswersSoMany (device : Peer) (messages : List Msg) (before : List Call) (n : ℕ) : Type 0 where
  pub handles : List ℕ
  pub rising : AreRising handles
  pub each : (h : ℕ) → list_any (λ x. x == h) handles ≡ is_answered_first device h messages before
  pub number : length handles ≡ n

-- the datagram came from the device, and is well-formed
pub record AnswersOfDevice (device from : Peer) (content : Option (List Msg)) (before : List Call) (n : ℕ)
    : Type 0 where
  pub sender : same_peer from device ≡ true
  pub messages : List Msg
  pub content_is : content ≡ Some messages
  pub answers : AnswersSoMany device messages before n

-- What `datagram` returns: by the sender, then by the bytes, then by how many untaken commands it answered first.
abbrev pub IsReception : Peer → Peer → Option (List Msg) → List Call → Reception → Type 0
IsReception device from content before receptions.Stranger = same_peer from device ≡ false
IsReception device from content before receptions.Malformed = (same_peer from device ≡ true) × (content ≡ None)
IsReception device from content before receptions.NothingNew = AnswersOfDevice device from content before 0
IsReception device from content before (receptions.Answered n) = AnswersOfDevice device from content before n × (0 < n)

-- EACH DATAGRAM is answered so.
abbrev pub AnswersDatagrams : Peer → List Call → Type 0
AnswersDatagrams device [] = ⊤
AnswersDatagrams device (Receives from bytes content now returned ∷ before) =
    IsReception device from content before returned × AnswersDatagrams device before
AnswersDatagrams device (Submits request now returned ∷ before) = AnswersDatagrams device before
AnswersDatagrams device (SendsDue now returned bytes ∷ before) = AnswersDatagrams device before
AnswersDatagrams device (TakesAnswer h answer ∷ before) = AnswersDatagrams device before

-- So it is over every history of a link whose span is not 0, as no span is.
abbrev pub EveryDatagramIsCounted : Type 0
EveryDatagramIsCounted =
    (device : Peer) (first opened span : ℕ) (calls : List Call) (after : LinkState) → 0 < span →
    IsHistory device first opened span calls after → AnswersDatagrams device calls
