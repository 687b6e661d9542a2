-- What a datagram does, by its bytes (AES70-3; *profile*).
use Rattle.std.specs.Prelude.{◌≡◌, List, Option, ℕ}
use Rattle.oca_control.specs.Words.{Msg, Peer, most_parameter_bytes}
use Rattle.oca_control.specs.declared.reception.Reception.{Reception}
use Rattle.oca_control.specs.Contents.{IsContent}
use Rattle.oca_control.specs.Links.{LinkState, reception, received}
use Rattle.oca_control.specs.Shortening.{shortened}

-- The bytes have a content, and what is returned and the link after it follow from that, where an answer may have so
-- many bytes of parameters.
pub record ReceivesWithin (most : ℕ) (from : Peer) (bytes : List ℕ) (now : ℕ) (old : LinkState) (returned : Reception)
    (new : LinkState) : Type 0 where
  pub content : Option (List Msg)
  pub holds : IsContent content bytes
  pub answer_is : returned ≡ reception from (shortened most content) old
  pub link_is : new ≡ received from (shortened most content) now old

-- where it may have as many as a datagram holds, so that each answer stays as it came
abbrev pub ReceivesDatagram : Peer → List ℕ → ℕ → LinkState → Reception → LinkState → Type 0
ReceivesDatagram from bytes now old returned new = ReceivesWithin most_parameter_bytes from bytes now old returned new
