-- What holds of the encodings and of reading, for every list of bytes.
use Rattle.std.specs.Prelude.{◌≡◌, ℕ, ◌<◌, ◌↔◌, ◌⊎◌, List, [], ◌∷◌, ◌++◌, Ok, Err}
use Rattle.std.specs.List.{flat_map, AllByRecursion}
use Rattle.oca_pdu.specs.declared.fault.PduFault.{PduFault}
use Rattle.oca_pdu.specs.Messages.{Msg, Pdu, messages_of}
use Rattle.oca_pdu.specs.Encoding.{IsDatagram}
use Rattle.oca_pdu.specs.FirstFault.{IsFirstFault}
use Rattle.oca_pdu.specs.Reading.{read_datagram}

-- each number is a byte
abbrev pub AreBytes : List ℕ → Type 0
AreBytes bytes = AllByRecursion (λ b. b < 256) bytes

-- Bytes are the encodings of one list of messages at most, however they are parted into PDUs.
abbrev pub OneListOfMessages : Type 0
OneListOfMessages = (bytes : List ℕ) (ps qs : List Pdu) → IsDatagram ps bytes → IsDatagram qs bytes →
    flat_map messages_of ps ≡ flat_map messages_of qs

-- Bytes have one first fault at most.
abbrev pub OneFirstFault : Type 0
OneFirstFault = (bytes : List ℕ) (f g : PduFault) → IsFirstFault bytes f → IsFirstFault bytes g → f ≡ g

-- No bytes are a datagram and have a first fault.
abbrev pub NoFaultOfADatagram : Type 0
NoFaultOfADatagram = (bytes : List ℕ) (ps : List Pdu) (f : PduFault) → IsDatagram ps bytes → IsFirstFault bytes f → ⊥

-- Bytes are a datagram or have a first fault.
abbrev pub DatagramOrFault : Type 0
DatagramOrFault = (bytes : List ℕ) → AreBytes bytes →
    ((ps : List Pdu) × IsDatagram ps bytes) ⊎ ((f : PduFault) × IsFirstFault bytes f)

-- Reading gives exactly the messages of a datagram, and exactly the first fault of other bytes.
pub record ReadsExactly (bytes : List ℕ) : Type 0 where
  pub messages : (ms : List Msg) →
      (read_datagram bytes ≡ Ok ms) ↔ ((ps : List Pdu) × IsDatagram ps bytes × (flat_map messages_of ps ≡ ms))
  pub fault : (f : PduFault) → (read_datagram bytes ≡ Err f) ↔ IsFirstFault bytes f

abbrev pub ReadingIsExact : Type 0
ReadingIsExact = (bytes : List ℕ) → AreBytes bytes → ReadsExactly bytes

-- A PDU that was appended to others is read back after their messages.
abbrev pub WrittenIsReadBack : Type 0
WrittenIsReadBack = (ps : List Pdu) (p : Pdu) (bytes : List ℕ) → IsDatagram (ps ++ p ∷ []) bytes →
    read_datagram bytes ≡ Ok (flat_map messages_of ps ++ messages_of p)
