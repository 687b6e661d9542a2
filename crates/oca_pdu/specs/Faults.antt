-- The faults of a datagram.
use Rattle.std.specs.Prelude.{◌≡◌, ℕ}
use Rattle.oca_pdu.specs.declared.fault.PduFault.{PduFault}
use Rattle.oca_pdu.specs.declared.fault.PduFaultKind.{PduFaultKind}
use Rattle.oca_pdu.specs.declared.fault.PduFaultKind.TheVariants as kinds

-- the number of a kind of fault
abbrev pub fault_number : PduFaultKind → ℕ
fault_number kinds.Empty = 1
fault_number kinds.TooLong = 2
fault_number kinds.Sync = 3
fault_number kinds.Version = 4
fault_number kinds.PduSize = 5
fault_number kinds.PduType = 6
fault_number kinds.Count = 7
fault_number kinds.MessageSize = 8
fault_number kinds.Truncated = 9

-- the fault is of this kind and at this offset
abbrev pub IsFaultAt : PduFault → PduFaultKind → ℕ → Type 0
IsFaultAt f kind at = (f.kind ≡ kind) × (f.at ≡ at)
