-- A slot may go to another thread, since what is behind it may.
use mir.Raw.{raw}
use base.Shift.{Keyless}
use denote.Memory.{lone}
use denote.RawPtr.{Ptr}
use denote.Struct.Struct.{exits_of}
use denote.Struct.Owning.{shape, fields, to}
use denote.Param.Send.{IsSend, AllSend, owning_send, struct_send, sendable}
use Rattle.std.proofs.Crossing as heap
use Rattle.std_alloc.proofs.SendSync.{quiet, lies}
use Rattle.std_heap.proofs.Global.TheSendSync as handle
use Rattle.std.specs.Prelude.{Option, None, Some}
use Rattle.std.specs.Global.{Global}
use Rattle.oca_calls.specs.LinkSlots.{link_owns}
use Rattle.oca_calls.specs.contracts.link.LinkBehind as Inner
use Rattle.oca_calls.proofs.link.LinkBehind.TheSendSync.{the_send as inner}
use Rattle.oca_calls.specs.contracts.link_slot.LinkSlot.{the_row, the_type}

keyless : (a : Global) (p : Ptr) (o : Option (Inner.the_row).Denot) → Keyless (link_owns a p o)
keyless a p None = tt
keyless a p (Some x) = (lies Inner.the_row inner p x, heap.frees.frees a (raw (lone (Inner.the_row).mir)) p)

pub send : IsSend the_row
send =
    let all : AllSend (fields the_type) = (search sendable, (handle.the_field_send, tt)) in
    owning_send the_type all (λ d. keyless d.alloc d.at d.inner)
    (λ k. quiet (to the_type) (exits_of k (fields the_type)) ((struct_send (shape the_type) all).leaving k))
