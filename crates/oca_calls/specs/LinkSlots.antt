-- What a slot owns: nothing, or what a box of what is behind a handle does.
use base.Fml.{Fml, ftrue}
use base.Stored.{Coded}
use denote.RawPtr.{Ptr}
use Rattle.std.specs.Prelude.{Option, None, Some}
use Rattle.std.specs.Coded.{coded_option}
use Rattle.std.specs.Box.Ownership.{box_owns}
use Rattle.std.specs.Global.{Global}
use Rattle.std_heap.specs.contracts.GlobalAllocator.TheImpl.{ghosts}
use Rattle.oca_calls.specs.contracts.link.LinkBehind.{the_row}

abbrev pub link_owns : Global → Ptr → Option the_row.Denot → Fml
link_owns alloc p None = ftrue
link_owns alloc p (Some c) = box_owns (ghosts.dealloc_token alloc) the_row p c

abbrev pub link_coded : Coded (Option the_row.Denot)
link_coded = coded_option the_row.coded
