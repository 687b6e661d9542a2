-- The fault of a line whose object the tree refuses.
use Rattle.oca_tree.specs.declared.builder.AddFault.{AddFault}
use Rattle.oca_tree.specs.declared.builder.AddFault.TheVariants as adds
use Rattle.oca_tree.specs.declared.start.StartFault.{StartFault}
use Rattle.oca_tree.specs.declared.start.StartFault.TheVariants as starts
use Rattle.oca_script.specs.declared.object_fault.ObjectFault.{ObjectFault}
use Rattle.oca_script.specs.declared.object_fault.ObjectFault.TheVariants.{Value, Text}
use Rattle.oca_script.specs.declared.object_fault.ObjectFault.TheVariants.{Full, Reserved, Taken, Container, Depth}
use Rattle.oca_script.specs.declared.object_fault.ObjectFault.TheVariants.{Range, NoMemory}

-- why the tree refuses the object of a line
abbrev pub object_fault_of : AddFault → ObjectFault
object_fault_of adds.Full = Full
object_fault_of adds.Reserved = Reserved
object_fault_of adds.Taken = Taken
object_fault_of adds.NoSuchBlock = Container
object_fault_of adds.TooDeep = Depth
object_fault_of adds.BadText = Text
object_fault_of adds.BadRange = Range
object_fault_of adds.NoMemory = NoMemory

-- why it refuses it with what was stored of it
abbrev pub stored_fault_of : StartFault → ObjectFault
stored_fault_of (starts.Add fault) = object_fault_of fault
stored_fault_of starts.BadLabel = Text
stored_fault_of starts.BadFlags = Value
