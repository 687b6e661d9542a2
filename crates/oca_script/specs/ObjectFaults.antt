-- The faults of a line that lists an object, by their words.
use Rattle.std.specs.Prelude.{List, codes, ℕ}
use Rattle.oca_script.specs.declared.object_fault.ObjectFault.{ObjectFault}
use Rattle.oca_script.specs.declared.object_fault.ObjectFault.TheVariants.{Form, Number, Class, Value, Lockable, Text}
use Rattle.oca_script.specs.declared.object_fault.ObjectFault.TheVariants.{Full, Reserved, Taken, Container, Depth}
use Rattle.oca_script.specs.declared.object_fault.ObjectFault.TheVariants.{Range, NoMemory}

abbrev pub object_fault_word : ObjectFault → List ℕ
object_fault_word Form = codes "form"
object_fault_word Number = codes "number"
object_fault_word Class = codes "class"
object_fault_word Value = codes "value"
object_fault_word Lockable = codes "lockable"
object_fault_word Text = codes "text"
object_fault_word Full = codes "full"
object_fault_word Reserved = codes "reserved"
object_fault_word Taken = codes "taken"
object_fault_word Container = codes "container"
object_fault_word Depth = codes "depth"
object_fault_word Range = codes "range"
object_fault_word NoMemory = codes "no memory"
