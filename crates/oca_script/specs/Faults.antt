-- How the faults of a script are printed and numbered.
use Rattle.std.specs.Prelude.{ℕ, List, codes}
use Rattle.oca_script.specs.declared.fault.LineFault.{LineFault}
use Rattle.oca_script.specs.declared.fault.LineFault.TheVariants.{TooLong, Form, Moment, Number, Peer, Hex}
use Rattle.oca_script.specs.declared.fault.ReplayFault.{ReplayFault}
use Rattle.oca_script.specs.declared.fault.ReplayFault.TheVariants.{Line, Read, Write, TooMuch}

abbrev pub fault_word : LineFault → List ℕ
fault_word TooLong = codes "too long"
fault_word Form = codes "form"
fault_word Moment = codes "moment"
fault_word Number = codes "number"
fault_word Peer = codes "peer"
fault_word Hex = codes "hex"

abbrev pub script_fault_number : ReplayFault → ℕ
script_fault_number (Line number fault) = 1
script_fault_number Read = 2
script_fault_number Write = 3
script_fault_number TooMuch = 4
