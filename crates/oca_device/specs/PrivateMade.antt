-- For private contracts: the reply of an execution, where a device makes it.
use Rattle.oca_device.specs.Words.{Reply}
use Rattle.oca_device.specs.declared.made.Made.{Made}

-- its status, ParamCount and parameters
abbrev pub reply_made : Made → Reply
reply_made m = record { status = m.status; count = m.count; params = m.params }
