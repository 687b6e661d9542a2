-- The name of the status that has a number (AES70-2, OcaStatus).
use Rattle.std.specs.Prelude.{ℕ, List, Option}
use Rattle.std.specs.Option.{option_map}
use Rattle.oca_types.specs.Status.{status_name, status_with}

-- the name of the status with a number, or nothing where no status has it (AES70-2, OcaStatus)
abbrev pub status_name_of : ℕ → Option (List ℕ)
status_name_of number = option_map status_name (status_with number)
