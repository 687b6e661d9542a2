-- What a device notes of the objects that are not stored.
use Rattle.std.specs.Prelude.{◌≡◌, false, Option, IsSome, IsSomeAnd}
use Rattle.oca_calls.specs.declared.device.DeviceBehind.{DeviceBehind}
use Rattle.oca_calls.specs.declared.unstored.Unstored.{Unstored}

-- all that datagrams wrote is stored, and no answers wait
abbrev pub all_stored : Unstored
all_stored = record { is_behind = false; waits = false }

-- this is noted of what is not stored
abbrev pub HasUnstored : Option DeviceBehind → Unstored → Type 0
HasUnstored behind noted = IsSomeAnd behind (λ b. b.unstored ≡ noted)

-- there is a device, and this is noted of what is not stored
abbrev pub RunsUnstored : Option DeviceBehind → Unstored → Type 0
RunsUnstored behind noted = IsSomeAnd behind (λ b. IsSome b.device × (b.unstored ≡ noted))

-- what is noted stays
abbrev pub KeepsUnstored : Option DeviceBehind → Option DeviceBehind → Type 0
KeepsUnstored old new = (noted : Unstored) → HasUnstored old noted → HasUnstored new noted
