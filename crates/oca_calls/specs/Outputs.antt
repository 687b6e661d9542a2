-- What the calls of a device write, and how it is put where C wants it.
use Rattle.std.specs.Prelude.{◌≡◌, ◌⊎◌, ℕ, ◌<◌, ◌≤◌, ◌^◌, nat_le, List, [], ◌∷◌, ◌++◌, take, drop, length, min, Option}
use Rattle.std.specs.Prelude.{◌+◌, ◌*◌, Bool, Some, None, pos, nat_abs, int_lt, if◌then◌else◌}
use Rattle.oca_types.specs.declared.class.Class.{Class}
use Rattle.oca_types.specs.declared.class.Class.TheVariants as classes
use Rattle.oca_types.specs.declared.words.MethodId.{MethodId}
use Rattle.oca_types.specs.Status.{status_number}
use Rattle.oca_tree.specs.declared.object.Lock.{Lock}
use Rattle.oca_tree.specs.declared.object.LockKind.{LockKind}
use Rattle.oca_tree.specs.declared.object.LockKind.TheVariants as locks
use Rattle.oca_tree.specs.declared.tree.ObjectInfo.{ObjectInfo}
use Rattle.oca_tree.specs.declared.tree.Setting.{Setting}
use Rattle.oca_tree.specs.declared.tree.Setting.TheVariants as settings
use Rattle.oca_pdu.specs.Faults.{fault_number}
use Rattle.oca_device.specs.declared.effect.Effect.{Effect}
use Rattle.oca_device.specs.declared.effect.CommandOutcome.{CommandOutcome}
use Rattle.oca_device.specs.declared.effect.CommandOutcome.TheVariants as outcome
use Rattle.oca_device.specs.declared.verdict.Verdict.{Verdict}
use Rattle.oca_device.specs.declared.verdict.Verdict.TheVariants.{Served, Malformed, NoRoom}
use Rattle.oca_types.specs.declared.words.Peer.{Peer}
use Rattle.oca_types.specs.Sizes.{DeviceSizes}
use Rattle.oca_device.specs.States.{State}
use Rattle.oca_device.specs.Lapses.{IsNextLapse, NeverLapses}
use Rattle.oca_calls.specs.declared.reading.Reading.{Reading}

-- a place after words were put at its front, as many as it has room for
abbrev pub put_words : {X : Type 0} → List X → List X → List X
put_words words place =
    let count = min (length words) (length place) in take count words ++ drop count place

-- Words are written: as many as the place has room for, how many there are, and whether all had room.
abbrev pub WritesWords : List ℕ → List ℕ → List ℕ → ℕ → ℕ → Type 0
WritesWords words old new count number =
    (new ≡ put_words words old) × (count ≡ length words)
    × (number ≡ (if nat_le (length words) (length old) then 0 else 14))

-- Bytes are written: they stand at the front of the place, where it has room for them, and the bytes behind them are as
-- they were; else the place is as it was. And it is written how many they are.
abbrev pub WritesToBuffer : List ℕ → List ℕ → List ℕ → ℕ → ℕ → Type 0
WritesToBuffer bytes old new size number =
    (size ≡ length bytes) × (((length bytes ≤ length old) × (number ≡ 0) × (new ≡ bytes ++ drop (length bytes) old))
    ⊎ ((length old < length bytes) × (number ≡ 14) × (new ≡ old)))

-- the words of a verdict
abbrev pub verdict_words : Verdict → List ℕ
verdict_words (Served executed kept old reused) = 0 ∷ executed ∷ kept ∷ old ∷ reused ∷ 0 ∷ 0 ∷ []
verdict_words (Malformed fault) = 1 ∷ 0 ∷ 0 ∷ 0 ∷ 0 ∷ fault_number fault.kind ∷ fault.at ∷ []
verdict_words NoRoom = 2 ∷ 0 ∷ 0 ∷ 0 ∷ 0 ∷ 0 ∷ 0 ∷ []

-- the number of a method: the level in the upper 16 bits
abbrev pub method_number : MethodId → ℕ
method_number method = method.level * 65536 + method.index

-- the words of what a device did with a command: the number of that, and the status of an execution
abbrev pub outcome_words : CommandOutcome → List ℕ
outcome_words (outcome.Executed status) = 1 ∷ status_number status ∷ []
outcome_words outcome.Duplicate = 2 ∷ 0 ∷ []
outcome_words outcome.Old = 3 ∷ 0 ∷ []
outcome_words outcome.Reused = 4 ∷ 0 ∷ []

-- the words of an effect: the command's object, its method, and what the device did
abbrev pub effect_words : Effect → List ℕ
effect_words effect = effect.target.0 ∷ method_number effect.method ∷ outcome_words effect.outcome

-- An effect is written, as far as there is room; or that there is none at this index.
abbrev pub WritesEffect : Option Effect → List ℕ → List ℕ → ℕ → Type 0
WritesEffect None old new number = (number ≡ 13) × (new ≡ old)
WritesEffect (Some effect) old new number = (number ≡ 0) × (new ≡ put_words (effect_words effect) old)

-- the number of a class
abbrev pub class_number : Class → ℕ
class_number classes.Block = 1
class_number classes.Mute = 2
class_number classes.Polarity = 3
class_number classes.Switch = 4
class_number classes.Boolean = 5
class_number classes.Int8 = 6
class_number classes.Int16 = 7
class_number classes.Int32 = 8
class_number classes.Int64 = 9
class_number classes.Uint8 = 10
class_number classes.Uint16 = 11
class_number classes.Uint32 = 12
class_number classes.Uint64 = 13

-- the words of an object: its number, its container's, its class and how many bytes its role has
abbrev pub object_words : ObjectInfo → List ℕ
object_words o = o.ono.0 ∷ o.container.0 ∷ class_number o.class ∷ length o.role ∷ []

-- An object is written, with its role, as far as there is room; or that there is none at this index.
abbrev pub WritesObject : Option ObjectInfo → List ℕ → List ℕ → List ℕ → List ℕ → ℕ → Type 0
WritesObject None old new role role' number = (number ≡ 13) × (new ≡ old) × (role' ≡ role)
WritesObject (Some o) old new role role' number =
    (number ≡ 0) × (new ≡ put_words (object_words o) old) × (role' ≡ put_words o.role role)

-- the number of a kind of lock
abbrev pub lock_number : LockKind → ℕ
lock_number locks.Total = 1
lock_number locks.Readonly = 2

-- A lock is written with its holder's address and port; or that there is none.
abbrev pub WritesLock : Option Lock → ℕ → ℕ → ℕ → ℕ → Type 0
WritesLock None kind ip port number = number ≡ 13
WritesLock (Some lock) kind ip port number =
    (number ≡ 0) × (kind ≡ lock_number lock.kind) × (ip ≡ lock.holder.ip) × (port ≡ lock.holder.port)

-- Whether the hardware of an object refuses is written; or that there is no such object.
abbrev pub WritesFailing : Option Bool → Bool → ℕ → Type 0
WritesFailing None failing number = number ≡ 16
WritesFailing (Some truth) failing number = (number ≡ 0) × (failing ≡ truth)

-- A peer is written by its address and port; or that there is none at this index.
abbrev pub WritesPeer : Option Peer → ℕ → ℕ → ℕ → Type 0
WritesPeer None ip port number = number ≡ 13
WritesPeer (Some peer) ip port number = (number ≡ 0) × (ip ≡ peer.ip) × (port ≡ peer.port)

-- the words of a setting
abbrev pub reading_of : Setting → Reading
reading_of (settings.State state) = record { kind = 1; negative = 0; magnitude = state }
reading_of (settings.Position position) = record { kind = 2; negative = 0; magnitude = position }
reading_of (settings.Truth truth) = record { kind = 3; negative = 0; magnitude = if truth then 1 else 0 }
reading_of (settings.Number setting least greatest) =
    record { kind = 4; negative = if int_lt setting (pos 0) then 1 else 0; magnitude = nat_abs setting }

-- a setting of at most 64 bits, as each object has
abbrev pub FitsReading : Setting → Type 0
FitsReading (settings.State state) = Unit {0}
FitsReading (settings.Position position) = Unit {0}
FitsReading (settings.Truth truth) = Unit {0}
FitsReading (settings.Number setting least greatest) = nat_abs setting < 2 ^ 64

-- A setting is written; or that it does not fit, or that there is none.
abbrev pub WritesSetting : Option Setting → Reading → ℕ → Type 0
WritesSetting None reading number = number ≡ 13
WritesSetting (Some setting) reading number =
    ((number ≡ 0) × (reading ≡ reading_of setting)) ⊎ ((number ≡ 14) × (FitsReading setting → ⊥))

-- when a clock reading next changes something: the moment; or that there is none within 64 bits
abbrev pub WritesNextLapse : DeviceSizes → State → ℕ → ℕ → Type 0
WritesNextLapse w s moment number = ((number ≡ 0) × IsNextLapse w s moment) ⊎ ((number ≡ 13) × NeverLapses w s)
