-- What the device said of an object, and when: for which object an order is.
use Rattle.std.specs.Prelude.{◌≡◌, ℕ, ◌-◌, ◌==◌, ◌<◌, ◌≤◌, nat_le, nat_lt, Bool, true, false, ◌&&◌, List, [], ◌∷◌, ◌++◌, length, slice_get, is_some}
use Rattle.std.specs.Prelude.{Option, Some, None}
use Rattle.std.specs.List.{find}
use Rattle.std.specs.Str.{bytes_eq}
use Rattle.oca_types.specs.declared.words.Handle.{Handle}
use Rattle.oca_model.specs.declared.value.Value.TheVariants as values
use Rattle.oca_web.specs.Labels.{label_bytes}
use Rattle.oca_web.specs.declared.question.PendingQuestion.{PendingQuestion}
use Rattle.oca_web.specs.declared.question.Question.{Question}
use Rattle.oca_web.specs.declared.order.Label.{Label}
use Rattle.oca_web.specs.declared.object.Object.{Object}
use Rattle.oca_web.specs.declared.order.Action.{Action}
use Rattle.oca_web.specs.declared.order.Action.TheVariants as actions
use Rattle.oca_web.specs.declared.order.Order.{Order}

-- the first object with this number
abbrev pub object_numbered : ℕ → List Object → Option Object
object_numbered ono objects = find (λ o. o.ono.0 == ono) objects

-- the name of this position of a switch; empty where there is none
abbrev pub name_of : Option (List ℕ) → List ℕ
name_of None = []
name_of (Some name) = name

abbrev pub name_at : ℕ → List (List ℕ) → List ℕ
name_at at names = name_of (slice_get names at)

-- ---- the object that the page showed

-- the position to which a switch is set has the name that the page showed
abbrev pub names_position_of : Action → List ℕ → Object → Bool
names_position_of (actions.Set (values.Switch at)) shown o = bytes_eq (name_at at o.names.items) shown
names_position_of _ shown o = true

abbrev pub names_position : Order → Object → Bool
names_position order o = names_position_of order.action (label_bytes order.identity.position) o

-- the block that lists the object has the role that the page showed; an empty one where no block does
abbrev pub names_block : Label → Option Object → Bool
names_block shown None = bytes_eq [] (label_bytes shown)
names_block shown (Some block) = bytes_eq block.role (label_bytes shown)

abbrev pub names_object : Order → List Object → Option Object → Bool
names_object order objects None = false
names_object order objects (Some o) = bytes_eq o.role (label_bytes order.identity.role)
    && names_block order.identity.block (object_numbered o.container.0 objects) && names_position order o

-- AN ORDER IS FOR THE OBJECT THAT THE PAGE SHOWED, as far as is known: the object of its number has the role, is in a
-- block of the role, and its position has the name that the page showed.
abbrev pub names_it : Order → List Object → Bool
names_it order objects = names_object order objects (object_numbered order.ono.0 objects)

-- ---- and the device said so just now

-- A QUESTION WAS ASKED BEHIND AN ORDER where it was submitted at a moment not before the one at which the order's
-- request was read: that is at most 5,000 ms before the order's last moment.
abbrev pub is_asked_after : Order → (moment : ℕ) → Bool
is_asked_after order moment = nat_le (order.last - 5000) moment

-- WHAT THE DEVICE SAID COUNTS FOR AN ORDER where it was asked behind the order, and at most 2,000 ms passed since then.
abbrev pub counts_for : Order → (now : ℕ) → Option ℕ → Bool
counts_for order now None = false
counts_for order now (Some moment) = nat_le (now - moment) 2000 && is_asked_after order moment

abbrev pub is_position_confirmed_of : Action → Order → (now : ℕ) → Object → Bool
is_position_confirmed_of (actions.Set (values.Switch at)) order now o = counts_for order now o.names_read
is_position_confirmed_of _ order now o = true

abbrev pub is_block_confirmed : Order → (now : ℕ) → Option Object → Bool
is_block_confirmed order now None = true
is_block_confirmed order now (Some block) = counts_for order now block.role_read

abbrev pub is_object_confirmed : (now : ℕ) → Order → List Object → Option Object → Bool
is_object_confirmed now order objects None = false
is_object_confirmed now order objects (Some o) = counts_for order now o.role_read
    && is_block_confirmed order now (object_numbered o.container.0 objects) && is_position_confirmed_of order.action order now o

-- THE DEVICE SAID SO for the order: of the role of the object, of that of its block, and where a switch is set of the
-- names of its positions.
abbrev pub is_confirmed : (now : ℕ) → Order → List Object → Bool
is_confirmed now order objects = names_it order objects && is_object_confirmed now order objects (object_numbered order.ono.0 objects)

-- ---- when it was asked

-- A QUESTION IS KEPT with its handle and the moment at which it was submitted, where fewer than 32 are.
abbrev pub KeepsQuestion : Handle → Question → (moment : ℕ) → List PendingQuestion → List PendingQuestion → Type 0
KeepsQuestion handle question moment old new =
    (length old < 32 → new ≡ old ++ record { handle = handle; question = question; moment = moment } ∷ [])
    × (32 ≤ length old → new ≡ old)

-- ---- which readings are told as old

-- A READING IS OLD where more than 1,000 ms passed since the moment behind which the device had it.
abbrev pub is_old : (now : ℕ) → Object → Bool
is_old now o = is_some o.state.reading && nat_lt 1000 (now - o.state.confirmed)
