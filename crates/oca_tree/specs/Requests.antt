-- What an object cannot be asked (AES70-2).
use Rattle.std.specs.Prelude.{ℕ, ◌==◌, ◌&&◌, not, Bool, true, false, length, nat_lt, slice_index_or, is_none}
use Rattle.oca_model.specs.declared.request.Request.{Request}
use Rattle.oca_model.specs.declared.request.Request.TheVariants as asked
use Rattle.oca_model.specs.declared.value.Value.{Value as Setting}
use Rattle.oca_model.specs.declared.value.Value.TheVariants as set
use Rattle.oca_model.specs.Settings.{is_beyond}
use Rattle.oca_tree.specs.declared.object.Object.{Object}
use Rattle.oca_tree.specs.declared.object.Switch.{Switch}
use Rattle.oca_tree.specs.declared.object.Value.{Value}
use Rattle.oca_tree.specs.declared.object.Value.TheVariants as values

-- how many positions there are
abbrev pub positions : Value → ℕ
positions (values.Switch switch) = length switch.names.items
positions _ = 0

-- whether the position is one of the switch
abbrev pub is_position : Switch → ℕ → Bool
is_position switch n = nat_lt n (length switch.names.items)

-- whether the position is enabled
abbrev pub is_enabled : Switch → ℕ → Bool
is_enabled switch n = slice_index_or switch.enableds.items n false

-- whether the position can be the current one: it is there and enabled
abbrev pub can_be_current : Switch → ℕ → Bool
can_be_current switch n = is_position switch n && is_enabled switch n

-- a list has as many items as the switch has positions
abbrev pub fits_positions : Value → Request → Bool
fits_positions value (asked.SetPositionNames names) = length names.items == positions value
fits_positions value (asked.SetPositionEnableds flags) = length flags.items == positions value
fits_positions value _ = true

-- of a switch, a position that is not there
abbrev pub lacks_position : Value → ℕ → Bool
lacks_position (values.Switch switch) n = not (is_position switch n)
lacks_position _ n = false

-- what the object cannot be set to: a position that is not there or disabled, a setting outside its range
abbrev pub cannot_be : Value → Setting → Bool
cannot_be (values.Switch switch) (set.Switch n) = not (can_be_current switch n)
cannot_be (values.Reads r) setting = is_beyond r setting
cannot_be _ setting = false

unfoldable pub asks_out_of_range : Value → Request → Bool
asks_out_of_range value (asked.Set setting) = cannot_be value setting
asks_out_of_range value (asked.GetPositionName n) = lacks_position value n
asks_out_of_range value (asked.SetPositionName n name) = lacks_position value n
asks_out_of_range value (asked.GetPositionEnabled n) = lacks_position value n
asks_out_of_range value (asked.SetPositionEnabled n truth) = lacks_position value n
asks_out_of_range value _ = false

-- a lock of an object that is not lockable, or taking a lock off where there is none
unfoldable pub asks_invalid : Object → Request → Bool
asks_invalid o asked.LockTotal = not o.lockable
asks_invalid o asked.LockReadonly = not o.lockable
asks_invalid o asked.Unlock = is_none o.lock
asks_invalid o _ = false
