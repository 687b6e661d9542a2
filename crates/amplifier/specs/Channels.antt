-- The objects of the two channels, and what they say.
use Rattle.std.specs.Prelude.{◌≡◌, ◌+◌, ◌==◌, ℕ, ℤ, pos, Bool, true, not, List, Option, Some, None}
use Rattle.oca_tree.specs.declared.object.Object.{Object}
use Rattle.oca_tree.specs.declared.tree.Setting.{Setting}
use Rattle.oca_tree.specs.declared.tree.Setting.TheVariants as settings
use Rattle.oca_tree.specs.Readers.{setting_at}
use Rattle.amplifier.specs.declared.channels.Channel.{Channel}
use Rattle.amplifier.specs.declared.channels.Channel.TheVariants.{One, Two}
use Rattle.amplifier.specs.declared.channels.Channels.{Channels}
use Rattle.amplifier.specs.declared.channels.Levels.{Levels}

-- the block of a channel; its mute and its gain stand behind it
abbrev pub block_of : Channel → ℕ
block_of One = 4096
block_of Two = 5096

abbrev pub mute_ono : Channel → ℕ
mute_ono channel = block_of channel + 1

abbrev pub gain_ono : Channel → ℕ
gain_ono channel = block_of channel + 2

-- muted unless a mute says Unmuted
abbrev pub is_muted : Option Setting → Bool
is_muted (Some (settings.State state)) = not (state == 2)
is_muted _ = true

-- the setting of a gain, and 0 dB where there is none
abbrev pub tenths_set : Option Setting → ℤ
tenths_set (Some (settings.Number setting least greatest)) = setting
tenths_set _ = pos 0

-- what the objects say of a channel
abbrev pub levels_in : List Object → Channel → Levels
levels_in tree channel =
    record {
      muted = is_muted (setting_at tree (mute_ono channel));
      gain = tenths_set (setting_at tree (gain_ono channel));
    }

-- BOTH CHANNELS are as the objects say.
abbrev pub channels_of_objects : List Object → Channels
channels_of_objects tree = record { one = levels_in tree One; two = levels_in tree Two }
