-- The lines that turn knobs.
use Rattle.std.specs.Prelude.{◌≡◌, ℕ, ℤ, pos, neg_ℤ, ◌==◌, if◌then◌else◌, List, [], ◌∷◌, codes, Option, Some, None}
use Rattle.std.specs.Option.{option_map}
use Rattle.std.specs.Str.{bytes_eq}
use Rattle.oca_script.specs.Fields.{number_of, split_at, then_in}
use Rattle.oca_model.specs.declared.value.MuteState.{MuteState}
use Rattle.oca_model.specs.declared.value.MuteState.TheVariants.{Muted, Unmuted}
use Rattle.oca_model.specs.declared.value.Value.TheVariants.{Mute, Int16}
use Rattle.amplifier.specs.declared.channels.Channel.{Channel}
use Rattle.amplifier.specs.declared.channels.Channel.TheVariants.{One, Two}
use Rattle.amplifier.specs.declared.knob.Knob.{Knob}
use Rattle.amplifier.specs.Channels.{mute_ono, gain_ono}

-- a channel, by its digit
abbrev pub channel_of : List ℕ → Option Channel
channel_of text = if bytes_eq text (codes "1") then Some One else (if bytes_eq text (codes "2") then Some Two else None)

-- tenths of a decibel: one to four digits, with a minus before them where they are below 0
abbrev pub tenths_of : List ℕ → Option ℤ
tenths_of [] = None
tenths_of (first ∷ digits) =
    if first == 45 then option_map (λ n. neg_ℤ (pos n)) (number_of 4 9999 digits)
    else option_map (λ n. pos n) (number_of 4 9999 (first ∷ digits))

-- a mute in this state
abbrev pub mute_at : MuteState → Channel → Knob
mute_at state channel = record { ono = record { 0 = mute_ono channel }; value = Mute state }

abbrev pub gain_at : Channel → ℤ → Knob
gain_at channel tenths = record { ono = record { 0 = gain_ono channel }; value = Int16 tenths }

-- a gain by what stands behind the word `gain`: a channel, a space, and tenths
unfoldable pub gain_by : List ℕ → Option Knob
gain_by text =
    then_in (split_at 32 text) (λ p.
    then_in (channel_of p.0) (λ channel.
    then_in (tenths_of p.1) (λ tenths. Some (gain_at channel tenths))))

-- a knob by a line's first word and what follows the space behind it
unfoldable pub knob_by : List ℕ → List ℕ → Option Knob
knob_by word rest =
    if bytes_eq word (codes "mute") then option_map (mute_at Muted) (channel_of rest)
    else (if bytes_eq word (codes "open") then option_map (mute_at Unmuted) (channel_of rest)
    else (if bytes_eq word (codes "gain") then gain_by rest else None))

-- THE KNOB THAT A LINE TURNS: `mute CHANNEL`, `open CHANNEL` or `gain CHANNEL TENTHS`, with single spaces.
unfoldable pub knob_of : List ℕ → Option Knob
knob_of line = then_in (split_at 32 line) (λ p. knob_by p.0 p.1)
