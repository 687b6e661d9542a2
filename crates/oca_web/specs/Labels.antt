-- The labels that pages give objects.
use Rattle.std.specs.Prelude.{◌≡◌, ℕ, nat_le, not, ◌==◌, ◌&&◌, Bool, List, length, min, take, IsUtf8}
use Rattle.std.specs.List.{list_all}
use Rattle.oca_web.specs.declared.order.Label.{Label}

-- no control character of ASCII is among the bytes
abbrev pub is_shown : List ℕ → Bool
is_shown text = list_all (λ b. nat_le 32 b && not (b == 127)) text

-- A TEXT THAT MAY BE A LABEL: at most 64 bytes, none of them such a character.
abbrev pub is_label : List ℕ → Bool
is_label text = nat_le (length text) 64 && is_shown text

-- the bytes of a label
abbrev pub label_bytes : Label → List ℕ
label_bytes label = take (min label.count 64) label.bytes

-- ITS TEXT: these bytes, where they are UTF-8.
abbrev pub IsTextOf : Label → List ℕ → Type 0
IsTextOf label text = IsUtf8 (label_bytes label) → text ≡ label_bytes label
