-- The bench device: a desk with one object of each form.
use Rattle.std.specs.Prelude.{ℕ, zero, suc, ◌+◌, ◌*◌, true, false, List, [], ◌∷◌, ◌++◌, codes, pos, negsuc}
use Rattle.oca_model.specs.declared.value.MuteState.TheVariants.{Muted}
use Rattle.oca_model.specs.declared.value.PolarityState.TheVariants.{NonInverted}
use Rattle.oca_model.specs.declared.reading.Reading.TheVariants.{Mute, Polarity, Boolean, Int16, Uint8}
use Rattle.oca_tree.specs.declared.object.Object.{Object}
use Rattle.oca_tree.specs.declared.object.Value.TheVariants.{Block, Switch, Reads}
use Rattle.oca_tree.specs.Building.{new_object, root, number}

abbrev pub bench_objects : List Object
bench_objects =
    root
    ∷ new_object 4096 100 true (codes "desk") Block
    ∷ new_object 4097 4096 true (codes "mute") (Reads (Mute Muted))
    ∷ new_object 4098 4096 true (codes "polarity") (Reads (Polarity NonInverted))
    ∷ new_object 4099 4096 true (codes "input") (Switch (record {
      names = record { items = codes "Line" ∷ codes "Mic" ∷ codes "Off" ∷ [] };
      enableds = record { items = true ∷ true ∷ true ∷ [] };
      position = 0;
    }))
    ∷ new_object 4100 4096 true (codes "trim") (number Int16 (pos 0) (negsuc 599) (pos 600))
    ∷ new_object 4101 4096 true (codes "lamp") (Reads (Boolean false))
    ∷ new_object 4102 4096 false (codes "dim") (number Uint8 10 0 100)
    ∷ []

-- the strip of a channel, whose block has this number
abbrev pub strip : ℕ → List Object
strip first =
    new_object first 100 true (codes "strip") Block
    ∷ new_object (first + 1) first true (codes "mute") (Reads (Mute Muted))
    ∷ new_object (first + 2) first true (codes "polarity") (Reads (Polarity NonInverted))
    ∷ new_object (first + 3) first true (codes "trim") (number Int16 (pos 0) (negsuc 599) (pos 600))
    ∷ []

-- the strips of so many channels, in order
abbrev pub strips : ℕ → List Object
strips zero = []
strips (suc n) = strips n ++ strip (4103 + 4 * n)

-- the bench device with so many channels
abbrev pub bench_with : ℕ → List Object
bench_with channels = bench_objects ++ strips channels
