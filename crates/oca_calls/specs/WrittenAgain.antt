-- An addition of what was written of an object makes it again.
use Rattle.std.specs.Prelude.{◌≡◌, List, Some}
use Rattle.oca_tree.specs.declared.object.Object.{Object}
use Rattle.oca_tree.specs.declared.builder.Spec.{Spec}
use Rattle.oca_tree.specs.declared.start.Start.{Start}
use Rattle.oca_tree.specs.Objects.{object_of}
use Rattle.oca_tree.specs.Building.{object_of_spec}
use Rattle.oca_tree.specs.Trees.{IsSoundValue}
use Rattle.oca_tree.specs.Starts.{restored}
use Rattle.oca_tree.specs.Copies.{unlocked}
use Rattle.oca_tree.specs.Readers.{info_of}
use Rattle.oca_calls.specs.declared.spec_words.SpecWords.{SpecWords}
use Rattle.oca_calls.specs.CSpecs.{GivesSpec, GivesStart, IsSpecOf}

-- AN ADDITION OF WHAT WAS WRITTEN of an object of a tree makes the same object again, but not locked and with hardware
-- that does not refuse: so say the Spec and the Start that the struct gives, into the same container and under the same
-- number.
abbrev pub WrittenMakesAgain : Type 0
WrittenMakesAgain = (tree : List Object) (o : Object) (w : SpecWords) (spec : Spec) (start : Start) →
    object_of tree o.ono.0 ≡ Some o → IsSoundValue o.value → IsSpecOf tree (info_of o) w →
    GivesSpec w spec → GivesStart w spec.kind start →
    restored start (object_of_spec o.container.0 o.ono.0 spec) ≡ unlocked o
