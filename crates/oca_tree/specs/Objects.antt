-- Objects: their classes, their members, and the tree as the list of them in order of adding (AES70-1, AES70-2).
use Rattle.std.specs.Prelude.{ℕ, ◌==◌, Bool, List, [], ◌∷◌, if◌then◌else◌, Option}
use Rattle.std.specs.List.{find, filter}
use Rattle.oca_types.specs.declared.class.Class.{Class}
use Rattle.oca_types.specs.declared.class.Class.TheVariants as class
use Rattle.oca_tree.specs.declared.object.Object.{Object}
use Rattle.oca_tree.specs.declared.object.Value.{Value}
use Rattle.oca_model.specs.Settings.{class_of_reading}
use Rattle.oca_tree.specs.declared.object.Value.TheVariants.{Block, Switch, Reads}
use Rattle.oca_tree.specs.Places.{places, reaches}

unfoldable pub class_of : Value → Class
class_of Block = class.Block
class_of (Switch _) = class.Switch
class_of (Reads r) = class_of_reading r

abbrev pub has_number : ℕ → Object → Bool
has_number number o = o.ono.0 == number

-- the object of this number
abbrev pub object_of : List Object → ℕ → Option Object
object_of tree number = find (has_number number) tree

-- the same tree with this object in the place of the one with its number
abbrev pub with_object : List Object → Object → List Object
with_object [] new = []
with_object (o ∷ os) new = if o.ono.0 == new.ono.0 then new ∷ os else o ∷ with_object os new

-- Objects in order of adding, and for how many there is room.
pub record Store : Type 0 where
  pub room : ℕ
  pub list : List Object

-- the objects whose container is the block, in order of adding
abbrev pub members : List Object → ℕ → List Object
members tree block = filter (λ o. o.container.0 == block) tree

-- the objects whose chain of containers reaches the block, in order of adding
abbrev pub descendants : List Object → ℕ → List Object
descendants tree block = filter (λ o. reaches (places tree) block o.container.0) tree
