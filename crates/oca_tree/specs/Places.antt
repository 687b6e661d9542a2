-- Where the objects of a tree stand: their numbers, and the blocks that contain them (AES70-1). No command changes it.
use Rattle.std.specs.Prelude.{◌≡◌, ℕ, zero, suc, ◌==◌, Bool, false, List, [], ◌∷◌, length, map, Option, Some}
use Rattle.std.specs.Option.{option_map_or}
use Rattle.std.specs.List.{find, list_any}
use Rattle.oca_tree.specs.declared.object.Object.{Object}
use Rattle.oca_tree.specs.declared.object.Value.{Value}
use Rattle.oca_tree.specs.declared.object.Value.TheVariants.{Block}

-- An object's number, the number of its container (0 for the root), and whether it is a block.
pub record Place : Type 0 where
  pub number : ℕ
  pub container : ℕ
  pub block : Bool

abbrev pub is_block_value : Value → Bool
is_block_value Block = Bool.true
is_block_value _ = false

abbrev pub place_of : Object → Place
place_of o = record { number = o.ono.0; container = o.container.0; block = is_block_value o.value }

abbrev pub places : List Object → List Place
places tree = map place_of tree

-- the place with this number
abbrev pub place_at : List Place → ℕ → Option Place
place_at ps number = find (λ p. p.number == number) ps

-- whether this is the number of a block
abbrev pub is_block : List Place → ℕ → Bool
is_block ps number = option_map_or (λ p. p.block) (place_at ps number) false

-- the number and those of the containers above it, as far as they are there, in at most so many steps
unfoldable pub chain_within : ℕ → List Place → ℕ → List ℕ
chain_within zero ps number = []
chain_within (suc steps) ps number =
    option_map_or (λ p. number ∷ chain_within steps ps p.container) (place_at ps number) []

-- the whole chain: an object, its container, the container of that, and so on up to the root. Since containers stand
-- before their members, it has no more steps than there are objects.
abbrev pub chain : List Place → ℕ → List ℕ
chain ps number = chain_within (length ps) ps number

-- how deep an object stands, the root at depth 1
abbrev pub depth : List Place → ℕ → ℕ
depth ps number = length (chain ps number)

-- The chain of containers that begins with this number reaches the block: the number is the block's, or the chain of
-- the object's container reaches it.
pub data ChainReaches (ps : List Place) (block : ℕ) : ℕ → Type 0 where
  here : (p : Place) → place_at ps block ≡ Some p → ChainReaches ps block block
  above : (number : ℕ) (p : Place) → place_at ps number ≡ Some p → ChainReaches ps block p.container →
      ChainReaches ps block number

-- whether it does; in every tree this is the relation above
abbrev pub reaches : List Place → ℕ → ℕ → Bool
reaches ps block container = list_any (λ number. number == block) (chain ps container)
