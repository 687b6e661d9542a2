-- How the objects of a device come to be: a builder adds them or a text lists them, and the tree's calls change them.
-- Such objects are read back from the text that is written of them.
use Rattle.std.specs.Prelude.{◌≡◌, ◌<◌, ◌^◌, IsUtf8, ℕ, List, [], ◌∷◌, ◌++◌, None, Ok}
use Rattle.std.specs.List.{All}
use Rattle.oca_types.specs.declared.words.Peer.{Peer}
use Rattle.oca_types.specs.Peers.{CommandFields}
use Rattle.oca_tree.specs.declared.builder.Spec.{Spec}
use Rattle.oca_tree.specs.declared.object.Object.{Object}
use Rattle.oca_tree.specs.declared.object.Value.TheVariants.{Block}
use Rattle.oca_tree.specs.declared.start.Start.{Start}
use Rattle.oca_tree.specs.Building.{root, value_of, object_of_spec, add_fault}
use Rattle.oca_tree.specs.Copies.{names_in, all_unlocked}
use Rattle.oca_tree.specs.Execution.{execution}
use Rattle.oca_tree.specs.Locks.{released}
use Rattle.oca_tree.specs.LocalChanges.{LocalChange, after_change}
use Rattle.oca_tree.specs.Starts.{restored, start_fault, add_with_fault}
use Rattle.oca_textree.specs.Texts.{objects_of_text}
use Rattle.oca_textree.specs.Written.{text_of}

-- What the types of an addition's arguments say of them: two numbers of 32 bits, and texts in UTF-8.
pub record IsTyped (block number : ℕ) (spec : Spec) : Type 0 where
  pub block_fits : block < 2 ^ 32
  pub number_fits : number < 2 ^ 32
  pub role : IsUtf8 spec.role.now
  pub names : All IsUtf8 (names_in (value_of spec.kind))

-- THE OBJECTS ARE MADE BY CALLS, one after another: a builder begins with the root and adds objects, each with what was
-- stored of it or without; or the text of a file lists them; then commands are executed, objects are set at the local
-- front panel (to a value, their label, whether they are enabled, unlocked, whether their hardware refuses; or not,
-- where that is refused), and locks are released.
pub data IsMade : List Object → Type 0 where
  begun : IsMade (root ∷ [])
  begun_with : (start : Start) → IsUtf8 start.label.now → start_fault Block start ≡ None
      → IsMade (restored start root ∷ [])
  added : (tree : List Object) (room block number : ℕ) (spec : Spec) → IsMade tree → IsTyped block number spec
      → add_fault room tree block number spec ≡ None → IsMade (tree ++ object_of_spec block number spec ∷ [])
  added_with : (tree : List Object) (room block number : ℕ) (spec : Spec) (start : Start) → IsMade tree
      → IsTyped block number spec → IsUtf8 start.label.now → add_with_fault room tree block number spec start ≡ None
      → IsMade (tree ++ restored start (object_of_spec block number spec) ∷ [])
  listed : (text : List ℕ) (tree : List Object) → objects_of_text text ≡ Ok tree → IsMade tree
  executed : (tree : List Object) (peer : Peer) (command : CommandFields) → IsMade tree
      → IsMade (execution tree peer command).tree
  set_locally : (tree : List Object) (number : ℕ) (change : LocalChange) → IsMade tree
      → IsMade (after_change tree number change)
  unlocked_by : (tree : List Object) (peer : Peer) → IsMade tree → IsMade (released tree peer)

-- OBJECTS THAT CALLS MADE are read back from their text: the same, but for their locks and what their hardware refuses.
abbrev pub MadeIsReadBack : List Object → Type 0
MadeIsReadBack tree = IsMade tree → objects_of_text (text_of tree) ≡ Ok (all_unlocked tree)

-- OBJECTS THAT A TEXT LISTS are read back from the text that is written of them: the very same.
abbrev pub ListedIsReadBack : List Object → Type 0
ListedIsReadBack tree = (text : List ℕ) → objects_of_text text ≡ Ok tree → objects_of_text (text_of tree) ≡ Ok tree
