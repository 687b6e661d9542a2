-- The lines as they are written from what a tree answers of an object.
use Rattle.std.specs.Prelude.{ℕ, ◌≤◌, ◌==◌, ◌-◌, ◌^◌, if◌then◌else◌, Bool, List, [], ◌∷◌, ◌++◌, length, codes, Option}
use Rattle.std.specs.Prelude.{Some, None, ◌≤ℤ◌}
use Rattle.oca_tree.specs.declared.object.Object.{Object}
use Rattle.oca_tree.specs.declared.tree.ObjectInfo.{ObjectInfo}
use Rattle.oca_tree.specs.Readers.{setting_at}
use Rattle.oca_tree.specs.Copies.{Stored, stored_at, names_of_ono, lockable_at}
use Rattle.oca_textree.specs.Written.{place_fields, value_fields, end_fields, start_fields}

abbrev pub stored_flags : Option Stored → Option (List Bool)
stored_flags None = None
stored_flags (Some stored) = stored.flags

abbrev pub end_text : Option Bool → List ℕ → Option Stored → List ℕ
end_text (Some lockable) role (Some stored) = end_fields lockable role stored.enabled stored.label
end_text _ role _ = []

abbrev pub root_text : Option Stored → List ℕ
root_text None = []
root_text (Some stored) = codes "root " ++ start_fields stored.enabled stored.label

abbrev pub object_text : List Object → ObjectInfo → List ℕ
object_text tree info =
    place_fields info.ono.0 info.container.0
    ++ value_fields info.class (setting_at tree info.ono.0) (names_of_ono tree info.ono.0)
    (stored_flags (stored_at tree info.ono.0))
    ++ end_text (lockable_at tree info.ono.0) info.role (stored_at tree info.ono.0)

abbrev pub tree_line_text : List Object → ObjectInfo → List ℕ
tree_line_text tree info =
    (if info.container.0 == 0 then root_text (stored_at tree info.ono.0) else object_text tree info)
    ++ 10 ∷ []

-- ---- what fits a line

abbrev pub few_flags : Option (List Bool) → ℕ
few_flags None = 0
few_flags (Some flags) = length flags

-- what a tree answers of the object with this number fits a line
pub record Fits (tree : List Object) (number : ℕ) : Type 0 where
  pub names : length (names_of_ono tree number) ≤ 16
  pub flags : few_flags (stored_flags (stored_at tree number)) ≤ 16
