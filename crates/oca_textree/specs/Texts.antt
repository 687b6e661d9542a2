-- A device's objects as a text.
use Rattle.std.specs.Prelude.{ℕ, ◌+◌, if◌then◌else◌, List, [], ◌∷◌, codes, Option, Some, None, Result, Ok, Err}
use Rattle.oca_script.specs.Fields.{split_at, split_on}
use Rattle.oca_tree.specs.declared.object.Object.{Object}
use Rattle.oca_tree.specs.Building.{root}
use Rattle.oca_script.specs.declared.object_fault.ObjectFault.{ObjectFault}
use Rattle.oca_textree.specs.declared.fault.TreeFault.{TreeFault}
use Rattle.oca_textree.specs.declared.fault.TreeFault.TheVariants.{Line}
use Rattle.oca_script.specs.declared.object_fault.ObjectFault.TheVariants as fault
use Rattle.oca_textree.specs.Lines.{has_control}
use Rattle.oca_textree.specs.Stored.{after_line, after_word, rooted}

abbrev pub go_on : Result (List Object) ObjectFault → ℕ → (List Object → Result (List Object) TreeFault)
    → Result (List Object) TreeFault
go_on (Err f) number next = Err (Line number f)
go_on (Ok tree) number next = next tree

-- the objects after further lines, of which the first has this number
abbrev pub after_lines : ℕ → List Object → List (List ℕ) → Result (List Object) TreeFault
after_lines number tree [] = Ok tree
after_lines number tree (line ∷ more) = go_on (after_line tree line) number (λ t. after_lines (number + 1) t more)

-- the first line, and those behind it
abbrev pub line_before : Option (List ℕ × List ℕ) → List ℕ → List ℕ
line_before None text = text
line_before (Some p) text = p.0

abbrev pub lines_behind : Option (List ℕ × List ℕ) → List (List ℕ)
lines_behind None = []
lines_behind (Some p) = split_on 10 p.1

-- the root by the line that says what was stored of it
unfoldable pub rooted_by : List ℕ → Result (List Object) ObjectFault
rooted_by fields = if has_control fields then Err fault.Form else rooted fields

abbrev pub from_root : Option (List ℕ) → List ℕ → Result (List Object) TreeFault
from_root None text = after_lines 1 (root ∷ []) (split_on 10 text)
from_root (Some fields) text = go_on (rooted_by fields) 1 (λ tree. after_lines 2 tree (lines_behind (split_at 10 text)))

-- THE OBJECTS OF A TEXT: the root, of which the first line may say what was stored, and those of its lines, in order,
-- or
-- the first line with a fault. A line ends at a line feed.
unfoldable pub objects_of_text : List ℕ → Result (List Object) TreeFault
objects_of_text text = from_root (after_word (codes "root") (line_before (split_at 10 text) text)) text
