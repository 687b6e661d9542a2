-- What a number of an option may be.
use Rattle.std.specs.Prelude.{ℕ, ◌≤◌}
use Rattle.oca_program.specs.declared.form.Form.{Form}
use Rattle.oca_program.specs.declared.form.Form.TheVariants as form

-- a number that a form allows
abbrev pub IsInForm : Form → ℕ → Type 0
IsInForm (form.Number digits least largest) n = (least ≤ n) × (n ≤ largest)
IsInForm other n = ⊥
