-- For private contracts: objects and words as the program has them.
use Rattle.std.specs.Prelude.{ℕ, List}
use Rattle.ocactl_cli.specs.declared.command.Pair.{Pair}

abbrev pub pair_of : Pair → ℕ × List ℕ
pair_of p = (p.ono.0, p.word)
