use Rattle.std.proofs.Common.{◌≡◌, ◌++◌, drop, length}
use Rattle.std.specs.Prelude.{map}
use Rattle.oca_model.proofs.member.numbers_of.Given as goal

-- the numbers so far and those that are left are all
abbrev pub invariant-loop-member : goal.invariant-loop-member
invariant-loop-member l = record {
  long : length l.numbers.items ≡ l.member-index;
  all : l.numbers.items ++ map (λ m. m.ono.0) (drop l.member-index l.members) ≡ map (λ m. m.ono.0) l.members;
}
