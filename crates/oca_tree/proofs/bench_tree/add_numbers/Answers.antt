-- Nothing refuses a number of the bench device: what each addition finds is computed.
use Rattle.oca_tree.proofs.Words.{◌≡◌, refl, false, arith, nat_le}
use Rattle.oca_model.specs.Settings.{is_within}
use Rattle.oca_tree.specs.Building.{value_of, add_fault, is_bad_value}
use Rattle.oca_tree.specs.Places.{chain_within}
use Rattle.oca_tree.proofs.bench_tree.add_numbers.Goals as goal

pub add-requires : goal.add-requires
unfolding value_of add_fault is_bad_value is_within chain_within
add-requires c =
    let room = c.requires.room in
    let full : nat_le c.args.builder.now.room 5 ≡ false = grind (arith, room) in
    rw (c.lockable-trim_spec.ensures, c.requires.first, full) refl

pub add-requires-2 : goal.add-requires-2
unfolding value_of add_fault is_bad_value is_within chain_within
add-requires-2 c =
    let room = c.requires.room in
    let full : nat_le c.args.builder.now.room 6 ≡ false = grind (arith, room) in
    rw (c.in_ok-add.ensures.ok, c.lockable-trim_spec.ensures, c.lockable-lamp_spec.ensures, c.requires.first, full) refl

pub add-requires-3 : goal.add-requires-3
unfolding value_of add_fault is_bad_value is_within chain_within
add-requires-3 c =
    let room = c.requires.room in
    let full : nat_le c.args.builder.now.room 7 ≡ false = grind (arith, room) in
    rw (c.in_ok-add-2.ensures.ok, c.in_ok-add.ensures.ok, c.lockable-trim_spec.ensures, c.lockable-lamp_spec.ensures, c.requires.first, full) refl

pub returns-clause-ok : goal.returns-clause-ok
unfolding value_of
returns-clause-ok c = rw (c.in_ok-add-3.ensures.ok, c.in_ok-add-2.ensures.ok, c.in_ok-add.ensures.ok, c.lockable-trim_spec.ensures, c.lockable-lamp_spec.ensures, c.requires.first) refl
