use Rattle.oca_tree.proofs.Words.{◌≡◌, ◌≤◌, ◌<◌, refl, sym, length, arith, false, true, ◌==◌, None, Object, has_bad_name, places, is_block, depth, IsSound}
use Rattle.oca_tree.specs.Building.{is_bad_value, value_of}
use Rattle.oca_tree.proofs.Adding.{no_fault, first_object, added_tree}
use Rattle.oca_tree.proofs.TypesKept.{empty_text}
use Rattle.oca_tree.proofs.builder.object_for.Goals as goal

pub returns-clause-makes : goal.returns-clause-makes
returns-clause-makes c =
    let room : length c.args.objects.now.list < c.args.objects.now.room = omega arith in
    let few : length c.args.objects.now.list < 4096 = omega (arith, room, c.requires.most) in
    let number : 4096 ≤ c.args.ono.0 = omega arith in
    let free = sym c.if-contains.ensures in
    let block : is_block (places c.args.objects.now.list) c.args.container.0 ≡ true = sym c.in-Some.ensures.block in
    let shallow : depth (places c.args.objects.now.list) c.args.container.0 < 8 = omega (arith, c.in-Some.ensures.depth) in
    let full : (length c.args.spec.now.role.now == 0) ≡ false = grind arith in
    let names : has_bad_name c.args.spec.now.kind ≡ false = sym c.if-has_bad_name.ensures in
    let short : length c.args.spec.now.role.now ≤ 64 = c.in-Some-text_of.ensures.variant.0 refl in
    let range : is_bad_value (value_of c.args.spec.now.kind) ≡ false = c.in-Some-value_of.ensures.1 in
    let o : Object = record { ono = c.args.ono; container = c.args.container; lockable = c.args.spec.now.lockable; role = c.in-Some-text_of.role; label = c.default.result; enabled = true; value = c.in-Some-value_of.value; lock = None; failing = false } in
    let sound : IsSound o = record { value = c.in-Some-value_of.ensures.2; lock = tt } in (
      no_fault c.args.objects.now.room c.args.objects.now.list c.args.container.0 c.args.ono.0 c.args.spec.now room number free block shallow full names short range,
      first_object c.args.container.0 c.args.ono.0 c.args.spec.now c.in-Some-text_of.role c.default.result c.in-Some-value_of.value c.in-Some-text_of.ensures.value c.default.ensures c.in-Some-value_of.ensures.0,
      added_tree c.args.objects.now.list o few number free block shallow sound c.requires.tree,
      c.in-Some-value_of.ensures.2,
    )

pub returns-clause-typed : goal.returns-clause-typed
returns-clause-typed c = record {
  role = c.in-Some-text_of.ensures.typed;
  label = rw c.default.ensures empty_text;
  names = c.in-Some-value_of.ensures.3;
  number = omega arith;
  container = omega arith;
}
