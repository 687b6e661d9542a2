-- An object is added at the end.
use Rattle.oca_tree.proofs.Words.{◌≡◌, ℕ, ◌+◌, ◌<◌, ◌≤◌, true, false, List, [], ◌∷◌, ◌++◌, length, refl, ap, ◌∙◌, arith, length-append, Option, Some, None, is_some, nat_le, nat_lt, ◌==◌, All-push, Object, Value, Store, object_of, place_of, places, is_block, depth, IsTree, IsSound, IsBuilt, IsFree, root, has_bad_name}
use Rattle.oca_tree.specs.declared.builder.Spec.{Spec}
use Rattle.oca_tree.specs.Trees.{IsSoundValue}
use Rattle.oca_tree.specs.Trees as trees
use Rattle.oca_tree.specs.Building.{new_object, object_of_spec, value_of, is_bad_value, add_fault}
use Rattle.oca_tree.proofs.Chains.{place_absent}

pub places_push : (tree : List Object) (o : Object) → places (tree ++ o ∷ []) ≡ places tree ++ place_of o ∷ []
places_push [] o = refl
places_push (x ∷ xs) o = ap (λ ps. place_of x ∷ ps) (places_push xs o)

none_there : (o : Option Object) → is_some o ≡ false → o ≡ None
none_there None e = refl
none_there (Some x) e = cc

pub added_tree : (tree : List Object) (o : Object) → length tree < 4096 → 4096 ≤ o.ono.0 → is_some (object_of tree o.ono.0) ≡ false → is_block (places tree) o.container.0 ≡ true
    → depth (places tree) o.container.0 < 8 → IsSound o → IsTree tree → IsTree (tree ++ o ∷ [])
added_tree tree o few number free block shallow sound h = record {
  built = rw (places_push tree o) (trees.next (places tree) (place_of o) h.built (record {
    number = number;
    untaken = place_absent tree o.ono.0 (none_there (object_of tree o.ono.0) free);
    container = block;
    shallow = shallow;
  }));
  objects = All-push IsSound tree o h.objects sound;
  few = rw length-append (omega (arith, few));
}

-- a block alone that stands where the root does is a tree
pub alone_tree : (before after : List Object) (o : Object) → before ≡ [] → after ≡ before ++ o ∷ [] → place_of o ≡ place_of root → IsSound o → IsTree after
alone_tree before after o none more place sound =
    rw (more, none) (record { built = rw place trees.root; objects = All-push IsSound [] o (λ k d h. absurd (omega arith)) sound; few = omega arith })

pub first_object : (container ono : ℕ) (spec : Spec) (role label : List ℕ) (value : Value) → role ≡ spec.role.now → label ≡ [] → value ≡ value_of spec.kind
    → record (new_object ono container spec.lockable role value) { label = label } ≡ object_of_spec container ono spec
first_object container ono spec role label value a b d =
    ap (λ (x : List ℕ). record (new_object ono container spec.lockable x value) { label = label }) a
    ∙ ap (λ (x : List ℕ). record (new_object ono container spec.lockable spec.role.now value) { label = x }) b
    ∙ ap (λ (x : Value). new_object ono container spec.lockable spec.role.now x) d

pub no_fault : (room : ℕ) (tree : List Object) (container ono : ℕ) (spec : Spec) → length tree < room → 4096 ≤ ono → is_some (object_of tree ono) ≡ false → is_block (places tree) container ≡ true
    → depth (places tree) container < 8 → (length spec.role.now == 0) ≡ false → has_bad_name spec.kind ≡ false → length spec.role.now ≤ 64 → is_bad_value (value_of spec.kind) ≡ false
    → add_fault room tree container ono spec ≡ None
unfolding add_fault
no_fault room tree container ono spec few number free block shallow full names short range =
    let a : nat_le room (length tree) ≡ false = grind arith in
    let b : nat_lt ono 4096 ≡ false = grind arith in
    let d : nat_lt 8 (depth (places tree) container + 1) ≡ false = grind arith in
    let s : nat_lt 64 (length spec.role.now) ≡ false = grind arith in
    rw (a, b, free, block, d, full, s, names, range) refl

abbrev pub store : ℕ → List Object → Store
store room list = record { room = room; list = list }

pub same_store : (a b : ℕ) (xs ys : List Object) → a ≡ b → xs ≡ ys → store a xs ≡ store b ys
same_store a b xs ys e f = ap (λ n. store n xs) e ∙ ap (store b) f
