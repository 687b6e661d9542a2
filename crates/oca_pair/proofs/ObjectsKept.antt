-- What holds of the device's objects at any time: they are a tree, their texts are texts, and the classes stay.
use Rattle.oca_pair.proofs.Words.{◌≡◌, ℕ, ◌==◌, cond, List, [], ◌∷◌, Option, Some, None, refl, sym, ap, ◌∙◌, option_map, Class, Object, after_change, class_of, object_of, released, class_of_ono}
use Rattle.oca_pair.proofs.Words.{Change, Executes, Releases, Sets, on_bool}
use Rattle.oca_tree.specs.Places.{Place}
use Rattle.oca_tree.specs.Execution.{execution}
use Rattle.oca_tree.proofs.Sound.{shapes}
use Rattle.oca_tree.proofs.TypesKept.{IsGood, command_good, command_shapes, change_good, change_shapes, released_good, released_kept}
use Rattle.oca_device.specs.LawByEvents as law

-- ---- all changes

pub objects_good : (tree : List Object) (C : List Change) → IsGood tree → IsGood (law.objects tree C)
objects_good tree [] g = g
objects_good tree (Releases p ∷ C) g = objects_good (released tree p) C (released_good tree p g)
objects_good tree (Sets number change ∷ C) g = objects_good (after_change tree number change) C (change_good tree number change g)
objects_good tree (Executes p c ∷ C) g = objects_good (execution tree p c).tree C (command_good tree p c g)

objects_shapes : (tree : List Object) (C : List Change) → shapes (law.objects tree C) ≡ shapes tree
objects_shapes tree [] = refl
objects_shapes tree (Releases p ∷ C) = objects_shapes (released tree p) C ∙ released_kept tree p
objects_shapes tree (Sets number change ∷ C) = objects_shapes (after_change tree number change) C ∙ change_shapes tree number change
objects_shapes tree (Executes p c ∷ C) = objects_shapes (execution tree p c).tree C ∙ command_shapes tree p c

-- the class by what stays
class_in_shapes : ℕ → List (Place × Class) → Option Class
class_in_shapes number [] = None
class_in_shapes number (s ∷ ss) = cond (s.0.number == number) (Some s.1) (class_in_shapes number ss)

class_by_shape : (number : ℕ) (tree : List Object) → class_of_ono tree number ≡ class_in_shapes number (shapes tree)
unfolding class_in_shapes
class_by_shape number [] = refl
class_by_shape number (o ∷ os) =
    on_bool (o.ono.0 == number) (λ b. option_map (λ (x : Object). class_of x.value) (object_of os number) ≡ class_in_shapes number (shapes os) → option_map (λ (x : Object). class_of x.value) (cond b
    (Some o) (object_of os number)) ≡ cond b (Some (class_of o.value)) (class_in_shapes number (shapes os)))
    (λ rest. refl) (λ rest. rest) (class_by_shape number os)

pub class_stays : (tree : List Object) (C : List Change) (number : ℕ) → class_of_ono (law.objects tree C) number ≡ class_of_ono tree number
class_stays tree C number =
    class_by_shape number (law.objects tree C) ∙ ap (λ ss. class_in_shapes number ss) (objects_shapes tree C) ∙ sym (class_by_shape number tree)
