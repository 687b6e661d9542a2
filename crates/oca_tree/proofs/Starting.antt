-- What was stored of an object leaves its place as it is.
use Rattle.oca_tree.proofs.Words.{◌≡◌, Bool, List, [], ◌∷◌, ◌++◌, refl, sym, ap, ◌∙◌, subst, arith, length-append, Option, Some, None, option_or, option_map, All-push, Object, Value, Place, place_of, places, is_block_value, IsTree, IsSound, IsBuilt, flags_of, with_flags, IsText, IsOfItsTypes}
use Rattle.oca_tree.specs.declared.object.Value.TheVariants as values
use Rattle.oca_tree.specs.declared.start.Start.{Start}
use Rattle.oca_tree.specs.declared.start.StartFault.TheVariants.{Add}
use Rattle.oca_tree.specs.Trees.{IsSoundValue, IsSoundLock}
use Rattle.oca_tree.specs.Building.{add_fault, value_of}
use Rattle.oca_tree.specs.Starts.{restored, start_fault, IsPlain, PlainAddsTheSame}
use Rattle.oca_tree.specs.Copies.{names_in}
use Rattle.oca_tree.proofs.Adding.{places_push}

flags_block : (flags : Option (List Bool)) (v : Value) → is_block_value (with_flags flags v) ≡ is_block_value v
flags_block None v = refl
flags_block (Some fs) values.Block = refl
flags_block (Some fs) _ = refl

pub restored_place : (start : Start) (o : Object) → place_of (restored start o) ≡ place_of o
restored_place start o =
    let at : Bool → Place = λ b. record { number = o.ono.0; container = o.container.0; block = b } in ap at (flags_block (flags_of start) o.value)

pub restored_sound : (start : Start) (o new : Object) → new ≡ restored start o → IsSoundValue new.value → IsSoundLock o.lockable o.lock → IsSound new
restored_sound start o new e value lock = record { value = value; lock = rw e lock }

-- so are its texts and numbers, and a label that is stored is a text
names_flags : (flags : Option (List Bool)) (v : Value) → names_in (with_flags flags v) ≡ names_in v
unfolding names_in
names_flags None v = refl
names_flags (Some fs) values.Block = refl
names_flags (Some fs) (values.Switch switch) = refl
names_flags (Some fs) (values.Reads r) = refl

pub restored_typed : (start : Start) (o new : Object) → new ≡ restored start o → IsText start.label.now → IsOfItsTypes o → IsOfItsTypes new
restored_typed start o new e label h =
    rw e (record { role = h.role; label = label; names = rw (names_flags (flags_of start) o.value) h.names; number = h.number; container = h.container })

-- another object at the same place
pub replaced_tree : (tree : List Object) (o new : Object) → place_of new ≡ place_of o → IsSound new → IsTree tree → IsTree (tree ++ o ∷ []) → IsTree (tree ++ new ∷ [])
replaced_tree tree o new same sound before h = record {
  built = subst IsBuilt (places_push tree o ∙ ap (λ p. places tree ++ p ∷ []) (sym same) ∙ sym (places_push tree new)) h.built;
  objects = All-push IsSound tree new before.objects sound;
  few = omega (arith, h.few, length-append tree (o ∷ []), length-append tree (new ∷ []));
}

-- ---- nothing stored

or_none : {X : Type 0} (o : Option X) → option_or o None ≡ o
or_none None = refl
or_none (Some x) = refl

plain_fault : (value : Value) (start : Start) → IsPlain start → start_fault value start ≡ None
unfolding start_fault
plain_fault value start p = rw (p.label, p.flags) refl

pub plain : PlainAddsTheSame
plain start p room tree container ono spec = (
  rw (p.label, p.enabled, p.flags) refl,
  ap (option_or (option_map Add (add_fault room tree container ono spec))) (plain_fault (value_of spec.kind) start p) ∙ or_none (option_map Add (add_fault room tree container ono spec)),
)
