-- What is asked and in range keeps a tree one.
use Rattle.oca_tree.proofs.Words.{◌≡◌, ℕ, zero, suc, ◌<◌, Bool, true, false, cond, List, [], ◌∷◌, map, length, get_or, refl, sym, ap, ◌∙◌, arith, eqb-true, None, ◌&&◌, not, nat_lt, ◌==◌, length-set, length-map, Class, Peer, Request, Reading, class_of_reading, Object, Switch, Value, Place, place_of, places, is_block_value, without_lock_of, is_held_by, fits_positions, cannot_be, held_set_to, with_positions, with_name, enabled_at, value_changed_by, IsTree, IsSound, is_position_reading}
use Rattle.std.proofs.Common.{set as put}
use Rattle.std.specs.Prelude.{IsTrue}
use Rattle.std.proofs.lemmas.List.Elements.{All-map, All-set, All-weaker}
use Rattle.oca_types.specs.declared.class.Class.TheVariants as class
use Rattle.oca_model.specs.declared.request.Request.TheVariants as asked
use Rattle.oca_model.specs.declared.value.Value.{Value as Setting}
use Rattle.oca_model.specs.declared.value.Value.TheVariants as set
use Rattle.oca_model.specs.declared.reading.Reading.TheVariants as readings
use Rattle.oca_model.specs.Settings.{reading_set_to}
use Rattle.oca_model.proofs.Settled.{same_class, stays_typed, stays_within}
use Rattle.oca_tree.specs.declared.object.Value.TheVariants as values
use Rattle.oca_tree.specs.Objects.{class_of}
use Rattle.oca_tree.specs.Requests.{positions, is_enabled, can_be_current, asks_out_of_range, asks_invalid}
use Rattle.oca_tree.specs.Typed.{changed_by}
use Rattle.oca_tree.specs.Trees.{IsSoundValue, IsSoundSwitch}

-- ---- changing an object

abbrev Alike : Value → Value → Type 0
Alike new old = (is_block_value new ≡ is_block_value old) × (class_of new ≡ class_of old)

positions_alike : (change : Switch → Switch) (v : Value) → Alike (with_positions change v) v
unfolding class_of
positions_alike change (values.Switch switch) = (refl, refl)
positions_alike change _ = (refl, refl)

set_alike : (v : Value) (new : Setting) → Alike (held_set_to v new) v
unfolding class_of
set_alike values.Block new = (refl, refl)
set_alike (values.Reads r) new = (refl, same_class r new)
set_alike (values.Switch switch) (set.Switch n) = (refl, refl)
set_alike (values.Switch switch) _ = (refl, refl)

value_alike : (v : Value) (r : Request) → Alike (value_changed_by v r) v
value_alike v (asked.Set new) = set_alike v new
value_alike v (asked.SetPositionName n name) = positions_alike (with_name n name) v
value_alike v (asked.SetPositionNames names) = positions_alike (λ switch. record switch { names = names }) v
value_alike v (asked.SetPositionEnabled n truth) = positions_alike (enabled_at n truth) v
value_alike v (asked.SetPositionEnableds flags) = positions_alike (λ switch. record switch { enableds = flags }) v
value_alike v _ = (refl, refl)

-- of an object: its place and its class, which no command changes
abbrev pub shape_of : Object → Place × Class
shape_of o = (place_of o, class_of o.value)

abbrev pub shapes : List Object → List (Place × Class)
shapes tree = map shape_of tree

shaped : (o : Object) (r : Request) → shape_of (record o { value = value_changed_by o.value r }) ≡ shape_of o
shaped o r =
    let alike = value_alike o.value r in
    ap (λ b. (record { number = o.ono.0; container = o.container.0; block = b }, class_of (value_changed_by o.value r))) alike.0
    ∙ ap (λ c. (place_of o, c)) alike.1

pub changed_shape : (o : Object) (peer : Peer) (r : Request) → shape_of (changed_by o peer r) ≡ shape_of o
unfolding changed_by
changed_shape o peer (asked.Set new) = shaped o (asked.Set new)
changed_shape o peer (asked.SetPositionName n name) = shaped o (asked.SetPositionName n name)
changed_shape o peer (asked.SetPositionNames names) = shaped o (asked.SetPositionNames names)
changed_shape o peer (asked.SetPositionEnabled n truth) = shaped o (asked.SetPositionEnabled n truth)
changed_shape o peer (asked.SetPositionEnableds flags) = shaped o (asked.SetPositionEnableds flags)
changed_shape o peer _ = refl

pub changed_place : (o : Object) (peer : Peer) (r : Request) → place_of (changed_by o peer r) ≡ place_of o
changed_place o peer r = ap (λ (s : Place × Class). s.0) (changed_shape o peer r)

pub changed_ono : (o : Object) (peer : Peer) (r : Request) → (changed_by o peer r).ono.0 ≡ o.ono.0
changed_ono o peer r = ap (λ (p : Place). p.number) (changed_place o peer r)

-- whether a reading is that of a position is known by its class
abbrev is_switch : Class → Bool
is_switch class.Switch = true
is_switch _ = false

pub position_by_class : (r : Reading) → is_switch (class_of_reading r) ≡ is_position_reading r
position_by_class (readings.Switch r) = refl
position_by_class _ = refl

same_kind : (a b : Reading) → class_of_reading a ≡ class_of_reading b → is_position_reading a ≡ is_position_reading b
same_kind a b e = sym (position_by_class a) ∙ ap is_switch e ∙ position_by_class b

-- a position that can be the current one is there
current_there : (a b : Bool) → not (a && b) ≡ false → a ≡ true
current_there true b e = refl
current_there false b e = cc

position_there : (switch : Switch) (n : ℕ) → not (can_be_current switch n) ≡ false → n < length switch.names.items
position_there switch n e = let t = current_there (nat_lt n (length switch.names.items)) (is_enabled switch n) e in grind (arith, t)

set_sound : (v : Value) (new : Setting) → IsSoundValue v → cannot_be v new ≡ false → IsSoundValue (held_set_to v new)
unfolding IsSoundValue
set_sound values.Block new s e = tt
set_sound (values.Reads r) new s e = record { typed = stays_typed r new s.typed e; within = stays_within r new s.within e; other = same_kind (reading_set_to r new) r (same_class r new) ∙ s.other }
set_sound (values.Switch switch) (set.Switch n) s e = record { few = s.few; both = s.both; position = position_there switch n e }
set_sound (values.Switch switch) _ s e = s

-- a change of positions that keeps a switch sound
positions_sound : (change : Switch → Switch) (v : Value) → ((switch : Switch) → v ≡ values.Switch switch → IsSoundSwitch switch → IsSoundSwitch (change switch)) → IsSoundValue v → IsSoundValue (with_positions change v)
unfolding IsSoundValue
positions_sound change (values.Switch switch) keeps s = keeps switch refl s
positions_sound change _ keeps s = s

-- a list that fits is as long as the names
fits_names : (n : ℕ) (v : Value) (switch : Switch) → v ≡ values.Switch switch → (n == positions v) ≡ true → n ≡ length switch.names.items
fits_names n v switch is fits = eqb-true n (length switch.names.items) (rw is at fits)

value_sound : (v : Value) (r : Request) → IsSoundValue v → asks_out_of_range v r ≡ false → fits_positions v r ≡ true → IsSoundValue (value_changed_by v r)
unfolding asks_out_of_range
value_sound v (asked.Set new) s e f = set_sound v new s e
value_sound v (asked.SetPositionName n name) s e f =
    positions_sound (with_name n name) v (λ switch is t. record { few = rw length-set t.few; both = rw length-set t.both; position = rw length-set t.position }) s
value_sound v (asked.SetPositionNames names) s e f =
    positions_sound (λ switch. record switch { names = names }) v
    (λ switch is t. let same = fits_names (length names.items) v switch is f in record { few = rw same t.few; both = t.both ∙ sym same; position = rw same t.position }) s
value_sound v (asked.SetPositionEnabled n truth) s e f =
    positions_sound (enabled_at n truth) v (λ switch is t. record { few = t.few; both = rw length-set t.both; position = t.position }) s
value_sound v (asked.SetPositionEnableds flags) s e f =
    positions_sound (λ switch. record switch { enableds = flags }) v
    (λ switch is t. record { few = t.few; both = fits_names (length flags.items) v switch is f; position = t.position }) s
value_sound v _ s e f = s

locked_sound : (lockable : Bool) → not lockable ≡ false → IsTrue lockable
locked_sound lockable e = grind arith

pub changed_sound : (o : Object) (peer : Peer) (r : Request) → IsSound o → asks_out_of_range o.value r ≡ false → asks_invalid o r ≡ false → fits_positions o.value r ≡ true → IsSound (changed_by o peer r)
unfolding changed_by asks_invalid
changed_sound o peer asked.LockTotal s range valid f = record { value = s.value; lock = locked_sound o.lockable valid }
changed_sound o peer asked.LockReadonly s range valid f = record { value = s.value; lock = locked_sound o.lockable valid }
changed_sound o peer asked.Unlock s range valid f = record { value = s.value; lock = tt }
changed_sound o peer (asked.SetEnabled truth) s range valid f = record { value = s.value; lock = s.lock }
changed_sound o peer (asked.SetLabel text) s range valid f = record { value = s.value; lock = s.lock }
changed_sound o peer (asked.Set new) s range valid f = record { value = value_sound o.value (asked.Set new) s.value range f; lock = s.lock }
changed_sound o peer (asked.SetPositionName n name) s range valid f = record { value = value_sound o.value (asked.SetPositionName n name) s.value range f; lock = s.lock }
changed_sound o peer (asked.SetPositionNames names) s range valid f = record { value = value_sound o.value (asked.SetPositionNames names) s.value range f; lock = s.lock }
changed_sound o peer (asked.SetPositionEnabled n truth) s range valid f = record { value = value_sound o.value (asked.SetPositionEnabled n truth) s.value range f; lock = s.lock }
changed_sound o peer (asked.SetPositionEnableds flags) s range valid f = record { value = value_sound o.value (asked.SetPositionEnableds flags) s.value range f; lock = s.lock }
changed_sound o peer _ s range valid f = s

-- ---- writing an object back

places_set : (tree : List Object) (i : ℕ) (o new : Object) → i < length tree → o ≡ get_or tree i o → place_of new ≡ place_of o → places (put tree i new) ≡ places tree
places_set [] i o new within here same = absurd (omega arith)
places_set (x ∷ xs) zero o new within here same = ap (λ p. p ∷ places xs) (same ∙ ap place_of here)
places_set (x ∷ xs) (suc i) o new within here same = ap (λ ps. place_of x ∷ ps) (places_set xs i o new (omega arith) here same)

pub written_tree : (tree : List Object) (i : ℕ) (o new : Object) → i < length tree → o ≡ get_or tree i o → place_of new ≡ place_of o → IsSound new → IsTree tree → IsTree (put tree i new)
written_tree tree i o new within here same sound h = record {
  built = rw (places_set tree i o new within here same) h.built;
  objects = All-set IsSound tree i new sound h.objects;
  few = rw length-set h.few;
}

-- ---- taking locks off

without_lock_sound : (peer : Peer) (o : Object) → IsSound o → IsSound (without_lock_of peer o)
without_lock_sound peer o s = by_test (is_held_by peer o.lock)
  where
    by_test : (b : Bool) → IsSound (cond b (record o { lock = None }) o)
    by_test true = record { value = s.value; lock = tt }
    by_test false = s

without_lock_shape : (peer : Peer) (o : Object) → shape_of (without_lock_of peer o) ≡ shape_of o
without_lock_shape peer o = by_test (is_held_by peer o.lock)
  where
    by_test : (b : Bool) → shape_of (cond b (record o { lock = None }) o) ≡ shape_of o
    by_test true = refl
    by_test false = refl

pub released_shapes : (peer : Peer) (tree : List Object) → shapes (map (without_lock_of peer) tree) ≡ shapes tree
released_shapes peer [] = refl
released_shapes peer (o ∷ os) = rw (without_lock_shape peer o, released_shapes peer os) refl

pub place_shapes : (tree : List Object) → map (λ (s : Place × Class). s.0) (shapes tree) ≡ places tree
place_shapes [] = refl
place_shapes (o ∷ os) = ap (λ ps. place_of o ∷ ps) (place_shapes os)

pub same_places : (t u : List Object) → shapes t ≡ shapes u → places t ≡ places u
same_places t u e = sym (place_shapes t) ∙ ap (map (λ (s : Place × Class). s.0)) e ∙ place_shapes u

pub released_places : (peer : Peer) (tree : List Object) → places (map (without_lock_of peer) tree) ≡ places tree
released_places peer tree = same_places (map (without_lock_of peer) tree) tree (released_shapes peer tree)

pub released_tree : (peer : Peer) (old new : List Object) → new ≡ map (without_lock_of peer) old → IsTree old → IsTree new
released_tree peer old new e h = rw e (record {
  built = rw (released_places peer old) h.built;
  objects = All-map IsSound (without_lock_of peer) old (All-weaker IsSound (λ o. IsSound (without_lock_of peer o)) (without_lock_sound peer) old h.objects);
  few = rw (length-map) h.few;
})
