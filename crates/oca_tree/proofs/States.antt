-- The methods of a mute and of a polarity that ask for their state and set it.
use Rattle.oca_tree.proofs.Words.{◌≡◌, ℕ, true, false, List, refl, Some, None, Result, Ok, Err, Known, Status, Peer, access, CommandFields, Object, Value, object_of, cannot_be, calls_a_write, MayCall}
use Rattle.std.specs.Prelude.{OnOk}
use Rattle.oca_types.specs.declared.class.Method.TheVariants as methods
use Rattle.oca_types.specs.Methods.{method_kind}
use Rattle.oca_model.specs.declared.reading.Reading.TheVariants as readings
use Rattle.oca_model.specs.declared.value.Value.{Value as Setting}
use Rattle.oca_model.specs.declared.value.Value.TheVariants as set
use Rattle.oca_model.specs.Settings.{is_within, with_value}
use Rattle.oca_tree.specs.declared.object.Value.TheVariants as values
use Rattle.oca_tree.specs.Locks.{lock_refuses}
use Rattle.oca_tree.specs.Objects.{class_of}
use Rattle.oca_tree.specs.PrivateSteps.{has_state}

gets : (v : Value) → has_state v ≡ true → method_kind (class_of v) (record { level = 4; index = 1 }) ≡ Known methods.GetState (access methods.GetState)
unfolding method_kind class_of
gets (values.Reads (readings.Mute s)) h = refl
gets (values.Reads (readings.Polarity s)) h = refl
gets _ h = cc

sets : (v : Value) → has_state v ≡ true → method_kind (class_of v) (record { level = 4; index = 2 }) ≡ Known methods.SetState (access methods.SetState)
unfolding method_kind class_of
sets (values.Reads (readings.Mute s)) h = refl
sets (values.Reads (readings.Polarity s)) h = refl
sets _ h = cc

module _ (o : Object) (peer : Peer) (c : CommandFields) (state : has_state o.value ≡ true) (level : c.level ≡ 4) (free : o.lock ≡ None) where
  -- each peer may ask for the state of an object without a lock
  pub may_get : c.index ≡ 1 → MayCall methods.GetState o peer c
  unfolding lock_refuses
  may_get index = (rw (level, index) (gets o.value state), rw free refl)

  -- and set it
  pub may_set : c.index ≡ 2 → MayCall methods.SetState o peer c
  unfolding lock_refuses
  may_set index = (rw (level, index) (sets o.value state), rw free refl)

  module _ (tree : List Object) (found : object_of tree c.target ≡ Some o) where
    pub get_reads : c.index ≡ 1 → false ≡ calls_a_write tree c
    get_reads index = rw (found, (may_get index).0) refl

    pub set_writes : c.index ≡ 2 → true ≡ calls_a_write tree c
    set_writes index = rw (found, (may_set index).0) refl

-- what holds anyway holds where a call succeeds
pub always : {P : Type 0} (r : Result ℕ Status) → P → OnOk r P
always (Ok n) p = p
always (Err s) p = tt

-- no state is out of range
pub each_state : (v : Value) (new : Setting) → has_state v ≡ true → cannot_be v new ≡ false
unfolding with_value is_within
each_state (values.Reads (readings.Mute s)) (set.Mute t) h = refl
each_state (values.Reads (readings.Mute s)) _ h = refl
each_state (values.Reads (readings.Polarity s)) (set.Polarity t) h = refl
each_state (values.Reads (readings.Polarity s)) _ h = refl
each_state _ _ h = cc
