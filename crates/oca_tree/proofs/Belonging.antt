-- Which methods a value has.
use Rattle.oca_tree.proofs.Words.{◌≡◌, ℕ, Bool, true, false, cond, List, [], ◌∷◌, refl, sym, ap, ◌∙◌, Option, Some, None, ◌==◌, not, Access, Method, Known, MethodId, kind_from, row_at, own_methods, is_left_out, Each, is_position_reading, is_block_value}
use Rattle.oca_types.specs.declared.class.Method.TheVariants as methods
use Rattle.oca_types.specs.Methods.{method_kind, class_methods}
use Rattle.oca_model.specs.declared.reading.Reading.TheVariants as readings
use Rattle.oca_tree.specs.declared.object.Value.{Value as Held}
use Rattle.oca_tree.specs.declared.object.Value.TheVariants as held
use Rattle.oca_tree.specs.Trees.{IsSoundValue}
use Rattle.oca_tree.specs.Objects.{class_of}

abbrev pub has_state : Held → Bool
has_state (held.Reads (readings.Mute _)) = true
has_state (held.Reads (readings.Polarity _)) = true
has_state _ = false

abbrev pub has_positions : Held → Bool
has_positions (held.Switch _) = true
has_positions _ = false

abbrev pub has_setting : Held → Bool
has_setting held.Block = false
has_setting (held.Switch _) = false
has_setting (held.Reads (readings.Mute _)) = false
has_setting (held.Reads (readings.Polarity _)) = false
has_setting _ = true

abbrev pub belongs : Held → Method → Bool
belongs value methods.GetMembers = is_block_value value
belongs value methods.GetMembersRecursive = is_block_value value
belongs value methods.GetState = has_state value
belongs value methods.SetState = has_state value
belongs value methods.GetPosition = has_positions value
belongs value methods.SetPosition = has_positions value
belongs value methods.GetPositionName = has_positions value
belongs value methods.SetPositionName = has_positions value
belongs value methods.GetPositionNames = has_positions value
belongs value methods.SetPositionNames = has_positions value
belongs value methods.GetPositionEnabled = has_positions value
belongs value methods.SetPositionEnabled = has_positions value
belongs value methods.GetPositionEnableds = has_positions value
belongs value methods.SetPositionEnableds = has_positions value
belongs value methods.GetSetting = has_setting value
belongs value methods.SetSetting = has_setting value
belongs value _ = true

module _ (value : Held) where
  abbrev Belongs : ℕ × Method → Type 0
  Belongs row = belongs value row.1 ≡ true

  row_belongs : (rows : List (ℕ × Method)) (index : ℕ) (m : Method) → Each Belongs rows → row_at rows index ≡ Some m → belongs value m ≡ true
  row_belongs [] index m each e = cc
  row_belongs (row ∷ rows) index m each e = by (index == row.0) (row_belongs rows index m each.1) e
    where
      by : (b : Bool) → (row_at rows index ≡ Some m → belongs value m ≡ true) → cond b (Some row.1) (row_at rows index) ≡ Some m → belongs value m ≡ true
      by true further h = let same : row.1 ≡ m = cc in sym (ap (belongs value) same) ∙ each.0
      by false further h = further h

-- a reading is that of a position alone where a switch holds it
abbrev is_held_so : Held → Bool
is_held_so (held.Reads r) = not (is_position_reading r)
is_held_so _ = true

class_belongs : (value : Held) → is_held_so value ≡ true → Each (Belongs value) (class_methods (class_of value)).1
unfolding class_of
class_belongs (held.Reads (readings.Switch r)) so = let no : ⊥ = cc in absurd no
class_belongs (held.Reads (readings.Mute state)) so = (refl, (refl, tt))
class_belongs (held.Switch switch) so = (refl, (refl, (refl, (refl, (refl, (refl, (refl, (refl, (refl, (refl, tt))))))))))
class_belongs _ so = (refl, (refl, tt))

level_belongs : (value : Held) (level : ℕ) → is_held_so value ≡ true → Each (Belongs value) (own_methods (class_of value) level)
level_belongs value level so = by (level == 1) (level == 2) (level == (class_methods (class_of value)).0)
  where
    by : (one two own : Bool)
        → Each (Belongs value) (cond one ((1, methods.GetClassIdentification) ∷ (2, methods.GetLockable) ∷ (3, methods.LockTotal) ∷ (4, methods.Unlock) ∷ (5, methods.GetRole) ∷ (6, methods.LockReadonly) ∷ [])
        (cond two ((1, methods.GetEnabled) ∷ (2, methods.SetEnabled) ∷ (8, methods.GetLabel) ∷ (9, methods.SetLabel) ∷ (10, methods.GetOwner) ∷ [])
        (cond own (class_methods (class_of value)).1 [])))
    by true two own = (refl, (refl, (refl, (refl, (refl, (refl, tt))))))
    by false true own = (refl, (refl, (refl, (refl, (refl, tt)))))
    by false false true = class_belongs value so
    by false false false = tt

held_so : (value : Held) → IsSoundValue value → is_held_so value ≡ true
unfolding IsSoundValue
held_so (held.Reads r) sound = ap not sound.other
held_so _ sound = refl

pub known_belongs : (value : Held) → IsSoundValue value → (id : MethodId) (m : Method) (reached : Access) → method_kind (class_of value) id ≡ Known m reached → belongs value m ≡ true
unfolding method_kind
known_belongs value sound id m reached e = by (row_at (own_methods (class_of value) id.level) id.index) (is_left_out (class_of value) id) refl e
  where
    by : (found : Option Method) (left : Bool) → row_at (own_methods (class_of value) id.level) id.index ≡ found → kind_from found left ≡ Known m reached → belongs value m ≡ true
    by None true is h = cc
    by None false is h = cc
    by (Some other) left is h = let same : other ≡ m = cc in row_belongs value (own_methods (class_of value) id.level) id.index m (level_belongs value id.level (held_so value sound)) (is ∙ ap Some same)
