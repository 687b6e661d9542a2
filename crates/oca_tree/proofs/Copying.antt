-- A description of an object makes it again.
use Rattle.oca_tree.proofs.Words.{◌≡◌, ℕ, Bool, true, false, List, [], ◌∷◌, map, refl, sym, ap, ◌∙◌, Option, Some, None, if◌then◌else◌, Class, Reading, Object, Value, flags_of, with_flags, unlocked}
use Rattle.std.proofs.Common.{◌==◌}
use Rattle.std.specs.Prelude.{ℤ, nat_abs}
use Rattle.arrayvec.specs.ArrayVec.{ArrayVec}
use Rattle.oca_types.specs.declared.class.Class.TheVariants as class
use Rattle.oca_model.specs.declared.value.MuteState.TheVariants.{Muted, Unmuted}
use Rattle.oca_model.specs.declared.value.PolarityState.TheVariants.{NonInverted, Inverted}
use Rattle.oca_model.specs.declared.reading.Ranged.{Ranged}
use Rattle.oca_model.specs.declared.reading.Reading.TheVariants as readings
use Rattle.oca_model.specs.Values.{by_type, integer_type}
use Rattle.oca_tree.specs.declared.builder.Kind.{Kind}
use Rattle.oca_tree.specs.declared.builder.Kind.TheVariants as kinds
use Rattle.oca_tree.specs.declared.object.Value.TheVariants as values
use Rattle.oca_tree.specs.declared.tree.Setting.{Setting}
use Rattle.oca_tree.specs.declared.tree.Setting.TheVariants as set
use Rattle.oca_tree.specs.Objects.{class_of}
use Rattle.oca_tree.specs.Readers.{value_setting, reading_setting}
use Rattle.oca_tree.specs.Building.{value_of}
use Rattle.oca_tree.specs.Copies.{DescriptionMakesAgain, flags_in, names_in, Stored}

-- what a value is, by its class, its setting, the names and the flags of its positions
abbrev whole : {X : Type 0} → (Ranged X → Reading) → (ℤ → X) → Option Setting → Value
whole of number (Some (set.Number setting least greatest)) =
    values.Reads (of (record { setting = number setting; least = number least; greatest = number greatest }))
whole of number _ = values.Block

abbrev again_mute : Option Setting → Value
again_mute (Some (set.State n)) = if n == 1 then values.Reads (readings.Mute Muted) else values.Reads (readings.Mute Unmuted)
again_mute _ = values.Reads (readings.Mute Unmuted)

abbrev again_polarity : Option Setting → Value
again_polarity (Some (set.State n)) = if n == 1 then values.Reads (readings.Polarity NonInverted) else values.Reads (readings.Polarity Inverted)
again_polarity _ = values.Reads (readings.Polarity Inverted)

abbrev again_boolean : Option Setting → Value
again_boolean (Some (set.Truth truth)) = values.Reads (readings.Boolean truth)
again_boolean _ = values.Block

abbrev flags_or : Option (List Bool) → List Bool
flags_or None = []
flags_or (Some flags) = flags

abbrev again_switch : Option Setting → List (List ℕ) → Option (List Bool) → Value
again_switch (Some (set.Position position)) names flags = values.Switch (record { names = record { items = names }; enableds = record { items = flags_or flags }; position = position })
again_switch _ names flags = values.Block

abbrev again : Class → Option Setting → List (List ℕ) → Option (List Bool) → Value
again class.Mute s names flags = again_mute s
again class.Polarity s names flags = again_polarity s
again class.Switch s names flags = again_switch s names flags
again class.Boolean s names flags = again_boolean s
again of s names flags =
    by_type (λ _ _ reading. whole reading (λ z. z) s) (λ _ _ reading. whole reading nat_abs s) values.Block (integer_type of)

-- it holds no reading of a position, which has no setting
abbrev has_own : Value → Bool
has_own (values.Reads (readings.Switch r)) = false
has_own _ = true

-- each value is that
itself : (v : Value) → has_own v ≡ true → again (class_of v) (value_setting v) (names_in v) (flags_in v) ≡ v
unfolding class_of value_setting reading_setting names_in flags_in
itself values.Block own = refl
itself (values.Switch switch) own = refl
itself (values.Reads (readings.Mute Muted)) own = refl
itself (values.Reads (readings.Mute Unmuted)) own = refl
itself (values.Reads (readings.Polarity NonInverted)) own = refl
itself (values.Reads (readings.Polarity Inverted)) own = refl
itself (values.Reads (readings.Switch r)) own = cc
itself (values.Reads _) own = refl

same_again : (c d : Class) (s t : Option Setting) (ms ns : List (List ℕ)) (flags : Option (List Bool)) → c ≡ d → s ≡ t → ms ≡ ns → again c s ms flags ≡ again d t ns flags
same_again c d s t ms ns flags e f g =
    ap (λ x. again x s ms flags) e ∙ ap (λ x. again d x ms flags) f ∙ ap (λ x. again d t x flags) g

-- a value with flags is that of its class, its setting, its names and these flags
flagged : (v : Value) (fs : List Bool) → has_own v ≡ true → with_flags (Some fs) v ≡ again (class_of v) (value_setting v) (names_in v) (Some fs)
unfolding class_of value_setting reading_setting names_in
flagged values.Block fs own = refl
flagged (values.Switch switch) fs own = refl
flagged (values.Reads (readings.Mute Muted)) fs own = refl
flagged (values.Reads (readings.Mute Unmuted)) fs own = refl
flagged (values.Reads (readings.Polarity NonInverted)) fs own = refl
flagged (values.Reads (readings.Polarity Inverted)) fs own = refl
flagged (values.Reads (readings.Switch r)) fs own = cc
flagged (values.Reads _) fs own = refl

-- flags are those of a switch alone
ignored : (c : Class) (s : Option Setting) (names : List (List ℕ)) (flags : Option (List Bool)) → (c ≡ class.Switch → ⊥) → again c s names flags ≡ again c s names None
ignored class.Switch s names flags other = absurd (other refl)
ignored _ s names flags other = refl

-- whether it is the class of switches
abbrev is_switch : Class → Bool
is_switch class.Switch = true
is_switch _ = false

clash : true ≡ false → ⊥
clash e = cc

no_switch : (c : Class) → is_switch c ≡ false → c ≡ class.Switch → ⊥
no_switch c other e = clash (ap is_switch (sym e) ∙ other)

-- what is of another class than a switch's holds its own
own_unless : (v : Value) → is_switch (class_of v) ≡ false → has_own v ≡ true
unfolding class_of
own_unless (values.Reads (readings.Switch r)) other = cc
own_unless _ other = refl

-- what has the same class, setting and names is the same value, with the flags of the other
plainly : (v w : Value) → is_switch (class_of w) ≡ false → class_of v ≡ class_of w → value_setting v ≡ value_setting w → names_in v ≡ names_in w → v ≡ w
plainly v w other e f g =
    sym (itself v (own_unless v (ap is_switch e ∙ other)))
    ∙ same_again (class_of v) (class_of w) (value_setting v) (value_setting w) (names_in v) (names_in w) (flags_in v) e f g
    ∙ ignored (class_of w) (value_setting w) (names_in w) (flags_in v) (no_switch (class_of w) other)
    ∙ sym (ignored (class_of w) (value_setting w) (names_in w) (flags_in w) (no_switch (class_of w) other)) ∙ itself w (own_unless w other)

-- a switch has a setting
set_switch : (v : Value) → has_own v ≡ true → class_of v ≡ class.Switch → value_setting v ≡ None → ⊥
unfolding class_of value_setting
set_switch values.Block own e f = cc
set_switch (values.Switch switch) own e f = cc
set_switch (values.Reads (readings.Switch r)) own e f = cc
set_switch (values.Reads (readings.Mute s)) own e f = cc
set_switch (values.Reads _) own e f = cc

described_value : (v w : Value) → has_own v ≡ true → class_of v ≡ class_of w → value_setting v ≡ value_setting w → names_in v ≡ names_in w → with_flags (flags_in w) v ≡ w
unfolding class_of value_setting reading_setting names_in flags_in
described_value v (values.Switch switch) own e f g =
    flagged v switch.enableds.items own
    ∙ same_again (class_of v) class.Switch (value_setting v) (Some (set.Position switch.position)) (names_in v) switch.names.items (Some switch.enableds.items) e f g
described_value v (values.Reads (readings.Switch r)) own e f g = absurd (set_switch v own e f)
described_value v values.Block own e f g = plainly v values.Block refl e f g
described_value v (values.Reads (readings.Mute s)) own e f g = plainly v (values.Reads (readings.Mute s)) refl e f g
described_value v (values.Reads (readings.Polarity s)) own e f g = plainly v (values.Reads (readings.Polarity s)) refl e f g
described_value v (values.Reads r) own e f g = plainly v (values.Reads r) refl e f g

own_kind : (kind : Kind) → has_own (value_of kind) ≡ true
unfolding value_of
own_kind kinds.Block = refl
own_kind _ = refl

abbrev object_with : Object → Bool → List ℕ → List ℕ → Bool → Value → Object
object_with o lockable role label enabled value = record {
  ono = o.ono;
  container = o.container;
  lockable = lockable;
  role = role;
  label = label;
  enabled = enabled;
  value = value;
  lock = None;
  failing = false;
}

same_with : (o : Object) (a b : Bool) (c d e f : List ℕ) (g h : Bool) (v w : Value) → a ≡ b → c ≡ d → e ≡ f → g ≡ h → v ≡ w
    → object_with o a c e g v ≡ object_with o b d f h w
same_with o a b c d e f g h v w p q r s t =
    ap (λ x. object_with o x c e g v) p ∙ ap (λ x. object_with o b x e g v) q ∙ ap (λ x. object_with o b d x g v) r
    ∙ ap (λ x. object_with o b d f x v) s ∙ ap (λ x. object_with o b d f h x) t

pub made_again : DescriptionMakesAgain
made_again o spec start is =
    same_with o spec.lockable o.lockable spec.role.now o.role start.label.now o.label start.enabled o.enabled
    (with_flags (flags_of start) (value_of spec.kind)) o.value
    is.lockable is.role (ap (λ (s : Stored). s.label) is.stored) (ap (λ (s : Stored). s.enabled) is.stored)
    (ap (λ (x : Option (List Bool)). with_flags x (value_of spec.kind)) (ap (λ (s : Stored). s.flags) is.stored)
    ∙ described_value (value_of spec.kind) o.value (own_kind spec.kind) is.class is.setting is.names)

-- ---- the same but for locks

pub same_lists : (a b : ArrayVec (List ℕ)) → a.items ≡ b.items → a ≡ b
same_lists a b e = ap (λ (xs : List (List ℕ)). let v : ArrayVec (List ℕ) = record { items = xs } in v) e

pub same_bools : (a b : ArrayVec Bool) → a.items ≡ b.items → a ≡ b
same_bools a b e = ap (λ (xs : List Bool). let v : ArrayVec Bool = record { items = xs } in v) e

pub same_more : (a b xs ys : List (List ℕ)) (x y : List ℕ) → (x ∷ xs ≡ y ∷ ys → a ≡ b) → x ≡ y → xs ≡ ys → a ≡ b
same_more a b xs ys x y h e f = h (ap (λ z. z ∷ xs) e ∙ ap (λ zs. y ∷ zs) f)

pub same_objects_more : (a b xs ys : List Object) (x y : Object) → (map unlocked (x ∷ xs) ≡ map unlocked (y ∷ ys) → map unlocked a ≡ map unlocked b)
    → unlocked x ≡ unlocked y → map unlocked xs ≡ map unlocked ys → map unlocked a ≡ map unlocked b
same_objects_more a b xs ys x y h e f = h (ap (λ z. z ∷ map unlocked xs) e ∙ ap (λ zs. unlocked y ∷ zs) f)

pub same_unlocked : (a b : Object) → a.ono ≡ b.ono → a.container ≡ b.container → a.lockable ≡ b.lockable → a.enabled ≡ b.enabled → a.role ≡ b.role → a.label ≡ b.label → a.value ≡ b.value
    → unlocked a ≡ unlocked b
same_unlocked a b p q r s t u v = rw (p, q, r, s, t, u, v) refl
