-- An addition of what was written of an object makes it again.
use Rattle.std.proofs.Common.{◌≡◌, ℕ, ◌<◌, ◌^◌, Bool, true, false, List, length, refl, sym, ap, ◌∙◌, subst, arith, ℤ, to_z, inl, inr}
use Rattle.std.specs.Prelude.{Option, Some, None, IfSome, ◌==◌, if◌then◌else◌, pos, FitsSigned}
use Rattle.std.specs.Int.{w64, byte_len, cast_unsigned, from_bool}
use Rattle.std.specs.Option.{option_and_then, option_map}
use Rattle.std.proofs.lemmas.Bool.{eqb-true}
use Rattle.std.proofs.lemmas.Int.{to_z-of_z, to_z_pos}
use Rattle.oca_types.specs.declared.class.Class.{Class}
use Rattle.oca_types.specs.declared.class.Class.TheVariants as class
use Rattle.oca_model.specs.declared.value.Value.{Value}
use Rattle.oca_model.specs.declared.value.Value.TheVariants as values
use Rattle.oca_model.specs.declared.reading.Ranged.{Ranged}
use Rattle.oca_model.specs.declared.reading.Reading.{Reading}
use Rattle.oca_model.specs.declared.reading.Reading.TheVariants as readings
use Rattle.oca_model.specs.Settings.{class_of_reading}
use Rattle.oca_model.specs.Values.{IntegerType, Signed, Unsigned, class_of_value, integer_type, mute_number, polarity_number, signed_number, unsigned_number}
use Rattle.oca_model.specs.declared.value.MuteState.{MuteState}
use Rattle.oca_model.specs.declared.value.MuteState.TheVariants.{Muted, Unmuted}
use Rattle.oca_model.specs.declared.value.PolarityState.{PolarityState}
use Rattle.oca_model.specs.declared.value.PolarityState.TheVariants.{NonInverted, Inverted}
use Rattle.oca_model.specs.Readings.{All3, IsReading}
use Rattle.oca_tree.specs.declared.object.Object.{Object}
use Rattle.oca_tree.specs.declared.object.Value.{Value as Held}
use Rattle.oca_tree.specs.declared.object.Value.TheVariants as held
use Rattle.oca_tree.specs.declared.builder.Kind.{Kind}
use Rattle.oca_tree.specs.declared.builder.Kind.TheVariants as kinds
use Rattle.oca_tree.specs.declared.tree.Setting.{Setting}
use Rattle.oca_tree.specs.declared.tree.Setting.TheVariants as settings
use Rattle.oca_tree.specs.Building.{value_of}
use Rattle.oca_tree.specs.Copies.{DescriptionMakesAgain, Stored, stored_of, flags_in, names_in, names_of_ono, names_of_one}
use Rattle.oca_tree.specs.Objects.{class_of}
use Rattle.oca_tree.specs.Readers.{number_setting, reading_setting, value_setting}
use Rattle.oca_tree.specs.Starts.{flags_of}
use Rattle.oca_tree.specs.Trees.{IsSoundValue, is_position_reading}
use Rattle.oca_calls.specs.declared.value_words.ReadingWords.{ReadingWords}
use Rattle.oca_calls.specs.declared.value_words.ValueWords.{ValueWords}
use Rattle.oca_calls.specs.Calls.{IsSwitch, name_bytes}
use Rattle.oca_calls.specs.CSpecs.{AreSettingWords, GivesKind, HasBits, IsKindOf, IsNumberWords, flags_for, integer_reading, is_yes, of_class, position_flags, ranged, reading_of_values, texts_of}
use Rattle.oca_calls.specs.CValues.{AreWordsOf, bits_of_value}
use Rattle.oca_calls.specs.WrittenAgain.{WrittenMakesAgain}
use Rattle.oca_calls.specs.Outputs.{class_number}
use Rattle.oca_calls.proofs.Integers.{IsInteger, integer, signed_narrow}

-- ---- classes

same_class : (a b : Class) → class_number a ≡ class_number b → a ≡ b
same_class class.Block class.Block e = refl
same_class _ class.Block e = cc
same_class _ _ e = cc

-- ---- the integer types

-- a reading of an integer type, and how an object that reads so is set
abbrev IsIntegers : Option IntegerType → Reading → Type 0
IsIntegers None o = Unit {0}
IsIntegers (Some (Signed w _ reading)) o = (r : Ranged ℤ) × (o ≡ reading r) × All3 (FitsSigned w) r × (reading_setting o ≡ Some (number_setting (λ z. z) r))
IsIntegers (Some (Unsigned w _ reading)) o = (r : Ranged ℕ) × (o ≡ reading r) × All3 (λ n. n < 256 ^ byte_len w) r × (reading_setting o ≡ Some (number_setting pos r))

integers : (o : Reading) → IsReading o → IsIntegers (integer_type (class_of_reading o)) o
unfolding reading_setting
integers (readings.Mute s) typed = tt
integers (readings.Polarity s) typed = tt
integers (readings.Switch r) typed = tt
integers (readings.Boolean t) typed = tt
integers _ typed = (_, refl, typed, refl)

-- ---- what the words say of how an object is set

words_number : (c p : ℕ) (st : Option Setting) (w : ReadingWords) → AreSettingWords c p st w → w.value.class_number ≡ c
words_number c p None w is = ap (λ (x : ReadingWords). x.value.class_number) is
words_number c p (Some (settings.State state)) w is = ap (λ (x : ReadingWords). x.value.class_number) is
words_number c p (Some (settings.Position position)) w is = ap (λ (x : ReadingWords). x.value.class_number) is
words_number c p (Some (settings.Truth truth)) w is = ap (λ (x : ReadingWords). x.value.class_number) is
words_number c p (Some (settings.Number setting least greatest)) w is = is.0.class_number

true_false : true ≡ false → ⊥
true_false e = cc

-- a truth, by its number
same_truth : (a b : Bool) → from_bool a ≡ from_bool b → a ≡ b
same_truth true true e = refl
same_truth true false e = cc
same_truth false true e = cc
same_truth false false e = refl

-- a state, by its number
same_mute : (a b : MuteState) → mute_number a ≡ mute_number b → a ≡ b
same_mute Muted Muted e = refl
same_mute Unmuted Unmuted e = refl
same_mute _ _ e = cc

same_polarity : (a b : PolarityState) → polarity_number a ≡ polarity_number b → a ≡ b
same_polarity NonInverted NonInverted e = refl
same_polarity Inverted Inverted e = refl
same_polarity _ _ e = cc

-- ---- numbers by their bits

signed_same : (z n : ℤ) (b : ℕ) → FitsSigned w64 z → FitsSigned w64 n → HasBits z b → b ≡ cast_unsigned w64 n → n ≡ z
signed_same z n b fz fn (inl (f, e)) g = sym (to_z-of_z w64 n fn) ∙ ap (to_z w64) (sym g ∙ e) ∙ to_z-of_z w64 z fz
signed_same z n b fz fn (inr e) g =
    let small : b < 2 ^ 63 = grind arith in
    sym (to_z-of_z w64 n fn) ∙ ap (to_z w64) (sym g) ∙ to_z_pos w64 b small ∙ sym e

unsigned_same : (m n b : ℕ) → HasBits (pos m) b → b ≡ n → n ≡ m
unsigned_same m n b (inl (f, e)) g = sym g ∙ e
unsigned_same m n b (inr e) g = cc

-- ---- readings

-- numbers of one class, of which the words say the one, and are written of the other
module _ {X : Type 0} (number : X → ℤ) (Typed : X → Type 0) (bits : X → ℕ) (to : Ranged X → Reading)
    (same : (x y : X) (b : ℕ) → Typed x → Typed y → b ≡ bits x → HasBits (number y) b → x ≡ y) where
  number_read : (n l g : X) (o : Ranged X) (r : Reading) (c : ℕ) (w : ReadingWords) → Typed n × (w.value.bits ≡ bits n) → Typed l × (w.least.bits ≡ bits l) → Typed g × (w.greatest.bits ≡ bits g)
      → All3 Typed o → IsNumberWords c (number o.setting) w.value × IsNumberWords c (number o.least) w.least × IsNumberWords c (number o.greatest) w.greatest
      → Some r ≡ Some (to (ranged n l g)) → r ≡ to o
  number_read n l g o r c w vw lw gw typed is e =
      let q : r ≡ to (ranged n l g) = cc in
      q ∙ ap (λ x. to (ranged x l g)) (same n o.setting w.value.bits vw.0 typed.setting vw.1 is.0.bits)
      ∙ ap (λ x. to (ranged o.setting x g)) (same l o.least w.least.bits lw.0 typed.least lw.1 is.1.bits)
      ∙ ap (λ x. to (ranged o.setting o.least x)) (same g o.greatest w.greatest.bits gw.0 typed.greatest gw.1 is.2.bits)

bits_of : (w v : ReadingWords) → w ≡ v → w.value.bits ≡ v.value.bits
bits_of w v e = ap (λ (x : ReadingWords). x.value.bits) e

-- the words of a limit hold a value of the type
abbrev IsWithin : Option IntegerType → Option Value → ℕ → Type 0
IsWithin t l bits = IfSome l (λ u. IsInteger t u × (bits ≡ bits_of_value u))

limit : (c : Class) (l : Option Value) (x : ValueWords) → AreWordsOf x l → IsWithin (integer_type c) (of_class c l) x.bits
limit c None x lw = tt
limit c (Some u) x lw = by (class_number (class_of_value u) == class_number c) refl
  where
    by : (b : Bool) → (class_number (class_of_value u) == class_number c) ≡ b → IsWithin (integer_type c) (if b then Some u else None) x.bits
    by true e = (subst (λ (d : Class). IsInteger (integer_type d) u) (same_class (class_of_value u) c (eqb-true _ _ e)) (integer u lw.0), lw.1.1)
    by false e = tt

-- of integers, by their type
by_type : (t : Option IntegerType) (v : Value) (l g : Option Value) (o r : Reading) (c p : ℕ) (w : ReadingWords) → IsIntegers t o → AreSettingWords c p (reading_setting o) w → IsInteger t v × (w.value.bits ≡ bits_of_value v)
    → IsWithin t l w.least.bits → IsWithin t g w.greatest.bits → Some r ≡ integer_reading t v l g → r ≡ o
by_type (Some (Signed wide of reading)) v (Some l) (Some g) o r c p w (x, same, typed, set) is vv ll gg e =
    number_read (λ z. z) (FitsSigned wide) (cast_unsigned w64) reading (λ a b bits f f' q h. signed_same b a bits (signed_narrow wide b vv.0.1 f') (signed_narrow wide a vv.0.1 f) h q)
    (signed_number v) (signed_number l) (signed_number g) x r c w (vv.0.2, vv.1 ∙ vv.0.3) (ll.0.2, ll.1 ∙ ll.0.3) (gg.0.2, gg.1 ∙ gg.0.3) typed (subst (λ (y : Option Setting). AreSettingWords c p y w) set is) e ∙ sym same
by_type (Some (Unsigned wide of reading)) v (Some l) (Some g) o r c p w (x, same, typed, set) is vv ll gg e =
    number_read pos (λ n. n < 256 ^ byte_len wide) (λ n. n) reading (λ a b bits f f' q h. unsigned_same b a bits h q)
    (unsigned_number v) (unsigned_number l) (unsigned_number g) x r c w (vv.0.2, vv.1 ∙ vv.0.3) (ll.0.2, ll.1 ∙ ll.0.3) (gg.0.2, gg.1 ∙ gg.0.3) typed (subst (λ (y : Option Setting). AreSettingWords c p y w) set is) e ∙ sym same
by_type _ v _ _ o r c p w oo is vv ll gg e = cc

-- the reading of the words is the one of which they are written
read_same : (v : Value) (o : Reading) (l g : Option Value) (r : Reading) (c p : ℕ) (w : ReadingWords) → class_of_reading o ≡ class_of_value v → IsReading o → is_position_reading o ≡ false
    → AreSettingWords c p (reading_setting o) w → AreWordsOf w.value (Some v) → AreWordsOf w.least l → AreWordsOf w.greatest g → Some r ≡ reading_of_values (Some v) l g → r ≡ o
unfolding reading_setting
read_same (values.Mute s) (readings.Mute t) l g r c p w k typed own is vw lw gw e =
    let q : r ≡ readings.Mute s = cc in q ∙ ap readings.Mute (same_mute s t (sym vw.1.1 ∙ bits_of _ _ is))
read_same (values.Mute s) _ l g r c p w k typed own is vw lw gw e = let no : ⊥ = cc in absurd no
read_same (values.Polarity s) (readings.Polarity t) l g r c p w k typed own is vw lw gw e =
    let q : r ≡ readings.Polarity s = cc in q ∙ ap readings.Polarity (same_polarity s t (sym vw.1.1 ∙ bits_of _ _ is))
read_same (values.Polarity s) _ l g r c p w k typed own is vw lw gw e = let no : ⊥ = cc in absurd no
read_same (values.Boolean s) (readings.Boolean t) l g r c p w k typed own is vw lw gw e =
    let q : r ≡ readings.Boolean s = cc in q ∙ ap readings.Boolean (same_truth s t (sym vw.1.1 ∙ bits_of _ _ is))
read_same (values.Boolean s) _ l g r c p w k typed own is vw lw gw e = let no : ⊥ = cc in absurd no
read_same (values.Switch n) (readings.Switch o) l g r c p w k typed own is vw lw gw e = absurd (true_false own)
read_same (values.Switch n) _ l g r c p w k typed own is vw lw gw e = let no : ⊥ = cc in absurd no
read_same v o l g r c p w k typed own is vw lw gw e =
    let of = class_of_value v in
    by_type (integer_type of) v (of_class of l) (of_class of g) o r c p w (subst (λ (d : Class). IsIntegers (integer_type d) o) k (integers o typed)) is (integer v vw.0, vw.1.1) (limit of l w.least lw) (limit of g w.greatest gw) e

-- ---- the value that is made again

record Same (u h : Held) : Type 0 where
  of_class : class_of u ≡ class_of h
  set_so : value_setting u ≡ value_setting h
  named_so : names_in u ≡ names_in h

-- only a switch has positions
abbrev has_positions : Class → Bool
has_positions class.Switch = true
has_positions _ = false

equal_same : (u h : Held) → u ≡ h → Same u h
equal_same u h e = record { of_class = ap class_of e; set_so = ap value_setting e; named_so = ap names_in e }

block_is : (h : Held) → class_of h ≡ class.Block → held.Block ≡ h
unfolding class_of
block_is held.Block e = refl
block_is (held.Reads (readings.Mute s)) e = cc
block_is _ e = cc

kind_reads : (kind : Kind) (texts : List (List ℕ)) (r : Reading) → is_position_reading r ≡ false → IsKindOf kind r texts → value_of kind ≡ held.Reads r
kind_reads kind texts (readings.Switch r) own k = absurd (true_false own)
kind_reads kind texts _ own k = k

switch_is : (kind : Kind) (texts : List (List ℕ)) (n : ℕ) → IsSwitch kind texts n
    → (class_of (value_of kind) ≡ class.Switch) × (value_setting (value_of kind) ≡ Some (settings.Position n)) × (names_in (value_of kind) ≡ texts)
unfolding value_of class_of value_setting names_in
switch_is (kinds.Switch names at) texts n is = (refl, ap (λ x. Some (settings.Position x)) is.1, is.0)
switch_is _ texts n is = absurd is

same_of : (kind : Kind) (texts : List (List ℕ)) (v : Value) (h : Held) (l g : Option Value) (r : Reading) (p : ℕ) (w : ReadingWords) → class_of h ≡ class_of_value v → IsSoundValue h
    → AreSettingWords (class_number (class_of h)) p (value_setting h) w → texts ≡ names_in h → AreWordsOf w.value (Some v) → AreWordsOf w.least l → AreWordsOf w.greatest g
    → Some r ≡ reading_of_values (Some v) l g → IsKindOf kind r texts → Same (value_of kind) h
unfolding class_of value_setting names_in IsSoundValue
same_of kind texts v (held.Reads o) l g r p w c sound is named vw lw gw e k =
    let q = read_same v o l g r _ p w c sound.typed sound.other is vw lw gw e in
    equal_same (value_of kind) (held.Reads o) (kind_reads kind texts o sound.other (subst (λ (y : Reading). IsKindOf kind y texts) q k))
same_of kind texts (values.Switch n) (held.Switch s) l g r p w c sound is named vw lw gw e k =
    let q : r ≡ readings.Switch (ranged n n n) = cc in
    let found = switch_is kind texts n (subst (λ (y : Reading). IsKindOf kind y texts) q k) in
    record {
      of_class = found.0;
      set_so = found.1 ∙ ap (λ y. Some (settings.Position y)) (sym vw.1.1 ∙ bits_of _ _ is);
      named_so = found.2 ∙ named;
    }
same_of kind texts (values.Mute s) _ l g r p w c sound is named vw lw gw e k = let no : ⊥ = cc in absurd no
same_of kind texts _ _ l g r p w c sound is named vw lw gw e k = let no : ⊥ = cc in absurd no

module _ (h : Held) (p : ℕ) (w : ReadingWords) (texts : List (List ℕ)) (kind : Kind) (sound : IsSoundValue h) (is : AreSettingWords (class_number (class_of h)) p (value_setting h) w) (named : texts ≡ names_in h) where
  class_is : (c : Class) → w.value.class_number ≡ class_number c → class_of h ≡ c
  class_is c e = sym (same_class c (class_of h) (sym e ∙ words_number (class_number (class_of h)) p (value_setting h) w is))

  kind_again : GivesKind w texts (Some kind) → Same (value_of kind) h
  unfolding value_of
  kind_again (inl (one, k)) = equal_same (value_of kind) h (ap value_of k ∙ block_is h (class_is class.Block one))
  kind_again (inr (not_one, r, (None, vw, l, lw, g, gw, e), k)) = cc
  kind_again (inr (not_one, r, (Some v, vw, l, lw, g, gw, e), k)) =
      same_of kind texts v h l g r p w (class_is (class_of_value v) vw.1.0) sound is named vw lw gw e k

-- ---- what was stored

flags_for_none : (kind : Kind) (flags : List Bool) → has_positions (class_of (value_of kind)) ≡ false → flags_for kind flags ≡ None
unfolding value_of class_of
flags_for_none (kinds.Switch names at) flags e = cc
flags_for_none _ flags e = refl

flags_for_some : (kind : Kind) (flags : List Bool) → has_positions (class_of (value_of kind)) ≡ true → flags_for kind flags ≡ Some flags
unfolding value_of class_of
flags_for_some (kinds.Switch names at) flags e = refl
flags_for_some _ flags e = cc

flags_in_none : (h : Held) → has_positions (class_of h) ≡ false → flags_in h ≡ None
unfolding class_of flags_in
flags_in_none (held.Switch s) e = cc
flags_in_none _ e = refl

flags_in_some : (h : Held) → IsSoundValue h → has_positions (class_of h) ≡ true → (xs : List Bool) × (flags_in h ≡ Some xs)
unfolding class_of flags_in IsSoundValue
flags_in_some (held.Switch s) sound e = (s.enableds.items, refl)
flags_in_some (held.Reads (readings.Switch r)) sound e = absurd (true_false sound.other)
flags_in_some _ sound e = cc

some_flags : (flags : Option (List Bool)) (xs mine : List Bool) → Some xs ≡ flags → IfSome flags (λ them. them ≡ mine) → Some mine ≡ flags
some_flags None xs mine g f = cc
some_flags (Some them) xs mine g f = ap Some (sym f)

flags_same : (kind : Kind) (h : Held) → IsSoundValue h → (flags : Option (List Bool)) (mine : List Bool) → class_of (value_of kind) ≡ class_of h → flags_in h ≡ flags
    → IfSome flags (λ them. them ≡ mine) → flags_for kind mine ≡ flags
flags_same kind h sound flags mine same e f = by (has_positions (class_of h)) refl
  where
    by : (b : Bool) → has_positions (class_of h) ≡ b → flags_for kind mine ≡ flags
    by true t = let x = flags_in_some h sound t in flags_for_some kind mine (ap has_positions same ∙ t) ∙ some_flags flags x.0 mine (sym x.1 ∙ e) f
    by false t = flags_for_none kind mine (ap has_positions same ∙ t) ∙ sym (flags_in_none h t) ∙ e

-- ---- the law

abbrev stored_with : List ℕ → Bool → Option (List Bool) → Stored
stored_with label enabled flags = record { label = label; enabled = enabled; flags = flags }

pub written_again : DescriptionMakesAgain → WrittenMakesAgain
written_again law tree o w spec start found sound is gives starts =
    let set : AreSettingWords (class_number (class_of o.value)) (length (names_of_ono tree o.ono.0)) (value_setting o.value) w.reading =
    subst (λ (x : Option Setting). AreSettingWords (class_number (class_of o.value)) (length (names_of_ono tree o.ono.0)) x w.reading)
    (ap (option_and_then (λ (x : Object). value_setting x.value)) found) is.reading in
    let named : texts_of w ≡ names_in o.value = is.names ∙ ap names_of_one found in
    let k = kind_again o.value (length (names_of_ono tree o.ono.0)) w.reading (texts_of w) spec.kind sound set named gives.kind in
    let lock : Some o.lockable ≡ Some (is_yes w.lockable) = sym (ap (option_map (λ (x : Object). x.lockable)) found) ∙ is.lockable in
    let lockable : o.lockable ≡ is_yes w.lockable = cc in
    let was : Some (stored_of o) ≡ Some (stored_with (name_bytes w.label) (is_yes w.enabled) is.stored.0) = sym (ap (option_map stored_of) found) ∙ is.stored.1 in
    let stored : stored_of o ≡ stored_with (name_bytes w.label) (is_yes w.enabled) is.stored.0 = cc in
    law o spec start (record {
      role = gives.role ∙ is.role;
      lockable = gives.lockable ∙ sym lockable;
      class = k.of_class;
      setting = k.set_so;
      names = k.named_so;
      stored = ap (λ x. stored_with x start.enabled (flags_of start)) starts.label
          ∙ ap (λ x. stored_with (name_bytes w.label) x (flags_of start)) starts.enabled
          ∙ ap (stored_with (name_bytes w.label) (is_yes w.enabled)) (starts.flags ∙ flags_same spec.kind o.value sound is.stored.0 (position_flags w) k.of_class (ap (λ (x : Stored). x.flags) stored) is.stored.2)
          ∙ sym stored;
    })
