-- What an object answers is an answer of its class, of the kind that the method has.
use Rattle.oca_tree.proofs.Words.{◌≡◌, ℕ, zero, suc, ◌+◌, ◌*◌, ◌<◌, ◌≤◌, Bool, true, false, cond, List, [], ◌∷◌, ◌++◌, length, refl, sym, ◌∙◌, subst, arith, lit<, lit≤, length-append, Result, Ok, Err, ◌==◌, ◌&&◌, All, flat_map, option_map_or, w16, w32, length-map, flat_map-map, IsUtf8-nil, chars-nil, Class, Method, class_identification_encoding, unsigned_encoding, unsigned_at, bool_at, text_at, Request, ValueFault, Malformed, IsText, Each, list_encoding, list_of_most, member_encoding, descendant_encoding, bare, as_request, counted, pair_at, Object, members, descendants, places, reaches, IsSound, member_of, descendant_of, IsOfItsTypes}
use Rattle.std.specs.Prelude.{map, slice_index_or}
use Rattle.std.proofs.lemmas.List.Elements.{All-filter, All-head, All-tail}
use Rattle.oca_types.specs.declared.class.Class.TheVariants as class
use Rattle.oca_types.specs.declared.class.Method.TheVariants as methods
use Rattle.oca_model.specs.declared.answer.Answer.{Answer}
use Rattle.oca_model.specs.declared.answer.Answer.TheVariants as answers
use Rattle.oca_model.specs.declared.answer.Shape.{Shape}
use Rattle.oca_model.specs.declared.answer.Shape.TheVariants as shape
use Rattle.oca_model.specs.declared.request.Request.TheVariants as asked
use Rattle.oca_model.specs.Answers.{answer_encoding, shape_of, shape_of_answer, IsAnswer}
use Rattle.oca_model.specs.Members.{IsMember, IsDescendant}
use Rattle.oca_model.specs.Requests.{request_in}
use Rattle.oca_model.specs.Values.{value_in, all as model_all}
use Rattle.oca_tree.specs.declared.object.Value.{Value as Held}
use Rattle.oca_tree.specs.declared.object.Value.TheVariants as held
use Rattle.oca_tree.specs.Copies.{names_in}
use Rattle.oca_tree.specs.Objects.{class_of}
use Rattle.oca_tree.specs.Trees.{IsSoundValue}
use Rattle.oca_tree.specs.Typed.{reading_held, answer_given, of_positions}
use Rattle.oca_tree.specs.TypedLaws.{IsRight, AnswersAreRight}
use Rattle.oca_tree.proofs.Belonging.{known_belongs, belongs, has_state, has_positions, has_setting}

-- An answer of the class, and of this kind.
record Is (of : Class) (kind : Shape) (a : Answer) : Type 0 where
  answer : IsAnswer of a
  shape : kind ≡ shape_of_answer a

-- ---- readings

abbrev can_be_read : Held → Bool
can_be_read held.Block = false
can_be_read _ = true

state_can : (value : Held) → has_state value ≡ true → can_be_read value ≡ true
state_can held.Block e = cc
state_can _ e = refl

positions_can : (value : Held) → has_positions value ≡ true → can_be_read value ≡ true
positions_can held.Block e = cc
positions_can _ e = refl

setting_can : (value : Held) → has_setting value ≡ true → can_be_read value ≡ true
setting_can held.Block e = cc
setting_can _ e = refl

reading_right : (value : Held) → can_be_read value ≡ true → IsSoundValue value → Is (class_of value) shape.Reading (option_map_or answers.Reading (reading_held value) answers.Done)
unfolding class_of reading_held IsSoundValue
reading_right held.Block e sound = let no : ⊥ = cc in absurd no
reading_right (held.Switch switch) e sound =
    let n = length switch.names.items in
    let few : n ≤ 16 = sound.few in
    let here : switch.position < n = sound.position in
    record { answer = (refl, record { setting = omega arith; least = lit< tt; greatest = omega arith }); shape = refl }
reading_right (held.Reads r) e sound = record { answer = (refl, sound.typed); shape = refl }

-- ---- positions

name_right : (names : List (List ℕ)) (n : ℕ) → Each IsText names → IsText (slice_index_or names n [])
name_right [] n each = (IsUtf8-nil, rw chars-nil (lit< tt), lit≤ tt)
name_right (name ∷ names) zero each = each.0
name_right (name ∷ names) (suc n) each = name_right names n each.1

-- What is answered of the positions of an object with this value.
record PositionsAreRight (value : Held) : Type 0 where
  name : (n : ℕ) → Is (class_of value) shape.Text (of_positions value (λ switch. answers.Text (slice_index_or switch.names.items n [])))
  names : Is (class_of value) shape.Names (of_positions value (λ switch. answers.Names switch.names))
  flag : (n : ℕ) → Is (class_of value) shape.Truth (of_positions value (λ switch. answers.Truth (slice_index_or switch.enableds.items n false)))
  flags : Is (class_of value) shape.Flags (of_positions value (λ switch. answers.Flags switch.enableds))

positions_right : (value : Held) → has_positions value ≡ true → IsSoundValue value → Each IsText (names_in value) → PositionsAreRight value
unfolding IsSoundValue names_in
positions_right (held.Switch switch) e sound texts =
    let few : length switch.names.items ≤ 16 = sound.few in
    let both : length switch.enableds.items ≡ length switch.names.items = sound.both in
    record {
      name = λ n. record { answer = name_right switch.names.items n texts; shape = refl };
      names = record { answer = (texts, few); shape = refl };
      flag = λ n. record { answer = tt; shape = refl };
      flags = record { answer = omega arith; shape = refl };
    }
positions_right _ e sound texts = let no : ⊥ = cc in absurd no

-- ---- what is listed of a block

each_of : {X Y : Type 0} (P : X → Type 0) (Q : Y → Type 0) (f : X → Y) → ((x : X) → P x → Q (f x)) → (xs : List X) → All P xs → Each Q (map f xs)
each_of P Q f step [] all = tt
each_of P Q f step (x ∷ xs) all = (step x (All-head P x xs all), each_of P Q f step xs (All-tail P x xs all))

member_right : (o : Object) → IsOfItsTypes o → IsMember (member_of o)
member_right o is = (class_of o.value, refl, is.number)

descendant_right : (o : Object) → IsOfItsTypes o → IsDescendant (descendant_of o)
descendant_right o is = (member_right o is, is.container)

-- an item of a list has 12 bytes or more
twelve_each : {X : Type 0} (item : X → List ℕ) → ((x : X) → 12 ≤ length (item x)) → (xs : List X) → 12 * length xs ≤ length (flat_map item xs)
twelve_each item most [] = lit≤ tt
twelve_each item most (x ∷ xs) =
    let one = most x in
    let rest = twelve_each item most xs in
    let parts : length (flat_map item (x ∷ xs)) ≡ length (item x) + length (flat_map item xs) = length-append (item x) (flat_map item xs) in
    omega (arith, one, rest, parts)

abbrev Twelve : Class → Type 0
Twelve c = 8 ≤ length (class_identification_encoding c)

class_bytes_many : (c : Class) → Twelve c
class_bytes_many class.Block = lit≤ tt
class_bytes_many _ = lit≤ tt

member_bytes : (o : Object) → 12 ≤ length (member_encoding (member_of o))
member_bytes o =
    let number = unsigned_encoding w32 o.ono.0 in
    let class = class_identification_encoding (class_of o.value) in
    let parts : length (number ++ class) ≡ length number + length class = length-append number class in
    let four : length number ≡ 4 = refl in
    let eight : 8 ≤ length class = class_bytes_many (class_of o.value) in
    omega (arith, parts, four, eight)

descendant_bytes : (o : Object) → 12 ≤ length (descendant_encoding (descendant_of o))
descendant_bytes o =
    let first = member_encoding (member_of o) in
    let behind = unsigned_encoding w32 o.container.0 in
    let parts : length (first ++ behind) ≡ length first + length behind = length-append first behind in
    let twelve : 12 ≤ length first = member_bytes o in
    omega (arith, parts, twelve)

-- a list in a response has at most 120 items
few_items : {X Y : Type 0} (item : Y → List ℕ) (f : X → Y) → ((x : X) → 12 ≤ length (item (f x))) → (xs : List X) → length (list_encoding item (map f xs)) ≤ 1452 → length (map f xs) ≤ 120
few_items item f most xs short =
    let count = unsigned_encoding w16 (length (map f xs)) in
    let parts : length (count ++ flat_map item (map f xs)) ≡ length count + length (flat_map item (map f xs)) = length-append count (flat_map item (map f xs)) in
    let two : length count ≡ 2 = refl in
    let each : 12 * length xs ≤ length (flat_map (λ x. item (f x)) xs) = twelve_each (λ x. item (f x)) most xs in
    let same : flat_map item (map f xs) ≡ flat_map (λ x. item (f x)) xs = flat_map-map item f xs in
    let many : 12 * length xs ≤ length (flat_map item (map f xs)) = rw same each in
    let sized : length (map f xs) ≡ length xs = length-map xs f in
    omega (arith, parts, two, many, sized, short)

-- ---- each method

module _ (tree : List Object) (o : Object) (all : All IsOfItsTypes tree) (typed : IsOfItsTypes o) (sound : IsSound o) (count : ℕ) (params : List ℕ) where
  abbrev Right : Method → Request → Type 0
  Right m q = length (answer_encoding (answer_given tree o q)) ≤ 1452 → IsRight tree o m q

  from_is : (m : Method) (q : Request) → Is (class_of o.value) (shape_of m) (answer_given tree o q) → Right m q
  from_is m q is short = record { answer = is.answer; shape = is.shape }

  from_bare : (m : Method) (p q : Request) → Right m p → bare p count params ≡ Ok q → Right m q
  from_bare m p q right e = by ((count == 0) && (length params == 0)) e
    where
      by : (b : Bool) → cond b (Ok p) (Err Malformed) ≡ Ok q → Right m q
      by true h = let same : p ≡ q = cc in subst (Right m) same right
      by false h = let no : ⊥ = cc in absurd no

  from_some : {X : Type 0} (m : Method) (g : X → Request) → ((x : X) → Right m (g x)) → (read : Result X ValueFault) (q : Request) → as_request g read ≡ Ok q → Right m q
  from_some m g right (Ok x) q e = let same : g x ≡ q = cc in subst (Right m) same (right x)
  from_some m g right (Err fault) q e = let no : ⊥ = cc in absurd no

  read : (m : Method) → shape.Reading ≡ shape_of m → can_be_read o.value ≡ true → Right m asked.Get
  unfolding answer_given
  read m kind can short =
      let right = reading_right o.value can sound.value in
      record { answer = right.answer; shape = sym kind ∙ right.shape }

  listed : Right methods.GetMembers asked.GetMembers
  unfolding answer_given answer_encoding
  listed short =
      let list = members tree o.ono.0 in
      let few : length (map member_of list) ≤ 120 = few_items member_encoding member_of member_bytes list short in
      record {
        answer = (each_of IsOfItsTypes IsMember member_of member_right list (All-filter (λ x. x.container.0 == o.ono.0) IsOfItsTypes tree all), omega (arith, few));
        shape = refl;
      }

  all_listed : Right methods.GetMembersRecursive asked.GetMembersRecursive
  unfolding answer_given answer_encoding
  all_listed short =
      let list = descendants tree o.ono.0 in
      let few : length (map descendant_of list) ≤ 120 = few_items descendant_encoding descendant_of descendant_bytes list short in
      record {
        answer = (each_of IsOfItsTypes IsDescendant descendant_of descendant_right list (All-filter (λ x. reaches (places tree) o.ono.0 x.container.0) IsOfItsTypes tree all), few);
        shape = refl;
      }

  each_right : (m : Method) → belongs o.value m ≡ true → (q : Request) → request_in (class_of o.value) m count params ≡ Ok q → Right m q
  unfolding request_in answer_given
  each_right methods.GetClassIdentification b q e = from_bare methods.GetClassIdentification asked.GetClassIdentification q (λ short. record { answer = tt; shape = refl }) e
  each_right methods.GetLockable b q e = from_bare methods.GetLockable asked.GetLockable q (λ short. record { answer = tt; shape = refl }) e
  each_right methods.LockTotal b q e = from_bare methods.LockTotal asked.LockTotal q (λ short. record { answer = tt; shape = refl }) e
  each_right methods.Unlock b q e = from_bare methods.Unlock asked.Unlock q (λ short. record { answer = tt; shape = refl }) e
  each_right methods.GetRole b q e = from_bare methods.GetRole asked.GetRole q (λ short. record { answer = typed.role; shape = refl }) e
  each_right methods.LockReadonly b q e = from_bare methods.LockReadonly asked.LockReadonly q (λ short. record { answer = tt; shape = refl }) e
  each_right methods.GetEnabled b q e = from_bare methods.GetEnabled asked.GetEnabled q (λ short. record { answer = tt; shape = refl }) e
  each_right methods.SetEnabled b q e = from_some methods.SetEnabled asked.SetEnabled (λ x short. record { answer = tt; shape = refl }) (counted 1 count (model_all bool_at params)) q e
  each_right methods.GetLabel b q e = from_bare methods.GetLabel asked.GetLabel q (λ short. record { answer = typed.label; shape = refl }) e
  each_right methods.SetLabel b q e = from_some methods.SetLabel asked.SetLabel (λ x short. record { answer = tt; shape = refl }) (counted 1 count (model_all text_at params)) q e
  each_right methods.GetOwner b q e = from_bare methods.GetOwner asked.GetOwner q (λ short. record { answer = typed.container; shape = refl }) e
  each_right methods.GetMembers b q e = from_bare methods.GetMembers asked.GetMembers q listed e
  each_right methods.GetMembersRecursive b q e = from_bare methods.GetMembersRecursive asked.GetMembersRecursive q all_listed e
  each_right methods.GetState b q e = from_bare methods.GetState asked.Get q (read methods.GetState refl (state_can o.value b)) e
  each_right methods.SetState b q e = from_some methods.SetState asked.Set (λ x short. record { answer = tt; shape = refl }) (counted 1 count (value_in (class_of o.value) params)) q e
  each_right methods.GetPosition b q e = from_bare methods.GetPosition asked.Get q (read methods.GetPosition refl (positions_can o.value b)) e
  each_right methods.SetPosition b q e = from_some methods.SetPosition asked.Set (λ x short. record { answer = tt; shape = refl }) (counted 1 count (value_in (class_of o.value) params)) q e
  each_right methods.GetPositionName b q e = from_some methods.GetPositionName asked.GetPositionName (λ n. from_is methods.GetPositionName (asked.GetPositionName n) ((positions_right o.value b sound.value typed.names).name n)) (counted 1 count (model_all (unsigned_at w16) params)) q e
  each_right methods.SetPositionName b q e = from_some methods.SetPositionName (λ x. asked.SetPositionName x.0 x.1) (λ x short. record { answer = tt; shape = refl }) (counted 2 count (model_all (pair_at (unsigned_at w16) text_at) params)) q e
  each_right methods.GetPositionNames b q e = from_bare methods.GetPositionNames asked.GetPositionNames q (from_is methods.GetPositionNames asked.GetPositionNames (positions_right o.value b sound.value typed.names).names) e
  each_right methods.SetPositionNames b q e = from_some methods.SetPositionNames (λ xs. asked.SetPositionNames (record { items = xs })) (λ x short. record { answer = tt; shape = refl }) (counted 1 count (model_all (list_of_most 16 text_at) params)) q e
  each_right methods.GetPositionEnabled b q e = from_some methods.GetPositionEnabled asked.GetPositionEnabled (λ n. from_is methods.GetPositionEnabled (asked.GetPositionEnabled n) ((positions_right o.value b sound.value typed.names).flag n)) (counted 1 count (model_all (unsigned_at w16) params)) q e
  each_right methods.SetPositionEnabled b q e = from_some methods.SetPositionEnabled (λ x. asked.SetPositionEnabled x.0 x.1) (λ x short. record { answer = tt; shape = refl }) (counted 2 count (model_all (pair_at (unsigned_at w16) bool_at) params)) q e
  each_right methods.GetPositionEnableds b q e = from_bare methods.GetPositionEnableds asked.GetPositionEnableds q (from_is methods.GetPositionEnableds asked.GetPositionEnableds (positions_right o.value b sound.value typed.names).flags) e
  each_right methods.SetPositionEnableds b q e = from_some methods.SetPositionEnableds (λ xs. asked.SetPositionEnableds (record { items = xs })) (λ x short. record { answer = tt; shape = refl }) (counted 1 count (model_all (list_of_most 16 bool_at) params)) q e
  each_right methods.GetSetting b q e = from_bare methods.GetSetting asked.Get q (read methods.GetSetting refl (setting_can o.value b)) e
  each_right methods.SetSetting b q e = from_some methods.SetSetting asked.Set (λ x short. record { answer = tt; shape = refl }) (counted 1 count (value_in (class_of o.value) params)) q e

pub answers_right : AnswersAreRight
answers_right tree o all typed sound id m reached known count params q e short =
    each_right tree o all typed sound count params m (known_belongs o.value sound.value id m reached known) q e short
