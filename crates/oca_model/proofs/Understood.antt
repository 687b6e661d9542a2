-- What a panel asks is what the device understands.
use Rattle.oca_model.proofs.Terms.{◌≡◌, ℕ, ◌<◌, ◌^◌, ◌≤◌, Bool, List, [], ◌∷◌, ◌++◌, length, refl, sym, ap, ◌∙◌, arith, Option, Some, Ok, w16, Class, Method, unsigned_encoding, bool_at, text_encoding, Request, Get, Set, Value, IsText, Each, list_of_most, whole, pair_at, class_of_value, set_method, get_method, AskedBy, as_request, end_of, whole_of, u16_front, front_of_text, lists_back}
use Rattle.oca_types.specs.declared.class.Class.TheVariants as class
use Rattle.oca_types.specs.declared.class.Method.TheVariants as method
use Rattle.oca_types.specs.Numbers.{bool_encoding}
use Rattle.oca_types.specs.Reading.{unsigned_at, text_at}
use Rattle.oca_model.specs.declared.request.Request.TheVariants.{SetEnabled, SetLabel, GetPositionName, SetPositionName, GetPositionEnabled, SetPositionEnabled, SetPositionNames, SetPositionEnableds}
use Rattle.oca_model.specs.declared.value.Value.TheVariants as value
use Rattle.oca_model.specs.Lists.{list_encoding}
use Rattle.oca_model.specs.Values.{value_in, value_encoding, IsOfItsType}
use Rattle.oca_model.specs.Requests.{IsRequest, count_of, parameters_of, request_in, RequestsAreUnderstood}
use Rattle.oca_model.specs.Fronts.{bool_front}
use Rattle.oca_model.proofs.ReadBack.{values_back}

-- ---- texts, positions, Booleans

pub bool_whole : (truth : Bool) → whole (bool_at (bool_encoding truth)) ≡ Some truth
bool_whole truth = whole_of _ bool_encoding bool_at bool_front truth tt

pub position_whole : (n : ℕ) → n < 2 ^ 16 → whole (unsigned_at w16 (unsigned_encoding w16 n)) ≡ Some n
position_whole n lt = whole_of _ (unsigned_encoding w16) (unsigned_at w16) u16_front n lt

-- a position, and behind it what another read gives whole
pub behind : {X : Type 0} (read : List ℕ → Option (X × List ℕ)) (n : ℕ) (bytes : List ℕ) (x : X) → n < 2 ^ 16 → read bytes ≡ Some (x, [])
    → whole (pair_at (unsigned_at w16) read (unsigned_encoding w16 n ++ bytes)) ≡ Some (n, x)
behind read n bytes x lt e =
    rw (u16_front n bytes lt, e) refl

text_end : (text : List ℕ) → IsText text → text_at (text_encoding text) ≡ Some (text, [])
text_end text is = end_of _ text_encoding text_at front_of_text text is

bool_end : (truth : Bool) → bool_at (bool_encoding truth) ≡ Some (truth, [])
bool_end truth = end_of _ bool_encoding bool_at bool_front truth tt

each_bool : (xs : List Bool) → Each (λ _. Unit {0}) xs
each_bool [] = tt
each_bool (x ∷ xs) = (tt, each_bool xs)

pub names_whole : (xs : List (List ℕ)) → Each IsText xs → length xs ≤ 16 → whole (list_of_most 16 text_at (list_encoding text_encoding xs)) ≡ Some xs
names_whole xs each few = lists_back IsText text_encoding text_at front_of_text 16 xs few (omega (arith, few)) each

pub flags_whole : (xs : List Bool) → length xs ≤ 16 → whole (list_of_most 16 bool_at (list_encoding bool_encoding xs)) ≡ Some xs
flags_whole xs few = lists_back (λ _. Unit {0}) bool_encoding bool_at bool_front 16 xs few (omega (arith, few)) (each_bool xs)

-- ---- the methods that depend on the class

-- a method by whose name a value is set
set_by : (of : Class) (v : Value) → class_of_value v ≡ of → IsOfItsType v → as_request Set (value_in of (value_encoding v)) ≡ Ok (Set v)
set_by of v e is = ap (λ c. as_request Set (value_in c (value_encoding v))) (sym e) ∙ ap (as_request Set) (values_back v is)

set_understood : (of : Class) (v : Value) → class_of_value v ≡ of → IsOfItsType v → request_in of (set_method v) 1 (value_encoding v) ≡ Ok (Set v)
unfolding request_in
set_understood of (value.Mute x) e is = set_by of (value.Mute x) e is
set_understood of v e is = set_by of v e is

-- the get methods, by name
state_understood : (of : Class) (m : Method) → method.GetState ≡ m → request_in of m 0 [] ≡ Ok Get
unfolding request_in
state_understood of m e = ap (λ x. request_in of x 0 []) (sym e)

position_understood : (of : Class) (m : Method) → method.GetPosition ≡ m → request_in of m 0 [] ≡ Ok Get
unfolding request_in
position_understood of m e = ap (λ x. request_in of x 0 []) (sym e)

setting_understood : (of : Class) (m : Method) → method.GetSetting ≡ m → request_in of m 0 [] ≡ Ok Get
unfolding request_in
setting_understood of m e = ap (λ x. request_in of x 0 []) (sym e)

get_understood : (of : Class) (m : Method) → get_method of ≡ Some m → request_in of m 0 [] ≡ Ok Get
get_understood class.Block m e = cc
get_understood class.Mute m e = state_understood class.Mute m cc
get_understood class.Polarity m e = state_understood class.Polarity m cc
get_understood class.Switch m e = position_understood class.Switch m cc
get_understood of m e = setting_understood of m cc

-- ---- the law

module _ (of : Class) (m : Method) where
  pub understood : (r : Request) → IsRequest r → AskedBy of r m → request_in of m (count_of r) (parameters_of r) ≡ Ok r
  unfolding request_in parameters_of
  understood (SetEnabled truth) is e = rw (e, bool_whole truth) refl
  understood (SetLabel label) is e = rw (e, whole_of _ text_encoding text_at front_of_text label is) refl
  understood Get is e = get_understood of m e
  understood (Set v) is e = ap (λ x. request_in of x 1 (value_encoding v)) e.1 ∙ set_understood of v e.0 is
  understood (GetPositionName n) is e = rw (e, position_whole n is) refl
  understood (SetPositionName n name) is e = rw (e, behind text_at n (text_encoding name) name is.0 (text_end name is.1)) refl
  understood (GetPositionEnabled n) is e = rw (e, position_whole n is) refl
  understood (SetPositionEnabled n truth) is e = rw (e, behind bool_at n (bool_encoding truth) truth is (bool_end truth)) refl
  understood (SetPositionNames names) is e = rw (e, names_whole names.items is.0 is.1) refl
  understood (SetPositionEnableds flags) is e = rw (e, flags_whole flags.items is) refl
  understood _ is e = rw e refl

pub requests_understood : RequestsAreUnderstood
requests_understood of r m is e = understood of m r is e
