-- What can be asked of an object of a class, and what requests of values ask.
use Rattle.std.proofs.Common.{◌≡◌, ℕ, ◌+◌, ◌≤◌, List, [], length, Option, Some, None, Result, refl, sym, ◌∙◌, subst, arith}
use Rattle.std.proofs.lemmas.List.{length-append}
use Rattle.std.specs.Int.{w16}
use Rattle.std.specs.Str.{chars}
use Rattle.oca_panel.specs.Words.{Class, ControlFault, Handle, Method, Outcome, Reading, Request, RequestFields}
use Rattle.oca_types.specs.declared.class.Class.TheVariants as class
use Rattle.oca_types.specs.declared.class.Method.TheVariants as method
use Rattle.oca_types.specs.declared.class.MethodKind.TheVariants.{Known}
use Rattle.oca_types.specs.declared.words.MethodId.{MethodId}
use Rattle.oca_types.specs.Methods.{method_kind, access}
use Rattle.oca_types.specs.Numbers.{unsigned_encoding}
use Rattle.oca_types.specs.Sizes.{most_parameter_bytes}
use Rattle.oca_types.specs.Texts.{text_encoding}
use Rattle.oca_model.specs.declared.request.Request.TheVariants.{GetClassIdentification, LockTotal, Unlock, GetLabel, SetLabel, GetRole, GetEnabled, GetMembers, GetPositionName, GetPositionNames, Get, Set}
use Rattle.oca_model.specs.declared.request.RequestFault.TheVariants.{OtherClass, Full}
use Rattle.oca_model.specs.declared.value.Value.{Value}
use Rattle.oca_model.specs.declared.value_request.ValueRequest.{ValueRequest}
use Rattle.oca_model.specs.Requests.{AskedBy, parameters_of}
use Rattle.oca_model.specs.ValueRequests.{request_to, CallsMethod, CallsMethodIfAny as AsksForValue}
use Rattle.oca_model.specs.Values.{class_of_value, get_method, set_method, value_encoding}
use Rattle.oca_panel.specs.declared.trouble.Trouble.{Trouble}
use Rattle.oca_panel.specs.Outcomes.{reading_answered}
use Rattle.oca_panel.specs.Panels.{PanelState, AsksIn, BeginsIn}
use Rattle.oca_panel.specs.Objects.{IsRequestTo, AsksFor, ReadsBy, BeginsSetting}
use Rattle.oca_panel.specs.PrivateObjects.{CanBeAsked}

-- ---- what can be asked

can-be : (of : Class) (asked : Request) (m : Method) (id : MethodId) → AskedBy of asked m → method_kind of id ≡ Known m (access m)
    → length (parameters_of asked) ≤ most_parameter_bytes → CanBeAsked of asked
can-be of asked m id a k few OtherClass h = h m id a k
can-be of asked m id a k few Full h = absurd (omega (arith, few, h))

pub ask_class : CanBeAsked class.Block GetClassIdentification
unfolding method_kind parameters_of
ask_class = can-be class.Block GetClassIdentification method.GetClassIdentification (record { level = 1; index = 1 }) refl refl (omega arith)

pub ask_lock : CanBeAsked class.Block LockTotal
unfolding method_kind parameters_of
ask_lock = can-be class.Block LockTotal method.LockTotal (record { level = 1; index = 3 }) refl refl (omega arith)

pub ask_unlock : CanBeAsked class.Block Unlock
unfolding method_kind parameters_of
ask_unlock = can-be class.Block Unlock method.Unlock (record { level = 1; index = 4 }) refl refl (omega arith)

pub ask_role : CanBeAsked class.Block GetRole
unfolding method_kind parameters_of
ask_role = can-be class.Block GetRole method.GetRole (record { level = 1; index = 5 }) refl refl (omega arith)

pub ask_label : CanBeAsked class.Block GetLabel
unfolding method_kind parameters_of
ask_label = can-be class.Block GetLabel method.GetLabel (record { level = 2; index = 8 }) refl refl (omega arith)

pub ask_enabled : CanBeAsked class.Block GetEnabled
unfolding method_kind parameters_of
ask_enabled = can-be class.Block GetEnabled method.GetEnabled (record { level = 2; index = 1 }) refl refl (omega arith)

pub ask_members : CanBeAsked class.Block GetMembers
unfolding method_kind parameters_of
ask_members = can-be class.Block GetMembers method.GetMembers (record { level = 3; index = 5 }) refl refl (omega arith)

pub ask_names : CanBeAsked class.Switch GetPositionNames
unfolding method_kind parameters_of
ask_names = can-be class.Switch GetPositionNames method.GetPositionNames (record { level = 4; index = 5 }) refl refl (omega arith)

two-bytes : (n : ℕ) → length (unsigned_encoding w16 n) ≡ 2
two-bytes n = refl

pub ask_name : (position : ℕ) → CanBeAsked class.Switch (GetPositionName position)
unfolding method_kind parameters_of
ask_name position =
    can-be class.Switch (GetPositionName position) method.GetPositionName (record { level = 4; index = 3 }) refl refl (omega (arith, two-bytes position))

pub ask_set_label : (label : List ℕ) → length label ≤ 64 → CanBeAsked class.Block (SetLabel label)
unfolding method_kind parameters_of
ask_set_label label short =
    let count : List ℕ = unsigned_encoding w16 (length (chars label)) in
    let size : length (text_encoding label) ≡ 2 + length label = length-append count label in
    can-be class.Block (SetLabel label) method.SetLabel (record { level = 2; index = 9 }) refl refl (omega (arith, size, short))

-- ---- requests of values

is-set : (ono : ℕ) (v : Value) (r : ValueRequest) → CallsMethod (class_of_value v) (set_method v) r 1 (value_encoding v) → IsRequestTo ono (class_of_value v) (Set v) (request_to ono r)
unfolding parameters_of
is-set ono v r a = record {
  object = refl;
  call = record { of_method = (set_method v, (refl, refl), a.method); count = a.count; parameters = a.params };
}

-- a set command asks what its request says
pub asks-set : (ono : ℕ) (v : Value) (r : ValueRequest) (old new : PanelState) (o : Outcome)
    → CallsMethod (class_of_value v) (set_method v) r 1 (value_encoding v) → AsksIn (request_to ono r) old new o → AsksFor ono (class_of_value v) (Set v) old new o
asks-set ono v r old new o a h = record { request = request_to ono r; calls = is-set ono v r a; asks = h }

-- a set command that is begun asks what its request says
pub begins-set : (ono : ℕ) (v : Value) (r : ValueRequest) (q : RequestFields) (returned : Result Handle ControlFault) (old new : PanelState)
    → CallsMethod (class_of_value v) (set_method v) r 1 (value_encoding v) → q ≡ request_to ono r → BeginsIn q returned old new → BeginsSetting ono v returned old new
begins-set ono v r q returned old new a e h = record {
  request = request_to ono r;
  calls = is-set ono v r a;
  begins = subst (λ (x : RequestFields). BeginsIn x returned old new) e h;
}

is-get : (ono : ℕ) (of : Class) (m : Method) (r : ValueRequest) → CallsMethod of m r 0 [] → AskedBy of Get m → IsRequestTo ono of Get (request_to ono r)
unfolding parameters_of
is-get ono of m r a by = record {
  object = refl;
  call = record { of_method = (m, by, a.method); count = a.count; parameters = a.params };
}

not-none : {A : Type 0} (r : A) → Some r ≡ None → ⊥
not-none r e = cc e

-- a reading is that of the class
pub reads-by : (ono : ℕ) (of : Class) (m : Option Method) (q : Option ValueRequest) (r : ValueRequest) (o : Outcome) (old new : PanelState) (result : Result Reading Trouble)
    → q ≡ Some r → AsksForValue m of q → m ≡ get_method of → AsksIn (request_to ono r) old new o → result ≡ reading_answered of o → ReadsBy ono of m old new result
reads-by ono of None q r o old new result e a by h is = absurd (not-none r (sym e ∙ a))
reads-by ono of (Some m) q r o old new result e a by h is =
    (o, record { request = request_to ono r; calls = is-get ono of m r (subst (λ (x : Option ValueRequest). AsksForValue (Some m) of x) e a) (sym by); asks = h }, is)
