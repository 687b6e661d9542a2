-- What is asked of an object: as it is sent, and as a device understands it (AES70-2; the numbers are the profile's).
use Rattle.std.specs.Prelude.{◌≡◌, ℕ, ◌<◌, ◌≤◌, ◌^◌, ◌==◌, ◌&&◌, if◌then◌else◌, List, [], ◌++◌, length, Some, Result}
use Rattle.std.specs.Prelude.{Ok, Err}
use Rattle.std.specs.Int.{w16}
use Rattle.oca_types.specs.declared.class.Class.{Class}
use Rattle.oca_types.specs.declared.class.Method.{Method}
use Rattle.oca_types.specs.declared.class.Method.TheVariants as method
use Rattle.oca_types.specs.declared.class.MethodKind.TheVariants.{Known}
use Rattle.oca_types.specs.declared.words.MethodId.{MethodId}
use Rattle.oca_types.specs.Methods.{method_kind, access}
use Rattle.oca_types.specs.Numbers.{unsigned_encoding, bool_encoding}
use Rattle.oca_types.specs.Reading.{unsigned_at, bool_at, text_at}
use Rattle.oca_types.specs.Texts.{text_encoding}
use Rattle.oca_types.specs.Sizes.{most_parameter_bytes}
use Rattle.oca_model.specs.declared.request.Call.{Call}
use Rattle.oca_model.specs.declared.request.Request.{Request}
use Rattle.oca_model.specs.declared.request.Request.TheVariants.{GetClassIdentification, GetLockable, LockTotal}
use Rattle.oca_model.specs.declared.request.Request.TheVariants.{LockReadonly, Unlock, GetRole, GetEnabled, SetEnabled}
use Rattle.oca_model.specs.declared.request.Request.TheVariants.{GetLabel, SetLabel, GetOwner, GetMembers}
use Rattle.oca_model.specs.declared.request.Request.TheVariants.{GetMembersRecursive, Get, Set, GetPositionName}
use Rattle.oca_model.specs.declared.request.Request.TheVariants.{SetPositionName, GetPositionNames, GetPositionEnabled}
use Rattle.oca_model.specs.declared.request.Request.TheVariants.{SetPositionEnabled, GetPositionEnableds}
use Rattle.oca_model.specs.declared.request.Request.TheVariants.{SetPositionNames, SetPositionEnableds}
use Rattle.oca_model.specs.declared.request.RequestFault.{RequestFault}
use Rattle.oca_model.specs.declared.request.RequestFault.TheVariants.{OtherClass, Full}
use Rattle.oca_model.specs.declared.value.ValueFault.{ValueFault}
use Rattle.oca_model.specs.declared.value.ValueFault.TheVariants.{Malformed}
use Rattle.oca_model.specs.Lists.{IsText, Each, list_encoding, list_of_most}
use Rattle.oca_model.specs.Parameters.{pair_at}
use Rattle.oca_model.specs.Values.{class_of_value, value_encoding, value_in, all, then_find, set_method, get_method}
use Rattle.oca_model.specs.Values.{IsOfItsType}

-- ---- as it is sent

-- The method by which it is asked of an object of the class.
abbrev pub AskedBy : Class → Request → Method → Type 0
AskedBy of GetClassIdentification m = m ≡ method.GetClassIdentification
AskedBy of GetLockable m = m ≡ method.GetLockable
AskedBy of LockTotal m = m ≡ method.LockTotal
AskedBy of LockReadonly m = m ≡ method.LockReadonly
AskedBy of Unlock m = m ≡ method.Unlock
AskedBy of GetRole m = m ≡ method.GetRole
AskedBy of GetEnabled m = m ≡ method.GetEnabled
AskedBy of (SetEnabled _) m = m ≡ method.SetEnabled
AskedBy of GetLabel m = m ≡ method.GetLabel
AskedBy of (SetLabel _) m = m ≡ method.SetLabel
AskedBy of GetOwner m = m ≡ method.GetOwner
AskedBy of GetMembers m = m ≡ method.GetMembers
AskedBy of GetMembersRecursive m = m ≡ method.GetMembersRecursive
AskedBy of Get m = get_method of ≡ Some m
AskedBy of (Set v) m = (class_of_value v ≡ of) × (m ≡ set_method v)
AskedBy of (GetPositionName _) m = m ≡ method.GetPositionName
AskedBy of (SetPositionName _ _) m = m ≡ method.SetPositionName
AskedBy of GetPositionNames m = m ≡ method.GetPositionNames
AskedBy of (GetPositionEnabled _) m = m ≡ method.GetPositionEnabled
AskedBy of (SetPositionEnabled _ _) m = m ≡ method.SetPositionEnabled
AskedBy of GetPositionEnableds m = m ≡ method.GetPositionEnableds
AskedBy of (SetPositionNames _) m = m ≡ method.SetPositionNames
AskedBy of (SetPositionEnableds _) m = m ≡ method.SetPositionEnableds

-- how many parameters it has (ParamCount)
abbrev pub count_of : Request → ℕ
count_of (SetEnabled _) = 1
count_of (SetLabel _) = 1
count_of (Set _) = 1
count_of (GetPositionName _) = 1
count_of (SetPositionName _ _) = 2
count_of (GetPositionEnabled _) = 1
count_of (SetPositionEnabled _ _) = 2
count_of (SetPositionNames _) = 1
count_of (SetPositionEnableds _) = 1
count_of _ = 0

-- the bytes of its parameters
unfoldable pub parameters_of : Request → List ℕ
parameters_of (SetEnabled truth) = bool_encoding truth
parameters_of (SetLabel label) = text_encoding label
parameters_of (Set v) = value_encoding v
parameters_of (GetPositionName position) = unsigned_encoding w16 position
parameters_of (SetPositionName position name) = unsigned_encoding w16 position ++ text_encoding name
parameters_of (GetPositionEnabled position) = unsigned_encoding w16 position
parameters_of (SetPositionEnabled position truth) = unsigned_encoding w16 position ++ bool_encoding truth
parameters_of (SetPositionNames names) = list_encoding text_encoding names.items
parameters_of (SetPositionEnableds flags) = list_encoding bool_encoding flags.items
parameters_of _ = []

-- The call asks it of an object of the class, with these parameters.
pub record IsCallFor (of : Class) (request : Request) (call : Call) (bytes : List ℕ) : Type 0 where
  pub of_method : (m : Method) × AskedBy of request m × (method_kind of call.method ≡ Known m (access m))
  pub count : call.count ≡ count_of request
  pub parameters : bytes ≡ parameters_of request

-- When a request cannot be asked of an object of the class: OtherClass where no method of the class asks it, Full where
-- its parameters are too long.
abbrev pub IsRefusedCall : Class → Request → RequestFault → Type 0
IsRefusedCall of request OtherClass =
    (m : Method) (id : MethodId) → AskedBy of request m → method_kind of id ≡ Known m (access m) → ⊥
IsRefusedCall of request Full = most_parameter_bytes < length (parameters_of request)

-- ---- as a device understands it

-- the request, where there are no parameters
abbrev pub bare : Request → ℕ → List ℕ → Result Request ValueFault
bare request count bytes = if (count == 0) && (length bytes == 0) then Ok request else Err Malformed

-- what was read, where there are so many parameters
abbrev pub counted : {X : Type 0} → ℕ → ℕ → Result X ValueFault → Result X ValueFault
counted number count read = if count == number then read else Err Malformed

-- the request of this variant
abbrev pub as_request : {X : Type 0} → (X → Request) → Result X ValueFault → Result Request ValueFault
as_request of read = then_find (λ x. Ok (of x)) read

-- what a set method asks of an object of the class
abbrev pub set_in : Class → ℕ → List ℕ → Result Request ValueFault
set_in of count bytes = as_request Set (counted 1 count (value_in of bytes))

-- WHAT A METHOD WITH THESE PARAMETERS ASKS of an object of the class; else why they are not the method's.
unfoldable pub request_in : Class → Method → ℕ → List ℕ → Result Request ValueFault
request_in of method.GetClassIdentification count bytes = bare GetClassIdentification count bytes
request_in of method.GetLockable count bytes = bare GetLockable count bytes
request_in of method.LockTotal count bytes = bare LockTotal count bytes
request_in of method.LockReadonly count bytes = bare LockReadonly count bytes
request_in of method.Unlock count bytes = bare Unlock count bytes
request_in of method.GetRole count bytes = bare GetRole count bytes
request_in of method.GetEnabled count bytes = bare GetEnabled count bytes
request_in of method.SetEnabled count bytes = as_request SetEnabled (counted 1 count (all bool_at bytes))
request_in of method.GetLabel count bytes = bare GetLabel count bytes
request_in of method.SetLabel count bytes = as_request SetLabel (counted 1 count (all text_at bytes))
request_in of method.GetOwner count bytes = bare GetOwner count bytes
request_in of method.GetMembers count bytes = bare GetMembers count bytes
request_in of method.GetMembersRecursive count bytes = bare GetMembersRecursive count bytes
request_in of method.GetState count bytes = bare Get count bytes
request_in of method.GetPosition count bytes = bare Get count bytes
request_in of method.GetSetting count bytes = bare Get count bytes
request_in of method.SetState count bytes = set_in of count bytes
request_in of method.SetPosition count bytes = set_in of count bytes
request_in of method.SetSetting count bytes = set_in of count bytes
request_in of method.GetPositionName count bytes =
    as_request GetPositionName (counted 1 count (all (unsigned_at w16) bytes))
request_in of method.SetPositionName count bytes =
    as_request (λ x. SetPositionName x.0 x.1) (counted 2 count (all (pair_at (unsigned_at w16) text_at) bytes))
request_in of method.GetPositionNames count bytes = bare GetPositionNames count bytes
request_in of method.GetPositionEnabled count bytes =
    as_request GetPositionEnabled (counted 1 count (all (unsigned_at w16) bytes))
request_in of method.SetPositionEnabled count bytes =
    as_request (λ x. SetPositionEnabled x.0 x.1) (counted 2 count (all (pair_at (unsigned_at w16) bool_at) bytes))
request_in of method.GetPositionEnableds count bytes = bare GetPositionEnableds count bytes
request_in of method.SetPositionNames count bytes =
    as_request (λ xs. SetPositionNames (record { items = xs })) (counted 1 count (all (list_of_most 16 text_at) bytes))
request_in of method.SetPositionEnableds count bytes =
    as_request (λ xs. SetPositionEnableds (record { items = xs }))
    (counted 1 count (all (list_of_most 16 bool_at) bytes))

-- ---- the law

-- The request's numbers and texts are of their types.
abbrev pub IsRequest : Request → Type 0
IsRequest (Set v) = IsOfItsType v
IsRequest (SetLabel label) = IsText label
IsRequest (GetPositionName position) = position < 2 ^ 16
IsRequest (SetPositionName position name) = (position < 2 ^ 16) × IsText name
IsRequest (GetPositionEnabled position) = position < 2 ^ 16
IsRequest (SetPositionEnabled position _) = position < 2 ^ 16
IsRequest (SetPositionNames names) = Each IsText names.items × (length names.items ≤ 16)
IsRequest (SetPositionEnableds flags) = length flags.items ≤ 16
IsRequest _ = Unit {0}

-- WHAT A PANEL ASKS is what the device understands.
abbrev pub RequestsAreUnderstood : Type 0
RequestsAreUnderstood = (of : Class) (request : Request) (m : Method) → IsRequest request → AskedBy of request m
    → request_in of m (count_of request) (parameters_of request) ≡ Ok request
