-- The requests that set and read a value, each with its parameters (AES70-2).
use Rattle.std.specs.Prelude.{◌≡◌, ℕ, List, [], Option, Some, None}
use Rattle.oca_types.specs.declared.class.Class.{Class}
use Rattle.oca_types.specs.declared.class.Method.{Method}
use Rattle.oca_types.specs.declared.class.MethodKind.TheVariants.{Known}
use Rattle.oca_types.specs.Methods.{method_kind, access}
use Rattle.oca_types.specs.Peers.{RequestFields}
use Rattle.oca_model.specs.declared.value_request.ValueRequest.{ValueRequest}

-- what is asked of the object with this number, without where the parameters lie in memory
abbrev pub request_to : ℕ → ValueRequest → RequestFields
request_to target r =
    record { target = target; level = r.method.level; index = r.method.index; count = r.count; params = r.params.items }

-- The request calls this method of the class, with so many parameters in these bytes.
pub record CallsMethod (of : Class) (called : Method) (request : ValueRequest) (number : ℕ) (bytes : List ℕ)
    : Type 0 where
  pub method : method_kind of request.method ≡ Known called (access called)
  pub count : request.count ≡ number
  pub params : request.params.items ≡ bytes

-- There is a request without parameters exactly where there is a method, and it is for that.
abbrev pub CallsMethodIfAny : Option Method → Class → Option ValueRequest → Type 0
CallsMethodIfAny None class request = request ≡ None
CallsMethodIfAny (Some method) class None = None ≡ Some method
CallsMethodIfAny (Some method) class (Some request) = CallsMethod class method request 0 []
