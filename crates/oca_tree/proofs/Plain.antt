-- What a method asks that only reads and has no parameters: it is in range and valid of any object, and changes none.
use Rattle.oca_tree.proofs.Words.{◌≡◌, true, false, [], refl, subst, Some, Ok, Class, Method, Known, Peer, access, Request, Object, fits_positions, is_write, plain_request}
use Rattle.oca_types.specs.declared.class.Method.TheVariants as methods
use Rattle.oca_model.specs.Requests.{request_in}
use Rattle.oca_tree.specs.Requests.{asks_out_of_range, asks_invalid}
use Rattle.oca_tree.specs.Typed.{changed_by}

-- The method asks this of any object without parameters, nothing refuses it, and it changes nothing.
pub record IsPlain (method : Method) (r : Request) : Type 0 where
  pub asked : (of : Class) → request_in of method 0 [] ≡ Ok r
  pub fits : (o : Object) → fits_positions o.value r ≡ true
  pub within : (o : Object) → asks_out_of_range o.value r ≡ false
  pub valid : (o : Object) → asks_invalid o r ≡ false
  pub reads : is_write (Known method (access method)) ≡ false
  pub same : (o : Object) (peer : Peer) → changed_by o peer r ≡ o

asks_this : (method : Method) (q r : Request) → Some q ≡ Some r → IsPlain method q → IsPlain method r
asks_this method q r e plain = let same : q ≡ r = cc in subst (IsPlain method) same plain

pub plain : (method : Method) (r : Request) → plain_request method ≡ Some r → IsPlain method r
unfolding request_in asks_out_of_range asks_invalid changed_by
plain methods.LockTotal r e = cc
plain methods.Unlock r e = cc
plain methods.LockReadonly r e = cc
plain methods.SetEnabled r e = cc
plain methods.SetLabel r e = cc
plain methods.SetState r e = cc
plain methods.SetPosition r e = cc
plain methods.GetPositionName r e = cc
plain methods.SetPositionName r e = cc
plain methods.SetPositionNames r e = cc
plain methods.GetPositionEnabled r e = cc
plain methods.SetPositionEnabled r e = cc
plain methods.SetPositionEnableds r e = cc
plain methods.SetSetting r e = cc
plain _ r e = asks_this _ _ r e (record { asked = λ of. refl; fits = λ o. refl; within = λ o. refl; valid = λ o. refl; reads = refl; same = λ o peer. refl })
