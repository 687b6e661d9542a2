-- Each class has the methods that set and read its values.
use Rattle.oca_model.proofs.Terms.{◌≡◌, refl, subst, Some, None, Class, Method, Known, access, IsMethodId, Value, class_of_value, set_method, get_method}
use Rattle.oca_types.specs.declared.words.MethodId.{MethodId}
use Rattle.oca_types.specs.declared.class.Class.TheVariants as class
use Rattle.oca_types.specs.declared.class.Method.TheVariants.{GetState, GetPosition, GetSetting}
use Rattle.oca_types.specs.Methods.{method_kind}
use Rattle.oca_model.specs.declared.value.Value.TheVariants.{Mute, Polarity, Switch}

-- a class that has a method by some pair has a pair for it
there : (of : Class) (m : Method) (id : MethodId) → method_kind of id ≡ Known m (access m) → IsMethodId of m None → ⊥
there of m id e h = let none : None ≡ Some id = (h id).0 e in cc

pub has_set : (v : Value) → IsMethodId (class_of_value v) (set_method v) None → ⊥
unfolding method_kind
has_set (Mute x) h = there (class_of_value (Mute x)) (set_method (Mute x)) (record { level = 4; index = 2 }) refl h
has_set (Polarity x) h = there (class_of_value (Polarity x)) (set_method (Polarity x)) (record { level = 4; index = 2 }) refl h
has_set (Switch x) h = there (class_of_value (Switch x)) (set_method (Switch x)) (record { level = 4; index = 2 }) refl h
has_set v h = there (class_of_value v) (set_method v) (record { level = 5; index = 2 }) refl h

has_here : (of : Class) (m called : Method) → called ≡ m → (id : MethodId) → method_kind of id ≡ Known called (access called) → IsMethodId of m None → ⊥
has_here of m called same id e h = let P : Method → Type 0 = λ x. method_kind of id ≡ Known x (access x) in there of m id (subst P same e) h

pub has_get : (of : Class) (m : Method) → get_method of ≡ Some m → IsMethodId of m None → ⊥
unfolding method_kind
has_get class.Block m e h = cc
has_get class.Mute m e h = let same : GetState ≡ m = cc in has_here class.Mute m GetState same (record { level = 4; index = 1 }) refl h
has_get class.Polarity m e h = let same : GetState ≡ m = cc in has_here class.Polarity m GetState same (record { level = 4; index = 1 }) refl h
has_get class.Switch m e h = let same : GetPosition ≡ m = cc in has_here class.Switch m GetPosition same (record { level = 4; index = 1 }) refl h
has_get of m e h = let same : GetSetting ≡ m = cc in has_here of m GetSetting same (record { level = 5; index = 1 }) refl h
