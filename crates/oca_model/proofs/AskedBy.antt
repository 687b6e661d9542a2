-- One method asks a request of a class.
use Rattle.oca_model.proofs.Terms.{◌≡◌, sym, subst, ◌∙◌, Some, None, Class, Method, Known, access, IsMethodId, Request, Get, Set, AskedBy}
use Rattle.oca_types.specs.Methods.{method_kind}
use Rattle.oca_model.specs.declared.request.RequestFault.TheVariants.{OtherClass}
use Rattle.oca_model.specs.Requests.{IsRefusedCall}

one_method : (of : Class) (r : Request) (m n : Method) → AskedBy of r m → AskedBy of r n → m ≡ n
one_method of Get m n p q = let both : Some m ≡ Some n = sym p ∙ q in cc
one_method of (Set v) m n p q = p.1 ∙ sym q.1
one_method of _ m n p q = p ∙ sym q

-- where the class lacks the method, no method of the class asks it
pub lacks : (of : Class) (r : Request) (m : Method) → AskedBy of r m → IsMethodId of m None → IsRefusedCall of r OtherClass
lacks of r m asks none n id other known =
    let P : Method → Type 0 = λ x. method_kind of id ≡ Known x (access x) in
    let there : None ≡ Some id = (none id).0 (subst P (one_method of r n m other asks) known) in
    cc
