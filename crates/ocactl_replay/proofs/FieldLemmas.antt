-- Facts on how many fields a text has.
use Rattle.std.proofs.Common.{◌≡◌, ℕ, List, ◌∷◌, Option, Some, None, sym, ap, ◌∙◌}
use Rattle.oca_script.specs.Fields.{fields, fields_after}
use Rattle.oca_script.proofs.FieldLemmas.{AtLeastOne, fields-some}
use Rattle.std.specs.Prelude.{Err}
use Rattle.oca_script.specs.declared.fault.LineFault.TheVariants as fault
use Rattle.ocactl_replay.specs.Requests.{one_text, two_texts, command_texts, due_of}

-- the fields of a rest, the first of them split off
pub after-is : (o p : Option (List ℕ)) (r a : List ℕ) → o ≡ Some r → fields r ≡ a ∷ fields_after p → fields_after o ≡ a ∷ fields_after p
after-is o p r a is e = ap fields_after is ∙ e

pub after-some : (o : Option (List ℕ)) (r : List ℕ) → o ≡ Some r → AtLeastOne (fields_after o)
after-some o r is =
    let some = fields-some r in
    record { first = some.first; others = some.others; are = ap fields_after is ∙ some.are }

-- one field and more are not one
pub more_than_one : (o p : Option (List ℕ)) (a r : List ℕ) → fields_after o ≡ a ∷ fields_after p → p ≡ Some r → None ≡ one_text (fields_after o)
more_than_one o p a r e is =
    let some = after-some p r is in
    sym (ap one_text (e ∙ ap (λ (fs : List (List ℕ)). a ∷ fs) some.are))

-- two and more are not two
pub more_than_two : (o p q : Option (List ℕ)) (a b r : List ℕ) → fields_after o ≡ a ∷ fields_after p → fields_after p ≡ b ∷ fields_after q → q ≡ Some r
    → None ≡ two_texts (fields_after o)
more_than_two o p q a b r e f is =
    let some = after-some q r is in
    sym (ap two_texts (e ∙ ap (λ (fs : List (List ℕ)). a ∷ fs) (f ∙ ap (λ (fs : List (List ℕ)). b ∷ fs) some.are)))

-- five and more are not five
pub more_than_five : (o p q s t u : Option (List ℕ)) (a b c d f r : List ℕ) → fields_after o ≡ a ∷ fields_after p → fields_after p ≡ b ∷ fields_after q → fields_after q ≡ c ∷ fields_after s
    → fields_after s ≡ d ∷ fields_after t → fields_after t ≡ f ∷ fields_after u → u ≡ Some r → None ≡ command_texts (fields_after o)
more_than_five o p q s t u a b c d f r e1 e2 e3 e4 e5 is =
    let some = after-some u r is in
    let g5 = e5 ∙ ap (λ (fs : List (List ℕ)). f ∷ fs) some.are in
    let g4 = e4 ∙ ap (λ (fs : List (List ℕ)). d ∷ fs) g5 in
    let g3 = e3 ∙ ap (λ (fs : List (List ℕ)). c ∷ fs) g4 in
    let g2 = e2 ∙ ap (λ (fs : List (List ℕ)). b ∷ fs) g3 in
    sym (ap command_texts (e1 ∙ ap (λ (fs : List (List ℕ)). a ∷ fs) g2))

-- a field and more are too many where none is wanted
pub more_than_none : (moment : List ℕ) (o : Option (List ℕ)) (r : List ℕ) → o ≡ Some r → Err fault.Form ≡ due_of moment (fields_after o)
more_than_none moment o r is = sym (ap (due_of moment) (after-some o r is).are)
