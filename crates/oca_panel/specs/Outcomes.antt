-- What the answer to a command says (AES70-2).
use Rattle.std.specs.Prelude.{◌==◌, Bool, Err, List, Ok, Option, Result, if◌then◌else◌, ℕ}
use Rattle.oca_panel.specs.Words.{Answer, Class, Method, Outcome, Reading, answer_in, class_id_in, class_with}
use Rattle.oca_panel.specs.Words.{members_in, reading_in, switch_names_in}
use Rattle.std.specs.Option.{ok_or}
use Rattle.oca_types.specs.declared.class.Class.TheVariants as class
use Rattle.oca_types.specs.declared.class.Method.TheVariants as method
use Rattle.oca_types.specs.Reading.{text_at}
use Rattle.oca_control.specs.declared.answer.Answer.{Answer as ControlAnswer}
use Rattle.oca_control.specs.declared.outcome.Outcome.TheVariants as outcomes
use Rattle.oca_model.specs.declared.answer.Answer.TheVariants as answers
use Rattle.oca_model.specs.Parameters.{whole}
use Rattle.oca_panel.specs.declared.trouble.Trouble.{Trouble}
use Rattle.oca_panel.specs.declared.trouble.Trouble.TheVariants as trouble

abbrev pub on_ok : {A B : Type 0} → (A → B) → Result A Trouble → Result B Trouble
on_ok f (Ok x) = Ok (f x)
on_ok f (Err t) = Err t

-- what is read of an answer with status OK, or why there is none
abbrev pub answered_with : {A : Type 0} → (ControlAnswer → Result A Trouble) → Outcome → Result A Trouble
answered_with read (outcomes.Answered a) = if a.status == 0 then read a else Err (trouble.Refused a.status)
answered_with read (outcomes.Refused fault) = Err (trouble.NotSubmitted fault)
answered_with read outcomes.Lost = Err trouble.Lost
answered_with read outcomes.Unanswered = Err trouble.Unanswered

abbrev pub parameters_answered : Outcome → Result (List ℕ) Trouble
parameters_answered outcome = answered_with (λ a. Ok a.params.items) outcome

-- what is read, or that the answer is none to the command
abbrev pub readable : {A : Type 0} → Option A → Result A Trouble
readable read = ok_or read trouble.Unreadable

abbrev pub read_from : {A : Type 0} → (List ℕ → Option A) → Result (List ℕ) Trouble → Result A Trouble
read_from read (Ok params) = readable (read params)
read_from read (Err t) = Err t

-- the command was carried out
abbrev pub done_or_trouble : Result (List ℕ) Trouble → Result Unit Trouble
done_or_trouble (Ok params) = Ok tt
done_or_trouble (Err t) = Err t

abbrev pub done_answered : Outcome → Result Unit Trouble
done_answered outcome = done_or_trouble (parameters_answered outcome)

-- the fields of the class's identifier
abbrev pub fields_answered : Outcome → Result (List ℕ) Trouble
fields_answered outcome = read_from class_id_in (parameters_answered outcome)

-- a class that has values here, or OcaBlock
abbrev pub known_class : Option Class → Result Class Trouble
known_class of = ok_or of trouble.NoValue

abbrev pub class_of_fields : Result (List ℕ) Trouble → Result Class Trouble
class_of_fields (Ok fields) = known_class (class_with fields)
class_of_fields (Err t) = Err t

abbrev pub class_answered : Outcome → Result Class Trouble
class_answered outcome = class_of_fields (fields_answered outcome)

-- a value with its limits
abbrev pub reading_answered : Class → Outcome → Result Reading Trouble
reading_answered of outcome = read_from (reading_in of) (parameters_answered outcome)

abbrev pub text_answered : Outcome → Result (List ℕ) Trouble
text_answered outcome = read_from (λ params. whole (text_at params)) (parameters_answered outcome)

abbrev pub members_answered : Outcome → Result (List ℕ) Trouble
members_answered outcome = read_from members_in (parameters_answered outcome)

abbrev pub names_answered : Outcome → Result (List (List ℕ)) Trouble
names_answered outcome = read_from switch_names_in (parameters_answered outcome)

-- what the answer to a method of an object of the class says
abbrev pub model_answered : Class → Method → Outcome → Result Answer Trouble
model_answered of method outcome = answered_with (λ a. readable (answer_in of method a.count a.params.items)) outcome

-- the Boolean of an answer to GetEnabled, with its one parameter
abbrev pub truth_of : Result Answer Trouble → Result Bool Trouble
truth_of (Ok (answers.Truth truth)) = Ok truth
truth_of (Ok _) = Err trouble.Unreadable
truth_of (Err t) = Err t

abbrev pub truth_answered : Outcome → Result Bool Trouble
truth_answered outcome = truth_of (model_answered class.Block method.GetEnabled outcome)
