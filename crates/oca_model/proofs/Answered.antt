-- What a device answers is what the panel reads.
use Rattle.oca_model.proofs.Terms.{◌≡◌, [], refl, sym, ap, ◌∙◌, append-nil, arith, Some, option_map, w32, unsigned_encoding, text_encoding, Class, Reading, lists_back, whole_of, u32_front, front_of_text}
use Rattle.oca_types.specs.Reading.{unsigned_at, text_at}
use Rattle.std.proofs.lemmas.Bool.{eq-eqb}
use Rattle.oca_model.specs.declared.answer.Answer.{Answer}
use Rattle.oca_model.specs.declared.answer.Answer.TheVariants.{Done, Truth, Text, Owner, Names, Flags, Class as ItsClass, Members, Descendants}
use Rattle.oca_types.specs.Classes.{class_identification_encoding}
use Rattle.oca_model.specs.Members.{class_at, class_in, member_at, member_encoding, IsMember, descendant_at, descendant_encoding, IsDescendant}
use Rattle.oca_model.specs.MemberFronts.{class_front, member_front, descendant_front}
use Rattle.oca_model.specs.Readings.{reading_in, reading_encoding}
use Rattle.oca_model.specs.Answers.{shape_of_answer, shaped_in, answer_count, answer_encoding, answer_in, IsAnswer, AnswersAreRead}
use Rattle.oca_model.proofs.ReadBack.{readings_back}
use Rattle.oca_model.proofs.Understood.{bool_whole, names_whole, flags_whole}

class_whole : (c : Class) → class_in (class_identification_encoding c) ≡ Some c
class_whole c =
    let bytes = class_identification_encoding c in
    let all : class_at bytes ≡ Some (Some c, []) = ap class_at (sym (append-nil bytes)) ∙ class_front c [] in
    rw all refl

shaped : (of : Class) (a : Answer) → IsAnswer of a → shaped_in (shape_of_answer a) of (answer_encoding a) ≡ Some a
unfolding answer_encoding
shaped of Done is = refl
shaped of (Truth truth) is = ap (option_map Truth) (bool_whole truth)
shaped of (Text text) is = ap (option_map Text) (whole_of _ text_encoding text_at front_of_text text is)
shaped of (Owner ono) is = ap (option_map (λ n. Owner (record { 0 = n }))) (whole_of _ (unsigned_encoding w32) (unsigned_at w32) u32_front ono.0 is)
shaped of (Reading r) is = ap (option_map Reading) (ap (λ c. reading_in c (reading_encoding r)) (sym is.0) ∙ readings_back r is.1)
shaped of (Names names) is = ap (option_map (λ xs. Names (record { items = xs }))) (names_whole names.items is.0 is.1)
shaped of (Flags flags) is = ap (option_map (λ xs. Flags (record { items = xs }))) (flags_whole flags.items is)
shaped of (ItsClass c) is = ap (option_map ItsClass) (class_whole c)
shaped of (Members members) is = ap (option_map (λ xs. Members (record { items = xs }))) (lists_back IsMember member_encoding member_at member_front 181 members.items is.1 (omega (arith, is.1)) is.0)
shaped of (Descendants all) is = ap (option_map (λ xs. Descendants (record { items = xs }))) (lists_back IsDescendant descendant_encoding descendant_at descendant_front 120 all.items is.1 (omega (arith, is.1)) is.0)

pub answers_read : AnswersAreRead
unfolding answer_in
answers_read of m a is e = rw (e, shaped of a is, eq-eqb (answer_count a) (answer_count a) refl) refl
