use Rattle.std.proofs.Common.{◌++◌, ◌∷◌, [], ap, sym, ◌∙◌, append_assoc, codes}
use Rattle.oca_script.specs.Escapes.{digits_of}
use Rattle.oca_script.proofs.EscapeLemmas.{letter_printed, hidden_printed, plain_printed}
use Rattle.oca_script.proofs.escape.put_escape.Goals as goal

pub returns-in-Some-clause-value : goal.returns-in-Some-clause-value
returns-in-Some-clause-value c =
    let printed = letter_printed c.args.c c.in-Some.letter (sym c.letter.ensures ∙ c.in-Some.is) in
    rw printed (c.push-in-Some.ensures ∙ ap (λ l. l ++ c.in-Some.letter ∷ []) c.push.ensures ∙ append_assoc c.args.bytes.now (92 ∷ []) (c.in-Some.letter ∷ []))

pub returns-then-is_hidden-clause-value : goal.returns-then-is_hidden-clause-value
returns-then-is_hidden-clause-value c =
    let printed = hidden_printed c.args.c (sym c.letter.ensures ∙ c.in_default.is) (sym c.is_hidden.ensures.value ∙ c.if-is_hidden.true) in
    rw printed (c.put-then-is_hidden.ensures ∙ ap (λ l. l ++ codes "}") (c.put_number.ensures.value ∙ ap (λ l. l ++ digits_of c.args.c) c.put.ensures) ∙ append_assoc (c.args.bytes.now ++ codes "\\u{") (digits_of c.args.c) (codes "}") ∙ append_assoc c.args.bytes.now (codes "\\u{") (digits_of c.args.c ++ codes "}"))

pub returns-else-is_hidden-clause-value : goal.returns-else-is_hidden-clause-value
returns-else-is_hidden-clause-value c =
    let printed = plain_printed c.args.c (sym c.letter.ensures ∙ c.in_default.is) (sym c.is_hidden.ensures.value ∙ c.if-is_hidden.false) in
    rw printed (c.put-else-is_hidden.ensures ∙ ap (λ l. c.args.bytes.now ++ l) (c.as_bytes.ensures.value ∙ c.encode_utf8.ensures.value))
