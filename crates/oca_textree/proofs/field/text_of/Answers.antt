use Rattle.std.proofs.Common.{◌≡◌, false, true, refl, sym, ap, ◌∙◌}
use Rattle.std.specs.Str.{is_utf8}
use Rattle.std.proofs.lemmas.Str.{is_utf8-from_IsUtf8}
use Rattle.oca_script.specs.Escapes.{has_hidden}
use Rattle.oca_textree.proofs.SplitLemmas.{not-utf8}
use Rattle.oca_textree.proofs.field.text_of.Goals as goal

pub returns-else-has_hidden : goal.returns-else-has_hidden
returns-else-has_hidden c =
    let h = c.in-Ok.ensures.cases in
    let utf8 : is_utf8 c.args.bytes.now ≡ true = is_utf8-from_IsUtf8 _ h.1 in
    let shown : has_hidden c.args.bytes.now ≡ false = sym (ap has_hidden h.0) ∙ sym c.has_hidden.ensures ∙ c.if-has_hidden.false in
    (h.0, rw (utf8, shown) refl)

pub returns-in-Err : goal.returns-in-Err
returns-in-Err c = let h = c.in-Err.ensures.cases in let no : is_utf8 c.args.bytes.now ≡ false = not-utf8 _ h.0 in rw no refl
