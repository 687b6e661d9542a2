use Rattle.std.proofs.Common.{◌≡◌, false, true, refl, ap, ◌∙◌}
use Rattle.std.specs.Str.{is_utf8}
use Rattle.std.proofs.lemmas.Str.{is_utf8-from_IsUtf8}
use Rattle.oca_textree.specs.Stored.{short}
use Rattle.oca_textree.proofs.SplitLemmas.{not-utf8}
use Rattle.oca_textree.proofs.quoted.short_text_of.Goals as goal

pub returns-in-Ok : goal.returns-in-Ok
returns-in-Ok c =
    let h = c.in-Ok.ensures.cases in
    let utf8 : is_utf8 c.args.bytes.now ≡ true = is_utf8-from_IsUtf8 _ h.1 in
    rw utf8 (c.short_text.ensures ∙ ap short h.0)

pub returns-in-Err : goal.returns-in-Err
returns-in-Err c = let h = c.in-Err.ensures.cases in let no : is_utf8 c.args.bytes.now ≡ false = not-utf8 _ h.0 in rw no refl
