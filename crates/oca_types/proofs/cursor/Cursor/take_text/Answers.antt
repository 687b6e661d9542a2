use Rattle.std.proofs.Common.{◌≡◌, ◌<◌, refl, sym, ◌∙◌, ap, subst, List, ℕ, ◌++◌, length, arith, inl, inr}
use Rattle.std.specs.Prelude.{Ok, Some}
use Rattle.std.specs.Int.{w16}
use Rattle.std.proofs.lemmas.Bool.{cases_lt, false≢true}
use Rattle.std.proofs.lemmas.Result.{err_from_is_err_and}
use Rattle.oca_types.specs.Numbers.{unsigned_encoding}
use Rattle.oca_types.specs.Texts.{IsTextEncoding}
use Rattle.oca_types.specs.Taking.{Takes}
use Rattle.oca_types.specs.Reading.{text_at}
use Rattle.oca_types.proofs.Texts.{no_count, text_refused, not_refused, no_chars, text_found, text_only, same_front}
use Rattle.oca_types.proofs.TextAt.{front_some, front_none, at_count, at_no_count}
use Rattle.oca_types.proofs.cursor.Cursor.take_text.Goals as goal

pub returns-in_err-count-clause-refusal : goal.returns-in_err-count-clause-refusal
returns-in_err-count-clause-refusal c =
    let p = err_from_is_err_and c.from_residual.result c.from_residual.ensures.1 in
    let s = c.in_err-count.ensures.short in
    rw (p.1, p.2, s.0) (no_count c.args.self.now.rest.now s.1)

pub returns-in_err-count-clause-reads : goal.returns-in_err-count-clause-reads
returns-in_err-count-clause-reads c =
    let p = err_from_is_err_and c.from_residual.result c.from_residual.ensures.1 in
    rw p.1 (at_no_count c.args.self.now.rest.now c.in_err-count.ensures.reads)

pub returns-in_err-text-clause-only : goal.returns-in_err-text-clause-only
returns-in_err-text-clause-only c = λ text front rest s e small.
    let f = c.in_ok-count.ensures.found in
    absurd (not_refused c.in_ok-count.count c.args.self.now.rest.now c.take_u16.new.self.rest.now c.in_err-text.field-0.0 text front rest f.1.0 (f.2 ∙ ap (λ (x : List ℕ). x ++ c.take_u16.new.self.rest.now) f.1.1) c.in_err-text.ensures.refusal s e)

pub returns-in_err-text-clause-refusal : goal.returns-in_err-text-clause-refusal
returns-in_err-text-clause-refusal c =
    let f = c.in_ok-count.ensures.found in
    let p = err_from_is_err_and c.from_residual-in_err-text.result c.from_residual-in_err-text.ensures.1 in
    rw (p.1, p.2) (text_refused c.in_ok-count.count c.args.self.now.rest.now c.take_u16.new.self.rest.now c.in_err-text.field-0.0 f.1.0 (f.2 ∙ ap (λ (x : List ℕ). x ++ c.take_u16.new.self.rest.now) f.1.1) c.in_err-text.ensures.refusal)

pub returns-in_err-text-clause-reads : goal.returns-in_err-text-clause-reads
returns-in_err-text-clause-reads c =
    let p = err_from_is_err_and c.from_residual-in_err-text.result c.from_residual-in_err-text.ensures.1 in
    let after = c.take_u16.new.self.rest.now in
    let none = front_none c.in_ok-count.count after (λ text rest has e small. no_chars c.in_ok-count.count after c.in_err-text.field-0.0 text rest c.in_err-text.ensures.refusal has e) in
    rw p.1 (at_count c.in_ok-count.count c.args.self.now.rest.now after c.in_ok-count.ensures.reads ∙ none)

pub returns-in_default-clause-only : goal.returns-in_default-clause-only
returns-in_default-clause-only c = λ text front rest s e small.
    let f = c.in_ok-count.ensures.found in
    let ok = c.in_ok-text.ensures.ok in
    let parts : c.args.self.now.rest.now ≡ unsigned_encoding w16 c.in_ok-count.count ++ c.take_u16.new.self.rest.now = f.2 ∙ ap (λ (x : List ℕ). x ++ c.take_u16.new.self.rest.now) f.1.1 in
    let o = text_only c.in_ok-count.count c.args.self.now.rest.now c.take_u16.new.self.rest.now c.in_ok-text.text.now c.in_ok-text.rest.now text front rest f.1.0 parts ok.0 ok.1 s e in
    let lie = c.in_default.ensures.variant.1 (omega (arith, ap length o.0, small)) in
    absurd (false≢true lie)

pub returns-in_default-clause-refusal : goal.returns-in_default-clause-refusal
returns-in_default-clause-refusal c =
    let f = c.in_ok-count.ensures.found in
    let ok = c.in_ok-text.ensures.ok in
    let parts : c.args.self.now.rest.now ≡ unsigned_encoding w16 c.in_ok-count.count ++ c.take_u16.new.self.rest.now = f.2 ∙ ap (λ (x : List ℕ). x ++ c.take_u16.new.self.rest.now) f.1.1 in
    let t = text_found c.in_ok-count.count c.args.self.now.rest.now c.take_u16.new.self.rest.now c.in_ok-text.text.now c.in_ok-text.rest.now f.1.0 parts ok.0 ok.1 in
    let long : 64 < length c.in_ok-text.text.now = elim (cases_lt 64 (length c.in_ok-text.text.now)) [ inl lt ↦ lt | inr le ↦ absurd (false≢true (c.in_default.ensures.variant.1 le)) ] in
    (c.in_ok-text.text.now, c.in_ok-text.rest.now, t, long)

pub returns-in_default-clause-reads : goal.returns-in_default-clause-reads
returns-in_default-clause-reads c =
    let ok = c.in_ok-text.ensures.ok in
    let after = c.take_u16.new.self.rest.now in
    let long : 64 < length c.in_ok-text.text.now = elim (cases_lt 64 (length c.in_ok-text.text.now)) [ inl lt ↦ lt | inr le ↦ absurd (false≢true (c.in_default.ensures.variant.1 le)) ] in
    let none = front_none c.in_ok-count.count after (λ text rest has e small.
    let same = same_front c.in_ok-count.count text c.in_ok-text.text.now rest c.in_ok-text.rest.now has ok.0 (sym e ∙ ok.1) in
    omega (arith, ap length same.0, small, long)) in
    at_count c.in_ok-count.count c.args.self.now.rest.now after c.in_ok-count.ensures.reads ∙ none

pub returns-clause-found : goal.returns-clause-found
returns-clause-found c =
    let f = c.in_ok-count.ensures.found in
    let ok = c.in_ok-text.ensures.ok in
    let parts : c.args.self.now.rest.now ≡ unsigned_encoding w16 c.in_ok-count.count ++ c.take_u16.new.self.rest.now = f.2 ∙ ap (λ (x : List ℕ). x ++ c.take_u16.new.self.rest.now) f.1.1 in
    let t = text_found c.in_ok-count.count c.args.self.now.rest.now c.take_u16.new.self.rest.now c.in_ok-text.text.now c.in_ok-text.rest.now f.1.0 parts ok.0 ok.1 in
    let P : List ℕ → Type 0 = λ x. Takes IsTextEncoding x c.args.self.now.rest.now c.in_ok-text.rest.now in
    subst P (sym c.in-Some.ensures.value) t

pub returns-clause-only : goal.returns-clause-only
returns-clause-only c = λ text front rest s e small.
    let f = c.in_ok-count.ensures.found in
    let ok = c.in_ok-text.ensures.ok in
    let parts : c.args.self.now.rest.now ≡ unsigned_encoding w16 c.in_ok-count.count ++ c.take_u16.new.self.rest.now = f.2 ∙ ap (λ (x : List ℕ). x ++ c.take_u16.new.self.rest.now) f.1.1 in
    let o = text_only c.in_ok-count.count c.args.self.now.rest.now c.take_u16.new.self.rest.now c.in_ok-text.text.now c.in_ok-text.rest.now text front rest f.1.0 parts ok.0 ok.1 s e in
    (ap (λ (x : List ℕ). Ok x) (c.in-Some.ensures.value ∙ o.0), o.1)

pub returns-clause-reads : goal.returns-clause-reads
returns-clause-reads c =
    let ok = c.in_ok-text.ensures.ok in
    let after = c.take_u16.new.self.rest.now in
    let found = front_some c.in_ok-count.count after c.in_ok-text.text.now c.in_ok-text.rest.now ok.0 ok.1 (c.in-Some.ensures.variant.0 refl) in
    let P : List ℕ → Type 0 = λ x. text_at c.args.self.now.rest.now ≡ Some (x, c.in_ok-text.rest.now) in
    subst P (sym c.in-Some.ensures.value) (at_count c.in_ok-count.count c.args.self.now.rest.now after c.in_ok-count.ensures.reads ∙ found)
