use Rattle.std.proofs.Common.{◌≡◌, ◌++◌, ◌+◌, ℕ, List, length, ◌∙◌, ap, append_assoc, arith, length-append, refl}
use Rattle.std.specs.Prelude.{Result, Ok, Err, OnErr, IsErr}
use Rattle.std.specs.Str.{chars}
use Rattle.std.specs.Int.{w16, to_be_bytes}
use Rattle.oca_types.specs.Texts.{text_encoding}
use Rattle.oca_types.specs.Putting.{Puts}
use Rattle.oca_types.proofs.put.put_text.Goals as goal

never : {T E : Type 0} (P : Type 0) (r : Result T E) → (IsErr r → ⊥) → OnErr r P
never P (Ok x) none = tt
never P (Err e) none = absurd (none refl)

joined : (n m : ℕ) (old mid new text bytes : List ℕ) → m ≡ n → mid ≡ old ++ to_be_bytes w16 m → bytes ≡ text → new ≡ mid ++ bytes → new ≡ old ++ (to_be_bytes w16 n ++ text)
joined n m old mid new text bytes em e eb e2 = e2 ∙ ap (λ (x : List ℕ). mid ++ x) eb ∙ ap (λ (x : List ℕ). x ++ text) (e ∙ ap (λ (k : ℕ). old ++ to_be_bytes w16 k) em) ∙ append_assoc old (to_be_bytes w16 n) text

-- what is put behind what was put before
puts_more : {T E : Type 0} (r : Result T E) (old mid new bytes encoding : List ℕ) → (new ≡ mid ++ bytes → new ≡ old ++ encoding) → (length mid + length bytes ≡ length old + length encoding)
    → Puts r mid new bytes → Puts r old new encoding
puts_more (Ok x) old mid new bytes encoding more same put = more put
puts_more (Err e) old mid new bytes encoding more same full = omega (arith, same, full)

pub returns-clause-puts : goal.returns-clause-puts
returns-clause-puts c =
    let count = c.scalar_count.ensures ∙ ap (λ (x : List ℕ). length (chars x)) c.as_str-text.ensures.value in
    let bytes = c.as_bytes.ensures.value ∙ c.as_str-text.ensures.value in
    let mid = ap length c.in_ok-put_u16.ensures.puts in
    puts_more c.put_bytes.result c.args.params.now.items c.put_u16.new.params.items c.put_bytes.new.params.items c.as_bytes.result.now (text_encoding c.args.value.now)
    (joined (length (chars c.args.value.now)) c.scalar_count.result c.args.params.now.items c.put_u16.new.params.items c.put_bytes.new.params.items c.args.value.now c.as_bytes.result.now count c.in_ok-put_u16.ensures.puts bytes)
    (omega (arith, mid, ap length bytes, length-append c.args.params.now.items (to_be_bytes w16 c.scalar_count.result)))
    c.put_bytes.ensures.puts

pub returns-clause-err : goal.returns-clause-err
returns-clause-err c = never (c.put_bytes.new.params ≡ c.args.params.now) c.put_bytes.result (λ is_err.
    let full = c.put_bytes.ensures.full.0 is_err in
    let mid = ap length c.in_ok-put_u16.ensures.puts in
    omega (arith, mid, length-append c.args.params.now.items (to_be_bytes w16 c.scalar_count.result)))
