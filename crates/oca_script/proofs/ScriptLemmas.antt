-- Facts on the script that is left.
use Rattle.std.proofs.Common.{◌≡◌, ℕ, suc, ◌+◌, ◌<◌, ◌≤◌, ◌==◌, Bool, true, false, cond, leb, ltb, List, [], ◌∷◌, ◌++◌, length, take, Option, Some, None, Result, Ok, Err, refl, sym, ap, ◌∙◌, arith, append_assoc, append-nil, length-append, zero-add}
use Rattle.std.proofs.lemmas.Bool.Decides.{nat_tests}
use Rattle.std.proofs.lemmas.Bool.{eqb-true}
use Rattle.std.specs.Option.{option_map}
use Rattle.oca_script.specs.Fields.{fields, onto_first, split_at}
use Rattle.oca_script.specs.declared.fault.LineFault.{LineFault}
use Rattle.oca_script.specs.declared.fault.LineFault.TheVariants.{TooLong}
use Rattle.oca_script.specs.declared.fault.ReplayFault.{ReplayFault}
use Rattle.oca_script.specs.declared.fault.ReplayFault.TheVariants.{Line, TooMuch}
use Rattle.oca_script.specs.Script.{lines, counted_lines, script_of, script, line_then, ends_by, parsed, parsed_by, asks}
use Rattle.oca_script.specs.PrivateScript.{onto_line, script_from}

leb-suc : (a b : ℕ) → leb (suc a) (suc b) ≡ leb a b
leb-suc a b = grind (arith, nat_tests)

-- there is at least one line
pub lines-some : (text : List ℕ) → (f : List ℕ) × (fs : List (List ℕ)) × (lines text ≡ f ∷ fs)
lines-some [] = ([], [], refl)
lines-some (b ∷ bs) =
    let h = lines-some bs in
    elim (b == 10) as (λ v. (f : List ℕ) × (fs : List (List ℕ)) × (cond v ([] ∷ lines bs) (onto_first b (lines bs)) ≡ f ∷ fs)) [
      | true ↦ ([], lines bs, refl)
      | false ↦ (b ∷ h.0, h.1, ap (onto_first b) h.2)
    ]

onto_line-nil : (text : List ℕ) → onto_line [] (lines text) ≡ lines text
onto_line-nil text = let h = lines-some text in ap (onto_line []) h.2 ∙ sym h.2

-- where a line is ended it counts
counted-more : (line : List ℕ) (text : List ℕ) → counted_lines (line ∷ lines text) ≡ line ∷ counted_lines (lines text)
counted-more line text = let h = lines-some text in ap (λ ls. counted_lines (line ∷ ls)) h.2 ∙ ap (λ ls. line ∷ counted_lines ls) (sym h.2)

onto_line-byte : (line : List ℕ) (b : ℕ) (text : List ℕ) → onto_line line (onto_first b (lines text)) ≡ onto_line (line ++ b ∷ []) (lines text)
onto_line-byte line b text =
    let h = lines-some text in
    ap (λ ls. onto_line line (onto_first b ls)) h.2 ∙ ap (λ (l : List ℕ). l ∷ h.1) (sym (append_assoc line (b ∷ []) h.0)) ∙ ap (onto_line (line ++ b ∷ [])) (sym h.2)

onto_line-first : (line text : List ℕ) → (rest : List ℕ) × (more : List (List ℕ)) × (onto_line line (lines text) ≡ (line ++ rest) ∷ more)
onto_line-first line text = let h = lines-some text in (h.0, h.1, ap (onto_line line) h.2)

-- a first line that is too long counts
counted-long : (line : List ℕ) (ls : List (List ℕ)) → 4096 < length line → (more : List (List ℕ)) × (counted_lines (line ∷ ls) ≡ line ∷ more)
counted-long line [] long =
    let test : ltb 4096 (length line) ≡ true = grind (arith, nat_tests) in
    ([], rw test refl)
counted-long line (next ∷ ls) long = (counted_lines (next ∷ ls), refl)

-- a line that is too long has that fault
pub asks-long : (line : List ℕ) → 4096 < length line → asks line ≡ Err TooLong
unfolding asks
asks-long line long =
    let test : ltb 4096 (length line) ≡ true = grind (arith, nat_tests) in
    rw test refl

abbrev pair : List ℕ → List ℕ → List ℕ × List ℕ
pair front rest = (front, rest)

-- what splitting answers at the separator, and past another byte
abbrev here : List ℕ → Option (List ℕ × List ℕ)
here bs = Some ([], bs)

abbrev parts : List ℕ → List ℕ → Option (List ℕ × List ℕ)
parts front rest = Some (front, rest)

abbrev past : ℕ → Option (List ℕ × List ℕ) → Option (List ℕ × List ℕ)
past b o = option_map (λ p. (b ∷ p.0, p.1)) o

module _ {R : Type 0} (asked : List (List ℕ) → Result R LineFault) where
  -- the whole is left
  pub script-from : (bytes : List ℕ) → script asked bytes ≡ script_from asked 1 [] 16777216 bytes
  unfolding script script_from
  script-from bytes = rw (onto_line-nil bytes, onto_line-nil (take 16777216 bytes)) refl

  -- nothing is left
  pub script_from-end : (k : ℕ) (line : List ℕ) (left : ℕ)
      → script_from asked k line left [] ≡ line_then k (parsed asked line) (ends_by (Ok tt))
  unfolding script_from
  script_from-end k line left =
      let fits : leb 0 left ≡ true = grind (arith, nat_tests) in
      rw (fits, append-nil line) refl

  -- a line feed
  pub script_from-line_feed : (k : ℕ) (line : List ℕ) (left : ℕ) (more : List ℕ)
      → script_from asked k line (suc left) (10 ∷ more) ≡ line_then k (parsed asked line) (script_from asked (k + 1) [] left more)
  unfolding script_from
  script_from-line_feed k line left more =
      rw (leb-suc (length more) left)
      (elim (leb (length more) left) as (λ v.
      cond v (script_of asked k ((line ++ []) ∷ lines more) (Ok tt)) (script_of asked k (counted_lines ((line ++ []) ∷ lines (take left more))) (Err TooMuch))
      ≡ line_then k (parsed asked line) (cond v (script_of asked (k + 1) (onto_line [] (lines more)) (Ok tt))
      (script_of asked (k + 1) (counted_lines (onto_line [] (lines (take left more)))) (Err TooMuch)))) [
        | true ↦ ap (λ (l : List ℕ). script_of asked k (l ∷ lines more) (Ok tt)) (append-nil line)
            ∙ ap (λ ls. line_then k (parsed asked line) (script_of asked (k + 1) ls (Ok tt))) (sym (onto_line-nil more))
        | false ↦ ap (λ (l : List ℕ). script_of asked k (counted_lines (l ∷ lines (take left more))) (Err TooMuch)) (append-nil line)
            ∙ ap (λ ls. script_of asked k ls (Err TooMuch)) (counted-more line (take left more))
            ∙ ap (λ ls. line_then k (parsed asked line) (script_of asked (k + 1) (counted_lines ls) (Err TooMuch))) (sym (onto_line-nil (take left more)))
      ])

  -- another byte
  pub script_from-byte : (k : ℕ) (line : List ℕ) (left b : ℕ) (more : List ℕ) → (b == 10) ≡ false
      → script_from asked k line (suc left) (b ∷ more) ≡ script_from asked k (line ++ b ∷ []) left more
  unfolding script_from
  script_from-byte k line left b more other =
      rw (leb-suc (length more) left, other, onto_line-byte line b more, onto_line-byte line b (take left more)) refl

  -- more than counts, behind a line that is not too long
  pub script_from-too_much : (k : ℕ) (line : List ℕ) (b : ℕ) (more : List ℕ) → length line ≤ 4096
      → script_from asked k line 0 (b ∷ more) ≡ ends_by (Err TooMuch)
  unfolding script_from
  script_from-too_much k line b more short =
      let over : leb (suc (length more)) 0 ≡ false = grind (arith, nat_tests) in
      let not_long : ltb 4096 (length line) ≡ false = grind (arith, nat_tests) in
      rw (over, append-nil line, not_long) refl

  script_of-long : (k : ℕ) (line rest : List ℕ) (more all : List (List ℕ)) (end : Result Unit ReplayFault) → 4096 < length line
      → all ≡ (line ++ rest) ∷ more → script_of asked k all end ≡ ends_by (Err (Line k TooLong))
  script_of-long k line rest more all end long e =
      let longer : 4096 < length (line ++ rest) = omega (arith, length-append line rest) in
      ap (λ (ls : List (List ℕ)). script_of asked k ls end) e
      ∙ ap (λ p. line_then k (parsed_by p (asked (fields (line ++ rest)))) (script_of asked (k + 1) more end)) (asks-long (line ++ rest) longer)

  -- a line that is too long already
  pub script_from-long : (k : ℕ) (line : List ℕ) (left : ℕ) (more : List ℕ) → 4096 < length line
      → script_from asked k line left more ≡ ends_by (Err (Line k TooLong))
  unfolding script_from
  script_from-long k line left more long =
      let h = onto_line-first line more in
      let short = onto_line-first line (take left more) in
      let longer : 4096 < length (line ++ short.0) = omega (arith, length-append line short.0) in
      let counts = counted-long (line ++ short.0) short.1 longer in
      elim (leb (length more) left) as (λ v.
      cond v (script_of asked k (onto_line line (lines more)) (Ok tt)) (script_of asked k (counted_lines (onto_line line (lines (take left more)))) (Err TooMuch))
      ≡ ends_by (Err (Line k TooLong))) [
        | true ↦ script_of-long k line h.0 h.1 _ _ long h.2
        | false ↦ script_of-long k line short.0 counts.0 _ _ long (ap counted_lines short.2 ∙ counts.1)
      ]

  -- a line's last bytes, its line feed, and the rest
  pub script_from-ended : (s : List ℕ) (k : ℕ) (line front rest : List ℕ) (left : ℕ) (more : List ℕ) → split_at 10 s ≡ parts front rest
      → script_from asked k line (length s + left) (s ++ more)
      ≡ line_then k (parsed asked (line ++ front)) (script_from asked (k + 1) [] (length rest + left) (rest ++ more))
  script_from-ended [] k line front rest left more e = cc
  script_from-ended (b ∷ bs) k line front rest left more e =
      let one : suc (length bs) + left ≡ suc (length bs + left) = omega arith in
      ap (λ n. script_from asked k line n (b ∷ (bs ++ more))) one ∙ by_test (λ p o. script_from-ended bs k (line ++ b ∷ []) p.0 p.1 left more o) (b == 10) refl e
    where
      found : (split_at 10 bs ≡ split_at 10 bs) → (b == 10) ≡ true → here bs ≡ parts front rest
          → script_from asked k line (suc (length bs + left)) (b ∷ (bs ++ more)) ≡ line_then k (parsed asked (line ++ front)) (script_from asked (k + 1) [] (length rest + left) (rest ++ more))
      found same is f =
          let both : pair [] bs ≡ pair front rest = cc in
          let none : front ≡ [] = sym (ap (λ (q : List ℕ × List ℕ). q.0) both) in
          let all : rest ≡ bs = sym (ap (λ (q : List ℕ × List ℕ). q.1) both) in
          let ten : b ≡ 10 = eqb-true b 10 is in
          rw (none, all, ten, append-nil) (script_from-line_feed k line (length bs + left) (bs ++ more))

      on : ((p : List ℕ × List ℕ) → split_at 10 bs ≡ Some p → script_from asked k (line ++ b ∷ []) (length bs + left) (bs ++ more)
          ≡ line_then k (parsed asked ((line ++ b ∷ []) ++ p.0)) (script_from asked (k + 1) [] (length p.1 + left) (p.1 ++ more)))
          → (o : Option (List ℕ × List ℕ)) → split_at 10 bs ≡ o → (b == 10) ≡ false → past b o ≡ parts front rest
          → script_from asked k line (suc (length bs + left)) (b ∷ (bs ++ more)) ≡ line_then k (parsed asked (line ++ front)) (script_from asked (k + 1) [] (length rest + left) (rest ++ more))
      on shorter None o other f = cc
      on shorter (Some p) o other f =
          let both : pair (b ∷ p.0) p.1 ≡ pair front rest = cc in
          let first : front ≡ b ∷ p.0 = sym (ap (λ (q : List ℕ × List ℕ). q.0) both) in
          let second : rest ≡ p.1 = sym (ap (λ (q : List ℕ × List ℕ). q.1) both) in
          rw (first, second)
          (script_from-byte k line (length bs + left) b (bs ++ more) other
          ∙ shorter p o
          ∙ ap (λ l. line_then k (parsed asked l) (script_from asked (k + 1) [] (length p.1 + left) (p.1 ++ more))) (append_assoc line (b ∷ []) p.0))

      by_test : ((p : List ℕ × List ℕ) → split_at 10 bs ≡ Some p → script_from asked k (line ++ b ∷ []) (length bs + left) (bs ++ more)
          ≡ line_then k (parsed asked ((line ++ b ∷ []) ++ p.0)) (script_from asked (k + 1) [] (length p.1 + left) (p.1 ++ more)))
          → (v : Bool) → (b == 10) ≡ v → cond v (here bs) (past b (split_at 10 bs)) ≡ parts front rest
          → script_from asked k line (suc (length bs + left)) (b ∷ (bs ++ more)) ≡ line_then k (parsed asked (line ++ front)) (script_from asked (k + 1) [] (length rest + left) (rest ++ more))
      by_test shorter true is f = found refl is f
      by_test shorter false is f = on shorter (split_at 10 bs) refl is f

  -- bytes without a line feed
  pub script_from-kept : (s : List ℕ) (k : ℕ) (line : List ℕ) (left : ℕ) (more : List ℕ) → split_at 10 s ≡ None
      → script_from asked k line (length s + left) (s ++ more) ≡ script_from asked k (line ++ s) left more
  script_from-kept [] k line left more e = rw (zero-add, append-nil) refl
  script_from-kept (b ∷ bs) k line left more e =
      let one : suc (length bs) + left ≡ suc (length bs + left) = omega arith in
      ap (λ n. script_from asked k line n (b ∷ (bs ++ more))) one ∙ by_test (λ o. script_from-kept bs k (line ++ b ∷ []) left more o) (b == 10) refl e
    where
      on : (split_at 10 bs ≡ None → script_from asked k (line ++ b ∷ []) (length bs + left) (bs ++ more) ≡ script_from asked k ((line ++ b ∷ []) ++ bs) left more)
          → (o : Option (List ℕ × List ℕ)) → split_at 10 bs ≡ o → (b == 10) ≡ false → past b o ≡ None
          → script_from asked k line (suc (length bs + left)) (b ∷ (bs ++ more)) ≡ script_from asked k (line ++ b ∷ bs) left more
      on shorter None o other f =
          script_from-byte k line (length bs + left) b (bs ++ more) other
          ∙ shorter o
          ∙ ap (λ l. script_from asked k l left more) (append_assoc line (b ∷ []) bs)
      on shorter (Some p) o other f = cc

      by_test : (split_at 10 bs ≡ None → script_from asked k (line ++ b ∷ []) (length bs + left) (bs ++ more) ≡ script_from asked k ((line ++ b ∷ []) ++ bs) left more)
          → (v : Bool) → (b == 10) ≡ v → cond v (here bs) (past b (split_at 10 bs)) ≡ None
          → script_from asked k line (suc (length bs + left)) (b ∷ (bs ++ more)) ≡ script_from asked k (line ++ b ∷ bs) left more
      by_test shorter true is f = cc
      by_test shorter false is f = on shorter (split_at 10 bs) refl is f
