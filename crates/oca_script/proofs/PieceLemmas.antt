-- A piece of the script, line by line.
use Rattle.std.proofs.Common.{◌≡◌, ℕ, ◌+◌, ◌<◌, Bool, true, false, ◌&&◌, cond, List, [], ◌∷◌, ◌++◌, length, ◌==◌, Option, Some, None, Result, Ok, Err, refl, sym, ap, ◌∙◌, subst}
use Rattle.std.specs.Prelude.{OnOk, OnErr, IfErr, nat_lt}
use Rattle.std.specs.Option.{option_map}
use Rattle.oca_script.specs.Fields.{split_at}
use Rattle.oca_script.specs.declared.fault.LineFault.{LineFault}
use Rattle.oca_script.specs.declared.fault.LineFault.TheVariants.{TooLong}
use Rattle.oca_script.specs.declared.fault.ReplayFault.{ReplayFault}
use Rattle.oca_script.specs.declared.fault.ReplayFault.TheVariants.{Line}
use Rattle.oca_script.specs.PrivateScript.{script_from}
use Rattle.oca_script.specs.Script.{Script, line_then, parsed, is_ascii}
use Rattle.oca_script.specs.PrivateSteps.{ReplayStep}
use Rattle.oca_script.specs.Ends.{Output}
use Rattle.oca_script.proofs.ScriptLemmas.{script_from-ended, script_from-kept, script_from-long}
use Rattle.oca_script.proofs.StepLemmas.{Step-then, Step-at, Step-as, Step-err, Step-nothing}
use Rattle.oca_script.proofs.PrintLemmas.{PrintsAll-nil}

module _ {S R : Type 0} (serves : S → R → S → List ℕ → Type 0) (idles : S → S → List ℕ → Type 0) (asked : List (List ℕ) → Result R LineFault) where
  -- what is asked by a piece and what follows it
  abbrev pub piece_then : ℕ → List ℕ → List ℕ → ℕ × List ℕ → Script R
  piece_then number line piece m = script_from asked number line (length piece + m.0) (piece ++ m.1)

  pub piece-more : (a b c : S) (u v w : Output) (r : Result Unit ReplayFault) (A : ℕ × List ℕ → Script R) (k k' : ℕ) (line line' rest front after : List ℕ)
      → Some (front, after) ≡ split_at 10 rest → line' ≡ [] → k' ≡ k + 1
      → ReplayStep serves idles a b u v (Ok tt) A (piece_then k line rest)
      → ReplayStep {X = Script R} serves idles b c v w r (λ s. line_then k (parsed asked (line ++ front)) s) (λ s. s)
      → ReplayStep serves idles a c u w r A (piece_then k' line' after)
  piece-more a b c u v w r A k k' line line' rest front after cut none next h d =
      Step-then serves idles a b c u v w r A (piece_then k line rest) (piece_then k' line' after) h
      (Step-as serves idles b c v w r _ _ _ _
      (λ m. script_from-ended asked rest k line front after m.0 m.1 (sym cut))
      (λ m. ap (λ (l : List ℕ). script_from asked (k + 1) l (length after + m.0) (after ++ m.1)) (sym none)
      ∙ ap (λ n. script_from asked n line' (length after + m.0) (after ++ m.1)) (sym next))
      (Step-at serves idles (λ (m : ℕ × List ℕ). script_from asked (k + 1) [] (length after + m.0) (after ++ m.1)) b c v w r _ _ d))

  pub piece-fails : (a b c : S) (u v w : Output) (r : Result Unit ReplayFault) (fault : ReplayFault) (A B : ℕ × List ℕ → Script R) (k : ℕ) (line rest front after : List ℕ)
      → Some (front, after) ≡ split_at 10 rest → r ≡ Err fault
      → ReplayStep serves idles a b u v (Ok tt) A (piece_then k line rest)
      → ReplayStep {X = Script R} serves idles b c v w (Err fault) (λ s. line_then k (parsed asked (line ++ front)) s) (λ s. s)
      → ReplayStep serves idles a c u w r A B
  piece-fails a b c u v w r fault A B k line rest front after cut is h d =
      subst (λ (z : Result Unit ReplayFault). ReplayStep serves idles a c u w z A B) (sym is)
      (Step-err serves idles a c u w (Err fault) fault A (piece_then (k + 1) [] after) B refl
      (piece-more a b c u v w (Err fault) A k (k + 1) line [] rest front after cut refl refl h d))

  kept : (a b : S) (u v : Output) (r : Result Unit ReplayFault) (A : ℕ × List ℕ → Script R) (k k' : ℕ) (line line' rest : List ℕ)
      → split_at 10 rest ≡ None → k' ≡ k → OnOk r (line' ≡ line ++ rest) → OnErr r (4096 < length (line ++ rest)) → IfErr r (λ e. e ≡ Line k TooLong)
      → ReplayStep serves idles a b u v (Ok tt) A (piece_then k line rest)
      → ReplayStep serves idles a b u v r A (λ m. script_from asked k' line' m.0 m.1)
  kept a b u v (Ok x) A k k' line line' rest cut same grown long is h =
      Step-as serves idles a b u v (Ok tt) A A _ _ (λ m. refl)
      (λ m. script_from-kept asked rest k line m.0 m.1 cut
      ∙ ap (λ (l : List ℕ). script_from asked k l m.0 m.1) (sym grown) ∙ ap (λ n. script_from asked n line' m.0 m.1) (sym same))
      h
  kept a b u v (Err fault) A k k' line line' rest cut same grown long is h =
      subst (λ (z : ReplayFault). ReplayStep serves idles a b u v (Err z) A (λ m. script_from asked k' line' m.0 m.1)) (sym is)
      (Step-then serves idles a b b u v v (Err (Line k TooLong)) A (piece_then k line rest) (λ m. script_from asked k' line' m.0 m.1) h
      (Step-nothing serves idles b v (Err (Line k TooLong)) (piece_then k line rest) (λ m. script_from asked k' line' m.0 m.1) (PrintsAll-nil v)
      (λ m. script_from-kept asked rest k line m.0 m.1 cut ∙ script_from-long asked k (line ++ rest) m.0 m.1 long)))

  pub piece-kept : (a b : S) (u v : Output) (r : Result Unit ReplayFault) (A : ℕ × List ℕ → Script R) (k k' : ℕ) (line line' rest : List ℕ)
      → split_at 10 rest ≡ None → k' ≡ k → OnOk r (line' ≡ line ++ rest) → OnErr r (4096 < length (line ++ rest)) → IfErr r (λ e. e ≡ Line k TooLong)
      → ReplayStep serves idles a b u v (Ok tt) A (piece_then k line rest)
      → ReplayStep serves idles a b u v r A (λ m. script_from asked k' line' m.0 m.1)
  piece-kept = kept

-- ---- bytes below 128

both : (x y : Bool) → (x && y) ≡ true → (x ≡ true) × (y ≡ true)
both true y e = (refl, e)
both false y e = cc e

joined : (x y : Bool) → x ≡ true → y ≡ true → (x && y) ≡ true
joined x y e f = rw (e, f) refl

abbrev parts_ascii : Option (List ℕ × List ℕ) → Bool
parts_ascii None = true
parts_ascii (Some p) = is_ascii p.0 && is_ascii p.1

split_at-ascii : (separator : ℕ) (s : List ℕ) → is_ascii s ≡ true → parts_ascii (split_at separator s) ≡ true
split_at-ascii separator [] all = refl
split_at-ascii separator (b ∷ bs) all =
    by_test (b == separator) (split_at separator bs) (split_at-ascii separator bs (both (nat_lt b 128) (is_ascii bs) all).1)
  where
    by_test : (v : Bool) (o : Option (List ℕ × List ℕ)) → parts_ascii o ≡ true
        → parts_ascii (cond v (Some ([], bs)) (option_map (λ p. (b ∷ p.0, p.1)) o)) ≡ true
    by_test true o so = (both (nat_lt b 128) (is_ascii bs) all).1
    by_test false None so = refl
    by_test false (Some p) so =
        let h = both (is_ascii p.0) (is_ascii p.1) so in
        joined (nat_lt b 128 && is_ascii p.0) (is_ascii p.1) (joined (nat_lt b 128) (is_ascii p.0) (both (nat_lt b 128) (is_ascii bs) all).0 h.0) h.1

-- both parts of bytes below 128 are of such bytes
pub ascii-parts : (separator : ℕ) (s front rest : List ℕ) → Some (front, rest) ≡ split_at separator s → is_ascii s ≡ true
    → (is_ascii front ≡ true) × (is_ascii rest ≡ true)
ascii-parts separator s front rest e all = both (is_ascii front) (is_ascii rest) (ap parts_ascii e ∙ split_at-ascii separator s all)
