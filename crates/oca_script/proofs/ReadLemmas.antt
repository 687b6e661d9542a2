-- A replay, by what the source gave so far.
use Rattle.std.proofs.Common.{◌≡◌, ℕ, ◌+◌, ◌-◌, ◌≤◌, Bool, true, false, List, [], ◌∷◌, ◌++◌, length, Option, Some, None, Result, Ok, Err, refl, sym, ap, ◌∙◌, arith, append_assoc, append-nil, subst, length-append}
use Rattle.std.specs.Prelude.{OnOk, IfSome}
use Rattle.std.specs.Io.KnownBytes.{Consumes, Keeps, IsAtEnd}
use Rattle.std.proofs.KnownBytes.{Consumes-nil, Consumes-trans, Consumes-kept}
use Rattle.oca_script.specs.declared.fault.LineFault.{LineFault}
use Rattle.oca_script.specs.declared.fault.ReplayFault.{ReplayFault}
use Rattle.oca_script.specs.declared.fault.ReplayFault.TheVariants.{Line, Read, Write, TooMuch}
use Rattle.oca_script.specs.declared.fault.WriteFailed.{WriteFailed}
use Rattle.oca_script.specs.declared.progress.Progress.{Progress}
use Rattle.oca_script.specs.Ends.{Input, Output}
use Rattle.oca_script.specs.Printing.{Prints, PrintsAll, PrintsPart, WritesFront}
use Rattle.oca_script.specs.PrivateScript.{script_from}
use Rattle.oca_script.specs.Script.{Script, script, after_requests, ends_by, line_then, parsed}
use Rattle.oca_script.specs.Replaying.{Runs, Awaited, BeginsWithRequests, Ends, known_bytes, Outcome, Replays, ReadFails, Writes}
use Rattle.oca_script.specs.PrivateSteps.{Printed, PrintedAtEnd, AccountsFor, ReplayStep, Performs, Performance, is_end_failure}
use Rattle.oca_script.proofs.PrintLemmas.{PrintsAll-nil, PrintsPart-then, whole, written, front}
use Rattle.oca_script.proofs.ScriptLemmas.{script-from, script_from-end, script_from-too_much}
use Rattle.oca_script.proofs.StepLemmas.{Runs-then, Runs-on, Printed-then, Step-then, Step-at, Step-as, Step-nothing, Step-unread, after_requests-twice}

known-end : (o : Option (List ℕ)) → IsAtEnd o → known_bytes o ≡ []
known-end None h = refl
known-end (Some xs) h = h

module _ {S R : Type 0} (asked : List (List ℕ) → Result R LineFault) (serves : S → R → S → List ℕ → Type 0) (idles : S → S → List ℕ → Type 0) where
  -- so far
  pub record Reading (old new : S) (was is : Output) (had has : Input) (progress : Progress) (left : ℕ) : Type 0 where
    pub taken : List ℕ
    pub consumes : Consumes had.remaining has.remaining taken
    pub unfailed : has.failed ≡ had.failed
    pub counted : length taken + left ≡ 16777216
    pub numbered : progress.number + left ≤ 16777217
    pub step : ReplayStep {X = List ℕ} serves idles old new was is (Ok tt) (λ more. script asked (taken ++ more)) (λ more. script_from asked progress.number progress.line left more)

  pub reading-start : (d : S) (w : Output) (r : Input) (p : Progress) → p.line ≡ [] → p.number ≡ 1 → Reading d d w w r r p 16777216
  reading-start d w r p e f = record {
    taken = [];
    consumes = Consumes-nil r.remaining;
    unfailed = refl;
    counted = refl;
    numbered = omega arith;
    step = Step-nothing serves idles d w (Ok tt) _ _ (PrintsAll-nil w) (λ more.
        script-from asked more ∙ ap (λ n. script_from asked n [] 16777216 more) (sym f) ∙ ap (λ (l : List ℕ). script_from asked p.number l 16777216 more) (sym e));
  }

  -- the state went on by itself, what it printed went to the sink, and nothing was read
  pub reading-awaited : (a b c : S) (u v w : Output) (had has after : Input) (p : Progress) (left : ℕ) (r : Result Unit WriteFailed) (o : Unit {0}) → r ≡ Ok o
      → Reading a b u v had has p left → Awaited idles b c r v w → after ≡ has → Reading a c u w had after p left
  reading-awaited a b c u v w had has after p left r o is h e same = subst (λ (x : Input). Reading a c u w had x p left) (sym same) (record {
    taken = h.taken;
    consumes = h.consumes;
    unfailed = h.unfailed;
    counted = h.counted;
    numbered = h.numbered;
    step = Step-then serves idles a b c u v w (Ok tt) _ _ _ h.step
        (record { requests = []; text = e.text; runs = Runs-on serves idles b c e.text e.goes_on; prints = subst (λ (z : Result Unit WriteFailed). Prints z v w e.text) is e.prints; accounts = λ more. refl });
  })

  -- a further piece
  pub reading-more : (a b c : S) (u v w : Output) (had has after : Input) (p q : Progress) (left rest : ℕ) (piece : List ℕ) → Reading a b u v had has p left → Consumes has.remaining after.remaining piece → after.failed ≡ has.failed
      → rest + length piece ≡ left → q.number ≤ p.number + length piece
      → ReplayStep {X = ℕ × List ℕ} serves idles b c v w (Ok tt) (λ m. script_from asked p.number p.line (length piece + m.0) (piece ++ m.1)) (λ m. script_from asked q.number q.line m.0 m.1)
      → Reading a c u w had after q rest
  reading-more a b c u v w had has after p q left rest piece h k f n few d = record {
    taken = h.taken ++ piece;
    consumes = Consumes-trans had.remaining has.remaining after.remaining h.taken piece h.consumes k;
    unfailed = f ∙ h.unfailed;
    counted = let e = h.counted in omega (arith, length-append h.taken piece);
    numbered = let e = h.numbered in omega arith;
    step = Step-as serves idles a c u w (Ok tt) _ _ _ _ (λ more. ap (script asked) (append_assoc h.taken piece more)) (λ more. refl)
        (Step-then serves idles a b c u v w (Ok tt) (λ more. script asked (h.taken ++ (piece ++ more))) (λ more. script_from asked p.number p.line left (piece ++ more))
        (λ more. script_from asked q.number q.line rest more)
        (Step-at serves idles (λ more. piece ++ more) a b u v (Ok tt) _ _ h.step)
        (Step-as serves idles b c v w (Ok tt) _ _ _ _
        (λ more. ap (λ m. script_from asked p.number p.line m (piece ++ more)) same) (λ more. refl)
        (Step-at serves idles (λ (more : List ℕ). at_rest more) b c v w (Ok tt) _ _ d)));
  }
    where
      same : left ≡ length piece + rest
      same = omega arith

      at_rest : List ℕ → ℕ × List ℕ
      at_rest more = (rest, more)

  -- the result, where the bytes in front of `rest` lead to it
  ends-from : (fault : ReplayFault) (asks after : List ℕ → Script R) (given rest : List ℕ) (requests : List R) → asks rest ≡ script asked given → AccountsFor (Err fault) asks after requests
      → Ends (Err fault) (script asked given) requests
  ends-from (Line n w) asks after given rest requests e h = sym e ∙ h rest
  ends-from Read asks after given rest requests e h = let k = h rest in (k.0, sym e ∙ k.1)
  ends-from Write asks after given rest requests e h = let k = h rest in (k.0, sym e ∙ k.1)
  ends-from TooMuch asks after given rest requests e h = sym e ∙ h rest

  at_end : (r : Result Unit ReplayFault) (u v : Output) (text : List ℕ) → Printed r u v text → PrintedAtEnd r u v text
  at_end (Ok x) u v text h = h
  at_end (Err (Line n w)) u v text h = h
  at_end (Err Read) u v text h = absurd h
  at_end (Err Write) u v text h = h
  at_end (Err TooMuch) u v text h = h

  -- a fault
  performs-fault : (a b : S) (u v : Output) (fault : ReplayFault) (asks after : List ℕ → Script R) (given rest : List ℕ) → asks rest ≡ script asked given
      → ReplayStep {X = List ℕ} serves idles a b u v (Err fault) asks after → Performs asked serves idles a b u v (Err fault) given
  performs-fault a b u v fault asks after given rest e h = record {
    requests = h.requests;
    text = h.text;
    runs = h.runs;
    prints = at_end (Err fault) u v h.text h.prints;
    ends = ends-from fault asks after given rest h.requests e h.accounts;
  }

  -- a read did not fail, and neither does the result say so
  not_read : (fault : ReplayFault) (before after : Bool) → (fault ≡ Read → ⊥) → after ≡ before → ReadFails (Err fault) before after
  not_read (Line n w) before after other e = e
  not_read Read before after other e = absurd (other refl)
  not_read Write before after other e = e
  not_read TooMuch before after other e = e

  -- a fault behind a piece
  fails : (a b c : S) (u v w : Output) (had has after : Input) (p : Progress) (left : ℕ) (piece : List ℕ) (fault : ReplayFault) (rest : List ℕ → Script R)
      → Reading a b u v had has p left → Consumes has.remaining after.remaining piece → after.failed ≡ has.failed → length piece ≤ left + 1
      → ReplayStep {X = List ℕ} serves idles b c v w (Err fault) (λ more. script_from asked p.number p.line left (piece ++ more)) rest → Performance asked serves idles a c u w had after (Err fault)
  fails a b c u v w had has after p left piece fault rest h k f n d = (
    h.taken ++ piece,
    record {
      consumes = Consumes-trans had.remaining has.remaining after.remaining h.taken piece h.consumes k;
      bounded = let e = h.counted in omega (arith, length-append h.taken piece);
      ended = tt;
      failed = not_read fault had.failed after.failed (λ e. Step-unread serves idles b c v w (Err fault) _ rest d (ap Err e)) (f ∙ h.unfailed);
    },
    performs-fault a c u w fault (λ more. script asked (h.taken ++ (piece ++ more))) rest ((h.taken ++ piece) ++ known_bytes after.remaining) (known_bytes after.remaining)
        (ap (script asked) (sym (append_assoc h.taken piece (known_bytes after.remaining))))
        (Step-then serves idles a b c u v w (Err fault) (λ more. script asked (h.taken ++ (piece ++ more))) (λ more. script_from asked p.number p.line left (piece ++ more)) rest
        (Step-at serves idles (λ more. piece ++ more) a b u v (Ok tt) _ _ h.step) d),
  )

  -- a fault in a piece
  pub reading-fails : (a b c : S) (u v w : Output) (had has after : Input) (p : Progress) (left : ℕ) (piece : List ℕ) (r : Result Unit ReplayFault) (fault : ReplayFault) (rest : ℕ × List ℕ → Script R)
      → r ≡ Err fault → Reading a b u v had has p left → Consumes has.remaining after.remaining piece → after.failed ≡ has.failed → length piece ≤ left
      → ReplayStep {X = ℕ × List ℕ} serves idles b c v w (Err fault) (λ m. script_from asked p.number p.line (length piece + m.0) (piece ++ m.1)) rest → Performance asked serves idles a c u w had after r
  reading-fails a b c u v w had has after p left piece r fault rest is h k f n d =
      subst (Performance asked serves idles a c u w had after) (sym is)
      (fails a b c u v w had has after p left piece fault (λ more. rest (at_rest more)) h k f (omega arith)
      (Step-as serves idles b c v w (Err fault) _ _ _ _
      (λ more. ap (λ m. script_from asked p.number p.line m (piece ++ more)) same) (λ more. refl)
      (Step-at serves idles (λ (more : List ℕ). at_rest more) b c v w (Err fault) _ _ d)))
    where
      same : left ≡ length piece + (left - length piece)
      same = omega arith

      at_rest : List ℕ → ℕ × List ℕ
      at_rest more = (left - length piece, more)

  -- a read failed
  pub reading-read_failed : (a b : S) (u v : Output) (had has after : Input) (p : Progress) (left : ℕ) (r : Result Unit ReplayFault) → r ≡ Err Read
      → Reading a b u v had has p left → v.held ≡ [] → Keeps has.remaining after.remaining → after.failed ≡ true → Performance asked serves idles a b u v had after r
  reading-read_failed a b u v had has after p left r is h none k f = subst (Performance asked serves idles a b u v had after) (sym is) (
    h.taken,
    record {
      consumes = Consumes-kept had.remaining has.remaining after.remaining h.taken h.consumes k;
      bounded = let e = h.counted in omega arith;
      ended = tt;
      failed = f;
    },
    record {
      requests = h.step.requests;
      text = h.step.text;
      runs = h.step.runs;
      prints = (h.step.prints, none);
      ends = (script_from asked p.number p.line left (known_bytes after.remaining), h.step.accounts (known_bytes after.remaining));
    },
  )

  unwritten : (a b c : S) (u v w : Output) (had has : Input) (p : Progress) (left : ℕ) (text : List ℕ)
      → Reading a b u v had has p left → Runs serves idles b [] c text → PrintsPart v w text → Performance asked serves idles a c u w had has (Err Write)
  unwritten a b c u v w had has p left text h on e = (
    h.taken,
    record {
      consumes = h.consumes;
      bounded = let e = h.counted in omega arith;
      ended = tt;
      failed = h.unfailed;
    },
    record {
      requests = h.step.requests ++ [];
      text = h.step.text ++ text;
      runs = Runs-then serves idles a b c h.step.requests [] h.step.text text h.step.runs on;
      prints = PrintsPart-then u v w h.step.text text h.step.prints e;
      ends = subst (λ (l : List R). BeginsWithRequests l (script asked (h.taken ++ known_bytes has.remaining))) (sym (append-nil h.step.requests))
          (script_from asked p.number p.line left (known_bytes has.remaining), h.step.accounts (known_bytes has.remaining));
    },
  )

  -- a write failed, of what was held or of what the state printed by itself
  pub reading-unwritten : (a b c : S) (u v w : Output) (had has after : Input) (p : Progress) (left : ℕ) (r : Result Unit WriteFailed) (f : WriteFailed) → r ≡ Err f
      → Reading a b u v had has p left → Awaited idles b c r v w → after ≡ has → Performance asked serves idles a c u w had after (Err Write)
  reading-unwritten a b c u v w had has after p left r f is h e same =
      subst (λ (x : Input). Performance asked serves idles a c u w had x (Err Write)) (sym same)
      (unwritten a b c u v w had has p left e.text h (Runs-on serves idles b c e.text e.goes_on) (subst (λ (z : Result Unit WriteFailed). Prints z v w e.text) is e.prints))

  -- a byte more than counts
  pub reading-too_much : (a b : S) (u v : Output) (had has after : Input) (p : Progress) (left : ℕ) (piece : List ℕ) → Reading a b u v had has p left
      → Consumes has.remaining after.remaining piece → after.failed ≡ has.failed → left ≡ 0
      → length piece ≡ 1 → length p.line ≤ 4096 → Performance asked serves idles a b u v had after (Err TooMuch)
  reading-too_much a b u v had has after p left [] h k f none one short = absurd (omega arith)
  reading-too_much a b u v had has after p left (x ∷ xs) h k f none one short =
      fails a b b u v v had has after p left (x ∷ xs) TooMuch (λ more. script_from asked p.number p.line left more) h k f (omega arith)
      (Step-nothing serves idles b v (Err TooMuch) _ _ (PrintsAll-nil v) (λ more. ap (λ n. script_from asked p.number p.line n (x ∷ (xs ++ more))) none ∙ script_from-too_much asked p.number p.line x (xs ++ more) short))

  last-ends : (r : Result Unit ReplayFault) (k : ℕ) (line : List ℕ) (xs ys : List R) (s : Script R) (left : ℕ) → s ≡ after_requests xs (script_from asked k line left [])
      → AccountsFor {X = Script R} r (λ s. line_then k (parsed asked line) s) (λ s. s) ys → Ends r s (xs ++ ys)
  last-ends r k line xs ys s left e h = shown r h
    where
      ended : List R → Script R
      ended l = record { requests = l; ending = Ok tt }

      last : Script R
      last = ends_by (Ok tt)

      from_end : s ≡ after_requests xs (line_then k (parsed asked line) last)
      from_end = e ∙ ap (after_requests xs) (script_from-end asked k line left)

      shown : (r : Result Unit ReplayFault) → AccountsFor {X = Script R} r (λ s. line_then k (parsed asked line) s) (λ s. s) ys → Ends r s (xs ++ ys)
      shown (Ok u) h = from_end ∙ ap (after_requests xs) (h last) ∙ after_requests-twice xs ys last ∙ ap (λ (l : List R). ended l) (append-nil (xs ++ ys))
      shown (Err (Line n w)) h = from_end ∙ ap (after_requests xs) (h last)
      shown (Err Read) h = let k = h last in (k.0, from_end ∙ ap (after_requests xs) k.1 ∙ after_requests-twice xs ys k.0)
      shown (Err Write) h = let k = h last in (k.0, from_end ∙ ap (after_requests xs) k.1 ∙ after_requests-twice xs ys k.0)
      shown (Err TooMuch) h = from_end ∙ ap (after_requests xs) (h last)

  -- the end of the input, and the last line
  ends : (a b c : S) (u v w : Output) (had has after : Input) (p : Progress) (left : ℕ) (line : List ℕ) (r : Result Unit ReplayFault) → Reading a b u v had has p left
      → Consumes has.remaining after.remaining [] → after.failed ≡ has.failed → IsAtEnd after.remaining → line ≡ p.line
      → ReplayStep {X = Script R} serves idles b c v w r (λ s. line_then p.number (parsed asked line) s) (λ s. s) → Performance asked serves idles a c u w had after r
  ends a b c u v w had has after p left line r h k f end same d =
      let accounts : AccountsFor {X = Script R} r (λ s. line_then p.number (parsed asked p.line) s) (λ s. s) d.requests =
      subst (λ (l : List ℕ). AccountsFor {X = Script R} r (λ s. line_then p.number (parsed asked l) s) (λ s. s) d.requests) same d.accounts in (
        h.taken,
        record {
          consumes = subst (Consumes had.remaining after.remaining) (append-nil h.taken) (Consumes-trans had.remaining has.remaining after.remaining h.taken [] h.consumes k);
          bounded = let e = h.counted in omega arith;
          ended = on_ok r;
          failed = unread r (Step-unread serves idles b c v w r _ _ d);
        },
        record {
          requests = h.step.requests ++ d.requests;
          text = h.step.text ++ d.text;
          runs = Runs-then serves idles a b c h.step.requests d.requests h.step.text d.text h.step.runs d.runs;
          prints = at_end r u w (h.step.text ++ d.text) (Printed-then r u v w h.step.text d.text h.step.prints d.prints);
          ends = last-ends r p.number p.line h.step.requests d.requests (script asked (h.taken ++ known_bytes after.remaining)) left
              (h.step.accounts (known_bytes after.remaining) ∙ ap (λ (l : List ℕ). after_requests h.step.requests (script_from asked p.number p.line left l)) (known-end after.remaining end)) accounts;
        },
      )
    where
      on_ok : (r : Result Unit ReplayFault) → OnOk r (IsAtEnd after.remaining)
      on_ok (Ok x) = end
      on_ok (Err x) = tt

      unread : (r : Result Unit ReplayFault) → (r ≡ Err Read → ⊥) → ReadFails r had.failed after.failed
      unread (Ok x) other = f ∙ h.unfailed
      unread (Err x) other = not_read x had.failed after.failed (λ e. other (ap Err e)) (f ∙ h.unfailed)

  pub reading-ends : (a b c : S) (u v w : Output) (had has after : Input) (p : Progress) (left : ℕ) (piece line : List ℕ) (r : Result Unit ReplayFault) → Reading a b u v had has p left
      → Consumes has.remaining after.remaining piece → after.failed ≡ has.failed → length piece ≡ 0 → (length piece ≡ 0 → IsAtEnd after.remaining) → line ≡ p.line
      → ReplayStep {X = Script R} serves idles b c v w r (λ s. line_then p.number (parsed asked line) s) (λ s. s) → Performance asked serves idles a c u w had after r
  reading-ends a b c u v w had has after p left [] line r h k f none end same d = ends a b c u v w had has after p left line r h k f (end refl) same d
  reading-ends a b c u v w had has after p left (x ∷ xs) line r h k f none end same d = absurd (omega arith)

  -- ---- the whole

  begins : (r : Result Unit ReplayFault) (s : Script R) (requests : List R) → Ends r s requests → BeginsWithRequests requests s
  begins (Ok u) s requests h = (ends_by (Ok tt), h ∙ ap (λ (l : List R). ended l) (sym (append-nil requests)))
    where
      ended : List R → Script R
      ended l = record { requests = l; ending = Ok tt }
  begins (Err (Line n w)) s requests h = (ends_by (Err (Line n w)), h ∙ ap (λ (l : List R). ended l) (sym (append-nil requests)))
    where
      ended : List R → Script R
      ended l = record { requests = l; ending = Err (Line n w) }
  begins (Err Read) s requests h = h
  begins (Err Write) s requests h = h
  begins (Err TooMuch) s requests h = (ends_by (Err TooMuch), h ∙ ap (λ (l : List R). ended l) (sym (append-nil requests)))
    where
      ended : List R → Script R
      ended l = record { requests = l; ending = Err TooMuch }

  -- a read or a write failed within the replay
  pub outcome-failed : (a b : S) (u v : Output) (had has : Input) (r : Result Unit ReplayFault) → is_end_failure r ≡ true
      → Performance asked serves idles a b u v had has r → Outcome asked serves idles a b u v had has r
  outcome-failed a b u v had has r is h = (
    h.0,
    h.1,
    record {
      requests = h.2.requests;
      text = h.2.text;
      runs = h.2.runs;
      writes = by_result r is h.2.prints;
      ends = h.2.ends;
    },
  )
    where
      by_result : (r : Result Unit ReplayFault) → is_end_failure r ≡ true → PrintedAtEnd r u v h.2.text → Writes r u v h.2.text
      by_result (Ok x) is p = cc is
      by_result (Err (Line n f)) is p = cc is
      by_result (Err Read) is p = whole u v h.2.text p.0 p.1
      by_result (Err Write) is p = front u v h.2.text p
      by_result (Err TooMuch) is p = cc is

  -- all was handed on
  pub outcome-flushed : (a b : S) (u v w : Output) (had has : Input) (r : Result Unit ReplayFault) → is_end_failure r ≡ false
      → Performance asked serves idles a b u v had has r → PrintsAll v w [] → w.held ≡ [] → Outcome asked serves idles a b u w had has r
  outcome-flushed a b u v w had has r is h e empty = (
    h.0,
    h.1,
    record {
      requests = h.2.requests;
      text = h.2.text;
      runs = h.2.runs;
      writes = by_result r is h.2.prints;
      ends = h.2.ends;
    },
  )
    where
      by_result : (r : Result Unit ReplayFault) → is_end_failure r ≡ false → PrintedAtEnd r u v h.2.text → Writes r u w h.2.text
      by_result (Ok x) is p = written u v w h.2.text p e empty
      by_result (Err (Line n f)) is p = written u v w h.2.text p e empty
      by_result (Err Read) is p = cc is
      by_result (Err Write) is p = cc is
      by_result (Err TooMuch) is p = written u v w h.2.text p e empty

  unfailed : (r : Result Unit ReplayFault) (before after : Bool) → is_end_failure r ≡ false → ReadFails r before after → after ≡ before
  unfailed (Ok x) before after is h = h
  unfailed (Err (Line n f)) before after is h = h
  unfailed (Err Read) before after is h = cc is
  unfailed (Err Write) before after is h = cc is
  unfailed (Err TooMuch) before after is h = h

  -- the last write failed
  pub outcome-unflushed : (a b : S) (u v w : Output) (had has : Input) (r : Result Unit ReplayFault) → is_end_failure r ≡ false
      → Performance asked serves idles a b u v had has r → PrintsPart v w [] → Outcome asked serves idles a b u w had has (Err Write)
  outcome-unflushed a b u v w had has r is h e = (
    h.0,
    record { consumes = h.1.consumes; bounded = h.1.bounded; ended = tt; failed = unfailed r had.failed has.failed is h.1.failed },
    record {
      requests = h.2.requests;
      text = h.2.text;
      runs = h.2.runs;
      writes = by_result r is h.2.prints;
      ends = begins r (script asked (h.0 ++ known_bytes has.remaining)) h.2.requests h.2.ends;
    },
  )
    where
      lost : PrintsAll u v h.2.text → WritesFront u w h.2.text
      lost p = front u w h.2.text (subst (PrintsPart u w) (append-nil h.2.text) (PrintsPart-then u v w h.2.text [] p e))

      by_result : (r : Result Unit ReplayFault) → is_end_failure r ≡ false → PrintedAtEnd r u v h.2.text → WritesFront u w h.2.text
      by_result (Ok x) is p = lost p
      by_result (Err (Line n f)) is p = lost p
      by_result (Err Read) is p = cc is
      by_result (Err Write) is p = cc is
      by_result (Err TooMuch) is p = lost p

  -- what was known is what was given
  pub outcome-known : (a b : S) (u v : Output) (had has : Input) (r : Result Unit ReplayFault) → Outcome asked serves idles a b u v had has r
      → IfSome had.remaining (λ given. Replays asked serves idles a b u v r given)
  outcome-known a b u v had has r h = known had.remaining has.remaining h.1.consumes h.2
    where
      known : (x y : Option (List ℕ)) → Consumes x y h.0 → Replays asked serves idles a b u v r (h.0 ++ known_bytes y) → IfSome x (λ given. Replays asked serves idles a b u v r given)
      known None y e k = tt
      known (Some xs) None e k = absurd e
      known (Some xs) (Some ys) e k = subst (λ (l : List ℕ). Replays asked serves idles a b u v r l) (sym e) k
