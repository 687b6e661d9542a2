-- Steps of a replay, one after another.
use Rattle.std.proofs.Common.{◌≡◌, inl, inr, ℕ, ◌<◌, Bool, true, false, List, [], ◌∷◌, ◌++◌, length, Result, Ok, Err, refl, sym, ap, ◌∙◌, append_assoc, append-nil, subst}
use Rattle.oca_script.specs.declared.fault.LineFault.{LineFault}
use Rattle.oca_script.specs.declared.fault.LineFault.TheVariants.{TooLong}
use Rattle.oca_script.specs.declared.fault.ReplayFault.{ReplayFault}
use Rattle.oca_script.specs.declared.fault.ReplayFault.TheVariants.{Line, Read, Write, TooMuch}
use Rattle.oca_script.specs.declared.fault.WriteFailed.{WriteFailed}
use Rattle.oca_script.specs.declared.fault.Stop.{Stop}
use Rattle.oca_script.specs.declared.fault.Stop.TheVariants as stop
use Rattle.oca_script.specs.Ends.{Output}
use Rattle.oca_script.specs.Printing.{Prints, PrintsAll}
use Rattle.oca_script.specs.Script.{Script, after_requests, ends_by, line_then, parsed, parsed_by}
use Rattle.oca_script.specs.Replaying.{Runs, NoneLeft, OneServed, OneIdled, GoesOn, Awaited, ServesLine}
use Rattle.oca_script.specs.PrivateSteps.{Printed, AccountsFor, ReplayStep}
use Rattle.oca_script.proofs.PrintLemmas.{PrintsAll-nil, PrintsAll-then, PrintsPart-then, prints-then, not-printed}
use Rattle.oca_script.proofs.ScriptLemmas.{asks-long}

-- ---- what is printed

-- a text is printed whole before what the result says was printed
pub Printed-then : (r : Result Unit ReplayFault) (a b c : Output) (x y : List ℕ) → PrintsAll a b x → Printed r b c y → Printed r a c (x ++ y)
Printed-then (Ok u) a b c x y h k = PrintsAll-then a b c x y h k
Printed-then (Err (Line n w)) a b c x y h k = PrintsAll-then a b c x y h k
Printed-then (Err Read) a b c x y h k = k
Printed-then (Err Write) a b c x y h k = PrintsPart-then a b c x y h k
Printed-then (Err TooMuch) a b c x y h k = PrintsAll-then a b c x y h k

-- ---- requests

module _ {S R : Type 0} (serves : S → R → S → List ℕ → Type 0) (idles : S → S → List ℕ → Type 0) where
  pub Runs-then : (a b c : S) (xs ys : List R) (s t : List ℕ) → Runs serves idles a xs b s → Runs serves idles b ys c t → Runs serves idles a (xs ++ ys) c (s ++ t)
  Runs-then a b c xs ys s t NoneLeft k = k
  Runs-then a b c xs ys s t (OneServed {b = m} {requests = rs} {t = v} {u = w} x h more) k =
      subst (λ (l : List ℕ). Runs serves idles a ((x ∷ rs) ++ ys) c l) (sym (append_assoc v w t)) (OneServed x h (Runs-then m b c rs ys w t more k))
  Runs-then a b c xs ys s t (OneIdled {b = m} {requests = rs} {t = v} {u = w} h more) k =
      subst (λ (l : List ℕ). Runs serves idles a (rs ++ ys) c l) (sym (append_assoc v w t)) (OneIdled h (Runs-then m b c rs ys w t more k))

  pub Runs-one : (a b : S) (x : R) (t : List ℕ) → serves a x b t → Runs serves idles a (x ∷ []) b t
  Runs-one a b x t h = subst (λ (l : List ℕ). Runs serves idles a (x ∷ []) b l) (append-nil t) (OneServed x h NoneLeft)

  pub Runs-on : (a b : S) (t : List ℕ) → GoesOn idles a b t → Runs serves idles a [] b t
  Runs-on a b t (inl h) = subst (λ (l : List ℕ). Runs serves idles a [] b l) (sym h.1) (subst (λ (d : S). Runs serves idles a [] d []) (sym h.0) NoneLeft)
  Runs-on a b t (inr h) = subst (λ (l : List ℕ). Runs serves idles a [] b l) (append-nil t) (OneIdled h NoneLeft)

  -- what is held was handed on, and then the state went on by itself
  pub awaited-then : (a b : S) (u v w : Output) (r : Result Unit WriteFailed) → PrintsAll u v [] → Awaited idles a b r v w → Awaited idles a b r u w
  awaited-then a b u v w r h k = record { text = k.text; goes_on = k.goes_on; prints = prints-then r u v w [] k.text h k.prints }

  -- what is held was not handed on
  pub awaited-not : (a : S) (u v : Output) (r : Result Unit WriteFailed) (e f : WriteFailed) → r ≡ Err e → Prints (Err f) u v [] → Awaited idles a a r u v
  awaited-not a u v r e f is h = record { text = []; goes_on = inl (refl, refl); prints = not-printed r e f u v [] is h }

-- requests in front of requests
pub after_requests-twice : {R : Type 0} (xs ys : List R) (s : Script R) → after_requests xs (after_requests ys s) ≡ after_requests (xs ++ ys) s
after_requests-twice {R} xs ys s = ap behind_as (sym (append_assoc xs ys s.requests))
  where
    behind_as : List R → Script R
    behind_as l = record { requests = l; ending = s.ending }

-- ---- what was asked

pub AccountsFor-then : {R X : Type 0} (r : Result Unit ReplayFault) (asks mid rest : X → Script R) (xs ys : List R)
    → ((x : X) → asks x ≡ after_requests xs (mid x)) → AccountsFor r mid rest ys → AccountsFor r asks rest (xs ++ ys)
AccountsFor-then (Ok u) asks mid rest xs ys h k = λ x. h x ∙ ap (after_requests xs) (k x) ∙ after_requests-twice xs ys (rest x)
AccountsFor-then (Err (Line n w)) asks mid rest xs ys h k = λ x. h x ∙ ap (after_requests xs) (k x)
AccountsFor-then (Err Read) asks mid rest xs ys h k = λ x. ((k x).0, h x ∙ ap (after_requests xs) (k x).1 ∙ after_requests-twice xs ys (k x).0)
AccountsFor-then (Err Write) asks mid rest xs ys h k = λ x. ((k x).0, h x ∙ ap (after_requests xs) (k x).1 ∙ after_requests-twice xs ys (k x).0)
AccountsFor-then (Err TooMuch) asks mid rest xs ys h k = λ x. h x ∙ ap (after_requests xs) (k x)

AccountsFor-at : {R X Y : Type 0} (f : Y → X) (r : Result Unit ReplayFault) (asks rest : X → Script R) (xs : List R)
    → AccountsFor r asks rest xs → AccountsFor r (λ y. asks (f y)) (λ y. rest (f y)) xs
AccountsFor-at f (Ok u) asks rest xs h = λ y. h (f y)
AccountsFor-at f (Err (Line n w)) asks rest xs h = λ y. h (f y)
AccountsFor-at f (Err Read) asks rest xs h = λ y. h (f y)
AccountsFor-at f (Err Write) asks rest xs h = λ y. h (f y)
AccountsFor-at f (Err TooMuch) asks rest xs h = λ y. h (f y)

AccountsFor-as : {R X : Type 0} (r : Result Unit ReplayFault) (asks asks' rest rest' : X → Script R) (xs : List R)
    → ((x : X) → asks' x ≡ asks x) → ((x : X) → rest x ≡ rest' x) → AccountsFor r asks rest xs → AccountsFor r asks' rest' xs
AccountsFor-as (Ok u) asks asks' rest rest' xs e f h = λ x. e x ∙ h x ∙ ap (after_requests xs) (f x)
AccountsFor-as (Err (Line n w)) asks asks' rest rest' xs e f h = λ x. e x ∙ h x
AccountsFor-as (Err Read) asks asks' rest rest' xs e f h = λ x. ((h x).0, e x ∙ (h x).1)
AccountsFor-as (Err Write) asks asks' rest rest' xs e f h = λ x. ((h x).0, e x ∙ (h x).1)
AccountsFor-as (Err TooMuch) asks asks' rest rest' xs e f h = λ x. e x ∙ h x

AccountsFor-err : {R X : Type 0} (fault : ReplayFault) (asks rest rest' : X → Script R) (xs : List R) → AccountsFor (Err fault) asks rest xs → AccountsFor (Err fault) asks rest' xs
AccountsFor-err (Line n w) asks rest rest' xs h = h
AccountsFor-err Read asks rest rest' xs h = h
AccountsFor-err Write asks rest rest' xs h = h
AccountsFor-err TooMuch asks rest rest' xs h = h

-- ---- steps

module _ {S R : Type 0} (serves : S → R → S → List ℕ → Type 0) (idles : S → S → List ℕ → Type 0) where
  -- nothing was done
  pub Step-nothing : {X : Type 0} (a : S) (u : Output) (r : Result Unit ReplayFault) (asks rest : X → Script R)
      → Printed r u u [] → AccountsFor r asks rest [] → ReplayStep serves idles a a u u r asks rest
  Step-nothing a u r asks rest p h = record { requests = []; text = []; runs = NoneLeft; prints = p; accounts = h }

  -- no step reads
  pub Step-unread : {X : Type 0} (a b : S) (u v : Output) (r : Result Unit ReplayFault) (asks rest : X → Script R)
      → ReplayStep serves idles a b u v r asks rest → r ≡ Err Read → ⊥
  Step-unread a b u v (Ok x) asks rest h e = cc e
  Step-unread a b u v (Err (Line n w)) asks rest h e = cc e
  Step-unread a b u v (Err Read) asks rest h e = h.prints
  Step-unread a b u v (Err Write) asks rest h e = cc e
  Step-unread a b u v (Err TooMuch) asks rest h e = cc e

  -- a step, and then another
  pub Step-then : {X : Type 0} (a b c : S) (u v w : Output) (r : Result Unit ReplayFault) (asks mid rest : X → Script R)
      → ReplayStep serves idles a b u v (Ok tt) asks mid → ReplayStep serves idles b c v w r mid rest → ReplayStep serves idles a c u w r asks rest
  Step-then a b c u v w r asks mid rest h k = record {
    requests = h.requests ++ k.requests;
    text = h.text ++ k.text;
    runs = Runs-then serves idles a b c h.requests k.requests h.text k.text h.runs k.runs;
    prints = Printed-then r u v w h.text k.text h.prints k.prints;
    accounts = AccountsFor-then r asks mid rest h.requests k.requests h.accounts k.accounts;
  }

  -- the same, whatever else is asked
  pub Step-at : {X Y : Type 0} (f : Y → X) (a b : S) (u v : Output) (r : Result Unit ReplayFault) (asks rest : X → Script R)
      → ReplayStep serves idles a b u v r asks rest → ReplayStep serves idles a b u v r (λ y. asks (f y)) (λ y. rest (f y))
  Step-at f a b u v r asks rest h = record {
    requests = h.requests;
    text = h.text;
    runs = h.runs;
    prints = h.prints;
    accounts = AccountsFor-at f r asks rest h.requests h.accounts;
  }

  -- the same, said otherwise
  pub Step-as : {X : Type 0} (a b : S) (u v : Output) (r : Result Unit ReplayFault) (asks asks' rest rest' : X → Script R)
      → ((x : X) → asks' x ≡ asks x) → ((x : X) → rest x ≡ rest' x) → ReplayStep serves idles a b u v r asks rest → ReplayStep serves idles a b u v r asks' rest'
  Step-as a b u v r asks asks' rest rest' e f h = record {
    requests = h.requests;
    text = h.text;
    runs = h.runs;
    prints = h.prints;
    accounts = AccountsFor-as r asks asks' rest rest' h.requests e f h.accounts;
  }

  -- at a fault it does not matter what would have been left
  pub Step-err : {X : Type 0} (a b : S) (u v : Output) (r : Result Unit ReplayFault) (fault : ReplayFault) (asks rest rest' : X → Script R)
      → r ≡ Err fault → ReplayStep serves idles a b u v r asks rest → ReplayStep serves idles a b u v r asks rest'
  Step-err {X} a b u v r fault asks rest rest' e h = record {
    requests = h.requests;
    text = h.text;
    runs = h.runs;
    prints = h.prints;
    accounts = subst (λ (q : Result Unit ReplayFault). AccountsFor {R = R} {X = X} q asks rest' h.requests) (sym e)
        (AccountsFor-err fault asks rest rest' h.requests (subst (λ (q : Result Unit ReplayFault). AccountsFor {R = R} {X = X} q asks rest h.requests) e h.accounts));
  }

  -- ---- a line

  served : (a b : S) (u v : Output) (k : ℕ) (x : Result R LineFault) → ServesLine x serves a b (Ok tt) u v
      → ReplayStep {X = Script R} serves idles a b u v (Ok tt) (λ s. line_then k (parsed_by (Ok true) x) s) (λ s. s)
  served a b u v k (Err fault) h = cc (h.0)
  served a b u v k (Ok request) h = record {
    requests = request ∷ [];
    text = h.text;
    runs = Runs-one serves idles a b request h.text h.serves_it;
    prints = h.prints;
    accounts = λ s. refl;
  }

  failed : (a b : S) (u v : Output) (k : ℕ) (x : Result R LineFault) → ServesLine x serves a b (Err stop.Write) u v
      → ReplayStep {X = Script R} serves idles a b u v (Err Write) (λ s. line_then k (parsed_by (Ok true) x) s) (λ s. s)
  failed a b u v k (Err fault) h = cc (h.0)
  failed a b u v k (Ok request) h = record {
    requests = request ∷ [];
    text = h.text;
    runs = Runs-one serves idles a b request h.text h.serves_it;
    prints = h.prints;
    accounts = λ s. (s, refl);
  }

  refused : (a b : S) (u v : Output) (k : ℕ) (x : Result R LineFault) (fault : LineFault) → ServesLine x serves a b (Err (stop.Line fault)) u v
      → ReplayStep {X = Script R} serves idles a b u v (Err (Line k fault)) (λ s. line_then k (parsed_by (Ok true) x) s) (λ s. s)
  refused a b u v k (Err other) fault h =
      let same : other ≡ fault = cc (h.0) in
      subst (λ (d : S). ReplayStep {X = Script R} serves idles a d u v (Err (Line k fault)) (λ s. line_then k (parsed_by (Ok true) (Err other)) s) (λ s. s)) (sym h.1)
      (subst (λ (w : Output). ReplayStep {X = Script R} serves idles a a u w (Err (Line k fault)) (λ s. line_then k (parsed_by (Ok true) (Err other)) s) (λ s. s)) (sym h.2)
      (Step-nothing a u (Err (Line k fault)) _ _ (PrintsAll-nil u) (λ s. ap (λ (f : LineFault). by_fault f) same)))
    where
      by_fault : LineFault → Script R
      by_fault f = ends_by (Err (Line k f))
  refused a b u v k (Ok request) fault h = absurd h

  -- what a language's `serve_line` answered
  pub line-served : (a b : S) (u v : Output) (k : ℕ) (x : Result R LineFault) (r : Result Unit Stop) (o : Unit {0}) → r ≡ Ok o
      → ServesLine x serves a b r u v → ReplayStep {X = Script R} serves idles a b u v (Ok tt) (λ s. line_then k (parsed_by (Ok true) x) s) (λ s. s)
  line-served a b u v k x r o e h = served a b u v k x (subst (λ (z : Result Unit Stop). ServesLine x serves a b z u v) e h)

  pub line-failed : (a b : S) (u v : Output) (k : ℕ) (x : Result R LineFault) (r : Result Unit Stop) → r ≡ Err stop.Write
      → ServesLine x serves a b r u v → ReplayStep {X = Script R} serves idles a b u v (Err Write) (λ s. line_then k (parsed_by (Ok true) x) s) (λ s. s)
  line-failed a b u v k x r e h = failed a b u v k x (subst (λ (z : Result Unit Stop). ServesLine x serves a b z u v) e h)

  pub line-refused : (a b : S) (u v : Output) (k : ℕ) (x : Result R LineFault) (r : Result Unit Stop) (fault : LineFault) → r ≡ Err (stop.Line fault)
      → ServesLine x serves a b r u v → ReplayStep {X = Script R} serves idles a b u v (Err (Line k fault)) (λ s. line_then k (parsed_by (Ok true) x) s) (λ s. s)
  line-refused a b u v k x r fault e h = refused a b u v k x fault (subst (λ (z : Result Unit Stop). ServesLine x serves a b z u v) e h)

  -- a line with that fault whatever its fields are
  pub line-bad : (a : S) (u : Output) (k : ℕ) (fault : LineFault) (p : Result Bool LineFault) (x : Result R LineFault) → p ≡ Err fault
      → ReplayStep {X = Script R} serves idles a a u u (Err (Line k fault)) (λ s. line_then k (parsed_by p x) s) (λ s. s)
  line-bad a u k fault p x e = Step-nothing a u (Err (Line k fault)) _ _ (PrintsAll-nil u) (λ s. ap (λ q. line_then k (parsed_by q x) s) e)

  -- a line that is skipped
  pub line-skipped : (a : S) (u : Output) (k : ℕ) (p : Result Bool LineFault) (x : Result R LineFault) → p ≡ Ok false
      → ReplayStep {X = Script R} serves idles a a u u (Ok tt) (λ s. line_then k (parsed_by p x) s) (λ s. s)
  line-skipped a u k p x e = Step-nothing a u (Ok tt) _ _ (PrintsAll-nil u) (λ s. ap (λ q. line_then k (parsed_by q x) s) e)

  -- a line that asks for something
  pub line-asks : (a b : S) (u v : Output) (k : ℕ) (r : Result Unit ReplayFault) (p : Result Bool LineFault) (x : Result R LineFault) → p ≡ Ok true
      → ReplayStep {X = Script R} serves idles a b u v r (λ s. line_then k (parsed_by (Ok true) x) s) (λ s. s) → ReplayStep {X = Script R} serves idles a b u v r (λ s. line_then k (parsed_by p x) s) (λ s. s)
  line-asks a b u v k r p x e h = Step-as a b u v r _ _ _ _ (λ s. ap (λ q. line_then k (parsed_by q x) s) e) (λ s. refl) h

  -- a line that is too long already
  pub line-too_long : (a : S) (u : Output) (k : ℕ) (line : List ℕ) (asked : List (List ℕ) → Result R LineFault) (r : Result Unit ReplayFault) → 4096 < length line
      → r ≡ Err (Line k TooLong) → ReplayStep {X = Script R} serves idles a a u u r (λ s. line_then k (parsed asked line) s) (λ s. s)
  line-too_long a u k line asked r long e =
      subst (λ (q : Result Unit ReplayFault). ReplayStep {X = Script R} serves idles a a u u q (λ s. line_then k (parsed asked line) s) (λ s. s)) (sym e)
      (line-bad a u k TooLong _ _ (asks-long line long))
