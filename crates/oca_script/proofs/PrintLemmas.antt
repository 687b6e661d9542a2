-- Facts on what is written.
use Rattle.std.proofs.Common.{◌≡◌, ℕ, zero, suc, Bool, true, zero-add, ◌-◌, ◌<◌, subst, length-drop, get_or, ◌+◌, List, [], ◌∷◌, ◌++◌, length, take, drop, Option, Some, None, Result, Ok, Err, refl, sym, ap, ◌∙◌, arith, append_assoc, append-nil}
use Rattle.std.proofs.lemmas.List.{take-append-drop, take_more}
use Rattle.std.proofs.lemmas.Grind.{flat_map-append}
use Rattle.std.specs.List.{flat_map}
use Rattle.std.proofs.Math.Seq.{take-length, take-nil, drop-nil}
use Rattle.std.specs.Io.KnownBytes.{Appends, Keeps}
use Rattle.std.proofs.KnownBytes.{Appends-nil, Appends-trans}
use Rattle.oca_script.specs.declared.fault.WriteFailed.{WriteFailed}
use Rattle.oca_script.specs.Ends.{Output, output}
use Rattle.oca_script.specs.Printing.{AppendsFront, Emits, Prints, PrintsAll, PrintsPart, WritesBytes, WritesWhole, WritesFront, WritesOut}
use Rattle.std.specs.Prelude.{IsErr, OnOk}

pub front-of : (a b : Option (List ℕ)) (n : ℕ) (x : List ℕ) → Appends a b (take n x) → AppendsFront a b x
front-of a b n x h = record { front = take n x; rest = drop n x; whole = sym (take-append-drop n x); appends = h }

pub Appends-kept : (a b c : Option (List ℕ)) (x : List ℕ) → Appends a b x → Keeps b c → Appends a c x
Appends-kept None b c x h k = tt
Appends-kept (Some xs) None c x h k = absurd h
Appends-kept (Some xs) (Some ys) None x h k = absurd k
Appends-kept (Some xs) (Some ys) (Some zs) x h k = k ∙ h

from_all : (n : ℕ) (xs : List ℕ) → take (length xs - n) (drop n xs) ≡ drop n xs
from_all n xs = rw (← length-drop n xs) (take-length (drop n xs))

take-sum : (i j : ℕ) (xs : List ℕ) → take (i + j) xs ≡ take i xs ++ take j (drop i xs)
take-sum zero j xs = rw zero-add refl
take-sum (suc i) j [] = simp (take-nil, drop-nil)
take-sum (suc i) j (x ∷ xs) = let e : suc i + j ≡ suc (i + j) = omega arith in rw e (ap (λ (l : List ℕ). x ∷ l) (take-sum i j xs))

-- one piece more is appended
pub Appends-more : (a b c : Option (List ℕ)) (i j : ℕ) (xs : List ℕ) → Appends a b (take i xs)
    → Appends b c (take j (take (length xs - i) (drop i xs))) → Appends a c (take (i + j) xs)
Appends-more a b c i j xs h k =
    rw (take-sum i j xs) (Appends-trans a b c (take i xs) (take j (drop i xs)) h (subst (λ (l : List ℕ). Appends b c (take j l)) (from_all i xs) k))

-- ---- through the buffer

-- nothing printed
pub Emits-nil : (a : Option (List ℕ)) (held : List ℕ) → Emits a a held [] held
Emits-nil a held = record { sent = []; appends = Appends-nil a; whole = append-nil held }

-- printed into the buffer alone
pub Emits-held : (a : Option (List ℕ)) (held text : List ℕ) → Emits a a held text (held ++ text)
Emits-held a held text = record { sent = []; appends = Appends-nil a; whole = refl }

-- one text after another
pub Emits-then : (a b c : Option (List ℕ)) (p q r x y : List ℕ) → Emits a b p x q → Emits b c q y r → Emits a c p (x ++ y) r
Emits-then a b c p q r x y h k = record {
  sent = h.sent ++ k.sent;
  appends = Appends-trans a b c h.sent k.sent h.appends k.appends;
  whole = sym (append_assoc p x y) ∙ ap (λ (l : List ℕ). l ++ y) h.whole ∙ append_assoc h.sent q y
      ∙ ap (λ (l : List ℕ). h.sent ++ l) k.whole ∙ sym (append_assoc h.sent k.sent r);
}

-- ---- with what is held

-- two texts are printed one after the other
pub PrintsAll-then : (a b c : Output) (x y : List ℕ) → PrintsAll a b x → PrintsAll b c y → PrintsAll a c (x ++ y)
PrintsAll-then a b c x y h k = record {
  emits = Emits-then _ _ _ _ _ _ _ _ h.emits k.emits;
  failed = k.failed ∙ h.failed;
}

-- a text is printed whole, and of the next one a part
pub PrintsPart-then : (a b c : Output) (x y : List ℕ) → PrintsAll a b x → PrintsPart b c y → PrintsPart a c (x ++ y)
PrintsPart-then a b c x y h k = record { lost = k.lost; emits = Emits-then _ _ _ _ _ _ _ _ h.emits k.emits; failed = k.failed }

-- nothing is printed
pub PrintsAll-nil : (a : Output) → PrintsAll a a []
PrintsAll-nil a = record { emits = Emits-nil a.contents a.held; failed = refl }

-- the bytes are held
pub prints-held : (a : Output) (held text : List ℕ) → held ≡ a.held ++ text → PrintsAll a (output a.contents held a.failed) text
prints-held a held text e = record {
  emits = subst (Emits a.contents a.contents a.held text) (sym e) (Emits-held a.contents a.held text);
  failed = refl;
}

-- what was held is lost, and the text too
pub prints-lost : (a b : Output) (s text : List ℕ) → PrintsPart a b [] → PrintsPart a (output b.contents s b.failed) text
prints-lost a b s text h = record {
  lost = h.lost ++ text;
  emits = record {
    sent = h.emits.sent;
    appends = h.emits.appends;
    whole = ap (λ (l : List ℕ). l ++ text) (sym (append-nil a.held) ∙ h.emits.whole) ∙ append_assoc h.emits.sent h.lost text;
  };
  failed = h.failed;
}

-- after what was held was handed on the text is held
pub prints-flushed : (a b : Output) (s text : List ℕ) → b.held ≡ [] → s ≡ b.held ++ text → PrintsAll a b [] → PrintsAll a (output b.contents s b.failed) text
prints-flushed a b s text empty held h =
    subst (λ (l : List ℕ). PrintsAll a (output b.contents s b.failed) l) refl (PrintsAll-then a b (output b.contents s b.failed) [] text h (prints-held b s text held))

-- a failed write is handed up
pub prints-err : (r : Result Unit WriteFailed) (e : WriteFailed) (a b : Output) (text : List ℕ) → r ≡ Err e → PrintsPart a b [] → Prints r a b text
prints-err r e a b text is h = subst (λ (z : Result Unit WriteFailed). Prints z a b text) (sym is) (prints-lost a b b.held text h)

all_sent : (a b : Output) → b.held ≡ [] → (h : PrintsAll a b []) → a.held ≡ h.emits.sent
all_sent a b empty h = sym (append-nil a.held) ∙ h.emits.whole ∙ ap (λ (l : List ℕ). h.emits.sent ++ l) empty ∙ append-nil h.emits.sent

-- what was held was handed on, and then the bytes were written
pub prints-past : (r : Result Unit WriteFailed) (a : Output) (u v : Option (List ℕ)) (held text : List ℕ) (f g : Bool) → held ≡ [] → PrintsAll a (output u held f) []
    → WritesBytes r (output u [] f) (output v [] g) text → Prints r a (output v held g) text
prints-past (Ok x) a u v held text f g empty h k = record {
  emits = record {
    sent = h.emits.sent ++ text;
    appends = Appends-trans a.contents u v h.emits.sent text h.emits.appends k.0;
    whole = ap (λ (l : List ℕ). l ++ text) (all_sent a (output u held f) empty h) ∙ sym (append-nil (h.emits.sent ++ text)) ∙ ap (λ (l : List ℕ). (h.emits.sent ++ text) ++ l) (sym empty);
  };
  failed = k.1 ∙ h.failed;
}
prints-past (Err x) a u v held text f g empty h k = record {
  lost = k.0.rest;
  emits = record {
    sent = h.emits.sent ++ k.0.front;
    appends = Appends-trans a.contents u v h.emits.sent k.0.front h.emits.appends k.0.appends;
    whole = ap (λ (l : List ℕ). l ++ text) (all_sent a (output u held f) empty h) ∙ ap (λ (l : List ℕ). h.emits.sent ++ l) k.0.whole ∙ sym (append_assoc h.emits.sent k.0.front k.0.rest);
  };
  failed = k.1;
}

-- a write failed after n bytes
pub writes-failed : (r : Result Unit WriteFailed) (e : WriteFailed) (a b c : Option (List ℕ)) (f g : Bool) (n : ℕ) (bytes : List ℕ) → r ≡ Err e → Appends a b (take n bytes) → Keeps b c → g ≡ true
    → WritesBytes r (output a [] f) (output c [] g) bytes
writes-failed r e a b c f g n bytes is h k t =
    subst (λ (z : Result Unit WriteFailed). WritesBytes z (output a [] f) (output c [] g) bytes) (sym is) (front-of a c n bytes (Appends-kept a b c (take n bytes) h k), t)

-- ---- one text after another

-- a text, and then another as far as the writes go
pub prints-then : (r : Result Unit WriteFailed) (a b c : Output) (x y : List ℕ) → PrintsAll a b x → Prints r b c y → Prints r a c (x ++ y)
prints-then (Ok v) a b c x y h k = PrintsAll-then a b c x y h k
prints-then (Err e) a b c x y h k = PrintsPart-then a b c x y h k

-- a write failed within the first text
part-less : (a b : Output) (x y : List ℕ) → PrintsPart a b x → PrintsPart a b (x ++ y)
part-less a b x y h = record {
  lost = h.lost ++ y;
  emits = record {
    sent = h.emits.sent;
    appends = h.emits.appends;
    whole = sym (append_assoc a.held x y) ∙ ap (λ (l : List ℕ). l ++ y) h.emits.whole ∙ append_assoc h.emits.sent h.lost y;
  };
  failed = h.failed;
}

-- where a part of the first text is printed, a part of both is
pub prints-less : (r : Result Unit WriteFailed) (e : WriteFailed) (a b : Output) (x y : List ℕ) → r ≡ Err e → PrintsPart a b x → Prints r a b (x ++ y)
prints-less r e a b x y is h = subst (λ (z : Result Unit WriteFailed). Prints z a b (x ++ y)) (sym is) (part-less a b x y h)

-- it was printed in part
pub not-printed : (r : Result Unit WriteFailed) (e f : WriteFailed) (a b : Output) (text : List ℕ) → r ≡ Err e → Prints (Err f) a b text → Prints r a b text
not-printed r e f a b text is h = subst (λ (z : Result Unit WriteFailed). Prints z a b text) (sym is) h

-- room was made, and then a text is held
pub printed-held : (a b c : Output) (text : List ℕ) → c ≡ output b.contents (b.held ++ text) b.failed → PrintsAll a b [] → PrintsAll a c text
printed-held a b c text e h =
    subst (λ (o : Output). PrintsAll a o text) (sym e) (PrintsAll-then a b (output b.contents (b.held ++ text) b.failed) [] text h (prints-held b (b.held ++ text) text refl))

-- ---- handed on

-- the text was printed, and then what is held was handed on
pub then-flushed : (r : Result Unit WriteFailed) (a b c : Output) (text : List ℕ) → PrintsAll a b text → Prints r b c [] → Prints r a c text
then-flushed (Ok u) a b c text h k = subst (PrintsAll a c) (append-nil text) (PrintsAll-then a b c text [] h k)
then-flushed (Err e) a b c text h k = subst (PrintsPart a c) (append-nil text) (PrintsPart-then a b c text [] h k)

-- all that was printed is written, and nothing held
pub whole : (a c : Output) (text : List ℕ) → PrintsAll a c text → c.held ≡ [] → WritesWhole a c text
whole a c text h none = record {
  appends = subst (Appends a.contents c.contents) (sym (append-nil h.emits.sent) ∙ ap (λ (l : List ℕ). h.emits.sent ++ l) (sym none) ∙ sym h.emits.whole) h.emits.appends;
  none_held = none;
  failed = h.failed;
}

-- printed, and then handed on
pub written : (a b c : Output) (text : List ℕ) → PrintsAll a b text → PrintsAll b c [] → c.held ≡ [] → WritesWhole a c text
written a b c text h k none = whole a c text (subst (PrintsAll a c) (append-nil text) (PrintsAll-then a b c text [] h k)) none

-- a front was printed
pub front : (a c : Output) (text : List ℕ) → PrintsPart a c text → WritesFront a c text
front a c text h = record {
  front = record { front = h.emits.sent; rest = h.lost; whole = h.emits.whole; appends = h.emits.appends };
  failed = h.failed;
}

-- the text was printed, and then all that is held was handed on, as far as the writes went
pub written-out : (r : Result Unit WriteFailed) (a b c : Output) (text : List ℕ) → PrintsAll a b text → Prints r b c [] → OnOk r (c.held ≡ []) → WritesOut r a c text
written-out (Ok u) a b c text h k none = written a b c text h k none
written-out (Err e) a b c text h k none = front a c text (then-flushed (Err e) a b c text h k)

-- what was sent of the first text and of what was held, and then the second behind what is held
sent-both : (held x sent mid y : List ℕ) → held ++ x ≡ sent ++ mid → held ++ (x ++ y) ≡ sent ++ (mid ++ y)
sent-both held x sent mid y e = sym (append_assoc held x y) ∙ ap (λ (l : List ℕ). l ++ y) e ∙ append_assoc sent mid y

pub written-then : (r : Result Unit WriteFailed) (a b c : Output) (x y : List ℕ) → PrintsAll a b x → WritesOut r b c y → WritesOut r a c (x ++ y)
written-then (Ok u) a b c x y h k = record {
  appends = subst (Appends a.contents c.contents) (sym (sent-both a.held x h.emits.sent b.held y h.emits.whole))
      (Appends-trans a.contents b.contents c.contents h.emits.sent (b.held ++ y) h.emits.appends k.appends);
  none_held = k.none_held;
  failed = k.failed ∙ h.failed;
}
written-then (Err e) a b c x y h k = record {
  front = record {
    front = h.emits.sent ++ k.front.front;
    rest = k.front.rest;
    whole = sent-both a.held x h.emits.sent b.held y h.emits.whole ∙ ap (λ (l : List ℕ). h.emits.sent ++ l) k.front.whole
        ∙ sym (append_assoc h.emits.sent k.front.front k.front.rest);
    appends = Appends-trans a.contents b.contents c.contents h.emits.sent k.front.front h.emits.appends k.front.appends;
  };
  failed = k.failed;
}

-- ---- where a call failed, and its `?` hands that up

-- of the text a part was printed, or nothing behind what was held
pub failed-print : (r : Result Unit WriteFailed) (a b : Output) (text : List ℕ) → IsErr r → PrintsPart a b text → Prints r a b text
failed-print (Ok u) a b text is h = absurd (cc is)
failed-print (Err e) a b text is h = h

pub failed-room : (r : Result Unit WriteFailed) (a b : Output) (text : List ℕ) → IsErr r → PrintsPart a b [] → Prints r a b text
failed-room r a b text is h = failed-print r a b text is (prints-lost a b b.held text h)

-- of the first of two texts a part was printed
pub failed-first : (r : Result Unit WriteFailed) (a b : Output) (x y : List ℕ) → IsErr r → PrintsPart a b x → Prints r a b (x ++ y)
failed-first r a b x y is h = failed-print r a b (x ++ y) is (part-less a b x y h)

-- the same where all was to be written
pub failed-write : (r : Result Unit WriteFailed) (a b : Output) (text : List ℕ) → IsErr r → PrintsPart a b text → WritesOut r a b text
failed-write (Ok u) a b text is h = absurd (cc is)
failed-write (Err e) a b text is h = front a b text h

pub failed-write-room : (r : Result Unit WriteFailed) (a b : Output) (text : List ℕ) → IsErr r → PrintsPart a b [] → WritesOut r a b text
failed-write-room r a b text is h = failed-write r a b text is (prints-lost a b b.held text h)

pub failed-write-first : (r : Result Unit WriteFailed) (a b : Output) (x y : List ℕ) → IsErr r → PrintsPart a b x → WritesOut r a b (x ++ y)
failed-write-first r a b x y is h = failed-write r a b (x ++ y) is (part-less a b x y h)

-- room was made, then a text is held, and all that is held was handed on
pub held-written : (r : Result Unit WriteFailed) (a b c d : Output) (text : List ℕ) → PrintsAll a b [] → c ≡ output b.contents (b.held ++ text) b.failed → Prints r c d [] → OnOk r (d.held ≡ [])
    → WritesOut r a d text
held-written r a b c d text h e k none = written-out r a c d text (printed-held a b c text e h) k none

-- ---- the texts of items, one after another

module _ {X : Type 0} (f : X → List ℕ) where
  -- those of the first items, and that of the next one
  first-texts : (xs : List X) (i : ℕ) (d : X) → i < length xs → flat_map f (take (i + 1) xs) ≡ flat_map f (take i xs) ++ f (get_or xs i d)
  first-texts xs i d h =
      ap (flat_map f) (take_more xs i d h) ∙ flat_map-append f (take i xs) (get_or xs i d ∷ [])
      ∙ ap (λ (l : List ℕ). flat_map f (take i xs) ++ l) (append-nil (f (get_or xs i d)))

  pub items-more : (xs : List X) (i : ℕ) (d : X) (a b c : Output) → i < length xs → PrintsAll a b (flat_map f (take i xs)) → PrintsAll b c (f (get_or xs i d))
      → PrintsAll a c (flat_map f (take (i + 1) xs))
  items-more xs i d a b c h k l = rw (first-texts xs i d h) (PrintsAll-then a b c (flat_map f (take i xs)) (f (get_or xs i d)) k l)

  -- a part of the next one
  pub items-less : (r : Result Unit WriteFailed) (xs : List X) (i : ℕ) (d : X) (a b c : Output) → i < length xs → IsErr r → PrintsAll a b (flat_map f (take i xs)) → PrintsPart b c (f (get_or xs i d))
      → Prints r a c (flat_map f xs)
  items-less r xs i d a b c h is k l =
      let all : flat_map f xs ≡ (flat_map f (take i xs) ++ f (get_or xs i d)) ++ flat_map f (drop (i + 1) xs) =
      ap (flat_map f) (sym (take-append-drop (i + 1) xs)) ∙ flat_map-append f (take (i + 1) xs) (drop (i + 1) xs)
      ∙ ap (λ (m : List ℕ). m ++ flat_map f (drop (i + 1) xs)) (first-texts xs i d h) in
      rw all (failed-first r a c (flat_map f (take i xs) ++ f (get_or xs i d)) (flat_map f (drop (i + 1) xs)) is
      (PrintsPart-then a b c (flat_map f (take i xs)) (f (get_or xs i d)) k l))

-- a text that was printed, and what was printed behind it
pub ruleset print_rules = (prints-held, prints-flushed, failed-room)

pub ruleset printing = (failed-print, failed-room, failed-first, prints-then, printed-held, then-flushed)

pub ruleset writing = (failed-write, failed-write-room, failed-write-first, written-out, held-written, written-then)
