-- The line of an object is read back as the object, and a tree's text as the tree.
use Rattle.std.proofs.Common.{◌≡◌, ℕ, suc, ◌+◌, ◌<◌, ◌≤◌, ◌==◌, Bool, true, false, cond, ◌⊎◌, inl, inr, List, [], ◌∷◌, ◌++◌, length, Option, Some, None, Ok, Err, refl, sym, ap, ◌∙◌, subst, arith, append_assoc, append-nil, length-append, eqb-true, eq-eqb}
use Rattle.std.specs.Prelude.{codes, decimal, Result, nat_lt, nat_le, is_some}
use Rattle.std.specs.Option.{option_map_or}
use Rattle.std.specs.List.{flat_map, All}
use Rattle.std.proofs.lemmas.Bool.Decides.{nat_tests}
use Rattle.std.proofs.lemmas.List.Elements.{All-head, All-tail}
use Rattle.oca_types.specs.declared.class.Class.{Class}
use Rattle.oca_tree.specs.declared.object.Object.{Object}
use Rattle.oca_tree.specs.declared.object.Value.{Value}
use Rattle.oca_tree.specs.declared.object.Value.TheVariants as values
use Rattle.oca_tree.specs.Objects.{object_of}
use Rattle.oca_tree.specs.Places.{Place, place_of, places, place_at, is_block, is_block_value, depth}
use Rattle.oca_tree.specs.Trees.{IsBuilt, IsFree, IsTree, IsSound, IsSoundValue}
use Rattle.oca_tree.specs.Trees as trees
use Rattle.oca_tree.specs.Copies.{flags_in, unlocked, all_unlocked}
use Rattle.oca_tree.specs.Building.{root, is_long, is_bad_value}
use Rattle.oca_tree.specs.Starts.{has_other_flags}
use Rattle.oca_script.specs.Fields.{split_at, split_on}
use Rattle.oca_script.proofs.PartLemmas.{Free, free-after}
use Rattle.oca_script.specs.declared.object_fault.ObjectFault.{ObjectFault}
use Rattle.oca_script.specs.declared.object_fault.ObjectFault.TheVariants as fault
use Rattle.oca_textree.specs.Lines.{Taken, Placed, placed_at, ono_at, field_at, then_by, some_or_fault, class_of_word, one_of, refusal, has_control}
use Rattle.oca_textree.specs.Stored.{Flagged, flagged_at, start_at, Ending, ending_at, start_refusal, stored_with, stored_by, after_line, after_word, rooted}
use Rattle.oca_textree.specs.Texts.{after_lines, go_on, line_before, lines_behind, rooted_by, from_root, objects_of_text}
use Rattle.oca_textree.specs.Written.{lock_word, truth_word, text_field, kept_label, place_fields, object_line, root_line, line_of, text_of, IsShortText, IsNamed, IsReadBack}
use Rattle.oca_textree.proofs.SplitLemmas.{split-more}
use Rattle.oca_textree.proofs.Standing.{free-in, none-before}
use Rattle.oca_textree.proofs.FieldsBack.{field-word, ono-decimal, word-decimal}
use Rattle.oca_textree.proofs.TextsBack.{text-back, text-last, text-shown, word-shown, shown-append, shown-free}
use Rattle.oca_textree.proofs.ValuesBack.{plain_value, reading_of, read_value, fields_of, value-back, value-shown, flagged}

-- ---- the end of a line

lock-field : (l : Bool) (rest : List ℕ) → field_at (Some (lock_word l ++ 32 ∷ rest)) ≡ Ok (lock_word l, Some rest)
unfolding field_at
lock-field true rest = refl
lock-field false rest = refl

lock-reading : (l : Bool) → one_of (codes "lockable") true (codes "no-lock") false (lock_word l) ≡ Some l
unfolding one_of
lock-reading true = refl
lock-reading false = refl

truth-field : (e : Bool) (rest : List ℕ) → field_at (Some (truth_word e ++ 32 ∷ rest)) ≡ Ok (truth_word e, Some rest)
unfolding field_at
truth-field true rest = refl
truth-field false rest = refl

truth-reading : (e : Bool) → one_of (codes "on") true (codes "off") false (truth_word e) ≡ Some e
unfolding one_of
truth-reading true = refl
truth-reading false = refl

start-back : (e : Bool) (label : List ℕ) → IsShortText label → start_at (Some (truth_word e ++ 32 ∷ text_field label)) ≡ Ok (e, label)
unfolding start_at
start-back e label h = let a = truth-field e (text_field label) in let b = truth-reading e in let c = text-last label h in rw (a, b, c) refl

tail_of : Bool → List ℕ → Bool → List ℕ → List ℕ
tail_of l role e label = lock_word l ++ 32 ∷ (text_field role ++ 32 ∷ (truth_word e ++ 32 ∷ text_field label))

ending-back : (l : Bool) (role : List ℕ) (e : Bool) (label : List ℕ) → IsShortText role → IsShortText label
    → ending_at (Some (tail_of l role e label)) ≡ Ok (record { lockable = l; role = role; enabled = e; label = label })
unfolding ending_at tail_of
ending-back l role e label hr hl =
    let a = lock-field l (text_field role ++ 32 ∷ (truth_word e ++ 32 ∷ text_field label)) in
    let b = lock-reading l in
    let c = text-back role (truth_word e ++ 32 ∷ text_field label) hr in
    let d = start-back e label hl in
    rw (a, b, c, d) refl

-- ---- nothing refuses it

not-long : (t : List ℕ) → length t ≤ 64 → is_long t ≡ false
not-long t h = grind (arith, nat_tests)

good-value : (v : Value) → IsSoundValue v → is_bad_value (plain_value v) ≡ false
unfolding IsSoundValue is_bad_value plain_value
good-value (values.Reads r) h = rw h.within refl
good-value (values.Switch s) h =
    let position = h.position in
    let few = h.few in
    let a : (length s.names.items == 0) ≡ false = grind (arith, nat_tests, position) in
    let b : nat_lt 16 (length s.names.items) ≡ false = grind (arith, nat_tests, few) in
    let c : nat_le (length s.names.items) s.position ≡ false = grind (arith, nat_tests, position) in
    rw (a, b, c) refl
good-value _ h = refl

good-flags : (v : Value) → IsSoundValue v → has_other_flags (flags_in v) (plain_value v) ≡ false
unfolding IsSoundValue flags_in plain_value
good-flags (values.Switch s) h =
    let both = h.both in
    let same : (length s.enableds.items == length s.names.items) ≡ true = grind (arith, nat_tests, both) in
    rw same refl
good-flags _ h = refl

pub record Fitting (tree : List Object) (o : Object) : Type 0 where
  few : length tree < 4096
  number : 4096 ≤ o.ono.0
  free : object_of tree o.ono.0 ≡ None
  block : is_block (places tree) o.container.0 ≡ true
  shallow : depth (places tree) o.container.0 < 8

taken-by : (tree : List Object) (o : Object) → Fitting tree o → IsNamed o → IsSound o
    → refusal tree o.container.0 o.ono.0 o.role false (plain_value o.value) ≡ None
unfolding refusal
taken-by tree o h named sound =
    let few = h.few in
    let number = h.number in
    let shallow = h.shallow in
    let some = named.some in
    let a : nat_le 4096 (length tree) ≡ false = grind (arith, nat_tests, few) in
    let b : nat_lt o.ono.0 4096 ≡ false = grind (arith, nat_tests, number) in
    let c : is_some (object_of tree o.ono.0) ≡ false = rw h.free refl in
    let e : nat_lt 8 (depth (places tree) o.container.0 + 1) ≡ false = grind (arith, nat_tests, shallow) in
    let f : (length o.role == 0) ≡ false = grind (arith, nat_tests, some) in
    let g = not-long o.role named.role.short in
    let i = good-value o.value sound.value in
    rw (a, b, c, h.block, e, f, g, i) refl

start-taken : (o : Object) → IsNamed o → IsSound o → start_refusal (plain_value o.value) o.label (flags_in o.value) ≡ None
start-taken o named sound = let a = not-long o.label named.label.short in let b = good-flags o.value sound.value in rw (a, b) refl

-- ---- the line of an object

ending_of : Object → Ending
ending_of o = record { lockable = o.lockable; role = o.role; enabled = o.enabled; label = o.label }

kept : (tree : List Object) (o : Object) → Fitting tree o → IsNamed o → IsSound o
    → stored_with tree o.container.0 o.ono.0 (reading_of o.value (tail_of o.lockable o.role o.enabled o.label)) ≡ Ok (tree ++ unlocked o ∷ [])
unfolding stored_with reading_of
kept tree o h named sound =
    let ends = ending-back o.lockable o.role o.enabled o.label named.role named.label in
    let a = taken-by tree o h named sound in
    let b = start-taken o named sound in
    let v = flagged o.value in
    rw (ends, a, b, v) refl

abbrev placed_as : ℕ → ℕ → Class → Option (List ℕ) → Result Placed ObjectFault
placed_as ono container k rest = Ok (record { ono = ono; container = container; class_read = k; rest = rest })

then-last : {B : Type 0} (f : Result Taken ObjectFault) (ono container : ℕ) (g : ℕ → ℕ → Flagged → Result B ObjectFault)
    → then_by (then_by f (λ c. then_by (some_or_fault fault.Class (class_of_word c.0)) (λ k. placed_as ono container k c.1)))
    (λ p. then_by (flagged_at p.class_read p.rest) (g p.container p.ono))
    ≡ then_by (then_by f (λ c. then_by (some_or_fault fault.Class (class_of_word c.0)) (λ k. flagged_at k c.1))) (g container ono)
then-last (Err e) ono container g = refl
then-last (Ok c) ono container g = by (class_of_word c.0)
  where
    by : (o : Option Class) → then_by (then_by (some_or_fault fault.Class o) (λ k. placed_as ono container k c.1)) (λ p. then_by (flagged_at p.class_read p.rest) (g p.container p.ono))
        ≡ then_by (then_by (some_or_fault fault.Class o) (λ k. flagged_at k c.1)) (g container ono)
    by None = refl
    by (Some k) = refl

inside : Object → List ℕ
inside o = decimal o.ono.0 ++ 32 ∷ (decimal o.container.0 ++ 32 ∷ (fields_of o.value ++ 32 ∷ tail_of o.lockable o.role o.enabled o.label))

stored-back : (tree : List Object) (o : Object) → Fitting tree o → IsNamed o → IsSound o → stored_by tree (inside o) ≡ Ok (tree ++ unlocked o ∷ [])
unfolding stored_by placed_at ono_at inside read_value
stored-back tree o h named sound =
    let tail = tail_of o.lockable o.role o.enabled o.label in
    let behind_container = fields_of o.value ++ 32 ∷ tail in
    let ono = named.ono in
    let container = named.container in
    let a = field-word (decimal o.ono.0) (decimal o.container.0 ++ 32 ∷ behind_container) (word-decimal o.ono.0 (omega arith)) in
    let b = ono-decimal o.ono.0 ono in
    let c = field-word (decimal o.container.0) behind_container (word-decimal o.container.0 (omega arith)) in
    let d = ono-decimal o.container.0 container in
    let e = value-back o.value tail sound.value named.names in
    rw (a, b, c, d)
    (then-last (field_at (Some behind_container)) o.ono.0 o.container.0 (stored_with tree)
    ∙ ap (λ (r : Result Flagged ObjectFault). then_by r (λ reading. stored_with tree o.container.0 o.ono.0 reading)) e
    ∙ kept tree o h named sound)

short-label : (label : List ℕ) → length label ≤ 64 → kept_label label ≡ label
short-label label h = let a = not-long label h in rw a refl

grouped : (a b c d e x : List ℕ) → (((a ++ 32 ∷ b) ++ 32 ∷ []) ++ c) ++ 32 ∷ ((d ++ 32 ∷ e) ++ 32 ∷ x)
    ≡ a ++ 32 ∷ (b ++ 32 ∷ (c ++ 32 ∷ (d ++ 32 ∷ (e ++ 32 ∷ x))))
grouped a b c d e x =
    let t : List ℕ = (d ++ 32 ∷ e) ++ 32 ∷ x in
    append_assoc ((a ++ 32 ∷ b) ++ 32 ∷ []) c (32 ∷ t) ∙ append_assoc (a ++ 32 ∷ b) (32 ∷ []) (c ++ 32 ∷ t) ∙ append_assoc a (32 ∷ b) (32 ∷ (c ++ 32 ∷ t))
    ∙ ap (λ (l : List ℕ). a ++ 32 ∷ (b ++ 32 ∷ (c ++ 32 ∷ l))) (append_assoc d (32 ∷ e) (32 ∷ x))

regrouped : (o : Object) → IsNamed o → object_line o ≡ codes "object " ++ inside o
unfolding inside tail_of
regrouped o named =
    let l = short-label o.label named.label.short in
    ap (λ (label : List ℕ). (place_fields o.ono.0 o.container.0 ++ fields_of o.value) ++ (((32 ∷ lock_word o.lockable) ++ (32 ∷ text_field o.role)) ++ 32 ∷ (truth_word o.enabled ++ 32 ∷ text_field label))) l
    ∙ ap (λ (x : List ℕ). codes "object " ++ x)
    (grouped (decimal o.ono.0) (decimal o.container.0) (fields_of o.value) (lock_word o.lockable) (text_field o.role) (truth_word o.enabled ++ 32 ∷ text_field o.label))

lock-shown : (l : Bool) → has_control (lock_word l) ≡ false
lock-shown true = refl
lock-shown false = refl

truth-shown : (e : Bool) → has_control (truth_word e) ≡ false
truth-shown true = refl
truth-shown false = refl

two-shown : (a b : List ℕ) → has_control a ≡ false → has_control b ≡ false → has_control (a ++ 32 ∷ b) ≡ false
two-shown a b h k = shown-append a (32 ∷ b) h k

start-shown : (e : Bool) (label : List ℕ) → IsShortText label → has_control (truth_word e ++ 32 ∷ text_field label) ≡ false
start-shown e label h = two-shown (truth_word e) (text_field label) (truth-shown e) (text-shown label h)

inside-shown : (o : Object) → IsNamed o → IsSound o → has_control (inside o) ≡ false
unfolding inside tail_of
inside-shown o named sound =
    let ono = named.ono in
    let container = named.container in
    two-shown (decimal o.ono.0) _ (word-shown (decimal o.ono.0) (word-decimal o.ono.0 (omega arith)))
    (two-shown (decimal o.container.0) _ (word-shown (decimal o.container.0) (word-decimal o.container.0 (omega arith)))
    (two-shown (fields_of o.value) _ (value-shown o.value sound.value named.names)
    (two-shown (lock_word o.lockable) _ (lock-shown o.lockable)
    (two-shown (text_field o.role) _ (text-shown o.role named.role) (start-shown o.enabled o.label named.label)))))

same-line : (tree : List Object) (o : Object) → Fitting tree o → IsNamed o → IsSound o → after_line tree (codes "object " ++ inside o) ≡ Ok (tree ++ unlocked o ∷ [])
unfolding after_line
same-line tree o h named sound = let shown = inside-shown o named sound in rw shown (stored-back tree o h named sound)

-- THE LINE OF AN OBJECT IS READ BACK AS THE OBJECT, but for its lock.
pub line-back : (tree : List Object) (o : Object) → Fitting tree o → IsNamed o → IsSound o → after_line tree (object_line o) ≡ Ok (tree ++ unlocked o ∷ [])
line-back tree o h named sound = ap (after_line tree) (regrouped o named) ∙ same-line tree o h named sound

line-free : (o : Object) → IsNamed o → IsSound o → Free 10 (object_line o)
line-free o named sound = subst (Free 10) (sym (regrouped o named)) (shown-free (codes "object " ++ inside o) (inside-shown o named sound))

-- ---- further lines

sound-at : (front back : List Object) (o : Object) → All IsSound (front ++ o ∷ back) → IsSound o
sound-at [] back o h = All-head IsSound o back h
sound-at (x ∷ xs) back o h = sound-at xs back o (All-tail IsSound x (xs ++ o ∷ back) h)

unlocked-places : (tree : List Object) → places (all_unlocked tree) ≡ places tree
unlocked-places [] = refl
unlocked-places (o ∷ os) = ap (λ ps. place_of o ∷ ps) (unlocked-places os)

unlocked-length : (tree : List Object) → length (all_unlocked tree) ≡ length tree
unlocked-length [] = refl
unlocked-length (o ∷ os) = ap suc (unlocked-length os)

unlocked-append : (xs ys : List Object) → all_unlocked (xs ++ ys) ≡ all_unlocked xs ++ all_unlocked ys
unlocked-append [] ys = refl
unlocked-append (x ∷ xs) ys = ap (λ os. unlocked x ∷ os) (unlocked-append xs ys)

fitting : (front back : List Object) (o : Object) → 0 < length front → IsTree (front ++ o ∷ back) → Fitting (all_unlocked front) o
fitting front back o some h = by (free-in front back o h.built)
  where
    ps : places (all_unlocked front) ≡ places front
    ps = unlocked-places front

    by : (length front ≡ 0) ⊎ IsFree (places front) (place_of o) → Fitting (all_unlocked front) o
    by (inl e) = absurd (omega arith)
    by (inr free) = record {
      few = omega (arith, h.few, length-append front (o ∷ back), unlocked-length front);
      number = free.number;
      free = none-before (all_unlocked front) o.ono.0 (ap (λ (qs : List Place). place_at qs o.ono.0) ps ∙ free.untaken);
      block = ap (λ (qs : List Place). is_block qs o.container.0) ps ∙ free.container;
      shallow = subst (λ (qs : List Place). depth qs o.container.0 < 8) (sym ps) free.shallow;
    }

-- the root alone is in no container
zero-absent : (ps : List Place) → IsBuilt ps → is_block ps 0 ≡ false
zero-absent _ trees.root = refl
zero-absent _ (trees.next ps p built free) = pushed ps (zero-absent ps built)
  where
    big : 4096 ≤ p.number
    big = free.number

    other : (p.number == 0) ≡ false
    other = grind (arith, nat_tests, big)

    pushed : (qs : List Place) → is_block qs 0 ≡ false → is_block (qs ++ p ∷ []) 0 ≡ false
    pushed [] e = rw other refl
    pushed (q ∷ qs) e = by (q.number == 0) e (pushed qs)
      where
        by : (t : Bool) → option_map_or (λ x. x.block) (cond t (Some q) (place_at qs 0)) false ≡ false → (is_block qs 0 ≡ false → is_block (qs ++ p ∷ []) 0 ≡ false)
            → option_map_or (λ x. x.block) (cond t (Some q) (place_at (qs ++ p ∷ []) 0)) false ≡ false
        by true e more = e
        by false e more = more e

-- what is in front has no object of the number 0 either
block-front : (xs ys : List Place) (n : ℕ) → is_block xs n ≡ true → is_block (xs ++ ys) n ≡ true
block-front [] ys n e = absurd (cc)
block-front (x ∷ xs) ys n e = by (x.number == n) e (block-front xs ys n)
  where
    by : (t : Bool) → option_map_or (λ p. p.block) (cond t (Some x) (place_at xs n)) false ≡ true → (is_block xs n ≡ true → is_block (xs ++ ys) n ≡ true)
        → option_map_or (λ p. p.block) (cond t (Some x) (place_at (xs ++ ys) n)) false ≡ true
    by true e more = e
    by false e more = more e

places-append : (xs ys : List Object) → places (xs ++ ys) ≡ places xs ++ places ys
places-append [] ys = refl
places-append (x ∷ xs) ys = ap (λ ps. place_of x ∷ ps) (places-append xs ys)

contained : (front back : List Object) (o : Object) → 0 < length front → IsTree (front ++ o ∷ back) → (o.container.0 == 0) ≡ false
contained front back o some h = by (o.container.0 == 0) refl
  where
    block : is_block (places front) o.container.0 ≡ true
    block = ap (λ (qs : List Place). is_block qs o.container.0) (sym (unlocked-places front)) ∙ (fitting front back o some h).block

    by : (t : Bool) → (o.container.0 == 0) ≡ t → (o.container.0 == 0) ≡ false
    by false e = e
    by true e =
        let z : o.container.0 ≡ 0 = eqb-true o.container.0 0 e in
        let there : is_block (places front) 0 ≡ true = ap (λ (n : ℕ). is_block (places front) n) (sym z) ∙ block in
        let all : is_block (places (front ++ o ∷ back)) 0 ≡ true =
        ap (λ (qs : List Place). is_block qs 0) (places-append front (o ∷ back)) ∙ block-front (places front) (places (o ∷ back)) 0 there in
        let none = zero-absent (places (front ++ o ∷ back)) h.built in
        absurd (cc)

at-line : (text rest : List ℕ) → Free 10 text → split_on 10 ((text ++ 10 ∷ []) ++ rest) ≡ text ∷ split_on 10 rest
at-line text rest free =
    split-more 10 ((text ++ 10 ∷ []) ++ rest) text rest (ap (split_at 10) (append_assoc text (10 ∷ []) rest) ∙ free-after 10 text rest free)

line-is : (o : Object) → (o.container.0 == 0) ≡ false → line_of o ≡ object_line o ++ 10 ∷ []
line-is o e = ap (λ (b : Bool). cond b (root_line o) (object_line o) ++ 10 ∷ []) e

skipped : (tree : List Object) (n : ℕ) → after_lines n tree ([] ∷ []) ≡ Ok tree
unfolding after_line
skipped tree n = refl

pub lines-back : (n : ℕ) (front os : List Object) → 0 < length front → IsTree (front ++ os) → All IsNamed os
    → after_lines n (all_unlocked front) (split_on 10 (flat_map line_of os)) ≡ Ok (all_unlocked (front ++ os))
lines-back n front [] some h named = skipped (all_unlocked front) n ∙ ap (λ (l : List Object). Ok (all_unlocked l)) (sym (append-nil front))
lines-back n front (o ∷ os) some h named =
    let is = All-head IsNamed o os named in
    let sound = sound-at front os o h.objects in
    let rest = flat_map line_of os in
    let text : flat_map line_of (o ∷ os) ≡ (object_line o ++ 10 ∷ []) ++ rest = ap (λ (l : List ℕ). l ++ rest) (line-is o (contained front os o some h)) in
    let parts = ap (split_on 10) text ∙ at-line (object_line o) rest (line-free o is sound) in
    let one = line-back (all_unlocked front) o (fitting front os o some h) is sound in
    let next : all_unlocked front ++ unlocked o ∷ [] ≡ all_unlocked (front ++ o ∷ []) = sym (unlocked-append front (o ∷ [])) in
    let regroup : (front ++ o ∷ []) ++ os ≡ front ++ o ∷ os = append_assoc front (o ∷ []) os in
    ap (after_lines n (all_unlocked front)) parts
    ∙ ap (λ (r : Result (List Object) ObjectFault). go_on r n (λ t. after_lines (n + 1) t (split_on 10 rest))) (one ∙ ap Ok next)
    ∙ lines-back (n + 1) (front ++ o ∷ []) os (omega (arith, some, length-append front (o ∷ []))) (subst IsTree (sym regroup) h) (All-tail IsNamed o os named)
    ∙ ap (λ (l : List Object). Ok (all_unlocked l)) regroup

-- ---- the root

built-root : (ps : List Place) → IsBuilt ps → (qs : List Place) × (ps ≡ record { number = 100; container = 0; block = true } ∷ qs)
built-root _ trees.root = ([], refl)
built-root _ (trees.next ps p built free) = let h = built-root ps built in (h.0 ++ p ∷ [], ap (λ (l : List Place). l ++ p ∷ []) h.1)

block-value : (v : Value) → is_block_value v ≡ true → v ≡ values.Block
block-value values.Block e = refl
block-value _ e = absurd (cc)

record StandsFirst (o : Object) : Type 0 where
  number : o.ono.0 ≡ 100
  container : o.container.0 ≡ 0
  value : o.value ≡ values.Block

first : (o : Object) (os : List Object) → IsBuilt (places (o ∷ os)) → StandsFirst o
first o os built =
    let h = built-root (places (o ∷ os)) built in
    let at : place_of o ≡ record { number = 100; container = 0; block = true } = cc (h.1) in
    record {
      number = ap (λ (p : Place). p.number) at;
      container = ap (λ (p : Place). p.container) at;
      value = block-value o.value (ap (λ (p : Place). p.block) at);
    }

first-text : Object → List ℕ
first-text o = codes "root " ++ (truth_word o.enabled ++ 32 ∷ text_field o.label)

root-is : (o : Object) → o.container.0 ≡ 0 → IsNamed o → line_of o ≡ first-text o ++ 10 ∷ []
unfolding first-text
root-is o zero named =
    let e : (o.container.0 == 0) ≡ true = eq-eqb o.container.0 0 zero in
    let l = short-label o.label named.label.short in
    ap (λ (b : Bool). cond b (root_line o) (object_line o) ++ 10 ∷ []) e
    ∙ ap (λ (label : List ℕ). (codes "root " ++ (truth_word o.enabled ++ 32 ∷ text_field label)) ++ 10 ∷ []) l

made-root : (o : Object) → StandsFirst o → o.role ≡ codes "root" → o.lockable ≡ true → record root { label = o.label; enabled = o.enabled } ≡ unlocked o
made-root o h role lockable =
    ap (λ (n : ℕ). let x : Object = record root { ono = record { 0 = n }; label = o.label; enabled = o.enabled } in x) (sym h.number)
    ∙ ap (λ (n : ℕ). let x : Object = record root { ono = o.ono; container = record { 0 = n }; label = o.label; enabled = o.enabled } in x) (sym h.container)
    ∙ ap (λ (v : Value). let x : Object = record root { ono = o.ono; container = o.container; value = v; label = o.label; enabled = o.enabled } in x) (sym h.value)
    ∙ ap (λ (r : List ℕ). let x : Object = record root { ono = o.ono; container = o.container; value = o.value; role = r; label = o.label; enabled = o.enabled } in x) (sym role)
    ∙ ap (λ (b : Bool). let x : Object = record root { ono = o.ono; container = o.container; value = o.value; role = o.role; lockable = b; label = o.label; enabled = o.enabled } in x) (sym lockable)

rooted-back : (o : Object) → StandsFirst o → o.role ≡ codes "root" → o.lockable ≡ true → IsNamed o
    → rooted_by (truth_word o.enabled ++ 32 ∷ text_field o.label) ≡ Ok (unlocked o ∷ [])
unfolding rooted_by rooted
rooted-back o h role lockable named =
    let shown = start-shown o.enabled o.label named.label in
    let start = start-back o.enabled o.label named.label in
    let is = made-root o h role lockable in
    rw (shown, start) (ap (λ (x : Object). Ok (x ∷ [])) is)

first-free : (o : Object) → IsNamed o → Free 10 (first-text o)
unfolding first-text
first-free o named = shown-free (codes "root " ++ (truth_word o.enabled ++ 32 ∷ text_field o.label)) (start-shown o.enabled o.label named.label)

behind-root : (o : Object) → after_word (codes "root") (first-text o) ≡ Some (truth_word o.enabled ++ 32 ∷ text_field o.label)
unfolding first-text
behind-root o = refl

-- A TREE THAT IS WRITTEN AS A TEXT IS READ BACK.
pub tree-back : (tree : List Object) → IsTree tree → IsReadBack tree
unfolding objects_of_text text_of
tree-back [] h rooted named = absurd (omega (arith, ap length (built-root [] h.built).1))
tree-back (o ∷ os) h rooted named =
    let is = All-head IsNamed o os named in
    let stands = first o os h.built in
    let rest = flat_map line_of os in
    let text : flat_map line_of (o ∷ os) ≡ first-text o ++ 10 ∷ rest = ap (λ (l : List ℕ). l ++ rest) (root-is o stands.container is) ∙ append_assoc (first-text o) (10 ∷ []) rest in
    let found : split_at 10 (first-text o ++ 10 ∷ rest) ≡ Some (first-text o, rest) = free-after 10 (first-text o) rest (first-free o is) in
    ap objects_of_text text ∙ whole o os rest found (behind-root o) (rooted-back o stands rooted.0 rooted.1 is) (lines-back 2 (o ∷ []) os (omega arith) h (All-tail IsNamed o os named))
  where
    whole : (o : Object) (os : List Object) (rest : List ℕ) → split_at 10 (first-text o ++ 10 ∷ rest) ≡ Some (first-text o, rest)
        → after_word (codes "root") (first-text o) ≡ Some (truth_word o.enabled ++ 32 ∷ text_field o.label)
        → rooted_by (truth_word o.enabled ++ 32 ∷ text_field o.label) ≡ Ok (unlocked o ∷ [])
        → after_lines 2 (unlocked o ∷ []) (split_on 10 rest) ≡ Ok (all_unlocked (o ∷ os))
        → objects_of_text (first-text o ++ 10 ∷ rest) ≡ Ok (all_unlocked (o ∷ os))
    whole o os rest found word root lines =
        ap (λ (p : Option (List ℕ × List ℕ)). from_root (after_word (codes "root") (line_before p (first-text o ++ 10 ∷ rest))) (first-text o ++ 10 ∷ rest)) found
        ∙ ap (λ (x : Option (List ℕ)). from_root x (first-text o ++ 10 ∷ rest)) word
        ∙ ap (λ (p : Option (List ℕ × List ℕ)). go_on (rooted_by (truth_word o.enabled ++ 32 ∷ text_field o.label)) 1 (λ tree. after_lines 2 tree (lines_behind p))) found
        ∙ ap (λ (r : Result (List Object) ObjectFault). go_on r 1 (λ tree. after_lines 2 tree (split_on 10 rest))) root
        ∙ lines
