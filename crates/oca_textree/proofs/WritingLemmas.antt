-- Lines that are printed one after another.
use Rattle.std.proofs.Common.{◌≡◌, ℕ, ◌+◌, List, [], ◌∷◌, ◌++◌, take, drop, Some, None, Result, Err, refl, sym, ap, ◌∙◌, append_assoc, append-nil, subst}
use Rattle.std.proofs.lemmas.List.{take-append-drop, take_more}
use Rattle.std.proofs.lemmas.Option.{slice_get_within, get_or_from_slice_get}
use Rattle.std.proofs.lemmas.Grind.{flat_map-append}
use Rattle.std.specs.Prelude.{slice_get, Option}
use Rattle.std.specs.Option.{option_map}
use Rattle.std.specs.List.{flat_map}
use Rattle.oca_tree.specs.declared.object.Object.{Object}
use Rattle.oca_tree.specs.declared.tree.ObjectInfo.{ObjectInfo}
use Rattle.oca_tree.specs.Objects.{object_of}
use Rattle.oca_tree.specs.Readers.{info_of}
use Rattle.oca_tree.specs.Trees.{IsTree}
use Rattle.oca_script.specs.declared.fault.WriteFailed.{WriteFailed}
use Rattle.oca_script.specs.Ends.{Output, output}
use Rattle.oca_script.specs.Printing.{Prints, PrintsAll, PrintsPart}
use Rattle.oca_script.proofs.PrintLemmas.{PrintsAll-then, PrintsPart-then, prints-less}
use Rattle.oca_textree.specs.Written.{line_of}
use Rattle.oca_textree.specs.PrivateWritten.{tree_line_text}
use Rattle.oca_textree.proofs.Standing.{itself-in}

lines-more : (f : Object → List ℕ) (xs : List Object) (i : ℕ) (x : Object) → slice_get xs i ≡ Some x
    → flat_map f (take (i + 1) xs) ≡ flat_map f (take i xs) ++ f x
lines-more f xs i x e =
    ap (flat_map f) (take_more xs i x (slice_get_within xs i x e) ∙ ap (λ (y : Object). take i xs ++ y ∷ []) (get_or_from_slice_get xs i x x e))
    ∙ flat_map-append f (take i xs) (x ∷ []) ∙ ap (λ (l : List ℕ). flat_map f (take i xs) ++ l) (append-nil (f x))

-- ---- the line that is written is the object's

parted : (xs : List Object) (i : ℕ) (x : Object) → slice_get xs i ≡ Some x → xs ≡ take i xs ++ x ∷ drop (i + 1) xs
parted xs i x e =
    sym (take-append-drop (i + 1) xs)
    ∙ ap (λ (l : List Object). l ++ drop (i + 1) xs) (take_more xs i x (slice_get_within xs i x e) ∙ ap (λ (y : Object). take i xs ++ y ∷ []) (get_or_from_slice_get xs i x x e))
    ∙ append_assoc (take i xs) (x ∷ []) (drop (i + 1) xs)

found : (xs : List Object) → IsTree xs → (i : ℕ) (x : Object) → slice_get xs i ≡ Some x → object_of xs x.ono.0 ≡ Some x
found xs h i x e =
    let p = parted xs i x e in
    ap (λ (l : List Object). object_of l x.ono.0) p ∙ itself-in (take i xs) (drop (i + 1) xs) x (subst IsTree p h)

line-written : (xs : List Object) → IsTree xs → (i : ℕ) (x : Object) → slice_get xs i ≡ Some x → tree_line_text xs (info_of x) ≡ line_of x
line-written xs h i x e = let f = found xs h i x e in rw f refl

-- ---- in the loop

some-object : (o : Option Object) (info : ObjectInfo) → option_map info_of o ≡ Some info → (x : Object) × (o ≡ Some x) × (info ≡ info_of x)
some-object None info e = absurd (cc)
some-object (Some x) info e = (x, refl, cc)

-- with the line of the next object, so many more lines are printed
pub line-more : (xs : List Object) → IsTree xs → (i : ℕ) (info : ObjectInfo) → Some info ≡ option_map info_of (slice_get xs i) → (a b c : Output)
    → PrintsAll a b (flat_map line_of (take i xs)) → PrintsAll b c (tree_line_text xs info) → PrintsAll a c (flat_map line_of (take (i + 1) xs))
line-more xs h i info e a b c done one =
    let x = some-object (slice_get xs i) info (sym e) in
    let same : tree_line_text xs info ≡ line_of x.0 = ap (tree_line_text xs) x.2 ∙ line-written xs h i x.0 x.1 in
    let one' : PrintsAll b c (line_of x.0) = subst (PrintsAll b c) same one in
    rw (lines-more line_of xs i x.0 x.1) (PrintsAll-then a b c (flat_map line_of (take i xs)) (line_of x.0) done one')

-- where the line of an object is not printed whole, nor is the tree
pub line-less : (xs : List Object) → IsTree xs → (i : ℕ) (info : ObjectInfo) → Some info ≡ option_map info_of (slice_get xs i) → (a b c : Output)
    → (r : Result Unit WriteFailed) (f : WriteFailed) → r ≡ Err f
    → PrintsAll a b (flat_map line_of (take i xs)) → PrintsPart b c (tree_line_text xs info) → Prints r a c (flat_map line_of xs)
line-less xs h i info e a b c r f is done one =
    let x = some-object (slice_get xs i) info (sym e) in
    let same : tree_line_text xs info ≡ line_of x.0 = ap (tree_line_text xs) x.2 ∙ line-written xs h i x.0 x.1 in
    let one' : PrintsPart b c (line_of x.0) = subst (PrintsPart b c) same one in
    let all : flat_map line_of xs ≡ (flat_map line_of (take i xs) ++ line_of x.0) ++ flat_map line_of (drop (i + 1) xs) =
    ap (flat_map line_of) (sym (take-append-drop (i + 1) xs)) ∙ flat_map-append line_of (take (i + 1) xs) (drop (i + 1) xs)
    ∙ ap (λ (l : List ℕ). l ++ flat_map line_of (drop (i + 1) xs)) (lines-more line_of xs i x.0 x.1) in
    rw all (prints-less r f a c (flat_map line_of (take i xs) ++ line_of x.0) (flat_map line_of (drop (i + 1) xs)) is
    (PrintsPart-then a b c (flat_map line_of (take i xs)) (line_of x.0) done one'))

-- ---- one text is held behind another

-- two texts that are held one after the other
pub held-two : (a b c : Output) (x y : List ℕ) → b ≡ output a.contents (a.held ++ x) a.failed → c ≡ output b.contents (b.held ++ y) b.failed
    → c ≡ output a.contents (a.held ++ (x ++ y)) a.failed
held-two a b c x y p q =
    q ∙ ap (λ (o : Output). output o.contents (o.held ++ y) o.failed) p ∙ ap (λ (l : List ℕ). output a.contents l a.failed) (append_assoc a.held x y)
