-- What stands between separators, by where the first of them stands; and names, one after another.
use Rattle.std.proofs.Common.{◌≡◌, ℕ, suc, ◌+◌, Bool, ◌==◌, true, false, cond, ◌||◌, inl, inr, arith, map, List, [], ◌∷◌, ◌++◌, length, not, Option, Some, None, Result, Ok, Err, refl, sym, ap, ◌∙◌, subst}
use Rattle.std.specs.Prelude.{nat_le, nat_lt}
use Rattle.std.proofs.lemmas.Bool.{cases_lt}
use Rattle.std.proofs.lemmas.Bool.Decides.{nat_tests}
use Rattle.std.proofs.lemmas.Str.{IsUtf8-from_is_utf8}
use Rattle.std.specs.List.{position, prefix_len, list_any}
use denote.Ref.{Bor}
use Rattle.std.specs.Option.{option_map}
use Rattle.std.specs.Str.{is_utf8, IsUtf8, bytes_eq}
use Rattle.oca_script.specs.Fields.{split_at, split_on, onto_first}
use Rattle.oca_script.specs.declared.object_fault.ObjectFault.{ObjectFault}
use Rattle.oca_script.specs.declared.object_fault.ObjectFault.TheVariants as fault
use Rattle.oca_tree.specs.declared.object.Object.{Object}
use Rattle.oca_tree.specs.Objects.{Store}
use Rattle.oca_textree.specs.declared.fault.TreeFault.{TreeFault}
use Rattle.oca_textree.specs.declared.fault.TreeFault.TheVariants.{Line, NoMemory}
use Rattle.oca_textree.specs.Lines.{names_by, position_named, some_or_fault, then_by}
use Rattle.oca_textree.specs.Stored.{after_line}
use Rattle.oca_textree.specs.Texts.{after_lines, go_on}
use Rattle.oca_textree.specs.PrivateLines.{IsReadAs, IsReadSoFar, names_view}

abbrev pub cut : ℕ → List ℕ → Option (List ℕ × List ℕ) → List (List ℕ)
cut sep s None = s ∷ []
cut sep s (Some p) = p.0 ∷ split_on sep p.1

split_on-by : (sep : ℕ) (s : List ℕ) → split_on sep s ≡ cut sep s (split_at sep s)
split_on-by sep [] = refl
split_on-by sep (b ∷ bs) =
    elim (b == sep) as (λ v. cond v ([] ∷ split_on sep bs) (onto_first b (split_on sep bs))
    ≡ cut sep (b ∷ bs) (cond v (Some ([], bs)) (option_map (λ p. (b ∷ p.0, p.1)) (split_at sep bs)))) [
      | true ↦ refl
      | false ↦ ap (onto_first b) (split_on-by sep bs) ∙ joined (split_at sep bs)
    ]
  where
    joined : (r : Option (List ℕ × List ℕ)) → onto_first b (cut sep bs r) ≡ cut sep (b ∷ bs) (option_map (λ p. (b ∷ p.0, p.1)) r)
    joined None = refl
    joined (Some p) = refl

-- without a separator there is one part
pub split-one : (sep : ℕ) (s : List ℕ) → split_at sep s ≡ None → split_on sep s ≡ s ∷ []
split-one sep s e = split_on-by sep s ∙ ap (cut sep s) e

-- the first part, and those behind its separator
pub split-more : (sep : ℕ) (s front rest : List ℕ) → split_at sep s ≡ Some (front, rest) → split_on sep s ≡ front ∷ split_on sep rest
split-more sep s front rest e = split_on-by sep s ∙ ap (cut sep s) e

-- bytes that are not UTF-8 do not pass the test
pub not-utf8 : (bs : List ℕ) → (IsUtf8 bs → ⊥) → is_utf8 bs ≡ false
not-utf8 bs refused = by_test (is_utf8 bs) refl
  where
    by_test : (b : Bool) → is_utf8 bs ≡ b → b ≡ false
    by_test true h = absurd (refused (IsUtf8-from_is_utf8 bs h))
    by_test false h = refl

-- where a name stands first
step : (p l : ℕ) → cond (nat_lt (1 + p) (suc l)) (Some (1 + p)) None ≡ option_map (λ n. 1 + n) (cond (nat_lt p l) (Some p) None)
step p l = elim (cases_lt p l) [
  | inl h ↦ let a : nat_lt p l ≡ true = grind (arith, nat_tests) in let b : nat_lt (1 + p) (suc l) ≡ true = grind (arith, nat_tests) in rw (a, b) refl
  | inr h ↦ let a : nat_lt p l ≡ false = grind (arith, nat_tests) in let b : nat_lt (1 + p) (suc l) ≡ false = grind (arith, nat_tests) in rw (a, b) refl
]

-- the first name that is the same stands at its position
pub place-position : (name : List ℕ) (xs : List (Bor (List ℕ))) → position (λ x. bytes_eq x.now name) xs ≡ position_named name (map (λ x. x.now) xs)
place-position name [] = refl
place-position name (x ∷ xs) = by_test (bytes_eq x.now name) ∙ ap (λ (r : Option ℕ). cond (bytes_eq x.now name) (Some 0) (option_map (λ n. 1 + n) r)) (place-position name xs)
  where
    by_test : (t : Bool) → cond (nat_lt (cond (not t) (1 + prefix_len (λ x. not (bytes_eq x.now name)) xs) 0) (suc (length xs)))
        (Some (cond (not t) (1 + prefix_len (λ x. not (bytes_eq x.now name)) xs) 0)) None
        ≡ cond t (Some 0) (option_map (λ n. 1 + n) (position (λ x. bytes_eq x.now name) xs))
    by_test true = let a : nat_lt 0 (suc (length xs)) ≡ true = grind (arith, nat_tests) in rw a refl
    by_test false = step (prefix_len (λ x. not (bytes_eq x.now name)) xs) (length xs)

-- ---- names, one after another

-- one name, and then further ones
abbrev pub go_on_with : (List ℕ → Option (List ℕ)) → Result (List (List ℕ)) ObjectFault → List (List ℕ) → Result (List (List ℕ)) ObjectFault
go_on_with reads (Ok names) more = names_by reads names more
go_on_with reads (Err f) more = Err f

names-more : (reads : List ℕ → Option (List ℕ)) (names : List (List ℕ)) (n : List ℕ) (more : List (List ℕ))
    → names_by reads names (n ∷ more) ≡ go_on_with reads (names_by reads names (n ∷ [])) more
names-more reads names n more = by_reading (reads n)
  where
    by_reading : (o : Option (List ℕ))
        → then_by (some_or_fault fault.Text o) (λ t. cond (nat_le 16 (length names)) (Err fault.Range) (names_by reads (names ++ t ∷ []) more))
        ≡ go_on_with reads (then_by (some_or_fault fault.Text o) (λ t. cond (nat_le 16 (length names)) (Err fault.Range) (Ok (names ++ t ∷ [])))) more
    by_reading None = refl
    by_reading (Some t) = by_test (nat_le 16 (length names))
      where
        by_test : (b : Bool) → cond b (Err fault.Range) (names_by reads (names ++ t ∷ []) more) ≡ go_on_with reads (cond b (Err fault.Range) (Ok (names ++ t ∷ []))) more
        by_test true = refl
        by_test false = refl

-- a fault of one name is that of all
pub names-failed : (reads : List ℕ → Option (List ℕ)) (reading : Result (List (List ℕ)) ObjectFault) (ns : List (List ℕ)) (rest front after : List ℕ) (f : ObjectFault)
    → reading ≡ names_by reads ns (split_on 44 rest) → Some (front, after) ≡ split_at 44 rest
    → Err f ≡ names_by reads ns (front ∷ []) → Err f ≡ reading
names-failed reads reading ns rest front after f so found e =
    sym (so ∙ ap (names_by reads ns) (split-more 44 rest front after (sym found)) ∙ names-more reads ns front (split_on 44 after)
    ∙ ap (λ (r : Result (List (List ℕ)) ObjectFault). go_on_with reads r (split_on 44 after)) (sym e))

-- a fault of the names is returned as it is
pub names-err : (r : Result Unit ObjectFault) (f : ObjectFault) (names : List (List ℕ)) (x : Result (List (List ℕ)) ObjectFault)
    → r ≡ Err f → Err f ≡ x → names_view r names ≡ x
names-err r f names x is e = ap (λ (q : Result Unit ObjectFault). names_view q names) is ∙ e

-- after a name, the names that are left
pub names-on : (reads : List ℕ → Option (List ℕ)) (reading : Result (List (List ℕ)) ObjectFault) (ns more : List (List ℕ)) (rest front after : List ℕ)
    → reading ≡ names_by reads ns (split_on 44 rest) → Some (front, after) ≡ split_at 44 rest
    → Ok more ≡ names_by reads ns (front ∷ []) → reading ≡ names_by reads more (split_on 44 after)
names-on reads reading ns more rest front after so found e =
    so ∙ ap (names_by reads ns) (split-more 44 rest front after (sym found)) ∙ names-more reads ns front (split_on 44 after)
    ∙ ap (λ (r : Result (List (List ℕ)) ObjectFault). go_on_with reads r (split_on 44 after)) (sym e)

-- the last name ends them
pub names-last : (reads : List ℕ → Option (List ℕ)) (reading : Result (List (List ℕ)) ObjectFault) (ns : List (List ℕ)) (rest : List ℕ) (r : Result (List (List ℕ)) ObjectFault)
    → reading ≡ names_by reads ns (split_on 44 rest) → split_at 44 rest ≡ None
    → r ≡ names_by reads ns (rest ∷ []) → r ≡ reading
names-last reads reading ns rest r so none e = e ∙ sym (so ∙ ap (names_by reads ns) (split-one 44 rest none))

-- ---- lines, one after another

abbrev pub Flagged : Type 0
Flagged = Result (List Object) TreeFault

pub lines-failed : (reading : Flagged) (rest front after : List ℕ) (tree : List Object) (n : ℕ) (f : ObjectFault)
    → reading ≡ after_lines n tree (split_on 10 rest) → Some (front, after) ≡ split_at 10 rest → after_line tree front ≡ Err f → reading ≡ Err (Line n f)
lines-failed reading rest front after tree n f so found e =
    so ∙ ap (after_lines n tree) (split-more 10 rest front after (sym found))
    ∙ ap (λ (r : Result (List Object) ObjectFault). go_on r n (λ t. after_lines (n + 1) t (split_on 10 after))) e

-- after a line, the lines that are left
pub lines-on : (reading : Flagged) (rest front after : List ℕ) (tree next : List Object) (n : ℕ)
    → reading ≡ after_lines n tree (split_on 10 rest) → Some (front, after) ≡ split_at 10 rest
    → after_line tree front ≡ Ok next → reading ≡ after_lines (n + 1) next (split_on 10 after)
lines-on reading rest front after tree next n so found e =
    so ∙ ap (after_lines n tree) (split-more 10 rest front after (sym found))
    ∙ ap (λ (r : Result (List Object) ObjectFault). go_on r n (λ t. after_lines (n + 1) t (split_on 10 after))) e

-- the last line gives a tree, or its fault
pub last-read : (reading : Flagged) (rest : List ℕ) (old new : Store) (n : ℕ) (r : Result Unit TreeFault)
    → reading ≡ after_lines n old.list (split_on 10 rest) → split_at 10 rest ≡ None
    → IsReadSoFar r old new n (after_line old.list rest) → IsReadAs r new.list reading
last-read reading rest old new n (Ok u) so none h =
    so ∙ ap (after_lines n old.list) (split-one 10 rest none)
    ∙ ap (λ (r : Result (List Object) ObjectFault). go_on r n (λ t. after_lines (n + 1) t [])) h.0
last-read reading rest old new n (Err (Line m f)) so none h =
    so ∙ ap (after_lines n old.list) (split-one 10 rest none)
    ∙ ap (λ (r : Result (List Object) ObjectFault). go_on r n (λ t. after_lines (n + 1) t [])) h.0
    ∙ ap (λ (k : ℕ). Err (Line k f)) (sym h.1)
last-read reading rest old new n (Err NoMemory) so none h = absurd h

-- an earlier line has a fault
pub first-fault : (reading : Flagged) (rest front after : List ℕ) (old new : Store) (n : ℕ) (r : Result Unit TreeFault) (e : TreeFault)
    → r ≡ Err e → reading ≡ after_lines n old.list (split_on 10 rest) → Some (front, after) ≡ split_at 10 rest
    → IsReadSoFar (Err e) old new n (after_line old.list front) → IsReadAs r new.list reading
first-fault reading rest front after old new n r (Line m f) is so found h =
    subst (λ (x : Result Unit TreeFault). IsReadAs x new.list reading) (sym is)
    (lines-failed reading rest front after old.list n f so found h.0 ∙ ap (λ (k : ℕ). Err (Line k f)) (sym h.1))
first-fault reading rest front after old new n r NoMemory is so found h = absurd h

-- whether one of the names passes a test
pub any-map : (p : List ℕ → Bool) (xs : List (Bor (List ℕ))) → list_any p (map (λ x. x.now) xs) ≡ list_any (λ x. p x.now) xs
any-map p [] = refl
any-map p (x ∷ xs) = ap (λ (b : Bool). p x.now || b) (any-map p xs)
