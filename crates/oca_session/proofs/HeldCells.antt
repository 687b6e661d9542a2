-- What is held and its cells, and the commands that they are.
use Rattle.std.proofs.Common.{◌≡◌, ℕ, zero, suc, ◌+◌, ◌-◌, ◌<◌, ◌≤◌, ◌==◌, Bool, true, false, cond, List, [], ◌∷◌, ◌++◌, length, take, drop, get_or, slice_get, slice_set, Option, Some, None, refl, sym, ap, ◌∙◌, arith, length-append}
use Rattle.std.proofs.lemmas.Bool.Decides.{nat_tests}
use Rattle.std.proofs.lemmas.List.{length-set, get_or-set_same}
use Rattle.std.proofs.lemmas.List.Elements.{All-cons, All-push, All-tail, filter_map-append}
use Rattle.std.proofs.lemmas.List.Folds.{find-append}
use Rattle.std.proofs.lemmas.List.Quantifiers.{all_pairs_push}
use Rattle.std.proofs.lemmas.Option.{get_or_from_slice_get, slice_get-get_or, same_Some}
use Rattle.std.specs.List.{All, AllPairs, find}
use Rattle.std.specs.Option.{option_or}
use Rattle.std.specs.Prelude.{max, nat_lt, option_map}
use Rattle.oca_types.specs.Peers.{CommandFields}
use Rattle.oca_session.specs.declared.window.Held.{Held}
use Rattle.oca_session.specs.Accepted.{Entry, Judgement, Fresh, Duplicate, Reused, Old, asks_the_same, duplicate_or_reused, Retained, entry_under, higher_of, greatest}
use Rattle.oca_session.specs.Judging.{judgement_by_window, judge_entry, is_above, retained_after}
use Rattle.oca_session.specs.PrivateCells.{CellState, AreApart, AreHeld, IsCellOfOldest, entry_in, entries_of, floor_before, is_under}

-- ---- cells

there : (cs : List CellState) (i : ℕ) → i < length cs → (a : CellState) × (slice_get cs i ≡ Some a)
there [] i within = absurd (omega (arith, within))
there (a ∷ cs) zero within = (a, refl)
there (a ∷ cs) (suc i) within = there cs i (omega (arith, within))

cell_set : (cs : List CellState) (i : ℕ) (a : CellState) → i < length cs → slice_get (slice_set cs i a) i ≡ Some a
cell_set cs i a within = slice_get-get_or (slice_set cs i a) i a (rw length-set within) ∙ ap Some (get_or-set_same cs i a a within)

other_cell_set : (cs : List CellState) (i j : ℕ) (a : CellState) → j < length cs → (j == i) ≡ false → slice_get (slice_set cs i a) j ≡ slice_get cs j
other_cell_set [] i j a within other = absurd (omega (arith, within))
other_cell_set (c ∷ cs) zero zero a within other = cc
other_cell_set (c ∷ cs) zero (suc j) a within other = refl
other_cell_set (c ∷ cs) (suc i) zero a within other = refl
other_cell_set (c ∷ cs) (suc i) (suc j) a within other = other_cell_set cs i j a (omega (arith, within)) (one_less i j other)
  where
    one_less : (i j : ℕ) → (suc j == suc i) ≡ false → (j == i) ≡ false
    one_less i j other = grind (arith, nat_tests)

cell_pushed : (cs : List CellState) (a : CellState) → slice_get (cs ++ a ∷ []) (length cs) ≡ Some a
cell_pushed [] a = refl
cell_pushed (c ∷ cs) a = cell_pushed cs a

other_cell_pushed : (cs : List CellState) (j : ℕ) (a : CellState) → j < length cs → slice_get (cs ++ a ∷ []) j ≡ slice_get cs j
other_cell_pushed [] j a within = absurd (omega (arith, within))
other_cell_pushed (c ∷ cs) zero a within = refl
other_cell_pushed (c ∷ cs) (suc j) a within = other_cell_pushed cs j a (omega (arith, within))

-- ---- the commands of what is held

-- the cell of each is one of these
abbrev pub Within : List CellState → List Held → Type 0
Within cs hs = All (λ g. g.cell < length cs) hs

within_tail : (g : Held) (hs : List Held) (cs : List CellState) → Within cs (g ∷ hs) → Within cs hs
within_tail g hs cs within = All-tail (λ g. g.cell < length cs) g hs within

first_within : (g : Held) (hs : List Held) (cs : List CellState) → Within cs (g ∷ hs) → g.cell < length cs
first_within g hs cs within = within 0 g (omega arith)

length-entries : (hs : List Held) (cs : List CellState) → Within cs hs → length (entries_of hs cs) ≡ length hs
length-entries [] cs within = refl
length-entries (g ∷ hs) cs within =
    let a = there cs g.cell (first_within g hs cs within) in
    rw a.1 (ap suc (length-entries hs cs (within_tail g hs cs within)))

-- the same in the same cells
abbrev Same : List CellState → List CellState → List Held → Type 0
Same cs ds hs = All (λ g. slice_get ds g.cell ≡ slice_get cs g.cell) hs

entries_same : (hs : List Held) (cs ds : List CellState) → Same cs ds hs → entries_of hs ds ≡ entries_of hs cs
entries_same [] cs ds same = refl
entries_same (g ∷ hs) cs ds same =
    let first : slice_get ds g.cell ≡ slice_get cs g.cell = same 0 g (omega arith) in
    rw (first, entries_same hs cs ds (All-tail (λ g. slice_get ds g.cell ≡ slice_get cs g.cell) g hs same)) refl

entries_push : (hs : List Held) (n : Held) (cs ds : List CellState) (a : CellState) → Same cs ds hs → slice_get ds n.cell ≡ Some a
    → entries_of (hs ++ n ∷ []) ds ≡ entries_of hs cs ++ entry_in n.handle a ∷ []
entries_push hs n cs ds a same is =
    filter_map-append (λ (g : Held). option_map (entry_in g.handle) (slice_get ds g.cell)) hs (n ∷ [])
    ∙ rw (is, entries_same hs cs ds same) refl

-- ---- one more command

retained_by : (size k : ℕ) (es kept : List Entry) (floor new : Option ℕ) (e : Entry) → length (es ++ e ∷ []) - size ≡ k
    → kept ≡ drop k (es ++ e ∷ []) → new ≡ higher_of floor (greatest (take k (es ++ e ∷ [])))
    → record { size = size; entries = kept; floor = new } ≡ retained_after (record { size = size; entries = es; floor = floor }) e
retained_by size k es kept floor new e out entries raised =
    let all : List Entry = es ++ e ∷ [] in
    let in_window = entries ∙ ap (λ k. drop k all) (sym out) in
    let high = raised ∙ ap (λ k. higher_of floor (greatest (take k all))) (sym out) in
    ap (λ (p : List Entry × Option ℕ). the size p.0 p.1) (pair in_window high)
  where
    the : ℕ → List Entry → Option ℕ → Retained
    the size es floor = record { size = size; entries = es; floor = floor }

    pair : {X Y : Type 0} {a b : X} {c d : Y} → a ≡ b → c ≡ d → let p : X × Y = (a, c) in let q : X × Y = (b, d) in p ≡ q
    pair {X} {Y} {a} {b} {c} {d} p q = ap (λ x. (x, c)) p ∙ ap (λ y. (b, y)) q

no_higher : (floor : Option ℕ) → floor ≡ higher_of floor None
no_higher None = refl
no_higher (Some f) = refl

-- the floor rises to the handle that goes
floor_raised : (end h : ℕ) → floor_before (max end (h + 1)) ≡ higher_of (floor_before end) (Some h)
floor_raised zero h = let e : max zero (h + 1) ≡ suc h = omega arith in ap floor_before e
floor_raised (suc f) h = let e : max (suc f) (h + 1) ≡ suc (max f h) = omega arith in ap floor_before e

-- A window that is not full takes one more.
pub kept_more : (hs : List Held) (cs : List CellState) (above size : ℕ) (floor : Option ℕ) (n : Held) (a : CellState) → AreHeld hs cs above → length hs < size → n.cell ≡ length hs
    → record { size = size; entries = entries_of (hs ++ n ∷ []) (cs ++ a ∷ []); floor = floor }
    ≡ retained_after (record { size = size; entries = entries_of hs cs; floor = floor }) (entry_in n.handle a)
kept_more hs cs above size floor n a held room at =
    let same : Same cs (cs ++ a ∷ []) hs = λ k d within. other_cell_pushed cs (get_or hs k d).cell a (held.1 k d within) in
    let new : slice_get (cs ++ a ∷ []) n.cell ≡ Some a = rw (at, ← held.0) (cell_pushed cs a) in
    let none_out : length (entries_of hs cs ++ entry_in n.handle a ∷ []) - size ≡ 0 = rw (length-append, length-entries hs cs held.1) (omega (arith, room)) in
    retained_by size 0 (entries_of hs cs) (entries_of (hs ++ n ∷ []) (cs ++ a ∷ [])) floor floor (entry_in n.handle a) none_out
    (entries_push hs n cs (cs ++ a ∷ []) a same new) (no_higher floor)

-- A full window takes one more: the oldest goes out, may raise the floor, and leaves its cell.
pub kept_full : (o : Held) (hs : List Held) (cs : List CellState) (above size end : ℕ) (n : Held) (a : CellState) → AreHeld (o ∷ hs) cs above → length (o ∷ hs) ≡ size → n.cell ≡ o.cell
    → record { size = size; entries = entries_of (hs ++ n ∷ []) (slice_set cs n.cell a); floor = floor_before (max end (o.handle.0 + 1)) }
    ≡ retained_after (record { size = size; entries = entries_of (o ∷ hs) cs; floor = floor_before end }) (entry_in n.handle a)
kept_full o hs cs above size end n a held full at =
    let mine = first_within o hs cs held.1 in
    let first = there cs o.cell mine in
    let same : Same cs (slice_set cs n.cell a) hs = λ k d within.
    let apart : (o.cell == (get_or hs k d).cell) ≡ false = (held.2 0 (suc k) d (omega arith) (omega (arith, within))).1 in
    other_cell_set cs n.cell (get_or hs k d).cell a (within_tail o hs cs held.1 k d within) (rw at (swapped o.cell (get_or hs k d).cell apart)) in
    let new : slice_get (slice_set cs n.cell a) n.cell ≡ Some a = cell_set cs n.cell a (rw at mine) in
    let one_out : length (entries_of (o ∷ hs) cs ++ entry_in n.handle a ∷ []) - size ≡ 1 = rw (length-append, length-entries (o ∷ hs) cs held.1) (omega (arith, full)) in
    let whole : entries_of (o ∷ hs) cs ≡ entry_in o.handle first.0 ∷ entries_of hs cs = rw first.1 refl in
    retained_by size 1 (entries_of (o ∷ hs) cs) (entries_of (hs ++ n ∷ []) (slice_set cs n.cell a)) (floor_before end) (floor_before (max end (o.handle.0 + 1))) (entry_in n.handle a) one_out
    (entries_push hs n cs (slice_set cs n.cell a) a same new ∙ sym (ap (λ (es : List Entry). drop 1 (es ++ entry_in n.handle a ∷ [])) whole))
    (floor_raised end o.handle.0 ∙ sym (ap (λ (es : List Entry). higher_of (floor_before end) (greatest (take 1 (es ++ entry_in n.handle a ∷ [])))) whole))
  where
    swapped : (a b : ℕ) → (a == b) ≡ false → (b == a) ≡ false
    swapped a b other = grind (arith, nat_tests)

below_more : (hs : List Held) (above more : ℕ) → All (λ g. g.handle.0 < above) hs → above ≤ more → All (λ g. g.handle.0 < more) hs
below_more hs above more below le = λ k d within. let low = below k d within in omega (arith, low, le)

-- one more command is held, in a cell of its own
pub held_more : (hs : List Held) (cs : List CellState) (above more : ℕ) (n : Held) (a : CellState) → AreHeld hs cs above → All (λ g. is_under n.handle.0 g ≡ false) hs
    → above ≤ more → n.handle.0 < more → n.cell ≡ length hs → AreHeld (hs ++ n ∷ []) (cs ++ a ∷ []) more
held_more hs cs above more n a held none le lt at =
    let long : length (cs ++ a ∷ []) ≡ length cs + 1 = length-append cs (a ∷ []) in
    let within : All (λ g. g.cell < length (cs ++ a ∷ [])) hs = λ k d inside. let low = held.1 k d inside in omega (arith, low, long) in
    let apart : AllPairs AreApart (hs ++ n ∷ []) = all_pairs_push AreApart hs n held.2 (λ k d inside. (none k d inside, let low = held.1 k d inside in below (get_or hs k d).cell n.cell (omega (arith, low, at, held.0)))) in (
      rw (length-append, length-append) (omega (arith, held.0)),
      All-push (λ g. g.cell < length (cs ++ a ∷ [])) hs n within (omega (arith, long, at, held.0)),
      apart,
      All-push (λ g. g.handle.0 < more) hs n (below_more hs above more held.3 le) lt,
    )
  where
    below : (a b : ℕ) → a < b → (a == b) ≡ false
    below a b lt = grind (arith, nat_tests)

-- where the window is full, the command is held in the cell of the oldest
pub held_full : (o : Held) (hs : List Held) (cs : List CellState) (above more : ℕ) (n : Held) (a : CellState) → AreHeld (o ∷ hs) cs above → All (λ g. is_under n.handle.0 g ≡ false) (o ∷ hs)
    → above ≤ more → n.handle.0 < more → n.cell ≡ o.cell → AreHeld (hs ++ n ∷ []) (slice_set cs n.cell a) more
held_full o hs cs above more n a held none le lt at =
    let long : length (slice_set cs n.cell a) ≡ length cs = length-set cs n.cell a in
    let mine = first_within o hs cs held.1 in
    let within : All (λ g. g.cell < length (slice_set cs n.cell a)) hs = rw long (within_tail o hs cs held.1) in
    let rest : AllPairs AreApart hs = λ i j d before inside. held.2 (suc i) (suc j) d (omega (arith, before)) (omega (arith, inside)) in
    let apart : AllPairs AreApart (hs ++ n ∷ []) = all_pairs_push AreApart hs n rest (λ k d inside. (
      none (suc k) d (omega (arith, inside)),
      other o.cell (get_or hs k d).cell n.cell (held.2 0 (suc k) d (omega arith) (omega (arith, inside))).1 at,
    )) in (
      rw (long, length-append) (omega (arith, held.0)),
      All-push (λ g. g.cell < length (slice_set cs n.cell a)) hs n within (omega (arith, long, at, mine)),
      apart,
      All-push (λ g. g.handle.0 < more) hs n (below_more hs above more (All-tail (λ g. g.handle.0 < above) o hs held.3) le) lt,
    )
  where
    other : (o g n : ℕ) → (o == g) ≡ false → n ≡ o → (g == n) ≡ false
    other o g n apart is = grind (arith, nat_tests)

-- ---- what a push removes

keep_more : (hs : List Held) (n : Held) (size : ℕ) → length hs < size → drop (length (hs ++ n ∷ []) - size) (hs ++ n ∷ []) ≡ hs ++ n ∷ []
keep_more hs n size room = let none : length (hs ++ n ∷ []) - size ≡ 0 = rw length-append (omega (arith, room)) in ap (λ k. drop k (hs ++ n ∷ [])) none

-- nothing went out: there was room
pub none_out : (hs : List Held) (n : Held) (size : ℕ) → cond (nat_lt (length hs) size) None (slice_get (hs ++ n ∷ []) 0) ≡ None
    → (length hs < size) × (drop (length (hs ++ n ∷ []) - size) (hs ++ n ∷ []) ≡ hs ++ n ∷ [])
none_out hs n size none = let room = by_test hs (nat_lt (length hs) size) none in let lt : length hs < size = grind (arith, nat_tests) in (lt, keep_more hs n size lt)
  where
    by_test : (hs : List Held) (b : Bool) → cond b None (slice_get (hs ++ n ∷ []) 0) ≡ None → b ≡ true
    by_test hs true none = refl
    by_test [] false none = cc
    by_test (h ∷ hs) false none = cc

-- the first went out: the ring was full
pub first_out : (hs : List Held) (n o : Held) (size : ℕ) → 0 < size → length hs ≤ size → cond (nat_lt (length hs) size) None (slice_get (hs ++ n ∷ []) 0) ≡ Some o
    → (rest : List Held) × (hs ≡ o ∷ rest) × (length hs ≡ size) × (drop (length (hs ++ n ∷ []) - size) (hs ++ n ∷ []) ≡ rest ++ n ∷ [])
first_out [] n o size some le is = let lt : nat_lt 0 size ≡ true = grind (arith, nat_tests) in let wrong : cond true None (Some n) ≡ Some o = rw lt at is in cc
first_out (h ∷ hs) n o size some le is =
    let parts = by_test (nat_lt (length (h ∷ hs)) size) is in
    let full : length (h ∷ hs) ≡ size = let no = parts.0 in let ge : size ≤ length (h ∷ hs) = grind (arith, nat_tests) in omega (arith, ge, le) in
    let one : length ((h ∷ hs) ++ n ∷ []) - size ≡ 1 = rw length-append (omega (arith, full)) in (
      hs,
      ap (λ (g : Held). g ∷ hs) parts.1,
      full,
      ap (λ k. drop k ((h ∷ hs) ++ n ∷ [])) one,
    )
  where
    by_test : (b : Bool) → cond b None (Some h) ≡ Some o → (b ≡ false) × (h ≡ o)
    by_test true is = cc
    by_test false is = (refl, same_Some h o is)

-- as many are not held as there may be
pub not_full : (n size : ℕ) → n ≤ size → (n == size) ≡ false → n < size
not_full n size le other = grind (arith, nat_tests)

-- where none is first, none is held
pub none_first : (hs : List Held) → slice_get hs 0 ≡ None → length hs ≡ 0
none_first [] none = refl
none_first (h ∷ hs) none = cc

-- the oldest command's cell is the one that is used again
pub cell_is : (hs rest : List Held) (o : Held) (size cell : ℕ) → IsCellOfOldest hs size cell → hs ≡ o ∷ rest → cell ≡ o.cell
cell_is hs rest o size cell is e = is.same ∙ ap (λ (g : Held). g.cell) (same_Some is.oldest o (sym is.first ∙ ap (λ (ys : List Held). slice_get ys 0) e))

-- ---- what is held under a handle

-- the first that passes is one of them
pub found_holds : (h : ℕ) (P : Held → Type 0) (hs : List Held) (g : Held) → find (is_under h) hs ≡ Some g → All P hs → P g
found_holds h P [] g is all = cc
found_holds h P (x ∷ hs) g is all = by_test (is_under h x) is (λ rest. found_holds h P hs g rest (All-tail P x hs all)) (all 0 x (omega arith))
  where
    by_test : (b : Bool) → cond b (Some x) (find (is_under h) hs) ≡ Some g → (find (is_under h) hs ≡ Some g → P g) → P x → P g
    by_test true is rest here = rw (← same_Some x g is) here
    by_test false is rest here = rest is

-- in one list, and then in another
pub found_front : (h : ℕ) (xs ys zs : List Held) (g : Held) → xs ++ ys ≡ zs → find (is_under h) xs ≡ Some g → find (is_under h) zs ≡ Some g
found_front h xs ys zs g all is =
    rw (← all) (find-append (is_under h) xs ys ∙ ap (λ (o : Option Held). option_or o (find (is_under h) ys)) is)

-- what is not found in front is found behind it
pub found_back : (h : ℕ) (xs ys zs : List Held) → xs ++ ys ≡ zs → find (is_under h) xs ≡ None → find (is_under h) zs ≡ find (is_under h) ys
found_back h xs ys zs all none =
    rw (← all) (find-append (is_under h) xs ys ∙ ap (λ (o : Option Held). option_or o (find (is_under h) ys)) none)

-- the command under a handle, by what is held under it
pub under_none : (h : ℕ) (hs : List Held) (cs : List CellState) → Within cs hs → find (is_under h) hs ≡ None → entry_under h (entries_of hs cs) ≡ None
under_none h [] cs within none = refl
under_none h (x ∷ hs) cs within none =
    let a = there cs x.cell (first_within x hs cs within) in
    rw a.1 (by_test (is_under h x) a.0 none (under_none h hs cs (within_tail x hs cs within)))
  where
    by_test : (b : Bool) (a : CellState) → cond b (Some x) (find (is_under h) hs) ≡ None → (find (is_under h) hs ≡ None → entry_under h (entries_of hs cs) ≡ None)
        → cond b (Some (entry_in x.handle a)) (entry_under h (entries_of hs cs)) ≡ None
    by_test true a none rest = cc
    by_test false a none rest = rest none

-- a command that is found under its handle has a cell
pub under_some : (h : ℕ) (hs : List Held) (cs : List CellState) (g : Held) (a : CellState) → Within cs hs → find (is_under h) hs ≡ Some g → slice_get cs g.cell ≡ Some a
    → entry_under h (entries_of hs cs) ≡ Some (entry_in g.handle a)
under_some h [] cs g a within found is = cc
under_some h (x ∷ hs) cs g a within found is =
    let b = there cs x.cell (first_within x hs cs within) in
    rw b.1 (by_test (is_under h x) b.0 b.1 found (λ rest. under_some h hs cs g a (within_tail x hs cs within) rest is))
  where
    by_test : (t : Bool) (b : CellState) → slice_get cs x.cell ≡ Some b → cond t (Some x) (find (is_under h) hs) ≡ Some g
        → (find (is_under h) hs ≡ Some g → entry_under h (entries_of hs cs) ≡ Some (entry_in g.handle a))
        → cond t (Some (entry_in x.handle b)) (entry_under h (entries_of hs cs)) ≡ Some (entry_in g.handle a)
    by_test true b has found rest =
        let one = same_Some x g found in
        let same : b ≡ a = same_Some b a (sym has ∙ ap (λ (y : Held). slice_get cs y.cell) one ∙ is) in
        rw (one, same) refl
    by_test false b has found rest = rest found

none_found : (h : ℕ) (hs : List Held) → All (λ g. is_under h g ≡ false) hs → find (is_under h) hs ≡ None
none_found h [] none = refl
none_found h (x ∷ hs) none = rw (none 0 x (omega arith)) (none_found h hs (All-tail (λ g. is_under h g ≡ false) x hs none))

-- no command is under a handle that nothing is held under, and the other way round
pub not_retained : (h : ℕ) (hs : List Held) (cs : List CellState) → Within cs hs → entry_under h (entries_of hs cs) ≡ None → All (λ g. is_under h g ≡ false) hs
not_retained h [] cs within none = λ k d inside. absurd (omega (arith, inside))
not_retained h (x ∷ hs) cs within none =
    let a = there cs x.cell (first_within x hs cs within) in
    let parts = by_test (is_under h x) a.0 (rw a.1 at none) in
    All-cons (λ g. is_under h g ≡ false) x hs parts.0 (not_retained h hs cs (within_tail x hs cs within) parts.1)
  where
    by_test : (b : Bool) (a : CellState) → cond b (Some (entry_in x.handle a)) (entry_under h (entries_of hs cs)) ≡ None → (b ≡ false) × (entry_under h (entries_of hs cs) ≡ None)
    by_test true a e = cc
    by_test false a e = (refl, e)

-- the latest is the first under its handle, since no other has it
pub latest_found : (h : ℕ) (hs : List Held) (l : Held) → AllPairs AreApart hs → slice_get hs (length hs - 1) ≡ Some l → is_under h l ≡ true → find (is_under h) hs ≡ Some l
latest_found h [] l apart is here = cc
latest_found h (x ∷ []) l apart is here =
    let one : x ≡ l = same_Some x l is in
    rw (one, here) refl
latest_found h (x ∷ y ∷ hs) l apart is here =
    let on : length (x ∷ y ∷ hs) - 1 ≡ suc (length (y ∷ hs) - 1) = omega arith in
    let last : slice_get (y ∷ hs) (length (y ∷ hs) - 1) ≡ Some l = sym (ap (λ (k : ℕ). slice_get (x ∷ y ∷ hs) k) on) ∙ is in
    let that : get_or (y ∷ hs) (length (y ∷ hs) - 1) l ≡ l = get_or_from_slice_get (y ∷ hs) (length (y ∷ hs) - 1) l l last in
    let far : is_under l.handle.0 x ≡ false = rw that at ((apart 0 (suc (length (y ∷ hs) - 1)) l (omega arith) (omega arith)).0) in
    let no : is_under h x ≡ false = other x.handle.0 l.handle.0 h far here in
    rw no (latest_found h (y ∷ hs) l (λ i j d before inside. apart (suc i) (suc j) d (omega (arith, before)) (omega (arith, inside))) last here)
  where
    other : (x l h : ℕ) → (x == l) ≡ false → (l == h) ≡ true → (x == h) ≡ false
    other x l h far here = grind (arith, nat_tests)

-- ---- a command by what its handle has in the window

-- a handle is above the floor where it is not before its end
pub from_end : (end h : ℕ) → end ≤ h → is_above (floor_before end) h ≡ true
from_end zero h le = refl
from_end (suc f) h le = grind (arith, nat_tests)

-- no handle below the end is above the floor before it
pub before_end : (end h : ℕ) → h < end → is_above (floor_before end) h ≡ false
before_end zero h lt = absurd (omega (arith, lt))
before_end (suc f) h lt = grind (arith, nat_tests)

-- a handle above all is fresh
pub fresh_above : (above size end : ℕ) (c : CommandFields) (hs : List Held) (cs : List CellState) → AreHeld hs cs above → end ≤ above → above ≤ c.handle
    → judgement_by_window (record { size = size; entries = entries_of hs cs; floor = floor_before end }) c ≡ Fresh
fresh_above above size end c hs cs held low high =
    let none : All (λ g. is_under c.handle g ≡ false) hs = λ k d inside. let below = held.3 k d inside in other (get_or hs k d).handle.0 c.handle (omega (arith, below, high)) in
    rw (under_none c.handle hs cs held.1 (none_found c.handle hs none), from_end end c.handle (omega (arith, low, high))) refl
  where
    other : (a b : ℕ) → a < b → (a == b) ≡ false
    other a b lt = grind (arith, nat_tests)

-- what a cell says of a command under its handle
abbrev pub judge_cell : CellState → CommandFields → Judgement
judge_cell a c = duplicate_or_reused (entry_in (record { 0 = c.handle }) a) c

-- a command that is held is judged by its cell
pub judged_by_cell : (k : Retained) (c : CommandFields) (a : CellState)
    → option_map (λ (e : Entry). duplicate_or_reused e c) (entry_under c.handle k.entries) ≡ Some (judge_cell a c) → judgement_by_window k c ≡ judge_cell a c
judged_by_cell k c a h = by_found (entry_under c.handle k.entries) h
  where
    by_found : (o : Option Entry) → option_map (λ (e : Entry). duplicate_or_reused e c) o ≡ Some (judge_cell a c) → judge_entry o (is_above k.floor c.handle) c ≡ judge_cell a c
    by_found None e = cc
    by_found (Some e) is = cc

-- any other is judged by the floor
pub judged_by_floor : (k : Retained) (c : CommandFields) (above : Bool)
    → option_map (λ (e : Entry). duplicate_or_reused e c) (entry_under c.handle k.entries) ≡ None → is_above k.floor c.handle ≡ above
    → judgement_by_window k c ≡ cond above Fresh Old
judged_by_floor k c above h is = by_found (entry_under c.handle k.entries) h ∙ ap (λ b. cond b Fresh Old) is
  where
    by_found : (o : Option Entry) → option_map (λ (e : Entry). duplicate_or_reused e c) o ≡ None
        → judge_entry o (is_above k.floor c.handle) c ≡ cond (is_above k.floor c.handle) Fresh Old
    by_found None e = refl
    by_found (Some e) is = cc

-- a fresh command's handle is not retained
pub fresh_not_retained : (k : Retained) (c : CommandFields) → judgement_by_window k c ≡ Fresh → entry_under c.handle k.entries ≡ None
fresh_not_retained k c fresh = by_found (entry_under c.handle k.entries) fresh
  where
    repeated : (b : Bool) (e : Entry) → cond b (Duplicate e.reply) Reused ≡ Fresh → ⊥
    repeated true e is = cc
    repeated false e is = cc

    by_found : (o : Option Entry) → judge_entry o (is_above k.floor c.handle) c ≡ Fresh → o ≡ None
    by_found None is = refl
    by_found (Some e) is = absurd (repeated (asks_the_same e.command c) e is)

-- what is held under its handle has a cell, which judges it
pub judged_where_held : (k : Retained) (c : CommandFields) (size : ℕ) (floor : Option ℕ) (hs : List Held) (cs : List CellState) (g : Held) (a : CellState)
    → record { size = size; entries = entries_of hs cs; floor = floor } ≡ k → Within cs hs → find (is_under c.handle) hs ≡ Some g → slice_get cs g.cell ≡ Some a
    → judgement_by_window k c ≡ judge_cell a c
judged_where_held k c size floor hs cs g a is within found there =
    rw (← is) (judged_by_cell (record { size = size; entries = entries_of hs cs; floor = floor }) c a
    (ap (option_map (λ (e : Entry). duplicate_or_reused e c)) (under_some c.handle hs cs g a within found there)))

-- where nothing is, the floor does
pub judged_where_none : (k : Retained) (c : CommandFields) (above : Bool) (size : ℕ) (floor : Option ℕ) (hs : List Held) (cs : List CellState)
    → record { size = size; entries = entries_of hs cs; floor = floor } ≡ k → Within cs hs → find (is_under c.handle) hs ≡ None → is_above floor c.handle ≡ above
    → judgement_by_window k c ≡ cond above Fresh Old
judged_where_none k c above size floor hs cs is within none so =
    rw (← is) (judged_by_floor (record { size = size; entries = entries_of hs cs; floor = floor }) c above
    (ap (option_map (λ (e : Entry). duplicate_or_reused e c)) (under_none c.handle hs cs within none)) so)
