-- Accepted commands with their replies, and the commands alone.
use Rattle.oca_device.proofs.Words.{◌≡◌, ℕ, ◌-◌, Bool, true, false, cond, List, [], ◌∷◌, ◌++◌, length, drop, refl, sym, ap, ◌∙◌, zero, suc, arith, map, not, nat_eq, nat_lt, ◌&&◌, ◌||◌, Option, Some}
use Rattle.oca_device.proofs.Words.{None, is_some, list_any, list_all, AllByRecursion, append_assoc, append-nil, length-map, nat_tests, or_parts, eqb-true, CommandFields, DeviceSizes, Msg, Command}
use Rattle.oca_device.proofs.Words.{Response, KeepAlive, Entry, window, outside, has_handle, is_below, accepts, entry_under, asks_the_same, accepts_handle, accepted_of, is_duplicate, is_reuse}
use Rattle.oca_device.proofs.Words.{with_command, on_bool}
use Rattle.std.proofs.Common.{take}
use Rattle.std.specs.List.{IsDistinct}
use Rattle.oca_device.proofs.Peers.{equal_self}

abbrev pub commands_of : List Entry → List CommandFields
commands_of es = map (λ e. e.command) es

abbrev pub same_handle : CommandFields → CommandFields → Bool
same_handle c d = nat_eq c.handle d.handle

abbrev pub has : ℕ → List CommandFields → Bool
has h xs = list_any (λ x. nat_eq x.handle h) xs

-- ---- tests on entries and on their commands

any_mapped : (h : ℕ) (es : List Entry) → list_any (has_handle h) es ≡ has h (commands_of es)
any_mapped h [] = refl
any_mapped h (e ∷ es) = ap (λ b. has_handle h e || b) (any_mapped h es)

take_mapped : (n : ℕ) (es : List Entry) → take n (commands_of es) ≡ commands_of (take n es)
take_mapped zero es = refl
take_mapped (suc n) [] = refl
take_mapped (suc n) (e ∷ es) = ap (λ xs. e.command ∷ xs) (take_mapped n es)

drop_mapped : (n : ℕ) (es : List Entry) → drop n (commands_of es) ≡ commands_of (drop n es)
drop_mapped zero es = refl
drop_mapped (suc n) [] = refl
drop_mapped (suc n) (e ∷ es) = drop_mapped n es

pub outside_mapped : (w : DeviceSizes) (A : List Entry) → outside w.window (commands_of A) ≡ commands_of (outside w.window A)
outside_mapped w A = ap (λ (n : ℕ). take (n - w.window) (commands_of A)) (length-map A (λ e. e.command)) ∙ take_mapped (length A - w.window) A

pub window_mapped : (w : DeviceSizes) (A : List Entry) → window w.window (commands_of A) ≡ commands_of (window w.window A)
window_mapped w A = ap (λ (n : ℕ). drop (n - w.window) (commands_of A)) (length-map A (λ e. e.command)) ∙ drop_mapped (length A - w.window) A

all_mapped : (h : ℕ) (es : List Entry) → list_all (is_below h) es ≡ list_all (λ x. nat_lt x.handle h) (commands_of es)
all_mapped h [] = refl
all_mapped h (e ∷ es) = ap (λ b. nat_lt e.command.handle h && b) (all_mapped h es)

pub accepts_same : (w : DeviceSizes) (A : List Entry) (h : ℕ) → accepts w.window A h ≡ accepts_handle w (commands_of A) h
accepts_same w A h =
    ap (λ b. not b && list_all (is_below h) (outside w.window A)) (any_mapped h A)
    ∙ ap (λ b. not (has h (commands_of A)) && b) (all_mapped h (outside w.window A) ∙ sym (ap (list_all (λ x. nat_lt x.handle h)) (outside_mapped w A)))

-- ---- the entry under a handle

pub found_in_front : (h : ℕ) (es more : List Entry) (e : Entry) → entry_under h es ≡ Some e → entry_under h (es ++ more) ≡ Some e
found_in_front h [] more e p = absurd cc
found_in_front h (x ∷ es) more e p =
    on_bool (nat_eq x.command.handle h) (λ b. cond b (Some x) (entry_under h es) ≡ Some e → (entry_under h es ≡ Some e → entry_under h (es ++ more) ≡ Some e) → cond b (Some x) (entry_under h (es ++ more)) ≡ Some e)
    (λ q ih. q) (λ q ih. ih q) p (found_in_front h es more e)

-- the entry of a handle that was not there before
pub found_last : (es : List Entry) (e : Entry) → list_any (has_handle e.command.handle) es ≡ false → entry_under e.command.handle (es ++ e ∷ []) ≡ Some e
found_last [] e p = ap (λ b. cond b (Some e) None) (equal_self e.command.handle)
found_last (x ∷ es) e p =
    on_bool (nat_eq x.command.handle e.command.handle) (λ b. (b || list_any (has_handle e.command.handle) es) ≡ false → (list_any (has_handle e.command.handle) es ≡ false → entry_under e.command.handle
    (es ++ e ∷ []) ≡ Some e) → cond b (Some x) (entry_under e.command.handle (es ++ e ∷ [])) ≡ Some e)
    (λ q ih. absurd cc) (λ q ih. ih q) p (found_last es e)

accepted_is_new : (a b : Bool) → (not a && b) ≡ true → a ≡ false
accepted_is_new true b p = absurd cc
accepted_is_new false b p = refl

pub new_where_accepted : (w : DeviceSizes) (A : List Entry) (h : ℕ) → accepts w.window A h ≡ true → list_any (has_handle h) A ≡ false
new_where_accepted w A h p = accepted_is_new (list_any (has_handle h) A) (list_all (is_below h) (outside w.window A)) p

-- ---- each handle once

abbrev pub AreDistinct : List CommandFields → Type 0
AreDistinct cs = IsDistinct same_handle cs

pub distinct_none : AreDistinct []
unfolding IsDistinct
distinct_none = tt

not_again : (x : CommandFields) (h : ℕ) (ys : List CommandFields) → AllByRecursion (λ y. same_handle x y ≡ false) ys → has h ys ≡ true → nat_eq x.handle h ≡ false
not_again x h [] all p = absurd cc
not_again x h (y ∷ ys) all p = on_bool (nat_eq y.handle h) (λ b. nat_eq y.handle h ≡ b → (b || has h ys) ≡ true → (has h ys ≡ true → nat_eq x.handle h ≡ false) → nat_eq x.handle h ≡ false)
    (λ e q ih. ap (nat_eq x.handle) (sym (eqb-true y.handle h e)) ∙ all.0) (λ e q ih. ih q) refl p (not_again x h ys all.1)

pub found_has : (h : ℕ) (es : List Entry) → is_some (entry_under h es) ≡ has h (commands_of es)
found_has h [] = refl
found_has h (e ∷ es) = on_bool (nat_eq e.command.handle h) (λ b. is_some (entry_under h es) ≡ has h (commands_of es) → is_some (cond b (Some e) (entry_under h es)) ≡ (b || has h (commands_of es)))
    (λ p. refl) (λ p. p) (found_has h es)

is_some_there : (o : Option Entry) (x : Entry) → o ≡ Some x → is_some o ≡ true
is_some_there o x p = ap is_some p

-- the entry of a handle in a later part is the first of the whole
pub found_after : (n h : ℕ) (es : List Entry) (e : Entry) → AreDistinct (commands_of es) → entry_under h (drop n es) ≡ Some e → entry_under h es ≡ Some e
unfolding IsDistinct
found_after zero h es e d p = p
found_after (suc n) h [] e d p = p
found_after (suc n) h (x ∷ es) e d p =
    let later = found_after n h es e d.1 p in
    let other : nat_eq x.command.handle h ≡ false = not_again x.command h (commands_of es) d.0 (sym (found_has h es) ∙ is_some_there (entry_under h es) e later) in
    ap (λ b. cond b (Some x) (entry_under h es)) other ∙ later

all_pushed : (x c : CommandFields) (ys : List CommandFields) → AllByRecursion (λ y. same_handle x y ≡ false) ys → same_handle x c ≡ false →
    AllByRecursion (λ y. same_handle x y ≡ false) (ys ++ c ∷ [])
all_pushed x c [] all p = (p, tt)
all_pushed x c (y ∷ ys) all p = (all.0, all_pushed x c ys all.1 p)

distinct_pushed : (c : CommandFields) (xs : List CommandFields) → AreDistinct xs → has c.handle xs ≡ false → AreDistinct (xs ++ c ∷ [])
unfolding IsDistinct
distinct_pushed c [] d p = (tt, tt)
distinct_pushed c (x ∷ xs) d p =
    let parts = or_parts (nat_eq x.handle c.handle) (has c.handle xs) p in
    (all_pushed x c xs d.0 parts.0, distinct_pushed c xs d.1 parts.1)

pub distinct_after : (w : DeviceSizes) (A : List CommandFields) (c : CommandFields) → AreDistinct A → AreDistinct (with_command w A c)
distinct_after w A c d = on_bool (accepts_handle w A c.handle) (λ b. accepts_handle w A c.handle ≡ b → AreDistinct (cond b (A ++ c ∷ []) A))
    (λ e. distinct_pushed c A d (accepted_is_new (has c.handle A) (list_all (λ x. nat_lt x.handle c.handle) (outside w.window A)) e)) (λ e. d) refl

-- A after messages
pub accepted_one : (w : DeviceSizes) (A : List CommandFields) (respond : Bool) (c : CommandFields) (ms : List Msg) →
    A ++ accepted_of w A (Command respond c ∷ ms) ≡ with_command w A c ++ accepted_of w (with_command w A c) ms
accepted_one w A respond c ms =
    on_bool (accepts_handle w A c.handle) (λ b. A ++ cond b (c ∷ accepted_of w (A ++ c ∷ []) ms) (accepted_of w A ms) ≡ cond b (A ++ c ∷ []) A ++ accepted_of w (cond b (A ++ c ∷ []) A) ms)
    (sym (append_assoc A (c ∷ []) (accepted_of w (A ++ c ∷ []) ms))) refl

pub distinct_of : (w : DeviceSizes) (A : List CommandFields) (ms : List Msg) → AreDistinct A → AreDistinct (A ++ accepted_of w A ms)
distinct_of w A [] d = subst_nil A d
  where
    subst_nil : (A : List CommandFields) → AreDistinct A → AreDistinct (A ++ [])
    subst_nil A d = rw (append-nil A) d
distinct_of w A (Command respond c ∷ ms) d = rw (accepted_one w A respond c ms) (distinct_of w (with_command w A c) ms (distinct_after w A c d))
distinct_of w A (KeepAlive form ∷ ms) d = distinct_of w A ms d
distinct_of w A (Response r ∷ ms) d = distinct_of w A ms d

pub accepted_both : (w : DeviceSizes) (A : List CommandFields) (xs ys : List Msg) →
    accepted_of w A (xs ++ ys) ≡ accepted_of w A xs ++ accepted_of w (A ++ accepted_of w A xs) ys
accepted_both w A [] ys = ap (λ (B : List CommandFields). accepted_of w B ys) (sym (append-nil A))
accepted_both w A (Command respond c ∷ xs) ys = by (accepts_handle w A c.handle) (accepted_both w (A ++ c ∷ []) xs ys) (accepted_both w A xs ys)
  where
    by : (b : Bool) →
        accepted_of w (A ++ c ∷ []) (xs ++ ys) ≡ accepted_of w (A ++ c ∷ []) xs ++ accepted_of w ((A ++ c ∷ []) ++ accepted_of w (A ++ c ∷ []) xs) ys →
        accepted_of w A (xs ++ ys) ≡ accepted_of w A xs ++ accepted_of w (A ++ accepted_of w A xs) ys →
        cond b (c ∷ accepted_of w (A ++ c ∷ []) (xs ++ ys)) (accepted_of w A (xs ++ ys))
        ≡ cond b (c ∷ accepted_of w (A ++ c ∷ []) xs) (accepted_of w A xs) ++ accepted_of w (A ++ cond b (c ∷ accepted_of w (A ++ c ∷ []) xs) (accepted_of w A xs)) ys
    by true f g = ap (λ (B : List CommandFields). c ∷ B) f
        ∙ ap (λ (B : List CommandFields). c ∷ (accepted_of w (A ++ c ∷ []) xs ++ accepted_of w B ys)) (append_assoc A (c ∷ []) (accepted_of w (A ++ c ∷ []) xs))
    by false f g = g
accepted_both w A (KeepAlive form ∷ xs) ys = accepted_both w A xs ys
accepted_both w A (Response r ∷ xs) ys = accepted_both w A xs ys

-- ---- duplicates and reuse, by the entry under the handle

abbrev pub asks_so : (Bool → Bool) → Option Entry → CommandFields → Bool
asks_so f None c = false
asks_so f (Some e) c = f (asks_the_same e.command c)

-- no other entry has the handle
none_left : (f : Bool → Bool) (c : CommandFields) (h : ℕ) (xs : List CommandFields) (x : CommandFields) → AllByRecursion (λ y. same_handle x y ≡ false) xs → nat_eq x.handle h ≡ true →
    list_any (λ y. nat_eq y.handle h && f (asks_the_same y c)) xs ≡ false
none_left f c h [] x all e = refl
none_left f c h (y ∷ xs) x all e =
    ap (λ b. (b && f (asks_the_same y c)) || list_any (λ z. nat_eq z.handle h && f (asks_the_same z c)) xs) other
    ∙ none_left f c h xs x all.1 e
  where
    turned : (a b : ℕ) → nat_eq a b ≡ false → nat_eq b a ≡ false
    turned a b p = grind (arith, nat_tests)

    other : nat_eq y.handle h ≡ false
    other = ap (nat_eq y.handle) (sym (eqb-true x.handle h e)) ∙ turned x.handle y.handle all.0

any_asks : (f : Bool → Bool) (c : CommandFields) (es : List Entry) → AreDistinct (commands_of es) →
    list_any (λ x. nat_eq x.handle c.handle && f (asks_the_same x c)) (commands_of es) ≡ asks_so f (entry_under c.handle es) c
unfolding IsDistinct
any_asks f c [] d = refl
any_asks f c (e ∷ es) d = by (nat_eq e.command.handle c.handle) refl (f (asks_the_same e.command c)) refl (any_asks f c es d.1)
  where
    rest : Bool
    rest = list_any (λ x. nat_eq x.handle c.handle && f (asks_the_same x c)) (commands_of es)

    by : (b : Bool) → nat_eq e.command.handle c.handle ≡ b → (k : Bool) → f (asks_the_same e.command c) ≡ k → rest ≡ asks_so f (entry_under c.handle es) c →
        ((b && k) || rest) ≡ asks_so f (cond b (Some e) (entry_under c.handle es)) c
    by true q true r ih = sym r
    by true q false r ih = none_left f c c.handle (commands_of es) e.command d.0 q ∙ sym r
    by false q k r ih = ih

pub distinct_dropped : (n : ℕ) (xs : List CommandFields) → AreDistinct xs → AreDistinct (drop n xs)
unfolding IsDistinct
distinct_dropped zero xs d = d
distinct_dropped (suc n) [] d = d
distinct_dropped (suc n) (x ∷ xs) d = distinct_dropped n xs d.1

module _ (w : DeviceSizes) (A : List Entry) (c : CommandFields) (d : AreDistinct (commands_of A)) where
  distinct_window : AreDistinct (commands_of (window w.window A))
  distinct_window = rw (sym (drop_mapped (length A - w.window) A)) (distinct_dropped (length A - w.window) (commands_of A) d)

  pub duplicate_is : is_duplicate w (commands_of A) c ≡ asks_so (λ b. b) (entry_under c.handle (window w.window A)) c
  duplicate_is = ap (list_any (λ x. nat_eq x.handle c.handle && asks_the_same x c)) (window_mapped w A) ∙ any_asks (λ b. b) c (window w.window A) distinct_window

  pub reuse_is : is_reuse w (commands_of A) c ≡ asks_so not (entry_under c.handle (window w.window A)) c
  reuse_is = ap (list_any (λ x. nat_eq x.handle c.handle && not (asks_the_same x c))) (window_mapped w A) ∙ any_asks not c (window w.window A) distinct_window
