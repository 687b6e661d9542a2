-- Receives and sends one after another.
use Rattle.std.proofs.Common.{◌≡◌, ℕ, ◌+◌, ◌<◌, Bool, true, false, cond, List, [], ◌∷◌, ◌++◌, length, refl, sym, ap, ◌∙◌, subst, arith}
use Rattle.std.specs.Prelude.{IsTrue}
use Rattle.std.proofs.lemmas.List.{append_assoc, append-nil}
use Rattle.oca_net.specs.declared.end.Heard.{Heard}
use Rattle.oca_net.specs.declared.end.Heard.TheVariants as heard
use Rattle.oca_net.specs.Deliveries.{Delivery, Sent}
use Rattle.oca_net.specs.Ends.{last_u64, is_failed, one_more, TakesAllBut}
use Rattle.oca_net.specs.EndStates.{EndState, Receives, SendsAllBut, DeliversAndTakes}
use Rattle.oca_net.proofs.Sending.{counts_more, takes_none, takes_more}

-- ---- what was delivered, and what failed

-- these were delivered, and so many receives and sends failed: what `Runs` says, but for what was taken
pub record Delivered (deliveries : List Delivery) (failed_receives failed_sends : ℕ) (old new : EndState) : Type 0 where
  pub telling : new.tells ≡ old.tells
  pub grew : IsTrue old.tells → new.delivered ≡ old.delivered ++ deliveries
  pub failures : new.failures < last_u64 → new.failures ≡ old.failures + (failed_receives + failed_sends)

-- no deliveries change nothing
pub delivered_none : (e : EndState) → Delivered [] 0 0 e e
delivered_none e = record { telling = refl; grew = λ _. sym (append-nil e.delivered); failures = λ _. omega arith }

-- deliveries after deliveries
pub delivered_more : {ds es : List Delivery} {m n k j : ℕ} {a b c : EndState} → Delivered ds m n a b → Delivered es k j b c → Delivered (ds ++ es) (m + k) (n + j) a c
delivered_more {ds} {es} {m} {n} {k} {j} {a} {b} {c} f g = record {
  telling = g.telling ∙ f.telling;
  grew = λ told. g.grew (f.telling ∙ told) ∙ ap (λ zs. zs ++ es) (f.grew told) ∙ append_assoc a.delivered ds es;
  failures = summed a.failures b.failures c.failures f.failures g.failures;
}
  where
    summed : (x y z : ℕ) → (y < last_u64 → y ≡ x + (m + n)) → (z < last_u64 → z ≡ y + (k + j)) → z < last_u64 → z ≡ x + (m + k + (n + j))
    summed x y z h i below =
        let last = i below in
        let before : y < last_u64 = omega arith in
        omega (arith, h before, last)

-- one was heard, and then there were sends
pub delivered_one : (x : Delivery) {h : Heard} {bytes : List ℕ} {all : List Sent} {m k : ℕ} {a b c : EndState} → Receives h bytes a b → SendsAllBut k b c all →
    (IsTrue a.tells → b.delivered ≡ a.delivered ++ x ∷ []) → m ≡ cond (is_failed h) 1 0 → Delivered (x ∷ []) m k a c
delivered_one x {h} {bytes} {all} {m} {k} {a} {b} {c} received sent grew failed = record {
  telling = sent.telling ∙ received.telling;
  grew = λ told. sent.delivered (received.telling ∙ told) ∙ grew told;
  failures = counted (is_failed h) m a.failures b.failures c.failures failed received.failures sent.failures;
}
  where
    counted : (w : Bool) (m x y z : ℕ) → m ≡ cond w 1 0 → y ≡ cond w (one_more x) x → (z < last_u64 → z ≡ y + k) → z < last_u64 → z ≡ x + (m + k)
    counted true m x y z d e f below = let now = f below in omega arith
    counted false m x y z d e f below = let now = f below in omega arith

-- and then Closed
pub delivered_closed : {ds : List Delivery} {m n : ℕ} {bytes : List ℕ} {a b c : EndState} → Delivered ds m n a b → Receives heard.Closed bytes b c → Delivered ds m n a c
delivered_closed {ds} {m} {n} {bytes} {a} {b} {c} f g = record {
  telling = g.telling ∙ f.telling;
  grew = λ told. g.delivered (f.telling ∙ told) ∙ f.grew told;
  failures = subst (λ (y : ℕ). y < last_u64 → y ≡ a.failures + (m + n)) (sym g.failures) f.failures;
}

-- ---- the same with what was taken

delivered_of : {ds : List Delivery} {xs : List Sent} {m n : ℕ} {a b : EndState} → DeliversAndTakes ds xs m n a b → Delivered ds m n a b
delivered_of r = record { telling = r.telling; grew = r.delivered; failures = r.failures }

runs_of : {ds : List Delivery} {xs : List Sent} {m n : ℕ} {a b : EndState} → Delivered ds m n a b → (IsTrue a.tells → TakesAllBut n a.taken b.taken xs) →
    (b.sends < last_u64 → b.sends ≡ a.sends + length xs) → DeliversAndTakes ds xs m n a b
runs_of d taken sends = record { telling = d.telling; delivered = d.grew; taken = taken; failures = d.failures; sends = sends }

-- no turns change nothing
pub runs_none : (e : EndState) → DeliversAndTakes [] [] 0 0 e e
runs_none e = runs_of (delivered_none e) (λ _. takes_none e.taken e.taken refl) (λ _. omega arith)

-- turns after turns
pub runs_more : {ds es : List Delivery} {xs ys : List Sent} {m n k j : ℕ} {a b c : EndState} → DeliversAndTakes ds xs m n a b → DeliversAndTakes es ys k j b c → DeliversAndTakes (ds ++ es) (xs ++ ys) (m + k) (n + j) a c
runs_more {xs = xs} {ys = ys} f g =
    runs_of (delivered_more (delivered_of f) (delivered_of g)) (λ told. takes_more (f.taken told) (g.taken (f.telling ∙ told)))
    (counts_more xs ys _ _ _ f.sends g.sends)

-- one was heard, and the others were sent
pub runs_one : (x : Delivery) {h : Heard} {bytes : List ℕ} {all : List Sent} {k : ℕ} {a b c : EndState} → Receives h bytes a b → SendsAllBut k b c all →
    (IsTrue a.tells → b.delivered ≡ a.delivered ++ x ∷ []) → DeliversAndTakes (x ∷ []) all (cond (is_failed h) 1 0) k a c
runs_one x {all = all} {k = k} {c = c} received sent grew =
    runs_of (delivered_one x received sent grew refl)
    (λ told. subst (λ (t : List Sent). TakesAllBut k t c.taken all) (received.taken told) (sent.taken (received.telling ∙ told)))
    (subst (λ (n : ℕ). c.sends < last_u64 → c.sends ≡ n + length all) received.sends sent.sends)

-- and then Closed
pub runs_closed : {ds : List Delivery} {xs : List Sent} {m n : ℕ} {bytes : List ℕ} {a b c : EndState} → DeliversAndTakes ds xs m n a b → Receives heard.Closed bytes b c → DeliversAndTakes ds xs m n a c
runs_closed {xs = xs} {n = n} {a = a} f g =
    runs_of (delivered_closed (delivered_of f) g)
    (λ told. subst (λ (t : List Sent). TakesAllBut n a.taken t xs) (sym (g.taken (f.telling ∙ told))) (f.taken told))
    (subst (λ (n : ℕ). n < last_u64 → n ≡ a.sends + length xs) (sym g.sends) f.sends)

-- ---- how often was received

-- one receive a turn, short of the last value
pub received_more : (a b c k n : ℕ) → (b < last_u64 → b ≡ a + k) → c ≡ one_more b → n ≡ k + 1 → c < last_u64 → c ≡ a + n
received_more a b c k n h e f below =
    let before : b < last_u64 = omega arith in
    let so_far = h before in
    omega arith
