-- Sends one after another: what an end says of itself then.
use Rattle.std.proofs.Common.{◌≡◌, ℕ, ◌+◌, ◌<◌, Bool, true, false, cond, List, [], ◌∷◌, ◌++◌, length, refl, sym, ap, ◌∙◌, subst, arith}
use Rattle.std.proofs.lemmas.List.{append_assoc, append-nil, length-append}
use Rattle.oca_types.specs.declared.words.Peer.{Peer}
use Rattle.oca_net.specs.Deliveries.{Sent}
use Rattle.oca_net.specs.Ends.{last_u64, one_more, taken_after, failures_sent, Lacks, none, both, missing, TakesAllBut}
use Rattle.oca_net.specs.EndStates.{EndState, Sends, SendsAllBut}

-- ---- what an end took

lacks_both : {X : Type 0} (k j : ℕ) (xs ys us vs : List X) → Lacks k xs ys → Lacks j us vs → Lacks (k + j) (xs ++ us) (ys ++ vs)
lacks_both k j xs ys us vs none b = subst (λ (n : ℕ). Lacks n us vs) (from_zero j) b
  where
    from_zero : (n : ℕ) → n ≡ 0 + n
    from_zero n = omega arith
lacks_both k j xs ys us vs (both x a) b = both x (lacks_both _ j _ _ us vs a b)
lacks_both k j xs ys us vs (missing {k = i} y a) b = subst (λ (n : ℕ). Lacks n (xs ++ us) (ys ++ vs)) (one_later i j) (missing y (lacks_both i j xs _ us vs a b))
  where
    one_later : (i j : ℕ) → i + j + 1 ≡ i + 1 + j
    one_later i j = omega arith

-- nothing is taken
pub takes_none : (t t' : List Sent) → t' ≡ t → TakesAllBut 0 t t' []
takes_none t t' same = record { sent = []; grew = same ∙ sym (append-nil t); part = none }

-- datagrams are taken after others
pub takes_more : {k j : ℕ} {a b c xs ys : List Sent} → TakesAllBut k a b xs → TakesAllBut j b c ys → TakesAllBut (k + j) a c (xs ++ ys)
takes_more {k} {j} {a} {b} {c} {xs} {ys} f g = record {
  sent = f.sent ++ g.sent;
  grew = g.grew ∙ ap (λ zs. zs ++ g.sent) f.grew ∙ append_assoc a f.sent g.sent;
  part = lacks_both k j f.sent xs g.sent ys f.part g.part;
}

-- ---- how often was sent

-- these were sent, and then those
pub counts_more : (xs ys : List Sent) (a b c : ℕ) → (b < last_u64 → b ≡ a + length xs) → (c < last_u64 → c ≡ b + length ys) → c < last_u64 → c ≡ a + length (xs ++ ys)
counts_more xs ys a b c h i below =
    let last = i below in
    let before : b < last_u64 = omega arith in
    let so_far = h before in
    rw (length-append xs ys) (omega (arith, so_far, last))

-- ---- what an end says of itself

-- nothing was sent
pub sends_none : (e : EndState) → SendsAllBut 0 e e []
sends_none e = record {
  telling = refl;
  delivered = λ _. refl;
  taken = λ _. takes_none e.taken e.taken refl;
  closed = refl;
  failures = λ _. omega arith;
  receives = refl;
  sends = λ _. omega arith;
}

-- first the ones, then the others
pub sends_more : {k j : ℕ} {a b c : EndState} {xs ys : List Sent} → SendsAllBut k a b xs → SendsAllBut j b c ys → SendsAllBut (k + j) a c (xs ++ ys)
sends_more {k} {j} {a} {b} {c} {xs} {ys} f g = record {
  telling = g.telling ∙ f.telling;
  delivered = λ told. g.delivered (f.telling ∙ told) ∙ f.delivered told;
  taken = λ told. takes_more (f.taken told) (g.taken (f.telling ∙ told));
  closed = g.closed ∙ f.closed;
  failures = summed a.failures b.failures c.failures k j f.failures g.failures;
  receives = g.receives ∙ f.receives;
  sends = counts_more xs ys a.sends b.sends c.sends f.sends g.sends;
}
  where
    summed : (a b c k j : ℕ) → (b < last_u64 → b ≡ a + k) → (c < last_u64 → c ≡ b + j) → c < last_u64 → c ≡ a + (k + j)
    summed a b c k j h i below =
        let last = i below in
        let before : b < last_u64 = omega arith in
        omega (arith, h before, last)

-- one was sent
pub sends_one : {to : Peer} {bytes : List ℕ} {was_taken : Bool} {a b : EndState} → Sends was_taken to bytes a b →
    SendsAllBut (cond was_taken 0 1) a b ((record { to = to; bytes = bytes }) ∷ [])
sends_one {to} {bytes} {was_taken} {a} {b} s = record {
  telling = s.telling;
  delivered = s.delivered;
  taken = λ told. took was_taken a.taken b.taken (s.taken told);
  closed = s.closed;
  failures = counted was_taken a.failures b.failures s.failures;
  receives = s.receives;
  sends = λ below. once a.sends b.sends s.sends below;
}
  where
    took : (x : Bool) (t t' : List Sent) → t' ≡ taken_after x to bytes t → TakesAllBut (cond x 0 1) t t' ((record { to = to; bytes = bytes }) ∷ [])
    took true t t' e = record { sent = (record { to = to; bytes = bytes }) ∷ []; grew = e; part = both (record { to = to; bytes = bytes }) none }
    took false t t' e = record { sent = []; grew = e ∙ sym (append-nil t); part = missing (record { to = to; bytes = bytes }) none }

    once : (m n : ℕ) → n ≡ one_more m → n < last_u64 → n ≡ m + 1
    once m n e below = omega arith

    counted : (x : Bool) (m n : ℕ) → n ≡ failures_sent x m → n < last_u64 → n ≡ m + cond x 0 1
    counted true m n e below = omega arith
    counted false m n e below = omega arith
