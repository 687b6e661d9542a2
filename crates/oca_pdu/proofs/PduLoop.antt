-- Checking PDUs one after the other.
use Rattle.oca_pdu.proofs.Words.{◌≡◌, ℕ, suc, ◌-◌, ◌+◌, ◌≤◌, ◌<◌, true, false, eqb, List, [], ◌++◌, length, Result, Ok, Err, refl, sym, ap, ◌∙◌, append_assoc, arith, is_ok, PduFault, Msg, ◌>>=◌, behind}
use Rattle.oca_pdu.specs.Reading.{pdu_at, pdus_at}
use Rattle.oca_pdu.proofs.MessageLoop.{with_front, no_front, read_is}

regroup : (front these : List Msg) (read : Result (List Msg) PduFault) → with_front front (read >>= λ ms. Ok (these ++ ms)) ≡ with_front (front ++ these) read
regroup front these (Ok ms) = ap (λ (x : List Msg). Ok x) (simp append_assoc)
regroup front these (Err f) = refl

-- after i of at most n PDUs, reading the others makes up the whole
pub record Reads (n i p : ℕ) (rest : List ℕ) (total : Result (List Msg) PduFault) : Type 0 where
  pub front : List Msg
  pub so_far : with_front front (pdus_at (n - i) p rest) ≡ total

pub starts : (n p : ℕ) (rest : List ℕ) → Reads n 0 p rest (pdus_at n p rest)
starts n p rest =
    let k : n - 0 ≡ n = omega arith in
    record { front = []; so_far = rw k (no_front (pdus_at n p rest)) }

goes_by : (n i p p' : ℕ) (rest after : List ℕ) (these front : List Msg) (total : Result (List Msg) PduFault) → i < n → eqb (length rest) 0 ≡ false → pdu_at p rest ≡ Ok (these, after) → p' ≡ p + (length rest - length after)
    → with_front front (pdus_at (n - i) p rest) ≡ total → with_front (front ++ these) (pdus_at (n - (i + 1)) p' after) ≡ total
unfolding pdus_at
goes_by n i p p' rest after these front total lt some h e so_far =
    let k : n - i ≡ suc (n - (i + 1)) = omega arith in
    let one : with_front front (pdus_at (n - i) p rest) ≡ with_front (front ++ these) (pdus_at (n - (i + 1)) p' after)
    = rw (k, some, h, e) (regroup front these (pdus_at (n - (i + 1)) (p + (length rest - length after)) after)) in
    sym one ∙ so_far

pub goes_on : (n i p p' : ℕ) (rest after : List ℕ) (total : Result (List Msg) PduFault) → i < n → eqb (length rest) 0 ≡ false → behind (pdu_at p rest) ≡ Ok after → p' ≡ p + (length rest - length after)
    → Reads n i p rest total → Reads n (i + 1) p' after total
goes_on n i p p' rest after total lt some h e r =
    let first = read_is (pdu_at p rest) after h in
    record { front = r.front ++ first.0; so_far = goes_by n i p p' rest after first.0 r.front total lt some first.1 e r.so_far }

pub ends : (n i p : ℕ) (rest : List ℕ) (f : PduFault) (total : Result (List Msg) PduFault) → i < n → eqb (length rest) 0 ≡ false → pdu_at p rest ≡ Err f → Reads n i p rest total → total ≡ Err f
unfolding pdus_at
ends n i p rest f total lt some h r =
    let k : n - i ≡ suc (n - (i + 1)) = omega arith in
    let one : with_front r.front (pdus_at (n - i) p rest) ≡ Err f = rw (k, some, h) refl in
    sym r.so_far ∙ one

pub is_done_early : (n i p : ℕ) (rest : List ℕ) (total : Result (List Msg) PduFault) → i < n → eqb (length rest) 0 ≡ true → Reads n i p rest total → is_ok total ≡ true
unfolding pdus_at
is_done_early n i p rest total lt none r =
    let k : n - i ≡ suc (n - (i + 1)) = omega arith in
    let one : with_front r.front (pdus_at (n - i) p rest) ≡ Ok (r.front ++ []) = rw (k, none) refl in
    ap is_ok (sym r.so_far ∙ one)

pub is_done : (n i p : ℕ) (rest : List ℕ) (total : Result (List Msg) PduFault) → n ≤ i → Reads n i p rest total → is_ok total ≡ true
unfolding pdus_at
is_done n i p rest total le r =
    let k : n - i ≡ 0 = omega arith in
    let one : with_front r.front (pdus_at (n - i) p rest) ≡ Ok (r.front ++ []) = rw k refl in
    ap is_ok (sym r.so_far ∙ one)
