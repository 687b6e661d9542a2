-- Checking messages one after the other.
use Rattle.oca_pdu.proofs.Words.{◌≡◌, ℕ, suc, ◌-◌, ◌+◌, ◌≤◌, ◌<◌, true, false, eqb, List, [], ◌∷◌, ◌++◌, length, Result, Ok, Err, refl, sym, ap, ◌∙◌, append_assoc, arith, is_ok, PduFault, Count, Kind, Msg, ◌>>=◌, fault, behind}
use Rattle.oca_pdu.specs.Reading.{message_at, messages_at}

-- what was read before, and what is still read
abbrev pub with_front : List Msg → Result (List Msg) PduFault → Result (List Msg) PduFault
with_front front read = read >>= λ ms. Ok (front ++ ms)

pub no_front : (read : Result (List Msg) PduFault) → with_front [] read ≡ read
no_front (Ok ms) = refl
no_front (Err f) = refl

regroup : (front : List Msg) (m : Msg) (read : Result (List Msg) PduFault) → with_front front (read >>= λ ms. Ok (m ∷ ms)) ≡ with_front (front ++ m ∷ []) read
regroup front m (Ok ms) = ap (λ (x : List Msg). Ok x) (simp append_assoc)
regroup front m (Err f) = refl

-- after i of count messages, reading the others makes up the whole
pub record Reads (kind : Kind) (count i p m : ℕ) (rest : List ℕ) (total : Result (List Msg) PduFault) : Type 0 where
  pub front : List Msg
  pub so_far : with_front front (messages_at kind (count - i) p m rest) ≡ total

pub starts : (kind : Kind) (count p m : ℕ) (rest : List ℕ) → Reads kind count 0 p m rest (messages_at kind count p m rest)
starts kind count p m rest =
    let k : count - 0 ≡ count = omega arith in
    record { front = []; so_far = rw k (no_front (messages_at kind count p m rest)) }

abbrev done : {A : Type 0} → A → Result A PduFault
done x = Ok x

pub ok_is : {A : Type 0} (x y : A) → done x ≡ done y → x ≡ y
ok_is x y e = cc

pub read_is : {A : Type 0} (r : Result (A × List ℕ) PduFault) (after : List ℕ) → behind r ≡ Ok after → (x : A) × (r ≡ Ok (x, after))
read_is (Ok x) after e =
    let same : x.1 ≡ after = ok_is x.1 after e in
    (x.0, ap (λ (r : List ℕ). Ok (x.0, r)) same)
read_is (Err f) after e = absurd cc

goes_by : (kind : Kind) (count i p m m' : ℕ) (rest : List ℕ) (first : Msg) (after : List ℕ) (front : List Msg) (total : Result (List Msg) PduFault) → i < count → eqb (length rest) 0 ≡ false → message_at kind m rest ≡ Ok (first, after) → m' ≡ m + (length rest - length after)
    → with_front front (messages_at kind (count - i) p m rest) ≡ total → with_front (front ++ first ∷ []) (messages_at kind (count - (i + 1)) p m' after) ≡ total
unfolding messages_at
goes_by kind count i p m m' rest first after front total lt some h e so_far =
    let k : count - i ≡ suc (count - (i + 1)) = omega arith in
    let one : with_front front (messages_at kind (count - i) p m rest) ≡ with_front (front ++ first ∷ []) (messages_at kind (count - (i + 1)) p m' after)
    = rw (k, some, h, e) (regroup front first (messages_at kind (count - (i + 1)) p (m + (length rest - length after)) after)) in
    sym one ∙ so_far

pub goes_on : (kind : Kind) (count i p m m' : ℕ) (rest after : List ℕ) (total : Result (List Msg) PduFault) → i < count → eqb (length rest) 0 ≡ false → behind (message_at kind m rest) ≡ Ok after → m' ≡ m + (length rest - length after)
    → Reads kind count i p m rest total → Reads kind count (i + 1) p m' after total
goes_on kind count i p m m' rest after total lt some h e r =
    let first = read_is (message_at kind m rest) after h in
    record { front = r.front ++ first.0 ∷ []; so_far = goes_by kind count i p m m' rest first.0 after r.front total lt some first.1 e r.so_far }

pub ends : (kind : Kind) (count i p m : ℕ) (rest : List ℕ) (f : PduFault) (total : Result (List Msg) PduFault) → i < count → eqb (length rest) 0 ≡ false → message_at kind m rest ≡ Err f → Reads kind count i p m rest total → total ≡ Err f
unfolding messages_at
ends kind count i p m rest f total lt some h r =
    let k : count - i ≡ suc (count - (i + 1)) = omega arith in
    let one : with_front r.front (messages_at kind (count - i) p m rest) ≡ Err f = rw (k, some, h) refl in
    sym r.so_far ∙ one

pub ends_early : (kind : Kind) (count i p m : ℕ) (rest : List ℕ) (total : Result (List Msg) PduFault) → i < count → eqb (length rest) 0 ≡ true → Reads kind count i p m rest total → total ≡ fault Count (p + 8)
unfolding messages_at
ends_early kind count i p m rest total lt none r =
    let k : count - i ≡ suc (count - (i + 1)) = omega arith in
    let one : with_front r.front (messages_at kind (count - i) p m rest) ≡ fault Count (p + 8) = rw (k, none) refl in
    sym r.so_far ∙ one

pub ends_late : (kind : Kind) (count i p m : ℕ) (rest : List ℕ) (total : Result (List Msg) PduFault) → count ≤ i → eqb (length rest) 0 ≡ false → Reads kind count i p m rest total → total ≡ fault Count (p + 8)
unfolding messages_at
ends_late kind count i p m rest total le some r =
    let k : count - i ≡ 0 = omega arith in
    let one : with_front r.front (messages_at kind (count - i) p m rest) ≡ fault Count (p + 8) = rw (k, some) refl in
    sym r.so_far ∙ one

pub is_done : (kind : Kind) (count i p m : ℕ) (rest : List ℕ) (total : Result (List Msg) PduFault) → count ≤ i → eqb (length rest) 0 ≡ true → Reads kind count i p m rest total → is_ok total ≡ true
unfolding messages_at
is_done kind count i p m rest total le none r =
    let k : count - i ≡ 0 = omega arith in
    let one : with_front r.front (messages_at kind (count - i) p m rest) ≡ Ok (r.front ++ []) = rw (k, none) refl in
    ap is_ok (sym r.so_far ∙ one)
