-- Groups of answers, and their packets.
use Rattle.oca_device.proofs.Words.{◌≡◌, ℕ, zero, suc, ◌+◌, ◌≤◌, ◌<◌, Bool, true, false, cond, List, [], ◌∷◌, ◌++◌, length, refl, sym, ap, ◌∙◌, arith, nat_le, ◌↔◌, slice_index_or, slice_set, take}
use Rattle.oca_device.proofs.Words.{Result, Ok, Err, IsOk, OnOk, OnErr, is_ok, le-leb, leb-true, lt-ltb, le-ltb, ltb-true, ltb-false, append_assoc, take_more, take_all, take-append-le, length-take-le}
use Rattle.oca_device.proofs.Words.{length-map, length-append, map-append, take-set_at, ResponseFields, Msg, Command, Response, KeepAlive, Pdu, Commands, Responses, OneKeepAlive, pdu_encoding}
use Rattle.oca_device.proofs.Words.{ArrayVec, IsResponses, responses_size, bytes_of_packets, KeptPackets, first_packets, AreEncodings, AreGrouped, IsGrouped, Joins, JoinsLast, pdu_of, last_with}
use Rattle.oca_device.proofs.Words.{from_with, with_answer, with_answers, encodings, on_bool}
use Rattle.std.specs.Prelude.{◌-◌}
use Rattle.oca_pdu.specs.declared.message.Form.{Form}

pub answers_both : (groups : List Pdu) (xs ys : List Msg) → with_answers groups (xs ++ ys) ≡ with_answers (with_answers groups xs) ys
answers_both groups [] ys = refl
answers_both groups (x ∷ xs) ys = answers_both (with_answer groups x) xs ys

-- ---- the last group

from_end : (q p : Pdu) (front : List Pdu) (m : Msg) → from_with q (front ++ p ∷ []) m ≡ q ∷ (front ++ last_with p m)
from_end q p [] m = refl
from_end q p (r ∷ front) m = ap (λ (x : List Pdu). q ∷ x) (from_end r p front m)

pub with_last : (front : List Pdu) (p : Pdu) (m : Msg) → with_answer (front ++ p ∷ []) m ≡ front ++ last_with p m
with_last [] p m = refl
with_last (q ∷ front) p m = from_end q p front m

-- the groups of packets of which there is a last one
pub record Ended (groups : List Pdu) (xs : List (List ℕ)) (x : List ℕ) : Type 0 where
  pub front : List Pdu
  pub last : Pdu
  pub groups_are : groups ≡ front ++ last ∷ []
  pub front_is : encodings front ≡ xs
  pub last_is : x ≡ pdu_encoding last

first_or : List ℕ → List (List ℕ) → List ℕ
first_or d [] = d
first_or d (x ∷ xs) = x

rest_of : List (List ℕ) → List (List ℕ)
rest_of [] = []
rest_of (x ∷ xs) = xs

first_same : (x y : List ℕ) (xs ys : List (List ℕ)) → x ∷ xs ≡ y ∷ ys → x ≡ y
unfolding first_or
first_same x y xs ys e = ap (first_or []) e

rest_same : (x y : List ℕ) (xs ys : List (List ℕ)) → x ∷ xs ≡ y ∷ ys → xs ≡ ys
unfolding rest_of
rest_same x y xs ys e = ap rest_of e

not_both_ends : {P : Type 0} (x y : List ℕ) (xs : List (List ℕ)) → x ∷ xs ≡ [] → P
not_both_ends x y xs e = absurd cc

nothing_before : {P : Type 0} (xs : List (List ℕ)) (x : List ℕ) → xs ++ x ∷ [] ≡ [] → P
nothing_before [] x e = absurd cc
nothing_before (y ∷ xs) x e = absurd cc

pub ended : (groups : List Pdu) (xs : List (List ℕ)) (x : List ℕ) → xs ++ x ∷ [] ≡ encodings groups → Ended groups xs x
ended [] xs x e = nothing_before xs x e
ended (p ∷ groups) [] x e = by groups (rest_same x (pdu_encoding p) [] (encodings groups) e)
  where
    by : (gs : List Pdu) → [] ≡ encodings gs → Ended (p ∷ gs) [] x
    by [] f = record { front = []; last = p; groups_are = refl; front_is = refl; last_is = first_same x (pdu_encoding p) [] (encodings groups) e }
    by (q ∷ gs) f = not_both_ends (pdu_encoding q) [] (encodings gs) (sym f)
ended (p ∷ groups) (y ∷ xs) x e =
    let rest = ended groups xs x (rest_same y (pdu_encoding p) (xs ++ x ∷ []) (encodings groups) e) in
    record {
      front = p ∷ rest.front;
      last = rest.last;
      groups_are = ap (λ (gs : List Pdu). p ∷ gs) rest.groups_are;
      front_is = ap (λ (l : List (List ℕ)). pdu_encoding p ∷ l) rest.front_is ∙ ap (λ (z : List ℕ). z ∷ xs) (sym (first_same y (pdu_encoding p) (xs ++ x ∷ []) (encodings groups) e));
      last_is = rest.last_is;
    }

-- ---- a response joins a packet of responses, or begins one

module _ {X Y : Type 0} (rs : List ResponseFields) (r : ResponseFields) (old new : List ℕ) where
  pub extended : (result : Result X Y) → (IsOk result ↔ (responses_size (rs ++ r ∷ []) ≤ 1472)) → OnOk result (IsResponses (rs ++ r ∷ []) new) → OnErr result (new ≡ old) →
      Joins (is_ok result) (Responses rs) (Response r) old new
  extended (Ok x) size ok err = (
    Responses (rs ++ r ∷ []),
    ap (λ b. cond b (Responses (rs ++ r ∷ []) ∷ []) (Responses rs ∷ Responses (r ∷ []) ∷ [])) (le-leb (responses_size (rs ++ r ∷ [])) 1472 (size.0 refl)),
    ok,
  )
  extended (Err x) size ok err = (by (nat_le (responses_size (rs ++ r ∷ [])) 1472) refl, err)
    where
      never : false ≡ true → ⊥
      never e = cc

      by : (b : Bool) → nat_le (responses_size (rs ++ r ∷ [])) 1472 ≡ b →
          cond b (Responses (rs ++ r ∷ []) ∷ []) (Responses rs ∷ Responses (r ∷ []) ∷ []) ≡ Responses rs ∷ Responses (r ∷ []) ∷ []
      by true e = absurd (never (size.1 (leb-true (responses_size (rs ++ r ∷ [])) 1472 e)))
      by false e = refl

-- the last of some packets, and what it is set to
pub last_bytes : (xs : List (ArrayVec ℕ)) (count : ℕ) (d : ArrayVec ℕ) → (count ≡ 0 → ⊥) → count ≤ length xs →
    bytes_of_packets (take count xs) ≡ bytes_of_packets (take (count - 1) xs) ++ (slice_index_or xs (count - 1) d).items ∷ []
last_bytes xs count d some le =
    let one : count ≡ count - 1 + 1 = omega (arith, some) in
    ap (λ (n : ℕ). bytes_of_packets (take n xs)) one
    ∙ ap bytes_of_packets (take_more xs (count - 1) d (omega (arith, one, le)))
    ∙ map-append (λ (p : ArrayVec ℕ). p.items) (take (count - 1) xs) (slice_index_or xs (count - 1) d ∷ [])

pub set_bytes : (xs : List (ArrayVec ℕ)) (i n : ℕ) (y : ArrayVec ℕ) → n ≡ i + 1 → i < length xs →
    bytes_of_packets (take n (slice_set xs i y)) ≡ bytes_of_packets (take i xs) ++ y.items ∷ []
set_bytes xs i n y e h = ap bytes_of_packets (take-set_at xs i n y e h) ∙ map-append (λ (p : ArrayVec ℕ). p.items) (take i xs) (y ∷ [])

pub joins_last : (b : Bool) (m : Msg) (xs : List (List ℕ)) (x x' : List ℕ) → AreEncodings (xs ++ x ∷ []) → ((p : Pdu) → x ≡ pdu_encoding p → Joins b p m x x') →
    JoinsLast b m (xs ++ x ∷ []) (xs ++ x' ∷ [])
joins_last true m xs x x' some h = (
  omega (arith, length-append xs (x ∷ []), length-append xs (x' ∷ [])),
  λ groups e.
      let end = ended groups xs x e in
      let j = h end.last end.last_is in
      ap (λ (ys : List (List ℕ)). ys ++ x' ∷ []) (sym end.front_is)
      ∙ ap (λ (y : List ℕ). encodings end.front ++ y ∷ []) j.2
      ∙ sym (map-append pdu_encoding end.front (j.0 ∷ []))
      ∙ ap encodings (ap (λ (ps : List Pdu). end.front ++ ps) (sym j.1) ∙ sym (with_last end.front end.last m) ∙ ap (λ (ps : List Pdu). with_answer ps m) (sym end.groups_are)),
)
joins_last false m xs x x' some h =
    let end = ended some.0 xs x some.1 in (
      ap (λ (y : List ℕ). xs ++ y ∷ []) (h end.last end.last_is).1,
      λ groups e.
          let its = ended groups xs x e in
          ap (λ (ps : List Pdu). with_answer ps m) its.groups_are ∙ with_last its.front its.last m
          ∙ ap (λ (ps : List Pdu). its.front ++ ps) (h its.last its.last_is).0
          ∙ sym (append_assoc its.front (its.last ∷ []) (pdu_of m ∷ []))
          ∙ ap (λ (ps : List Pdu). ps ++ pdu_of m ∷ []) (sym its.groups_are),
    )

pub none_before : (m : Msg) (groups : List Pdu) → [] ≡ encodings groups → with_answer groups m ≡ groups ++ pdu_of m ∷ []
none_before m [] e = refl
none_before m (p ∷ groups) e = absurd cc

-- ---- what is kept of packets

abbrev pub kept : List (List ℕ) → ℕ → Bool → KeptPackets
kept packets room is_cut = record { packets = packets; room = room; is_cut = is_cut }

-- so many packets are as many
pub count_is : (count : ℕ) (xs : List (ArrayVec ℕ)) → count ≤ length xs → length (bytes_of_packets (take count xs)) ≡ count
count_is count xs h = length-map (take count xs) (λ (p : ArrayVec ℕ). p.items) ∙ length-take-le count xs h

-- where none was left out, all are kept
pub whole_kept : (room : ℕ) (ps : List (List ℕ)) → length ps ≤ room → kept ps room false ≡ first_packets room ps
whole_kept room ps h = ap (λ (xs : List (List ℕ)). kept xs room false) (sym (take_all room ps h)) ∙ ap (kept (take room ps) room) (sym (le-ltb room (length ps) h))

cut_kept : (room : ℕ) (ps qs : List (List ℕ)) → qs ≡ take room ps → room < length ps → kept qs room true ≡ first_packets room ps
cut_kept room ps qs e h = ap (λ (xs : List (List ℕ)). kept xs room true) e ∙ ap (kept (take room ps) room) (sym (lt-ltb room (length ps) h))

-- of no more packets than there is room for, all are kept
pub all_kept : (k : KeptPackets) (room : ℕ) (ps : List (List ℕ)) → k ≡ first_packets room ps → length ps ≤ room → k.packets ≡ ps
all_kept k room ps e h = ap (λ (x : KeptPackets). x.packets) e ∙ take_all room ps h

-- what is known where the packets are the first of some
record WasWhole (bs : List (List ℕ)) (r room : ℕ) (ps : List (List ℕ)) : Type 0 where
  pub room_is : r ≡ room
  pub all : bs ≡ ps

was_whole : (bs : List (List ℕ)) (r room : ℕ) (ps : List (List ℕ)) → kept bs r false ≡ first_packets room ps → WasWhole bs r room ps
was_whole bs r room ps e =
    let few : length ps ≤ room = ltb-false room (length ps) (sym (ap (λ (k : KeptPackets). k.is_cut) e)) in
    record {
      room_is = ap (λ (k : KeptPackets). k.room) e;
      all = ap (λ (k : KeptPackets). k.packets) e ∙ take_all room ps few;
    }

record WasCut (bs : List (List ℕ)) (r room : ℕ) (ps : List (List ℕ)) : Type 0 where
  pub room_is : r ≡ room
  pub first : bs ≡ take room ps
  pub more : room < length ps

was_cut : (bs : List (List ℕ)) (r room : ℕ) (ps : List (List ℕ)) → kept bs r true ≡ first_packets room ps → WasCut bs r room ps
was_cut bs r room ps e = record {
  room_is = ap (λ (k : KeptPackets). k.room) e;
  first = ap (λ (k : KeptPackets). k.packets) e;
  more = ltb-true room (length ps) (sym (ap (λ (k : KeptPackets). k.is_cut) e));
}

-- an answer joined the last packet
pub joined_so : (m : Msg) (before after : List (List ℕ)) (r : ℕ) → length before ≤ r → AreGrouped (kept before r false) → JoinsLast true m before after →
    IsGrouped m (kept before r false) (kept after r false)
joined_so m before after r fits some h =
    let grown : (room : ℕ) (groups : List Pdu) → kept before r false ≡ first_packets room (encodings groups) → kept after r false ≡ first_packets room (encodings (with_answer groups m)) = λ room groups is.
    let was = was_whole before r room (encodings groups) is in
    let all : after ≡ encodings (with_answer groups m) = h.1 groups was.all in
    ap (λ (ps : List (List ℕ)). kept ps r false) all ∙ ap (λ (n : ℕ). kept (encodings (with_answer groups m)) n false) was.room_is
    ∙ whole_kept room (encodings (with_answer groups m)) (omega (arith, fits, h.0, ap length all, was.room_is)) in
    record {
      groups = grown;
      still = (with_answer some.0 m, grown r some.0 some.1);
      room = refl;
    }

-- an answer begins a packet, for which there is room
pub alone_so : (m : Msg) (before after : List (List ℕ)) (r : ℕ) → length before < r → AreGrouped (kept before r false) →
    ((groups : List Pdu) → before ≡ encodings groups → with_answer groups m ≡ groups ++ pdu_of m ∷ []) →
    after ≡ before ++ pdu_encoding (pdu_of m) ∷ [] → IsGrouped m (kept before r false) (kept after r false)
alone_so m before after r fits some h e =
    let grown : (room : ℕ) (groups : List Pdu) → kept before r false ≡ first_packets room (encodings groups) → kept after r false ≡ first_packets room (encodings (with_answer groups m)) = λ room groups is.
    let was = was_whole before r room (encodings groups) is in
    let all : after ≡ encodings (with_answer groups m) =
    e ∙ ap (λ (ys : List (List ℕ)). ys ++ pdu_encoding (pdu_of m) ∷ []) was.all ∙ sym (map-append pdu_encoding groups (pdu_of m ∷ [])) ∙ ap encodings (sym (h groups was.all)) in
    ap (λ (ps : List (List ℕ)). kept ps r false) all ∙ ap (λ (n : ℕ). kept (encodings (with_answer groups m)) n false) was.room_is
    ∙ whole_kept room (encodings (with_answer groups m))
    (omega (arith, fits, ap length e, length-append before (pdu_encoding (pdu_of m) ∷ []), ap length all, was.room_is)) in
    record {
      groups = grown;
      still = (with_answer some.0 m, grown r some.0 some.1);
      room = refl;
    }

-- an answer begins a packet, for which there is no room
pub left_out_so : (m : Msg) (before : List (List ℕ)) (r : ℕ) → length before ≡ r → AreGrouped (kept before r false) →
    ((groups : List Pdu) → before ≡ encodings groups → with_answer groups m ≡ groups ++ pdu_of m ∷ []) →
    IsGrouped m (kept before r false) (kept before r true)
left_out_so m before r full some h =
    let grown : (room : ℕ) (groups : List Pdu) → kept before r false ≡ first_packets room (encodings groups) → kept before r true ≡ first_packets room (encodings (with_answer groups m)) = λ room groups is.
    let was = was_whole before r room (encodings groups) is in
    let all : encodings (with_answer groups m) ≡ before ++ pdu_encoding (pdu_of m) ∷ [] =
    ap encodings (h groups was.all) ∙ map-append pdu_encoding groups (pdu_of m ∷ []) ∙ ap (λ (ys : List (List ℕ)). ys ++ pdu_encoding (pdu_of m) ∷ []) (sym was.all) in
    let first : before ≡ take room (encodings (with_answer groups m)) =
    sym (take_all room before (omega (arith, full, was.room_is))) ∙ sym (take-append-le room before (pdu_encoding (pdu_of m) ∷ []) (omega (arith, full, was.room_is))) ∙ ap (take room) (sym all) in
    ap (λ (n : ℕ). kept before n true) was.room_is
    ∙ cut_kept room (encodings (with_answer groups m)) before first
    (omega (arith, full, was.room_is, ap length all, length-append before (pdu_encoding (pdu_of m) ∷ []))) in
    record {
      groups = grown;
      still = (with_answer some.0 m, grown r some.0 some.1);
      room = refl;
    }

one_or_two : (p : Pdu) (m : Msg) → 0 < length (encodings (last_with p m))
one_or_two (Responses rs) (Response r) =
    on_bool (nat_le (length (pdu_encoding (Responses (rs ++ r ∷ [])))) 1472) (λ b. 0 < length (encodings (cond b (Responses (rs ++ r ∷ []) ∷ []) (Responses rs ∷ Responses (r ∷ []) ∷ []))))
    (omega arith) (omega arith)
one_or_two (Responses rs) (KeepAlive form) = omega arith
one_or_two (Responses rs) (Command respond c) = omega arith
one_or_two (OneKeepAlive form) m = omega arith
one_or_two (Commands respond cs) m = omega arith

-- one more answer leaves the packets before the last as they are, and makes none fewer
front_same : (room : ℕ) (p : Pdu) (groups : List Pdu) (m : Msg) → room ≤ length (encodings groups) →
    take room (encodings (p ∷ groups)) ≡ take room (encodings (from_with p groups m))
front_same zero p groups m h = refl
front_same (suc n) p [] m h = absurd (omega (arith, h))
front_same (suc n) p (q ∷ groups) m h = ap (λ (ps : List (List ℕ)). pdu_encoding p ∷ ps) (front_same n q groups m (omega (arith, h)))

not_fewer : (p : Pdu) (groups : List Pdu) (m : Msg) → length (encodings groups) < length (encodings (from_with p groups m))
not_fewer p [] m = one_or_two p m
not_fewer p (q ∷ groups) m = omega (arith, not_fewer q groups m)

-- an answer behind one that was left out is left out
pub cut_so : (m : Msg) (before : List (List ℕ)) (r : ℕ) → AreGrouped (kept before r true) → IsGrouped m (kept before r true) (kept before r true)
cut_so m before r some =
    let grown : (room : ℕ) (groups : List Pdu) → kept before r true ≡ first_packets room (encodings groups) → kept before r true ≡ first_packets room (encodings (with_answer groups m)) =
    λ room groups is. by room groups (was_cut before r room (encodings groups) is) in
    record {
      groups = grown;
      still = (with_answer some.0 m, grown r some.0 some.1);
      room = refl;
    }
  where
    by : (room : ℕ) (groups : List Pdu) → WasCut before r room (encodings groups) → kept before r true ≡ first_packets room (encodings (with_answer groups m))
    by room [] was = absurd (omega (arith, was.more))
    by room (p ∷ groups) was =
        ap (λ (n : ℕ). kept before n true) was.room_is
        ∙ cut_kept room (encodings (from_with p groups m)) before (was.first ∙ front_same room p groups m (omega (arith, was.more))) (omega (arith, was.more, not_fewer p groups m))

alive_last : (p : Pdu) (form : Form) → last_with p (KeepAlive form) ≡ p ∷ OneKeepAlive form ∷ []
alive_last (Responses rs) form = refl
alive_last _ form = refl

alive_from : (p : Pdu) (groups : List Pdu) (form : Form) → from_with p groups (KeepAlive form) ≡ p ∷ groups ++ OneKeepAlive form ∷ []
alive_from p [] form = alive_last p form
alive_from p (q ∷ groups) form = ap (λ (ps : List Pdu). p ∷ ps) (alive_from q groups form)

pub alive_alone : (form : Form) (groups : List Pdu) → with_answer groups (KeepAlive form) ≡ groups ++ OneKeepAlive form ∷ []
alive_alone form [] = refl
alive_alone form (p ∷ groups) = alive_from p groups form

pub items_kept : {X Y : Type 0} (old new : ArrayVec ℕ) (result : Result X Y) → OnErr result (new ≡ old) → OnErr result (new.items ≡ old.items)
items_kept old new (Ok x) h = h
items_kept old new (Err x) h = ap (λ (p : ArrayVec ℕ). p.items) h
