-- The groups of answers are there, and they are the only ones.
use Rattle.oca_device.proofs.Words.{◌≡◌, ℕ, ◌+◌, ◌≤◌, ◌<◌, Bool, true, false, cond, List, [], ◌∷◌, ◌++◌, length, refl, sym, ap, ◌∙◌, subst, arith, map, nat_le, ⊤, flat_map, AllByRecursion, nat_tests}
use Rattle.oca_device.proofs.Words.{flat_map-append, append_assoc, append-nil, length-append, map-append, ResponseFields, Msg, Command, Response, KeepAlive, Pdu, Commands, Responses, OneKeepAlive}
use Rattle.oca_device.proofs.Words.{messages_of, response_encoding, pdu_encoding, IsGroup, IsFullBefore, AreGroups, IsAnswerMessage, pdu_of, with_response, last_with, from_with, with_answer}
use Rattle.oca_device.proofs.Words.{with_answers, groups_of, on_bool}

-- ---- the size of a PDU of responses

abbrev size : List ResponseFields → ℕ
size rs = length (pdu_encoding (Responses rs))

size_is : (rs : List ResponseFields) → size rs ≡ 10 + length (flat_map response_encoding rs)
size_is rs = omega arith

size_more : (rs more : List ResponseFields) → size rs ≤ size (rs ++ more)
size_more rs more = omega (arith, size_is rs, size_is (rs ++ more), ap length (flat_map-append response_encoding rs more), length-append (flat_map response_encoding rs) (flat_map response_encoding more))

size_one : (r : ResponseFields) → size (r ∷ []) ≡ 20 + length r.params
size_one r = omega (arith, size_is (r ∷ []), length-append (response_encoding r) [], one r)
  where
    one : (r : ResponseFields) → length (response_encoding r) ≡ 10 + length r.params
    one r = omega arith

-- ---- neighbours, one after the other

abbrev FullFirst : Pdu → List Pdu → Type 0
FullFirst p [] = ⊤
FullFirst p (q ∷ groups) = IsFullBefore p q

abbrev AreFull : List Pdu → Type 0
AreFull [] = ⊤
AreFull (p ∷ groups) = FullFirst p groups × AreFull groups

abbrev FullBetween : List Pdu → Type 0
FullBetween groups = (before after : List Pdu) (p q : Pdu) → groups ≡ before ++ p ∷ q ∷ after → IsFullBefore p q

full_first : (p : Pdu) (groups : List Pdu) → FullBetween (p ∷ groups) → FullFirst p groups
full_first p [] h = tt
full_first p (q ∷ groups) h = h [] groups p q refl

are_full : (groups : List Pdu) → FullBetween groups → AreFull groups
are_full [] h = tt
are_full (p ∷ groups) h = (full_first p groups h, are_full groups (λ before after x y e. h (p ∷ before) after x y (ap (λ (gs : List Pdu). p ∷ gs) e)))

first_or : Pdu → List Pdu → Pdu
first_or d [] = d
first_or d (x ∷ xs) = x

rest_of : List Pdu → List Pdu
rest_of [] = []
rest_of (x ∷ xs) = xs

first_same : (x y : Pdu) (xs ys : List Pdu) → x ∷ xs ≡ y ∷ ys → x ≡ y
unfolding first_or
first_same x y xs ys e = ap (first_or x) e

rest_same : (x y : Pdu) (xs ys : List Pdu) → x ∷ xs ≡ y ∷ ys → xs ≡ ys
unfolding rest_of
rest_same x y xs ys e = ap rest_of e

full_between : (groups : List Pdu) → AreFull groups → FullBetween groups
full_between [] h [] after p q e = absurd cc
full_between [] h (b ∷ before) after p q e = absurd cc
full_between (x ∷ groups) h [] after p q e =
    subst (λ (y : Pdu). IsFullBefore y q) (first_same x p groups (q ∷ after) e) (subst (λ (gs : List Pdu). FullFirst x gs) (rest_same x p groups (q ∷ after) e) h.0)
full_between (x ∷ groups) h (b ∷ before) after p q e = full_between groups h.1 before after p q (rest_same x b groups (before ++ p ∷ q ∷ after) e)

-- ---- one more answer

abbrev messages_of_groups : List Pdu → List Msg
messages_of_groups groups = flat_map messages_of groups

-- groups, apart from what they hold
abbrev AreSound : List Pdu → Type 0
AreSound groups = AllByRecursion IsGroup groups × AreFull groups

pub record Grown (groups before : List Pdu) (m : Msg) : Type 0 where
  pub sound : AreSound groups
  pub adds : messages_of_groups groups ≡ messages_of_groups before ++ m ∷ []

below : (n : ℕ) → nat_le n 1472 ≡ true → n ≤ 1472
below n h = grind (arith, nat_tests)

above : (n : ℕ) → nat_le n 1472 ≡ false → 1472 < n
above n h = grind (arith, nat_tests)

some_more : (rs : List ResponseFields) (r : ResponseFields) → 0 < length (rs ++ r ∷ [])
some_more rs r = omega (arith, length-append rs (r ∷ []))

last_response : (rs : List ResponseFields) (r : ResponseFields) → IsGroup (Responses rs) → length r.params ≤ 1452 → Grown (with_response rs r) (Responses rs ∷ []) (Response r)
last_response rs r g few = by (nat_le (length (pdu_encoding (Responses (rs ++ r ∷ [])))) 1472) refl
  where
    by : (b : Bool) → nat_le (length (pdu_encoding (Responses (rs ++ r ∷ [])))) 1472 ≡ b →
        Grown (cond b (Responses (rs ++ r ∷ []) ∷ []) (Responses rs ∷ Responses (r ∷ []) ∷ [])) (Responses rs ∷ []) (Response r)
    by true e = record {
      sound = (((some_more rs r, below (length (pdu_encoding (Responses (rs ++ r ∷ [])))) e), tt), (tt, tt));
      adds = append-nil (map (λ x. Response x) (rs ++ r ∷ [])) ∙ map-append (λ x. Response x) rs (r ∷ []) ∙ ap (λ (ms : List Msg). ms ++ Response r ∷ []) (sym (append-nil (map (λ x. Response x) rs)));
    }
    by false e = record {
      sound = ((g, ((omega arith, omega (arith, size_one r)), tt)), (above (length (pdu_encoding (Responses (rs ++ r ∷ [])))) e, (tt, tt)));
      adds = ap (λ (ms : List Msg). ms ++ Response r ∷ []) (sym (append-nil (map (λ x. Response x) rs)));
    }

one_group : (m : Msg) → IsAnswerMessage m → IsGroup (pdu_of m)
one_group (Command respond c) a = absurd a
one_group (Response r) a = (omega arith, omega (arith, size_one r))
one_group (KeepAlive form) a = tt

last_grown : (p : Pdu) (m : Msg) → IsGroup p → IsAnswerMessage m → Grown (last_with p m) (p ∷ []) m
last_grown (Responses rs) (Response r) g a = last_response rs r g a
last_grown (Responses rs) (KeepAlive form) g a = record { sound = ((g, (tt, tt)), (tt, (tt, tt))); adds = ap (λ (ms : List Msg). ms ++ KeepAlive form ∷ []) (sym (append-nil (map (λ x. Response x) rs))) }
last_grown (Responses rs) (Command respond c) g a = absurd a
last_grown (OneKeepAlive form) (Response r) g a = record { sound = ((tt, (one_group (Response r) a, tt)), (tt, (tt, tt))); adds = refl }
last_grown (OneKeepAlive form) (KeepAlive f) g a = record { sound = ((tt, (tt, tt)), (tt, (tt, tt))); adds = refl }
last_grown (OneKeepAlive form) (Command respond c) g a = absurd a
last_grown (Commands respond cs) m g a = absurd g

-- the first group keeps its first response
still_first : (p q : Pdu) (groups : List Pdu) (m : Msg) → IsGroup q → IsFullBefore p q → FullFirst p (from_with q groups m)
still_first p q (x ∷ groups) m g h = h
still_first p (Responses (s ∷ rs)) [] (Response r) g h =
    on_bool (nat_le (length (pdu_encoding (Responses (s ∷ rs ++ r ∷ [])))) 1472) (λ b. FullFirst p (cond b (Responses (s ∷ rs ++ r ∷ []) ∷ []) (Responses (s ∷ rs) ∷ Responses (r ∷ []) ∷ [])))
    (still p h) h
  where
    still : (y : Pdu) → IsFullBefore y (Responses (s ∷ rs)) → IsFullBefore y (Responses (s ∷ (rs ++ r ∷ [])))
    still (Responses xs) k = k
    still _ k = tt
still_first p (Responses []) [] (Response r) g h = absurd (omega (arith, g.0))
still_first p (Responses rs) [] (KeepAlive form) g h = h
still_first p (Responses rs) [] (Command respond c) g h = h
still_first p (OneKeepAlive form) [] m g h = h
still_first p (Commands respond cs) [] m g h = absurd g

from_grown : (p : Pdu) (groups : List Pdu) (m : Msg) → AreSound (p ∷ groups) → IsAnswerMessage m → Grown (from_with p groups m) (p ∷ groups) m
from_grown p [] m h a = last_grown p m h.0.0 a
from_grown p (q ∷ groups) m h a =
    let rest = from_grown q groups m (h.0.1, h.1.1) a in
    record {
      sound = ((h.0.0, rest.sound.0), (still_first p q groups m h.0.1.0 h.1.0, rest.sound.1));
      adds = ap (λ (ms : List Msg). messages_of p ++ ms) rest.adds ∙ sym (append_assoc (messages_of p) (messages_of_groups (q ∷ groups)) (m ∷ []));
    }

one_message : (m : Msg) → messages_of (pdu_of m) ≡ m ∷ []
one_message (Command respond c) = refl
one_message _ = refl

answer_grown : (groups : List Pdu) (m : Msg) → AreSound groups → IsAnswerMessage m → Grown (with_answer groups m) groups m
answer_grown [] m h a = record { sound = ((one_group m a, tt), (tt, tt)); adds = append-nil (messages_of (pdu_of m)) ∙ one_message m }
answer_grown (p ∷ groups) m h a = from_grown p groups m h a

pub record Built (groups before : List Pdu) (ms : List Msg) : Type 0 where
  pub sound : AreSound groups
  pub adds : messages_of_groups groups ≡ messages_of_groups before ++ ms

built : (groups : List Pdu) (ms : List Msg) → AreSound groups → AllByRecursion IsAnswerMessage ms → Built (with_answers groups ms) groups ms
built groups [] h a = record { sound = h; adds = sym (append-nil (messages_of_groups groups)) }
built groups (m ∷ ms) h a =
    let one = answer_grown groups m h a.0 in
    let rest = built (with_answer groups m) ms one.sound a.1 in
    record { sound = rest.sound; adds = rest.adds ∙ ap (λ (xs : List Msg). xs ++ ms) one.adds ∙ append_assoc (messages_of_groups groups) (m ∷ []) ms }

pub are_groups : (answers : List Msg) → AllByRecursion IsAnswerMessage answers → AreGroups answers (groups_of answers)
are_groups answers a =
    let all = built [] answers (tt, tt) a in
    record { in_order = all.adds; each = all.sound.0; full = full_between (groups_of answers) all.sound.1 }

-- ---- there are no others

-- Two beginnings of responses of one list: they are the same, or one goes on with a response with which the rest of the other begins.
data Parts (rs ss : List ResponseFields) (X Y : List Msg) : Type 0 where
  same : rs ≡ ss → X ≡ Y → Parts rs ss X Y
  longer : (r : ResponseFields) (more : List ResponseFields) (Z : List Msg) → ss ≡ rs ++ r ∷ more → X ≡ Response r ∷ Z → Parts rs ss X Y
  shorter : (r : ResponseFields) (more : List ResponseFields) (Z : List Msg) → rs ≡ ss ++ r ∷ more → Y ≡ Response r ∷ Z → Parts rs ss X Y

head_or : Msg → List Msg → Msg
head_or d [] = d
head_or d (x ∷ xs) = x

fields_or : ResponseFields → Msg → ResponseFields
fields_or d (Response r) = r
fields_or d _ = d

tail_of : List Msg → List Msg
tail_of [] = []
tail_of (x ∷ xs) = xs

same_response : (r s : ResponseFields) (xs ys : List Msg) → Response r ∷ xs ≡ Response s ∷ ys → r ≡ s
unfolding fields_or head_or
same_response r s xs ys e = ap (λ (l : List Msg). fields_or r (head_or (Response r) l)) e

same_tail : (r s : Msg) (xs ys : List Msg) → r ∷ xs ≡ s ∷ ys → xs ≡ ys
unfolding tail_of
same_tail r s xs ys e = ap tail_of e

abbrev messages : List ResponseFields → List Msg
messages rs = map (λ r. Response r) rs

parts : (rs ss : List ResponseFields) (X Y : List Msg) → messages rs ++ X ≡ messages ss ++ Y → Parts rs ss X Y
parts [] [] X Y e = same refl e
parts [] (s ∷ ss) X Y e = longer s ss (messages ss ++ Y) refl e
parts (r ∷ rs) [] X Y e = shorter r rs (messages rs ++ X) refl (sym e)
parts (r ∷ rs) (s ∷ ss) X Y e =
    let first = same_response r s (messages rs ++ X) (messages ss ++ Y) e in
    elim (parts rs ss X Y (same_tail (Response r) (Response s) (messages rs ++ X) (messages ss ++ Y) e)) [
      | same f g ↦ same (ap (λ (xs : List ResponseFields). r ∷ xs) f ∙ ap (λ (x : ResponseFields). x ∷ ss) first) g
      | longer x more Z f g ↦ longer x more Z (ap (λ (xs : List ResponseFields). s ∷ xs) f ∙ ap (λ (y : ResponseFields). y ∷ (rs ++ x ∷ more)) (sym first)) g
      | shorter x more Z f g ↦ shorter x more Z (ap (λ (xs : List ResponseFields). r ∷ xs) f ∙ ap (λ (y : ResponseFields). y ∷ (ss ++ x ∷ more)) first) g
    ]

-- a group that could have taken the next response
not_full : (rs ss : List ResponseFields) (groups : List Pdu) (r : ResponseFields) (more : List ResponseFields) (Z : List Msg) →
    AllByRecursion IsGroup groups → FullFirst (Responses rs) groups → IsGroup (Responses ss) → ss ≡ rs ++ r ∷ more → messages_of_groups groups ≡ Response r ∷ Z → ⊥
not_full rs ss [] r more Z all full g e f = cc
not_full rs ss (OneKeepAlive form ∷ groups) r more Z all full g e f = cc
not_full rs ss (Commands respond cs ∷ groups) r more Z all full g e f = all.0
not_full rs ss (Responses [] ∷ groups) r more Z all full g e f = omega (arith, all.0.0)
not_full rs ss (Responses (x ∷ xs) ∷ groups) r more Z all full g e f =
    contradiction (same_response x r (messages xs ++ messages_of_groups groups) Z f)
  where
    longer_fits : size (rs ++ r ∷ []) ≤ size ss
    longer_fits = subst (λ (ys : List ResponseFields). size (rs ++ r ∷ []) ≤ size ys) (append_assoc rs (r ∷ []) more ∙ sym e) (size_more (rs ++ r ∷ []) more)

    contradiction : x ≡ r → ⊥
    contradiction q = omega (arith, longer_fits, g.1, subst (λ (y : ResponseFields). 1472 < length (pdu_encoding (Responses (rs ++ y ∷ [])))) q full)

no_message : (p : Pdu) (groups : List Pdu) → IsGroup p → [] ≡ messages_of_groups (p ∷ groups) → ⊥
no_message (Responses []) groups g e = omega (arith, g.0)
no_message (Responses (r ∷ rs)) groups g e = cc
no_message (OneKeepAlive form) groups g e = cc
no_message (Commands respond cs) groups g e = g

alive_or : Pdu → Msg → Pdu
alive_or d (KeepAlive form) = OneKeepAlive form
alive_or d _ = d

pub unique : (ps qs : List Pdu) → AreSound ps → AreSound qs → messages_of_groups ps ≡ messages_of_groups qs → ps ≡ qs
unfolding alive_or head_or
unique [] [] h k e = refl
unique [] (q ∷ qs) h k e = absurd (no_message q qs k.0.0 e)
unique (p ∷ ps) [] h k e = absurd (no_message p ps h.0.0 (sym e))
unique (OneKeepAlive f ∷ ps) (OneKeepAlive g ∷ qs) h k e =
    ap (λ (x : Pdu). x ∷ ps) (ap (λ (l : List Msg). alive_or (OneKeepAlive f) (head_or (KeepAlive f) l)) e)
    ∙ ap (λ (x : List Pdu). OneKeepAlive g ∷ x) (unique ps qs (h.0.1, h.1.1) (k.0.1, k.1.1) (same_tail (KeepAlive f) (KeepAlive g) (messages_of_groups ps) (messages_of_groups qs) e))
unique (OneKeepAlive f ∷ ps) (Responses [] ∷ qs) h k e = absurd (omega (arith, k.0.0.0))
unique (OneKeepAlive f ∷ ps) (Responses (r ∷ rs) ∷ qs) h k e = absurd cc
unique (Responses [] ∷ ps) (OneKeepAlive g ∷ qs) h k e = absurd (omega (arith, h.0.0.0))
unique (Responses (r ∷ rs) ∷ ps) (OneKeepAlive g ∷ qs) h k e = absurd cc
unique (Responses rs ∷ ps) (Responses ss ∷ qs) h k e =
    elim (parts rs ss (messages_of_groups ps) (messages_of_groups qs) e) [
      | same f g ↦ ap (λ (x : List ResponseFields). Responses x ∷ ps) f ∙ ap (λ (x : List Pdu). Responses ss ∷ x) (unique ps qs (h.0.1, h.1.1) (k.0.1, k.1.1) g)
      | longer r more Z f g ↦ absurd (not_full rs ss ps r more Z h.0.1 h.1.0 k.0.0 f g)
      | shorter r more Z f g ↦ absurd (not_full ss rs qs r more Z k.0.1 k.1.0 h.0.0 f g)
    ]
unique (Commands respond cs ∷ ps) (q ∷ qs) h k e = absurd h.0.0
unique (OneKeepAlive f ∷ ps) (Commands respond cs ∷ qs) h k e = absurd k.0.0
unique (Responses rs ∷ ps) (Commands respond cs ∷ qs) h k e = absurd k.0.0

pub only_groups : (answers : List Msg) (groups : List Pdu) → AllByRecursion IsAnswerMessage answers → AreGroups answers groups → groups ≡ groups_of answers
only_groups answers groups a h =
    let made = are_groups answers a in
    unique groups (groups_of answers) (h.each, are_full groups h.full) (made.each, are_full (groups_of answers) made.full) (h.in_order ∙ sym made.in_order)
