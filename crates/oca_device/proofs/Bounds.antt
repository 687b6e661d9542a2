-- How many answers messages have at most, and how long their commands are.
use Rattle.oca_device.proofs.Words.{◌≡◌, ℕ, ◌+◌, ◌≤◌, Bool, true, false, cond, List, [], ◌∷◌, ◌++◌, length, refl, sym, ap, ◌∙◌, arith, subst, leb-true, length-append, flat_map, AllByRecursion, map}
use Rattle.oca_device.proofs.Words.{not, count_by, nat_le, ◌||◌, Ok, sum_by-cons, CommandFields, ResponseFields, Msg, Command, Response, KeepAlive, Pdu, Commands, Responses, OneKeepAlive, messages_of}
use Rattle.oca_device.proofs.Words.{command_encoding, command_type, pdu_frame, pdu_encoding, IsDatagram, is_command, is_response, Peer, DeviceSizes, Judgement, Fresh, Duplicate, Reused, Old, Admitted}
use Rattle.oca_device.proofs.Words.{State, noted, admits, judged_in, after_message, last_with, from_with, with_answer, with_answers, encodings, answer_to_command, answer_to, answers_to_messages}
use Rattle.oca_device.proofs.Words.{answers_to_reading, packets_of, is_short_enough, shortened_answers, IsShort, commands_of, all_commands, on_bool}
use Rattle.oca_device.proofs.Rooms.{as_many}

-- a message has one answer at most, and a response none
abbrev pub may_answer : Msg → ℕ
may_answer (Command respond c) = 1
may_answer (KeepAlive form) = 1
may_answer (Response r) = 0

abbrev pub most_answers : List Msg → ℕ
most_answers [] = 0
most_answers (m ∷ messages) = may_answer m + most_answers messages

abbrev counted : Msg → ℕ
counted m = cond (not (is_response m)) 1 0

one_counted : (m : Msg) → may_answer m ≡ counted m
one_counted (Command respond c) = refl
one_counted _ = refl

pub answers_counted : (ms : List Msg) → most_answers ms ≡ count_by (λ m. not (is_response m)) ms
answers_counted [] = refl
answers_counted (m ∷ ms) =
    ap (λ (n : ℕ). n + most_answers ms) (one_counted m) ∙ ap (λ (n : ℕ). counted m + n) (answers_counted ms) ∙ sym (sum_by-cons counted m ms)

one_command : (m : Msg) → commands_of m ≡ cond (is_command m) 1 0
one_command (Command respond c) = refl
one_command _ = refl

pub commands_counted : (ms : List Msg) → all_commands ms ≡ count_by is_command ms
commands_counted [] = refl
commands_counted (m ∷ ms) =
    ap (λ (n : ℕ). n + all_commands ms) (one_command m) ∙ ap (λ (n : ℕ). cond (is_command m) 1 0 + n) (commands_counted ms)
    ∙ sym (sum_by-cons (λ (x : Msg). cond (is_command x) 1 0) m ms)

-- ---- a command in a datagram has at most so many bytes of parameters as the datagram without 27

command_long : (c : CommandFields) → length (command_encoding c) ≡ 17 + length c.params
command_long c = omega arith

frame_long : (type count : ℕ) (body : List ℕ) → length (pdu_frame type count body) ≡ 10 + length body
frame_long type count body = omega arith

commands_short : (most : ℕ) (respond : Bool) (cs : List CommandFields) (n : ℕ) → length (flat_map command_encoding cs) ≤ n → n ≤ most + 17 → AllByRecursion (IsShort most) (map (λ c. Command respond c) cs)
commands_short most respond [] n h few = tt
commands_short most respond (c ∷ cs) n h few =
    let parts = length-append (command_encoding c) (flat_map command_encoding cs) in
    (omega (arith, parts, command_long c), commands_short most respond cs n (omega (arith, parts)) few)

responses_short : (most : ℕ) (rs : List ResponseFields) → AllByRecursion (IsShort most) (map (λ r. Response r) rs)
responses_short most [] = tt
responses_short most (r ∷ rs) = (tt, responses_short most rs)

pdu_short : (most : ℕ) (p : Pdu) → length (pdu_encoding p) ≤ most + 27 → AllByRecursion (IsShort most) (messages_of p)
pdu_short most (Commands respond cs) h =
    commands_short most respond cs (length (flat_map command_encoding cs)) (omega arith) (omega (arith, h, frame_long (command_type respond) (length cs) (flat_map command_encoding cs)))
pdu_short most (Responses rs) h = responses_short most rs
pdu_short most (OneKeepAlive form) h = (tt, tt)

both_short : (most : ℕ) (xs ys : List Msg) → AllByRecursion (IsShort most) xs → AllByRecursion (IsShort most) ys → AllByRecursion (IsShort most) (xs ++ ys)
both_short most [] ys h k = k
both_short most (x ∷ xs) ys h k = (h.0, both_short most xs ys h.1 k)

pdus_short : (most : ℕ) (ps : List Pdu) (n : ℕ) → length (flat_map pdu_encoding ps) ≤ n → n ≤ most + 27 → AllByRecursion (IsShort most) (flat_map messages_of ps)
pdus_short most [] n h few = tt
pdus_short most (p ∷ ps) n h few =
    let parts = length-append (pdu_encoding p) (flat_map pdu_encoding ps) in
    both_short most (messages_of p) (flat_map messages_of ps) (pdu_short most p (omega (arith, parts))) (pdus_short most ps n (omega (arith, parts)) few)

pub all_short : (most : ℕ) (ps : List Pdu) (bytes : List ℕ) → IsDatagram ps bytes → is_short_enough most bytes ≡ true → AllByRecursion (IsShort most) (flat_map messages_of ps)
all_short most ps bytes h room = pdus_short most ps (length bytes) (omega (arith, ap length h.bytes_are)) (within (nat_le 1445 most) refl (length bytes) room h.within_limit)
  where
    within : (b : Bool) → nat_le 1445 most ≡ b → (n : ℕ) → (b || nat_le n (most + 27)) ≡ true → n ≤ 1472 → n ≤ most + 27
    within true roomy n e le = let much : 1445 ≤ most = leb-true 1445 most roomy in omega (arith, much, le)
    within false narrow n e le = leb-true n (most + 27) e

-- ---- a datagram is answered with at most as many packets as it has messages that are answered

last_grows : (p : Pdu) (m : Msg) → length (encodings (last_with p m)) ≤ 2
last_grows (Responses rs) (Response r) =
    on_bool (nat_le (length (pdu_encoding (Responses (rs ++ r ∷ [])))) 1472) (λ b. length (encodings (cond b (Responses (rs ++ r ∷ []) ∷ []) (Responses rs ∷ Responses (r ∷ []) ∷ []))) ≤ 2)
    (omega arith) (omega arith)
last_grows (Responses rs) (KeepAlive form) = omega arith
last_grows (Responses rs) (Command respond c) = omega arith
last_grows (OneKeepAlive form) m = omega arith
last_grows (Commands respond cs) m = omega arith

from_grows : (p : Pdu) (groups : List Pdu) (m : Msg) → length (encodings (from_with p groups m)) ≤ 2 + length (encodings groups)
from_grows p [] m = last_grows p m
from_grows p (q ∷ groups) m = omega (arith, from_grows q groups m)

answer_grows : (groups : List Pdu) (m : Msg) → length (encodings (with_answer groups m)) ≤ 1 + length (encodings groups)
answer_grows [] m = omega arith
answer_grows (p ∷ groups) m = omega (arith, from_grows p groups m)

answers_grow : (groups : List Pdu) (ms : List Msg) → length (encodings (with_answers groups ms)) ≤ length ms + length (encodings groups)
answers_grow groups [] = omega arith
answers_grow groups (m ∷ ms) = omega (arith, answers_grow (with_answer groups m) ms, answer_grows groups m)

command_answers : (j : Judgement) (p : Peer) (c : CommandFields) (s : State) → length (answer_to_command j p c s) ≤ 1
command_answers Fresh p c s = omega arith
command_answers _ p c s = omega arith

message_answers : (w : DeviceSizes) (p : Peer) (m : Msg) (s : State) → length (answer_to w p m s) ≤ may_answer m
message_answers w p (Command respond c) s = on_bool respond (λ b. length (cond b (answer_to_command (judged_in w s p c) p c s) []) ≤ 1) (command_answers (judged_in w s p c) p c s) (omega arith)
message_answers w p _ s = omega arith

all_answers : (w : DeviceSizes) (p : Peer) (ms : List Msg) (s : State) → length (answers_to_messages w p ms s) ≤ most_answers ms
all_answers w p [] s = omega arith
all_answers w p (m ∷ ms) s =
    omega (arith, length-append (answer_to w p m s) (answers_to_messages w p ms (after_message w p m s)), message_answers w p m s, all_answers w p ms (after_message w p m s))

packets_few : (ms : List Msg) → length (packets_of ms) ≤ length ms
packets_few ms = omega (arith, answers_grow [] ms)

pub few_packets : (most : ℕ) (w : DeviceSizes) (p : Peer) (ms : List Msg) (s : State) (n : ℕ) → most_answers ms ≤ n →
    length (packets_of (shortened_answers most (answers_to_reading w p (Ok ms) s))) ≤ n
few_packets most w p ms s n few = on_bool (admits w s p) (λ b. length (packets_of (shortened_answers most (cond b (answers_to_messages w p ms (noted p (Admitted ms) s)) []))) ≤ n)
    (let xs = answers_to_messages w p ms (noted p (Admitted ms) s) in omega (arith, few, packets_few (shortened_answers most xs), as_many most xs, all_answers w p ms (noted p (Admitted ms) s)))
    (omega (arith, packets_few (shortened_answers most []), as_many most []))

-- a datagram that is not admitted is not answered
pub no_packets : (most : ℕ) (w : DeviceSizes) (p : Peer) (ms : List Msg) (s : State) (n : ℕ) → admits w s p ≡ false →
    length (packets_of (shortened_answers most (answers_to_reading w p (Ok ms) s))) ≤ n
no_packets most w p ms s n out =
    subst (λ (b : Bool). length (packets_of (shortened_answers most (cond b (answers_to_messages w p ms (noted p (Admitted ms) s)) []))) ≤ n) (sym out)
    (omega (arith, packets_few (shortened_answers most []), as_many most []))
