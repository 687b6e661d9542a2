-- Each answer fits into a datagram.
use Rattle.oca_device.proofs.Words.{◌≡◌, ℕ, ◌≤◌, Bool, true, false, cond, List, [], ◌∷◌, ◌++◌, length, refl, sym, ap, ◌∙◌, arith, nat_lt, nat_eq, ◌&&◌, ◌||◌, not, Option, Some, None, is_none, Result}
use Rattle.oca_device.proofs.Words.{Ok, Err, AllByRecursion, nat_tests, Peer, same_peer, CommandFields, DeviceSizes, Msg, Command, Response, KeepAlive, Object, object_of, after_change}
use Rattle.oca_device.proofs.Words.{IsAnswerMessage, Happening, Passes, Says, Sets, Change, Executes, Releases, reply, replies, answers_by_events, changes, clock, admitted, accepted_by, served_of}
use Rattle.oca_device.proofs.Words.{accepts_handle, is_duplicate, with_command}
use Rattle.oca_types.specs.declared.status.Status.{Status}
use Rattle.oca_types.specs.declared.status.Status.TheVariants as status
use Rattle.oca_types.specs.Status.{status_number}
use Rattle.oca_model.specs.declared.request.Request.{Request}
use Rattle.oca_model.specs.declared.value.ValueFault.{ValueFault}
use Rattle.oca_model.specs.Answers.{answer_encoding}
use Rattle.oca_tree.specs.Execution.{TreeAndReply, execution, by_status, status_of, first_that_applies, kind_at, asked_at, is_unknown, is_kind_left_out, is_locked, is_malformed, sets_unlisted, on_both, is_failing}
use Rattle.oca_tree.specs.Requests.{fits_positions, asks_out_of_range, asks_invalid}
use Rattle.oca_tree.specs.Typed.{answer_given}
use Rattle.oca_tree.specs.Locks.{released}

-- ---- the parameters of an answer

last_line : (a b c d e f g h i : Bool) →
    first_that_applies ((a, status.BadOno) ∷ (b, status.BadMethod) ∷ (c, status.NotImplemented) ∷ (d, status.Locked) ∷ (e, status.ParameterError)
    ∷ (f, status.ParameterOutOfRange) ∷ (g, status.InvalidRequest) ∷ (h, status.BufferOverflow) ∷ (i, status.ProcessingFailed) ∷ []) ≡ status.Ok → h ≡ false
last_line true b c d e f g h i q = absurd cc
last_line false true c d e f g h i q = absurd cc
last_line false false true d e f g h i q = absurd cc
last_line false false false true e f g h i q = absurd cc
last_line false false false false true f g h i q = absurd cc
last_line false false false false false true g h i q = absurd cc
last_line false false false false false false true h i q = absurd cc
last_line false false false false false false false true i q = absurd cc
last_line false false false false false false false false true q = absurd cc
last_line false false false false false false false false false q = refl

not_above : (n : ℕ) → nat_lt 1452 n ≡ false → n ≤ 1452
not_above n h = grind (arith, nat_tests)

none_long : 0 ≤ 1452
none_long = omega arith

abbrev answer_bytes : List Object → Object → Request → ℕ
answer_bytes tree o r = length (answer_encoding (answer_given tree o r))

status_short : (tree : List Object) (peer : Peer) (o : Object) (r : Request) (s : Status) → (s ≡ status.Ok → answer_bytes tree o r ≤ 1452) →
    length (by_status tree peer (Some o) (Ok r) s).parameters ≤ 1452
status_short tree peer o r status.Ok h = h refl
status_short tree peer o r _ h = none_long

found_short : (tree : List Object) (peer : Peer) (c : CommandFields) (o : Option Object) (asked : Result Request ValueFault) → asked_at o (kind_at o c) c ≡ asked →
    length (by_status tree peer o asked (status_of tree peer o c)).parameters ≤ 1452
found_short tree peer c None asked e = none_long
found_short tree peer c (Some o) (Err fault) e = none_long
found_short tree peer c (Some o) (Ok r) e =
    let asked = asked_at (Some o) (kind_at (Some o) c) c in
    status_short tree peer o r (status_of tree peer (Some o) c) (λ q. not_above (answer_bytes tree o r)
    (sym (ap (λ (x : Result Request ValueFault). on_both (λ o r. nat_lt 1452 (answer_bytes tree o r)) (Some o) x) e)
    ∙ last_line (is_none (Some o)) (is_unknown (kind_at (Some o) c)) (is_kind_left_out (kind_at (Some o) c)) (is_locked (Some o) (kind_at (Some o) c) peer)
    (is_malformed asked || on_both (λ x y. not (fits_positions x.value y)) (Some o) asked) (sets_unlisted asked || on_both (λ x y. asks_out_of_range x.value y) (Some o) asked) (on_both asks_invalid (Some o) asked)
    (on_both (λ x y. nat_lt 1452 (answer_bytes tree x y)) (Some o) asked) (is_failing (Some o) (kind_at (Some o) c)) q))

pub execution_short : (tree : List Object) (peer : Peer) (c : CommandFields) → length (execution tree peer c).parameters ≤ 1452
unfolding execution
execution_short tree peer c =
    let o = object_of tree c.target in
    found_short tree peer c o (asked_at o (kind_at o c) c) refl

-- ---- the answers of the law

abbrev AreAnswers : List Msg → Type 0
AreAnswers ms = AllByRecursion IsAnswerMessage ms

abbrev its : TreeAndReply → ℕ → Msg
its x h = Response (record { handle = h; status = status_number x.status; count = x.count; params = x.parameters })

reply_fits : (p : Peer) (h : ℕ) (r : List Msg) (tree : List Object) (C : List Change) → AreAnswers r → AreAnswers (reply p h r tree C)
reply_fits p h r tree [] a = a
reply_fits p h r tree (Releases q ∷ C) a = reply_fits p h r (released tree q) C a
reply_fits p h r tree (Sets ono change ∷ C) a = reply_fits p h r (after_change tree ono change) C a
reply_fits p h r tree (Executes q c ∷ C) a = reply_fits p h (cond (same_peer q p && nat_eq c.handle h) (its (execution tree q c) h ∷ []) r) (execution tree q c).tree C (by (same_peer q p && nat_eq c.handle h))
  where
    by : (b : Bool) → AreAnswers (cond b (its (execution tree q c) h ∷ []) r)
    by true = (execution_short tree q c, tt)
    by false = a

both_answers : (xs ys : List Msg) → AreAnswers xs → AreAnswers ys → AreAnswers (xs ++ ys)
both_answers [] ys h k = k
both_answers (x ∷ xs) ys h k = (h.0, both_answers xs ys h.1 k)

where_answers : (b : Bool) (xs : List Msg) → AreAnswers xs → AreAnswers (cond b xs [])
where_answers true xs h = h
where_answers false xs h = tt

replies_fit : (w : DeviceSizes) (under : ℕ → List Msg) (A : List CommandFields) (ms : List Msg) → ((h : ℕ) → AreAnswers (under h)) → AreAnswers (replies w under A ms)
replies_fit w under A [] u = tt
replies_fit w under A (Command respond c ∷ ms) u =
    both_answers _ _ (where_answers (respond && (accepts_handle w A c.handle || is_duplicate w A c)) (under c.handle) (u c.handle)) (replies_fit w under (with_command w A c) ms u)
replies_fit w under A (KeepAlive form ∷ ms) u = (tt, replies_fit w under A ms u)
replies_fit w under A (Response r ∷ ms) u = replies_fit w under A ms u

pub answers_fit : (w : DeviceSizes) (tree : List Object) (H : List Happening) → AllByRecursion IsAnswerMessage (answers_by_events w tree H)
answers_fit w tree [] = tt
answers_fit w tree (Passes now ∷ H) = tt
answers_fit w tree (Sets ono change ∷ H) = tt
answers_fit w tree (Says p ms ∷ H) =
    replies_fit w (λ h. reply p h [] tree (changes w (Says p ms ∷ H))) (accepted_by w (clock H) p (admitted w H)) (served_of w p ms H)
    (λ h. reply_fits p h [] tree (changes w (Says p ms ∷ H)) tt)
