-- What the messages of a known peer make of a state, by the law's words.
use Rattle.oca_device.proofs.Words.{◌≡◌, ℕ, ◌+◌, Bool, true, false, cond, List, [], ◌∷◌, ◌++◌, refl, sym, ap, ◌∙◌, subst, arith, map, max, min, not, ◌*◌, Option, Some, None, append_assoc, append-nil}
use Rattle.oca_device.proofs.Words.{map-append, Peer, same_peer, CommandFields, DeviceSizes, Msg, Command, Response, KeepAlive, Entry, Fresh, Duplicate, Reused, judge_unaccepted, accepts, entry_under}
use Rattle.oca_device.proofs.Words.{window, asks_the_same, Counts, Heartbeat, Executed, Note, notes_of, run, is_noted, accepted, heartbeat_noted, State, noted, judged_in, reply_of, after_command}
use Rattle.oca_device.proofs.Words.{after_messages, time_of, counts, plus, count_of_command, counts_of_messages, accepts_handle, accepted_of, is_duplicate, Executes, objects, heartbeat}
use Rattle.oca_device.proofs.Words.{counted_command, all_counted, on_bool}
use Rattle.oca_pdu.specs.declared.message.Form.TheVariants.{Seconds, Millis}
use Rattle.oca_tree.specs.Execution.{execution}
use Rattle.oca_device.proofs.Runs.{other_notes, run_goes_on, known_now}
use Rattle.oca_device.proofs.Acceptance.{commands_of, AreDistinct, accepts_same, distinct_after, duplicate_is, reuse_is, asks_so}

-- the commands that were executed in the peer's latest session
abbrev pub executed_of : Peer → List Note → List CommandFields
executed_of p notes = commands_of (accepted (run p notes))

-- ---- one command

abbrev pub fresh_state : Peer → CommandFields → State → State
fresh_state p c s = after_command Fresh p c s

abbrev pub entry_of : Peer → CommandFields → State → Entry
entry_of p c s = record { command = c; reply = reply_of s.tree p c }

abbrev pub fresh_note : Peer → CommandFields → State → Note
fresh_note p c s = record { peer = p; at = s.moment; what = Executed s.tree c (reply_of s.tree p c) }

pub fresh_known : (p : Peer) (c : CommandFields) (s : State) → is_noted (fresh_state p c s).moment (fresh_state p c s).notes p ≡ true
fresh_known p c s = known_now (fresh_note p c s) s.notes

pub fresh_accepted : (p : Peer) (c : CommandFields) (s : State) → is_noted s.moment s.notes p ≡ true →
    accepted (run p (fresh_state p c s).notes) ≡ accepted (run p s.notes) ++ entry_of p c s ∷ []
fresh_accepted p c s k = ap accepted (run_goes_on (fresh_note p c s) s.notes k)

pub fresh_executed : (p : Peer) (c : CommandFields) (s : State) → is_noted s.moment s.notes p ≡ true →
    executed_of p (fresh_state p c s).notes ≡ executed_of p s.notes ++ c ∷ []
fresh_executed p c s k = ap commands_of (fresh_accepted p c s k) ∙ map-append (λ (e : Entry). e.command) (accepted (run p s.notes)) (entry_of p c s ∷ [])

-- what is not accepted changes nothing
not_fresh : (p : Peer) (c : CommandFields) (s : State) (o : Option Entry) → after_command (judge_unaccepted o c) p c s ≡ s
not_fresh p c s None = refl
not_fresh p c s (Some e) = on_bool (asks_the_same e.command c) (λ b. after_command (cond b (Duplicate e.reply) Reused) p c s ≡ s) refl refl

pub after_judged : (w : DeviceSizes) (p : Peer) (c : CommandFields) (s : State) →
    after_command (judged_in w s p c) p c s ≡ cond (accepts_handle w (executed_of p s.notes) c.handle) (fresh_state p c s) s
after_judged w p c s =
    by (accepts w.window (accepted (run p s.notes)) c.handle) (entry_under c.handle (window w.window (accepted (run p s.notes))))
    ∙ ap (λ b. cond b (fresh_state p c s) s) (accepts_same w (accepted (run p s.notes)) c.handle)
  where
    by : (b : Bool) (o : Option Entry) → after_command (cond b Fresh (judge_unaccepted o c)) p c s ≡ cond b (fresh_state p c s) s
    by true o = refl
    by false o = not_fresh p c s o

-- ---- a heartbeat

abbrev pub kept_alive : Peer → ℕ → State → State
kept_alive p ms s = noted p (Heartbeat ms) s

abbrev alive_note : Peer → ℕ → State → Note
alive_note p ms s = record { peer = p; at = s.moment; what = Heartbeat ms }

pub alive_accepted : (p : Peer) (ms : ℕ) (s : State) → is_noted s.moment s.notes p ≡ true → accepted (run p (kept_alive p ms s).notes) ≡ accepted (run p s.notes)
alive_accepted p ms s k = ap accepted (run_goes_on (alive_note p ms s) s.notes k)

pub alive_executed : (p : Peer) (ms : ℕ) (s : State) → is_noted s.moment s.notes p ≡ true → executed_of p (kept_alive p ms s).notes ≡ executed_of p s.notes
alive_executed p ms s k = ap commands_of (alive_accepted p ms s k)

pub alive_known : (p : Peer) (ms : ℕ) (s : State) → is_noted (kept_alive p ms s).moment (kept_alive p ms s).notes p ≡ true
alive_known p ms s = known_now (alive_note p ms s) s.notes

-- ---- several messages of a known peer

pub messages_executed : (w : DeviceSizes) (p : Peer) (ms : List Msg) (s : State) → is_noted s.moment s.notes p ≡ true →
    executed_of p (after_messages w p ms s).notes ≡ executed_of p s.notes ++ accepted_of w (executed_of p s.notes) ms
messages_executed w p [] s k = sym (append-nil (executed_of p s.notes))
messages_executed w p (Command respond c ∷ ms) s k =
    ap (λ (x : State). executed_of p (after_messages w p ms x).notes) (after_judged w p c s)
    ∙ by (accepts_handle w (executed_of p s.notes) c.handle)
    (messages_executed w p ms (fresh_state p c s) (fresh_known p c s)
    ∙ ap (λ (B : List CommandFields). B ++ accepted_of w B ms) (fresh_executed p c s k)
    ∙ append_assoc (executed_of p s.notes) (c ∷ []) (accepted_of w (executed_of p s.notes ++ c ∷ []) ms))
    (messages_executed w p ms s k)
  where
    by : (b : Bool) →
        executed_of p (after_messages w p ms (fresh_state p c s)).notes ≡ executed_of p s.notes ++ c ∷ accepted_of w (executed_of p s.notes ++ c ∷ []) ms →
        executed_of p (after_messages w p ms s).notes ≡ executed_of p s.notes ++ accepted_of w (executed_of p s.notes) ms →
        executed_of p (after_messages w p ms (cond b (fresh_state p c s) s)).notes
        ≡ executed_of p s.notes ++ cond b (c ∷ accepted_of w (executed_of p s.notes ++ c ∷ []) ms) (accepted_of w (executed_of p s.notes) ms)
    by true f g = f
    by false f g = g
messages_executed w p (KeepAlive form ∷ ms) s k =
    messages_executed w p ms (kept_alive p (time_of form) s) (alive_known p (time_of form) s)
    ∙ ap (λ (B : List CommandFields). B ++ accepted_of w B ms) (alive_executed p (time_of form) s k)
messages_executed w p (Response r ∷ ms) s k = messages_executed w p ms s k

pub messages_tree : (w : DeviceSizes) (p : Peer) (ms : List Msg) (s : State) → is_noted s.moment s.notes p ≡ true →
    (after_messages w p ms s).tree ≡ objects s.tree (map (Executes p) (accepted_of w (executed_of p s.notes) ms))
messages_tree w p [] s k = refl
messages_tree w p (Command respond c ∷ ms) s k =
    ap (λ (x : State). (after_messages w p ms x).tree) (after_judged w p c s)
    ∙ by (accepts_handle w (executed_of p s.notes) c.handle)
    (messages_tree w p ms (fresh_state p c s) (fresh_known p c s)
    ∙ ap (λ (B : List CommandFields). objects (execution s.tree p c).tree (map (Executes p) (accepted_of w B ms))) (fresh_executed p c s k))
    (messages_tree w p ms s k)
  where
    by : (b : Bool) →
        (after_messages w p ms (fresh_state p c s)).tree ≡ objects (execution s.tree p c).tree (map (Executes p) (accepted_of w (executed_of p s.notes ++ c ∷ []) ms)) →
        (after_messages w p ms s).tree ≡ objects s.tree (map (Executes p) (accepted_of w (executed_of p s.notes) ms)) →
        (after_messages w p ms (cond b (fresh_state p c s) s)).tree
        ≡ objects s.tree (map (Executes p) (cond b (c ∷ accepted_of w (executed_of p s.notes ++ c ∷ []) ms) (accepted_of w (executed_of p s.notes) ms)))
    by true f g = f
    by false f g = g
messages_tree w p (KeepAlive form ∷ ms) s k =
    messages_tree w p ms (kept_alive p (time_of form) s) (alive_known p (time_of form) s)
    ∙ ap (λ (B : List CommandFields). objects s.tree (map (Executes p) (accepted_of w B ms))) (alive_executed p (time_of form) s k)
messages_tree w p (Response r ∷ ms) s k = messages_tree w p ms s k

pub messages_moment : (w : DeviceSizes) (p : Peer) (ms : List Msg) (s : State) → (after_messages w p ms s).moment ≡ s.moment
messages_moment w p [] s = refl
messages_moment w p (Command respond c ∷ ms) s =
    ap (λ (x : State). (after_messages w p ms x).moment) (after_judged w p c s)
    ∙ by (accepts_handle w (executed_of p s.notes) c.handle) (messages_moment w p ms (fresh_state p c s)) (messages_moment w p ms s)
  where
    by : (b : Bool) → (after_messages w p ms (fresh_state p c s)).moment ≡ s.moment → (after_messages w p ms s).moment ≡ s.moment →
        (after_messages w p ms (cond b (fresh_state p c s) s)).moment ≡ s.moment
    by true f g = f
    by false f g = g
messages_moment w p (KeepAlive form ∷ ms) s = messages_moment w p ms (kept_alive p (time_of form) s)
messages_moment w p (Response r ∷ ms) s = messages_moment w p ms s

pub messages_other : (w : DeviceSizes) (p q : Peer) (ms : List Msg) (s : State) → same_peer p q ≡ false → notes_of q (after_messages w p ms s).notes ≡ notes_of q s.notes
messages_other w p q [] s h = refl
messages_other w p q (Command respond c ∷ ms) s h =
    ap (λ (x : State). notes_of q (after_messages w p ms x).notes) (after_judged w p c s)
    ∙ by (accepts_handle w (executed_of p s.notes) c.handle)
    (messages_other w p q ms (fresh_state p c s) h ∙ other_notes (fresh_note p c s) s.notes q h)
    (messages_other w p q ms s h)
  where
    by : (b : Bool) →
        notes_of q (after_messages w p ms (fresh_state p c s)).notes ≡ notes_of q s.notes →
        notes_of q (after_messages w p ms s).notes ≡ notes_of q s.notes →
        notes_of q (after_messages w p ms (cond b (fresh_state p c s) s)).notes ≡ notes_of q s.notes
    by true f g = f
    by false f g = g
messages_other w p q (KeepAlive form ∷ ms) s h =
    messages_other w p q ms (kept_alive p (time_of form) s) h ∙ other_notes (alive_note p (time_of form) s) s.notes q h
messages_other w p q (Response r ∷ ms) s h = messages_other w p q ms s h

-- ---- the heartbeat

heartbeat_command : (w : DeviceSizes) (p : Peer) (c : CommandFields) (b : Bool) (s : State) → is_noted s.moment s.notes p ≡ true →
    heartbeat_noted (run p (cond b (fresh_state p c s) s).notes) ≡ heartbeat_noted (run p s.notes)
heartbeat_command w p c true s k = ap heartbeat_noted (run_goes_on (fresh_note p c s) s.notes k)
heartbeat_command w p c false s k = refl

known_command : (p : Peer) (c : CommandFields) (b : Bool) (s : State) → is_noted s.moment s.notes p ≡ true →
    is_noted (cond b (fresh_state p c s) s).moment (cond b (fresh_state p c s) s).notes p ≡ true
known_command p c true s k = fresh_known p c s
known_command p c false s k = k

pub messages_heartbeat : (w : DeviceSizes) (p : Peer) (ms : List Msg) (s : State) → is_noted s.moment s.notes p ≡ true →
    heartbeat_noted (run p (after_messages w p ms s).notes) ≡ heartbeat (heartbeat_noted (run p s.notes)) ms
messages_heartbeat w p [] s k = refl
messages_heartbeat w p (Command respond c ∷ ms) s k =
    let b = accepts_handle w (executed_of p s.notes) c.handle in
    ap (λ (x : State). heartbeat_noted (run p (after_messages w p ms x).notes)) (after_judged w p c s)
    ∙ messages_heartbeat w p ms (cond b (fresh_state p c s) s) (known_command p c b s k)
    ∙ ap (λ (m : ℕ). heartbeat m ms) (heartbeat_command w p c b s k)
messages_heartbeat w p (KeepAlive (Seconds n) ∷ ms) s k =
    messages_heartbeat w p ms (kept_alive p (1000 * n) s) (alive_known p (1000 * n) s)
    ∙ ap (λ (r : List Note). heartbeat (heartbeat_noted r) ms) (run_goes_on (alive_note p (1000 * n) s) s.notes k)
messages_heartbeat w p (KeepAlive (Millis n) ∷ ms) s k =
    messages_heartbeat w p ms (kept_alive p n s) (alive_known p n s)
    ∙ ap (λ (r : List Note). heartbeat (heartbeat_noted r) ms) (run_goes_on (alive_note p n s) s.notes k)
messages_heartbeat w p (Response r ∷ ms) s k = messages_heartbeat w p ms s k

pub heartbeat_both : (b : ℕ) (xs ys : List Msg) → heartbeat b (xs ++ ys) ≡ heartbeat (heartbeat b xs) ys
heartbeat_both b [] ys = refl
heartbeat_both b (Command respond c ∷ xs) ys = heartbeat_both b xs ys
heartbeat_both b (KeepAlive (Seconds n) ∷ xs) ys = heartbeat_both (max 250 (min (1000 * n) 30000)) xs ys
heartbeat_both b (KeepAlive (Millis n) ∷ xs) ys = heartbeat_both (max 250 (min n 30000)) xs ys
heartbeat_both b (Response r ∷ xs) ys = heartbeat_both b xs ys

-- ---- the counts

pub distinct_next : (w : DeviceSizes) (p : Peer) (c : CommandFields) (s : State) → is_noted s.moment s.notes p ≡ true → AreDistinct (executed_of p s.notes) →
    accepts_handle w (executed_of p s.notes) c.handle ≡ true → AreDistinct (executed_of p (fresh_state p c s).notes)
distinct_next w p c s k d is_so =
    subst (λ (x : List CommandFields). AreDistinct x) (sym (fresh_executed p c s k))
    (subst (λ (b : Bool). AreDistinct (cond b (executed_of p s.notes ++ c ∷ []) (executed_of p s.notes))) is_so (distinct_after w (executed_of p s.notes) c d))

command_counted : (w : DeviceSizes) (p : Peer) (c : CommandFields) (s : State) → AreDistinct (executed_of p s.notes) →
    count_of_command (judged_in w s p c) ≡ counted_command w (executed_of p s.notes) c
command_counted w p c s d =
    by (accepts w.window A c.handle) (entry_under c.handle (window w.window A))
    ∙ ap (λ b. cond b (counts 1 0 0 0) (cond (asks_so (λ x. x) o c) (counts 0 1 0 0) (cond (asks_so not o c) (counts 0 0 0 1) (counts 0 0 1 0)))) (accepts_same w A c.handle)
    ∙ ap (λ b. cond (accepts_handle w (commands_of A) c.handle) (counts 1 0 0 0) (cond b (counts 0 1 0 0) (cond (asks_so not o c) (counts 0 0 0 1) (counts 0 0 1 0)))) (sym (duplicate_is w A c d))
    ∙ ap (λ b. cond (accepts_handle w (commands_of A) c.handle) (counts 1 0 0 0) (cond (is_duplicate w (commands_of A) c) (counts 0 1 0 0) (cond b (counts 0 0 0 1) (counts 0 0 1 0)))) (sym (reuse_is w A c d))
  where
    A : List Entry
    A = accepted (run p s.notes)

    o : Option Entry
    o = entry_under c.handle (window w.window A)

    by_asked : (e : Entry) (k : Bool) → count_of_command (cond k (Duplicate e.reply) Reused) ≡ cond k (counts 0 1 0 0) (cond (not k) (counts 0 0 0 1) (counts 0 0 1 0))
    by_asked e true = refl
    by_asked e false = refl

    by : (b : Bool) (o : Option Entry) → count_of_command (cond b Fresh (judge_unaccepted o c))
        ≡ cond b (counts 1 0 0 0) (cond (asks_so (λ x. x) o c) (counts 0 1 0 0) (cond (asks_so not o c) (counts 0 0 0 1) (counts 0 0 1 0)))
    by true o = refl
    by false None = refl
    by false (Some e) = by_asked e (asks_the_same e.command c)

pub messages_counted : (w : DeviceSizes) (p : Peer) (ms : List Msg) (s : State) → is_noted s.moment s.notes p ≡ true → AreDistinct (executed_of p s.notes) →
    counts_of_messages w p ms s ≡ all_counted w (executed_of p s.notes) ms
messages_counted w p [] s k d = refl
messages_counted w p (Command respond c ∷ ms) s k d =
    ap (λ (x : Counts). plus x (counts_of_messages w p ms (after_command (judged_in w s p c) p c s))) (command_counted w p c s d)
    ∙ ap (λ (x : State). plus (counted_command w A c) (counts_of_messages w p ms x)) (after_judged w p c s)
    ∙ ap (λ (x : Counts). plus (counted_command w A c) x)
    (by (accepts_handle w A c.handle) refl
    (λ is_so. messages_counted w p ms (fresh_state p c s) (fresh_known p c s) (distinct_next w p c s k d is_so)
    ∙ ap (λ (B : List CommandFields). all_counted w B ms) (fresh_executed p c s k))
    (messages_counted w p ms s k d))
  where
    A : List CommandFields
    A = executed_of p s.notes

    by : (b : Bool) → accepts_handle w A c.handle ≡ b →
        (accepts_handle w A c.handle ≡ true → counts_of_messages w p ms (fresh_state p c s) ≡ all_counted w (A ++ c ∷ []) ms) →
        counts_of_messages w p ms s ≡ all_counted w A ms →
        counts_of_messages w p ms (cond b (fresh_state p c s) s) ≡ all_counted w (cond b (A ++ c ∷ []) A) ms
    by true q f g = f q
    by false q f g = g
messages_counted w p (KeepAlive form ∷ ms) s k d =
    let next = kept_alive p (time_of form) s in
    let same = alive_executed p (time_of form) s k in
    none_before (counts_of_messages w p ms next)
    ∙ messages_counted w p ms next (alive_known p (time_of form) s) (subst (λ (x : List CommandFields). AreDistinct x) (sym same) d)
    ∙ ap (λ (B : List CommandFields). all_counted w B ms) same
  where
    from_zero : (n : ℕ) → 0 + n ≡ n
    from_zero n = omega arith

    none_before : (x : Counts) → plus (counts 0 0 0 0) x ≡ x
    none_before x = sums x.executed x.kept x.old x.reused
      where
        sums : (a b c d : ℕ) → counts (0 + a) (0 + b) (0 + c) (0 + d) ≡ counts a b c d
        sums a b c d = simp from_zero
messages_counted w p (Response r ∷ ms) s k d = none_before (counts_of_messages w p ms s) ∙ messages_counted w p ms s k d
  where
    from_zero : (n : ℕ) → 0 + n ≡ n
    from_zero n = omega arith

    none_before : (x : Counts) → plus (counts 0 0 0 0) x ≡ x
    none_before x = sums x.executed x.kept x.old x.reused
      where
        sums : (a b c d : ℕ) → counts (0 + a) (0 + b) (0 + c) (0 + d) ≡ counts a b c d
        sums a b c d = simp from_zero
