-- What the messages of a known peer write, and which executions are noted of them, by the law's words.
use Rattle.oca_device.proofs.Words.{◌≡◌, ℕ, Bool, true, false, cond, List, [], ◌∷◌, ◌++◌, refl, sym, ap, ◌∙◌, map, Option, Some, None, append_assoc, append-nil, Peer, CommandFields, DeviceSizes, Msg}
use Rattle.oca_device.proofs.Words.{Command, Response, KeepAlive, Object, after_change, Entry, Fresh, Duplicate, Reused, judge_unaccepted, accepts, entry_under, window, asks_the_same, is_noted}
use Rattle.oca_device.proofs.Words.{accepted, run, State, judged_in, reply_of, after_command, after_messages, time_of, written_by_execution, written_by_command, written_by_messages, accepts_handle}
use Rattle.oca_device.proofs.Words.{accepted_of, Change, Executes, Releases, Sets, objects, ExecutionFor, executions, executions_noted, written_of}
use Rattle.oca_tree.specs.Execution.{execution}
use Rattle.oca_tree.specs.Locks.{released}
use Rattle.oca_device.proofs.Acceptance.{accepts_same}
use Rattle.oca_device.proofs.Messages.{executed_of, fresh_state, fresh_known, fresh_executed, after_judged, kept_alive, alive_executed, alive_known}

-- ---- what is written

command_written : (w : DeviceSizes) (p : Peer) (c : CommandFields) (s : State) →
    written_by_command (judged_in w s p c) p c s ≡ cond (accepts_handle w (executed_of p s.notes) c.handle) (written_by_execution s.tree p c) []
command_written w p c s =
    by (accepts w.window (accepted (run p s.notes)) c.handle) (entry_under c.handle (window w.window (accepted (run p s.notes))))
    ∙ ap (λ b. cond b (written_by_execution s.tree p c) []) (accepts_same w (accepted (run p s.notes)) c.handle)
  where
    by_asked : (e : Entry) (k : Bool) → written_by_command (cond k (Duplicate e.reply) Reused) p c s ≡ []
    by_asked e true = refl
    by_asked e false = refl

    by : (b : Bool) (o : Option Entry) → written_by_command (cond b Fresh (judge_unaccepted o c)) p c s ≡ cond b (written_by_execution s.tree p c) []
    by true o = refl
    by false None = refl
    by false (Some e) = by_asked e (asks_the_same e.command c)

pub messages_written : (w : DeviceSizes) (p : Peer) (ms : List Msg) (s : State) → is_noted s.moment s.notes p ≡ true →
    written_by_messages w p ms s ≡ written_of p s.tree (accepted_of w (executed_of p s.notes) ms)
messages_written w p [] s k = refl
messages_written w p (Command respond c ∷ ms) s k =
    ap (λ (x : List ℕ). x ++ written_by_messages w p ms (after_command (judged_in w s p c) p c s)) (command_written w p c s)
    ∙ ap (λ (x : State). cond (accepts_handle w A c.handle) here [] ++ written_by_messages w p ms x) (after_judged w p c s)
    ∙ by (accepts_handle w A c.handle)
    (ap (λ (x : List ℕ). here ++ x)
    (messages_written w p ms (fresh_state p c s) (fresh_known p c s)
    ∙ ap (λ (B : List CommandFields). written_of p (execution s.tree p c).tree (accepted_of w B ms)) (fresh_executed p c s k)))
    (messages_written w p ms s k)
  where
    A : List CommandFields
    A = executed_of p s.notes

    here : List ℕ
    here = written_by_execution s.tree p c

    by : (b : Bool) →
        here ++ written_by_messages w p ms (fresh_state p c s) ≡ written_of p s.tree (c ∷ accepted_of w (A ++ c ∷ []) ms) →
        written_by_messages w p ms s ≡ written_of p s.tree (accepted_of w A ms) →
        cond b here [] ++ written_by_messages w p ms (cond b (fresh_state p c s) s) ≡ written_of p s.tree (cond b (c ∷ accepted_of w (A ++ c ∷ []) ms) (accepted_of w A ms))
    by true f g = f
    by false f g = g
messages_written w p (KeepAlive form ∷ ms) s k =
    messages_written w p ms (kept_alive p (time_of form) s) (alive_known p (time_of form) s)
    ∙ ap (λ (B : List CommandFields). written_of p s.tree (accepted_of w B ms)) (alive_executed p (time_of form) s k)
messages_written w p (Response r ∷ ms) s k = messages_written w p ms s k

-- ---- executions

pub executions_both : (tree : List Object) (xs ys : List Change) → executions tree (xs ++ ys) ≡ executions tree xs ++ executions (objects tree xs) ys
executions_both tree [] ys = refl
executions_both tree (Releases p ∷ xs) ys = executions_both (released tree p) xs ys
executions_both tree (Sets ono change ∷ xs) ys = executions_both (after_change tree ono change) xs ys
executions_both tree (Executes p c ∷ xs) ys =
    ap (λ (x : List ExecutionFor). (record { peer = p; objects = tree; command = c; reply = reply_of tree p c }) ∷ x) (executions_both (execution tree p c).tree xs ys)

pub executions_released : (ps : List Peer) (tree : List Object) → executions tree (map Releases ps) ≡ []
executions_released [] tree = refl
executions_released (p ∷ ps) tree = executions_released ps (released tree p)

pub messages_noted : (w : DeviceSizes) (p : Peer) (ms : List Msg) (s : State) → is_noted s.moment s.notes p ≡ true →
    executions_noted (after_messages w p ms s).notes ≡ executions_noted s.notes ++ executions s.tree (map (Executes p) (accepted_of w (executed_of p s.notes) ms))
messages_noted w p [] s k = sym (append-nil (executions_noted s.notes))
messages_noted w p (Command respond c ∷ ms) s k =
    ap (λ (x : State). executions_noted (after_messages w p ms x).notes) (after_judged w p c s)
    ∙ by (accepts_handle w A c.handle)
    (messages_noted w p ms (fresh_state p c s) (fresh_known p c s)
    ∙ ap (λ (B : List CommandFields). (before ++ here ∷ []) ++ executions (execution s.tree p c).tree (map (Executes p) (accepted_of w B ms))) (fresh_executed p c s k)
    ∙ append_assoc before (here ∷ []) (executions (execution s.tree p c).tree (map (Executes p) (accepted_of w (A ++ c ∷ []) ms))))
    (messages_noted w p ms s k)
  where
    A : List CommandFields
    A = executed_of p s.notes

    before : List ExecutionFor
    before = executions_noted s.notes

    here : ExecutionFor
    here = record { peer = p; objects = s.tree; command = c; reply = reply_of s.tree p c }

    by : (b : Bool) →
        executions_noted (after_messages w p ms (fresh_state p c s)).notes ≡ before ++ executions s.tree (map (Executes p) (c ∷ accepted_of w (A ++ c ∷ []) ms)) →
        executions_noted (after_messages w p ms s).notes ≡ before ++ executions s.tree (map (Executes p) (accepted_of w A ms)) →
        executions_noted (after_messages w p ms (cond b (fresh_state p c s) s)).notes
        ≡ before ++ executions s.tree (map (Executes p) (cond b (c ∷ accepted_of w (A ++ c ∷ []) ms) (accepted_of w A ms)))
    by true f g = f
    by false f g = g
messages_noted w p (KeepAlive form ∷ ms) s k =
    messages_noted w p ms (kept_alive p (time_of form) s) (alive_known p (time_of form) s)
    ∙ ap (λ (B : List CommandFields). (executions_noted s.notes ++ []) ++ executions s.tree (map (Executes p) (accepted_of w B ms))) (alive_executed p (time_of form) s k)
    ∙ ap (λ (x : List ExecutionFor). x ++ executions s.tree (map (Executes p) (accepted_of w (executed_of p s.notes) ms))) (append-nil (executions_noted s.notes))
messages_noted w p (Response r ∷ ms) s k = messages_noted w p ms s k
