-- The executions by what happened are those that the device noted.
use Rattle.oca_pair.proofs.Words.{◌≡◌, ℕ, Bool, true, false, cond, List, [], ◌∷◌, ◌++◌, refl, sym, ap, ◌∙◌, map, max, if◌then◌else◌, Result, Ok, Err, Peer, same_peer, CommandFields, DeviceSizes}
use Rattle.oca_pair.proofs.Words.{PduFault, Msg, Command, Response, KeepAlive, read_datagram, Object, released, after_change, Event, Datagram, Tick, Local, Noted, Admitted, Heartbeat, Executed, Note}
use Rattle.oca_pair.proofs.Words.{is_noted, State, noted, moved_to, admits, after_messages, after_reading, state_after, time_of, Happening, Passes, Sets, Change, Executes, Releases, clock, admitted}
use Rattle.oca_pair.proofs.Words.{lapsed_peers, has_room, accepts_handle, accepted_of, accepted_by, changes, sayings, happenings, Execution, execution_of, executions_in}
use Rattle.std.proofs.lemmas.List.{append_assoc, append-nil}
use Rattle.oca_tree.specs.Execution.{execution}
use Rattle.oca_device.specs.LawByEvents as law
use Rattle.oca_device.proofs.Messages.{executed_of, fresh_state, fresh_known, fresh_executed, after_judged, kept_alive, alive_known, alive_executed}
use Rattle.oca_device.proofs.Sessions.{same_room, let_in, let_in_known, let_in_executed}
use Rattle.oca_device.proofs.Standing.{Stands, passing}
use Rattle.oca_pair.proofs.ByEvents.{stands_by}

-- what a note says of an execution
abbrev pub executed_in : Noted → List Execution
executed_in (Admitted messages) = []
executed_in (Heartbeat ms) = []
executed_in (Executed objects command reply) = (record { objects = objects; command = command; reply = reply }) ∷ []

-- the executions for a peer that were noted, the latest first
abbrev pub executed_for : Peer → List Note → List Execution
executed_for p [] = []
executed_for p (n ∷ notes) = (if same_peer n.peer p then executed_in n.what else []) ++ executed_for p notes

-- ---- changes one after another

executions_both : (p : Peer) (tree : List Object) (xs ys : List Change) → executions_in p tree (xs ++ ys) ≡ executions_in p (law.objects tree xs) ys ++ executions_in p tree xs
executions_both p tree [] ys = sym (append-nil (executions_in p tree ys))
executions_both p tree (Releases q ∷ xs) ys = executions_both p (released tree q) xs ys
executions_both p tree (Sets ono change ∷ xs) ys = executions_both p (after_change tree ono change) xs ys
executions_both p tree (Executes q c ∷ xs) ys =
    let here : List Execution = cond (same_peer q p) (execution_of tree q c ∷ []) [] in
    let next : List Object = (execution tree q c).tree in
    ap (λ (x : List Execution). x ++ here) (executions_both p next xs ys)
    ∙ append_assoc (executions_in p (law.objects next xs) ys) (executions_in p next xs) here

executions_released : (p : Peer) (tree : List Object) (ps : List Peer) → executions_in p tree (map Releases ps) ≡ []
executions_released p tree [] = refl
executions_released p tree (q ∷ ps) = executions_released p (released tree q) ps

-- ---- messages of a known peer

-- a note that is of no execution
none_noted : (p q : Peer) (what : Noted) (s : State) → executed_in what ≡ [] → executed_for p (noted q what s).notes ≡ executed_for p s.notes
none_noted p q what s e = ap (λ (x : List Execution). cond (same_peer q p) x [] ++ executed_for p s.notes) e ∙ by_test (same_peer q p)
  where
    by_test : (b : Bool) → (let x : List Execution = cond b [] [] in x) ++ executed_for p s.notes ≡ executed_for p s.notes
    by_test true = refl
    by_test false = refl

messages_executed : (w : DeviceSizes) (p q : Peer) (ms : List Msg) (s : State) → is_noted s.moment s.notes q ≡ true →
    executed_for p (after_messages w q ms s).notes ≡ executions_in p s.tree (map (Executes q) (accepted_of w (executed_of q s.notes) ms)) ++ executed_for p s.notes
messages_executed w p q [] s k = refl
messages_executed w p q (Command respond c ∷ ms) s k =
    ap (λ (x : State). executed_for p (after_messages w q ms x).notes) (after_judged w q c s)
    ∙ by_accepted (accepts_handle w cs c.handle)
    (messages_executed w p q ms (fresh_state q c s) (fresh_known q c s)
    ∙ ap (λ (B : List CommandFields). executions_in p next (map (Executes q) (accepted_of w B ms)) ++ (here ++ executed_for p s.notes)) (fresh_executed q c s k)
    ∙ sym (append_assoc (executions_in p next (map (Executes q) (accepted_of w (cs ++ c ∷ []) ms))) here (executed_for p s.notes)))
    (messages_executed w p q ms s k)
  where
    cs : List CommandFields
    cs = executed_of q s.notes

    next : List Object
    next = (execution s.tree q c).tree

    here : List Execution
    here = cond (same_peer q p) (execution_of s.tree q c ∷ []) []

    by_accepted : (b : Bool) →
        executed_for p (after_messages w q ms (fresh_state q c s)).notes
        ≡ executions_in p s.tree (map (Executes q) (c ∷ accepted_of w (cs ++ c ∷ []) ms)) ++ executed_for p s.notes →
        executed_for p (after_messages w q ms s).notes ≡ executions_in p s.tree (map (Executes q) (accepted_of w cs ms)) ++ executed_for p s.notes →
        executed_for p (after_messages w q ms (cond b (fresh_state q c s) s)).notes
        ≡ executions_in p s.tree (map (Executes q) (cond b (c ∷ accepted_of w (cs ++ c ∷ []) ms) (accepted_of w cs ms))) ++ executed_for p s.notes
    by_accepted true f g = f
    by_accepted false f g = g
messages_executed w p q (KeepAlive form ∷ ms) s k =
    messages_executed w p q ms (kept_alive q (time_of form) s) (alive_known q (time_of form) s)
    ∙ ap (λ (B : List CommandFields). executions_in p s.tree (map (Executes q) (accepted_of w B ms)) ++ executed_for p (kept_alive q (time_of form) s).notes) (alive_executed q (time_of form) s k)
    ∙ ap (λ (x : List Execution). executions_in p s.tree (map (Executes q) (accepted_of w (executed_of q s.notes) ms)) ++ x) (none_noted p q (Heartbeat (time_of form)) s refl)
messages_executed w p q (Response r ∷ ms) s k = messages_executed w p q ms s k

-- ---- events

passing_executed : (w : DeviceSizes) (p : Peer) (tree : List Object) (now : ℕ) (H : List Happening) → executions_in p tree (changes w (Passes now ∷ H)) ≡ executions_in p tree (changes w H)
passing_executed w p tree now H =
    let C : List Change = changes w H in
    let ps : List Peer = lapsed_peers w (clock (Passes now ∷ H)) H in
    executions_both p tree C (map Releases ps) ∙ ap (λ (x : List Execution). x ++ executions_in p tree C) (executions_released p (law.objects tree C) ps)

pub executions_are : (w : DeviceSizes) (p : Peer) (tree : List Object) (E : List Event) → executions_in p tree (changes w (happenings E)) ≡ executed_for p (state_after w tree E).notes
executions_are w p tree [] = refl
executions_are w p tree (Tick now ∷ E) = passing_executed w p tree now (happenings E) ∙ executions_are w p tree E
executions_are w p tree (Local ono change ∷ E) = executions_both p tree (changes w (happenings E)) (Sets ono change ∷ []) ∙ executions_are w p tree E
executions_are w p tree (Datagram q bytes now ∷ E) = by_read (passing_executed w p tree now (happenings E) ∙ executions_are w p tree E) (read_datagram bytes)
  where
    s1 : State
    s1 = moved_to (max (state_after w tree E).moment now) (state_after w tree E)

    H1 : List Happening
    H1 = Passes now ∷ happenings E

    t : ℕ
    t = clock H1

    C : List Change
    C = changes w H1

    A : List CommandFields
    A = accepted_by w t q (admitted w H1)

    stands1 : Stands w tree s1 H1
    stands1 = passing w tree now (state_after w tree E) (happenings E) (stands_by w tree E)

    same_accepted : (ms : List Msg) → executed_of q (let_in q ms s1).notes ≡ A
    same_accepted ms =
        let_in_executed w q ms s1 (admitted w H1) (stands1.bridged.each q)
        ∙ ap (λ (m : ℕ). accepted_by w m q (admitted w H1)) stands1.clock_is

    by_room : (ms : List Msg) (b : Bool) → executions_in p tree C ≡ executed_for p s1.notes →
        executions_in p tree (C ++ map (Executes q) (accepted_of w A (cond b ms [])))
        ≡ executed_for p (let x : State = cond b (after_messages w q ms (let_in q ms s1)) s1 in x).notes
    by_room ms false e = ap (executions_in p tree) (append-nil C) ∙ e
    by_room ms true e =
        executions_both p tree C (map (Executes q) (accepted_of w A ms))
        ∙ ap (λ (x : List Object). executions_in p x (map (Executes q) (accepted_of w A ms)) ++ executions_in p tree C) (sym stands1.tree_is)
        ∙ ap (λ (B : List CommandFields). executions_in p s1.tree (map (Executes q) (accepted_of w B ms)) ++ executions_in p tree C) (sym (same_accepted ms))
        ∙ ap (λ (x : List Execution). executions_in p s1.tree (map (Executes q) (accepted_of w (executed_of q (let_in q ms s1).notes) ms)) ++ x)
        (e ∙ sym (none_noted p q (Admitted ms) s1 refl))
        ∙ sym (messages_executed w p q ms (let_in q ms s1) (let_in_known q ms s1))

    same : admits w s1 q ≡ has_room w t q (admitted w H1)
    same = same_room w s1 q (admitted w H1) stands1.bridged ∙ ap (λ (m : ℕ). has_room w m q (admitted w H1)) stands1.clock_is

    by_read : executions_in p tree C ≡ executed_for p s1.notes → (r : Result (List Msg) PduFault) →
        executions_in p tree (changes w (sayings q r ++ H1)) ≡ executed_for p (after_reading w q r s1).notes
    by_read e (Err f) = e
    by_read e (Ok ms) =
        ap (λ b. executions_in p tree (C ++ map (Executes q) (accepted_of w A (cond b ms [])))) (sym same)
        ∙ by_room ms (admits w s1 q) e
