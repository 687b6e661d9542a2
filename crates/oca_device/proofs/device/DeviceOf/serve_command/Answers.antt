use Rattle.oca_device.proofs.Words.{◌≡◌, ℕ, List, [], ◌∷◌, ◌++◌, length, Bool, true, false, cond, ap, ◌∙◌, refl, sym, subst, arith, IsSome, append-nil, length-map, Peer, Reply, reply_in}
use Rattle.oca_device.proofs.Words.{CommandFields, fields_of, DeviceSizes, Msg, Command, Pdu, Counts, with_answer, with_answers, encodings, Object, Entry, Judgement, Fresh, Duplicate, Reused, Old}
use Rattle.oca_device.proofs.Words.{session_of, with_sessions, with_changed, with_accepted, AgreesAt, Table, Executed, accepted, run, is_noted, last_noted, State, judged_in, after_command, reply_of}
use Rattle.oca_device.proofs.Words.{response, answer_to_command, plus, count_of_command, KeptPackets, first_packets, numbers_of, written_by_execution, written_by_command, Effect, effect_with}
use Rattle.oca_device.proofs.Words.{outcome_of, DeviceState, IsIn, ServesMessage, shortened_reply, shortened_entries, shortened_answers}
use Rattle.oca_types.specs.declared.words.Ono.{Ono}
use Rattle.oca_tree.specs.Execution.{execution}
use Rattle.oca_device.specs.declared.effect.CommandOutcome.{CommandOutcome}
use Rattle.oca_device.specs.declared.effect.CommandOutcome.TheVariants as outcome
use Rattle.oca_device.proofs.Rooms.{none_answered, one_answered, judged_short, was_fresh, was_duplicate, was_reused, was_old}
use Rattle.oca_device.proofs.Opened.{device_with, parts_in, written_in, effects_in}
use Rattle.oca_device.proofs.Steps.{executed_there, agrees_there, known_there, one_executed, one_kept, one_old, one_reused}
use Rattle.oca_device.proofs.device.DeviceOf.serve_command.Goals as goal

-- the packets of groups became those of the groups with these answers
abbrev Answered : KeptPackets → KeptPackets → List Msg → Type 0
Answered before after ms = (room : ℕ) (groups : List Pdu) → before ≡ first_packets room (encodings groups) → after ≡ first_packets room (encodings (with_answers groups ms))

none_more_answered : (most : ℕ) (kept : KeptPackets) → Answered kept kept (shortened_answers most [])
none_more_answered most kept = λ room groups is. is ∙ ap (λ (ms : List Msg). first_packets room (encodings (with_answers groups ms))) (sym (none_answered most))

-- what is answered to a command, whether it asks for a response or not
answered : (most : ℕ) (b : Bool) (before after : KeptPackets) (ms : List Msg) → (b ≡ true → Answered before after (shortened_answers most ms)) → (b ≡ false → after ≡ before) →
    Answered before after (shortened_answers most (cond b ms []))
answered most true before after ms h k = h refl
answered most false before after ms h k = λ room groups is. k refl ∙ none_more_answered most before room groups is

-- a command is served as it is judged
by_judgement : (most : ℕ) (w : DeviceSizes) (s : State) (p : Peer) (command : CommandFields) (respond : Bool) (old new : DeviceState) (before after : KeptPackets) (n m : Counts)
    (j : Judgement) → j ≡ judged_in w s p command → IsIn most w new (after_command j p command s) → new.written ≡ old.written ++ written_by_command j p command s →
    new.effects ≡ old.effects ++ effect_with (outcome_of j p command s) respond command ∷ [] →
    (respond ≡ true → Answered before after (shortened_answers most (answer_to_command j p command s))) → (respond ≡ false → after ≡ before) →
    m ≡ plus n (count_of_command j) → ServesMessage most w old new p (Command respond command) s before after n m
by_judgement most w s p command respond old new before after n m j is device written effects with_response without counted = record {
  written = written ∙ ap (λ (x : Judgement). old.written ++ written_by_command x p command s) is;
  effects = effects ∙ ap (λ (x : Judgement). old.effects ++ effect_with (outcome_of x p command s) respond command ∷ []) is;
  device = subst (λ (x : Judgement). IsIn most w new (after_command x p command s)) is device;
  packets = subst (λ (x : Judgement). Answered before after (shortened_answers most (cond respond (answer_to_command x p command s) []))) is
      (answered most respond before after (answer_to_command j p command s) with_response without);
  counts = counted ∙ ap (λ (x : Judgement). plus n (count_of_command x)) is;
}

-- the session of the peer retains what is that of its accepted commands
agreed_in : {written : List ℕ} {effects : List Effect} (most : ℕ) (w : DeviceSizes) (s : State) (p : Peer) (tree : List Object) (old : Table) (self : DeviceState) → device_with tree old written effects ≡ self → IsIn most w self s →
    IsSome (session_of p self.sessions.sessions) → AgreesAt p w.window (shortened_entries most (accepted (run p s.notes))) old.sessions
agreed_in most w s p tree old self e h known =
    let was = parts_in tree old self w s e h in
    agrees_there most w s p old was.sessions (known_there most w s p old was.sessions (subst (λ (d : DeviceState). IsSome (session_of p d.sessions.sessions)) (sym e) known))

-- a fresh command was executed, and retained with its reply
fresh_served : {written now_written : List ℕ} {effects now_effects : List Effect} (most : ℕ) (w : DeviceSizes) (s : State) (p : Peer) (command : CommandFields) (tree : List Object) (old : Table) (new_tree : List Object) (new : Table) (reply : Reply) →
    IsIn most w (device_with tree old written effects) s → is_noted s.moment s.notes p ≡ true → last_noted (run p s.notes) ≡ s.moment →
    new_tree ≡ (execution tree p command).tree → reply ≡ shortened_reply most (reply_of s.tree p command) →
    new ≡ with_sessions old (with_changed p (with_accepted w.window (shortened_entries most (accepted (run p s.notes)) ++ (record { command = command; reply = reply }) ∷ [])) old.sessions) →
    IsIn most w (device_with new_tree new now_written now_effects) (after_command Fresh p command s)
fresh_served most w s p command tree old new_tree new reply was known now executed replied kept =
    let made : Entry = record { command = command; reply = reply_of s.tree p command } in
    let A = shortened_entries most (accepted (run p s.notes)) in
    record {
      tree = executed ∙ ap (λ t. (execution t p command).tree) was.tree;
      sessions = executed_there most w s p (Executed s.tree command (reply_of s.tree p command)) made old new was.sessions known now (λ own t. (refl, refl))
          (kept ∙ ap (λ (r : Reply). with_sessions old (with_changed p (with_accepted w.window (A ++ (record { command = command; reply = r }) ∷ [])) old.sessions)) replied);
    }

-- what was written, and then what an execution wrote
more_written : {tree : List Object} {old : Table} {effects : List Effect} {self : DeviceState} (p : Peer) (command : CommandFields) (s : State) (xs ys : List ℕ) → device_with tree old xs effects ≡ self → tree ≡ s.tree →
    ys ≡ xs ++ written_by_execution tree p command → ys ≡ self.written ++ written_by_command Fresh p command s
more_written {tree} {self = self} p command s xs ys view same h =
    h ∙ ap (λ (zs : List ℕ). zs ++ written_by_execution tree p command) (written_in view)
    ∙ ap (λ (t : List Object). self.written ++ written_by_execution t p command) same

-- where no command is executed, the device is as it was but for the effects
still_in : {most : ℕ} {w : DeviceSizes} {s : State} {tree : List Object} {old : Table} {written : List ℕ} {effects now_effects : List Effect} {self : DeviceState} → device_with tree old written effects ≡ self → IsIn most w self s →
    IsIn most w (device_with tree old written now_effects) s
still_in {most} {w} {s} {tree} {old} {self = self} e h = let was = parts_in tree old self w s e h in record { tree = was.tree; sessions = was.sessions }

-- the effects so far, and then one more
one_more : {tree : List Object} {old : Table} {written : List ℕ} {xs : List Effect} {self : DeviceState} (ys : List Effect) (became : CommandOutcome) (respond : Bool) (command : CommandFields) →
    device_with tree old written xs ≡ self → ys ≡ xs ++ effect_with became respond command ∷ [] → ys ≡ self.effects ++ effect_with became respond command ∷ []
one_more ys became respond command view h = h ∙ ap (λ (zs : List Effect). zs ++ effect_with became respond command ∷ []) (effects_in view)

pub execute-requires : goal.execute-requires
execute-requires g c =
    omega (arith, length-map c.self.inside.written.items (λ (o : Ono). o.0), ap length (written_in c.self.view_is), c.requires.within, c.requires.few)

pub returns-then-respond-clause-within : goal.returns-then-respond-clause-within
returns-then-respond-clause-within g c =
    omega (arith, length-map c.self.inside.written.items (λ (o : Ono). o.0), length-map c.execute.new.written.items (λ (o : Ono). o.0), ap length (written_in c.self.view_is), c.requires.within, c.execute.ensures.most)

pub returns-else-respond-clause-within : goal.returns-else-respond-clause-within
returns-else-respond-clause-within g c =
    omega (arith, length-map c.self.inside.written.items (λ (o : Ono). o.0), length-map c.execute.new.written.items (λ (o : Ono). o.0), ap length (written_in c.self.view_is), c.requires.within, c.execute.ensures.most)

pub returns-then-respond-clause-serves : goal.returns-then-respond-clause-serves
returns-then-respond-clause-serves g c = λ w s h now.
    let old = c.self.inside.sessions in
    let tree = c.self.inside.tree in
    let p = c.args.from in
    let command = fields_of c.args.command.now in
    let was = parts_in tree old c.args.self.now w s c.self.view_is h in
    let has = subst (λ (d : DeviceState). IsSome (session_of p d.sessions.sessions)) (sym c.self.view_is) c.requires.known in
    let known = known_there g.row.ANSWER w s p old was.sessions has in
    let A = shortened_entries g.row.ANSWER (accepted (run p s.notes)) in
    let agreed = agrees_there g.row.ANSWER w s p old was.sessions known in
    let reply = c.execute.ensures.reply ∙ ap (λ (t : List Object). reply_of t p command) was.tree in
    let again = c.shortened-then-respond.ensures.shortened ∙ ap (shortened_reply g.row.ANSWER) reply in
    let short = c.shortened.ensures.shortened ∙ ap (shortened_reply g.row.ANSWER) reply in
    by_judgement g.row.ANSWER w s p command c.args.respond c.args.self.now (device_with c.execute.new.tree c.keep_parts.new.self (numbers_of c.execute.new.written.items) c.note.new.effects) c.args.outbox.now c.respond.new.self c.args.counts.now _ Fresh
    (was_fresh g.row.ANSWER (judged_in w s p command) (c.in-Fresh.ensures.accepted w.window A agreed ∙ judged_short g.row.ANSWER w.window (accepted (run p s.notes)) command))
    (fresh_served g.row.ANSWER w s p command tree old c.execute.new.tree c.keep_parts.new.self (reply_in c.shortened.result) was known now c.execute.ensures.tree short (c.keep_parts.ensures.accepted w.window A agreed))
    (more_written p command s (numbers_of c.self.inside.written.items) (numbers_of c.execute.new.written.items) c.self.view_is was.tree c.execute.ensures.written)
    (one_more c.note.new.effects (outcome.Executed c.execute.new.made.status) c.args.respond command c.self.view_is c.note.ensures
    ∙ ap (λ (r : Reply). c.args.self.now.effects ++ effect_with (outcome.Executed r.status) c.args.respond command ∷ []) reply)
    (λ _ room groups is. c.respond.ensures.groups room groups is ∙ ap (λ (r : Reply). first_packets room (encodings (with_answer groups (response command.handle r)))) again
    ∙ ap (λ (ms : List Msg). first_packets room (encodings (with_answers groups ms))) (sym (one_answered g.row.ANSWER command.handle (reply_of s.tree p command))))
    (λ q. cc)
    (one_executed c.args.counts.now)

pub returns-else-respond-clause-serves : goal.returns-else-respond-clause-serves
returns-else-respond-clause-serves g c = λ w s h now.
    let old = c.self.inside.sessions in
    let tree = c.self.inside.tree in
    let p = c.args.from in
    let command = fields_of c.args.command.now in
    let was = parts_in tree old c.args.self.now w s c.self.view_is h in
    let has = subst (λ (d : DeviceState). IsSome (session_of p d.sessions.sessions)) (sym c.self.view_is) c.requires.known in
    let known = known_there g.row.ANSWER w s p old was.sessions has in
    let A = shortened_entries g.row.ANSWER (accepted (run p s.notes)) in
    let agreed = agrees_there g.row.ANSWER w s p old was.sessions known in
    let reply = c.execute.ensures.reply ∙ ap (λ (t : List Object). reply_of t p command) was.tree in
    let short = c.shortened.ensures.shortened ∙ ap (shortened_reply g.row.ANSWER) reply in
    by_judgement g.row.ANSWER w s p command c.args.respond c.args.self.now (device_with c.execute.new.tree c.keep_parts.new.self (numbers_of c.execute.new.written.items) c.note.new.effects) c.args.outbox.now c.args.outbox.now c.args.counts.now _ Fresh
    (was_fresh g.row.ANSWER (judged_in w s p command) (c.in-Fresh.ensures.accepted w.window A agreed ∙ judged_short g.row.ANSWER w.window (accepted (run p s.notes)) command))
    (fresh_served g.row.ANSWER w s p command tree old c.execute.new.tree c.keep_parts.new.self (reply_in c.shortened.result) was known now c.execute.ensures.tree short (c.keep_parts.ensures.accepted w.window A agreed))
    (more_written p command s (numbers_of c.self.inside.written.items) (numbers_of c.execute.new.written.items) c.self.view_is was.tree c.execute.ensures.written)
    (one_more c.note.new.effects (outcome.Executed c.execute.new.made.status) c.args.respond command c.self.view_is c.note.ensures
    ∙ ap (λ (r : Reply). c.args.self.now.effects ++ effect_with (outcome.Executed r.status) c.args.respond command ∷ []) reply)
    (λ q. cc)
    (λ _. refl)
    (one_executed c.args.counts.now)

pub returns-then-respond-2-clause-serves : goal.returns-then-respond-2-clause-serves
returns-then-respond-2-clause-serves g c = λ w s h now.
    let p = c.args.from in
    let command = fields_of c.args.command.now in
    let agreed = agreed_in g.row.ANSWER w s p c.self.inside.tree c.self.inside.sessions c.args.self.now c.self.view_is h c.requires.known in
    let was = was_duplicate g.row.ANSWER (judged_in w s p command) c.in-Kept.reply.now (c.in-Kept.ensures.accepted w.window (shortened_entries g.row.ANSWER (accepted (run p s.notes))) agreed ∙ judged_short g.row.ANSWER w.window (accepted (run p s.notes)) command) in
    by_judgement g.row.ANSWER w s p command c.args.respond c.args.self.now (device_with c.self.inside.tree c.self.inside.sessions (numbers_of c.self.inside.written.items) c.note-in-Kept.new.effects) c.args.outbox.now c.respond-then-respond-2.new.self c.args.counts.now _ (Duplicate was.0)
    was.1
    (still_in c.self.view_is h)
    (written_in c.self.view_is ∙ sym (append-nil c.args.self.now.written))
    (one_more c.note-in-Kept.new.effects outcome.Duplicate c.args.respond command c.self.view_is c.note-in-Kept.ensures)
    (λ _ room groups is. c.respond-then-respond-2.ensures.groups room groups is ∙ ap (λ (r : Reply). first_packets room (encodings (with_answer groups (response command.handle r)))) (c.parts.ensures.parts ∙ was.2)
    ∙ ap (λ (ms : List Msg). first_packets room (encodings (with_answers groups ms))) (sym (one_answered g.row.ANSWER command.handle was.0)))
    (λ q. cc)
    (one_kept c.args.counts.now)

pub returns-else-respond-2-clause-serves : goal.returns-else-respond-2-clause-serves
returns-else-respond-2-clause-serves g c = λ w s h now.
    let p = c.args.from in
    let command = fields_of c.args.command.now in
    let agreed = agreed_in g.row.ANSWER w s p c.self.inside.tree c.self.inside.sessions c.args.self.now c.self.view_is h c.requires.known in
    let was = was_duplicate g.row.ANSWER (judged_in w s p command) c.in-Kept.reply.now (c.in-Kept.ensures.accepted w.window (shortened_entries g.row.ANSWER (accepted (run p s.notes))) agreed ∙ judged_short g.row.ANSWER w.window (accepted (run p s.notes)) command) in
    by_judgement g.row.ANSWER w s p command c.args.respond c.args.self.now (device_with c.self.inside.tree c.self.inside.sessions (numbers_of c.self.inside.written.items) c.note-in-Kept.new.effects) c.args.outbox.now c.args.outbox.now c.args.counts.now _ (Duplicate was.0)
    was.1
    (still_in c.self.view_is h)
    (written_in c.self.view_is ∙ sym (append-nil c.args.self.now.written))
    (one_more c.note-in-Kept.new.effects outcome.Duplicate c.args.respond command c.self.view_is c.note-in-Kept.ensures)
    (λ q. cc)
    (λ _. refl)
    (one_kept c.args.counts.now)

pub returns-in-Reused-clause-serves : goal.returns-in-Reused-clause-serves
returns-in-Reused-clause-serves g c = λ w s h now.
    let p = c.args.from in
    let command = fields_of c.args.command.now in
    by_judgement g.row.ANSWER w s p command c.args.respond c.args.self.now (device_with c.self.inside.tree c.self.inside.sessions (numbers_of c.self.inside.written.items) c.note-in-Reused.new.effects) c.args.outbox.now c.args.outbox.now c.args.counts.now _ Reused
    (was_reused g.row.ANSWER (judged_in w s p command) (c.in-Reused.ensures.accepted w.window (shortened_entries g.row.ANSWER (accepted (run p s.notes))) (agreed_in g.row.ANSWER w s p c.self.inside.tree c.self.inside.sessions c.args.self.now c.self.view_is h c.requires.known)
    ∙ judged_short g.row.ANSWER w.window (accepted (run p s.notes)) command))
    (still_in c.self.view_is h)
    (written_in c.self.view_is ∙ sym (append-nil c.args.self.now.written))
    (one_more c.note-in-Reused.new.effects outcome.Reused c.args.respond command c.self.view_is c.note-in-Reused.ensures)
    (λ _. none_more_answered g.row.ANSWER c.args.outbox.now)
    (λ _. refl)
    (one_reused c.args.counts.now)

pub returns-in-Old-clause-serves : goal.returns-in-Old-clause-serves
returns-in-Old-clause-serves g c = λ w s h now.
    let p = c.args.from in
    let command = fields_of c.args.command.now in
    by_judgement g.row.ANSWER w s p command c.args.respond c.args.self.now (device_with c.self.inside.tree c.self.inside.sessions (numbers_of c.self.inside.written.items) c.note-in-Old.new.effects) c.args.outbox.now c.args.outbox.now c.args.counts.now _ Old
    (was_old g.row.ANSWER (judged_in w s p command) (c.in-Old.ensures.accepted w.window (shortened_entries g.row.ANSWER (accepted (run p s.notes))) (agreed_in g.row.ANSWER w s p c.self.inside.tree c.self.inside.sessions c.args.self.now c.self.view_is h c.requires.known)
    ∙ judged_short g.row.ANSWER w.window (accepted (run p s.notes)) command))
    (still_in c.self.view_is h)
    (written_in c.self.view_is ∙ sym (append-nil c.args.self.now.written))
    (one_more c.note-in-Old.new.effects outcome.Old c.args.respond command c.self.view_is c.note-in-Old.ensures)
    (λ _. none_more_answered g.row.ANSWER c.args.outbox.now)
    (λ _. refl)
    (one_old c.args.counts.now)
