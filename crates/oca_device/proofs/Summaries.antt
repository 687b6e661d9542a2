-- What a device knows of its peers is what the events say of them.
use Rattle.oca_device.proofs.Words.{◌≡◌, ℕ, ◌-◌, Bool, true, cond, List, [], ◌∷◌, length, refl, sym, ap, ◌∙◌, subst, map, filter, Option, Some, Peer, CommandFields, DeviceSizes, most_parameter_bytes}
use Rattle.oca_device.proofs.Words.{Object, Msg, Entry, window, outside, entry_under, greatest, higher_of, Session, Note, run, is_noted, noted_peers, noted_order, accepted, heartbeat_noted, State}
use Rattle.oca_device.proofs.Words.{session_within, table_of, response, Arrival, Happening, clock, admitted, messages_in, accepted_of, Change, changes, reply, Summary, summary_of, summary_by_events}
use Rattle.oca_device.proofs.Words.{greatest_handle, on_bool}
use Rattle.std.specs.List.{IsDistinct}
use Rattle.oca_device.specs.LawByEvents as law
use Rattle.oca_device.proofs.Acceptance.{commands_of, AreDistinct, distinct_none, distinct_of, distinct_dropped, found_after, window_mapped, outside_mapped}
use Rattle.oca_device.proofs.Peers.{equal_self}
use Rattle.oca_device.proofs.Answering.{AnswersUnder, Replied}
use Rattle.oca_device.proofs.Sessions.{latest, AllBridged, known_are, session_is}
use Rattle.oca_device.proofs.Standing.{Stands}

-- the session of a peer, where there is room for each reply
abbrev session_for : DeviceSizes → List Note → Peer → Session
session_for w notes p = session_within most_parameter_bytes w notes p

module _ {X Y Z : Type 0} where
  map_twice : (f : Y → Z) (g : X → Y) (xs : List X) → map f (map g xs) ≡ map (λ x. f (g x)) xs
  map_twice f g [] = refl
  map_twice f g (x ∷ xs) = ap (λ (ys : List Z). f (g x) ∷ ys) (map_twice f g xs)

module _ {X Y : Type 0} where
  -- two maps are the same where they are on the members
  map_filtered : (t : X → Bool) (f g : X → Y) → ((x : X) → t x ≡ true → f x ≡ g x) → (xs : List X) → map f (filter t xs) ≡ map g (filter t xs)
  map_filtered t f g h [] = refl
  map_filtered t f g h (x ∷ xs) =
      on_bool (t x) (λ b. t x ≡ b → map f (filter t xs) ≡ map g (filter t xs) → map f (cond b (x ∷ filter t xs) (filter t xs)) ≡ map g (cond b (x ∷ filter t xs) (filter t xs)))
      (λ e k. ap (λ (y : Y). y ∷ map f (filter t xs)) (h x e) ∙ ap (λ (ys : List Y). g x ∷ ys) k) (λ e k. k) refl (map_filtered t f g h xs)

summary_with : Peer → ℕ → ℕ → List CommandFields → List (List Msg) → Option ℕ → Summary
summary_with p t ms cs rs floor = record { peer = p; heard = t; heartbeat = ms; commands = cs; replies = rs; floor = floor }

-- the responses that are retained for entries
abbrev responses_of : List Entry → List (List Msg)
responses_of es = map (λ e. response e.command.handle e.reply ∷ []) es

-- the responses of entries are what is answered under their handles
each_answered : (f : ℕ → List Msg) (es : List Entry) → AreDistinct (commands_of es) → AnswersUnder f es → responses_of es ≡ map (λ c. f c.handle) (commands_of es)
unfolding IsDistinct
each_answered f [] d u = refl
each_answered f (e ∷ es) d u =
    ap (λ (x : List Msg). x ∷ responses_of es) (sym (u e.command.handle e (ap (λ b. cond b (Some e) (entry_under e.command.handle es)) (equal_self e.command.handle))))
    ∙ ap (λ (xs : List (List Msg)). f e.command.handle ∷ xs) (each_answered f es d.1 (λ h x q. u h x (found_after 1 h (e ∷ es) x d q)))

window_answered : (w : DeviceSizes) (f : ℕ → List Msg) (A : List Entry) → AreDistinct (commands_of A) → AnswersUnder f A →
    responses_of (window w.window A) ≡ map (λ c. f c.handle) (commands_of (window w.window A))
window_answered w f A d u =
    each_answered f (window w.window A) (subst (λ (x : List CommandFields). AreDistinct x) (window_mapped w A) (distinct_dropped (length (commands_of A) - w.window) (commands_of A) d))
    (λ h x q. u h x (found_after (length A - w.window) h A x d q))

greatest_mapped : (es : List Entry) → greatest es ≡ greatest_handle (commands_of es)
greatest_mapped [] = refl
greatest_mapped (e ∷ es) = ap (higher_of (Some e.command.handle)) (greatest_mapped es)

one_summary : (w : DeviceSizes) (tree : List Object) (C : List Change) (s : State) (D : List Arrival) (p : Peer) → AllBridged w s D → Replied tree C p (accepted (run p s.notes)) →
    is_noted s.moment s.notes p ≡ true → summary_of (session_for w s.notes p) ≡ summary_by_events w tree C s.moment D p
unfolding summary_with
one_summary w tree C s D p h replied k =
    let b = h.each p in
    let A = accepted (run p s.notes) in
    let f : ℕ → List Msg = λ i. reply p i [] tree C in
    let distinct = subst (λ (x : List CommandFields). AreDistinct x) (sym b.commands) (distinct_of w [] (messages_in (latest p D)) distinct_none) in
    let front = sym (window_mapped w A) ∙ ap (window w.window) b.commands in
    ap (λ (x : ℕ). summary_with p x (heartbeat_noted (run p s.notes)) (commands_of (window w.window A)) (responses_of (window w.window A)) (greatest (outside w.window A))) b.last
    ∙ ap (λ (x : ℕ). summary_with p (law.last_moment (latest p D)) x (commands_of (window w.window A)) (responses_of (window w.window A)) (greatest (outside w.window A))) b.beat
    ∙ ap (λ (x : List (List Msg)). summary_with p (law.last_moment (latest p D)) (law.heartbeat_of (latest p D)) (commands_of (window w.window A)) x (greatest (outside w.window A))) (window_answered w f A distinct replied)
    ∙ ap (λ (x : List CommandFields). summary_with p (law.last_moment (latest p D)) (law.heartbeat_of (latest p D)) x (map (λ c. f c.handle) x) (greatest (outside w.window A))) front
    ∙ ap (λ (x : Option ℕ). summary_with p (law.last_moment (latest p D)) (law.heartbeat_of (latest p D)) (window w.window (accepted_of w [] (messages_in (latest p D)))) (map (λ c. f c.handle) (window w.window (accepted_of w [] (messages_in (latest p D))))) x)
    (greatest_mapped (outside w.window A) ∙ ap greatest_handle (sym (outside_mapped w A) ∙ ap (outside w.window) b.commands))
    ∙ ap (λ (S : List Arrival). summary_with p (law.last_moment S) (law.heartbeat_of S) (window w.window (accepted_of w [] (messages_in S))) (map (λ c. f c.handle) (window w.window (accepted_of w [] (messages_in S)))) (greatest_handle (outside w.window (accepted_of w [] (messages_in S)))))
    (sym (session_is w s D p h k))

pub summaries_are : (w : DeviceSizes) (tree : List Object) (s : State) (H : List Happening) → Stands w tree s H →
    map summary_of (table_of w s).sessions ≡ map (summary_by_events w tree (changes w H) (clock H) (admitted w H)) (law.known (clock H) (admitted w H))
summaries_are w tree s H h =
    map_twice summary_of (session_for w s.notes) (noted_peers s.moment s.notes)
    ∙ map_filtered (is_noted s.moment s.notes) (λ p. summary_of (session_for w s.notes p)) (summary_by_events w tree (changes w H) s.moment (admitted w H))
    (λ p k. one_summary w tree (changes w H) s (admitted w H) p h.bridged (h.replied p) k) (noted_order s.notes)
    ∙ ap (map (summary_by_events w tree (changes w H) s.moment (admitted w H))) (known_are w s.moment s (admitted w H) h.bridged)
    ∙ ap (λ (m : ℕ). map (summary_by_events w tree (changes w H) m (admitted w H)) (law.known m (admitted w H))) h.clock_is
