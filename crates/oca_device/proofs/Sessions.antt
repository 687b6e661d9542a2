-- The notes of a peer and its admitted datagrams say the same of its session.
use Rattle.oca_device.proofs.Words.{◌≡◌, ℕ, Bool, true, false, cond, List, [], ◌∷◌, ◌++◌, length, refl, sym, ap, ◌∙◌, subst, filter, not, ◌&&◌, ◌||◌, ◌*◌, nat_le, nat_lt, if◌then◌else◌, Peer}
use Rattle.oca_device.proofs.Words.{same_peer, CommandFields, DeviceSizes, Msg, Command, Response, KeepAlive, Noted, Admitted, Heartbeat, Executed, Note, notes_of, is_recent, unbroken, run, is_noted}
use Rattle.oca_device.proofs.Words.{peers_except, noted_order, noted_peers, accepted, heartbeat_noted, last_noted, has_lapsed, State, noted, admits, reply_of, after_messages, time_of, lapsed_at}
use Rattle.oca_device.proofs.Words.{Arrival, Happening, session, is_open, messages_in, heartbeat, accepted_of, accepts_handle, admitted, clock, session_has_lapsed, lapsed_peers, has_room, on_bool}
use Rattle.std.specs.Prelude.{◌-◌}
use Rattle.oca_device.specs.LawByEvents as law
use Rattle.oca_device.proofs.Lists.{filter_same, filter_both}
use Rattle.oca_device.proofs.Peers.{same_self, same_is}
use Rattle.oca_device.proofs.Runs.{other_notes, run_goes_on, run_begins, known_now}
use Rattle.oca_device.proofs.Acceptance.{commands_of, accepted_both}
use Rattle.oca_device.proofs.Messages.{executed_of, fresh_state, fresh_known, after_judged, kept_alive, alive_known, messages_executed, messages_heartbeat, messages_other, heartbeat_both}

-- the session of a peer's last datagram, at whatever moment one looks
abbrev pub latest : Peer → List Arrival → List Arrival
latest q [] = []
latest q (a ∷ D) = if not (same_peer a.from q) then latest q D else a ∷ session a.at q D

abbrev pub within : ℕ → List Arrival → Bool
within t [] = false
within t (a ∷ own) = nat_le (t - a.at) 120000

pub session_latest : (t : ℕ) (q : Peer) (D : List Arrival) → session t q D ≡ cond (within t (latest q D)) (latest q D) []
session_latest t q [] = refl
session_latest t q (a ∷ D) =
    on_bool (same_peer a.from q) (λ b. session t q D ≡ cond (within t (latest q D)) (latest q D) [] → cond (not b) (session t q D) (cond (nat_le (t - a.at) 120000) (a ∷ session a.at q D) []) ≡ cond
    (within t (cond (not b) (latest q D) (a ∷ session a.at q D))) (cond (not b) (latest q D) (a ∷ session a.at q D)) [])
    (λ h. refl) (λ h. h) (session_latest t q D)

open_where : (t : ℕ) (own : List Arrival) → is_open (cond (within t own) own []) ≡ within t own
open_where t [] = refl
open_where t (a ∷ own) = on_bool (nat_le (t - a.at) 120000) (λ b. is_open (cond b (a ∷ own) []) ≡ b) refl refl

-- a peer is known where its latest session is within the silence
pub known_where : (t : ℕ) (q : Peer) (D : List Arrival) → law.is_known t q D ≡ within t (latest q D)
known_where t q D = ap is_open (session_latest t q D) ∙ open_where t (latest q D)

-- ---- the notes of a peer say of its session what its admitted datagrams say

pub record Bridged (w : DeviceSizes) (own : List Note) (S : List Arrival) : Type 0 where
  pub moments : (t : ℕ) → is_recent t own ≡ within t S
  pub last : last_noted (unbroken own) ≡ law.last_moment S
  pub beat : heartbeat_noted (unbroken own) ≡ law.heartbeat_of S
  pub commands : commands_of (accepted (unbroken own)) ≡ accepted_of w [] (messages_in S)

pub none_bridged : (w : DeviceSizes) → Bridged w [] []
none_bridged w = record { moments = λ t. refl; last = refl; beat = refl; commands = refl }

-- each note of a datagram has its moment
abbrev IsNow : Peer → State → ℕ → Type 0
IsNow p s at = ((t : ℕ) → is_recent t (notes_of p s.notes) ≡ nat_le (t - at) 120000) × (last_noted (run p s.notes) ≡ at)

noted_now : (p : Peer) (what : Noted) (s : State) → IsNow p (noted p what s) s.moment
noted_now p what s = (
  λ t. ap (λ b. is_recent t (cond b (note ∷ notes_of p s.notes) (notes_of p s.notes))) (same_self p),
  ap (λ b. last_noted (unbroken (cond b (note ∷ notes_of p s.notes) (notes_of p s.notes)))) (same_self p),
)
  where
    note : Note
    note = record { peer = p; at = s.moment; what = what }

moved_now : (p : Peer) (s : State) (a b : ℕ) → a ≡ b → IsNow p s a → IsNow p s b
moved_now p s a b e h = subst (λ (x : ℕ). IsNow p s x) e h

messages_now : (w : DeviceSizes) (p : Peer) (ms : List Msg) (s : State) (at : ℕ) → s.moment ≡ at → IsNow p s at → IsNow p (after_messages w p ms s) at
messages_now w p [] s at e h = h
messages_now w p (Command respond c ∷ ms) s at e h =
    subst (λ (x : State). IsNow p (after_messages w p ms x) at) (sym (after_judged w p c s))
    (by (accepts_handle w (executed_of p s.notes) c.handle)
    (messages_now w p ms (fresh_state p c s) at e (moved_now p (fresh_state p c s) s.moment at e (noted_now p (Executed s.tree c (reply_of s.tree p c)) s)))
    (messages_now w p ms s at e h))
  where
    by : (b : Bool) → IsNow p (after_messages w p ms (fresh_state p c s)) at → IsNow p (after_messages w p ms s) at → IsNow p (after_messages w p ms (cond b (fresh_state p c s) s)) at
    by true f g = f
    by false f g = g
messages_now w p (KeepAlive form ∷ ms) s at e h =
    messages_now w p ms (kept_alive p (time_of form) s) at e (moved_now p (kept_alive p (time_of form) s) s.moment at e (noted_now p (Heartbeat (time_of form)) s))
messages_now w p (Response r ∷ ms) s at e h = messages_now w p ms s at e h

-- ---- a datagram is let in

abbrev pub let_in : Peer → List Msg → State → State
let_in p ms s = noted p (Admitted ms) s

abbrev pub let_in_note : Peer → List Msg → State → Note
let_in_note p ms s = record { peer = p; at = s.moment; what = Admitted ms }

pub let_in_known : (p : Peer) (ms : List Msg) (s : State) → is_noted (let_in p ms s).moment (let_in p ms s).notes p ≡ true
let_in_known p ms s = known_now (let_in_note p ms s) s.notes

abbrev pub arrival : Peer → List Msg → ℕ → Arrival
arrival p ms t = record { from = p; messages = ms; at = t }

-- the session of the moment, where its peer is known or not
session_now : (w : DeviceSizes) (p : Peer) (s : State) (D : List Arrival) (b : Bool) → Bridged w (notes_of p s.notes) (latest p D) → is_noted s.moment s.notes p ≡ b →
    session s.moment p D ≡ cond b (latest p D) []
session_now w p s D b h k = session_latest s.moment p D ∙ ap (λ x. cond x (latest p D) []) (sym (h.moments s.moment) ∙ k)

-- who is let in has what its present session has
let_in_beat : (w : DeviceSizes) (p : Peer) (ms : List Msg) (s : State) (D : List Arrival) → Bridged w (notes_of p s.notes) (latest p D) →
    heartbeat_noted (run p (let_in p ms s).notes) ≡ law.heartbeat_of (session s.moment p D)
let_in_beat w p ms s D h = on_bool (is_noted s.moment s.notes p) (λ b. is_noted s.moment s.notes p ≡ b → heartbeat_noted (run p (let_in p ms s).notes) ≡ law.heartbeat_of (session s.moment p D))
    (λ k. ap heartbeat_noted (run_goes_on (let_in_note p ms s) s.notes k) ∙ h.beat ∙ ap law.heartbeat_of (sym (session_now w p s D true h k)))
    (λ k. ap heartbeat_noted (run_begins (let_in_note p ms s) s.notes k) ∙ ap law.heartbeat_of (sym (session_now w p s D false h k))) refl

pub let_in_executed : (w : DeviceSizes) (p : Peer) (ms : List Msg) (s : State) (D : List Arrival) → Bridged w (notes_of p s.notes) (latest p D) →
    executed_of p (let_in p ms s).notes ≡ accepted_of w [] (messages_in (session s.moment p D))
let_in_executed w p ms s D h =
    on_bool (is_noted s.moment s.notes p) (λ b. is_noted s.moment s.notes p ≡ b → executed_of p (let_in p ms s).notes ≡ accepted_of w [] (messages_in (session s.moment p D)))
    (λ k. ap (λ (x : List Note). commands_of (accepted x)) (run_goes_on (let_in_note p ms s) s.notes k) ∙ h.commands ∙ ap (λ (x : List Arrival). accepted_of w [] (messages_in x)) (sym (session_now w p s D true h k)))
    (λ k. ap (λ (x : List Note). commands_of (accepted x)) (run_begins (let_in_note p ms s) s.notes k) ∙ ap (λ (x : List Arrival). accepted_of w [] (messages_in x)) (sym (session_now w p s D false h k))) refl

-- an admitted datagram keeps the bridge of its own peer
own_bridged : (w : DeviceSizes) (p : Peer) (ms : List Msg) (s : State) (D : List Arrival) → Bridged w (notes_of p s.notes) (latest p D) →
    Bridged w (notes_of p (after_messages w p ms (let_in p ms s)).notes) (latest p (arrival p ms s.moment ∷ D))
own_bridged w p ms s D h =
    subst (λ (b : Bool). Bridged w (notes_of p (after_messages w p ms (let_in p ms s)).notes) (cond (not b) (latest p D) (arrival p ms s.moment ∷ session s.moment p D))) (sym (same_self p))
    record {
      moments = now.0;
      last = now.1;
      beat = messages_heartbeat w p ms (let_in p ms s) (let_in_known p ms s)
          ∙ ap (λ (b : ℕ). heartbeat b ms) (let_in_beat w p ms s D h)
          ∙ sym (heartbeat_both 5000 (messages_in own) ms);
      commands = messages_executed w p ms (let_in p ms s) (let_in_known p ms s)
          ∙ ap (λ (A : List CommandFields). A ++ accepted_of w A ms) (let_in_executed w p ms s D h)
          ∙ sym (accepted_both w [] (messages_in own) ms);
    }
  where
    own : List Arrival
    own = session s.moment p D

    now : IsNow p (after_messages w p ms (let_in p ms s)) s.moment
    now = messages_now w p ms (let_in p ms s) s.moment refl (noted_now p (Admitted ms) s)

-- and of any other peer
other_bridged : (w : DeviceSizes) (p q : Peer) (ms : List Msg) (s : State) (D : List Arrival) → same_peer p q ≡ false → Bridged w (notes_of q s.notes) (latest q D) →
    Bridged w (notes_of q (after_messages w p ms (let_in p ms s)).notes) (latest q (arrival p ms s.moment ∷ D))
other_bridged w p q ms s D e h =
    subst (λ (b : Bool). Bridged w (notes_of q (after_messages w p ms (let_in p ms s)).notes) (cond (not b) (latest q D) (arrival p ms s.moment ∷ session s.moment q D))) (sym e)
    (subst (λ (own : List Note). Bridged w own (latest q D)) (sym (messages_other w p q ms (let_in p ms s) e ∙ other_notes (let_in_note p ms s) s.notes q e)) h)

-- ---- who opened

messages_opened : (w : DeviceSizes) (p : Peer) (ms : List Msg) (s : State) → is_noted s.moment s.notes p ≡ true → noted_order (after_messages w p ms s).notes ≡ noted_order s.notes
messages_opened w p [] s k = refl
messages_opened w p (Command respond c ∷ ms) s k =
    ap (λ (x : State). noted_order (after_messages w p ms x).notes) (after_judged w p c s)
    ∙ by (accepts_handle w (executed_of p s.notes) c.handle)
    (messages_opened w p ms (fresh_state p c s) (fresh_known p c s) ∙ ap (λ b. cond b (noted_order s.notes) (peers_except p (noted_order s.notes) ++ p ∷ [])) k)
    (messages_opened w p ms s k)
  where
    by : (b : Bool) → noted_order (after_messages w p ms (fresh_state p c s)).notes ≡ noted_order s.notes → noted_order (after_messages w p ms s).notes ≡ noted_order s.notes →
        noted_order (after_messages w p ms (cond b (fresh_state p c s) s)).notes ≡ noted_order s.notes
    by true f g = f
    by false f g = g
messages_opened w p (KeepAlive form ∷ ms) s k =
    messages_opened w p ms (kept_alive p (time_of form) s) (alive_known p (time_of form) s) ∙ ap (λ b. cond b (noted_order s.notes) (peers_except p (noted_order s.notes) ++ p ∷ [])) k
messages_opened w p (Response r ∷ ms) s k = messages_opened w p ms s k

-- ---- all peers

pub record AllBridged (w : DeviceSizes) (s : State) (D : List Arrival) : Type 0 where
  pub each : (q : Peer) → Bridged w (notes_of q s.notes) (latest q D)
  pub opened_is : noted_order s.notes ≡ law.opened D

pub same_known : (w : DeviceSizes) (t : ℕ) (s : State) (D : List Arrival) → AllBridged w s D → (p : Peer) → is_noted t s.notes p ≡ law.is_known t p D
same_known w t s D h p = (h.each p).moments t ∙ sym (known_where t p D)

pub known_are : (w : DeviceSizes) (t : ℕ) (s : State) (D : List Arrival) → AllBridged w s D → noted_peers t s.notes ≡ law.known t D
known_are w t s D h = filter_same (is_noted t s.notes) (λ p. law.is_known t p D) (same_known w t s D h) (noted_order s.notes)
    ∙ ap (filter (λ p. law.is_known t p D)) h.opened_is

pub same_room : (w : DeviceSizes) (s : State) (p : Peer) (D : List Arrival) → AllBridged w s D → admits w s p ≡ has_room w s.moment p D
same_room w s p D h =
    ap (λ b. b || nat_lt (length (noted_peers s.moment s.notes)) w.peers) (same_known w s.moment s D h p)
    ∙ ap (λ (ps : List Peer). law.is_known s.moment p D || nat_lt (length ps) w.peers) (known_are w s.moment s D h)

-- an admitted datagram keeps the bridges
pub let_in_bridged : (w : DeviceSizes) (p : Peer) (ms : List Msg) (s : State) (D : List Arrival) → AllBridged w s D → AllBridged w (after_messages w p ms (let_in p ms s)) (arrival p ms s.moment ∷ D)
let_in_bridged w p ms s D h = record {
  each = λ q. by q (same_peer p q) refl;
  opened_is = messages_opened w p ms (let_in p ms s) (let_in_known p ms s)
      ∙ ap (λ b. cond b (noted_order s.notes) (peers_except p (noted_order s.notes) ++ p ∷ [])) (same_known w s.moment s D h p)
      ∙ ap (λ (ps : List Peer). cond (law.is_known s.moment p D) ps (peers_except p ps ++ p ∷ [])) h.opened_is;
}
  where
    after : State
    after = after_messages w p ms (let_in p ms s)

    by : (q : Peer) (b : Bool) → same_peer p q ≡ b → Bridged w (notes_of q after.notes) (latest q (arrival p ms s.moment ∷ D))
    by q true e = subst (λ (x : Peer). Bridged w (notes_of x after.notes) (latest x (arrival p ms s.moment ∷ D))) (same_is p q e) (own_bridged w p ms s D (h.each p))
    by q false e = other_bridged w p q ms s D e (h.each q)

-- ---- who has lapsed

pub same_lapsed : (w : DeviceSizes) (t : ℕ) (s : State) (H : List Happening) → s.moment ≡ clock H → AllBridged w s (admitted w H) → lapsed_at t s ≡ lapsed_peers w t H
same_lapsed w t s H c h =
    filter_both (has_lapsed t s.notes) (is_noted s.moment s.notes) both (λ p. refl) (noted_order s.notes)
    ∙ filter_same both both' same (noted_order s.notes)
    ∙ ap (filter both') h.opened_is
    ∙ sym (filter_both (λ p. session_has_lapsed t (session (clock H) p D)) (λ p. law.is_known (clock H) p D) both' (λ p. refl) (law.opened D))
  where
    D : List Arrival
    D = admitted w H

    both : Peer → Bool
    both p = is_noted s.moment s.notes p && has_lapsed t s.notes p

    both' : Peer → Bool
    both' p = law.is_known (clock H) p D && session_has_lapsed t (session (clock H) p D)

    same : (p : Peer) → both p ≡ both' p
    same p =
        by (is_noted s.moment s.notes p) refl
        ∙ ap (λ (m : ℕ). law.is_known m p D && session_has_lapsed t (session m p D)) c
      where
        by : (b : Bool) → is_noted s.moment s.notes p ≡ b → (b && has_lapsed t s.notes p) ≡ (law.is_known s.moment p D && session_has_lapsed t (session s.moment p D))
        by true k =
            ap (λ (x : ℕ). nat_lt (3 * x) (t - last_noted (run p s.notes))) (h.each p).beat
            ∙ ap (λ (x : ℕ). nat_lt (3 * law.heartbeat_of (latest p D)) (t - x)) (h.each p).last
            ∙ ap (λ (x : List Arrival). session_has_lapsed t x) (sym (session_now w p s D true (h.each p) k))
            ∙ ap (λ b. b && session_has_lapsed t (session s.moment p D)) (sym k ∙ same_known w s.moment s D h p)
        by false k = ap (λ b. b && session_has_lapsed t (session s.moment p D)) (sym k ∙ same_known w s.moment s D h p)

-- what is known of a known peer
pub session_is : (w : DeviceSizes) (s : State) (D : List Arrival) (p : Peer) → AllBridged w s D → is_noted s.moment s.notes p ≡ true → session s.moment p D ≡ latest p D
session_is w s D p h k = session_now w p s D true (h.each p) k
