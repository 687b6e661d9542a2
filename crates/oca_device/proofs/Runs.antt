-- How runs, the known peers and their sessions go on from note to note.
use Rattle.oca_device.proofs.Words.{◌≡◌, ℕ, ◌≤◌, Bool, true, false, cond, List, [], ◌∷◌, ◌++◌, refl, sym, ap, ◌∙◌, arith, map, filter, not, ◌&&◌, ◌||◌, nat_le, Some, None, nat_tests, and-true}
use Rattle.oca_device.proofs.Words.{or-false, or-true, Peer, same_peer, DeviceSizes, Msg, Entry, retained_of, Session, Table, session_of, with_changed, lapsed, stays, is_lapsed, staying}
use Rattle.oca_device.proofs.Words.{with_moment_and_sessions, Note, Noted, Admitted, notes_of, is_recent, unbroken, run, is_noted, peers_except, noted_order, noted_peers, last_noted, heartbeat_noted}
use Rattle.oca_device.proofs.Words.{accepted, State, noted, moved_to, lapsed_at, shortened_entries, session_within, table_within, on_bool}
use Rattle.std.specs.Prelude.{◌-◌}
use Rattle.std.proofs.lemmas.List.Folds.{list_any-append}
use Rattle.oca_session.specs.Table as table
use Rattle.oca_device.proofs.Rooms.{none_retained}
use Rattle.std.proofs.lemmas.List.{map-append}
use Rattle.std.proofs.lemmas.List.Elements.{filter-append}
use Rattle.oca_device.proofs.Lists.{filter_same, filter_both, filter_mapped, map_back}
use Rattle.oca_device.proofs.Peers.{same_self, same_is, same_turned, is_in, in_filtered, session_made, made_alike, changed_made}

-- a peer has notes
abbrev has_notes : List Note → Bool
has_notes [] = false
has_notes (n ∷ ns) = true

known_has_notes : (t : ℕ) (ns : List Note) → is_recent t ns ≡ true → has_notes ns ≡ true
known_has_notes t [] h = h
known_has_notes t (n ∷ ns) h = refl

within_has_notes : (t : ℕ) (ns : List Note) → (is_recent t ns && has_notes ns) ≡ is_recent t ns
within_has_notes t [] = refl
within_has_notes t (n ∷ ns) = and-true (nat_le (t - n.at) 120000)

pub other_notes : (n : Note) (ns : List Note) (q : Peer) → same_peer n.peer q ≡ false → notes_of q (n ∷ ns) ≡ notes_of q ns
other_notes n ns q h = ap (λ b. cond b (n ∷ notes_of q ns) (notes_of q ns)) h

own_notes : (n : Note) (ns : List Note) → notes_of n.peer (n ∷ ns) ≡ n ∷ notes_of n.peer ns
own_notes n ns = ap (λ b. cond b (n ∷ notes_of n.peer ns) (notes_of n.peer ns)) (same_self n.peer)

pub known_now : (n : Note) (ns : List Note) → is_noted n.at (n ∷ ns) n.peer ≡ true
known_now n ns = ap (is_recent n.at) (own_notes n ns) ∙ now n.at
  where
    now : (t : ℕ) → nat_le (t - t) 120000 ≡ true
    now t = grind (arith, nat_tests)

-- a run goes on, or begins
pub run_goes_on : (n : Note) (ns : List Note) → is_noted n.at ns n.peer ≡ true → run n.peer (n ∷ ns) ≡ n ∷ run n.peer ns
run_goes_on n ns h = ap unbroken (own_notes n ns) ∙ ap (λ b. n ∷ cond b (run n.peer ns) []) h

pub run_begins : (n : Note) (ns : List Note) → is_noted n.at ns n.peer ≡ false → run n.peer (n ∷ ns) ≡ n ∷ []
run_begins n ns h = ap unbroken (own_notes n ns) ∙ ap (λ b. n ∷ cond b (run n.peer ns) []) h

-- those that were ever noted are those who opened
opened_has : (ns : List Note) (p : Peer) → is_in p (noted_order ns) ≡ has_notes (notes_of p ns)
opened_has [] p = refl
opened_has (n ∷ ns) p =
    on_bool (is_noted n.at ns n.peer) (λ b. is_noted n.at ns n.peer ≡ b → is_in p (noted_order ns) ≡ has_notes (notes_of p ns) → is_in p (cond b (noted_order ns) (peers_except n.peer
    (noted_order ns) ++ n.peer ∷ [])) ≡ has_notes (cond (same_peer n.peer p) (n ∷ notes_of p ns) (notes_of p ns)))
    (λ k h. by_same_known (same_peer n.peer p) refl k h)
    (λ k h. list_any-append (λ q. same_peer q p) (peers_except n.peer (noted_order ns)) (n.peer ∷ []) ∙ by_same_new (same_peer n.peer p) refl h) refl (opened_has ns p)
  where
    by_same_known : (b : Bool) → same_peer n.peer p ≡ b → is_noted n.at ns n.peer ≡ true → is_in p (noted_order ns) ≡ has_notes (notes_of p ns) →
        is_in p (noted_order ns) ≡ has_notes (cond b (n ∷ notes_of p ns) (notes_of p ns))
    by_same_known true s k h = h ∙ known_has_notes n.at (notes_of p ns) (ap (is_noted n.at ns) (sym (same_is n.peer p s)) ∙ k)
    by_same_known false s k h = h

    by_same_new : (b : Bool) → same_peer n.peer p ≡ b → is_in p (noted_order ns) ≡ has_notes (notes_of p ns) →
        (is_in p (peers_except n.peer (noted_order ns)) || (same_peer n.peer p || false)) ≡ has_notes (cond b (n ∷ notes_of p ns) (notes_of p ns))
    by_same_new true s h = ap (λ x. is_in p (peers_except n.peer (noted_order ns)) || (x || false)) s ∙ or-true (is_in p (peers_except n.peer (noted_order ns)))
    by_same_new false s h =
        ap (λ x. is_in p (peers_except n.peer (noted_order ns)) || (x || false)) s
        ∙ or-false (is_in p (peers_except n.peer (noted_order ns)))
        ∙ in_filtered (λ q. not (same_peer q n.peer)) p (noted_order ns)
        ∙ ap (λ x. not x && is_in p (noted_order ns)) (same_turned p n.peer ∙ s)
        ∙ h

-- the list of the known has exactly those who are known
pub known_has : (t : ℕ) (ns : List Note) (p : Peer) → is_in p (noted_peers t ns) ≡ is_noted t ns p
known_has t ns p = in_filtered (is_noted t ns) p (noted_order ns) ∙ ap (λ x. is_noted t ns p && x) (opened_has ns p) ∙ within_has_notes t (notes_of p ns)

-- a note of a known peer leaves the known
known_goes_on : (n : Note) (ns : List Note) → is_noted n.at ns n.peer ≡ true → noted_peers n.at (n ∷ ns) ≡ noted_peers n.at ns
known_goes_on n ns k =
    ap (λ b. filter (is_noted n.at (n ∷ ns)) (cond b (noted_order ns) (peers_except n.peer (noted_order ns) ++ n.peer ∷ []))) k
    ∙ filter_same (is_noted n.at (n ∷ ns)) (is_noted n.at ns) (λ q. by_same q (same_peer n.peer q) refl) (noted_order ns)
  where
    by_same : (q : Peer) (b : Bool) → same_peer n.peer q ≡ b → is_noted n.at (n ∷ ns) q ≡ is_noted n.at ns q
    by_same q true s = let e = same_is n.peer q s in ap (is_noted n.at (n ∷ ns)) (sym e) ∙ known_now n ns ∙ sym k ∙ ap (is_noted n.at ns) e
    by_same q false s = ap (is_recent n.at) (other_notes n ns q s)

-- a note of a peer that wasn't known puts it at the end
known_begins : (n : Note) (ns : List Note) → is_noted n.at ns n.peer ≡ false → noted_peers n.at (n ∷ ns) ≡ noted_peers n.at ns ++ n.peer ∷ []
known_begins n ns k =
    ap (λ b. filter (is_noted n.at (n ∷ ns)) (cond b (noted_order ns) (peers_except n.peer (noted_order ns) ++ n.peer ∷ []))) k
    ∙ filter-append (is_noted n.at (n ∷ ns)) (peers_except n.peer (noted_order ns)) (n.peer ∷ [])
    ∙ ap (λ xs. xs ++ filter (is_noted n.at (n ∷ ns)) (n.peer ∷ [])) (filter_both (is_noted n.at (n ∷ ns)) (λ q. not (same_peer q n.peer)) (is_noted n.at ns) (λ q. by_same q (same_peer n.peer q) refl) (noted_order ns))
    ∙ ap (λ b. noted_peers n.at ns ++ cond b (n.peer ∷ []) []) (known_now n ns)
  where
    by_same : (q : Peer) (b : Bool) → same_peer n.peer q ≡ b → (not (same_peer q n.peer) && is_noted n.at (n ∷ ns) q) ≡ is_noted n.at ns q
    by_same q true s =
        ap (λ x. not x && is_noted n.at (n ∷ ns) q) (same_turned q n.peer ∙ s)
        ∙ sym k ∙ ap (is_noted n.at ns) (same_is n.peer q s)
    by_same q false s =
        ap (λ x. not x && is_noted n.at (n ∷ ns) q) (same_turned q n.peer ∙ s)
        ∙ ap (is_recent n.at) (other_notes n ns q s)

-- who is known at a later moment
known_later : (most m t : ℕ) (ns : List Note) → m ≤ t → (w : DeviceSizes) → filter (λ q. stays t (session_within most w ns q)) (noted_peers m ns) ≡ noted_peers t ns
known_later most m t ns le w = filter_both (λ q. stays t (session_within most w ns q)) (is_noted m ns) (is_noted t ns) (λ q. by_notes (notes_of q ns)) (noted_order ns)
  where
    both_within : (a : ℕ) → (nat_le (m - a) 120000 && nat_le (t - a) 120000) ≡ nat_le (t - a) 120000
    both_within a = grind (arith, nat_tests)

    by_notes : (own : List Note) → (is_recent m own && nat_le (t - last_noted (unbroken own)) 120000) ≡ is_recent t own
    by_notes [] = refl
    by_notes (n ∷ own) = both_within n.at

-- other peers' sessions stay
other_session : (most : ℕ) (w : DeviceSizes) (n : Note) (ns : List Note) (q : Peer) → same_peer q n.peer ≡ false → session_within most w ns q ≡ session_within most w (n ∷ ns) q
other_session most w n ns q h =
    ap (λ (own : List Note). let s : Session = record { peer = q; heard = last_noted (unbroken own); heartbeat = heartbeat_noted (unbroken own); retained = retained_of w.window (shortened_entries most (accepted (unbroken own))) } in s)
    (sym (other_notes n ns q (same_turned n.peer q ∙ h)))

-- The clock moves.
pub table_moved : (most : ℕ) (w : DeviceSizes) (t : ℕ) (s : State) → s.moment ≤ t → with_moment_and_sessions (table_within most w s) t (staying t (table_within most w s).sessions) ≡ table_within most w (moved_to t s)
table_moved most w t s le =
    ap (λ ss. let x : Table = record { sizes = w; moment = t; sessions = ss } in x)
    (filter_mapped (stays t) (session_within most w s.notes) (noted_peers s.moment s.notes)
    ∙ ap (map (session_within most w s.notes)) (known_later most s.moment t s.notes le w))

pub lapsed_moved : (most : ℕ) (w : DeviceSizes) (t : ℕ) (s : State) → lapsed t (table_within most w s).sessions ≡ lapsed_at t s
lapsed_moved most w t s =
    ap (map (λ (x : Session). x.peer)) (filter_mapped (is_lapsed t) (session_within most w s.notes) (noted_peers s.moment s.notes))
    ∙ map_back (session_within most w s.notes) (λ (x : Session). x.peer) (λ _. refl) (lapsed_at t s)

-- The session of a known peer.
pub session_known : (most : ℕ) (w : DeviceSizes) (s : State) (p : Peer) → session_of p (table_within most w s).sessions ≡ cond (is_noted s.moment s.notes p) (Some (session_within most w s.notes p)) None
session_known most w s p =
    session_made (session_within most w s.notes) (λ _. refl) p (noted_peers s.moment s.notes)
    ∙ ap (λ b. cond b (Some (session_within most w s.notes p)) None) (known_has s.moment s.notes p)

-- A note of a known peer changes its session alone.
pub table_noted : (most : ℕ) (w : DeviceSizes) (s : State) (p : Peer) (what : Noted) (f : Session → Session) → is_noted s.moment s.notes p ≡ true →
    f (session_within most w s.notes p) ≡ session_within most w (noted p what s).notes p →
    with_changed p f (table_within most w s).sessions ≡ (table_within most w (noted p what s)).sessions
table_noted most w s p what f k e =
    let n : Note = record { peer = p; at = s.moment; what = what } in
    changed_made (session_within most w s.notes) (λ _. refl) (session_within most w (n ∷ s.notes)) p f (other_session most w n s.notes) e (noted_peers s.moment s.notes)
    ∙ ap (map (session_within most w (n ∷ s.notes))) (sym (known_goes_on n s.notes k))

-- The first note of a run adds a session.
pub table_opened : (most : ℕ) (w : DeviceSizes) (s : State) (p : Peer) (messages : List Msg) → is_noted s.moment s.notes p ≡ false →
    (table_within most w s).sessions ++ table.opened_session w.window p s.moment ∷ [] ≡ (table_within most w (noted p (Admitted messages) s)).sessions
table_opened most w s p messages k =
    let n : Note = record { peer = p; at = s.moment; what = Admitted messages } in
    let ks = noted_peers s.moment s.notes in
    let made = session_within most w (n ∷ s.notes) in
    let new : table.opened_session w.window p s.moment ≡ made p =
    ap (λ (A : List Entry). let x : Session = record { peer = p; heard = s.moment; heartbeat = 5000; retained = retained_of w.window A } in x) (sym (none_retained most))
    ∙ ap (λ (own : List Note). let x : Session = record { peer = p; heard = last_noted own; heartbeat = heartbeat_noted own; retained = retained_of w.window (shortened_entries most (accepted own)) } in x) (sym (run_begins n s.notes k)) in
    ap (λ x. map (session_within most w s.notes) ks ++ x ∷ []) new
    ∙ ap (λ xs. xs ++ made p ∷ []) (made_alike (session_within most w s.notes) (λ _. refl) made p (other_session most w n s.notes) ks (known_has s.moment s.notes p ∙ k))
    ∙ sym (map-append made ks (p ∷ []))
    ∙ ap (map made) (sym (known_begins n s.notes k))
