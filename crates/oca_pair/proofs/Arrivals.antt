-- Where a peer keeps its session, the device knows it whenever one of its datagrams is admitted.
use Rattle.oca_pair.proofs.Words.{◌≡◌, ℕ, ◌-◌, Bool, true, false, cond, List, [], ◌∷◌, ◌++◌, refl, sym, ap, ◌∙◌, subst, arith, nat_le, max, not, Result, Ok, Err, nat_tests, Peer, same_peer}
use Rattle.oca_pair.proofs.Words.{DeviceSizes, PduFault, Msg, read_datagram, Event, Datagram, Tick, Local, Note, is_recent, State, moved_to, admits, Arrival, Happening, Passes, clock, admitted}
use Rattle.oca_pair.proofs.Words.{session, last_moment, has_room, sayings, happenings, arrivals_of, same_self, same_is, on_bool}
use Rattle.oca_device.proofs.Sessions.{latest, within, session_latest, Bridged, same_room, arrival}
use Rattle.oca_device.proofs.Standing.{Stands, passing}
use Rattle.oca_pair.proofs.Lists.{differs}
use Rattle.oca_pair.proofs.Truths.{Past, and_then, state_of}
use Rattle.oca_pair.proofs.ByEvents.{stands_by}

-- the session of the last of the peer's arrivals has all of them
abbrev pub HasOneSession : Peer → List Arrival → Type 0
HasOneSession p D = session (last_moment (arrivals_of p D)) p D ≡ arrivals_of p D

no_time : (t : ℕ) → nat_le (t - t) 120000 ≡ true
no_time t = grind (arith, nat_tests)

-- with no arrival the peer has no session
no_latest : (p : Peer) (D : List Arrival) → arrivals_of p D ≡ [] → latest p D ≡ []
no_latest p [] e = refl
no_latest p (a ∷ D) e =
    on_bool (same_peer a.from p) (λ b. cond b (a ∷ arrivals_of p D) (arrivals_of p D) ≡ [] → (arrivals_of p D ≡ [] → latest p D ≡ []) → cond (not b) (latest p D) (a ∷ session a.at p D) ≡ [])
    (λ e h. cc) (λ e h. h e) e (no_latest p D)

-- a session that has an arrival is the latest, within the silence
session_has : (t : ℕ) (p : Peer) (D own : List Arrival) (a : Arrival) → session t p D ≡ a ∷ own → (within t (latest p D) ≡ true) × (latest p D ≡ a ∷ own)
session_has t p D own a e = on_bool (within t (latest p D)) (λ b. within t (latest p D) ≡ b → cond b (latest p D) [] ≡ a ∷ own → (within t (latest p D) ≡ true) × (latest p D ≡ a ∷ own))
    (λ q h. (q, h)) (λ q h. cc) refl (sym (session_latest t p D) ∙ e)

-- the peer has one session where it has one at some moment
one_at : (t : ℕ) (p : Peer) (D : List Arrival) → session t p D ≡ arrivals_of p D → HasOneSession p D
one_at t p D e = by_own (arrivals_of p D) refl
  where
    by_own : (own : List Arrival) → arrivals_of p D ≡ own → session (last_moment own) p D ≡ own
    by_own [] q = session_latest 0 p D ∙ ap (λ (x : List Arrival). cond (within 0 x) x []) (no_latest p D q)
    by_own (a ∷ own) q =
        session_latest a.at p D
        ∙ ap (λ (x : List Arrival). cond (within a.at x) x []) (session_has t p D own a (e ∙ q)).1
        ∙ ap (λ b. cond b (a ∷ own) []) (no_time a.at)

-- of a peer's own arrival, and of one of another peer
pub one_own : (p : Peer) (ms : List Msg) (t : ℕ) (D : List Arrival) → HasOneSession p (arrival p ms t ∷ D) → session t p D ≡ arrivals_of p D
one_own p ms t D e = tails (session t p D) (arrivals_of p D) (sym left ∙ e' ∙ right)
  where
    a : Arrival
    a = arrival p ms t

    right : arrivals_of p (a ∷ D) ≡ a ∷ arrivals_of p D
    right = ap (λ b. cond b (a ∷ arrivals_of p D) (arrivals_of p D)) (same_self p)

    left : session t p (a ∷ D) ≡ a ∷ session t p D
    left =
        ap (λ b. cond (not b) (session t p D) (cond (nat_le (t - t) 120000) (a ∷ session t p D) [])) (same_self p)
        ∙ ap (λ b. cond b (a ∷ session t p D) []) (no_time t)

    e' : session t p (a ∷ D) ≡ arrivals_of p (a ∷ D)
    e' = ap (λ (x : List Arrival). session (last_moment x) p (a ∷ D)) (sym right) ∙ e

    tails : (xs ys : List Arrival) → a ∷ xs ≡ a ∷ ys → xs ≡ ys
    tails xs ys q = cc

one_other : (p q : Peer) (ms : List Msg) (t : ℕ) (D : List Arrival) → same_peer q p ≡ false → HasOneSession p (arrival q ms t ∷ D) → HasOneSession p D
one_other p q ms t D other e = sym (same_session (last_moment (arrivals_of p D))) ∙ ap (λ (x : List Arrival). session (last_moment x) p (a ∷ D)) (sym same) ∙ e ∙ same
  where
    a : Arrival
    a = arrival q ms t

    same : arrivals_of p (a ∷ D) ≡ arrivals_of p D
    same = ap (λ b. cond b (a ∷ arrivals_of p D) (arrivals_of p D)) other

    same_session : (u : ℕ) → session u p (a ∷ D) ≡ session u p D
    same_session u = ap (λ b. cond (not b) (session u p D) (cond (nat_le (u - t) 120000) (a ∷ session t p D) [])) other

-- with no note, or where the peer is known at the moment
abbrev pub IsKnownThen : ℕ → List Note → Type 0
IsKnownThen t [] = Unit {0}
IsKnownThen t (n ∷ ns) = is_recent t (n ∷ ns) ≡ true

pub known_then : (w : DeviceSizes) (t : ℕ) (p : Peer) (ns : List Note) (D : List Arrival) → Bridged w ns (latest p D) → session t p D ≡ arrivals_of p D → IsKnownThen t ns
known_then w t p [] D h e = tt
known_then w t p (n ∷ ns) D h e = by_own (arrivals_of p D) refl
  where
    by_own : (own : List Arrival) → arrivals_of p D ≡ own → is_recent t (n ∷ ns) ≡ true
    by_own [] q = differs (sym (no_time n.at) ∙ h.moments n.at ∙ ap (within n.at) (no_latest p D q))
    by_own (a ∷ own) q = h.moments t ∙ (session_has t p D own a (e ∙ q)).0

-- ---- what arrived

abbrev pub arrived : Past → List Arrival
arrived g = admitted g.sizes (happenings g.events)

-- THE PEER KEEPS ITS SESSION in what happened.
abbrev pub Keeps : Peer → Past → Type 0
Keeps p g = HasOneSession p (arrived g)

-- the state when the datagram is looked at
abbrev pub looked_at : ℕ → Past → State
looked_at now g = moved_to (max (state_of g).moment now) (state_of g)

-- what finds room is admitted
pub found_room : (p : Peer) (now : ℕ) (g : Past) → has_room g.sizes (clock (Passes now ∷ happenings g.events)) p (arrived g) ≡ true → admits g.sizes (looked_at now g) p ≡ true
found_room p now g finds =
    same_room g.sizes (looked_at now g) p (arrived g) stands1.bridged ∙ ap (λ (m : ℕ). has_room g.sizes m p (arrived g)) stands1.clock_is ∙ finds
  where
    stands1 : Stands g.sizes g.tree (looked_at now g) (Passes now ∷ happenings g.events)
    stands1 = passing g.sizes g.tree now (state_of g) (happenings g.events) (stands_by g.sizes g.tree g.events)

pub arrived_read : (p : Peer) (ms : List Msg) (bytes : List ℕ) (now : ℕ) (g : Past) (room : Bool) → read_datagram bytes ≡ Ok ms → admits g.sizes (looked_at now g) p ≡ room →
    arrived (and_then (Datagram p bytes now) g) ≡ cond room (arrival p ms (looked_at now g).moment ∷ arrived g) (arrived g)
arrived_read p ms bytes now g room read admitted_is =
    ap (λ (r : Result (List Msg) PduFault). admitted g.sizes (sayings p r ++ H1)) read
    ∙ ap (λ (m : ℕ). cond (has_room g.sizes m p (arrived g)) (arrival p ms m ∷ arrived g) (arrived g)) (sym stands1.clock_is)
    ∙ ap (λ b. cond b (arrival p ms (looked_at now g).moment ∷ arrived g) (arrived g)) (sym (same_room g.sizes (looked_at now g) p (arrived g) stands1.bridged) ∙ admitted_is)
  where
    H1 : List Happening
    H1 = Passes now ∷ happenings g.events

    stands1 : Stands g.sizes g.tree (looked_at now g) H1
    stands1 = passing g.sizes g.tree now (state_of g) (happenings g.events) (stands_by g.sizes g.tree g.events)

-- what is kept was kept before
pub keeps_before : (p : Peer) (e : Event) (g : Past) → Keeps p (and_then e g) → Keeps p g
keeps_before p (Tick now) g k = k
keeps_before p (Local ono change) g k = k
keeps_before p (Datagram q bytes now) g k = by_read (read_datagram bytes) k
  where
    H1 : List Happening
    H1 = Passes now ∷ happenings g.events

    by_peer : (ms : List Msg) (b : Bool) → same_peer q p ≡ b → HasOneSession p (arrival q ms (clock H1) ∷ arrived g) → Keeps p g
    by_peer ms false e k = one_other p q ms (clock H1) (arrived g) e k
    by_peer ms true e k =
        one_at (clock H1) p (arrived g)
        (one_own p ms (clock H1) (arrived g) (subst (λ (x : Peer). HasOneSession p (arrival x ms (clock H1) ∷ arrived g)) (same_is q p e) k))

    by_room : (ms : List Msg) (b : Bool) → HasOneSession p (cond b (arrival q ms (clock H1) ∷ arrived g) (arrived g)) → Keeps p g
    by_room ms true k = by_peer ms (same_peer q p) refl k
    by_room ms false k = k

    by_read : (r : Result (List Msg) PduFault) → HasOneSession p (admitted g.sizes (sayings q r ++ H1)) → Keeps p g
    by_read (Err f) k = k
    by_read (Ok ms) k = by_room ms (has_room g.sizes (clock H1) q (arrived g)) k
