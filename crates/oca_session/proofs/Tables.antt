-- The sessions by their places, and what the calls leave of what holds of them.
use Rattle.std.proofs.Common.{◌≡◌, ◌⊎◌, inl, inr, ℕ, ◌+◌, ◌*◌, ◌<◌, ◌≤◌, Bool, true, false, cond, List, [], ◌∷◌, ◌++◌, length, take, get_or, Option, Some, None, refl, sym, ap, ◌∙◌, arith, zero, suc, subst}
use Rattle.std.specs.Prelude.{nat_lt, not, ◌||◌, is_some, IfSome, IsSome, filter, position, All, Contains}
use Rattle.std.specs.List.{find, list_any, position_or_len}
use Rattle.std.proofs.Math.ListN.{set}
use Rattle.std.proofs.Math.Seq.{take-set-lt}
use Rattle.std.proofs.lemmas.List.{get_or-take, get_or_default, length-map, length-take, take_more_set, take-set-le}
use Rattle.std.proofs.lemmas.List.Elements.{All-cons, All-push, All-set, All-tail}
use Rattle.std.proofs.lemmas.List.Folds.{find_at}
use Rattle.std.proofs.lemmas.Option.{slice_get-get_or}
use Rattle.std.proofs.lemmas.List.Quantifiers.{all_pairs_push, position-Some}
use Rattle.std.proofs.lemmas.Bool.{ltb-true}
use Rattle.std.proofs.lemmas.Bool.Decides.{nat_tests}
use Rattle.std.proofs.lemmas.Grind.{common_steps}
use Rattle.std.proofs.lemmas.List.Sums.{position_or_len_is}
use Rattle.oca_types.specs.declared.words.Peer.{Peer}
use Rattle.oca_types.specs.Peers.{same_peer}
use Rattle.oca_session.specs.Accepted.{Entry, AgreesWithAccepted}
use Rattle.oca_session.specs.Table.{Session, is_of, session_of, peers_of, with_changed, opened_session, heard_at, with_heartbeat, with_entry, with_accepted, is_lapsed, lapsed, stays, staying, forgotten, AgreesAt}
use Rattle.oca_session.specs.Sound.{IsSession, IsOnePerPeer}
use Rattle.oca_session.specs.PrivateQuiet.{IsQuietUntil}
use Rattle.oca_session.proofs.Windows.{retained_after_agreed}

one_more : (n : ℕ) → 1 + n ≡ suc n
one_more n = omega arith

-- ---- where a session stands

-- a test passes exactly where its first place is within
find_by_place : {X : Type 0} (q : X → Bool) (xs : List X) → nat_lt (position_or_len q xs) (length xs) ≡ is_some (find q xs)
find_by_place q [] = refl
find_by_place {X} q (x ∷ xs) = by_test (q x) (position_or_len q xs) (find q xs) (find_by_place q xs)
  where
    by_test : (b : Bool) (n : ℕ) (o : Option X) → nat_lt n (length xs) ≡ is_some o →
        nat_lt (cond (not b) (1 + n) 0) (length (x ∷ xs)) ≡ is_some (cond b (Some x) o)
    by_test true n o h = grind (arith, nat_tests)
    by_test false n o h = grind (arith, nat_tests)

find_within : {X : Type 0} (q : X → Bool) (xs : List X) (d : X) → position_or_len q xs < length xs →
    find q xs ≡ Some (get_or xs (position_or_len q xs) d)
find_within q xs d h = find_at q xs ∙ slice_get-get_or xs (position_or_len q xs) d h

is_some-place : (b : Bool) (n : ℕ) → is_some (cond b (Some n) None) ≡ b
is_some-place true n = refl
is_some-place false n = refl

-- a peer has a place exactly where it has a session
pub known_by_place : (p : Peer) (ss : List Session) → is_some (position (is_of p) ss) ≡ is_some (session_of p ss)
known_by_place p ss =
    is_some-place (nat_lt (position_or_len (is_of p) ss) (length ss)) (position_or_len (is_of p) ss)
    ∙ find_by_place (is_of p) ss

-- a peer that is not found has no session
pub none_known : (p : Peer) (ss : List Session) → position (is_of p) ss ≡ None → session_of p ss ≡ None
none_known p ss h = none (session_of p ss) (sym (known_by_place p ss) ∙ ap is_some h)
  where
    none : (o : Option Session) → is_some o ≡ false → o ≡ None
    none None q = refl
    none (Some s) q = cc

found_at : (p : Peer) (ss : List Session) (i : ℕ) (d : Session) → position (is_of p) ss ≡ Some i →
    session_of p ss ≡ Some (get_or ss i d)
found_at p ss i d h =
    let n = position_or_len (is_of p) ss in
    let within = place (nat_lt n (length ss)) n h in
    find_within (is_of p) ss d (ltb-true n (length ss) within.0) ∙ ap (λ k. Some (get_or ss k d)) within.1
  where
    place : (b : Bool) (n : ℕ) → cond b (Some n) None ≡ Some i → (b ≡ true) × (n ≡ i)
    place true n q = (refl, cc)
    place false n q = cc

-- ---- one session for a peer

-- a peer that is not one of two that are the same is not the other
pub other_peer : (p q r : Peer) → same_peer p r ≡ true → same_peer p q ≡ false → same_peer q r ≡ false
other_peer p q r same other = grind (arith, nat_tests)

-- the same, with the other of the two
pub other_peer' : (p q r : Peer) → same_peer q r ≡ true → same_peer p q ≡ false → same_peer p r ≡ false
other_peer' p q r same other = grind (arith, nat_tests)

-- of sessions with one a peer, those behind the first
pub IsOnePerPeer-tail : (s : Session) (ss : List Session) → IsOnePerPeer (s ∷ ss) → IsOnePerPeer ss
IsOnePerPeer-tail s ss one = λ i j d before within. one (suc i) (suc j) d (omega arith) (omega arith)

-- none behind the first is of its peer
pub IsOnePerPeer-head : (s : Session) (ss : List Session) → IsOnePerPeer (s ∷ ss) → All (λ t. same_peer s.peer t.peer ≡ false) ss
IsOnePerPeer-head s ss one = λ k d within. one 0 (suc k) d (omega arith) (omega arith)

-- where no session is of the peer, none changes
changed_none : (p : Peer) (f : Session → Session) (ss : List Session) → All (λ s. is_of p s ≡ false) ss → with_changed p f ss ≡ ss
changed_none p f [] none = refl
changed_none p f (s ∷ ss) none =
    let here : is_of p s ≡ false = none 0 s (omega arith) in
    let rest = changed_none p f ss (λ k d within. none (suc k) d (omega arith)) in
    ap (λ b. cond b (f s) s ∷ with_changed p f ss) here ∙ ap (λ xs. s ∷ xs) rest

-- a write at the place of the peer's session changes that session alone
changed_at : (p : Peer) (f : Session → Session) (ss : List Session) (i : ℕ) (d : Session) → IsOnePerPeer ss →
    i < length ss → is_of p (get_or ss i d) ≡ true → set ss i (f (get_or ss i d)) ≡ with_changed p f ss
changed_at p f [] i d one within here = absurd (omega arith)
changed_at p f (s ∷ ss) zero d one within here =
    let others = IsOnePerPeer-head s ss one in
    let none : All (λ t. is_of p t ≡ false) ss = λ k e w. other_peer s.peer (get_or ss k e).peer p here (others k e w) in
    sym (ap (λ b. cond b (f s) s ∷ with_changed p f ss) here ∙ ap (λ xs. f s ∷ xs) (changed_none p f ss none))
changed_at p f (s ∷ ss) (suc i) d one within here =
    let others = IsOnePerPeer-head s ss one in
    let below : i < length ss = omega arith in
    let no : is_of p s ≡ false = other_peer' s.peer (get_or ss i d).peer p here (others i d below) in
    let rest = changed_at p f ss i d (IsOnePerPeer-tail s ss one) below here in
    ap (λ xs. s ∷ xs) rest ∙ sym (ap (λ b. cond b (f s) s ∷ with_changed p f ss) no)

-- where the code writes f of the peer's session at its place, that session is changed
pub changed_in : (p : Peer) (f : Session → Session) (items seen : List Session) (count at : ℕ) (old new : Session) →
    IsOnePerPeer (take count items) → seen ≡ items → position (is_of p) (take count seen) ≡ Some at →
    old ≡ get_or items at old → new ≡ f old → take count (set items at new) ≡ with_changed p f (take count items)
changed_in p f items seen count at old new one same placed was is =
    let ss = take count items in
    let placed' : position (is_of p) ss ≡ Some at = rw (← same) placed in
    let place = position-Some (is_of p) ss at old placed' in
    let below : at < count = omega (arith, place.0, length-take count items) in
    let old' : get_or ss at old ≡ old = get_or-take count items at old below ∙ sym was in
    take-set-lt count items at new below
    ∙ ap (λ x. set ss at x) (is ∙ ap f (sym old'))
    ∙ changed_at p f ss at old one place.0 place.1

-- the session that the code finds there
pub session_in : (p : Peer) (items seen : List Session) (count at : ℕ) (old : Session) →
    seen ≡ items → position (is_of p) (take count seen) ≡ Some at →
    old ≡ get_or items at old → session_of p (take count items) ≡ Some old
session_in p items seen count at old same placed was =
    let ss = take count items in
    let placed' : position (is_of p) ss ≡ Some at = rw (← same) placed in
    let place = position-Some (is_of p) ss at old placed' in
    let below : at < count = omega (arith, place.0, length-take count items) in
    found_at p ss at old placed' ∙ ap Some (get_or-take count items at old below ∙ sym was)

-- ---- what the calls leave

-- a change that keeps the peer keeps the peers
pub peers_of-changed : (p : Peer) (f : Session → Session) → ((s : Session) → (f s).peer ≡ s.peer) → (ss : List Session) →
    peers_of (with_changed p f ss) ≡ peers_of ss
peers_of-changed p f same [] = refl
peers_of-changed p f same (s ∷ ss) =
    ap (λ q. q ∷ peers_of (with_changed p f ss)) (by_test (is_of p s)) ∙ ap (λ qs. s.peer ∷ qs) (peers_of-changed p f same ss)
  where
    by_test : (b : Bool) → (cond b (f s) s).peer ≡ s.peer
    by_test true = same s
    by_test false = refl

pub IsOnePerPeer-changed : (p : Peer) (f : Session → Session) → ((s : Session) → (f s).peer ≡ s.peer) → (ss : List Session) →
    IsOnePerPeer ss → IsOnePerPeer (with_changed p f ss)
IsOnePerPeer-changed p f same ss one i j d before within =
    let inside : j < length ss = omega (arith, within, length-map ss (λ s. cond (is_of p s) (f s) s)) in
    ap (λ (q : Peer). same_peer q (get_or (with_changed p f ss) j d).peer) (kept ss i)
    ∙ ap (same_peer (get_or ss i d).peer) (kept ss j) ∙ one i j d before inside
  where
    by_test : (b : Bool) (s : Session) → (cond b (f s) s).peer ≡ s.peer
    by_test true s = same s
    by_test false s = refl

    kept : (ts : List Session) (k : ℕ) → (get_or (with_changed p f ts) k d).peer ≡ (get_or ts k d).peer
    kept [] k = refl
    kept (t ∷ ts) zero = by_test (is_of p t) t
    kept (t ∷ ts) (suc k) = kept ts k

-- where the peer has no session, none is of the peer
pub all_others : (p : Peer) (ss : List Session) → session_of p ss ≡ None → All (λ s. is_of p s ≡ false) ss
all_others p [] h = λ k d within. absurd (omega arith)
all_others p (s ∷ ss) h =
    let parts = by_test (is_of p s) h in
    All-cons (λ t. is_of p t ≡ false) s ss parts.0 (all_others p ss parts.1)
  where
    by_test : (b : Bool) → cond b (Some s) (session_of p ss) ≡ None → (b ≡ false) × (session_of p ss ≡ None)
    by_test true q = cc
    by_test false q = (refl, q)

-- a session of a peer that has none is added
pub IsOnePerPeer-push : (ss : List Session) (s : Session) → session_of s.peer ss ≡ None → IsOnePerPeer ss → IsOnePerPeer (ss ++ s ∷ [])
IsOnePerPeer-push ss s h one = all_pairs_push (λ a b. same_peer a.peer b.peer ≡ false) ss s one (λ k d within. all_others s.peer ss h k d within)

-- a peer is itself
pub same_peer-self : (p : Peer) → same_peer p p ≡ true
same_peer-self p = grind (arith, nat_tests)

-- who has a session is said by the peers alone
known_by_peers : (p : Peer) (ss : List Session) → is_some (session_of p ss) ≡ list_any (λ q. same_peer q p) (peers_of ss)
known_by_peers p [] = refl
known_by_peers p (s ∷ ss) = by_test (is_of p s) (known_by_peers p ss)
  where
    by_test : (b : Bool) → is_some (session_of p ss) ≡ list_any (λ q. same_peer q p) (peers_of ss) →
        is_some (cond b (Some s) (session_of p ss)) ≡ (b || list_any (λ q. same_peer q p) (peers_of ss))
    by_test true h = refl
    by_test false h = h

-- a change that keeps the peers keeps who has a session
pub known_same : (p : Peer) (ss ts : List Session) → peers_of ss ≡ peers_of ts → is_some (session_of p ss) ≡ is_some (session_of p ts)
known_same p ss ts h =
    known_by_peers p ss ∙ ap (list_any (λ q. same_peer q p)) h ∙ sym (known_by_peers p ts)

-- a session that is added is known
pub known-push : (p : Peer) (ss : List Session) (s : Session) → is_of p s ≡ true → is_some (session_of p (ss ++ s ∷ [])) ≡ true
known-push p [] s here = ap (λ b. is_some (cond b (Some s) None)) here
known-push p (t ∷ ts) s here = by_test (is_of p t) (known-push p ts s here)
  where
    by_test : (b : Bool) → is_some (session_of p (ts ++ s ∷ [])) ≡ true → is_some (cond b (Some t) (session_of p (ts ++ s ∷ []))) ≡ true
    by_test true h = refl
    by_test false h = h

-- ---- the accepted commands of one session

-- where the session agrees with A, one more command makes it agree with A and that command
pub changed_agreed : (p : Peer) (w : ℕ) (A : List Entry) (e : Entry) (ss : List Session) → IsOnePerPeer ss → AgreesAt p w A ss →
    with_changed p (with_entry e) ss ≡ with_changed p (with_accepted w (A ++ e ∷ [])) ss
changed_agreed p w A e [] one h = refl
changed_agreed p w A e (s ∷ ss) one h =
    by_test (is_of p s) refl h (changed_agreed p w A e ss (IsOnePerPeer-tail s ss one))
  where
    by_test : (b : Bool) → is_of p s ≡ b → IfSome (cond b (Some s) (session_of p ss)) (λ x. AgreesWithAccepted w A x.retained) →
        (AgreesAt p w A ss → with_changed p (with_entry e) ss ≡ with_changed p (with_accepted w (A ++ e ∷ [])) ss) →
        (cond b (with_entry e s) s ∷ with_changed p (with_entry e) ss)
        ≡ (cond b (with_accepted w (A ++ e ∷ []) s) s ∷ with_changed p (with_accepted w (A ++ e ∷ [])) ss)
    by_test true here a rest =
        let others = IsOnePerPeer-head s ss one in
        let none : All (λ t. is_of p t ≡ false) ss = λ k d within. other_peer s.peer (get_or ss k d).peer p here (others k d within) in
        ap (λ r. record s { retained = r } ∷ with_changed p (with_entry e) ss) (retained_after_agreed w A s.retained e a)
        ∙ ap (λ xs. with_accepted w (A ++ e ∷ []) s ∷ xs)
        (changed_none p (with_entry e) ss none ∙ sym (changed_none p (with_accepted w (A ++ e ∷ [])) ss none))
    by_test false here a rest = ap (λ xs. s ∷ xs) (rest a)

-- ---- the forgotten

Contains-cons : (q x : Peer) (qs : List Peer) → Contains qs q → Contains (x ∷ qs) q
Contains-cons q x qs (k, within, is) = (suc k, omega arith, is)

-- a silence of more than 120,000 ms passes three heartbeats
lapsed_or_stays : (w moment : ℕ) (s : Session) → IsSession w s → is_lapsed moment s ≡ false → stays moment s ≡ true
lapsed_or_stays w moment s sound h = let most = sound.most in grind (arith, nat_tests)

-- the sessions that are forgotten are those that lapsed
pub forgotten_lapsed : (w moment : ℕ) (ss : List Session) → All (IsSession w) ss →
    All (Contains (lapsed moment ss)) (peers_of (forgotten moment ss))
forgotten_lapsed w moment [] all = λ k d within. absurd (omega arith)
forgotten_lapsed w moment (s ∷ ss) all =
    by_test (is_lapsed moment s) (stays moment s) (lapsed_or_stays w moment s (all 0 s (omega arith)))
    (forgotten_lapsed w moment ss (All-tail (IsSession w) s ss all))
  where
    by_test : (l y : Bool) → (l ≡ false → y ≡ true) → All (Contains (lapsed moment ss)) (peers_of (forgotten moment ss)) →
        All (Contains (peers_of (cond l (s ∷ filter (is_lapsed moment) ss) (filter (is_lapsed moment) ss))))
        (peers_of (cond (not y) (s ∷ forgotten moment ss) (forgotten moment ss)))
    by_test true true f h = λ k d within. Contains-cons _ s.peer _ (h k d within)
    by_test true false f h =
        All-cons (Contains (s.peer ∷ lapsed moment ss)) s.peer (peers_of (forgotten moment ss))
        (0, omega arith, refl)
        (λ k d within. Contains-cons _ s.peer _ (h k d within))
    by_test false true f h = h
    by_test false false f h = let wrong : false ≡ true = f refl in cc

-- ---- a write at the place of a peer's session

-- a change of one session leaves one a peer
pub one_in : (p : Peer) (f : Session → Session) → ((s : Session) → (f s).peer ≡ s.peer) →
    (items seen : List Session) (count at : ℕ) (old new : Session) →
    IsOnePerPeer (take count items) → seen ≡ items → position (is_of p) (take count seen) ≡ Some at →
    old ≡ get_or items at old → new ≡ f old → IsOnePerPeer (take count (set items at new))
one_in p f peers items seen count at old new one same placed was is =
    subst IsOnePerPeer (sym (changed_in p f items seen count at old new one same placed was is))
    (IsOnePerPeer-changed p f peers (take count items) one)

-- a change of one session that keeps it sound keeps all so
pub sound_in : (w : ℕ) (p : Peer) (f : Session → Session) → ((s : Session) → IsSession w s → IsSession w (f s)) →
    (items seen : List Session) (count at : ℕ) (old new : Session) →
    All (IsSession w) items → seen ≡ items → position (is_of p) (take count seen) ≡ Some at →
    old ≡ get_or items at old → new ≡ f old → All (IsSession w) (set items at new)
sound_in w p f stays_sound items seen count at old new all same placed was is =
    let ss = take count items in
    let placed' : position (is_of p) ss ≡ Some at = rw (← same) placed in
    let place = position-Some (is_of p) ss at old placed' in
    let below : at < length items = omega (arith, place.0, length-take count items) in
    let before : IsSession w old = subst (IsSession w) (sym was) (all at old below) in
    All-set (IsSession w) items at new (subst (IsSession w) (sym is) (stays_sound old before)) all

-- a session stays sound when its peer is heard
pub heard_sound : (w moment : ℕ) (s : Session) → IsSession w s → IsSession w (heard_at moment s)
heard_sound w moment s h = record { size = h.size; least = h.least; most = h.most }

-- and when its heartbeat is set
pub heartbeat_sound : (w ms : ℕ) (s : Session) → IsSession w s → IsSession w (with_heartbeat ms s)
heartbeat_sound w ms s h = record { size = h.size; least = omega arith; most = omega arith }

-- and when a command is entered
pub entry_sound : (w : ℕ) (e : Entry) (s : Session) → IsSession w s → IsSession w (with_entry e s)
entry_sound w e s h = record { size = h.size; least = h.least; most = h.most }

-- ---- an opened session

-- a session that is opened is sound
pub opened_sound : (w : ℕ) (p : Peer) (moment : ℕ) → IsSession w (opened_session w p moment)
opened_sound w p moment = record { size = refl; least = omega arith; most = omega arith }

-- a session that is opened at the first free place stands last
pub opened_in : (p : Peer) (w moment : ℕ) (items : List Session) (count : ℕ) (old new : Session) → count < length items →
    All (IsSession w) items → old ≡ get_or items count old → new ≡ opened_session old.retained.size p moment →
    take (count + 1) (set items count new) ≡ take count items ++ opened_session w p moment ∷ []
opened_in p w moment items count old new below all was is =
    let before : IsSession w old = subst (IsSession w) (sym was) (all count old below) in
    take_more_set items count new below
    ∙ ap (λ s. take count items ++ s ∷ []) (is ∙ ap (λ n. opened_session n p moment) before.size)

-- the place of a peer's session is among those in use
pub placed_within : (p : Peer) (items seen : List Session) (count at : ℕ) → seen ≡ items → position (is_of p) (take count seen) ≡ Some at → at < count
placed_within p items seen count at same placed =
    let some : Session = opened_session 0 p 0 in
    let place = position-Some (is_of p) (take count seen) at some placed in
    omega (arith, place.0, length-take count seen)

-- a known peer's session is one of those in use
pub some_known : (p : Peer) (ss : List Session) → IsSome (session_of p ss) → 0 < length ss
some_known p [] known = cc
some_known p (s ∷ ss) known = omega arith

-- ---- where the recent slot is that of the peer

-- as there is one session for a peer, one that is found stands first
first_place : (p : Peer) (ss : List Session) (i : ℕ) (d : Session) → IsOnePerPeer ss → i < length ss → is_of p (get_or ss i d) ≡ true →
    position_or_len (is_of p) ss ≡ i
first_place p [] i d one within here = absurd (omega arith)
first_place p (s ∷ ss) zero d one within here = ap (λ b. cond (not b) (1 + position_or_len (is_of p) ss) 0) here
first_place p (s ∷ ss) (suc i) d one within here =
    let others = IsOnePerPeer-head s ss one in
    let below : i < length ss = omega arith in
    let no : is_of p s ≡ false = other_peer' s.peer (get_or ss i d).peer p here (others i d below) in
    ap (λ b. cond (not b) (1 + position_or_len (is_of p) ss) 0) no
    ∙ ap (λ n. 1 + n) (first_place p ss i d (IsOnePerPeer-tail s ss one) below here) ∙ one_more i

-- the session of a peer stands where one of that peer is found
pub placed_at : (p : Peer) (ss : List Session) (i : ℕ) (d : Session) → IsOnePerPeer ss → i < length ss → is_of p (get_or ss i d) ≡ true →
    position (is_of p) ss ≡ Some i
placed_at p ss i d one within here =
    ap (λ n. cond (nat_lt n (length ss)) (Some n) None) (first_place p ss i d one within here)
    ∙ ap (λ b. cond b (Some i) None) below
  where
    below : nat_lt i (length ss) ≡ true
    below = grind (arith, nat_tests)

-- ---- up to when no session lapses

lower : (q r : ℕ) (ss : List Session) → IsQuietUntil q ss → r ≤ q → IsQuietUntil r ss
lower q r ss quiet le = λ k d within. let here = quiet k d within in omega (arith, here, le)

lt_or_le : (a b : ℕ) → (a < b) ⊎ (b ≤ a)
lt_or_le a b = grind arith

-- a session is written that is quiet as long
pub quiet_in : (q r : ℕ) (items : List Session) (count at : ℕ) (new : Session) → IsQuietUntil q (take count items) → r ≤ q →
    r ≤ new.heard + 3 * new.heartbeat → IsQuietUntil r (take count (set items at new))
quiet_in q r items count at new quiet le mine =
    let before = lower q r (take count items) quiet le in
    elim (lt_or_le at count) [
      | inl lt ↦ subst (IsQuietUntil r) (sym (take-set-lt count items at new lt))
          (All-set (λ s. r ≤ s.heard + 3 * s.heartbeat) (take count items) at new mine before)
      | inr ge ↦ subst (IsQuietUntil r) (sym (take-set-le count items at new ge)) before
    ]

-- a session is opened that is quiet as long
pub quiet_push : (q r : ℕ) (ss ts : List Session) (new : Session) → ts ≡ ss ++ new ∷ [] → IsQuietUntil q ss → r ≤ q →
    r ≤ new.heard + 3 * new.heartbeat → IsQuietUntil r ts
quiet_push q r ss ts new is quiet le mine =
    subst (IsQuietUntil r) (sym is) (All-push (λ s. r ≤ s.heard + 3 * s.heartbeat) ss new (lower q r ss quiet le) mine)

-- a command is kept
pub quiet_kept : (p : Peer) (e : Entry) (q : ℕ) (items seen : List Session) (count at : ℕ) (old new : Session) →
    IsQuietUntil q (take count items) → seen ≡ items → position (is_of p) (take count seen) ≡ Some at →
    old ≡ get_or items at old → new ≡ with_entry e old → IsQuietUntil q (take count (set items at new))
quiet_kept p e q items seen count at old new quiet same placed was is =
    let ss = take count items in
    let placed' : position (is_of p) ss ≡ Some at = rw (← same) placed in
    let place = position-Some (is_of p) ss at old placed' in
    let below : at < count = omega (arith, place.0, length-take count items) in
    let there : get_or ss at old ≡ old = get_or-take count items at old below ∙ sym was in
    let before : q ≤ old.heard + 3 * old.heartbeat = subst (λ (s : Session). q ≤ s.heard + 3 * s.heartbeat) there (quiet at old place.0) in
    quiet_in q q items count at new quiet (omega arith) (subst (λ (s : Session). q ≤ s.heard + 3 * s.heartbeat) (sym is) before)

no_lapse : (q moment : ℕ) (s : Session) → q ≤ s.heard + 3 * s.heartbeat → moment ≤ q → is_lapsed moment s ≡ false
no_lapse q moment s quiet le = grind (arith, nat_tests)

-- until the table is to be looked at, no session lapses
pub quiet_lapsed : (q moment : ℕ) (ss : List Session) → IsQuietUntil q ss → moment ≤ q → lapsed moment ss ≡ []
quiet_lapsed q moment [] quiet le = refl
quiet_lapsed q moment (s ∷ ss) quiet le =
    let here : q ≤ s.heard + 3 * s.heartbeat = quiet 0 s (omega arith) in
    rw (no_lapse q moment s here le) (quiet_lapsed q moment ss (All-tail (λ s. q ≤ s.heard + 3 * s.heartbeat) s ss quiet) le)

-- until then all stay
pub quiet_staying : (w q moment : ℕ) (ss : List Session) → All (IsSession w) ss → IsQuietUntil q ss → moment ≤ q → staying moment ss ≡ ss
quiet_staying w q moment [] all quiet le = refl
quiet_staying w q moment (s ∷ ss) all quiet le =
    let here : q ≤ s.heard + 3 * s.heartbeat = quiet 0 s (omega arith) in
    let still = lapsed_or_stays w moment s (all 0 s (omega arith)) (no_lapse q moment s here le) in
    rw still (ap (λ ts. s ∷ ts) (quiet_staying w q moment ss (All-tail (IsSession w) s ss all)
    (All-tail (λ s. q ≤ s.heard + 3 * s.heartbeat) s ss quiet) le))

-- ---- how many lapse

-- at most all
pub lapsed_few : (moment : ℕ) (ss : List Session) → length (lapsed moment ss) ≤ length ss
lapsed_few moment [] = omega arith
lapsed_few moment (s ∷ ss) = by_test (is_lapsed moment s) (lapsed_few moment ss)
  where
    by_test : (b : Bool) → length (lapsed moment ss) ≤ length ss →
        length (peers_of (cond b (s ∷ filter (is_lapsed moment) ss) (filter (is_lapsed moment) ss))) ≤ length (s ∷ ss)
    by_test true h = omega (arith, h)
    by_test false h = omega (arith, h)

-- ---- the first that is of a peer

pub placed_first : (p : Peer) (ss : List Session) (i : ℕ) (d : Session) → i < length ss → ((k : ℕ) → k < i → is_of p (get_or ss k d) ≡ false) → is_of p (get_or ss i d) ≡ true
    → position (is_of p) ss ≡ Some i
placed_first p ss i d within others here =
    let at : position_or_len (is_of p) ss ≡ i = position_or_len_is (is_of p) ss i d (omega (arith, within)) others (λ _. here) in
    grind (arith, common_steps)

pub one_more_not : (p : Peer) (ss : List Session) (i : ℕ) (e : Session) → i < length ss → ((d : Session) (k : ℕ) → k < i → is_of p (get_or ss k d) ≡ false) → is_of p (get_or ss i e) ≡ false
    → (d : Session) (k : ℕ) → k < i + 1 → is_of p (get_or ss k d) ≡ false
one_more_not p ss i e within none here d k lt = by (nat_lt k i) refl
  where
    by : (b : Bool) → nat_lt k i ≡ b → is_of p (get_or ss k d) ≡ false
    by true below = none d k (ltb-true k i below)
    by false above =
        let same : k ≡ i = grind (arith, common_steps) in
        rw same (ap (is_of p) (get_or_default ss i d e within) ∙ here)

pub placed_nowhere : (p : Peer) (ss : List Session) (i : ℕ) → length ss ≤ i → ((d : Session) (k : ℕ) → k < i → is_of p (get_or ss k d) ≡ false) → position (is_of p) ss ≡ None
placed_nowhere p [] i past none = refl
placed_nowhere p (s ∷ ss) i past none =
    let at : position_or_len (is_of p) (s ∷ ss) ≡ length (s ∷ ss) =
    position_or_len_is (is_of p) (s ∷ ss) (length (s ∷ ss)) s (omega arith) (λ k lt. none s k (omega (arith, lt, past))) (λ lt. absurd (omega (arith, lt))) in
    grind (arith, common_steps)
