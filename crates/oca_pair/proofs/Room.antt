-- Where few peers speak there is room for each.
use Rattle.oca_pair.proofs.Words.{◌≡◌, ℕ, ◌-◌, ◌<◌, ◌≤◌, Bool, true, false, cond, List, [], ◌∷◌, ◌++◌, length, refl, sym, ap, ◌∙◌, arith, suc, nat_le, nat_lt, not, ◌||◌, filter, AllByRecursion}
use Rattle.oca_pair.proofs.Words.{nat_tests, lt-ltb, not-true, Peer, same_peer, DeviceSizes, peers_except, Happening, Passes, Says, Sets, Arrival, clock, session, is_open, is_known, opened, known}
use Rattle.oca_pair.proofs.Words.{has_room, admitted, is_among_peers, SpeakLately, FewFindRoom, each_map, each_append, same_is, same_turned, on_bool}
use Rattle.oca_pair.proofs.Lists.{differs}

-- Lists of which no two are the same.
abbrev pub Differ : List Peer → Type 0
Differ [] = Unit {0}
Differ (x ∷ xs) = AllByRecursion (λ y. same_peer y x ≡ false) xs × Differ xs

each_filter : (P : Peer → Type 0) (t : Peer → Bool) (xs : List Peer) → AllByRecursion P xs → AllByRecursion P (filter t xs)
each_filter P t [] p = tt
each_filter P t (x ∷ xs) p = on_bool (t x) (λ b. AllByRecursion P (filter t xs) → AllByRecursion P (cond b (x ∷ filter t xs) (filter t xs))) (λ r. (p.0, r)) (λ r. r) (each_filter P t xs p.1)

passes : (t : Peer → Bool) (xs : List Peer) → AllByRecursion (λ x. t x ≡ true) (filter t xs)
passes t [] = tt
passes t (x ∷ xs) = on_bool (t x) (λ b. t x ≡ b → AllByRecursion (λ x. t x ≡ true) (filter t xs) → AllByRecursion (λ x. t x ≡ true) (cond b (x ∷ filter t xs) (filter t xs)))
    (λ e r. (e, r)) (λ e r. r) refl (passes t xs)

differ_filter : (t : Peer → Bool) (xs : List Peer) → Differ xs → Differ (filter t xs)
differ_filter t [] d = tt
differ_filter t (x ∷ xs) d = on_bool (t x) (λ b. Differ (filter t xs) → Differ (cond b (x ∷ filter t xs) (filter t xs)))
    (λ r. (each_filter (λ y. same_peer y x ≡ false) t xs d.0, r)) (λ r. r) (differ_filter t xs d.1)

turned : (a b : Peer) → same_peer a b ≡ false → same_peer b a ≡ false
turned a b e = same_turned b a ∙ e

differ_last : (p : Peer) (xs : List Peer) → AllByRecursion (λ y. same_peer y p ≡ false) xs → Differ xs → Differ (xs ++ p ∷ [])
differ_last p [] a d = (tt, tt)
differ_last p (x ∷ xs) a d = (each_append (λ y. same_peer y x ≡ false) xs (p ∷ []) d.0 (turned x p a.0, tt), differ_last p xs a.1 d.1)

opened_differ : (D : List Arrival) → Differ (opened D)
opened_differ [] = tt
opened_differ (a ∷ D) = on_bool (is_known a.at a.from D) (λ b. Differ (opened D) → Differ (cond b (opened D) (peers_except a.from (opened D) ++ a.from ∷ [])))
    (λ d. d)
    (λ d. differ_last a.from (peers_except a.from (opened D)) (each_map (λ q e. not-true (same_peer q a.from) e) (peers_except a.from (opened D)) (passes (λ q. not (same_peer q a.from)) (opened D)))
    (differ_filter (λ q. not (same_peer q a.from)) (opened D) d)) (opened_differ D)

-- Different ones among others are no more than those.
none_out : (y : Peer) (xs : List Peer) → AllByRecursion (λ z. same_peer z y ≡ false) xs → peers_except y xs ≡ xs
none_out y [] a = refl
none_out y (x ∷ xs) a = ap (λ b. cond (not b) (x ∷ peers_except y xs) (peers_except y xs)) a.0 ∙ ap (λ zs. x ∷ zs) (none_out y xs a.1)

one_out : (y : Peer) (xs : List Peer) → Differ xs → length xs ≤ suc (length (peers_except y xs))
one_out y [] d = omega arith
one_out y (x ∷ xs) d =
    on_bool (same_peer x y) (λ b. same_peer x y ≡ b → length xs ≤ suc (length (peers_except y xs)) → length (x ∷ xs) ≤ suc (length (cond (not b) (x ∷ peers_except y xs) (peers_except y xs))))
    (λ e r. let same : x ≡ y = same_is x y e in let all : peers_except y xs ≡ xs = none_out y xs (rw same at d.0) in rw all (omega arith)) (λ e r. omega arith) refl (one_out y xs d.1)

few : (ys xs : List Peer) → Differ xs → AllByRecursion (λ x. is_among_peers ys x ≡ true) xs → length xs ≤ length ys
few [] [] d a = omega arith
few [] (x ∷ xs) d a = let wrong = a.0 in cc
few (y ∷ ys) xs d a =
    let rest : length (peers_except y xs) ≤ length ys = few ys (peers_except y xs) (differ_filter (λ q. not (same_peer q y)) xs d) (others xs a) in
    let one : length xs ≤ suc (length (peers_except y xs)) = one_out y xs d in
    omega arith
  where
    later_than : (q : Peer) → same_peer q y ≡ false → (same_peer y q || is_among_peers ys q) ≡ true → is_among_peers ys q ≡ true
    later_than q e t = sym (ap (λ b. b || is_among_peers ys q) (turned q y e)) ∙ t

    others : (xs : List Peer) → AllByRecursion (λ x. is_among_peers (y ∷ ys) x ≡ true) xs → AllByRecursion (λ x. is_among_peers ys x ≡ true) (peers_except y xs)
    others [] a = tt
    others (x ∷ xs) a =
        on_bool (same_peer x y) (λ b. same_peer x y ≡ b → AllByRecursion (λ x. is_among_peers ys x ≡ true) (peers_except y xs) → AllByRecursion (λ x. is_among_peers ys x ≡ true) (cond (not b) (x ∷ peers_except y xs) (peers_except y xs)))
        (λ e r. r) (λ e r. (later_than x e a.0, r)) refl (others xs a.1)

-- An arrival of the 120,000 ms before t is of one of the peers.
abbrev IsLatelyOf : List Peer → ℕ → Arrival → Type 0
IsLatelyOf peers t a = t - a.at ≤ 120000 → is_among_peers peers a.from ≡ true

arrive_lately : (w : DeviceSizes) (peers : List Peer) (t : ℕ) (H : List Happening) → SpeakLately peers t H → AllByRecursion (IsLatelyOf peers t) (admitted w H)
arrive_lately w peers t [] s = tt
arrive_lately w peers t (Passes now ∷ H) s = arrive_lately w peers t H s
arrive_lately w peers t (Sets ono change ∷ H) s = arrive_lately w peers t H s
arrive_lately w peers t (Says p ms ∷ H) s =
    on_bool (has_room w (clock H) p (admitted w H)) (λ b. AllByRecursion (IsLatelyOf peers t) (admitted w H) → AllByRecursion (IsLatelyOf peers t) (cond b ((record { from = p; messages = ms; at = clock H }) ∷ admitted w H) (admitted w H)))
    (λ r. (s.0, r)) (λ r. r) (arrive_lately w peers t H s.1)

-- so each peer that is known at t is one of them
known_among : (peers : List Peer) (t : ℕ) (q : Peer) (D : List Arrival) → AllByRecursion (IsLatelyOf peers t) D → is_known t q D ≡ true → is_among_peers peers q ≡ true
known_among peers t q [] l e = cc
known_among peers t q (a ∷ D) l e = by_peer (λ h. known_among peers t q D l.1 h) (same_peer a.from q) refl e
  where
    near : (n : ℕ) → nat_le n 120000 ≡ true → n ≤ 120000
    near n h = grind (arith, nat_tests)

    by_time : (b : Bool) → nat_le (t - a.at) 120000 ≡ b → a.from ≡ q → is_open (cond b (a ∷ session a.at q D) []) ≡ true → is_among_peers peers q ≡ true
    by_time true h same e = ap (is_among_peers peers) (sym same) ∙ l.0 (near (t - a.at) h)
    by_time false h same e = cc

    by_peer : (is_known t q D ≡ true → is_among_peers peers q ≡ true) → (b : Bool) → same_peer a.from q ≡ b → is_open (cond (not b) (session t q D) (cond (nat_le (t - a.at) 120000) (a ∷ session a.at q D) [])) ≡ true →
        is_among_peers peers q ≡ true
    by_peer before false h e = before e
    by_peer before true h e = by_time (nat_le (t - a.at) 120000) refl (same_is a.from q h) e

pub few_find_room : FewFindRoom
few_find_room w H peers p small lately among = on_bool (is_known t p D) (λ b. is_known t p D ≡ b → (b || nat_lt (length (known t D)) w.peers) ≡ true)
    (λ e. refl) (λ e. lt-ltb (length (known t D)) w.peers (less e)) refl
  where
    t : ℕ
    t = clock H

    D : List Arrival
    D = admitted w H

    other_than : (q : Peer) → is_known t p D ≡ false → is_known t q D ≡ true → same_peer q p ≡ false
    other_than q unknown sure = on_bool (same_peer q p) (λ b. same_peer q p ≡ b → b ≡ false)
        (λ e. let same : q ≡ p = same_is q p e in differs (sym (ap (λ (x : Peer). is_known t x D) (sym same) ∙ sure) ∙ unknown)) (λ e. refl) refl

    knows : Peer → Bool
    knows q = is_known t q D

    less : is_known t p D ≡ false → length (known t D) < w.peers
    less unknown =
        let all : AllByRecursion (λ q. knows q ≡ true) (known t D) = passes knows (opened D) in
        let size : length (p ∷ known t D) ≤ length peers = few peers (p ∷ known t D)
        (each_map (λ q e. other_than q unknown e) (known t D) all, differ_filter knows (opened D) (opened_differ D))
        (among, each_map (λ q e. known_among peers t q D (arrive_lately w peers t H lately) e) (known t D) all) in
        omega arith
