-- Lists of peers, and the session of a peer.
use Rattle.oca_device.proofs.Words.{◌≡◌, ℕ, Bool, true, false, cond, List, [], ◌∷◌, refl, sym, ap, ◌∙◌, arith, map, filter, ◌&&◌, ◌||◌, nat_eq, Some, None, IsSome, is_some, list_any, nat_tests}
use Rattle.oca_device.proofs.Words.{eqb-true, and_parts, or_parts, Peer, same_peer, Session, is_of, session_of, with_changed, peers_of, on_bool}

pub equal_self : (a : ℕ) → nat_eq a a ≡ true
equal_self a = grind (arith, nat_tests)

equal_turned : (a b : ℕ) → nat_eq a b ≡ nat_eq b a
equal_turned a b = grind (arith, nat_tests)

pub same_self : (p : Peer) → same_peer p p ≡ true
same_self p = ap (λ b. b && nat_eq p.port p.port) (equal_self p.ip) ∙ equal_self p.port

pub same_is : (p q : Peer) → same_peer p q ≡ true → p ≡ q
same_is p q h =
    let parts = and_parts (nat_eq p.ip q.ip) (nat_eq p.port q.port) h in
    ap (λ (n : ℕ). let x : Peer = record { ip = n; port = p.port } in x) (eqb-true p.ip q.ip parts.0)
    ∙ ap (λ (n : ℕ). let x : Peer = record { ip = q.ip; port = n } in x) (eqb-true p.port q.port parts.1)

pub same_turned : (p q : Peer) → same_peer p q ≡ same_peer q p
same_turned p q = ap (λ b. b && nat_eq p.port q.port) (equal_turned p.ip q.ip) ∙ ap (λ b. nat_eq q.ip p.ip && b) (equal_turned p.port q.port)

-- the peer is in the list
abbrev pub is_in : Peer → List Peer → Bool
is_in p ps = list_any (λ q. same_peer q p) ps

pub in_filtered : (f : Peer → Bool) (p : Peer) (ps : List Peer) → is_in p (filter f ps) ≡ (f p && is_in p ps)
in_filtered f p [] = on_bool (f p) (λ b. false ≡ (b && false)) refl refl
in_filtered f p (q ∷ ps) = by_same (same_peer q p) refl (in_filtered f p ps)
  where
    here : (b : Bool) → same_peer q p ≡ true → b ≡ f p → is_in p (filter f ps) ≡ (f p && is_in p ps) →
        is_in p (cond b (q ∷ filter f ps) (filter f ps)) ≡ (b && true)
    here true s e h = ap (λ x. x || is_in p (filter f ps)) s
    here false s e h = h ∙ ap (λ x. x && is_in p ps) (sym e)

    there : (b : Bool) → same_peer q p ≡ false → is_in p (filter f ps) ≡ (f p && is_in p ps) →
        is_in p (cond b (q ∷ filter f ps) (filter f ps)) ≡ (f p && is_in p ps)
    there true s h = ap (λ x. x || is_in p (filter f ps)) s ∙ h
    there false s h = h

    by_same : (same : Bool) → same_peer q p ≡ same → is_in p (filter f ps) ≡ (f p && is_in p ps) →
        is_in p (cond (f q) (q ∷ filter f ps) (filter f ps)) ≡ (f p && (same_peer q p || is_in p ps))
    by_same true s h =
        let e : f q ≡ f p = ap f (same_is q p s) in
        here (f q) s e h ∙ ap (λ x. x && true) e ∙ sym (ap (λ x. f p && (x || is_in p ps)) s)
    by_same false s h = there (f q) s h ∙ sym (ap (λ x. f p && (x || is_in p ps)) s)

-- A peer has a session where it is among the sessions' peers.
pub has_session : (p : Peer) (ss : List Session) → is_some (session_of p ss) ≡ is_in p (peers_of ss)
has_session p [] = refl
has_session p (s ∷ ss) = on_bool (is_of p s) (λ b. is_some (session_of p ss) ≡ is_in p (peers_of ss) → is_some (cond b (Some s) (session_of p ss)) ≡ (b || is_in p (peers_of ss)))
    (λ h. refl) (λ h. h) (has_session p ss)

pub still_has_session : (p : Peer) (old new : List Session) → peers_of new ≡ peers_of old → IsSome (session_of p old) → IsSome (session_of p new)
still_has_session p old new e h = has_session p new ∙ ap (is_in p) e ∙ sym (has_session p old) ∙ h

-- the session of a peer, where each session is made of its peer by g
module _ (g : Peer → Session) (own : (q : Peer) → (g q).peer ≡ q) where
  is_of_made : (p q : Peer) → is_of p (g q) ≡ same_peer q p
  is_of_made p q = ap (λ x. same_peer x p) (own q)

  pub session_made : (p : Peer) (ps : List Peer) → session_of p (map g ps) ≡ cond (is_in p ps) (Some (g p)) None
  session_made p [] = refl
  session_made p (q ∷ ps) = ap (λ b. cond b (Some (g q)) (session_of p (map g ps))) (is_of_made p q) ∙ by_same (same_peer q p) refl (session_made p ps)
    where
      by_same : (b : Bool) → same_peer q p ≡ b → session_of p (map g ps) ≡ cond (is_in p ps) (Some (g p)) None →
          cond b (Some (g q)) (session_of p (map g ps)) ≡ cond (b || is_in p ps) (Some (g p)) None
      by_same true s h = ap (λ x. Some (g x)) (same_is q p s)
      by_same false s h = h

  -- others are made as before
  pub made_alike : (k : Peer → Session) (p : Peer) → ((q : Peer) → same_peer q p ≡ false → g q ≡ k q) →
      (ps : List Peer) → is_in p ps ≡ false → map g ps ≡ map k ps
  made_alike k p h [] out = refl
  made_alike k p h (q ∷ ps) out =
      let parts = or_parts (same_peer q p) (is_in p ps) out in
      ap (λ s. s ∷ map g ps) (h q parts.0) ∙ ap (λ ss. k q ∷ ss) (made_alike k p h ps parts.1)

  -- the session of one peer is changed into what it is made of now
  pub changed_made : (k : Peer → Session) (p : Peer) (f : Session → Session) →
      ((q : Peer) → same_peer q p ≡ false → g q ≡ k q) → f (g p) ≡ k p →
      (ps : List Peer) → with_changed p f (map g ps) ≡ map k ps
  changed_made k p f h e [] = refl
  changed_made k p f h e (q ∷ ps) =
      ap (λ b. cond b (f (g q)) (g q) ∷ with_changed p f (map g ps)) (is_of_made p q)
      ∙ by_same (same_peer q p) refl
      ∙ ap (λ ss. k q ∷ ss) (changed_made k p f h e ps)
    where
      by_same : (b : Bool) → same_peer q p ≡ b → cond b (f (g q)) (g q) ∷ with_changed p f (map g ps) ≡ k q ∷ with_changed p f (map g ps)
      by_same true s =
          let same = same_is q p s in
          ap (λ x. f (g x) ∷ with_changed p f (map g ps)) same ∙ ap (λ x. x ∷ with_changed p f (map g ps)) e ∙ sym (ap (λ x. k x ∷ with_changed p f (map g ps)) same)
      by_same false s = ap (λ x. x ∷ with_changed p f (map g ps)) (h q s)
