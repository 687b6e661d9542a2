-- From which moment on silence passes a limit.
use Rattle.std.proofs.Common.{◌≡◌, ℕ, zero, suc, ◌+◌, ◌<◌, Bool, true, false, cond, List, [], ◌∷◌, length, take, get_or, Option, Some, None, refl, sym, ap, ◌∙◌, arith}
use Rattle.std.specs.Prelude.{not, ◌&&◌, ◌||◌, All, position, map, filter}
use Rattle.std.specs.List.{list_any}
use Rattle.std.proofs.lemmas.List.Folds.{list_any_more}
use Rattle.std.proofs.lemmas.List.{get_or-take, length-take}
use Rattle.std.proofs.lemmas.List.Elements.{All-tail}
use Rattle.std.proofs.lemmas.List.Quantifiers.{position-Some}
use Rattle.oca_types.specs.declared.words.Peer.{Peer}
use Rattle.oca_types.specs.Peers.{same_peer}
use Rattle.oca_session.specs.Table.{Session, is_of, is_lapsed, stays}
use Rattle.oca_types.specs.Moments.{HoldsFrom}
use Rattle.oca_types.proofs.MomentTests.{same_test}
use Rattle.oca_session.specs.Lapses.{forgets, lapses}
use Rattle.oca_session.specs.Sound.{IsOnePerPeer}
use Rattle.oca_session.proofs.Tables.{other_peer, other_peer', IsOnePerPeer-head, IsOnePerPeer-tail, none_known, all_others}

-- ---- tests of moments

-- one session more was looked at
pub forgets_more : (ss : List Session) (i : ℕ) (d : Session) → i < length ss → (t : ℕ) → forgets (take (i + 1) ss) t ≡ (forgets (take i ss) t || not (stays t (get_or ss i d)))
forgets_more ss i d within t = list_any_more (λ s. not (stays t s)) ss i d within

-- ---- the session of a peer

module _ (p : Peer) (t : ℕ) where
  lapses_step : (s : Session) (ss : List Session) → lapses p (s ∷ ss) t ≡ ((is_lapsed t s && is_of p s) || lapses p ss t)
  lapses_step s ss = by_test (is_lapsed t s)
    where
      by_test : (b : Bool) → list_any (λ q. same_peer q p) (map (λ x. x.peer) (cond b (s ∷ filter (is_lapsed t) ss) (filter (is_lapsed t) ss)))
          ≡ ((b && is_of p s) || lapses p ss t)
      by_test true = refl
      by_test false = refl

  and_false : (b : Bool) → (b && false) ≡ false
  and_false true = refl
  and_false false = refl

  skipped : (s : Session) (ss : List Session) → is_of p s ≡ false → lapses p (s ∷ ss) t ≡ lapses p ss t
  skipped s ss other =
      lapses_step s ss ∙ ap (λ b. (is_lapsed t s && b) || lapses p ss t) other ∙ ap (λ b. b || lapses p ss t) (and_false (is_lapsed t s))

  pub none_lapses : (ss : List Session) → All (λ s. is_of p s ≡ false) ss → lapses p ss t ≡ false
  none_lapses [] none = refl
  none_lapses (s ∷ ss) none = skipped s ss (none 0 s (omega arith)) ∙ none_lapses ss (All-tail (λ x. is_of p x ≡ false) s ss none)

  pub lapses_at : (ss : List Session) (i : ℕ) (d : Session) → IsOnePerPeer ss → i < length ss → is_of p (get_or ss i d) ≡ true →
      lapses p ss t ≡ is_lapsed t (get_or ss i d)
  lapses_at [] i d one within here = absurd (omega arith)
  lapses_at (s ∷ ss) zero d one within here =
      let others = IsOnePerPeer-head s ss one in
      let none : All (λ x. is_of p x ≡ false) ss = λ k e w. other_peer s.peer (get_or ss k e).peer p here (others k e w) in
      lapses_step s ss ∙ ap (λ b. (is_lapsed t s && b) || lapses p ss t) here ∙ ap (λ b. (is_lapsed t s && true) || b) (none_lapses ss none) ∙ itself (is_lapsed t s)
    where
      itself : (b : Bool) → ((b && true) || false) ≡ b
      itself true = refl
      itself false = refl
  lapses_at (s ∷ ss) (suc i) d one within here =
      let others = IsOnePerPeer-head s ss one in
      let below : i < length ss = omega arith in
      let no : is_of p s ≡ false = other_peer' s.peer (get_or ss i d).peer p here (others i d below) in
      skipped s ss no ∙ lapses_at ss i d (IsOnePerPeer-tail s ss one) below here

-- the code finds the session of the peer at this place
pub lapses_from : (p : Peer) (ss : List Session) (at : ℕ) (s : Session) (o : Option ℕ) → IsOnePerPeer ss → position (is_of p) ss ≡ Some at → s ≡ get_or ss at s →
    HoldsFrom (λ t. is_lapsed t s) o → HoldsFrom (lapses p ss) o
lapses_from p ss at s o one placed is h =
    let place = position-Some (is_of p) ss at s placed in
    same_test (λ t. is_lapsed t s) (lapses p ss) o (λ t. lapses_at p t ss at s one place.0 place.1 ∙ ap (is_lapsed t) (sym is)) h

-- the peer has no session
pub lapses_never : (p : Peer) (ss : List Session) → position (is_of p) ss ≡ None → HoldsFrom (lapses p ss) None
lapses_never p ss unplaced = λ t below. none_lapses p t ss (all_others p ss (none_known p ss unplaced))

-- where it stands among the slots
pub lapses_found : (p : Peer) (items : List Session) (count at : ℕ) (s : Session) (o : Option ℕ) → IsOnePerPeer (take count items) →
    position (is_of p) (take count items) ≡ Some at → s ≡ get_or items at s → HoldsFrom (λ t. is_lapsed t s) o → HoldsFrom (lapses p (take count items)) o
lapses_found p items count at s o one placed is h =
    let place = position-Some (is_of p) (take count items) at s placed in
    let below : at < count = omega (arith, place.0, length-take count items) in
    lapses_from p (take count items) at s o one placed (is ∙ sym (get_or-take count items at s below)) h
