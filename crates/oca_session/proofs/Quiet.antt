-- The latest moment up to which no session lapses.
use Rattle.std.proofs.Common.{◌≡◌, ℕ, ◌+◌, ◌*◌, ◌≤◌, List, [], ◌∷◌, length, drop, arith, subst}
use Rattle.std.specs.Prelude.{min}
use Rattle.std.proofs.lemmas.List.{drop_all}
use Rattle.std.proofs.lemmas.List.Elements.{All-cons, All-nil}
use Rattle.oca_session.specs.Table.{Session}
use Rattle.oca_session.specs.PrivateQuiet.{IsQuietUntil, latest_quiet}

latest_within : (ss : List Session) → latest_quiet ss ≤ 18446744073709551615
unfolding latest_quiet
latest_within [] = omega arith
latest_within (s ∷ ss) = omega (arith, latest_within ss)

pub latest_first : (ss : List Session) → min 18446744073709551615 (latest_quiet ss) ≡ latest_quiet ss
latest_first ss = omega (arith, latest_within ss)

-- no session is to come
pub latest_last : (u i : ℕ) (ss : List Session) → length ss ≤ i → u ≤ 18446744073709551615 → min u (latest_quiet (drop i ss)) ≡ latest_quiet ss → u ≡ latest_quiet ss
unfolding latest_quiet
latest_last u i ss le within h =
    let last : min u (latest_quiet []) ≡ latest_quiet ss = subst (λ (ts : List Session). min u (latest_quiet ts) ≡ latest_quiet ss) (drop_all i ss le) h in
    omega (arith, within, last)

-- all sessions are quiet up to it, and up to each moment before
quiet_before : (q : ℕ) (ss : List Session) → q ≤ latest_quiet ss → IsQuietUntil q ss
unfolding latest_quiet
quiet_before q [] le = All-nil (λ s. q ≤ s.heard + 3 * s.heartbeat)
quiet_before q (s ∷ ss) le = All-cons (λ s. q ≤ s.heard + 3 * s.heartbeat) s ss (omega (arith, le)) (quiet_before q ss (omega (arith, le)))

pub latest_is_quiet : (q : ℕ) (ss : List Session) → q ≡ latest_quiet ss → IsQuietUntil q ss
latest_is_quiet q ss e = quiet_before q ss (omega (arith, e))
