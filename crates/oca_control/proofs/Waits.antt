-- A command is waited for until a moment.
use Rattle.oca_control.proofs.Words.{◌≡◌, ◌⊎◌, ℕ, ◌+◌, ◌<◌, ◌≤◌, Bool, false, ◌||◌, Some, None, refl, sym, ap, ◌∙◌, subst, inl, inr, arith, or_parts, add-zero, last_u64, EndState, Outcome}
use Rattle.oca_control.proofs.Words.{answer_under, LinkState, present_moment, IsPresent, TakesTurns, NoneTaken, OneTaken, Waits, IsBefore, WaitsWhile, TakesATurnAndSees, TakesTurnsBefore, OneTurn}
use Rattle.oca_control.proofs.Words.{ReceivesInAWait, WaitsUntil, most_turns_of_a_wait, Settles, EndsWait}
use Rattle.oca_control.specs.declared.outcome.Outcome.TheVariants as outcomes
use Rattle.oca_control.specs.Waiting.{NoTurn}
use Rattle.oca_control.proofs.Asks.{one_further}
use Rattle.oca_control.proofs.InTurn.{asked_once}

-- one more turn, before which nothing was known and there was time left
pub one_more_before : {h until n : ℕ} {late closed lost shut : Bool} {old l m new : LinkState} {d e f : EndState}
    → TakesTurnsBefore h until n late closed old l d e → EndsWait h until late closed e l None m → TakesATurnAndSees lost shut m new e f
    → TakesTurnsBefore h until (n + 1) lost shut old new d f
one_more_before {h} {until} {n} {late} {closed} {lost} {shut} {old} {l} {m} {new} {d} {e} {f} before s turn =
    let going = or_parts late l.lost s.0.1 in
    let open_there : TakesTurnsBefore h until n false false old l d e =
    subst (λ (b : Bool). TakesTurnsBefore h until n b false old l d e) going.0 (subst (λ (b : Bool). TakesTurnsBefore h until n late b old l d e) s.1.0 before) in
    OneTurn open_there s.0.0 going.1 (subst (λ (k : LinkState). IsBefore until k e) s.0.2 s.1.1)
    (subst (λ (k : LinkState). TakesATurnAndSees lost shut k new e f) s.0.2 turn)

given_up : {A B C : Type 0} → A ⊎ B → A ⊎ (B ⊎ C)
given_up (inl a) = inl a
given_up (inr b) = inr (inl b)

-- what was known is what waiting returns
pub waited_until : {h until n : ℕ} {late closed : Bool} {old l : LinkState} (new : LinkState) {d e : EndState} (o : Outcome)
    → TakesTurnsBefore h until n late closed old l d e → n ≤ most_turns_of_a_wait → EndsWait h until late closed e l (Some o) new → WaitsUntil h until old o new d e
waited_until {h} {until} {n} {late} {closed} {l = l} new (outcomes.Answered a) t le s = (l, n, late, closed, le, t, s.0, s.1)
waited_until new (outcomes.Refused fault) t le s = absurd s
waited_until {h} {until} {n} {late} {closed} {old} {l} new {d} {e} outcomes.Lost t le s = (
  n,
  late,
  closed,
  le,
  subst (λ (k : LinkState). TakesTurnsBefore h until n late closed old k d e) (sym s.2) t,
  ap (λ (k : LinkState). answer_under h k.untaken) s.2 ∙ s.0,
  ap (λ (k : LinkState). late || k.lost) s.2 ∙ s.1,
)
waited_until {h} {until} {n} {late} {closed} {old} {l} new {d} {e} outcomes.Unanswered t le s =
    let going = or_parts late l.lost s.0.1 in (
      n,
      closed,
      le,
      subst (λ (b : Bool). TakesTurnsBefore h until n b closed old new d e) going.0 (subst (λ (k : LinkState). TakesTurnsBefore h until n late closed old k d e) (sym s.0.2) t),
      ap (λ (k : LinkState). answer_under h k.untaken) s.0.2 ∙ s.0.0,
      ap (λ (k : LinkState). k.lost) s.0.2 ∙ going.1,
      given_up s.1,
    )

-- what is known behind the last turn
pub waited_last : {h until n : ℕ} {late closed : Bool} {old l : LinkState} (new : LinkState) {d e : EndState} (o : Outcome)
    → TakesTurnsBefore h until n late closed old l d e → n ≤ most_turns_of_a_wait → Settles h late l (Some o) new → WaitsUntil h until old o new d e
waited_last new (outcomes.Answered a) t le s = waited_until new (outcomes.Answered a) t le s
waited_last new (outcomes.Refused fault) t le s = absurd s
waited_last new outcomes.Lost t le s = waited_until new outcomes.Lost t le s
waited_last new outcomes.Unanswered t le s = absurd s

-- nothing is known behind the last turn
pub waited_in_vain : {h until n : ℕ} {late closed : Bool} {old l : LinkState} (new : LinkState) {d e : EndState}
    → TakesTurnsBefore h until n late closed old l d e → n ≤ most_turns_of_a_wait → n ≡ most_turns_of_a_wait → Settles h late l None new
    → WaitsUntil h until old outcomes.Unanswered new d e
waited_in_vain {h} {until} {n} {late} {closed} {old} {l} new {d} {e} t le all s =
    let going = or_parts late l.lost s.1 in (
      n,
      closed,
      le,
      subst (λ (b : Bool). TakesTurnsBefore h until n b closed old new d e) going.0 (subst (λ (k : LinkState). TakesTurnsBefore h until n late closed old k d e) (sym s.2) t),
      ap (λ (k : LinkState). answer_under h k.untaken) s.2 ∙ s.0,
      ap (λ (k : LinkState). k.lost) s.2 ∙ going.1,
      inr (inr all),
    )

-- ---- how often was received

received : {h until n : ℕ} {late closed : Bool} {old new : LinkState} {e f : EndState} → TakesTurnsBefore h until n late closed old new e f → f.receives < last_u64 → f.receives ≡ e.receives + n
received (NoTurn {e = e}) below = sym (add-zero e.receives)
received (OneTurn {n = n} {d = d} {e = e} {f = f} before none going time turn) below =
    one_further d.receives e.receives f.receives n (received before) (asked_once turn.turns) below

at_most : (a b n : ℕ) → b ≡ a + n → n ≤ most_turns_of_a_wait → b ≤ a + most_turns_of_a_wait
at_most a b n p q = omega arith

-- a wait receives at most as often as it may take turns
pub received_in_wait : (h until : ℕ) (old new : LinkState) (e f : EndState) (o : Outcome) → WaitsUntil h until old o new e f → ReceivesInAWait e.receives f.receives
received_in_wait h until old new e f (outcomes.Answered a) w = λ below. at_most e.receives f.receives w.1 (received w.5 below) w.4
received_in_wait h until old new e f (outcomes.Refused fault) w = absurd w
received_in_wait h until old new e f outcomes.Lost w = λ below. at_most e.receives f.receives w.0 (received w.4 below) w.3
received_in_wait h until old new e f outcomes.Unanswered w = λ below. at_most e.receives f.receives w.0 (received w.3 below) w.2

-- ---- without a turn

-- no turns are none before any moment
pub none_taken : {h m until : ℕ} {late : Bool} {l k : LinkState} {d e : EndState} → TakesTurns h m late l k d e → m ≤ 0 → TakesTurnsBefore h until m late false l k d e
none_taken NoneTaken few = NoTurn
none_taken (OneTaken {n = n} before none going turn) few = absurd (one_is_more n few)
  where
    one_is_more : (n : ℕ) → n + 1 ≤ 0 → ⊥
    one_is_more n few = omega arith

none_is_few : (m : ℕ) → m ≤ 0 → m ≤ most_turns_of_a_wait
none_is_few m few = omega arith

-- an answer that was taken without a turn, or a link that was then lost, is so after any time
pub at_once : (h n now : ℕ) (l k : LinkState) (o : Outcome) (d e : EndState) → IsPresent now d → ((o ≡ outcomes.Unanswered) → ⊥) → Waits h 0 l o k d e → WaitsWhile h n l o k d e
at_once h n now l k (outcomes.Answered a) d e there known w = record {
  from = present_moment now l;
  present = record { now = now; present = there; latest = refl };
  waits = (w.0, w.1, w.2, false, none_is_few w.1 w.3, none_taken w.4 w.3, w.5, w.6);
}
at_once h n now l k (outcomes.Refused fault) d e there known w = absurd w
at_once h n now l k outcomes.Lost d e there known w = record {
  from = present_moment now l;
  present = record { now = now; present = there; latest = refl };
  waits = (w.0, w.1, false, none_is_few w.0 w.2, none_taken w.3 w.2, w.4, w.5);
}
at_once h n now l k outcomes.Unanswered d e there known w = absurd (known refl)
