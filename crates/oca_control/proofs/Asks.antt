-- A command is waited for.
use Rattle.oca_control.proofs.Words.{◌≡◌, ℕ, ◌+◌, ◌<◌, ◌≤◌, Bool, ◌||◌, Some, None, Ok, Err, refl, sym, ap, ◌∙◌, subst, arith, or_parts, add-zero, last_u64, EndState, Handle, RequestFields}
use Rattle.oca_control.proofs.Words.{ControlFault, Outcome, answer_under, LinkState, TakesATurn, TakesTurns, NoneTaken, OneTaken, Waits, ReceivesSoOften, Begins, Asks, refused_by, Settles}
use Rattle.oca_control.specs.declared.fault.ControlFault.TheVariants as faults
use Rattle.oca_control.specs.declared.outcome.Outcome.TheVariants as outcomes
use Rattle.oca_control.proofs.InTurn.{asked_once}

pub one_further : (a b c n : ℕ) → (b < last_u64 → b ≡ a + n) → (c < last_u64 → c ≡ b + 1) → c < last_u64 → c ≡ a + (n + 1)
one_further a b c n f g below =
    let last = g below in
    let less : b < last_u64 = omega arith in
    omega (arith, f less, last)

pub turns_asked : {h n : ℕ} {late : Bool} {old new : LinkState} {e f : EndState} → TakesTurns h n late old new e f → f.receives < last_u64 → f.receives ≡ e.receives + n
turns_asked (NoneTaken {e = e}) below = sym (add-zero e.receives)
turns_asked (OneTaken {n = n} {d = d} {e = e} {f = f} before none going turn) below =
    one_further d.receives e.receives f.receives n (turns_asked before) (asked_once turn.turns) below

-- Turns that left the command unanswered, and the link or_parts late nor lost, and one more turn are one turn more.
pub one_more_turn : {h n : ℕ} {late more : Bool} {old l m new : LinkState} {d e f : EndState} → TakesTurns h n late old l d e → Settles h late l None m → TakesATurn more m new e f → TakesTurns h (n + 1) more old new d f
one_more_turn {h} {n} {late} {more} {old} {l} {m} {new} {d} {e} {f} before s turn =
    let going = or_parts late l.lost s.1 in
    OneTaken (subst (λ (b : Bool). TakesTurns h n b old l d e) going.0 before) s.0 going.1 (subst (λ (k : LinkState). TakesATurn more k new e f) s.2 turn)

-- Where the link shows the answer, or that it is lost or late, after at most so many turns, that is what waiting
-- returns.
pub waits_settled : {h n turns : ℕ} {late : Bool} {old l : LinkState} (new : LinkState) {d e : EndState} (o : Outcome) → TakesTurns h n late old l d e → n ≤ turns → Settles h late l (Some o) new → Waits h turns old o new d e
waits_settled {h} {n} {late = late} {l = l} new (outcomes.Answered a) t le s = (l, n, late, le, t, s.0, s.1)
waits_settled new (outcomes.Refused fault) t le s = absurd s
waits_settled {h} {n} {late = late} {old = old} {l = l} new {d = d} {e = e} outcomes.Lost t le s = (
  n,
  late,
  le,
  subst (λ (k : LinkState). TakesTurns h n late old k d e) (sym s.2) t,
  ap (λ (k : LinkState). answer_under h k.untaken) s.2 ∙ s.0,
  ap (λ (k : LinkState). late || k.lost) s.2 ∙ s.1,
)
waits_settled new outcomes.Unanswered t le s = absurd s

-- Where it shows or_parts after just so many turns, waiting returns that there was no answer.
pub waits_unsettled : {h turns : ℕ} {late : Bool} {old l new : LinkState} {d e : EndState} (n : ℕ) → TakesTurns h n late old l d e → n ≡ turns → Settles h late l None new → Waits h turns old outcomes.Unanswered new d e
waits_unsettled {h} {turns} {late} {old} {l} {new} {d} {e} n t all s =
    let going = or_parts late l.lost s.1 in (
      subst (λ (b : Bool). TakesTurns h turns b old new d e) going.0 (subst (λ (k : ℕ). TakesTurns h k late old new d e) all (subst (λ (k : LinkState). TakesTurns h n late old k d e) (sym s.2) t)),
      ap (λ (k : LinkState). answer_under h k.untaken) s.2 ∙ s.0,
      ap (λ (k : LinkState). k.lost) s.2 ∙ going.1,
    )

-- Waiting receives as often as its outcome allows, where the count of receives is below its last value.
pub waits_asked : (h turns : ℕ) (old new : LinkState) (e f : EndState) (o : Outcome) → Waits h turns old o new e f → f.receives < last_u64 → ReceivesSoOften turns o e.receives f.receives
waits_asked h turns old new e f (outcomes.Answered a) w below = at_most e.receives f.receives w.1 turns (turns_asked w.4 below) w.3
  where
    at_most : (a b n m : ℕ) → b ≡ a + n → n ≤ m → b ≤ a + m
    at_most a b n m p q = omega arith
waits_asked h turns old new e f (outcomes.Refused fault) w below = absurd w
waits_asked h turns old new e f outcomes.Lost w below = at_most e.receives f.receives w.0 turns (turns_asked w.3 below) w.2
  where
    at_most : (a b n m : ℕ) → b ≡ a + n → n ≤ m → b ≤ a + m
    at_most a b n m p q = omega arith
waits_asked h turns old new e f outcomes.Unanswered w below = turns_asked w.0 below

-- ---- begun and waited for

fault_asked : (fault : ControlFault) (o : Outcome) (turns before after : ℕ) → o ≡ refused_by fault → after ≡ before → ReceivesSoOften turns o before after
fault_asked fault o turns before after is same = subst (λ (x : Outcome). ReceivesSoOften turns x before after) (sym is) (by fault)
  where
    by : (f : ControlFault) → ReceivesSoOften turns (refused_by f) before after
    by faults.Lost = omega arith
    by _ = same

-- A command that was begun and then waited for was asked.
pub asks_answered : {request : RequestFields} {turns : ℕ} {old link new : LinkState} {e d f : EndState} (h : Handle) (o : Outcome) → Begins request (Ok h) old link e d → Waits h.0 turns link o new d f →
    Asks request turns old o new e f
asks_answered {link = link} {d = d} h o b w = record { returned = Ok h; link = link; end_then = d; begins = b; outcome_is = w }

-- A command that was refused when it was to begin was asked, with that refusal as its outcome.
pub asks_refused : {request : RequestFields} {turns : ℕ} {old link : LinkState} {e d : EndState} (fault : ControlFault) (o : Outcome) → Begins request (Err fault) old link e d → o ≡ refused_by fault →
    Asks request turns old o link e d
asks_refused {link = link} {d = d} fault o b is = record { returned = Err fault; link = link; end_then = d; begins = b; outcome_is = (is, refl, refl) }

-- Beginning a command receives nothing: what holds of the receives since holds of all.
pub begun_asked : (turns : ℕ) {request : RequestFields} {old link : LinkState} {e d : EndState} (h : Handle) (o : Outcome) (after : ℕ) → Begins request (Ok h) old link e d →
    ReceivesSoOften turns o d.receives after → ReceivesSoOften turns o e.receives after
begun_asked turns h o after b k = subst (λ (n : ℕ). ReceivesSoOften turns o n after) b.gives.1.sends.receives k

-- Asking a command that is refused receives nothing.
pub refused_asked : (turns : ℕ) {request : RequestFields} {old link : LinkState} {e d : EndState} (fault : ControlFault) (o : Outcome) → Begins request (Err fault) old link e d → o ≡ refused_by fault →
    ReceivesSoOften turns o e.receives d.receives
refused_asked turns {e = e} {d = d} fault o b is = fault_asked fault o turns e.receives d.receives is (ap (λ (x : EndState). x.receives) b.gives.1)
