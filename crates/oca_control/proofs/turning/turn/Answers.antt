use Rattle.oca_control.proofs.InTurn.{datagram_turn, quiet_turn, oversize_turn, failed_turn, closed_turn}
use Rattle.oca_control.proofs.Words.{◌≡◌, ap, ◌∙◌, sym, arith, DriveReport, given_report}
use Rattle.std.specs.Prelude.{[]}
use Rattle.oca_control.proofs.turning.turn.Goals as goal

no_turn : (r : DriveReport) → r ≡ given_report [] 0 → r.turns ≡ 1 → ⊥
no_turn r e one = let none = sym (ap (λ (x : DriveReport). x.turns) e) ∙ one in omega arith

pub returns-in-Datagram-clause-turns : goal.returns-in-Datagram-clause-turns
returns-in-Datagram-clause-turns g c =
    datagram_turn c.send_in_time-given.result c.as_slice.result.now c.datagram.result c.count_of-answered.result c.as_slice.ensures.fits c.as_slice.ensures.value c.in-Datagram.ensures.heard
    c.datagram.ensures.receives c.count_of-answered.ensures.count c.send_in_time-given.ensures.gives

pub returns-in-Quiet-clause-turns : goal.returns-in-Quiet-clause-turns
returns-in-Quiet-clause-turns g c = quiet_turn c.send_in_time.result c.in-Quiet.ensures.heard c.send_in_time.ensures.gives

pub returns-in-Oversize-clause-turns : goal.returns-in-Oversize-clause-turns
returns-in-Oversize-clause-turns g c = oversize_turn c.send_in_time-in-Oversize.result c.in-Oversize.ensures.heard c.send_in_time-in-Oversize.ensures.gives

pub returns-in-Failed-clause-turns : goal.returns-in-Failed-clause-turns
returns-in-Failed-clause-turns g c = failed_turn c.nothing.result c.args.link.now c.in-Failed.ensures.heard c.nothing.ensures

pub returns-in-Closed-clause-turns : goal.returns-in-Closed-clause-turns
returns-in-Closed-clause-turns g c = closed_turn _ c.args.link.now c.in-Closed.ensures.heard.packet c.in-Closed.ensures.heard c.nothing-in-Closed.ensures

pub returns-in-Datagram-clause-left : goal.returns-in-Datagram-clause-left
returns-in-Datagram-clause-left g c = λ _ _ going. c.send_in_time-given.ensures.left going

pub returns-in-Quiet-clause-left : goal.returns-in-Quiet-clause-left
returns-in-Quiet-clause-left g c = λ _ _ going. c.send_in_time.ensures.left going

pub returns-in-Oversize-clause-left : goal.returns-in-Oversize-clause-left
returns-in-Oversize-clause-left g c = λ _ _ going. c.send_in_time-in-Oversize.ensures.left going

pub returns-in-Closed-clause-left : goal.returns-in-Closed-clause-left
returns-in-Closed-clause-left g c = λ one _ _. absurd (no_turn _ c.nothing-in-Closed.ensures one)

pub returns-in-Datagram-clause-waits : goal.returns-in-Datagram-clause-waits
returns-in-Datagram-clause-waits g c = (
  c.receive_by.new.self,
  c.in-Datagram.ensures.heard.receives,
  record {
    now = c.now.result;
    until = c.end_of_turn-until.result;
    present = c.now.ensures;
    ends = c.end_of_turn-until.ensures;
    waits = c.in-Datagram.ensures.waits;
  },
)

pub returns-in-Quiet-clause-waits : goal.returns-in-Quiet-clause-waits
returns-in-Quiet-clause-waits g c = (
  c.receive_by.new.self,
  c.in-Quiet.ensures.heard.receives,
  record {
    now = c.now.result;
    until = c.end_of_turn-until.result;
    present = c.now.ensures;
    ends = c.end_of_turn-until.ensures;
    waits = c.in-Quiet.ensures.waits;
  },
)

pub returns-in-Oversize-clause-waits : goal.returns-in-Oversize-clause-waits
returns-in-Oversize-clause-waits g c = (
  c.receive_by.new.self,
  c.in-Oversize.ensures.heard.receives,
  record {
    now = c.now.result;
    until = c.end_of_turn-until.result;
    present = c.now.ensures;
    ends = c.end_of_turn-until.ensures;
    waits = c.in-Oversize.ensures.waits;
  },
)

pub returns-in-Failed-clause-waits : goal.returns-in-Failed-clause-waits
returns-in-Failed-clause-waits g c = (
  c.receive_by.new.self,
  c.in-Failed.ensures.heard.receives,
  record {
    now = c.now.result;
    until = c.end_of_turn-until.result;
    present = c.now.ensures;
    ends = c.end_of_turn-until.ensures;
    waits = c.in-Failed.ensures.waits;
  },
)

pub returns-in-Closed-clause-waits : goal.returns-in-Closed-clause-waits
returns-in-Closed-clause-waits g c = (
  c.receive_by.new.self,
  c.in-Closed.ensures.heard.receives,
  record {
    now = c.now.result;
    until = c.end_of_turn-until.result;
    present = c.now.ensures;
    ends = c.end_of_turn-until.ensures;
    waits = c.in-Closed.ensures.waits;
  },
)
