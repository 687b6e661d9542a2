use Rattle.std.proofs.Common.{◌∙◌}
use Rattle.oca_types.specs.Peers.{fields_of}
use Rattle.oca_session.proofs.Windows.{judgement_by_window_agreed}
use Rattle.oca_session.proofs.window.ReplyWindow.judge.Goals as goal

pub returns-clause-accepted : goal.returns-clause-accepted
returns-clause-accepted g c = λ w A h. c.judge_retained.ensures ∙ judgement_by_window_agreed w A c.args.self.now (fields_of c.args.command.now) h
