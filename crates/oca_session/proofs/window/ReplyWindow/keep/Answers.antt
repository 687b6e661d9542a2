use Rattle.oca_session.proofs.Windows.{retained_after_agreed}
use Rattle.oca_session.proofs.window.ReplyWindow.keep.Goals as goal

pub returns-clause-accepted : goal.returns-clause-accepted
returns-clause-accepted g c = λ w A h. rw c.put.ensures (retained_after_agreed w A c.args.self.now _ h)
