use Rattle.std.proofs.Common.{length}
use Rattle.oca_panel.proofs.walk.+put_first.Given as goal

abbrev pub decreases-put_first : goal.decreases-put_first
decreases-put_first l = length l.members.now
