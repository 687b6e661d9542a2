use Rattle.std.proofs.Common.{length}
use Rattle.oca_core_tests.proofs.tests.panel.in_flight.mutes.Given as goal

abbrev pub decreases-loop-channel-2 : goal.decreases-loop-channel-2
decreases-loop-channel-2 l = length l.in_flight
