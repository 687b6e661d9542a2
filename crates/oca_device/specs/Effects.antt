-- What became of each command of the last datagram.
use Rattle.std.specs.Prelude.{[], ◌++◌, ◌∷◌, Bool, Err, List, Ok, Result, if◌then◌else◌, max}
use Rattle.oca_device.specs.Words.{Command, CommandFields, DeviceSizes, Duplicate, Fresh, Judgement, KeepAlive, Msg}
use Rattle.oca_device.specs.Words.{Object, Old, PduFault, Peer, Response, Reused, execution, read_datagram}
use Rattle.oca_device.specs.declared.effect.Effect.{Effect}
use Rattle.oca_device.specs.declared.effect.CommandOutcome.{CommandOutcome}
use Rattle.oca_device.specs.declared.effect.CommandOutcome.TheVariants as outcome
use Rattle.oca_device.specs.Events.{Event, Datagram, Tick, Local}
use Rattle.oca_device.specs.Notes.{Admitted}
use Rattle.oca_device.specs.States.{State, noted, moved_to, admits, judged_in, after_message, state_after}

-- the effect with the target and the method of a command
abbrev pub effect_with : CommandOutcome → Bool → CommandFields → Effect
effect_with became respond c =
    record {
      target = record { 0 = c.target };
      method = record { level = c.level; index = c.index };
      respond = respond;
      outcome = became;
    }

-- a command is executed where it is fresh, with the status of its execution
abbrev pub outcome_of : Judgement → Peer → CommandFields → State → CommandOutcome
outcome_of Fresh p c s = outcome.Executed (execution s.tree p c).status
outcome_of (Duplicate reply) p c s = outcome.Duplicate
outcome_of Reused p c s = outcome.Reused
outcome_of Old p c s = outcome.Old

-- each command has one effect, and other messages have none
abbrev pub effects_of_message : DeviceSizes → Peer → Msg → State → List Effect
effects_of_message w p (Command respond c) s = effect_with (outcome_of (judged_in w s p c) p c s) respond c ∷ []
effects_of_message w p _ s = []

abbrev pub effects_of_messages : DeviceSizes → Peer → List Msg → State → List Effect
effects_of_messages w p [] s = []
effects_of_messages w p (m ∷ messages) s =
    effects_of_message w p m s ++ effects_of_messages w p messages (after_message w p m s)

abbrev pub effects_of_reading : DeviceSizes → Peer → Result (List Msg) PduFault → State → List Effect
effects_of_reading w p (Err fault) s = []
effects_of_reading w p (Ok messages) s =
    if admits w s p then effects_of_messages w p messages (noted p (Admitted messages) s) else []

-- THE EFFECTS of the last datagram of events: of each command in order; none before the first. Clock readings and
-- changes at the front leave them.
abbrev pub effects : DeviceSizes → List Object → List Event → List Effect
effects w tree [] = []
effects w tree (Datagram from bytes now ∷ events) =
    let s = state_after w tree events in
    effects_of_reading w from (read_datagram bytes) (moved_to (max s.moment now) s)
effects w tree (Tick now ∷ events) = effects w tree events
effects w tree (Local ono change ∷ events) = effects w tree events
