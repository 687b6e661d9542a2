use Rattle.oca_device.proofs.Words.{◌∙◌}
use Rattle.oca_device.proofs.device.DeviceOf.tick.Goals as goal

pub returns : goal.returns
returns g c = λ w T E h. record {
  state = c.move_clock.ensures.moved w _ h.state;
  written = c.move_clock.ensures.written ∙ h.written;
  effects = c.move_clock.ensures.effects ∙ h.effects;
}
