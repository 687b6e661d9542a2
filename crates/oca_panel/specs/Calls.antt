-- A keep-alive that is sent beside a panel's link.
use Rattle.std.specs.Prelude.{◌≡◌, List, ℕ}
use Rattle.oca_panel.specs.Words.{EndState, Heard, Peer, Receives}
use Rattle.oca_panel.specs.Panels.{PanelState}
use Rattle.oca_panel.specs.Probes.{SendsKeepAlive}

-- A keep-alive of five seconds was sent to the device, then was received once, and this was heard. Nothing else was
-- sent, and all but the end is as it was.
pub record CallsBeside (device : Peer) (heard : Heard) (old new : PanelState) : Type 0 where
  pub between : EndState
  pub bytes : List ℕ
  pub keeps : SendsKeepAlive device old.end_state between
  pub receives : Receives heard bytes between new.end_state
  pub same : new ≡ record old { end_state = new.end_state }
