-- A panel that goes on with a new link over the same end, and a turn with its report.
use Rattle.std.specs.Prelude.{◌||◌, ◌≡◌, Bool, ℕ}
use Rattle.oca_panel.specs.Words.{DriveReport, Peer, Turns, late_at, new_link}
use Rattle.oca_control.specs.Asking.{IsPresent}
use Rattle.oca_panel.specs.Panels.{PanelState}

-- The link is a new one, made at the end's present moment; all else is as it was.
pub record IsRenewed (device : Peer) (first span : ℕ) (old new : PanelState) : Type 0 where
  pub now : ℕ
  pub present : IsPresent now old.end_state
  pub panel : new ≡ record old { link = new_link device first now span }

-- The link took a turn, and this is what was done.
pub record TurnsWith (report : DriveReport) (old new : PanelState) : Type 0 where
  pub takes : Turns old.link new.link old.end_state new.end_state report
  pub wait : new.wait ≡ old.wait
  pub unanswered : new.unanswered ≡ old.unanswered

-- Whether the link is lost, or late at the present moment of the end.
pub record IsFoundLost (p : PanelState) (found : Bool) : Type 0 where
  pub now : ℕ
  pub present : IsPresent now p.end_state
  pub lost : found ≡ (p.link.lost || late_at now p.link)
