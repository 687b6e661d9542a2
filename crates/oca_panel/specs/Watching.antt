-- An end that remembers when a peer was last heard, and what is found by that.
use Rattle.std.specs.Prelude.{◌≡◌, Bool, None, Option, Some, false, if◌then◌else◌, true, ℕ}
use Rattle.oca_panel.specs.Words.{EndState, Heard, Peer, same_peer}
use Rattle.std.specs.Option.{option_or}
use Rattle.oca_net.specs.declared.end.Heard.TheVariants as heards
use Rattle.oca_panel.specs.declared.answering.Probed.{Probed}
use Rattle.oca_panel.specs.declared.answering.Probed.TheVariants as probed

-- What an end says of itself, a peer, and the moment of the last datagram that it delivered from there.
pub record WatchState : Type 0 where
  pub end_state : EndState
  pub peer : Peer
  pub heard : Option ℕ

abbrev pub state_watched : WatchState → EndState
state_watched w = w.end_state

-- the moment of the last datagram from a peer, behind a receive
abbrev pub heard_after : Heard → Peer → Option ℕ → Option ℕ
heard_after (heards.Datagram from now) peer before = if same_peer from peer then Some now else before
heard_after _ peer before = before

-- THE WATCH GOES ON: the same peer is watched. If it was heard before, some moment is known still: that one, or another
-- one, at which it was heard anew.
pub record WatchesOn (before after : WatchState) : Type 0 where
  pub peer : after.peer ≡ before.peer
  pub anew : Option ℕ
  pub heard : after.heard ≡ option_or anew before.heard

-- whether a device answers the commands of a port, by whether it answered one, and when it was heard
abbrev pub found_by : Bool → Option ℕ → Probed
found_by true heard = probed.Answering
found_by false (Some moment) = probed.NotAnswering
found_by false None = probed.NotHeard
