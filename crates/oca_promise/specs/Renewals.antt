-- A PANEL IS RENEWED, or sends a keep-alive beside its link, and goes on in the same network.
use Rattle.std.specs.Prelude.{[], ◌++◌, ◌+◌, ◌∷◌, ◌≡◌, ◌≤◌, Bool, List, Some, ℕ}
use Rattle.std.specs.List.{slice_get}
use Rattle.oca_promise.specs.Words.{Beside, EndState, LinkState, Network, PanelState, Peer, Renew, Sends, Setup}
use Rattle.oca_promise.specs.Words.{after_step, departures_in, zero_of}
use Rattle.oca_net.specs.declared.end.Heard.{Heard}
use Rattle.oca_panel.specs.Calls.{CallsBeside}
use Rattle.oca_panel.specs.Probes.{SendsKeepAlive}
use Rattle.oca_panel.specs.Renewals.{IsRenewed}

-- Where a panel whose link is the one of this number is renewed to the same device, with a first handle no lower than
-- the one that the next command of its link would get, its new link is the one of this number after the step Renew,
-- whenever its clock showed 0.
abbrev pub EveryRenewalIsAStep : Type 0
EveryRenewalIsAStep =
    (first span : ℕ) (old new : PanelState) (renewed : IsRenewed old.link.device first span old new) (n : Network)
    (i : ℕ) (p : Peer) (origin next : ℕ) →
    old.link.next ≡ Some next → next ≤ first → slice_get n.links i ≡ Some (record { peer = p; link = old.link }) →
    slice_get (after_step (Renew i first span renewed.now origin) n).links i
    ≡ Some (record { peer = p; link = new.link })

-- An end was given a datagram for the link's device; after the step Beside this very datagram is the next one that was
-- sent to the device in the network, where it left at this moment of the link's clock, and the link is the one of this
-- number, as it was.
pub record GoesBeside (before between : EndState) (l : LinkState) (i now : ℕ) (p : Peer) (n : Network) : Type 0 where
  pub bytes : List ℕ
  pub taken : Bool
  pub given : Sends taken l.device bytes before between
  pub sent : (after_step (Beside i now) n).to_device ≡ n.to_device ++ record { peer = p; bytes = bytes } ∷ []
  pub leaves : (s : Setup) → departures_in s (Beside i now) n
      ≡ record { datagram = record { peer = p; bytes = bytes }; at = zero_of s p n + now } ∷ []
  pub link : slice_get (after_step (Beside i now) n).links i ≡ Some (record { peer = p; link = l })

-- So it is of each keep-alive that an end is given for the device of the link of this number.
abbrev pub EveryKeepAliveIsAStep : Type 0
EveryKeepAliveIsAStep =
    (before between : EndState) (l : LinkState) (n : Network) (i now : ℕ) (p : Peer) →
    SendsKeepAlive l.device before between →
    slice_get n.links i ≡ Some (record { peer = p; link = l }) → GoesBeside before between l i now p n

-- And so it is of a panel whose link is the one of this number, and which sends its link's device a keep-alive beside
-- it: it goes on with that link.
abbrev pub EveryCallBesideIsAStep : Type 0
EveryCallBesideIsAStep =
    (heard : Heard) (old new : PanelState) (calls : CallsBeside old.link.device heard old new) (n : Network)
    (i now : ℕ) (p : Peer) →
    slice_get n.links i ≡ Some (record { peer = p; link = old.link }) →
    GoesBeside old.end_state calls.between old.link i now p n × (new.link ≡ old.link)
