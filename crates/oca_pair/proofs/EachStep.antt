-- What holds after each step of a network, by what the step does there.
use Rattle.oca_pair.proofs.Words.{◌≡◌, ℕ, Bool, true, false, cond, List, ◌∷◌, Option, Some, None, refl, slice_get, Peer, LocalChange, Request, Network, PeerLink, SentDatagram, Step, Submit, Due}
use Rattle.oca_pair.proofs.Words.{ToDevice, ToLink, Other, Take, Renew, Beside, has_link, with_link, after_submit, after_due_step, after_delivery, after_reception, after_take, is_no_lower, renewal_of}
use Rattle.oca_pair.proofs.Words.{renewed_link, after_renewal, after_beside, after_step}
use Rattle.oca_device.specs.Events as event
use Rattle.oca_pair.specs.Steps as steps

-- the link of the number is renewed
abbrev pub renewed_at : ℕ → ℕ → ℕ → ℕ → ℕ → PeerLink → Network → Network
renewed_at i first span now origin l n = record n { links = with_link i l (renewed_link first span now l.link) n.links; renewed = renewal_of l origin ∷ n.renewed }

-- A claim on a step and the network after it, where the step does nothing, and where it does something.
pub record Cases (P : Step → Network → Type 0) (n : Network) : Type 0 where
  pub stays : (step : Step) → P step n
  pub submits : (i : ℕ) (r : Request) (now : ℕ) (l : PeerLink) → slice_get n.links i ≡ Some l → P (Submit i r now) (after_submit i r now (Some l) n)
  pub asks : (i now : ℕ) (l : PeerLink) → slice_get n.links i ≡ Some l → P (Due i now) (after_due_step i now (Some l) n)
  pub delivers : (k now : ℕ) (d : SentDatagram) → slice_get n.to_device k ≡ Some d → P (ToDevice k now) (after_delivery now (Some d) n)
  pub receives : (k now : ℕ) (d : SentDatagram) → slice_get n.to_links k ≡ Some d → P (ToLink k now) (after_reception now (Some d) n)
  pub hears : (from : Peer) (bytes : List ℕ) (now : ℕ) → has_link from n.links ≡ false → P (Other from bytes now) (record n { events = event.Datagram from bytes now ∷ n.events })
  pub ticks : (now : ℕ) → P (steps.Tick now) (record n { events = event.Tick now ∷ n.events })
  pub changes : (ono : ℕ) (change : LocalChange) → P (steps.Local ono change) (record n { events = event.Local ono change ∷ n.events })
  pub takes : (i h : ℕ) (l : PeerLink) → slice_get n.links i ≡ Some l → P (Take i h) (after_take i h (Some l) n)
  pub renews : (i first span now origin : ℕ) (l : PeerLink) → slice_get n.links i ≡ Some l → P (Renew i first span now origin) (renewed_at i first span now origin l n)
  pub keeps_alive : (i now : ℕ) (l : PeerLink) → slice_get n.links i ≡ Some l → P (Beside i now) (after_beside (Some l) n)

pub after_each : (P : Step → Network → Type 0) (n : Network) → Cases P n → (step : Step) → P step (after_step step n)
after_each P n c step = one step
  where
    on_link : (step : Step) (i : ℕ) (after : Option PeerLink → Network) → P step (after None) → ((l : PeerLink) → slice_get n.links i ≡ Some l → P step (after (Some l))) → P step (after (slice_get n.links i))
    on_link step i after none some = by (slice_get n.links i) refl
      where
        by : (o : Option PeerLink) → slice_get n.links i ≡ o → P step (after o)
        by None e = none
        by (Some l) e = some l e

    on_datagram : (step : Step) (k : ℕ) (sent : List SentDatagram) (after : Option SentDatagram → Network) → P step (after None) → ((d : SentDatagram) → slice_get sent k ≡ Some d → P step (after (Some d))) → P step (after (slice_get sent k))
    on_datagram step k sent after none some = by (slice_get sent k) refl
      where
        by : (o : Option SentDatagram) → slice_get sent k ≡ o → P step (after o)
        by None e = none
        by (Some d) e = some d e

    on_test : (step : Step) (m o : Network) (b : Bool) → (b ≡ true → P step m) → (b ≡ false → P step o) → P step (cond b m o)
    on_test step m o true at_true at_false = at_true refl
    on_test step m o false at_true at_false = at_false refl

    one : (step : Step) → P step (after_step step n)
    one (Submit i r now) = on_link (Submit i r now) i (λ o. after_submit i r now o n) (c.stays (Submit i r now)) (c.submits i r now)
    one (Due i now) = on_link (Due i now) i (λ o. after_due_step i now o n) (c.stays (Due i now)) (c.asks i now)
    one (ToDevice k now) = on_datagram (ToDevice k now) k n.to_device (λ o. after_delivery now o n) (c.stays (ToDevice k now)) (c.delivers k now)
    one (ToLink k now) = on_datagram (ToLink k now) k n.to_links (λ o. after_reception now o n) (c.stays (ToLink k now)) (c.receives k now)
    one (Other from bytes now) =
        on_test (Other from bytes now) n (record n { events = event.Datagram from bytes now ∷ n.events }) (has_link from n.links) (λ q. c.stays (Other from bytes now)) (c.hears from bytes now)
    one (steps.Tick now) = c.ticks now
    one (steps.Local ono change) = c.changes ono change
    one (Take i h) = on_link (Take i h) i (λ o. after_take i h o n) (c.stays (Take i h)) (c.takes i h)
    one (Renew i first span now origin) =
        on_link (Renew i first span now origin) i (λ o. after_renewal i first span now origin o n) (c.stays (Renew i first span now origin))
        (λ l e. on_test (Renew i first span now origin) (renewed_at i first span now origin l n) n (is_no_lower first l.link.next) (λ q. c.renews i first span now origin l e) (λ q. c.stays (Renew i first span now origin)))
    one (Beside i now) = on_link (Beside i now) i (λ o. after_beside o n) (c.stays (Beside i now)) (c.keeps_alive i now)
