-- What no step of a network changes: the sizes of the device, its tree at first, and whose link is which.
use Rattle.oca_pair.proofs.Words.{◌≡◌, ℕ, List, [], ◌∷◌, Option, Some, refl, sym, ap, ◌∙◌, zero, suc, map, slice_get, slice_set, option_map, slice_get-map, same_Some, Peer, DeviceSizes, Object}
use Rattle.oca_pair.proofs.Words.{Network, PeerLink, SentDatagram, Step, hears_datagram, after_step, after_steps}
use Rattle.oca_pair.proofs.EachStep.{after_each}
use Rattle.oca_pair.proofs.Lists.{mapped_at}
use Rattle.oca_pair.proofs.Networks.{hears_peer}

abbrev fixed : Network → DeviceSizes × List Object
fixed n = (n.sizes, n.tree)

fixed_kept : (es : List Step) (n : Network) → fixed (after_steps es n) ≡ fixed n
fixed_kept [] n = refl
fixed_kept (step ∷ es) n = fixed_kept es (after_step step n) ∙ after_each (λ _ m. fixed m ≡ fixed n) n (record {
  stays = λ _. refl;
  submits = λ _ _ _ _ _. refl;
  asks = λ _ _ _ _. refl;
  delivers = λ _ _ _ _. refl;
  receives = λ _ _ _ _. refl;
  hears = λ _ _ _ _. refl;
  ticks = λ _. refl;
  changes = λ _ _. refl;
  takes = λ _ _ _ _. refl;
  renews = λ _ _ _ _ _ _ _. refl;
  keeps_alive = λ _ _ _ _. refl;
}) step

pub sizes_kept : (es : List Step) (n : Network) → (after_steps es n).sizes ≡ n.sizes
sizes_kept es n = ap (λ (f : DeviceSizes × List Object). f.0) (fixed_kept es n)

pub tree_kept : (es : List Step) (n : Network) → (after_steps es n).tree ≡ n.tree
tree_kept es n = ap (λ (f : DeviceSizes × List Object). f.1) (fixed_kept es n)

-- ---- the peers of links stay

abbrev pub peers_of : List PeerLink → List Peer
peers_of links = map (λ (z : PeerLink). z.peer) links

peers_put : (xs : List PeerLink) (k : ℕ) (l y : PeerLink) → slice_get xs k ≡ Some l → y.peer ≡ l.peer → peers_of (slice_set xs k y) ≡ peers_of xs
peers_put [] k l y e s = refl
peers_put (x ∷ xs) zero l y e s = let same : x ≡ l = same_Some x l e in ap (λ (p : Peer). p ∷ peers_of xs) (s ∙ ap (λ (z : PeerLink). z.peer) (sym same))
peers_put (x ∷ xs) (suc k) l y e s = ap (λ (ps : List Peer). x.peer ∷ ps) (peers_put xs k l y e s)

peers_hear : (from : Peer) (d : SentDatagram) (now : ℕ) (xs : List PeerLink) → peers_of (map (hears_datagram from d now) xs) ≡ peers_of xs
peers_hear from d now [] = refl
peers_hear from d now (x ∷ xs) =
    ap (λ (p : Peer). p ∷ peers_of (map (hears_datagram from d now) xs)) (hears_peer from d now x) ∙ ap (λ (ps : List Peer). x.peer ∷ ps) (peers_hear from d now xs)

pub peers_step : (step : Step) (n : Network) → peers_of (after_step step n).links ≡ peers_of n.links
peers_step step n = after_each (λ _ m. peers_of m.links ≡ peers_of n.links) n (record {
  stays = λ _. refl;
  submits = λ k r now l e. peers_put n.links k l _ e refl;
  asks = λ k now l e. peers_put n.links k l _ e refl;
  delivers = λ _ _ _ _. refl;
  receives = λ _ now d _. peers_hear n.address d now n.links;
  hears = λ _ _ _ _. refl;
  ticks = λ _. refl;
  changes = λ _ _. refl;
  takes = λ k h l e. peers_put n.links k l _ e refl;
  renews = λ k _ _ _ _ l e. peers_put n.links k l _ e refl;
  keeps_alive = λ _ _ _ _. refl;
}) step

pub peers_steps : (es : List Step) (n : Network) → peers_of (after_steps es n).links ≡ peers_of n.links
peers_steps [] n = refl
peers_steps (e ∷ es) n = peers_steps es (after_step e n) ∙ peers_step e n

-- the link of a number after some steps is that of a peer before them
pub link_before : (i : ℕ) (n m : Network) (l : PeerLink) → peers_of m.links ≡ peers_of n.links → slice_get m.links i ≡ Some l → (z : PeerLink) × (slice_get n.links i ≡ Some z) × (z.peer ≡ l.peer)
link_before i n m l same own =
    mapped_at (λ (z : PeerLink). z.peer) n.links i l.peer
    (ap (λ (ps : List Peer). slice_get ps i) (sym same) ∙ slice_get-map (λ (z : PeerLink). z.peer) m.links i ∙ ap (λ (o : Option PeerLink). option_map (λ (z : PeerLink). z.peer) o) own)
