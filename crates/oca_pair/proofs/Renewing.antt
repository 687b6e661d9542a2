-- A link is renewed: what of it was true stays true, since its handles rise.
use Rattle.oca_pair.proofs.Words.{◌≡◌, ℕ, ◌^◌, ◌<◌, ◌≤◌, Bool, true, false, cond, List, [], ◌∷◌, ◌++◌, Option, Some, None, refl, sym, ap, ◌∙◌, arith, suc, ◌||◌, filter, AllByRecursion, list_any}
use Rattle.oca_pair.proofs.Words.{slice_get, leb-true, or_parts, Peer, same_peer, Untaken, Network, PeerLink, SentDatagram, TakenAnswer, Renewal, times_renewed, left_by, Step, Submit, Due, ToDevice}
use Rattle.oca_pair.proofs.Words.{ToLink, Other, Take, Renew, Beside, is_no_lower, renewal_of, after_renewal, after_step, after_steps, AreIncreasing, IsNoRenewal, RenewsNothing, each_map, end_of}
use Rattle.std.specs.Prelude.{length}
use Rattle.oca_pair.specs.Steps as steps
use Rattle.oca_pair.proofs.EachStep.{after_each, renewed_at}
use Rattle.oca_pair.proofs.Lists.{same_of, other_is, differs}
use Rattle.oca_pair.proofs.Truths.{Past}
use Rattle.oca_pair.proofs.Fair.{Fair}

-- ---- handles

pub above_next : (first : ℕ) (next : Option ℕ) → is_no_lower first next ≡ true → end_of next ≤ first
above_next first None e = cc
above_next first (Some h) e = leb-true h first e

below_more : (x a b : ℕ) → a ≤ b → x < a → x < b
below_more x a b q k = omega arith

rising_up : (xs : List ℕ) (h k : ℕ) → h ≤ k → AreIncreasing (xs ++ h ∷ []) → AreIncreasing (xs ++ k ∷ [])
rising_up [] h k le a = tt
rising_up (x ∷ []) h k le a = (below_more x h k le a.0, tt)
rising_up (x ∷ y ∷ xs) h k le a = (a.0, rising_up (y ∷ xs) h k le a.1)

pub fair_renewed : (p : Peer) (first : ℕ) (next : Option ℕ) (us : List Untaken) (g : Past) (out back : List SentDatagram) (handed : List TakenAnswer) → first < 2 ^ 32 → end_of next ≤ first →
    Fair p next us g out back handed → Fair p (Some first) [] g out back handed
fair_renewed p first next us g out back handed low above f = record {
  fits = low;
  own = f.own;
  outgoing = f.outgoing;
  incoming = f.incoming;
  untaken = tt;
  was_taken = f.was_taken;
  sendable = each_map (λ x a same. ((a same).0, below_more x.command.handle (end_of next) first above (a same).1)) g.submitted f.sendable;
  unique = f.unique;
  rising = rising_up _ (end_of next) first above f.rising;
}

-- ---- who was renewed

-- the link of this peer is renewed now
pub now_renewed : (p q : Peer) (b : Bool) → q ≡ p → (same_peer q p || b) ≡ false → ⊥
now_renewed p q b same e = differs (sym (same_of q p same) ∙ (or_parts (same_peer q p) b e).0)

pub other_renewed : (p q : Peer) (b : Bool) → (same_peer q p || b) ≡ false → b ≡ false
other_renewed p q b e = (or_parts (same_peer q p) b e).1

-- what is no renewal renews nothing
pub renews_nothing : (step : Step) (n : Network) → IsNoRenewal step → (after_step step n).renewed ≡ n.renewed
renews_nothing step n none = after_each (λ e m. IsNoRenewal e → m.renewed ≡ n.renewed) n (record {
  stays = λ _ _. refl;
  submits = λ _ _ _ _ _ _. refl;
  asks = λ _ _ _ _ _. refl;
  delivers = λ _ _ _ _ _. refl;
  receives = λ _ _ _ _ _. refl;
  hears = λ _ _ _ _ _. refl;
  ticks = λ _ _. refl;
  changes = λ _ _ _. refl;
  takes = λ _ _ _ _ _. refl;
  renews = λ _ _ _ _ _ _ _ none. absurd none;
  keeps_alive = λ _ _ _ _ _. refl;
}) step none

pub renew_nothing : (es : List Step) (n : Network) → AllByRecursion IsNoRenewal es → (after_steps es n).renewed ≡ n.renewed
renew_nothing [] n none = refl
renew_nothing (x ∷ es) n none = renew_nothing es (after_step x n) none.1 ∙ renews_nothing x n none.0

-- a claim on each step: where it is no renewal, where it leaves the network as it is, and where it renews a link
pub by_renewal : (P : Step → Network → Type 0) (n : Network) → ((step : Step) → IsNoRenewal step → P step (after_step step n)) → ((step : Step) → P step n) →
    ((i first span now origin : ℕ) (l : PeerLink) → slice_get n.links i ≡ Some l → P (Renew i first span now origin) (renewed_at i first span now origin l n)) → (step : Step) → P step (after_step step n)
by_renewal P n other stays renews step = one step
  where
    one : (step : Step) → P step (after_step step n)
    one (Submit k r now) = other (Submit k r now) tt
    one (Due k now) = other (Due k now) tt
    one (ToDevice k now) = other (ToDevice k now) tt
    one (ToLink k now) = other (ToLink k now) tt
    one (Other from bytes now) = other (Other from bytes now) tt
    one (steps.Tick now) = other (steps.Tick now) tt
    one (steps.Local ono change) = other (steps.Local ono change) tt
    one (Take k h) = other (Take k h) tt
    one (Renew k first span now origin) = renewal (slice_get n.links k) refl
      where
        on_test : (b : Bool) (m : Network) → P (Renew k first span now origin) m → P (Renew k first span now origin) (cond b m n)
        on_test true m is = is
        on_test false m is = stays (Renew k first span now origin)

        renewal : (o : Option PeerLink) → slice_get n.links k ≡ o → P (Renew k first span now origin) (after_renewal k first span now origin o n)
        renewal None e = stays (Renew k first span now origin)
        renewal (Some l) e = on_test (is_no_lower first l.link.next) (renewed_at k first span now origin l n) (renews k first span now origin l e)
    one (Beside k now) = other (Beside k now) tt

-- how often a link was renewed never falls
no_fewer_step : (p : Peer) (step : Step) (n : Network) → times_renewed p n ≤ times_renewed p (after_step step n)
no_fewer_step p step n = by_renewal (λ e m. times_renewed p n ≤ times_renewed p m) n (λ e none. rw (renews_nothing e n none) (omega arith)) (λ _. omega arith)
    (λ _ _ _ _ origin l _. longer (same_peer l.peer p) (renewal_of l origin) (filter (λ (x : Renewal). same_peer x.peer p) n.renewed)) step
  where
    longer : (b : Bool) (x : Renewal) (rs : List Renewal) → length rs ≤ length (cond b (x ∷ rs) rs)
    longer true x rs = omega arith
    longer false x rs = omega arith

no_fewer : (p : Peer) (es : List Step) (n : Network) → times_renewed p n ≤ times_renewed p (after_steps es n)
no_fewer p [] n = omega arith
no_fewer p (x ∷ es) n = let first : times_renewed p n ≤ times_renewed p (after_step x n) = no_fewer_step p x n in
    let rest : times_renewed p (after_step x n) ≤ times_renewed p (after_steps es (after_step x n)) = no_fewer p es (after_step x n) in
    omega arith

-- what renews nothing in some steps renews nothing in the first of them, nor in the others
pub nothing_in_parts : (p : Peer) (step : Step) (es : List Step) (n : Network) → RenewsNothing p n (after_steps (step ∷ es) n) →
    RenewsNothing p n (after_step step n) × RenewsNothing p (after_step step n) (after_steps es (after_step step n))
nothing_in_parts p step es n e =
    let first : times_renewed p n ≤ times_renewed p (after_step step n) = no_fewer_step p step n in
    let rest : times_renewed p (after_step step n) ≤ times_renewed p (after_steps es (after_step step n)) = no_fewer p es (after_step step n) in
    (omega arith, omega arith)

-- a link that is renewed is another peer's where this one's is not
pub not_its_renewal : (p q : Peer) (x : Renewal) (rs : List Renewal) → x.peer ≡ q → length (filter (λ (x : Renewal). same_peer x.peer p) (x ∷ rs)) ≡ length (filter (λ (x : Renewal). same_peer x.peer p) rs) → q ≡ p → ⊥
not_its_renewal p q x rs is e same = contra (length (filter (λ (x : Renewal). same_peer x.peer p) rs))
    (sym (ap (λ b. length (cond b (x ∷ filter (λ (x : Renewal). same_peer x.peer p) rs) (filter (λ (x : Renewal). same_peer x.peer p) rs))) (same_of x.peer p (is ∙ same))) ∙ e)
  where
    contra : (n : ℕ) → suc n ≡ n → ⊥
    contra n e = omega arith

-- and what is asked of the renewals of its peer stays so
same_step : {X : Type 0} (p : Peer) (f : List Renewal → X) → ((x : Renewal) (rs : List Renewal) → same_peer x.peer p ≡ false → f (x ∷ rs) ≡ f rs) → (step : Step) (n : Network) → RenewsNothing p n (after_step step n) →
    f (after_step step n).renewed ≡ f n.renewed
same_step p f skips step n never = by_renewal (λ _ m. RenewsNothing p n m → f m.renewed ≡ f n.renewed) n (λ e none _. ap f (renews_nothing e n none)) (λ _ _. refl)
    (λ _ _ _ _ origin l _ never. skips (renewal_of l origin) n.renewed (other_is l.peer p (not_its_renewal p l.peer (renewal_of l origin) n.renewed refl never))) step never

pub same_renewals : {X : Type 0} (p : Peer) (f : List Renewal → X) → ((x : Renewal) (rs : List Renewal) → same_peer x.peer p ≡ false → f (x ∷ rs) ≡ f rs) → (es : List Step) (n : Network) → RenewsNothing p n (after_steps es n) →
    f (after_steps es n).renewed ≡ f n.renewed
same_renewals p f skips [] n never = refl
same_renewals p f skips (x ∷ es) n never = let parts = nothing_in_parts p x es n never in same_renewals p f skips es (after_step x n) parts.1 ∙ same_step p f skips x n parts.0

-- nothing more is left behind
pub left_steps : (p : Peer) (es : List Step) (n : Network) → RenewsNothing p n (after_steps es n) → left_by (after_steps es n).renewed p ≡ left_by n.renewed p
left_steps p es n never = same_renewals p (λ rs. left_by rs p) (λ x rs other. ap (λ b. cond b (x.left ++ left_by rs p) (left_by rs p)) other) es n never

-- who was never renewed left nothing behind
pub nothing_left : (p : Peer) (rs : List Renewal) → list_any (λ x. same_peer x.peer p) rs ≡ false → left_by rs p ≡ []
nothing_left p [] e = refl
nothing_left p (x ∷ rs) e =
    let parts = or_parts (same_peer x.peer p) (list_any (λ (x : Renewal). same_peer x.peer p) rs) e in
    ap (λ b. cond b (x.left ++ left_by rs p) (left_by rs p)) parts.0 ∙ nothing_left p rs parts.1
