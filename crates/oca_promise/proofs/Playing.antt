-- What holds where a schedule plays what was done with a link.
use Rattle.oca_pair.proofs.Words.{same_self, on_bool}
use Rattle.std.proofs.Common.{◌≡◌, ℕ, Bool, true, List, [], ◌∷◌, ◌++◌, Option, Some, Result, Ok, refl, sym, ap, ◌∙◌, subst, zero, suc, inl, inr}
use Rattle.std.specs.Prelude.{if◌then◌else◌, map}
use Rattle.std.specs.List.{slice_get}
use Rattle.oca_promise.specs.Words.{AnswerFields, ControlFault, Due, Handle, LinkState, Network, PanelState, Peer}
use Rattle.oca_promise.specs.Words.{Renew, Request, Step, Submit, Take, ToLink, after_step, after_steps, content_read}
use Rattle.oca_promise.specs.Words.{gone_on, outcome_of_step, received, submission, submitted, taken}
use Rattle.std.specs.List.{slice_set}
use Rattle.std.proofs.lemmas.Bool.{le-leb}
use Rattle.oca_types.specs.Peers.{same_peer}
use Rattle.oca_control.specs.Untaken.{answer_under}
use Rattle.oca_control.specs.Links.{GivesKeepAlive, due_bytes}
use Rattle.oca_pair.specs.Networks.{PeerLink, SentDatagram, TakenAnswer}
use Rattle.oca_pair.specs.declared.outcome.Outcome.TheVariants as outcomes
use Rattle.oca_pair.specs.Steps.{hears_datagram, after_submit, after_due_step, after_reception, taken_by, after_take, on_link, submit_outcome, after_beside, with_link, is_no_lower, renewal_of, renewed_link, after_renewal}
use Rattle.oca_pair.specs.InTime.{leaving_beside}
use Rattle.oca_pair.proofs.EachStep.{after_each}
use Rattle.oca_pair.proofs.Lists.{IsIn, in_more, in_last, each_at}
use Rattle.oca_pair.proofs.RoundTrip.{AreToDevice, to_device_step}
use Rattle.oca_promise.specs.Renewals.{EveryRenewalIsAStep, EveryKeepAliveIsAStep, EveryCallBesideIsAStep}
use Rattle.oca_promise.specs.Doings.{Doing, Submits, Sends, Hears, Takes, done, all_done, IsStepFor, GoesOnWith, Plays}

-- the link of this number is the peer's, and in this state
abbrev pub IsLinkOf : ℕ → Peer → LinkState → Network → Type 0
IsLinkOf i p l n = slice_get n.links i ≡ Some (record { peer = p; link = l })

-- ---- one step

pub set_there : {X : Type 0} (xs : List X) (i : ℕ) (x y : X) → slice_get xs i ≡ Some x → slice_get (slice_set xs i y) i ≡ Some y
set_there [] i x y e = cc
set_there (z ∷ zs) zero x y e = refl
set_there (z ∷ zs) (suc i) x y e = set_there zs i x y e

map_there : {X : Type 0} (f : X → X) (xs : List X) (i : ℕ) (x : X) → slice_get xs i ≡ Some x → slice_get (map f xs) i ≡ Some (f x)
map_there f [] i x e = cc
map_there f (z ∷ zs) zero x e = let same : z ≡ x = cc in ap (λ y. Some (f y)) same
map_there f (z ∷ zs) (suc i) x e = map_there f zs i x e

-- after a submit, a due and a take at the link, and a datagram for it
pub submit_there : (i : ℕ) (p : Peer) (l : LinkState) (request : Request) (now : ℕ) (n : Network) → IsLinkOf i p l n → IsLinkOf i p (submitted request now l) (after_step (Submit i request now) n)
submit_there i p l request now n e =
    let x : PeerLink = record { peer = p; link = l } in
    ap (λ (o : Option PeerLink). slice_get (after_submit i request now o n).links i) e ∙ set_there n.links i x (record { peer = p; link = submitted request now l }) e

send_there : (i : ℕ) (p : Peer) (l : LinkState) (now : ℕ) (n : Network) → IsLinkOf i p l n → IsLinkOf i p (gone_on now l) (after_step (Due i now) n)
send_there i p l now n e =
    let x : PeerLink = record { peer = p; link = l } in
    ap (λ (o : Option PeerLink). slice_get (after_due_step i now o n).links i) e ∙ set_there n.links i x (record { peer = p; link = gone_on now l }) e

take_there : (i : ℕ) (p : Peer) (l : LinkState) (h : ℕ) (n : Network) → IsLinkOf i p l n → IsLinkOf i p (taken h l) (after_step (Take i h) n)
take_there i p l h n e =
    let x : PeerLink = record { peer = p; link = l } in
    ap (λ (o : Option PeerLink). slice_get (after_take i h o n).links i) e ∙ set_there n.links i x (record { peer = p; link = taken h l }) e

pub renew_there : (i : ℕ) (p : Peer) (l : LinkState) (first span now origin : ℕ) (n : Network) → is_no_lower first l.next ≡ true → IsLinkOf i p l n → IsLinkOf i p (renewed_link first span now l) (after_step (Renew i first span now origin) n)
renew_there i p l first span now origin n above e =
    let x : PeerLink = record { peer = p; link = l } in
    let m : Network = record n { links = with_link i x (renewed_link first span now l) n.links; renewed = renewal_of x origin ∷ n.renewed } in
    ap (λ (o : Option PeerLink). slice_get (after_renewal i first span now origin o n).links i) e
    ∙ ap (λ (b : Bool). let y : Network = if b then m else n in slice_get y.links i) above
    ∙ set_there n.links i x (record { peer = p; link = renewed_link first span now l }) e

-- so a renewed panel's link is that of its number
pub renewals_are_steps : EveryRenewalIsAStep
renewals_are_steps first span old new renewed n i p origin next is above e =
    renew_there i p old.link first span renewed.now origin n (ap (is_no_lower first) is ∙ le-leb next first above) e
    ∙ ap (λ (s : PanelState). let y : PeerLink = record { peer = p; link = s.link } in Some y) (sym renewed.panel)

-- a keep-alive for the device of a link is sent beside it
pub keep_alives_are_steps : EveryKeepAliveIsAStep
keep_alives_are_steps before between l n i now p keeps e =
    record {
      bytes = due_bytes GivesKeepAlive;
      taken = keeps.0;
      given = keeps.1;
      sent = ap (λ (o : Option PeerLink). (after_beside o n).to_device) e;
      leaves = λ s. ap (λ (o : Option PeerLink). leaving_beside s n now o) e;
      link = ap (λ (o : Option PeerLink). slice_get (after_beside o n).links i) e ∙ e;
    }

-- and so it is where a panel does
pub calls_beside_are_steps : EveryCallBesideIsAStep
calls_beside_are_steps heard old new calls n i now p e =
    (keep_alives_are_steps old.end_state calls.between old.link n i now p calls.keeps e, ap (λ (s : PanelState). s.link) calls.same)

heard_there : (from p : Peer) (bytes : List ℕ) (now : ℕ) (l : LinkState) → hears_datagram from (record { peer = p; bytes = bytes }) now (record { peer = p; link = l }) ≡ record { peer = p; link = received from (content_read bytes) now l }
heard_there from p bytes now l =
    on_bool (same_peer p p) (λ b. b ≡ true → (let y : PeerLink = if b then record { peer = p; link = received from (content_read bytes) now l } else record { peer = p; link = l } in y) ≡ record { peer = p; link = received from (content_read bytes) now l })
    (λ e. refl) (λ e. cc) (same_self p)

hear_there : (i k : ℕ) (p : Peer) (l : LinkState) (bytes : List ℕ) (now : ℕ) (n : Network) → AreToDevice n → slice_get n.to_links k ≡ Some (record { peer = p; bytes = bytes }) → IsLinkOf i p l n →
    IsLinkOf i p (received l.device (content_read bytes) now l) (after_step (ToLink k now) n)
hear_there i k p l bytes now n to sent e =
    let d : SentDatagram = record { peer = p; bytes = bytes } in
    let x : PeerLink = record { peer = p; link = l } in
    ap (λ (o : Option SentDatagram). slice_get (after_reception now o n).links i) sent
    ∙ map_there (hears_datagram n.address d now) n.links i x e
    ∙ ap (λ (y : PeerLink). Some y) (heard_there n.address p bytes now l)
    ∙ ap (λ (q : Peer). let y : PeerLink = record { peer = p; link = received q (content_read bytes) now l } in Some y)
    (sym (each_at (λ (y : PeerLink). y.link.device ≡ n.address) n.links i x to e))

-- ---- the link after a schedule

step_there : (i : ℕ) (p : Peer) (l : LinkState) (n : Network) (x : Doing) (step : Step) → AreToDevice n → IsLinkOf i p l n → IsStepFor i p n x step → IsLinkOf i p (done x l) (after_step step n)
step_there i p l n (Submits request now) step to is e = rw e (submit_there i p l request now n is)
step_there i p l n (Sends now) step to is e = rw e (send_there i p l now n is)
step_there i p l n (Hears bytes now) step to is (k, e, sent) = rw e (hear_there i k p l bytes now n to sent is)
step_there i p l n (Takes h) step to is e = rw e (take_there i p l h n is)

-- the link after a step that goes on, and what is still to be done
went_on : (i : ℕ) (p : Peer) (l : LinkState) (n : Network) (step : Step) (doings rest : List Doing) → AreToDevice n → IsLinkOf i p l n → GoesOnWith i p n step doings rest →
    (m : LinkState) × IsLinkOf i p m (after_step step n) × (all_done doings l ≡ all_done rest m)
unfolding all_done
went_on i p l n step doings rest to is (inl (e, same)) = (l, same ∙ is, ap (λ (zs : List Doing). all_done zs l) (sym e))
went_on i p l n step doings rest to is (inr (x, e, by_step)) = (done x l, step_there i p l n x step to is by_step, ap (λ (zs : List Doing). all_done zs l) e)

pub played_link : (i : ℕ) (p : Peer) (steps : List Step) (l : LinkState) (n : Network) (doings : List Doing) → AreToDevice n → IsLinkOf i p l n → Plays i p n doings steps → IsLinkOf i p (all_done doings l) (after_steps steps n)
unfolding all_done Plays
played_link i p [] l n doings to is plays = is ∙ ap (λ (zs : List Doing). let y : PeerLink = record { peer = p; link = all_done zs l } in Some y) (sym plays)
played_link i p (step ∷ steps) l n doings to is (rest, goes, plays) =
    let x = went_on i p l n step doings rest to is goes in
    played_link i p steps x.0 (after_step step n) rest (to_device_step step n to) x.1 plays ∙ ap (λ (z : LinkState). let y : PeerLink = record { peer = p; link = z } in Some y) (sym x.2)

-- ---- a command is submitted in a schedule

-- The steps up to a submit leave the link, and what is done behind it is played behind it.
pub record SubmitsAfter (i : ℕ) (p : Peer) (l : LinkState) (request : Request) (now : ℕ) (rest : List Doing) (steps : List Step) (n : Network) : Type 0 where
  pub first : List Step
  pub later : List Step
  pub steps_are : steps ≡ first ++ Submit i request now ∷ later
  pub link : IsLinkOf i p l (after_steps first n)
  pub plays : Plays i p (after_step (Submit i request now) (after_steps first n)) rest later

first_is : (x y : Doing) (xs ys : List Doing) → x ∷ xs ≡ y ∷ ys → (x ≡ y) × (xs ≡ ys)
first_is x y xs ys e = (cc, cc)

pub played_submit : (i : ℕ) (p : Peer) (request : Request) (now : ℕ) (rest : List Doing) (steps : List Step) (l : LinkState) (n : Network) → IsLinkOf i p l n → Plays i p n (Submits request now ∷ rest) steps → SubmitsAfter i p l request now rest steps n
unfolding Plays
played_submit i p request now rest [] l n is plays = cc
played_submit i p request now rest (step ∷ steps) l n is (left, inl (e, same), plays) =
    let x = played_submit i p request now rest steps l (after_step step n) (same ∙ is) (subst (λ (zs : List Doing). Plays i p (after_step step n) zs steps) e plays) in
    record { first = step ∷ x.first; later = x.later; steps_are = ap (λ zs. step ∷ zs) x.steps_are; link = x.link; plays = x.plays }
played_submit i p request now rest (step ∷ steps) l n is (left, inr (x, e, by_step), plays) =
    let same = first_is (Submits request now) x rest left e in
    let step_is : step ≡ Submit i request now = subst (λ (z : Doing). IsStepFor i p n z step) (sym same.0) by_step in
    record {
      first = [];
      later = steps;
      steps_are = ap (λ z. z ∷ steps) step_is;
      link = is;
      plays = subst (λ (z : Step). Plays i p (after_step z n) rest steps) step_is (subst (λ (zs : List Doing). Plays i p (after_step step n) zs steps) (sym same.1) plays);
    }

-- ---- an answer is taken in a schedule

abbrev pub HasTaken : Peer → ℕ → AnswerFields → Network → Type 0
HasTaken p h a n = let it : TakenAnswer = record { peer = p; handle = h; answer = a } in IsIn it n.taken

-- what was taken stays so
taken_stays : (p : Peer) (h : ℕ) (a : AnswerFields) (step : Step) (n : Network) → HasTaken p h a n → HasTaken p h a (after_step step n)
taken_stays p h a step n is = after_each (λ _ m. HasTaken p h a m) n (record {
  stays = λ _. is;
  submits = λ _ _ _ _ _. is;
  asks = λ _ _ _ _. is;
  delivers = λ _ _ _ _. is;
  receives = λ _ _ _ _. is;
  hears = λ _ _ _ _. is;
  ticks = λ _. is;
  changes = λ _ _. is;
  takes = λ _ k l _. in_more _ n.taken (taken_by l.peer k (answer_under k l.link.untaken)) is;
  renews = λ _ _ _ _ _ _ _. is;
  keeps_alive = λ _ _ _ _. is;
}) step

taken_stays_on : (p : Peer) (h : ℕ) (a : AnswerFields) (steps : List Step) (n : Network) → HasTaken p h a n → HasTaken p h a (after_steps steps n)
taken_stays_on p h a [] n is = is
taken_stays_on p h a (step ∷ steps) n is = taken_stays_on p h a steps (after_step step n) (taken_stays p h a step n is)

taken_now : (i : ℕ) (p : Peer) (l : LinkState) (h : ℕ) (a : AnswerFields) (n : Network) → IsLinkOf i p l n → answer_under h l.untaken ≡ Some a → HasTaken p h a (after_step (Take i h) n)
taken_now i p l h a n is held =
    let it : TakenAnswer = record { peer = p; handle = h; answer = a } in
    let with_it : (after_step (Take i h) n).taken ≡ n.taken ++ it ∷ [] = ap (λ (o : Option PeerLink). (after_take i h o n).taken) is ∙ ap (λ (o : Option AnswerFields). n.taken ++ taken_by p h o) held in
    subst (λ (zs : List TakenAnswer). IsIn it zs) (sym with_it) (in_last it n.taken)

pub played_take : (i : ℕ) (p : Peer) (h : ℕ) (a : AnswerFields) (steps : List Step) (xs : List Doing) (l : LinkState) (n : Network) (doings : List Doing) → doings ≡ xs ++ Takes h ∷ [] → AreToDevice n → IsLinkOf i p l n →
    answer_under h (all_done xs l).untaken ≡ Some a → Plays i p n doings steps → HasTaken p h a (after_steps steps n)
unfolding Plays all_done
played_take i p h a [] [] l n doings e to is held plays = cc
played_take i p h a [] (x ∷ xs) l n doings e to is held plays = cc
played_take i p h a (step ∷ steps) xs l n doings e to is held (rest, inl (same, kept), plays) =
    played_take i p h a steps xs l (after_step step n) rest (same ∙ e) (to_device_step step n to) (kept ∙ is) held plays
played_take i p h a (step ∷ steps) [] l n doings e to is held (rest, inr (x, first, by_step), plays) =
    let same = first_is x (Takes h) rest [] (sym first ∙ e) in
    let step_is : step ≡ Take i h = subst (λ (z : Doing). IsStepFor i p n z step) same.0 by_step in
    taken_stays_on p h a steps (after_step step n) (subst (λ (z : Step). HasTaken p h a (after_step z n)) (sym step_is) (taken_now i p l h a n is held))
played_take i p h a (step ∷ steps) (y ∷ ys) l n doings e to is held (rest, inr (x, first, by_step), plays) =
    let same = first_is x y rest (ys ++ Takes h ∷ []) (sym first ∙ e) in
    played_take i p h a steps ys (done y l) (after_step step n) rest same.1 (to_device_step step n to) (step_there i p l n y step to is (subst (λ (z : Doing). IsStepFor i p n z step) same.0 by_step)) held plays

-- ---- the whole

pub after_both : (xs ys : List Step) (n : Network) → after_steps (xs ++ ys) n ≡ after_steps ys (after_steps xs n)
after_both [] ys n = refl
after_both (x ∷ xs) ys n = after_both xs ys (after_step x n)

pub submit_outcome_is : (i : ℕ) (p : Peer) (l : LinkState) (request : Request) (now : ℕ) (h : Handle) (n : Network) → IsLinkOf i p l n → submission request l ≡ Ok h → outcome_of_step (Submit i request now) n ≡ outcomes.Submitted h ∷ []
submit_outcome_is i p l request now h n is ok =
    ap (λ (o : Option PeerLink). on_link (λ (y : PeerLink). submit_outcome (submission request y.link)) o) is
    ∙ ap (λ (r : Result Handle ControlFault). submit_outcome r ∷ []) ok
