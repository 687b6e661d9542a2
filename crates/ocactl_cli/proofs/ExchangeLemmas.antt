-- The outcomes of commands, and their text.
use Rattle.std.proofs.Common.{◌≡◌, ◌⊎◌, Bool, ℕ, ◌+◌, ◌-◌, ◌<◌, ◌≤◌, true, false, List, [], ◌∷◌, ◌++◌, length, Result, Ok, Err, refl, sym, ap, ◌∙◌, subst, arith, append-nil, append_assoc, inl, inr}
use Rattle.std.specs.Prelude.{IfSome, OnOk, ℤ, Option, Some, None, map, ◌==◌, ◌||◌}
use Rattle.std.proofs.lemmas.Bool.{ne_eqb}
use Rattle.std.specs.Option.{option_map}
use Rattle.std.proofs.lemmas.List.{map-append, length-map}
use Rattle.oca_types.specs.declared.words.Handle.{Handle}
use Rattle.oca_types.specs.declared.words.Peer.{Peer}
use Rattle.oca_types.specs.Peers.{RequestFields}
use Rattle.oca_net.specs.EndStates.{EndState}
use Rattle.oca_script.specs.declared.fault.ReplayFault.{ReplayFault}
use Rattle.oca_script.specs.declared.fault.WriteFailed.{WriteFailed}
use Rattle.oca_script.specs.Ends.{Input, Output}
use Rattle.oca_script.specs.Printing.{Prints, WritesOut}
use Rattle.oca_script.specs.Replaying.{Replays, Outcome as ReadsLines}
use Rattle.oca_script.proofs.PrintLemmas.{PrintsAll-nil, prints-then, prints-less, written-out, front}
use Rattle.oca_control.specs.declared.fault.ControlFault.{ControlFault}
use Rattle.oca_control.specs.declared.fault.ControlFault.TheVariants.{Lost}
use Rattle.oca_control.specs.declared.outcome.Outcome.{Outcome}
use Rattle.oca_control.specs.declared.outcome.Outcome.TheVariants as outcomes
use Rattle.oca_panel.specs.Panels.{PanelState, BeginsIn, IsOpened, is_lost_or_unanswered}
use Rattle.oca_panel.specs.Renewals.{IsRenewed}
use Rattle.oca_panel.specs.InFlight.{BeginsBehind, BeginsUnless, FinishesFirst, FirstIsUnknown, SettlesFirst, put_behind}
use Rattle.oca_control.proofs.Asks.{waits_asked}
use Rattle.oca_control.proofs.Waits.{received_in_wait}
use Rattle.oca_control.specs.Limits.{longest_life}
use Rattle.oca_control.specs.Links.{LinkState, new_link}
use Rattle.oca_control.specs.Asking.{refused_by, Begins, Waits, ReceivesSoOften, IsPresent}
use Rattle.oca_control.specs.Waiting.{ReceivesInAWait, WaitsWhile}
use Rattle.ocactl_cli.specs.Requests.{LineAsked, Send, asked_line}
use Rattle.ocactl_cli.specs.Exchanges.{SessionState, AwaitsLine, SendsLines, FirstIsOpen, TakesOne, Idles, IdledNot, OneTurned, OnePrinted, AwaitsFirst, Awaits, NoneAwaited, OneAwaited, AwaitsUntil, DoesLine, DoesTakenUp, SubmitsCommand, Refuses, Concludes, FinishesUnless, is_write_failure, ended_by, line_wait, outcome_line, TakesUp, IsSameBeside, MayRenewLink, RenewsPanel, IsFoundLostNow, since}
use Rattle.ocactl_cli.specs.PrivateExchanges.{PrintsUnlessFailed, AndPrints, SendsOrRefuses, Submitted, TakesFirst}

-- ---- printing, unless a write has failed

pub goes-nil : (w : Result Unit WriteFailed) (a : Output) → PrintsUnlessFailed w w a a []
goes-nil (Ok u) a = PrintsAll-nil a
goes-nil (Err e) a = (refl, refl)

pub goes-on : (w r s : Result Unit WriteFailed) (a b c : Output) (x y : List ℕ) → PrintsUnlessFailed w r a b x → PrintsUnlessFailed r s b c y → PrintsUnlessFailed w s a c (x ++ y)
goes-on (Ok u) (Ok v) s a b c x y h k = prints-then s a b c x y h k
goes-on (Ok u) (Err e) s a b c x y h k = subst (λ (o : Output). Prints s a o (x ++ y)) (sym k.1) (prints-less s e a b x y k.0 h)
goes-on (Err e) (Ok v) s a b c x y h k = absurd (cc h.0)
goes-on (Err e) (Err f) s a b c x y h k = (k.0 ∙ h.0, k.1 ∙ h.1)

-- what was printed was flushed
pub goes_flushed : (w v z : Result Unit WriteFailed) (a b c : Output) (text : List ℕ) → PrintsUnlessFailed w v a b text → PrintsUnlessFailed v z b c [] → PrintsUnlessFailed w z a c text
goes_flushed w v z a b c text h k = subst (PrintsUnlessFailed w z a c) (append-nil text) (goes-on w v z a b c text [] h k)

-- ---- commands in flight on a panel

-- the session that a panel and the commands in flight on it are
abbrev pub session_of : PanelState → List (ℕ × Unit {0}) → Peer → ℕ → ℕ → Bool → Option ℤ → Bool → Option ℕ → SessionState
session_of p queue device span ahead refused socket is_open at_hand = record {
  device = device;
  span = span;
  link = p.link;
  end_state = p.end_state;
  in_flight = map (λ c. c.0) queue;
  ahead = ahead;
  unanswered = refused || p.unanswered;
  socket = socket;
  is_open = is_open;
  at_hand = at_hand;
}

-- where there is room the link decides
begun-behind : (request : RequestFields) (returned : Result Handle ControlFault) (queue more : List (ℕ × Unit {0})) (old new : PanelState) → length queue < 32
    → BeginsBehind request tt returned queue more old new → BeginsIn request returned old new
begun-behind request returned queue more old new few h =
    subst (λ (full : Bool). BeginsUnless full request returned old new) (not-full (length queue) few) h.begins
  where
    not-full : (n : ℕ) → n < 32 → (n == 32) ≡ false
    not-full n few = ne_eqb n 32 (λ (e : n ≡ 32). omega (arith, few, e))

few-of : (queue : List (ℕ × Unit {0})) (handles : List ℕ) → map (λ c. c.0) queue ≡ handles → length handles < 32 → length queue < 32
few-of queue handles e few = let same : length handles ≡ length queue = ap length (sym e) ∙ length-map queue (λ c. c.0) in omega (arith, same, few)

same-panel : (old new : PanelState) → new.link ≡ old.link → new.end_state ≡ old.end_state → new.wait ≡ old.wait → new.unanswered ≡ old.unanswered → new ≡ old
same-panel old new l e t u =
    ap (λ (x : LinkState). record new { link = x }) l ∙ ap (λ (x : EndState). record new { link = old.link; end_state = x }) e
    ∙ ap (λ (x : ℕ). record new { link = old.link; end_state = old.end_state; wait = x }) t
    ∙ ap (λ (x : Bool). record old { unanswered = x }) u

pub submits : (request : RequestFields) (returned : Result Handle ControlFault) (h : Handle) (queue more : List (ℕ × Unit {0})) (old new : PanelState) (device : Peer) (span : ℕ) (ahead : ℕ) (refused : Bool) (socket : Option ℤ) (is_open : Bool) (at_hand : Option ℕ) (before : SessionState) (now : ℕ)
    → session_of old queue device span ahead refused socket is_open at_hand ≡ before → returned ≡ Ok h → length before.in_flight < 32 → BeginsBehind request tt returned queue more old new
    → IsPresent now old.end_state → now ≤ since at_hand now + longest_life
    → Submitted request (Ok h) before (session_of new more device span ahead refused socket true (Some now))
submits request returned h queue more old new device span ahead refused socket is_open at_hand before now e is few begun present in_time =
    let b : BeginsIn request returned old new = begun-behind request returned queue more old new (few-of queue before.in_flight (ap (λ (x : SessionState). x.in_flight) e) few) begun in
    let behind : more ≡ put_behind queue tt (Ok h) = begun.behind ∙ ap (put_behind queue tt) is in
    subst (λ (x : SessionState). SubmitsCommand request h x (session_of new more device span ahead refused socket true (Some now))) e
    (record {
      begins = subst (λ (z : Result Handle ControlFault). Begins request z old.link new.link old.end_state new.end_state) is b.begins;
      now = now;
      present = present;
      in_time = in_time;
      in_flight = ap (map (λ (c : ℕ × Unit {0}). c.0)) behind ∙ map-append (λ (c : ℕ × Unit {0}). c.0) queue ((h.0, tt) ∷ []);
      same = ap (λ (x : Bool). record (session_of new more device span ahead refused socket true (Some now)) { unanswered = refused || x }) b.unanswered;
    })

-- what is refused changes nothing
pub refuses : (request : RequestFields) (returned : Result Handle ControlFault) (f : ControlFault) (queue more : List (ℕ × Unit {0})) (old new : PanelState) (device : Peer) (span : ℕ) (ahead : ℕ) (refused : Bool) (socket : Option ℤ) (is_open : Bool) (at_hand : Option ℕ) (before : SessionState)
    → session_of old queue device span ahead refused socket is_open at_hand ≡ before → returned ≡ Err f → length before.in_flight < 32 → BeginsBehind request tt returned queue more old new
    → Submitted request (Err f) before (session_of new more device span ahead refused socket is_open at_hand)
refuses request returned f queue more old new device span ahead refused socket is_open at_hand before e is few begun =
    let b : BeginsIn request returned old new = begun-behind request returned queue more old new (few-of queue before.in_flight (ap (λ (x : SessionState). x.in_flight) e) few) begun in
    let kept : more ≡ queue = begun.behind ∙ ap (put_behind queue tt) is in
    let begins : Begins request (Err f) old.link new.link old.end_state new.end_state =
    subst (λ (z : Result Handle ControlFault). Begins request z old.link new.link old.end_state new.end_state) is b.begins in
    let same : new ≡ old = same-panel old new begins.gives.0 begins.gives.1 b.wait b.unanswered in
    let there : Refuses request f (session_of old queue device span ahead refused socket is_open at_hand) = inr (subst (λ (p : PanelState). Begins request (Err f) old.link p.link old.end_state p.end_state) same begins) in
    let all : session_of new more device span ahead refused socket is_open at_hand ≡ session_of old queue device span ahead refused socket is_open at_hand =
    ap (λ (p : PanelState). session_of p more device span ahead refused socket is_open at_hand) same ∙ ap (λ (q : List (ℕ × Unit {0})). session_of old q device span ahead refused socket is_open at_hand) kept in
    subst (λ (x : SessionState). (session_of new more device span ahead refused socket is_open at_hand ≡ x) × Refuses request f x) e (all, there)

-- the present moment, by what the end says of itself
pub present_of : (d e : EndState) (now : ℕ) → d ≡ e → IsPresent now d → IsPresent now e
present_of d e now is h = subst (IsPresent now) is h

-- the link of a panel that was opened
pub opened_link : (device : Peer) (first span wait : ℕ) (before : EndState) (p : PanelState) → IsOpened device first span wait before p
    → (now : ℕ) × (p.link ≡ new_link device first now span)
opened_link device first span wait before p opened = (opened.now, ap (λ (x : PanelState). x.link) opened.panel)

-- a line was taken up, and the link went on or is a new one
pub took-up : (queue : List (ℕ × Unit {0})) (p q : PanelState) (device : Peer) (span : ℕ) (ahead : ℕ) (refused : Bool) (socket : Option ℤ) (is_open : Bool) (at_hand : Option ℕ) (before : SessionState) (now from : ℕ)
    → session_of p queue device span ahead refused socket is_open at_hand ≡ before → IsPresent now p.end_state → from ≡ since at_hand now
    → q ≡ record p { link = q.link } → MayRenewLink (session_of p queue device span ahead refused socket is_open at_hand) q.link
    → TakesUp before (session_of q queue device span ahead refused socket is_open (Some from))
took-up queue p q device span ahead refused socket is_open at_hand before now from e present is same renews =
    subst (λ (x : SessionState). TakesUp x (session_of q queue device span ahead refused socket is_open (Some from))) e
    (record {
      now = now;
      present = present;
      link = q.link;
      renews = renews;
      at_hand = ap (λ (x : PanelState). session_of x queue device span ahead refused socket is_open (Some from)) same
          ∙ ap (λ (n : ℕ). session_of (record p { link = q.link }) queue device span ahead refused socket is_open (Some n)) is;
    })

none-of : (queue : List (ℕ × Unit {0})) → queue ≡ [] → length (map (λ (c : ℕ × Unit {0}). c.0) queue) ≤ 0
none-of queue e = subst (λ (q : List (ℕ × Unit {0})). length (map (λ (c : ℕ × Unit {0}). c.0) q) ≤ 0) (sym e) (omega arith)

renewed-same : (p q : PanelState) (device : Peer) (first span : ℕ) → IsRenewed device first span p q → q ≡ record p { link = q.link }
renewed-same p q device first span h = h.panel ∙ ap (λ (l : LinkState). record p { link = l }) (sym (ap (λ (x : PanelState). x.link) h.panel))

-- the same where no command was in flight, and the link may be a new one that goes on behind the handles of the old one
pub took-up-anew : (queue : List (ℕ × Unit {0})) (p q : PanelState) (device : Peer) (span : ℕ) (ahead : ℕ) (refused : Bool) (socket : Option ℤ) (is_open : Bool) (at_hand : Option ℕ) (before : SessionState) (now from : ℕ)
    → session_of p queue device span ahead refused socket is_open at_hand ≡ before → IsPresent now p.end_state → from ≡ since at_hand now
    → queue ≡ [] → RenewsPanel device span p q
    → TakesUp before (session_of q queue device span ahead refused socket is_open (Some from))
took-up-anew queue p q device span ahead refused socket is_open at_hand before now from e present is none (inl same) =
    took-up queue p q device span ahead refused socket is_open at_hand before now from e present is
    (subst (λ (x : PanelState). x ≡ record p { link = x.link }) (sym same) refl)
    (inl (ap (λ (x : PanelState). x.link) same))
took-up-anew queue p q device span ahead refused socket is_open at_hand before now from e present is none (inr h) =
    took-up queue p q device span ahead refused socket is_open at_hand before now from e present is
    (renewed-same p q device h.0 span h.3)
    (inr (record {
      first = h.0;
      now = h.3.now;
      present = h.3.present;
      none = none-of queue none;
      lost = record { now = h.1.now; present = h.1.present; lost = h.1.lost };
      behind = h.2;
      new = ap (λ (x : PanelState). x.link) h.3.panel;
    }))

pub none-when : (queue : List (ℕ × Unit {0})) → true ≡ (length queue == 0) → queue ≡ []
none-when [] is = refl
none-when (c ∷ queue) is =
    let some : (length (c ∷ queue) == 0) ≡ false = ne_eqb (length (c ∷ queue)) 0 (λ (e : length (c ∷ queue) ≡ 0). omega (arith, e)) in
    absurd (cc (is ∙ some))

pub behind-of : (result : Option Handle) (next : Handle) (l : Option ℕ) → option_map (λ h. h.0) result ≡ l → result ≡ Some next → l ≡ Some next.0
behind-of result next l e is = sym e ∙ ap (option_map (λ h. h.0)) is

pub took-up-same : (queue : List (ℕ × Unit {0})) (p : PanelState) (device : Peer) (span : ℕ) (ahead : ℕ) (refused : Bool) (socket : Option ℤ) (is_open : Bool) (at_hand : Option ℕ) (before : SessionState) (now from : ℕ)
    → session_of p queue device span ahead refused socket is_open at_hand ≡ before → IsPresent now p.end_state → from ≡ since at_hand now
    → TakesUp before (session_of p queue device span ahead refused socket is_open (Some from))
took-up-same queue p device span ahead refused socket is_open at_hand before now from e present is =
    took-up queue p p device span ahead refused socket is_open at_hand before now from e present is refl (inl refl)

-- what comes late changes nothing
pub came-late : (request : RequestFields) (f : ControlFault) (queue : List (ℕ × Unit {0})) (p : PanelState) (device : Peer) (span : ℕ) (ahead : ℕ) (refused : Bool) (socket : Option ℤ) (is_open : Bool) (at_hand : Option ℕ) (before : SessionState) (now : ℕ)
    → session_of p queue device span ahead refused socket is_open at_hand ≡ before → IsPresent now p.end_state → since at_hand now + longest_life < now → f ≡ Lost
    → Refuses request f before
came-late request f queue p device span ahead refused socket is_open at_hand before now e present late counts =
    subst (Refuses request f) e
    (inl (record { now = now; present = present; late = late; counts = counts }))

-- nothing was received where it was known
asks-none : (h : ℕ) (o : Outcome) (l k : LinkState) (d e : EndState) → Waits h 0 l o k d e → ReceivesInAWait d.receives e.receives
asks-none h o l k d e w = λ below. by o (waits_asked h 0 l k d e o w below)
  where
    by : (p : Outcome) → ReceivesSoOften 0 p d.receives e.receives → e.receives ≤ d.receives + 4294967295
    by (outcomes.Answered a) r = omega (arith, r)
    by (outcomes.Refused fault) r = omega (arith, r)
    by outcomes.Lost r = omega (arith, r)
    by outcomes.Unanswered r = omega (arith, r)

none-so-far : (refused was now lost : Bool) → now ≡ (was || lost) → (refused || now) ≡ ((refused || was) || lost)
none-so-far true was now lost e = refl
none-so-far false was now lost e = e

awaited-one : (h : ℕ) (o : Outcome) (queue rest : List (ℕ × Unit {0})) (old new : PanelState) (device : Peer) (span : ℕ) (ahead : ℕ) (refused : Bool) (socket : Option ℤ) (is_open : Bool) (at_hand : Option ℕ)
    → queue ≡ (h, tt) ∷ rest → WaitsWhile h line_wait old.link o new.link old.end_state new.end_state ⊎ Waits h 0 old.link o new.link old.end_state new.end_state
    → ReceivesInAWait old.end_state.receives new.end_state.receives → new.unanswered ≡ (old.unanswered || is_lost_or_unanswered o)
    → AwaitsFirst (session_of old queue device span ahead refused socket is_open at_hand) (session_of new rest device span ahead refused socket is_open at_hand) o
awaited-one h o queue rest old new device span ahead refused socket is_open at_hand first waits asks unanswered = record {
  handle = h;
  first = ap (map (λ (c : ℕ × Unit {0}). c.0)) first;
  waits = waits;
  asks = asks;
  unanswered = none-so-far refused old.unanswered new.unanswered (is_lost_or_unanswered o) unanswered;
  same = refl;
}

pub first-awaited : (came : Unit {0} × Outcome) (queue rest : List (ℕ × Unit {0})) (old new : PanelState) (device : Peer) (span : ℕ) (ahead : ℕ) (refused : Bool) (socket : Option ℤ) (is_open : Bool) (at_hand : Option ℕ) (before : SessionState)
    → session_of old queue device span ahead refused socket is_open at_hand ≡ before → old.wait ≡ line_wait → FinishesFirst (Some came) queue rest old new
    → AwaitsFirst before (session_of new rest device span ahead refused socket is_open at_hand) came.1
first-awaited came queue rest old new device span ahead refused socket is_open at_hand before e time h =
    let waits : WaitsWhile h.0 line_wait old.link came.1 new.link old.end_state new.end_state =
    subst (λ (n : ℕ). WaitsWhile h.0 n old.link came.1 new.link old.end_state new.end_state) time h.2.waits in
    subst (λ (x : SessionState). AwaitsFirst x (session_of new rest device span ahead refused socket is_open at_hand) came.1) e
    (awaited-one h.0 came.1 queue rest old new device span ahead refused socket is_open at_hand h.1 (inl waits)
    (received_in_wait h.0 _ old.link new.link old.end_state new.end_state came.1 waits.waits) h.2.unanswered)

pub first-settled : (came : Unit {0} × Outcome) (queue rest : List (ℕ × Unit {0})) (old new : PanelState) (device : Peer) (span : ℕ) (ahead : ℕ) (refused : Bool) (socket : Option ℤ) (is_open : Bool) (at_hand : Option ℕ) (before : SessionState)
    → session_of old queue device span ahead refused socket is_open at_hand ≡ before → SettlesFirst (Some came) queue rest old new
    → AwaitsFirst before (session_of new rest device span ahead refused socket is_open at_hand) came.1
first-settled came queue rest old new device span ahead refused socket is_open at_hand before e h =
    subst (λ (x : SessionState). AwaitsFirst x (session_of new rest device span ahead refused socket is_open at_hand) came.1) e
    (awaited-one h.0 came.1 queue rest old new device span ahead refused socket is_open at_hand h.1 (inr h.2.waits)
    (asks-none h.0 came.1 old.link new.link old.end_state new.end_state h.2.waits) h.2.unanswered)

-- it is not known how the first came out
pub first-unknown : (queue rest : List (ℕ × Unit {0})) (old new : PanelState) (device : Peer) (span : ℕ) (ahead : ℕ) (refused : Bool) (socket : Option ℤ) (is_open : Bool) (at_hand : Option ℕ) (before : SessionState)
    → session_of old queue device span ahead refused socket is_open at_hand ≡ before → SettlesFirst None queue rest old new
    → TakesFirst None before (session_of new rest device span ahead refused socket is_open at_hand)
first-unknown queue rest old new device span ahead refused socket is_open at_hand before e h =
    let all : session_of new rest device span ahead refused socket is_open at_hand ≡ session_of old queue device span ahead refused socket is_open at_hand =
    ap (λ (p : PanelState). session_of p rest device span ahead refused socket is_open at_hand) h.1 ∙ ap (λ (q : List (ℕ × Unit {0})). session_of old q device span ahead refused socket is_open at_hand) h.0 in
    subst (λ (x : SessionState). (session_of new rest device span ahead refused socket is_open at_hand ≡ x) × FirstIsOpen x.link x.in_flight) e (all, open-as queue old.link h.2)
  where
    open-as : (q : List (ℕ × Unit {0})) (l : LinkState) → FirstIsUnknown q l → FirstIsOpen l (map (λ c. c.0) q)
    open-as [] l u = tt
    open-as (c ∷ q) l u = u

-- ---- what is sent beside a link

-- all but the end is as it was, and then again
pub same_again : (link : LinkState) (wait : ℕ) (unanswered : Bool) (q r : PanelState)
    → q ≡ record { link = link; end_state = q.end_state; wait = wait; unanswered = unanswered } → IsSameBeside q r
    → r ≡ record { link = link; end_state = r.end_state; wait = wait; unanswered = unanswered }
same_again link wait unanswered q r one two = two ∙ ap (λ (x : PanelState). record x { end_state = r.end_state }) one

pub still_waits : (p q : PanelState) (n : ℕ) → IsSameBeside p q → p.wait ≡ n → q.wait ≡ n
still_waits p q n same e = ap (λ (x : PanelState). x.wait) same ∙ e

-- ---- what is done, and printed

-- more was done and printed
pub and-then : {Does Then : List ℕ → Type 0} (w v z : Result Unit WriteFailed) (a b c : Output) (line : List ℕ)
    → AndPrints Does w v a b → PrintsUnlessFailed v z b c line → ((text : List ℕ) → Does text → Then (text ++ line)) → AndPrints Then w z a c
and-then w v z a b c line h k step = record { text = h.text ++ line; does = step h.text h.does; prints = goes-on w v z a b c h.text line h.prints k }

-- what was printed so far was flushed
pub and-flushed : {Does : List ℕ → Type 0} (w v z : Result Unit WriteFailed) (a b c : Output) → AndPrints Does w v a b → PrintsUnlessFailed v z b c [] → AndPrints Does w z a c
and-flushed w v z a b c h k = record { text = h.text; does = h.does; prints = goes_flushed w v z a b c h.text h.prints k }

pub fewer : (s t : SessionState) (o : Outcome) → AwaitsFirst s t o → length s.in_flight ≡ length t.in_flight + 1
fewer s t o h = ap length h.first ∙ omega arith

-- ---- idling

pub idles-then : (r s t : SessionState) (x y : List ℕ) → Idles r s x → Idles s t y → Idles r t (x ++ y)
idles-then r s t x y h IdledNot = subst (Idles r s) (sym (append-nil x)) h
idles-then r s t x y h (OneTurned {s = m} k waits one) = OneTurned (idles-then r s m x y h k) waits one
idles-then r s t x y h (OnePrinted {s = m} {text = z} o k first) =
    subst (Idles r t) (append_assoc x z (outcome_line o)) (OnePrinted o (idles-then r s m x z h k) first)

idles-awaited : (left : ℕ) (r s : SessionState) (x : List ℕ) → Awaits left r s x → Idles r s x
idles-awaited left r s x NoneAwaited = IdledNot
idles-awaited left r s x (OneAwaited {s = m} {text = z} o h more first) = OnePrinted o (idles-awaited left r m z h) first

-- idled twice, and printed
pub idles-and : (r s t : SessionState) (o : Unit {0}) (w : Result Unit WriteFailed) (a b c : Output) → AndPrints (Idles r s) (Ok tt) (Ok o) a b → AndPrints (Idles s t) (Ok tt) w b c → AndPrints (Idles r t) (Ok tt) w a c
idles-and r s t o w a b c h k = and-then (Ok tt) (Ok o) w a b c k.text h k.prints (λ text does. idles-then r s t text k.text does k.does)

pub idles-not : (s : SessionState) (o : Unit {0}) (a : Output) → AndPrints (Idles s s) (Ok tt) (Ok o) a a
idles-not s o a = record { text = []; does = IdledNot; prints = PrintsAll-nil a }

pub idles-turned : (r s t : SessionState) (o u : Unit {0}) (a b : Output) → AndPrints (Idles r s) (Ok tt) (Ok o) a b → FirstIsOpen s.link s.in_flight → TakesOne s t → AndPrints (Idles r t) (Ok tt) (Ok u) a b
idles-turned r s t o u a b h waits one = record { text = h.text; does = OneTurned h.does waits one; prints = h.prints }

pub idles_rest : (left : ℕ) (r s : SessionState) (v z : Result Unit WriteFailed) (a b c : Output)
    → AndPrints (AwaitsUntil left r s) (Ok tt) v a b → PrintsUnlessFailed v z b c [] → AndPrints (Idles r s) (Ok tt) z a c
idles_rest left r s v z a b c h k = and-flushed (Ok tt) v z a b c (record { text = h.text; does = idles-awaited left r s h.text h.does.0; prints = h.prints }) k

-- ---- a line

pub sends-one : (request : RequestFields) (answer : Result Handle ControlFault) (h : Handle) (left : ℕ) (w v : Result Unit WriteFailed) (old s new : SessionState) (a b : Output)
    → answer ≡ Ok h → Submitted request answer old s → left ≡ s.ahead - 1 → AndPrints (AwaitsUntil left s new) w v a b → AndPrints (SendsOrRefuses request old new) w v a b
sends-one request answer h left w v old s new a b is submits same k =
    let one : SubmitsCommand request h old s = subst (λ (z : Result Handle ControlFault). Submitted request z old s) is submits in
    let all_but_one : left ≡ old.ahead - 1 = same ∙ ap (λ (x : SessionState). x.ahead - 1) one.same in
    record { text = k.text; does = (Ok h, (s, one, subst (λ (n : ℕ). AwaitsUntil n s new k.text) all_but_one k.does)); prints = k.prints }

pub sends-none : (request : RequestFields) (answer : Result Handle ControlFault) (fault : ControlFault) (o : Outcome) (w v z : Result Unit WriteFailed) (old s t new : SessionState) (a b c : Output)
    → answer ≡ Err fault → Submitted request answer old s → AndPrints (AwaitsUntil 0 s t) w v a b → new ≡ record t { unanswered = true } → o ≡ refused_by fault → PrintsUnlessFailed v z b c (outcome_line o)
    → AndPrints (SendsOrRefuses request old new) w z a c
sends-none request answer fault o w v z old s t new a b c is submits k noted by p =
    let same : (s ≡ old) × Refuses request fault old = subst (λ (y : Result Handle ControlFault). Submitted request y old s) is submits in
    and-then w v z a b c (outcome_line o) k p
    (λ text does. (Err fault, (t, text, same.1, subst (λ (x : SessionState). AwaitsUntil 0 x t text) same.0 does, noted, ap (λ (x : Outcome). text ++ outcome_line x) by)))

pub serves-command : (request : RequestFields) (left : ℕ) (v z : Result Unit WriteFailed) (old s new : SessionState) (a b c : Output)
    → left ≡ old.ahead - 1 → AndPrints (AwaitsUntil left old s) (Ok tt) v a b → AndPrints (SendsOrRefuses request s new) v z b c → AndPrints (DoesTakenUp old (Send request) new) (Ok tt) z a c
serves-command request left v z old s new a b c is h k =
    and-then (Ok tt) v z a b c k.text h k.prints (λ text does. (s, text, k.text, k.does.0, subst (λ (n : ℕ). AwaitsUntil n old s text) is does, k.does.1, refl))

pub does-line : (old s new : SessionState) (l m : LineAsked) (z : Result Unit WriteFailed) (a c : Output) → TakesUp old s → m ≡ l → AndPrints (DoesTakenUp s l new) (Ok tt) z a c → AndPrints (DoesLine old m new) (Ok tt) z a c
does-line old s new l m z a c taken e h =
    subst (λ (x : LineAsked). AndPrints (DoesLine old x new) (Ok tt) z a c) (sym e) (record { text = h.text; does = (s, taken, h.does); prints = h.prints })

-- ---- the end

pub finishes-unwritten : (ended : Result Unit ReplayFault) (s : SessionState) (a : Output) → is_write_failure ended ≡ true
    → FinishesUnless (is_write_failure ended) ended s s a a ended
finishes-unwritten ended s a h = rw h (refl, refl, refl)

pub finishes : (ended result : Result Unit ReplayFault) (old new : SessionState) (a b : Output) → is_write_failure ended ≡ false → Concludes ended old new a b result
    → FinishesUnless (is_write_failure ended) ended old new a b result
finishes ended result old new a b h k = rw h k

written-last : (v z : Result Unit WriteFailed) (a b c : Output) (text : List ℕ) → PrintsUnlessFailed (Ok tt) v a b text → PrintsUnlessFailed v z b c [] → OnOk z (c.held ≡ []) → WritesOut z a c text
written-last (Ok u) z a b c text h k none = written-out z a b c text h k none
written-last (Err e) z a b c text h k none =
    subst (λ (r : Result Unit WriteFailed). WritesOut r a c text) (sym k.0) (subst (λ (o : Output). WritesOut (Err e) a o text) (sym k.1) (front a b text h))

pub concludes : (ended result : Result Unit ReplayFault) (old new : SessionState) (v z : Result Unit WriteFailed) (a b c : Output)
    → AndPrints (AwaitsUntil 0 old new) (Ok tt) v a b → PrintsUnlessFailed v z b c [] → OnOk z (c.held ≡ []) → result ≡ ended_by z ended → Concludes ended old new a c result
concludes ended result old new v z a b c h k none is = record {
  text = h.text;
  written = z;
  awaits = h.does;
  writes = written-last v z a b c h.text h.prints k none;
  ends = is;
}

-- the lines were served, and it ended so
pub sends-lines : (old mid new : SessionState) (was between is : Output) (had has : Input) (ended result : Result Unit ReplayFault)
    → IfSome had.remaining (λ given. Replays asked_line DoesLine AwaitsLine old mid was between ended given)
    → ReadsLines asked_line DoesLine AwaitsLine old mid was between had has ended → FinishesUnless (is_write_failure ended) ended mid new between is result
    → SendsLines old new was is had has result
sends-lines old mid new was between is had has ended result known reads finishes =
    record { middle = mid; between = between; ended = ended; known = known; reads = reads; finishes = finishes }
