-- THE LAW OF ANSWERS IN TIME, over every schedule: where a link and the network are in time, each command in flight is
-- answered when a copy of it finds room, whatever the device forgot meanwhile. Of the commands that earlier links of
-- the peer left behind, only those take room in the window whose link left off at most 100,000 ms before the submit.
use Rattle.std.specs.Prelude.{[], ◌&&◌, ◌*◌, ◌++◌, ◌+◌, ◌<◌, ◌∷◌, ◌≡◌, ◌≤◌, List, Some, false, if◌then◌else◌, is_none}
use Rattle.std.specs.Prelude.{length, nat_le, true, ℕ}
use Rattle.std.specs.List.{AllByRecursion, slice_get}
use Rattle.oca_pair.specs.Words.{CommandFields, DeviceSizes, Handle, IsAskedEvery, Object, Peer, Request, command_under}
use Rattle.oca_pair.specs.Words.{present_moment, same_peer}
use Rattle.oca_pair.specs.declared.outcome.Outcome.TheVariants as outcomes
use Rattle.oca_pair.specs.declared.start.Start.{Start}
use Rattle.oca_pair.specs.Networks.{Network, PeerLink, SentDatagram, Renewal, Setup, opening, zero_after, zero_of}
use Rattle.oca_pair.specs.Networks.{left_behind}
use Rattle.oca_pair.specs.Steps.{Step, Submit, Renew, is_no_lower, after_step, after_steps, outcome_of_step}
use Rattle.oca_pair.specs.Premises.{are_apart, StepFits, Fit, FindsRoom}
use Rattle.oca_pair.specs.Laws.{CarriesUntaken, IsAnswered}
use Rattle.oca_pair.specs.RoundTrip.{meanwhile, RenewsNothing, ComesBack}
use Rattle.oca_pair.specs.GettingThrough.{calls_in, GetsThrough}
use Rattle.oca_pair.specs.InTime.{longest_delay, AreInTime}

-- ---- what may still come of what earlier links left behind

-- when a link left off that was renewed, by the common clock: when its own clock was read last; `before` are the
-- renewals before this one
abbrev pub left_off : Setup → Peer → Renewal → List Renewal → ℕ
left_off s p x before = zero_after before p (s.zero p) + x.till

-- THE COMMANDS THAT MAY STILL COME from this moment of the common clock on: those that the earlier links of this peer
-- left behind which left off at most 100,000 ms before it
abbrev pub left_since : Setup → ℕ → Peer → List Renewal → List ℕ
left_since s t p [] = []
left_since s t p (x ∷ before) =
    if same_peer x.peer p && nat_le t (left_off s p x before + longest_delay)
    then x.left ++ left_since s t p before
    else left_since s t p before

-- THE SPAN OF THE LINK FITS THE WINDOW from this moment on: as `SpanFits`, but of the commands that earlier links left
-- behind only those count that may still come.
pub record SpanFitsSince (w : DeviceSizes) (s : Setup) (t : ℕ) (l : PeerLink) (n : Network) : Type 0 where
  pub some : 0 < l.link.span
  pub wide : 2 * l.link.span + length (left_since s t l.peer n.renewed) ≤ w.window + 1

-- this is never more than was left behind
abbrev pub FewerMayStillCome : Type 0
FewerMayStillCome =
    (s : Setup) (t : ℕ) (p : Peer) (n : Network) → length (left_since s t p n.renewed) ≤ left_behind p n

-- A renewal is noted: from when on the new link's clock counts; that nothing comes of the old link any more when it
-- left off more than 100,000 ms before; and that a link whose commands all have answers leaves none behind.
abbrev pub EveryRenewalIsNoted : Type 0
EveryRenewalIsNoted =
    (s : Setup) (n : Network) (i first span now origin t : ℕ) (l : PeerLink) →
    slice_get n.links i ≡ Some l → is_no_lower first l.link.next ≡ true →
    let m : Network = after_step (Renew i first span now origin) n in
    (zero_of s l.peer m ≡ origin)
    × (zero_of s l.peer n + l.link.moment + 100000 < t →
    left_since s t l.peer m.renewed ≡ left_since s t l.peer n.renewed)
    × (AllByRecursion (λ u. is_none u.answer ≡ false) l.link.untaken → left_behind l.peer m ≡ left_behind l.peer n)

-- ---- an untaken command is answered

-- A delivery of a datagram that carries an untaken command of the link is answered, where it finds room, and the link's
-- span fits the window from the command's submit on.
abbrev pub AnswersUntakenInTime : DeviceSizes → Setup → PeerLink → Network → Type 0
AnswersUntakenInTime w s l n = (k now : ℕ) (d : SentDatagram) (c : CommandFields) →
    slice_get n.to_device k ≡ Some d → (of : CarriesUntaken d l c) →
    SpanFitsSince w s (zero_of s l.peer n + of.untaken.submitted) l n → FindsRoom d.peer now n → IsAnswered k now n d c

-- Over every schedule, for all sizes, of each link that is in time:
abbrev pub EveryUntakenCommandInTimeIsAnswered : Type 0
EveryUntakenCommandInTimeIsAnswered =
    (w : DeviceSizes) (s : Setup) (tree : List Object) (starts : List Start) (steps : List Step) (i : ℕ)
    (l : PeerLink) →
    let start : Network = opening w s tree starts in
    let n : Network = after_steps steps start in
    are_apart s.address starts ≡ true → Fit starts steps → AreInTime s i [] steps start →
    slice_get n.links i ≡ Some l → AnswersUntakenInTime w s l n

-- ---- and the answer comes back

-- each such delivery comes back, where the link is not renewed before the response is delivered
abbrev pub RoundTripsInTime : DeviceSizes → Setup → ℕ → PeerLink → Network → Type 0
RoundTripsInTime w s i l n = (k now : ℕ) (d : SentDatagram) (c : CommandFields) (between : List Step) (later : ℕ) →
    slice_get n.to_device k ≡ Some d → (of : CarriesUntaken d l c) → FindsRoom d.peer now n →
    SpanFitsSince w s (zero_of s l.peer n + of.untaken.submitted) l n → AllByRecursion StepFits between →
    RenewsNothing l.peer n (meanwhile k now between n) →
    ComesBack k now between later i c l.peer n

-- Over every schedule, for all sizes, of each link that is in time:
abbrev pub EveryRoundTripInTimeBringsTheAnswer : Type 0
EveryRoundTripInTimeBringsTheAnswer =
    (w : DeviceSizes) (s : Setup) (tree : List Object) (starts : List Start) (steps : List Step) (i : ℕ)
    (l : PeerLink) →
    let start : Network = opening w s tree starts in
    let n : Network = after_steps steps start in
    are_apart s.address starts ≡ true → Fit starts steps → AreInTime s i [] steps start →
    slice_get n.links i ≡ Some l → RoundTripsInTime w s i l n

-- ---- and one copy is enough

-- a delivery now finds room
abbrev pub ComesWithRoom : Peer → Network → ℕ → ℕ → Type 0
ComesWithRoom p n k now = FindsRoom p now n

-- Over every schedule, for all sizes, of each link that is in time: so it is of each command that the link submitted in
-- a step, where its span fits the window from then on, and from this step on it is asked every so many ms, and is not
-- renewed.
abbrev pub EveryCommandInTimeGetsThrough : Type 0
EveryCommandInTimeGetsThrough =
    (w : DeviceSizes) (s : Setup) (tree : List Object) (starts : List Start) (before later : List Step) (i : ℕ)
    (l : PeerLink) (request : Request) (now ms : ℕ) (h : Handle) →
    let start : Network = opening w s tree starts in
    let old : Network = after_steps before start in
    let new : Network = after_step (Submit i request now) old in
    let since : ℕ = present_moment now l.link in
    slice_get old.links i ≡ Some l → SpanFitsSince w s (zero_of s l.peer old + since) l old →
    are_apart s.address starts ≡ true → Fit starts (before ++ Submit i request now ∷ later) →
    AreInTime s i [] (before ++ Submit i request now ∷ later) start →
    outcome_of_step (Submit i request now) old ≡ outcomes.Submitted h ∷ [] →
    RenewsNothing l.peer old (after_steps later new) → IsAskedEvery ms since (calls_in i later new) →
    let end : Network = after_steps later new in
    GetsThrough (ComesWithRoom l.peer end) ms since i (command_under h.0 request) l.peer (calls_in i later new) end
