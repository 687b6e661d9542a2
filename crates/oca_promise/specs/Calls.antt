-- WHAT A CALL OF A PANEL IS IN A NETWORK: what was done with its link, and what then holds where a schedule plays that.
use Rattle.std.specs.Prelude.{[], ◌++◌, ◌∷◌, ◌≡◌, List, Ok, Some, false, true, ℕ}
use Rattle.std.specs.List.{filter, list_any, slice_get}
use Rattle.oca_promise.specs.Words.{Answer, AnswerFields, AreInTime, AsksIn, CommandFields, DeviceSizes, Fit, IsPresent}
use Rattle.oca_promise.specs.Words.{Network, Object, Outcome, PanelState, Peer, RequestFields, Setup, Start, Step}
use Rattle.oca_promise.specs.Words.{Submit, after_step, after_steps, answer_fields, are_apart, command_under, opening}
use Rattle.oca_promise.specs.Words.{outcome_of_step, submission}
use Rattle.oca_control.specs.declared.outcome.Outcome.TheVariants as outcomes
use Rattle.oca_control.specs.Untaken.{answer_under}
use Rattle.oca_pair.specs.declared.outcome.Outcome.TheVariants as step_outcomes
use Rattle.oca_promise.specs.Doings.{Doing, Submits, Takes, all_done, is_begun_or_taken, is_taking, AreSentInTime}
use Rattle.oca_promise.specs.Doings.{AreOfDevice, WasDone, Plays}

-- THIS WAS DONE BY A CALL that asked the request and got the answer: the command was given to the link under this
-- handle, and at the end its answer, which the link then held, was taken.
pub record IsDoneByCall (request : RequestFields) (handle : ℕ) (answer : AnswerFields) (doings : List Doing)
    (old new : PanelState) : Type 0 where
  pub now : ℕ
  pub between : List Doing
  pub doings_are : doings ≡ Submits request now ∷ between ++ Takes handle ∷ []
  pub accepted : submission request old.link ≡ Ok (record { 0 = handle })
  pub done : WasDone doings old.link new.link old.end_state new.end_state
  pub held : AreOfDevice old.link.device done.deliveries →
      answer_under handle (all_done (Submits request now ∷ between) old.link).untaken ≡ Some answer

-- The call did that alone: the command was submitted at a present moment of the end, and then it was sent and heard
-- until the answer was taken. What was begun or taken meanwhile by other calls is this, in order; none of them took the
-- answer under this handle. Nothing was sent while the link was late.
pub record IsAll (others : List Doing) {request : RequestFields} {handle : ℕ} {answer : AnswerFields}
    {doings : List Doing} {old new : PanelState} (by_call : IsDoneByCall request handle answer doings old new) : Type 0
  where
    pub present : IsPresent by_call.now old.end_state
    pub only : filter is_begun_or_taken by_call.between ≡ others
    pub kept : AreOfDevice old.link.device by_call.done.deliveries → list_any (is_taking handle) others ≡ false
    pub in_time : AreOfDevice old.link.device by_call.done.deliveries → AreSentInTime doings old.link

-- What holds of a command of a peer and its answer, by the network just after the command was submitted and the steps
-- from there on.
abbrev pub OfAnAnswer : Type 1
OfAnAnswer = Peer → CommandFields → AnswerFields → List Step → Network → Type 0

-- These steps have a submit of the request to the link of this number, which gave the command this handle, and so it
-- holds from there on.
pub record HoldsFromSubmit (Holds : OfAnAnswer) (i : ℕ) (p : Peer) (request : RequestFields) (handle : ℕ)
    (answer : AnswerFields) (steps : List Step) (n : Network) : Type 0 where
  pub first : List Step
  pub now : ℕ
  pub later : List Step
  pub steps_are : steps ≡ first ++ Submit i request now ∷ later
  pub submitted : outcome_of_step (Submit i request now) (after_steps first n)
      ≡ step_outcomes.Submitted (record { 0 = handle }) ∷ []
  pub holds : Holds p (command_under handle request) answer later
      (after_step (Submit i request now) (after_steps first n))

-- Of what was done in a call it holds in every network, for all sizes: where the panel's link is the one of this
-- number, and the steps play what was done, and are in time.
abbrev pub HoldsInEachNetwork : OfAnAnswer → RequestFields → ℕ → AnswerFields → List Doing → PanelState → Type 0
HoldsInEachNetwork Holds request handle answer doings old =
    (w : DeviceSizes) (s : Setup) (tree : List Object) (starts : List Start) (before steps : List Step) (i : ℕ)
    (p : Peer) →
    let start : Network = opening w s tree starts in
    let n : Network = after_steps before start in
    are_apart s.address starts ≡ true → Fit starts (before ++ steps) → AreInTime s i [] (before ++ steps) start →
    slice_get n.links i ≡ Some (record { peer = p; link = old.link }) → Plays i p n doings steps →
    HoldsFromSubmit Holds i p request handle answer steps n

-- THE CALL KEEPS IT: something was done by it, beside what other calls began and took meanwhile; and whatever that was,
-- it holds in each network whose datagrams are all that came.
pub record KeepsInNetworks (Holds : OfAnAnswer) (request : RequestFields) (handle : ℕ) (answer : AnswerFields)
    (others : List Doing) (old new : PanelState) : Type 0 where
  pub doings : List Doing
  pub by_call : IsDoneByCall request handle answer doings old new
  pub all : IsAll others by_call
  pub holds : (xs : List Doing) (done : IsDoneByCall request handle answer xs old new) →
      AreOfDevice old.link.device done.done.deliveries → HoldsInEachNetwork Holds request handle answer xs old

-- Something was done between two states of a panel, and nothing was sent while its link was late.
abbrev pub NothingIsSentLate : PanelState → PanelState → Type 0
NothingIsSentLate old new =
    (doings : List Doing) × (done : WasDone doings old.link new.link old.end_state new.end_state)
    × (AreOfDevice old.link.device done.deliveries → AreSentInTime doings old.link)

-- EVERY CALL IS IN TIME, however it came out.
abbrev pub EveryCallIsInTime : Type 0
EveryCallIsInTime =
    (request : RequestFields) (old new : PanelState) (outcome : Outcome) → AsksIn request old new outcome →
    NothingIsSentLate old new

-- Each call that asked a request, and to which an answer came, keeps it. No other call was made meanwhile.
abbrev pub EveryAnsweredCallKeeps : OfAnAnswer → Type 0
EveryAnsweredCallKeeps Holds =
    (request : RequestFields) (old new : PanelState) (a : Answer) → AsksIn request old new (outcomes.Answered a) →
    (handle : ℕ) × KeepsInNetworks Holds request handle (answer_fields a) [] old new
