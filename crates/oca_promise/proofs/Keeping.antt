-- A command that was in flight and answered keeps what holds of each answer, and so does a call.
use Rattle.std.proofs.Common.{◌≡◌, ℕ, List, [], ◌∷◌, ◌++◌, refl, sym, ap, ◌∙◌, subst, inr, append_assoc}
use Rattle.std.specs.List.{slice_get}
use Rattle.oca_promise.specs.Words.{AnswerFields, AreInTime, Fit, Handle, LinkState, Network, PanelState, RequestFields}
use Rattle.oca_promise.specs.Words.{Step, Submit, after_step, after_steps, answer_fields, command_under, opening}
use Rattle.oca_promise.specs.Words.{submitted}
use Rattle.oca_pdu.specs.Laws.{ReadingIsExact}
use Rattle.oca_pair.specs.Networks.{PeerLink}
use Rattle.oca_pair.specs.Saying.{OfEachAnswer}
use Rattle.oca_pair.proofs.Lists.{in_contains}
use Rattle.oca_pair.proofs.RoundTrip.{AreToDevice, to_device_step, to_device_steps, to_device_opening}
use Rattle.oca_promise.specs.Doings.{Doing, Takes, all_done, AreOfDevice, Plays}
use Rattle.oca_promise.specs.Calls.{OfAnAnswer, IsDoneByCall, HoldsInEachNetwork, EveryAnsweredCallKeeps}
use Rattle.oca_promise.specs.Flights.{EveryAnsweredFlightKeeps}
use Rattle.oca_promise.proofs.Doing.{flight_does, call_does}
use Rattle.oca_promise.proofs.Playing.{played_link, played_submit, played_take, after_both, HasTaken, submit_outcome_is, submit_there}

parts : (before first : List Step) (step : Step) (later steps : List Step) → steps ≡ first ++ step ∷ later → before ++ steps ≡ (before ++ first) ++ step ∷ later
parts before first step later steps e = ap (λ zs. before ++ zs) e ∙ sym (append_assoc before first (step ∷ later))

in_each_network : (Holds : OfAnAnswer) → OfEachAnswer Holds → (request : RequestFields) (h : ℕ) (a : AnswerFields) (doings : List Doing) (old new : PanelState) (d : IsDoneByCall request h a doings old new) →
    AreOfDevice old.link.device d.done.deliveries → HoldsInEachNetwork Holds request h a doings old
unfolding all_done
in_each_network Holds of_each request h a doings old new d are w s tree starts before steps i p apart fit in_time is plays =
    let start : Network = opening w s tree starts in
    let n : Network = after_steps before start in
    let rest : List Doing = d.between ++ Takes h ∷ [] in
    let x = played_submit i p request d.now rest steps old.link n is (subst (λ (zs : List Doing). Plays i p n zs steps) d.doings_are plays) in
    let handle : Handle = record { 0 = h } in
    let step : Step = Submit i request d.now in
    let at : Network = after_steps x.first n in
    let all : before ++ steps ≡ (before ++ x.first) ++ step ∷ x.later = parts before x.first step x.later steps x.steps_are in
    let same : after_steps (before ++ x.first) start ≡ at = after_both before x.first start in
    let to : AreToDevice at = to_device_steps x.first n (to_device_steps before start (to_device_opening w s tree starts)) in
    let called : AreToDevice (after_step step at) = to_device_step step at to in
    let there = submit_there i p old.link request d.now at x.link in
    let last : LinkState = all_done rest (submitted request d.now old.link) in
    let l : PeerLink = record { peer = p; link = last } in
    let at_end = played_link i p x.later (submitted request d.now old.link) (after_step step at) rest called there x.plays in
    let got = played_take i p h a x.later d.between (submitted request d.now old.link) (after_step step at) rest refl called there (d.held are) x.plays in
    record {
      first = x.first;
      now = d.now;
      later = x.later;
      steps_are = x.steps_are;
      submitted = submit_outcome_is i p old.link request d.now handle at x.link d.accepted;
      holds = subst (λ (z : Network). Holds p (command_under h request) a x.later (after_step step z)) same
          (of_each w s tree starts (before ++ x.first) x.later i l request d.now handle a apart
          (subst (λ (zs : List Step). Fit starts zs) all fit)
          (subst (λ (zs : List Step). AreInTime s i [] zs start) all in_time)
          (submit_outcome_is i p old.link request d.now handle (after_steps (before ++ x.first) start) (ap (λ (z : Network). slice_get z.links i) same ∙ x.link) d.accepted)
          (ap (λ (z : Network). slice_get (after_steps x.later (after_step step z)).links i) same ∙ at_end)
          (inr (in_contains _ _ (subst (λ (z : Network). HasTaken p h a (after_steps x.later (after_step step z))) (sym same) got))));
    }

pub flights_keep : (Holds : OfAnAnswer) → OfEachAnswer Holds → ReadingIsExact → EveryAnsweredFlightKeeps Holds
flights_keep Holds of_each law request handle others old new a flight =
    let x = flight_does law request handle others old new a flight in
    record {
      doings = x.0;
      by_call = x.1;
      all = x.2;
      holds = λ xs done. in_each_network Holds of_each request handle (answer_fields a) xs old new done;
    }

pub calls_keep : (Holds : OfAnAnswer) → OfEachAnswer Holds → ReadingIsExact → EveryAnsweredCallKeeps Holds
calls_keep Holds of_each law request old new a asks =
    let x = call_does request old new a asks in
    (x.0, flights_keep Holds of_each law request x.0 [] old new a x.1)
