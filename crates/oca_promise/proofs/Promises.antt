-- What a panel says is so.
use Rattle.oca_pair.proofs.Words.{on_bool}
use Rattle.std.proofs.Common.{◌≡◌, ℕ, ◌==◌, Bool, true, false, List, [], ◌∷◌, ◌++◌, Option, Some, None, Result, Ok, Err, refl, sym, ap, ◌∙◌, subst, inl, inr, eqb-true, append_assoc, ◌≢◌, ◌⊎◌}
use Rattle.std.specs.Prelude.{if◌then◌else◌, map}
use Rattle.std.specs.List.{AllByRecursion, slice_get}
use Rattle.oca_promise.specs.Words.{Answer, AnswerFields, AreInTime, AskedBy, AsksClass, AsksIn, Class, Fit}
use Rattle.oca_promise.specs.Words.{IsOfItsType, IsOfOneExecutionSince, IsRequest, IsRequestTo, LinkState, Method}
use Rattle.oca_promise.specs.Words.{Network, Object, Outcome, PanelState, Peer, ReadSo, Reading, Reads, ReadsBy}
use Rattle.oca_promise.specs.Words.{RequestFields, SetsObject, Setup, Start, Step, Submit, Total, Value, after_step}
use Rattle.oca_promise.specs.Words.{after_steps, answer_fields, class_of_ono, class_of_value, class_with, command_under}
use Rattle.oca_promise.specs.Words.{departures_in, done_answered, get_method, is_of_every_class, members}
use Rattle.oca_promise.specs.Words.{model_answered, object_of, objects_left, opening, text_answered}
use Rattle.oca_promise.specs.Words.{value_without_limits, with_object}
use Rattle.std.specs.Option.{option_map, option_and_then}
use Rattle.oca_types.specs.declared.class.Class.TheVariants as class
use Rattle.oca_types.specs.declared.class.Method.TheVariants as method
use Rattle.oca_types.specs.Reading.{text_at}
use Rattle.oca_pdu.specs.Laws.{ReadingIsExact}
use Rattle.oca_model.specs.declared.answer.Answer.{Answer as Typed}
use Rattle.oca_model.specs.declared.answer.Answer.TheVariants as answers
use Rattle.oca_model.specs.declared.answer.Shape.{Shape}
use Rattle.oca_model.specs.declared.answer.Shape.TheVariants as shape
use Rattle.oca_model.specs.declared.request.Request.{Request as Asked}
use Rattle.oca_model.specs.declared.request.Request.TheVariants as asked
use Rattle.oca_model.specs.Answers.{answer_in, answer_count, shaped_in, shape_of}
use Rattle.oca_model.specs.declared.member.Member.{Member}
use Rattle.oca_model.specs.Members.{class_at, class_id_at, class_id_in, class_in, members_at, members_in}
use Rattle.oca_model.specs.Parameters.{whole}
use Rattle.oca_model.specs.Readings.{reading_in}
use Rattle.oca_tree.specs.Objects.{class_of}
use Rattle.oca_tree.specs.Typed.{member_of, answer_given, changed_by}
use Rattle.oca_control.specs.declared.outcome.Outcome.TheVariants as outcomes
use Rattle.oca_pair.specs.Networks.{PeerLink}
use Rattle.oca_pair.specs.Steps.{ToDevice}
use Rattle.oca_pair.specs.Premises.{StepFits}
use Rattle.oca_pair.specs.InTime.{Departure}
use Rattle.oca_pair.specs.Saying.{OfEachAnswer, RefusalsChangeNothing, OksSayWhatIsHeld, ReadingsWereHeld, SettingsWereMade, ClassesMetAreThoseAtFirst, CommandAsks, objects_met}
use Rattle.oca_pair.proofs.Fixed.{tree_kept}
use Rattle.oca_pair.proofs.RoundTrip.{to_device_opening, to_device_steps}
use Rattle.oca_panel.specs.declared.trouble.Trouble.{Trouble}
use Rattle.oca_panel.specs.declared.trouble.Trouble.TheVariants as trouble
use Rattle.oca_panel.specs.Objects.{AsksFor, ReadsFor, ReadsObject}
use Rattle.oca_panel.specs.Outcomes.{on_ok, parameters_answered, readable, read_from, done_or_trouble, known_class, class_of_fields, class_answered, fields_answered}
use Rattle.oca_panel.specs.Walks.{DescribesFrom, both}
use Rattle.oca_promise.specs.Doings.{Doing, Plays}
use Rattle.oca_promise.specs.Calls.{OfAnAnswer, KeepsInNetworks}
use Rattle.oca_promise.specs.Promises.{IsRightAtFirst, CallKeeps, WasSetTo, EverySetKeeps, HadReading, EveryReadingKeeps, WasLocked, WasUnlocked, EveryLockKeeps, EveryUnlockKeeps, WasRefused, EveryRefusedSetKeeps, HadClass, EveryClassKeeps, GetKeeps, EveryGetKeeps, HadText, EveryTextKeeps, EveryRoleKeeps, EveryLabelKeeps, HadMembers, EveryMembersKeep, HadFields, DescriptionKeeps, EveryDescriptionKeeps}
use Rattle.oca_promise.specs.Flights.{WasInFlight, AnsweredSo, EverySetInFlightKeeps, EveryReadingInFlightKeeps, EveryAnswerInFlightKeeps}
use Rattle.oca_promise.proofs.Keeping.{calls_keep, flights_keep}
use Rattle.oca_promise.proofs.Playing.{played_link, after_both}

object_class : (tree : List Object) (number : ℕ) (o : Object) (of : Class) → object_of tree number ≡ Some o → class_of_ono tree number ≡ Some of → class_of o.value ≡ of
object_class tree number o of there e = same_some (class_of o.value) of (sym (ap (λ (x : Option Object). option_map (λ (y : Object). class_of y.value) x) there) ∙ e)
  where
    same_some : (a b : Class) → Some a ≡ Some b → a ≡ b
    same_some a b q = cc

-- ---- what holds of an answer

abbrev Both : OfAnAnswer → OfAnAnswer → OfAnAnswer
Both A B p c answer later called = A p c answer later called × B p c answer later called

also : (A B : OfAnAnswer) → OfEachAnswer A → OfEachAnswer B → OfEachAnswer (Both A B)
also A B a b w s tree starts before later i l request now h answer apart fit time accepted own which =
    (a w s tree starts before later i l request now h answer apart fit time accepted own which, b w s tree starts before later i l request now h answer apart fit time accepted own which)

-- what follows from one for each network follows for the command
follows : (A B : OfAnAnswer) (request : RequestFields) (handle : ℕ) (answer : AnswerFields) (others : List Doing) (old new : PanelState) →
    ((p : Peer) (later : List Step) (called : Network) → A p (command_under handle request) answer later called → B p (command_under handle request) answer later called) →
    KeepsInNetworks A request handle answer others old new → KeepsInNetworks B request handle answer others old new
follows A B request handle answer others old new f k = record {
  doings = k.doings;
  by_call = k.by_call;
  all = k.all;
  holds = λ xs done are w s tree starts before steps i p apart fit time is plays.
      let x = k.holds xs done are w s tree starts before steps i p apart fit time is plays in
      record { first = x.first; now = x.now; later = x.later; steps_are = x.steps_are; submitted = x.submitted; holds = f p x.later _ x.holds };
}

-- ---- what an outcome says

-- an answer with status OK, and its parameters
pub record IsOk (o : Outcome) (params : List ℕ) : Type 0 where
  pub answer : Answer
  pub is : o ≡ outcomes.Answered answer
  pub ok : answer.status ≡ 0
  pub params_are : answer.params.items ≡ params

answered_ok : (a : Answer) (params : List ℕ) → parameters_answered (outcomes.Answered a) ≡ Ok params → a.status ≡ 0
answered_ok a params e =
    on_bool (a.status == 0) (λ b. (a.status == 0) ≡ b → (let x : Result (List ℕ) Trouble = if b then Ok a.params.items else Err (trouble.Refused a.status) in x) ≡ Ok params → a.status ≡ 0)
    (λ t q. eqb-true a.status 0 t) (λ t q. absurd (cc)) refl e

answered_parameters : (a : Answer) (params : List ℕ) → parameters_answered (outcomes.Answered a) ≡ Ok params → a.params.items ≡ params
answered_parameters a params e =
    on_bool (a.status == 0) (λ b. (let x : Result (List ℕ) Trouble = if b then Ok a.params.items else Err (trouble.Refused a.status) in x) ≡ Ok params → a.params.items ≡ params)
    (λ q. cc) (λ q. absurd (cc)) e

ok_parameters : (o : Outcome) (params : List ℕ) → parameters_answered o ≡ Ok params → IsOk o params
ok_parameters (outcomes.Answered a) params e = record { answer = a; is = refl; ok = answered_ok a params e; params_are = answered_parameters a params e }
ok_parameters _ params e = absurd (cc)

done_parameters : (r : Result (List ℕ) Trouble) → Ok tt ≡ done_or_trouble r → (params : List ℕ) × (r ≡ Ok params)
done_parameters (Ok params) e = (params, refl)
done_parameters (Err t) e = absurd (cc)

read_parameters : {A : Type 0} (read : List ℕ → Option A) (r : Result (List ℕ) Trouble) (x : A) → Ok x ≡ read_from read r → (params : List ℕ) × (r ≡ Ok params) × (read params ≡ Some x)
read_parameters {A} read (Ok params) x e = (params, refl, by (read params) e)
  where
    by : (o : Option A) → Ok x ≡ readable o → o ≡ Some x
    by None q = absurd (cc)
    by (Some y) q = let same : x ≡ y = cc in ap Some (sym same)
read_parameters read (Err t) x e = absurd (cc)

refused_status : (o : Outcome) (status : ℕ) → Err (trouble.Refused status) ≡ done_answered o → (a : Answer) × (o ≡ outcomes.Answered a) × (a.status ≡ status) × ((a.status == 0) ≡ false)
refused_status (outcomes.Answered a) status e = (a, refl, (by (a.status == 0) refl e).0, (by (a.status == 0) refl e).1)
  where
    by : (b : Bool) → (a.status == 0) ≡ b → Err (trouble.Refused status) ≡ done_or_trouble (if b then Ok a.params.items else Err (trouble.Refused a.status)) → (a.status ≡ status) × ((a.status == 0) ≡ false)
    by true t q = absurd (cc)
    by false t q = (let same : status ≡ a.status = cc in sym same, t)
refused_status _ status e = absurd (cc)

-- ---- a command of a call asks what the request asks

asks_of : (of : Class) (r : Asked) (target h : ℕ) (request : RequestFields) → IsRequest r → IsRequestTo target of r request → CommandAsks of r (command_under h request)
asks_of of r target h request is_request to = (is_request, to.call)

-- what follows of an answer to the request
abbrev Follows : OfAnAnswer → OfAnAnswer → RequestFields → Answer → Type 0
Follows A B request a = (h : ℕ) (p : Peer) (later : List Step) (called : Network) → A p (command_under h request) (answer_fields a) later called → B p (command_under h request) (answer_fields a) later called

-- a command that was in flight, and an answered call of a panel
flight_keeps : (A B : OfAnAnswer) → OfEachAnswer A → ReadingIsExact → (request : RequestFields) (handle : ℕ) (others : List Doing) (old new : PanelState) (a : Answer) →
    WasInFlight request handle others old new (outcomes.Answered a) → Follows A B request a → KeepsInNetworks B request handle (answer_fields a) others old new
flight_keeps A B of_each law request handle others old new a flight f =
    follows A B request handle (answer_fields a) others old new (f handle) (flights_keep A of_each law request handle others old new a flight)

call_keeps : (A B : OfAnAnswer) → OfEachAnswer A → ReadingIsExact → (target : ℕ) (of : Class) (r : Asked) (old new : PanelState) (o : Outcome) (a : Answer) (f : AsksFor target of r old new o) → o ≡ outcomes.Answered a →
    Follows A B f.request a → CallKeeps target of r B old new
call_keeps A B of_each law target of r old new o a f is g =
    let asks : AsksIn f.request old new (outcomes.Answered a) = subst (λ (x : Outcome). AsksIn f.request old new x) is f.asks in
    let x = calls_keep A of_each law f.request old new a asks in
    record {
      request = f.request;
      asks = f.calls;
      handle = x.0;
      answer = a;
      answered = asks;
      keeps = follows A B f.request x.0 (answer_fields a) [] old new (g x.0) x.1;
    }

-- ---- set

abbrev SetAll : OfAnAnswer
SetAll = Both IsOfOneExecutionSince SettingsWereMade

was_set : (target : ℕ) (value : Value) (request : RequestFields) (a : Answer) → IsOfItsType value → IsRequestTo target (class_of_value value) (asked.Set value) request → a.status ≡ 0 → Follows SetAll (WasSetTo target value) request a
was_set target value request a fits to ok h p later called (said, made) right class_is = (
  said,
  subst (λ (t : ℕ). SetsObject t value said.execution.objects (objects_left said.between)) to.object
      (made value right.0 right.1 (ap (λ (t : ℕ). class_of_ono called.tree t) to.object ∙ class_is) (asks_of (class_of_value value) (asked.Set value) target h request fits to) ok said),
)

pub sets_keep : OfEachAnswer IsOfOneExecutionSince → OfEachAnswer SettingsWereMade → ReadingIsExact → EverySetKeeps
sets_keep between sets law target value old new fits (o, f, e) =
    let params = done_parameters (parameters_answered o) e in
    let ok = ok_parameters o params.0 params.1 in
    call_keeps SetAll (WasSetTo target value) (also IsOfOneExecutionSince SettingsWereMade between sets) law target (class_of_value value) (asked.Set value) old new o ok.answer f ok.is
    (was_set target value f.request ok.answer fits f.calls ok.ok)

pub sets_in_flight_keep : OfEachAnswer IsOfOneExecutionSince → OfEachAnswer SettingsWereMade → ReadingIsExact → EverySetInFlightKeeps
sets_in_flight_keep between sets law target value request handle others old new a fits to flight e =
    let params = done_parameters (parameters_answered (outcomes.Answered a)) (sym e) in
    flight_keeps SetAll (WasSetTo target value) (also IsOfOneExecutionSince SettingsWereMade between sets) law request handle others old new a flight
    (was_set target value request a fits to (answered_ok a params.0 params.1))

-- ---- refused

pub refused_sets_keep : OfEachAnswer IsOfOneExecutionSince → OfEachAnswer RefusalsChangeNothing → ReadingIsExact → EveryRefusedSetKeeps
refused_sets_keep between refused law target value status old new (o, f, e) =
    let r = refused_status o status e in
    call_keeps (Both IsOfOneExecutionSince RefusalsChangeNothing) (WasRefused status) (also IsOfOneExecutionSince RefusalsChangeNothing between refused) law target (class_of_value value) (asked.Set value) old new o r.0 f r.1
    (λ h p later called (said, changed). (r.2, (said, changed (not_zero r.0.status r.3) said)))
  where
    not_zero : (n : ℕ) → (n == 0) ≡ false → n ≢ 0
    not_zero n t z = let same : (0 == 0) ≡ false = subst (λ (m : ℕ). (m == 0) ≡ false) z t in absurd (cc)

-- ---- reading

shape_is : (of : Class) (m : Method) → get_method of ≡ Some m → shape_of m ≡ shape.Reading
shape_is class.Block m e = absurd (cc)
shape_is class.Mute m e = let same : method.GetState ≡ m = cc in sym (ap shape_of same)
shape_is class.Polarity m e = let same : method.GetState ≡ m = cc in sym (ap shape_of same)
shape_is class.Switch m e = let same : method.GetPosition ≡ m = cc in sym (ap shape_of same)
shape_is _ m e = let same : method.GetSetting ≡ m = cc in sym (ap shape_of same)

-- an answer that is one is the one that was shaped
answer_is_shaped : (of : Class) (m : Method) (count : ℕ) (params : List ℕ) (a x : Typed) → answer_in of m count params ≡ Some x → shaped_in (shape_of m) of params ≡ Some a → answer_in of m count params ≡ Some a
unfolding answer_in
answer_is_shaped of m count params a x whole_is e = shaped ∙ by (count == answer_count a) (sym shaped ∙ whole_is)
  where
    shaped : option_and_then (λ (b : Typed). let r : Option Typed = if count == answer_count b then Some b else None in r) (shaped_in (shape_of m) of params) ≡ (if count == answer_count a then Some a else None)
    shaped = ap (λ (o : Option Typed). option_and_then (λ (b : Typed). let r : Option Typed = if count == answer_count b then Some b else None in r) o) e

    by : (b : Bool) → (let r : Option Typed = if b then Some a else None in r) ≡ Some x → (let r : Option Typed = if b then Some a else None in r) ≡ Some a
    by true q = refl
    by false q = absurd (cc)

reading_shaped : (of : Class) (m : Method) (params : List ℕ) (reading : Reading) → get_method of ≡ Some m → reading_in of params ≡ Some reading → shaped_in (shape_of m) of params ≡ Some (answers.Reading reading)
reading_shaped of m params reading get e = ap (λ (s : Shape). shaped_in s of params) (shape_is of m get) ∙ ap (λ (o : Option Reading). option_map answers.Reading o) e

abbrev ReadsAll : OfAnAnswer
ReadsAll = Both (Both IsOfOneExecutionSince ClassesMetAreThoseAtFirst) (Both OksSayWhatIsHeld ReadingsWereHeld)

read_so : (target : ℕ) (of : Class) (m : Method) (reading : Reading) (request : RequestFields) (a : Answer) → get_method of ≡ Some m → IsRequestTo target of asked.Get request → a.status ≡ 0 →
    reading_in of a.params.items ≡ Some reading → (h : ℕ) (p : Peer) (later : List Step) (called : Network) → ReadsAll p (command_under h request) (answer_fields a) later called → HadReading target of reading p (command_under h request) (answer_fields a) later called
read_so target of m reading request a get to ok in_is h p later called ((said, met), (oks, reads)) right class_is =
    let asks = asks_of of asked.Get target h request tt to in
    let class_here = ap (λ (t : ℕ). class_of_ono called.tree t) to.object ∙ class_is in
    let by = oks of asked.Get right.0 right.1 asks ok said in
    let same = object_class said.execution.objects request.target by.object of by.there (met said request.target ∙ class_here) in
    let its = (by.answers (inl same)).said m get in
    subst (λ (t : ℕ). ReadSo t reading later called) to.object
    (reads of m reading right.0 right.1 class_here asks get ok (answer_is_shaped of m a.count a.params.items (answers.Reading reading) _ its (reading_shaped of m a.params.items reading get in_is)))

of_reads_all : OfEachAnswer IsOfOneExecutionSince → OfEachAnswer OksSayWhatIsHeld → OfEachAnswer ReadingsWereHeld → OfEachAnswer ClassesMetAreThoseAtFirst → OfEachAnswer ReadsAll
of_reads_all between oks reads met =
    also (Both IsOfOneExecutionSince ClassesMetAreThoseAtFirst) (Both OksSayWhatIsHeld ReadingsWereHeld)
    (also IsOfOneExecutionSince ClassesMetAreThoseAtFirst between met) (also OksSayWhatIsHeld ReadingsWereHeld oks reads)

pub readings_keep : OfEachAnswer IsOfOneExecutionSince → OfEachAnswer OksSayWhatIsHeld → OfEachAnswer ReadingsWereHeld → OfEachAnswer ClassesMetAreThoseAtFirst → ReadingIsExact → EveryReadingKeeps
readings_keep between oks reads met law target of reading old new r = by (get_method of) refl r
  where
    by : (o : Option Method) → get_method of ≡ o → ReadsBy target of o old new (Ok reading) → CallKeeps target of asked.Get (HadReading target of reading) old new
    by None get (same, e) = absurd (cc)
    by (Some m) get (o, f, e) =
        let params = read_parameters (reading_in of) (parameters_answered o) reading e in
        let ok = ok_parameters o params.0 params.1 in
        call_keeps ReadsAll (HadReading target of reading) (of_reads_all between oks reads met) law target of asked.Get old new o ok.answer f ok.is
        (read_so target of m reading f.request ok.answer get f.calls ok.ok (ap (reading_in of) ok.params_are ∙ params.2))

pub readings_in_flight_keep : OfEachAnswer IsOfOneExecutionSince → OfEachAnswer OksSayWhatIsHeld → OfEachAnswer ReadingsWereHeld → OfEachAnswer ClassesMetAreThoseAtFirst → ReadingIsExact → EveryReadingInFlightKeeps
readings_in_flight_keep between oks reads met law target of reading request handle others old new a to flight e =
    let params = read_parameters (reading_in of) (parameters_answered (outcomes.Answered a)) reading (sym e) in
    let ok = answered_ok a params.0 params.1 in
    let by_method = to.call.of_method in
    flight_keeps ReadsAll (HadReading target of reading) (of_reads_all between oks reads met) law request handle others old new a flight
    (read_so target of by_method.0 reading request a by_method.1 to ok (ap (reading_in of) (answered_parameters a params.0 params.1) ∙ params.2))

-- ---- lock and unlock

locked_object : (o : Object) (p : Peer) → changed_by o p asked.LockTotal ≡ record o { lock = Some (record { kind = Total; holder = p }) }
unfolding changed_by
locked_object o p = refl

unlocked_object : (o : Object) (p : Peer) → changed_by o p asked.Unlock ≡ record o { lock = None }
unfolding changed_by
unlocked_object o p = refl

abbrev OfOks : OfAnAnswer
OfOks = Both IsOfOneExecutionSince OksSayWhatIsHeld

pub locks_keep : OfEachAnswer IsOfOneExecutionSince → OfEachAnswer OksSayWhatIsHeld → ReadingIsExact → EveryLockKeeps
locks_keep between oks law target old new (o, f, e) =
    let params = done_parameters (parameters_answered o) e in
    let ok = ok_parameters o params.0 params.1 in
    call_keeps OfOks (WasLocked target) (also IsOfOneExecutionSince OksSayWhatIsHeld between oks) law target class.Block asked.LockTotal old new o ok.answer f ok.is
    (λ h p later called (said, held) right.
    let by = held class.Block asked.LockTotal right.0 right.1 (asks_of class.Block asked.LockTotal target h f.request tt f.calls) ok.ok said in (
      said,
      record {
        object = by.object;
        there = ap (λ (t : ℕ). object_of said.execution.objects t) (sym f.calls.object) ∙ by.there;
        left_is = (by.answers (inr refl)).left_is ∙ ap (with_object said.execution.objects) (locked_object by.object p);
      },
    ))

pub unlocks_keep : OfEachAnswer IsOfOneExecutionSince → OfEachAnswer OksSayWhatIsHeld → ReadingIsExact → EveryUnlockKeeps
unlocks_keep between oks law target old new (o, f, e) =
    let params = done_parameters (parameters_answered o) e in
    let ok = ok_parameters o params.0 params.1 in
    call_keeps OfOks (WasUnlocked target) (also IsOfOneExecutionSince OksSayWhatIsHeld between oks) law target class.Block asked.Unlock old new o ok.answer f ok.is
    (λ h p later called (said, held) right.
    let by = held class.Block asked.Unlock right.0 right.1 (asks_of class.Block asked.Unlock target h f.request tt f.calls) ok.ok said in (
      said,
      record {
        object = by.object;
        there = ap (λ (t : ℕ). object_of said.execution.objects t) (sym f.calls.object) ∙ by.there;
        left_is = (by.answers (inr refl)).left_is ∙ ap (with_object said.execution.objects) (unlocked_object by.object p);
      },
    ))

-- ---- get: the class first

class_with_fields : (fields : List ℕ) (of : Class) → Ok of ≡ known_class (class_with fields) → class_with fields ≡ Some of
class_with_fields fields of e = by (class_with fields) e
  where
    by : (o : Option Class) → Ok of ≡ known_class o → o ≡ Some of
    by None q = absurd (cc)
    by (Some k) q = let same : of ≡ k = cc in ap Some (sym same)

class_by_fields : (params fields : List ℕ) → class_id_in params ≡ Some fields → class_in params ≡ class_with fields
unfolding class_at
class_by_fields params fields e = by (class_id_at params) e
  where
    by : (o : Option (List ℕ × List ℕ)) → whole o ≡ Some fields → option_and_then (λ (k : Option Class). k) (whole (option_map (λ (x : List ℕ × List ℕ). (class_with x.0, x.1)) o)) ≡ class_with fields
    by None q = absurd (cc)
    by (Some (fs, [])) q = let same : fs ≡ fields = cc in ap class_with same
    by (Some (fs, b ∷ bs)) q = absurd (cc)

class_said : (o : Outcome) (of : Class) → Ok of ≡ class_answered o → (params : List ℕ) × (parameters_answered o ≡ Ok params) × (class_in params ≡ Some of)
class_said o of e = by (parameters_answered o) e
  where
    by : (r : Result (List ℕ) Trouble) → Ok of ≡ class_of_fields (read_from class_id_in r) → (params : List ℕ) × (r ≡ Ok params) × (class_in params ≡ Some of)
    by (Err t) q = absurd (cc)
    by (Ok params) q = (params, refl, fields (class_id_in params) refl q)
      where
        fields : (x : Option (List ℕ)) → class_id_in params ≡ x → Ok of ≡ class_of_fields (readable x) → class_in params ≡ Some of
        fields None is h = absurd (cc)
        fields (Some fs) is h = class_by_fields params fs is ∙ class_with_fields fs of h

class_answer : (tree : List Object) (o : Object) → answer_given tree o asked.GetClassIdentification ≡ answers.Class (class_of o.value)
unfolding answer_given
class_answer tree o = refl

same_class : (a b : Class) → Some (answers.Class a) ≡ Some (answers.Class b) → a ≡ b
same_class a b e = cc

abbrev ClassAll : OfAnAnswer
ClassAll = Both (Both IsOfOneExecutionSince ClassesMetAreThoseAtFirst) OksSayWhatIsHeld

had_class : (target : ℕ) (of : Class) (request : RequestFields) (a : Answer) → IsRequestTo target class.Block asked.GetClassIdentification request → a.status ≡ 0 → class_in a.params.items ≡ Some of →
    (h : ℕ) (p : Peer) (later : List Step) (called : Network) → ClassAll p (command_under h request) (answer_fields a) later called → HadClass target of p (command_under h request) (answer_fields a) later called
had_class target of request a to ok in_is h p later called ((said, met), oks) right =
    let by = oks class.Block asked.GetClassIdentification right.0 right.1 (asks_of class.Block asked.GetClassIdentification target h request tt to) ok said in
    let its = (by.answers (inr refl)).said method.GetClassIdentification refl in
    let read = answer_is_shaped class.Block method.GetClassIdentification a.count a.params.items (answers.Class of) _ its (ap (λ (o : Option Class). option_map answers.Class o) in_is) in
    let same : of ≡ class_of by.object.value = same_class of (class_of by.object.value) (sym read ∙ its ∙ ap Some (class_answer said.execution.objects by.object)) in
    ap (λ (t : ℕ). class_of_ono called.tree t) (sym to.object) ∙ sym (met said request.target) ∙ ap (λ (x : Option Object). option_map (λ (y : Object). class_of y.value) x) by.there ∙ ap Some (sym same)

of_class_all : OfEachAnswer IsOfOneExecutionSince → OfEachAnswer OksSayWhatIsHeld → OfEachAnswer ClassesMetAreThoseAtFirst → OfEachAnswer ClassAll
of_class_all between oks met = also (Both IsOfOneExecutionSince ClassesMetAreThoseAtFirst) OksSayWhatIsHeld (also IsOfOneExecutionSince ClassesMetAreThoseAtFirst between met) oks

pub classes_keep : OfEachAnswer IsOfOneExecutionSince → OfEachAnswer OksSayWhatIsHeld → OfEachAnswer ClassesMetAreThoseAtFirst → ReadingIsExact → EveryClassKeeps
classes_keep between oks met law target of old new (o, f, e) =
    let params = class_said o of e in
    let ok = ok_parameters o params.0 params.1 in
    call_keeps ClassAll (HadClass target of) (of_class_all between oks met) law target class.Block asked.GetClassIdentification old new o ok.answer f ok.is
    (had_class target of f.request ok.answer f.calls ok.ok (ap class_in ok.params_are ∙ params.2))

-- ---- get: the whole

fit_first : (starts : List Start) (xs ys : List Step) → Fit starts (xs ++ ys) → Fit starts xs
fit_first starts xs ys fit = (fit.0, each xs fit.1)
  where
    each : (zs : List Step) → AllByRecursion StepFits (zs ++ ys) → AllByRecursion StepFits zs
    each [] a = tt
    each (z ∷ zs) a = (a.0, each zs a.1)

in_time_first : (s : Setup) (i : ℕ) (left : List Departure) (xs ys : List Step) (n : Network) → AreInTime s i left (xs ++ ys) n → AreInTime s i left xs n
in_time_first s i left [] ys n time = tt
in_time_first s i left (x ∷ xs) ys n time = (time.0, in_time_first s i (left ++ departures_in s x n) xs ys (after_step x n) time.1)

-- what was read in the steps behind a submit was read in all of the steps
read_in_all : (target : ℕ) (reading : Reading) (i now : ℕ) (request : RequestFields) (first later steps : List Step) (n : Network) → steps ≡ first ++ Submit i request now ∷ later →
    ReadSo target reading later (after_step (Submit i request now) (after_steps first n)) → ReadSo target reading steps n
read_in_all target reading i now request first later steps n steps_are r = record {
  first = first ++ Submit i request now ∷ r.first;
  k = r.k;
  now = r.now;
  last = r.last;
  steps_are = steps_are ∙ ap (λ zs. first ++ Submit i request now ∷ zs) r.steps_are
      ∙ sym (append_assoc first (Submit i request now ∷ r.first) (ToDevice r.k r.now ∷ r.last));
  object = r.object;
  there = ap (λ (z : Network). object_of (objects_met r.now z) target) (after_both first (Submit i request now ∷ r.first) n) ∙ r.there;
  reads = r.reads;
}

get_keeps : OfEachAnswer IsOfOneExecutionSince → OfEachAnswer OksSayWhatIsHeld → OfEachAnswer ReadingsWereHeld → OfEachAnswer ClassesMetAreThoseAtFirst → ReadingIsExact →
    (target : ℕ) (value : Value) (of : Class) (reading : Reading) (old between_calls new : PanelState) → value_without_limits reading ≡ value →
    AsksClass target old between_calls (Ok of) → ReadsBy target of (get_method of) between_calls new (Ok reading) → GetKeeps target value old new
get_keeps between oks reads met law target value of reading old mid new value_is class_asked value_asked =
    let one = classes_keep between oks met law target of old mid class_asked in
    let two = readings_keep between oks reads met law target of reading mid new value_asked in
    record {
      of = of;
      reading = reading;
      value_is = value_is;
      between = mid;
      class_call = one;
      value_call = two;
      read = λ xs ys class_done value_done are_one are_two w s tree starts before steps_one steps_two i p apart fit time right is plays_one plays_two.
          let start : Network = opening w s tree starts in
          let n : Network = after_steps before start in
          let class_there = one.keeps.holds xs class_done are_one w s tree starts before steps_one i p apart (fit_first starts (before ++ steps_one) steps_two fit) (in_time_first s i [] (before ++ steps_one) steps_two start time) is plays_one in
          let at_one : Network = after_steps class_there.first n in
          let called_one : Network = after_step (Submit i one.request class_there.now) at_one in
          let tree_one : called_one.tree ≡ tree = tree_kept (Submit i one.request class_there.now ∷ []) at_one ∙ tree_kept class_there.first n ∙ tree_kept before start in
          let class_is : class_of_ono tree target ≡ Some of = ap (λ (t : List Object). class_of_ono t target) (sym tree_one) ∙ class_there.holds (subst IsRightAtFirst (sym tree_one) right) in
          let same : after_steps (before ++ steps_one) start ≡ after_steps steps_one n = after_both before steps_one start in
          let link_mid : slice_get (after_steps steps_one n).links i ≡ Some (record { peer = p; link = mid.link }) =
          played_link i p steps_one old.link n xs (to_device_steps before start (to_device_opening w s tree starts)) is plays_one
          ∙ ap (λ (z : LinkState). let y : PeerLink = record { peer = p; link = z } in Some y) (sym (class_done.done.link are_one)) in
          let value_there = two.keeps.holds ys value_done are_two w s tree starts (before ++ steps_one) steps_two i p apart fit time
          (ap (λ (z : Network). slice_get z.links i) same ∙ link_mid) (subst (λ (z : Network). Plays i p z ys steps_two) (sym same) plays_two) in
          let n_two : Network = after_steps (before ++ steps_one) start in
          let at_two : Network = after_steps value_there.first n_two in
          let called_two : Network = after_step (Submit i two.request value_there.now) at_two in
          let tree_two : called_two.tree ≡ tree = tree_kept (Submit i two.request value_there.now ∷ []) at_two ∙ tree_kept value_there.first n_two ∙ tree_kept (before ++ steps_one) start in
          subst (λ (z : Network). ReadSo target reading steps_two z) same
          (read_in_all target reading i value_there.now two.request value_there.first value_there.later steps_two n_two value_there.steps_are
          (value_there.holds (subst IsRightAtFirst (sym tree_two) right) (ap (λ (t : List Object). class_of_ono t target) tree_two ∙ class_is)));
    }

pub gets_keep : OfEachAnswer IsOfOneExecutionSince → OfEachAnswer OksSayWhatIsHeld → OfEachAnswer ReadingsWereHeld → OfEachAnswer ClassesMetAreThoseAtFirst → ReadingIsExact → EveryGetKeeps
gets_keep between oks reads met law target value old new (read, asks, e) = by_reading read asks e
  where
    by_class : (mid : PanelState) (reading : Reading) (r : Result Class Trouble) → value_without_limits reading ≡ value → AsksClass target old mid r → ReadsFor target r mid new (Ok reading) → GetKeeps target value old new
    by_class mid reading (Ok of) value_is class_asked value_asked = get_keeps between oks reads met law target value of reading old mid new value_is class_asked value_asked
    by_class mid reading (Err t) value_is class_asked (same, q) = absurd (cc)

    by_reading : (r : Result Reading Trouble) → ReadsObject target old new r → Ok value ≡ on_ok value_without_limits r → GetKeeps target value old new
    by_reading (Ok reading) (mid, of, class_asked, value_asked) q = by_class mid reading of (let same : value ≡ value_without_limits reading = cc in sym same) class_asked value_asked
    by_reading (Err t) a q = absurd (cc)

-- ---- texts

same_text : (a b : List ℕ) → Some (answers.Text a) ≡ Some (answers.Text b) → a ≡ b
same_text a b e = cc

had_text : (r : Asked) (m : Method) (text_of : Object → List ℕ) → IsRequest r → is_of_every_class r ≡ true → AskedBy class.Block r m → shape_of m ≡ shape.Text →
    ((tree : List Object) (o : Object) → answer_given tree o r ≡ answers.Text (text_of o)) →
    (target : ℕ) (text : List ℕ) (request : RequestFields) (a : Answer) → IsRequestTo target class.Block r request → a.status ≡ 0 → whole (text_at a.params.items) ≡ Some text →
    (h : ℕ) (p : Peer) (later : List Step) (called : Network) → OfOks p (command_under h request) (answer_fields a) later called → HadText text_of target text p (command_under h request) (answer_fields a) later called
had_text r m text_of is_request every by_method shape_is_text gives target text request a to ok in_is h p later called (said, oks) right =
    let by = oks class.Block r right.0 right.1 (asks_of class.Block r target h request is_request to) ok said in
    let its = (by.answers (inr every)).said m by_method in
    let shaped : shaped_in (shape_of m) class.Block a.params.items ≡ Some (answers.Text text) =
    ap (λ (x : Shape). shaped_in x class.Block a.params.items) shape_is_text ∙ ap (λ (x : Option (List ℕ)). option_map answers.Text x) in_is in
    let read = answer_is_shaped class.Block m a.count a.params.items (answers.Text text) _ its shaped in (
      said,
      by.object,
      ap (λ (t : ℕ). object_of said.execution.objects t) (sym to.object) ∙ by.there,
      same_text text (text_of by.object) (sym read ∙ its ∙ ap Some (gives said.execution.objects by.object)),
    )

texts_keep : OfEachAnswer IsOfOneExecutionSince → OfEachAnswer OksSayWhatIsHeld → ReadingIsExact →
    (r : Asked) (m : Method) (text_of : Object → List ℕ) → IsRequest r → is_of_every_class r ≡ true → AskedBy class.Block r m → shape_of m ≡ shape.Text →
    ((tree : List Object) (o : Object) → answer_given tree o r ≡ answers.Text (text_of o)) → EveryTextKeeps r text_of
texts_keep between oks law r m text_of is_request every by_method shape_is_text gives target text old new (o, f, e) =
    let params = read_parameters (λ ps. whole (text_at ps)) (parameters_answered o) text e in
    let ok = ok_parameters o params.0 params.1 in
    call_keeps OfOks (HadText text_of target text) (also IsOfOneExecutionSince OksSayWhatIsHeld between oks) law target class.Block r old new o ok.answer f ok.is
    (had_text r m text_of is_request every by_method shape_is_text gives target text f.request ok.answer f.calls ok.ok (ap (λ ps. whole (text_at ps)) ok.params_are ∙ params.2))

role_answer : (tree : List Object) (o : Object) → answer_given tree o asked.GetRole ≡ answers.Text o.role
unfolding answer_given
role_answer tree o = refl

label_answer : (tree : List Object) (o : Object) → answer_given tree o asked.GetLabel ≡ answers.Text o.label
unfolding answer_given
label_answer tree o = refl

pub roles_keep : OfEachAnswer IsOfOneExecutionSince → OfEachAnswer OksSayWhatIsHeld → ReadingIsExact → EveryRoleKeeps
roles_keep between oks law = texts_keep between oks law asked.GetRole method.GetRole (λ o. o.role) tt refl refl refl role_answer

pub labels_keep : OfEachAnswer IsOfOneExecutionSince → OfEachAnswer OksSayWhatIsHeld → ReadingIsExact → EveryLabelKeeps
labels_keep between oks law = texts_keep between oks law asked.GetLabel method.GetLabel (λ o. o.label) tt refl refl refl label_answer

-- ---- members

members_answer : (tree : List Object) (o : Object) → answer_given tree o asked.GetMembers ≡ answers.Members (record { items = map member_of (members tree o.ono.0) })
unfolding answer_given
members_answer tree o = refl

abbrev members_told : Option Typed → List Member
members_told (Some (answers.Members ms)) = ms.items
members_told other = []

same_members : (a b : List Member) → Some (answers.Members (record { items = a })) ≡ Some (answers.Members (record { items = b })) → a ≡ b
same_members a b e = ap members_told e

numbers_listed : (xs : List Object) → map (λ m. m.ono.0) (map member_of xs) ≡ map (λ o. o.ono.0) xs
numbers_listed [] = refl
numbers_listed (x ∷ xs) = ap (λ (l : List ℕ). x.ono.0 ∷ l) (numbers_listed xs)

members_read : (bytes numbers : List ℕ) → members_in bytes ≡ Some numbers → (xs : List Member) × (members_at bytes ≡ Some xs) × (map (λ m. m.ono.0) xs ≡ numbers)
members_read bytes numbers e = by (members_at bytes) e
  where
    by : (o : Option (List Member)) → option_map (map (λ m. m.ono.0)) o ≡ Some numbers → (xs : List Member) × (o ≡ Some xs) × (map (λ m. m.ono.0) xs ≡ numbers)
    by None q = absurd (cc)
    by (Some xs) q = (xs, refl, cc)

number_of_found : (tree : List Object) (number : ℕ) (o : Object) → object_of tree number ≡ Some o → o.ono.0 ≡ number
number_of_found [] number o e = absurd (cc)
number_of_found (x ∷ xs) number o e =
    on_bool (x.ono.0 == number) (λ b. (x.ono.0 == number) ≡ b → (object_of xs number ≡ Some o → o.ono.0 ≡ number) → (let r : Option Object = if b then Some x else object_of xs number in r) ≡ Some o → o.ono.0 ≡ number)
    (λ t later q. let same : x ≡ o = cc in ap (λ (y : Object). y.ono.0) (sym same) ∙ eqb-true x.ono.0 number t) (λ t later q. later q) refl (number_of_found xs number o) e

had_members : (target : ℕ) (numbers : List ℕ) (request : RequestFields) (a : Answer) → IsRequestTo target class.Block asked.GetMembers request → a.status ≡ 0 → members_in a.params.items ≡ Some numbers →
    (h : ℕ) (p : Peer) (later : List Step) (called : Network) → ClassAll p (command_under h request) (answer_fields a) later called → HadMembers target numbers p (command_under h request) (answer_fields a) later called
had_members target numbers request a to ok in_is h p later called ((said, met), oks) right class_is =
    let class_here = ap (λ (t : ℕ). class_of_ono called.tree t) to.object ∙ class_is in
    let by = oks class.Block asked.GetMembers right.0 right.1 (asks_of class.Block asked.GetMembers target h request tt to) ok said in
    let same = object_class said.execution.objects request.target by.object class.Block by.there (met said request.target ∙ class_here) in
    let its = (by.answers (inl same)).said method.GetMembers refl in
    let listed = members_read a.params.items numbers in_is in
    let read = answer_is_shaped class.Block method.GetMembers a.count a.params.items (answers.Members (record { items = listed.0 })) _ its
    (ap (λ (x : Option (List Member)). option_map (λ (ms : List Member). answers.Members (record { items = ms })) x) listed.1) in
    let are : listed.0 ≡ map member_of (members said.execution.objects by.object.ono.0) =
    same_members listed.0 (map member_of (members said.execution.objects by.object.ono.0)) (sym read ∙ its ∙ ap Some (members_answer said.execution.objects by.object)) in
    let at : by.object.ono.0 ≡ target = number_of_found said.execution.objects request.target by.object by.there ∙ to.object in (
      said,
      sym listed.2 ∙ ap (map (λ m. m.ono.0)) are ∙ numbers_listed (members said.execution.objects by.object.ono.0)
          ∙ ap (λ (n : ℕ). map (λ o. o.ono.0) (members said.execution.objects n)) at,
    )

pub members_keep : OfEachAnswer IsOfOneExecutionSince → OfEachAnswer OksSayWhatIsHeld → OfEachAnswer ClassesMetAreThoseAtFirst → ReadingIsExact → EveryMembersKeep
members_keep between oks met law target numbers old new (o, f, e) =
    let params = read_parameters members_in (parameters_answered o) numbers e in
    let ok = ok_parameters o params.0 params.1 in
    call_keeps ClassAll (HadMembers target numbers) (of_class_all between oks met) law target class.Block asked.GetMembers old new o ok.answer f ok.is
    (had_members target numbers f.request ok.answer f.calls ok.ok (ap members_in ok.params_are ∙ params.2))

-- ---- a description

no_class_read : (count : ℕ) (params : List ℕ) (x : Typed) → class_in params ≡ None → answer_in class.Block method.GetClassIdentification count params ≡ Some x → None ≡ Some x
unfolding answer_in
no_class_read count params x none e =
    sym (ap (λ (o : Option Class). option_and_then (λ (b : Typed). let r : Option Typed = if count == answer_count b then Some b else None in r) (option_map answers.Class o)) none) ∙ e

had_fields : (target : ℕ) (fields : List ℕ) (request : RequestFields) (a : Answer) → IsRequestTo target class.Block asked.GetClassIdentification request → a.status ≡ 0 → class_id_in a.params.items ≡ Some fields →
    (h : ℕ) (p : Peer) (later : List Step) (called : Network) → ClassAll p (command_under h request) (answer_fields a) later called → HadFields target fields p (command_under h request) (answer_fields a) later called
had_fields target fields request a to ok in_is h p later called ((said, met), oks) right = by (class_in a.params.items) refl
  where
    by : (o : Option Class) → class_in a.params.items ≡ o → class_of_ono called.tree target ≡ class_with fields
    by None e =
        let answered = oks class.Block asked.GetClassIdentification right.0 right.1 (asks_of class.Block asked.GetClassIdentification target h request tt to) ok said in
        let none = no_class_read a.count a.params.items _ e ((answered.answers (inr refl)).said method.GetClassIdentification refl) in
        absurd (cc)
    by (Some of) e = had_class target of request a to ok e h p later called ((said, met), oks) right ∙ sym e ∙ class_by_fields a.params.items fields in_is

fields_keep : OfEachAnswer IsOfOneExecutionSince → OfEachAnswer OksSayWhatIsHeld → OfEachAnswer ClassesMetAreThoseAtFirst → ReadingIsExact → (target : ℕ) (fields : List ℕ) (old new : PanelState) →
    Reads target class.Block asked.GetClassIdentification fields_answered old new (Ok fields) → CallKeeps target class.Block asked.GetClassIdentification (HadFields target fields) old new
fields_keep between oks met law target fields old new (o, f, e) =
    let params = read_parameters class_id_in (parameters_answered o) fields e in
    let ok = ok_parameters o params.0 params.1 in
    call_keeps ClassAll (HadFields target fields) (of_class_all between oks met) law target class.Block asked.GetClassIdentification old new o ok.answer f ok.is
    (had_fields target fields f.request ok.answer f.calls ok.ok (ap class_id_in ok.params_are ∙ params.2))

abbrev pair_told : Result (List ℕ × List ℕ) Trouble → List ℕ × List ℕ
pair_told (Ok p) = p
pair_told (Err t) = ([], [])

pub descriptions_keep : OfEachAnswer IsOfOneExecutionSince → OfEachAnswer OksSayWhatIsHeld → OfEachAnswer ClassesMetAreThoseAtFirst → ReadingIsExact → EveryDescriptionKeeps
descriptions_keep between oks met law target fields role old new (read, mid, asks, from) = by read asks from
  where
    by_role : (fs : List ℕ) (r : Result (List ℕ) Trouble) → Reads target class.Block asked.GetClassIdentification fields_answered old mid (Ok fs) →
        Reads target class.Block asked.GetRole text_answered mid new r → (let x : Result (List ℕ × List ℕ) Trouble = Ok (fields, role) in x) ≡ both fs r → DescriptionKeeps target fields role old new
    by_role fs (Err t) one two q = absurd (cc)
    by_role fs (Ok text) one two q =
        let same_fields : fs ≡ fields = sym (ap (λ (r : Result (List ℕ × List ℕ) Trouble). (pair_told r).0) q) in
        let same_role : text ≡ role = sym (ap (λ (r : Result (List ℕ × List ℕ) Trouble). (pair_told r).1) q) in
        record {
          between = mid;
          class_call = fields_keep between oks met law target fields old mid
              (subst (λ (x : List ℕ). Reads target class.Block asked.GetClassIdentification fields_answered old mid (Ok x)) same_fields one);
          role_call = roles_keep between oks law target role mid new (subst (λ (x : List ℕ). Reads target class.Block asked.GetRole text_answered mid new (Ok x)) same_role two);
        }

    by : (r : Result (List ℕ) Trouble) → Reads target class.Block asked.GetClassIdentification fields_answered old mid r → DescribesFrom r target mid new (Ok (fields, role)) → DescriptionKeeps target fields role old new
    by (Err t) one (same, q) = absurd (cc)
    by (Ok fs) one (r, two, q) = by_role fs r one two q

-- ---- any method, of a command in flight

-- an answer that is read has status OK
model_ok : (of : Class) (m : Method) (a : Answer) (typed : Typed) → model_answered of m (outcomes.Answered a) ≡ Ok typed → (a.status ≡ 0) × (answer_in of m a.count a.params.items ≡ Some typed)
model_ok of m a typed e =
    on_bool (a.status == 0) (λ b. (a.status == 0) ≡ b → (let x : Result Typed Trouble = if b then readable (answer_in of m a.count a.params.items) else Err (trouble.Refused a.status) in x) ≡ Ok typed →
    (a.status ≡ 0) × (answer_in of m a.count a.params.items ≡ Some typed))
    (λ t q. (eqb-true a.status 0 t, read (answer_in of m a.count a.params.items) q)) (λ t q. absurd (cc)) refl e
  where
    read : (o : Option Typed) → readable o ≡ Ok typed → o ≡ Some typed
    read None q = absurd (cc)
    read (Some x) q = let same : x ≡ typed = cc in ap Some same

same_typed : (a b : Typed) → Some a ≡ Some b → a ≡ b
same_typed a b e = cc

answered_so : (target : ℕ) (of : Class) (r : Asked) (m : Method) (typed : Typed) (request : RequestFields) (a : Answer) → IsRequest r → AskedBy of r m → IsRequestTo target of r request → a.status ≡ 0 →
    answer_in of m a.count a.params.items ≡ Some typed → Follows ClassAll (AnsweredSo target of r typed) request a
answered_so target of r m typed request a is_request by_method to ok read h p later called ((said, met), oks) right which =
    let by = oks of r right.0 right.1 (asks_of of r target h request is_request to) ok said in
    let its = by.answers (its_class by.object by.there which) in (
      said,
      by.object,
      ap (λ (t : ℕ). object_of said.execution.objects t) (sym to.object) ∙ by.there,
      same_typed typed (answer_given said.execution.objects by.object r) (sym read ∙ its.said m by_method),
      its.left_is,
    )
  where
    its_class : (o : Object) → object_of said.execution.objects request.target ≡ Some o → (class_of_ono called.tree target ≡ Some of) ⊎ (is_of_every_class r ≡ true) → (class_of o.value ≡ of) ⊎ (is_of_every_class r ≡ true)
    its_class o there (inl is) = inl (object_class said.execution.objects request.target o of there (met said request.target ∙ ap (λ (t : ℕ). class_of_ono called.tree t) to.object ∙ is))
    its_class o there (inr every) = inr every

pub answers_in_flight_keep : OfEachAnswer IsOfOneExecutionSince → OfEachAnswer OksSayWhatIsHeld → OfEachAnswer ClassesMetAreThoseAtFirst → ReadingIsExact → EveryAnswerInFlightKeeps
answers_in_flight_keep between oks met law target of r m typed request handle others old new a is_request by_method to flight e =
    let ok = model_ok of m a typed e in
    flight_keeps ClassAll (AnsweredSo target of r typed) (of_class_all between oks met) law request handle others old new a flight
    (answered_so target of r m typed request a is_request by_method to ok.0 ok.1)
