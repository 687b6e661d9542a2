-- What an answer with status OK says of the object that was asked.
use Rattle.oca_pair.proofs.Words.{◌≡◌, ℕ, ◌≤◌, ◌==◌, Bool, true, false, cond, List, [], ◌∷◌, length, Option, Some, None, refl, sym, ap, ◌∙◌, subst, inl, inr, Ok, All, option_map, option_map_or}
use Rattle.oca_pair.proofs.Words.{both_ways, eq-eqb, recursion_from_All, same_Some, Class, Status, Peer, CommandFields, status_number, WrittenIsReadBack, Reading, answer_in, answer_count}
use Rattle.oca_pair.proofs.Words.{answer_encoding, IsAnswer, AnswersAreRead, Object, class_of, object_of, with_object, TreeAndReply, carried_out, status_of, class_of_ono, Tick, changes, reply_of}
use Rattle.oca_pair.proofs.Words.{AnswerFields, Network, Step, after_steps, happenings, Execution, answer_of, HappensIn, IsOfOneExecutionSince, objects_left, is_of_every_class, CommandAsks}
use Rattle.oca_pair.proofs.Words.{AnswersTyped, IsAnsweredByItsObject, OksSayWhatIsHeld, ReadingsWereHeld, SettingsWereMade, ClassesMetAreThoseAtFirst, OfEachAnswer}
use Rattle.std.proofs.Common.{eqb-true}
use Rattle.oca_types.specs.declared.class.Class.TheVariants as class
use Rattle.oca_types.specs.declared.class.Method.{Method}
use Rattle.oca_types.specs.declared.class.Method.TheVariants as methods
use Rattle.oca_types.specs.declared.class.MethodKind.TheVariants.{Known}
use Rattle.oca_types.specs.declared.status.Status.TheVariants as statuses
use Rattle.oca_types.specs.declared.words.MethodId.{MethodId}
use Rattle.oca_types.specs.Methods.{method_kind, access, kind_from, row_at, own_methods, class_methods, is_left_out}
use Rattle.oca_model.specs.declared.answer.Answer.TheVariants as answers
use Rattle.oca_model.specs.declared.request.Request.{Request as Asked}
use Rattle.oca_model.specs.declared.request.Request.TheVariants as asked
use Rattle.oca_model.specs.declared.value.Value.{Value}
use Rattle.oca_model.specs.Requests.{AskedBy, IsRequest, request_in, count_of, parameters_of, RequestsAreUnderstood}
use Rattle.oca_model.specs.Values.{class_of_value}
use Rattle.oca_tree.specs.Execution.{execution}
use Rattle.oca_tree.specs.Trees.{IsTree, IsSound}
use Rattle.oca_tree.specs.Typed.{reading_held, answer_given, changed_by, held_set_to}
use Rattle.oca_tree.specs.TypedLaws.{IsOfItsTypes, IsRight, CommandDid, AnswersAreRight, SettingsAreRead}
use Rattle.oca_tree.proofs.TypesKept.{found_in, number_of, IsGood, ok_found, execution_status}
use Rattle.oca_pair.proofs.ObjectsKept.{objects_good, class_stays}
use Rattle.oca_pair.proofs.Fixed.{tree_kept}
use Rattle.oca_pair.proofs.Saying.{between_law}

-- ---- what every class answers alike

abbrev is_common : Method → Bool
is_common methods.GetClassIdentification = true
is_common methods.GetLockable = true
is_common methods.LockTotal = true
is_common methods.LockReadonly = true
is_common methods.Unlock = true
is_common methods.GetRole = true
is_common methods.GetEnabled = true
is_common methods.SetEnabled = true
is_common methods.GetLabel = true
is_common methods.SetLabel = true
is_common methods.GetOwner = true
is_common _ = false

-- whether one of the rows has a method of every class
abbrev has_common : List (ℕ × Method) → Bool
has_common [] = false
has_common (row ∷ rows) = cond (is_common row.1) true (has_common rows)

row_of_its_class : (rows : List (ℕ × Method)) (index : ℕ) (m : Method) → has_common rows ≡ false → row_at rows index ≡ Some m → is_common m ≡ false
row_of_its_class [] index m none e = absurd (cc)
row_of_its_class (row ∷ rows) index m none e = by (index == row.0) (is_common row.1) refl none (row_of_its_class rows index m) e
  where
    by : (b c : Bool) → is_common row.1 ≡ c → cond c true (has_common rows) ≡ false → (has_common rows ≡ false → row_at rows index ≡ Some m → is_common m ≡ false)
        → cond b (Some row.1) (row_at rows index) ≡ Some m → is_common m ≡ false
    by b true common none further h = absurd (cc)
    by true false common none further h = let same : row.1 ≡ m = cc in sym (ap is_common same) ∙ common
    by false false common none further h = further none h

rows_of_its_class : (of : Class) → has_common (class_methods of).1 ≡ false
rows_of_its_class class.Switch = refl
rows_of_its_class _ = refl

-- a class has a method of every class where another one does
common_kind : (of other : Class) (id : MethodId) (m : Method) → is_common m ≡ true → method_kind of id ≡ Known m (access m) → method_kind other id ≡ Known m (access m)
unfolding method_kind
common_kind of other id m common e =
    ap (λ (o : Option Method). kind_from o (is_left_out other id)) (by_level (id.level == 1) (id.level == 2) (id.level == (class_methods of).0) (found (row_at (own_methods of id.level) id.index) (is_left_out of id) e))
  where
    found : (o : Option Method) (left : Bool) → kind_from o left ≡ Known m (access m) → o ≡ Some m
    found None true h = absurd (cc)
    found None false h = absurd (cc)
    found (Some n) left h = let same : n ≡ m = cc in ap Some same

    own_no : (b : Bool) → row_at (cond b (class_methods of).1 []) id.index ≡ Some m → is_common m ≡ false
    own_no true h = row_of_its_class (class_methods of).1 id.index m (rows_of_its_class of) h
    own_no false h = absurd (cc)

    never : is_common m ≡ false → row_at (own_methods other id.level) id.index ≡ Some m
    never differs = absurd (both_ways (is_common m) differs common)

    by_level : (one two own : Bool) →
        row_at (cond one ((1, methods.GetClassIdentification) ∷ (2, methods.GetLockable) ∷ (3, methods.LockTotal) ∷ (4, methods.Unlock) ∷ (5, methods.GetRole) ∷ (6, methods.LockReadonly) ∷ [])
        (cond two ((1, methods.GetEnabled) ∷ (2, methods.SetEnabled) ∷ (8, methods.GetLabel) ∷ (9, methods.SetLabel) ∷ (10, methods.GetOwner) ∷ [])
        (cond own (class_methods of).1 []))) id.index ≡ Some m →
        row_at (cond one ((1, methods.GetClassIdentification) ∷ (2, methods.GetLockable) ∷ (3, methods.LockTotal) ∷ (4, methods.Unlock) ∷ (5, methods.GetRole) ∷ (6, methods.LockReadonly) ∷ [])
        (cond two ((1, methods.GetEnabled) ∷ (2, methods.SetEnabled) ∷ (8, methods.GetLabel) ∷ (9, methods.SetLabel) ∷ (10, methods.GetOwner) ∷ [])
        (cond (id.level == (class_methods other).0) (class_methods other).1 []))) id.index ≡ Some m
    by_level true two own h = h
    by_level false true own h = h
    by_level false false own h = absurd (both_ways (is_common m) (own_no own h) common)

common_method : (of : Class) (r : Asked) (m : Method) → is_of_every_class r ≡ true → AskedBy of r m → is_common m ≡ true
common_method of asked.GetClassIdentification m e a = ap is_common a
common_method of asked.GetLockable m e a = ap is_common a
common_method of asked.LockTotal m e a = ap is_common a
common_method of asked.LockReadonly m e a = ap is_common a
common_method of asked.Unlock m e a = ap is_common a
common_method of asked.GetRole m e a = ap is_common a
common_method of asked.GetEnabled m e a = ap is_common a
common_method of (asked.SetEnabled truth) m e a = ap is_common a
common_method of asked.GetLabel m e a = ap is_common a
common_method of (asked.SetLabel label) m e a = ap is_common a
common_method of asked.GetOwner m e a = ap is_common a
common_method of _ m e a = absurd (cc)

common_asked : (of other : Class) (r : Asked) (m : Method) → is_of_every_class r ≡ true → AskedBy of r m → AskedBy other r m
common_asked of other asked.Get m e a = absurd (cc)
common_asked of other (asked.Set value) m e a = absurd (cc)
common_asked of other _ m e a = a

common_answer : (of other : Class) (tree : List Object) (o : Object) (r : Asked) → is_of_every_class r ≡ true → IsAnswer of (answer_given tree o r) → IsAnswer other (answer_given tree o r)
unfolding answer_given
common_answer of other tree o asked.GetClassIdentification e a = a
common_answer of other tree o asked.GetLockable e a = a
common_answer of other tree o asked.LockTotal e a = a
common_answer of other tree o asked.LockReadonly e a = a
common_answer of other tree o asked.Unlock e a = a
common_answer of other tree o asked.GetRole e a = a
common_answer of other tree o asked.GetEnabled e a = a
common_answer of other tree o (asked.SetEnabled truth) e a = a
common_answer of other tree o asked.GetLabel e a = a
common_answer of other tree o (asked.SetLabel label) e a = a
common_answer of other tree o asked.GetOwner e a = a
common_answer of other tree o _ e a = absurd (cc)

-- a request is asked by one method
one_method : (of : Class) (r : Asked) (m n : Method) → AskedBy of r m → AskedBy of r n → m ≡ n
one_method of asked.Get m n a b = same_Some m n (sym a ∙ b)
one_method of (asked.Set value) m n a b = a.1 ∙ sym b.1
one_method of _ m n a b = a ∙ sym b

ok_status : (s : Status) → status_number s ≡ 0 → s ≡ statuses.Ok
ok_status statuses.Ok e = refl
ok_status _ e = absurd (cc)

-- the object that was put in another's place is found under its number
there_with : (tree : List Object) (number : ℕ) (o new : Object) → object_of tree number ≡ Some o → new.ono.0 ≡ o.ono.0 → object_of (with_object tree new) number ≡ Some new
there_with [] number o new e same = absurd (cc)
there_with (x ∷ xs) number o new e same = by (x.ono.0 == number) refl e (x.ono.0 == new.ono.0) refl (there_with xs number o new)
  where
    new_number : new.ono.0 ≡ number
    new_number = same ∙ number_of (x ∷ xs) number o e

    by : (b : Bool) → (x.ono.0 == number) ≡ b → cond b (Some x) (object_of xs number) ≡ Some o → (c : Bool) → (x.ono.0 == new.ono.0) ≡ c →
        (object_of xs number ≡ Some o → new.ono.0 ≡ o.ono.0 → object_of (with_object xs new) number ≡ Some new) → object_of (cond c (new ∷ xs) (x ∷ with_object xs new)) number ≡ Some new
    by b t q true u rest = ap (λ z. cond z (Some new) (object_of xs number)) (eq-eqb new.ono.0 number new_number)
    by true t q false u rest = absurd (both_ways (x.ono.0 == new.ono.0) u (eq-eqb x.ono.0 new.ono.0 (eqb-true x.ono.0 number t ∙ sym new_number)))
    by false t q false u rest = ap (λ z. cond z (Some x) (object_of (with_object xs new) number)) t ∙ rest q same

-- ---- a command that is carried out, typed

module _ (understood : RequestsAreUnderstood) (read : AnswersAreRead)
    (answers_right : AnswersAreRight) (settings_read : SettingsAreRead) where
  record Carried (tree : List Object) (p : Peer) (c : CommandFields) (o : Object) (r : Asked) : Type 0 where
    pub tree_is : (execution tree p c).tree ≡ with_object tree (changed_by o p r)
    pub bytes : (execution tree p c).parameters ≡ answer_encoding (answer_given tree o r)
    pub count : (execution tree p c).count ≡ answer_count (answer_given tree o r)
    pub short : length (answer_encoding (answer_given tree o r)) ≤ 1452

  -- what a method asks with these parameters is one request, and a command calls one method
  one_request : (of : Class) (id : MethodId) (m n : Method) (count : ℕ) (params : List ℕ) (q r : Asked) → method_kind of id ≡ Known m (access m) → method_kind of id ≡ Known n (access n) →
      request_in of m count params ≡ Ok q → request_in of n count params ≡ Ok r → q ≡ r
  one_request of id m n count params q r at_m at_n is_q is_r =
      let kinds : Known m (access m) ≡ Known n (access n) = sym at_m ∙ at_n in
      let same : m ≡ n = cc in
      let results : Ok q ≡ Ok r = sym is_q ∙ ap (λ k. request_in of k count params) same ∙ is_r in
      cc

  carried : (tree : List Object) (p : Peer) (c : CommandFields) (did : CommandDid tree p c) (r : Asked) (m : Method) →
      method_kind (class_of did.object.value) (record { level = c.level; index = c.index }) ≡ Known m (access m) → request_in (class_of did.object.value) m c.count c.params ≡ Ok r → Carried tree p c did.object r
  carried tree p c did r m kind in_is =
      let same : did.request ≡ r = one_request (class_of did.object.value) (record { level = c.level; index = c.index }) did.method m c.count c.params did.request r did.known kind did.asked in_is in
      let done : execution tree p c ≡ carried_out tree p did.object r = did.did ∙ ap (carried_out tree p did.object) same in
      record {
        tree_is = ap (λ (x : TreeAndReply). x.tree) done;
        bytes = ap (λ (x : TreeAndReply). x.parameters) done;
        count = ap (λ (x : TreeAndReply). x.count) done;
        short = subst (λ (q : Asked). length (answer_encoding (answer_given tree did.object q)) ≤ 1452) same did.short;
      }

  -- where the class by which it is read is the object's, or the answer is of every class
  answered_typed : (tree : List Object) (p : Peer) (c : CommandFields) (of : Class) (r : Asked) (did : CommandDid tree p c) (m : Method) → IsGood tree → IsSound did.object → IsOfItsTypes did.object →
      IsRequest r → c.count ≡ count_of r → c.params ≡ parameters_of r → AskedBy (class_of did.object.value) r m → method_kind (class_of did.object.value) (record { level = c.level; index = c.index }) ≡ Known m (access m) →
      (IsAnswer (class_of did.object.value) (answer_given tree did.object r) → IsAnswer of (answer_given tree did.object r)) →
      Carried tree p c did.object r × (answer_in of m (answer_count (answer_given tree did.object r)) (answer_encoding (answer_given tree did.object r)) ≡ Some (answer_given tree did.object r))
  answered_typed tree p c of r did m good sound is_typed is_request count params asked_by kind as_of =
      let in_is : request_in (class_of did.object.value) m c.count c.params ≡ Ok r =
      ap (λ n. request_in (class_of did.object.value) m n c.params) count ∙ ap (λ xs. request_in (class_of did.object.value) m (count_of r) xs) params ∙ understood (class_of did.object.value) r m is_request asked_by in
      let done : Carried tree p c did.object r = carried tree p c did r m kind in_is in
      let its : IsRight tree did.object m r =
      answers_right tree did.object good.typed is_typed sound (record { level = c.level; index = c.index }) m (access m) kind c.count c.params r in_is done.short in
      (done, read of m (answer_given tree did.object r) (as_of its.answer) its.shape)

  -- an execution whose status is OK
  module _ (p : Peer) (x : Execution) (answer : AnswerFields) (left : List Object) (answer_is : answer ≡ answer_of x.reply)
      (reply_is : x.reply ≡ reply_of x.objects p x.command)
      (left_is : (execution x.objects p x.command).tree ≡ left) (good : IsGood x.objects) (ok : answer.status ≡ 0) where
    status_ok : status_of x.objects p (object_of x.objects x.command.target) x.command ≡ statuses.Ok
    status_ok =
        sym (execution_status x.objects p x.command)
        ∙ ok_status (execution x.objects p x.command).status
        (sym (ap (λ (a : AnswerFields). a.status) answer_is ∙ ap (λ r. status_number r.status) reply_is) ∙ ok)

    count_is : answer.count ≡ (execution x.objects p x.command).count
    count_is = ap (λ (a : AnswerFields). a.count) answer_is ∙ ap (λ r. r.count) reply_is

    params_are : answer.params ≡ (execution x.objects p x.command).parameters
    params_are = ap (λ (a : AnswerFields). a.params) answer_is ∙ ap (λ r. r.params.items) reply_is

    answered_by : (of : Class) (r : Asked) → CommandAsks of r x.command → IsAnsweredByItsObject of r x.command.target answer p x left
    answered_by of r asks = record {
      object = o;
      there = at.found;
      answers = λ which. elim which [
        | inl same ↦
            typed_by (subst (λ (k : Class). AskedBy k r m) (sym same) asks.1.of_method.1)
            (subst (λ (k : Class). method_kind k (record { level = x.command.level; index = x.command.index }) ≡ Known m (access m)) (sym same) asks.1.of_method.2)
            (λ a. subst (λ (k : Class). IsAnswer k (answer_given x.objects o r)) same a)
        | inr every ↦
            typed_by (common_asked of (class_of o.value) r m every asks.1.of_method.1)
            (common_kind of (class_of o.value) (record { level = x.command.level; index = x.command.index }) m (common_method of r m every asks.1.of_method.1) asks.1.of_method.2)
            (common_answer (class_of o.value) of x.objects o r every)
      ];
    }
      where
        at : CommandDid x.objects p x.command
        at = ok_found x.objects p x.command status_ok

        o : Object
        o = at.object

        m : Method
        m = asks.1.of_method.0

        typed_by : AskedBy (class_of o.value) r m → method_kind (class_of o.value) (record { level = x.command.level; index = x.command.index }) ≡ Known m (access m) →
            (IsAnswer (class_of o.value) (answer_given x.objects o r) → IsAnswer of (answer_given x.objects o r)) → AnswersTyped of r answer p x left o
        typed_by asked_by kind as_of =
            let both = answered_typed x.objects p x.command of r at m good
            (found_in IsSound x.objects x.command.target o at.found (recursion_from_All IsSound x.objects good.tree.objects))
            (found_in IsOfItsTypes x.objects x.command.target o at.found (recursion_from_All IsOfItsTypes x.objects good.typed)) asks.0 asks.1.count asks.1.parameters asked_by kind as_of in
            record {
              said = λ n by_n.
                  ap (λ k. answer_in of k answer.count answer.params) (one_method of r n m by_n asks.1.of_method.1)
                  ∙ ap (λ k. answer_in of m k answer.params) (count_is ∙ both.0.count) ∙ ap (λ bs. answer_in of m (answer_count (answer_given x.objects o r)) bs) (params_are ∙ both.0.bytes) ∙ both.1;
              left_is = sym left_is ∙ both.0.tree_is;
            }

  -- ---- over every schedule

  -- the objects that an execution meets are good
  met_good : (p : Peer) (x : Execution) (steps : List Step) (n : Network) → HappensIn p x steps n → IsTree n.tree → All IsOfItsTypes n.tree → IsGood x.objects
  met_good p x steps n at tree typed =
      let m : Network = after_steps at.first n in
      let good : IsGood m.tree = subst IsGood (sym (tree_kept at.first n)) (record { tree = tree; typed = typed }) in
      subst IsGood (sym at.happens.met) (objects_good m.tree (changes m.sizes (happenings (Tick at.now ∷ m.events))) good)

  met_class : (p : Peer) (x : Execution) (steps : List Step) (n : Network) (number : ℕ) → HappensIn p x steps n → class_of_ono x.objects number ≡ class_of_ono n.tree number
  met_class p x steps n number at =
      let m : Network = after_steps at.first n in
      ap (λ (t : List Object). class_of_ono t number) at.happens.met ∙ class_stays m.tree (changes m.sizes (happenings (Tick at.now ∷ m.events))) number ∙ ap (λ (t : List Object). class_of_ono t number) (tree_kept at.first n)

  object_class : (tree : List Object) (number : ℕ) (o : Object) (of : Class) → object_of tree number ≡ Some o → class_of_ono tree number ≡ Some of → class_of o.value ≡ of
  object_class tree number o of there e = same_Some (class_of o.value) of (sym (ap (λ (x : Option Object). option_map (λ (y : Object). class_of y.value) x) there) ∙ e)

  ok_said : (p : Peer) (c : CommandFields) (answer : AnswerFields) (later : List Step) (called : Network) → OksSayWhatIsHeld p c answer later called
  ok_said p c answer later called of r tree typed asks ok said =
      let x : Execution = said.execution in
      subst (λ (d : CommandFields). IsAnsweredByItsObject of r d.target answer p x (objects_left said.between)) said.command
      (answered_by p x answer (objects_left said.between) said.answer_is said.between.happens.reply said.between.happens.left (met_good p x later called said.between tree typed) ok of r
      (subst (λ (d : CommandFields). CommandAsks of r d) (sym said.command) asks))

  pub ok_law : OfEachAnswer OksSayWhatIsHeld
  ok_law w s tree starts before later i l request now h answer apart fit in_time accepted own which of r = ok_said l.peer _ answer later _ of r

  reading_is : (tree : List Object) (o : Object) (reading : Reading) → answer_given tree o asked.Get ≡ answers.Reading reading → reading_held o.value ≡ Some reading
  unfolding answer_given
  reading_is tree o reading e = by (reading_held o.value) e
    where
      by : (x : Option Reading) → option_map_or answers.Reading x answers.Done ≡ answers.Reading reading → x ≡ Some reading
      by None q = absurd (cc)
      by (Some y) q = let same : y ≡ reading = cc in ap Some same

  reads_said : (p : Peer) (c : CommandFields) (answer : AnswerFields) (later : List Step) (called : Network) → IsOfOneExecutionSince p c answer later called → ReadingsWereHeld p c answer later called
  reads_said p c answer later called said of m reading is_tree typed class_is asks asked_by ok read_is =
      let by = ok_said p c answer later called of asked.Get is_tree typed asks ok said in
      let same = object_class said.execution.objects c.target by.object of by.there (met_class p said.execution later called c.target said.between ∙ class_is) in
      let its = by.answers (inl same) in
      record {
        first = said.between.first;
        k = said.between.k;
        now = said.between.now;
        last = said.between.last;
        steps_are = said.between.steps_are;
        object = by.object;
        there = subst (λ (t : List Object). object_of t c.target ≡ Some by.object) said.between.happens.met by.there;
        reads = reading_is said.execution.objects by.object reading (same_Some (answer_given said.execution.objects by.object asked.Get) (answers.Reading reading) (sym (its.said m asked_by) ∙ read_is));
      }

  pub reads_law : WrittenIsReadBack → OfEachAnswer ReadingsWereHeld
  reads_law law w s tree starts before later i l request now h answer apart fit in_time accepted own which of m =
      reads_said l.peer _ answer later _ (between_law law w s tree starts before later i l request now h answer apart fit in_time accepted own which) of m

  -- ---- set

  record IsSet (o : Object) (p : Peer) (value : Value) (new : Object) : Type 0 where
    pub number : new.ono.0 ≡ o.ono.0
    pub value_is : new.value ≡ held_set_to o.value value
    pub whole : new ≡ record o { value = held_set_to o.value value }

  is_set : (o : Object) (p : Peer) (value : Value) → IsSet o p value (changed_by o p (asked.Set value))
  unfolding changed_by
  is_set o p value = record { number = refl; value_is = refl; whole = refl }

  sets_said : (p : Peer) (c : CommandFields) (answer : AnswerFields) (later : List Step) (called : Network) → SettingsWereMade p c answer later called
  sets_said p c answer later called value is_tree typed class_is asks ok said =
      let by = ok_said p c answer later called (class_of_value value) (asked.Set value) is_tree typed asks ok said in
      let same = object_class said.execution.objects c.target by.object (class_of_value value) by.there (met_class p said.execution later called c.target said.between ∙ class_is) in
      let its = by.answers (inl same) in
      let sets = settings_read by.object.value value same in
      let new : Object = changed_by by.object p (asked.Set value) in
      let set = is_set by.object p value in
      record {
        object = by.object;
        there = by.there;
        reading = sets.0;
        read = sets.1.before;
        new = new;
        left_is = its.left_is;
        new_there = subst (λ (t : List Object). object_of t c.target ≡ Some new) (sym its.left_is) (there_with said.execution.objects c.target by.object new by.there set.number);
        new_is = set.whole;
        reads = ap reading_held set.value_is ∙ sets.1.after;
        value_is = sets.1.set;
      }

  pub sets_law : OfEachAnswer SettingsWereMade
  sets_law w s tree starts before later i l request now h answer apart fit in_time accepted own which value = sets_said l.peer _ answer later _ value

  pub met_law : OfEachAnswer ClassesMetAreThoseAtFirst
  met_law w s tree starts before later i l request now h answer apart fit in_time accepted own which said number = met_class l.peer said.execution later _ number said.between
