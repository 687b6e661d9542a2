-- What the tree's own functions say to one another. No public clause cites it.
use Rattle.std.specs.Prelude.{◌≡◌, ℕ, ◌==◌, Bool, true, false, if◌then◌else◌, List, [], ◌∷◌, ◌++◌, map, length, ◌+◌}
use Rattle.std.specs.Prelude.{◌<◌, nat_lt, not, Option, Some, None, Result, Ok, Err}
use Rattle.std.specs.List.{flat_map, filter}
use Rattle.std.specs.Option.{option_map_or}
use Rattle.std.specs.Result.{result_ok}
use Rattle.oca_types.specs.declared.words.Peer.{Peer}
use Rattle.oca_types.specs.declared.fault.PutFault.{PutFault}
use Rattle.oca_types.specs.declared.class.Access.{Access}
use Rattle.oca_types.specs.declared.class.Access.TheVariants.{Read}
use Rattle.oca_types.specs.declared.class.Class.TheVariants as class
use Rattle.oca_types.specs.declared.class.Class.{Class}
use Rattle.oca_types.specs.declared.class.Method.{Method}
use Rattle.oca_types.specs.declared.class.Method.TheVariants as method
use Rattle.oca_types.specs.declared.class.MethodKind.TheVariants.{Known}
use Rattle.oca_types.specs.Sizes.{most_parameter_bytes}
use Rattle.oca_types.specs.Methods.{access}
use Rattle.oca_types.specs.declared.status.Status.{Status}
use Rattle.oca_types.specs.declared.status.Status.TheVariants as status
use Rattle.oca_types.specs.Peers.{CommandFields}
use Rattle.oca_model.specs.declared.answer.Answer.{Answer}
use Rattle.oca_model.specs.declared.answer.Answer.TheVariants as answers
use Rattle.oca_model.specs.declared.asked.Asked.{Asked}
use Rattle.oca_model.specs.declared.reading.Reading.{Reading}
use Rattle.oca_model.specs.declared.reading.Reading.TheVariants as readings
use Rattle.oca_model.specs.Lists.{IsText, Each}
use Rattle.oca_model.specs.Readings.{IsReading}
use Rattle.oca_model.specs.declared.request.Request.{Request}
use Rattle.oca_model.specs.declared.request.Request.TheVariants as asked
use Rattle.oca_model.specs.declared.value.Value.{Value as Setting}
use Rattle.oca_model.specs.declared.value.ValueFault.{ValueFault}
use Rattle.oca_model.specs.declared.value.ValueFault.TheVariants.{Malformed, Unlisted}
use Rattle.oca_model.specs.Answers.{answer_encoding, answer_count}
use Rattle.oca_model.specs.HeldRequests.{asked_by}
use Rattle.oca_model.specs.Members.{member_encoding, descendant_encoding}
use Rattle.oca_model.specs.Requests.{counted, request_in}
use Rattle.oca_model.specs.Values.{value_in}
use Rattle.oca_tree.specs.declared.lengths.Lengths.{Lengths}
use Rattle.oca_tree.specs.declared.object.Object.{Object}
use Rattle.oca_tree.specs.declared.object.Value.{Value}
use Rattle.oca_tree.specs.declared.object.Value.TheVariants as values
use Rattle.oca_tree.specs.declared.builder.AddFault.{AddFault}
use Rattle.oca_tree.specs.declared.builder.Kind.{Kind}
use Rattle.oca_tree.specs.declared.builder.Kind.TheVariants as given
use Rattle.oca_tree.specs.declared.builder.Spec.{Spec}
use Rattle.oca_tree.specs.declared.start.Start.{Start}
use Rattle.oca_tree.specs.declared.start.StartFault.{StartFault}
use Rattle.oca_tree.specs.declared.start.StartFault.TheVariants.{BadFlags}
use Rattle.oca_tree.specs.Places.{places, reaches}
use Rattle.oca_tree.specs.Objects.{Store, members, descendants}
use Rattle.oca_tree.specs.Locks.{lock_refuses}
use Rattle.oca_tree.specs.Requests.{fits_positions, asks_out_of_range, asks_invalid}
use Rattle.oca_tree.specs.Typed.{reading_held, answer_given, member_of, descendant_of}
use Rattle.oca_tree.specs.Execution.{kind_at, asked_at, is_failing, status_of, by_status, refused, execution}
use Rattle.oca_tree.specs.Written.{is_ok}
use Rattle.oca_tree.specs.Trees.{IsTree, IsSoundValue, is_position_reading}
use Rattle.oca_tree.specs.Copies.{names_in}
use Rattle.oca_tree.specs.Building.{add_fault, object_of_spec, value_of, is_bad_value}
use Rattle.oca_tree.specs.Starts.{with_flags, has_other_flags, restored, start_fault}

-- members and descendants in one: whether an object is listed, and how
abbrev pub is_listed : List Object → ℕ → Bool → Object → Bool
is_listed tree block true o = reaches (places tree) block o.container.0
is_listed tree block false o = o.container.0 == block

abbrev pub item_encoding : Bool → Object → List ℕ
item_encoding true o = descendant_encoding (descendant_of o)
item_encoding false o = member_encoding (member_of o)

-- the answer that lists them
abbrev pub listed_answer : Bool → List Object → ℕ → Answer
listed_answer true tree block = answers.Descendants (record { items = map descendant_of (descendants tree block) })
listed_answer false tree block = answers.Members (record { items = map member_of (members tree block) })

-- how many bytes the items of all that is listed take
abbrev pub listed_bytes : Bool → List Object → ℕ → ℕ
listed_bytes deep tree block = length (flat_map (item_encoding deep) (filter (is_listed tree block deep) tree))

-- of each object, how many bytes are listed of its members, and of all that lie in it
abbrev pub lengths_of : List Object → Object → Lengths
lengths_of tree o = record { members = listed_bytes false tree o.ono.0; descendants = listed_bytes true tree o.ono.0 }

abbrev pub lengths : List Object → List Lengths
lengths tree = map (lengths_of tree) tree

abbrev pub nothing_listed : Lengths
nothing_listed = record { members = 0; descendants = 0 }

-- The last object was just added: nothing is listed of it yet, and of the others what was before it.
pub record LastIsNew (tree : List Object) (all : List Lengths) : Type 0 where
  pub front : List Object
  pub last : Object
  pub is : tree ≡ front ++ last ∷ []
  pub others : all ≡ lengths front ++ nothing_listed ∷ []

abbrev pub length_in : Lengths → Bool → ℕ
length_in l true = l.descendants
length_in l false = l.members

-- what comes of a put of so many parameters
abbrev pub counted_as : {X : Type 0} → ℕ → Result X PutFault → Result ℕ Status
counted_as count (Ok _) = Ok count
counted_as count (Err _) = Err status.BufferOverflow

-- The answer was appended, and this is its ParamCount; or there is no room for it.
abbrev pub PutsAnswer : Result ℕ Status → List ℕ → List ℕ → Answer → Type 0
PutsAnswer (Ok count) old new a = (new ≡ old ++ answer_encoding a) × (count ≡ answer_count a)
PutsAnswer (Err s) old new a =
    (s ≡ status.BufferOverflow) × (most_parameter_bytes < length old + length (answer_encoding a))

-- what is answered of what a value reads as
abbrev pub reading_answer : Value → Answer
reading_answer value = option_map_or answers.Reading (reading_held value) answers.Done

-- whether it is the state of a mute or of a polarity
abbrev pub has_state : Value → Bool
has_state (values.Reads (readings.Mute state)) = true
has_state (values.Reads (readings.Polarity state)) = true
has_state _ = false

-- whether a method of this access only reads
abbrev pub only_reads : Access → Bool
only_reads Read = true
only_reads _ = false

-- what a method asks that only reads and has no parameters, the same of every object, or nothing
abbrev pub plain_request : Method → Option Request
plain_request method =
    if only_reads (access method) then result_ok (request_in class.Block method 0 []) else None

-- the status of parameters that are not understood
abbrev pub status_of_fault : ValueFault → Status
status_of_fault Malformed = status.ParameterError
status_of_fault Unlisted = status.ParameterOutOfRange

-- the status that refuses a request, whatever its answer is
abbrev pub refusal_of : Object → Request → Option Status
refusal_of o r =
    if not (fits_positions o.value r) then Some status.ParameterError
    else (if asks_out_of_range o.value r then Some status.ParameterOutOfRange
    else (if asks_invalid o r then Some status.InvalidRequest else None))

-- The object has the method, and no lock keeps the peer from it.
abbrev pub MayCall : Method → Object → Peer → CommandFields → Type 0
MayCall method o peer c =
    (kind_at (Some o) c ≡ Known method (access method)) × (lock_refuses o.lock peer (access method) ≡ false)

-- The command is refused at the object, whatever the tree.
abbrev pub IsRefusedAt : Status → Object → Peer → CommandFields → Type 0
IsRefusedAt s o peer c = (tree : List Object) →
    by_status tree peer (Some o) (asked_at (Some o) (kind_at (Some o) c) c) (status_of tree peer (Some o) c)
    ≡ refused tree s

abbrev pub IsMethodFor : Result Method Status → Object → Peer → CommandFields → Type 0
IsMethodFor (Ok method) o peer c = MayCall method o peer c
IsMethodFor (Err s) o peer c = IsRefusedAt s o peer c × (is_ok s ≡ false)

-- The request is what the command asks of the object, and only its answer can be too long, or the object's hardware
-- refuse it.
pub record IsAskedRightly (r : Request) (o : Object) (peer : Peer) (c : CommandFields) : Type 0 where
  pub asked : asked_at (Some o) (kind_at (Some o) c) c ≡ Ok r
  pub fits : fits_positions o.value r ≡ true
  pub within : asks_out_of_range o.value r ≡ false
  pub valid : asks_invalid o r ≡ false
  pub ends : (tree : List Object) →
      status_of tree peer (Some o) c
      ≡ (if nat_lt most_parameter_bytes (length (answer_encoding (answer_given tree o r))) then status.BufferOverflow
      else (if is_failing (Some o) (kind_at (Some o) c) then status.ProcessingFailed else status.Ok))

-- A command is understood at an object, or it is refused whatever the tree.
abbrev pub IsRequestFor : Result Asked Status → Object → Peer → CommandFields → Type 0
IsRequestFor (Ok r) o peer c = IsAskedRightly (asked_by r) o peer c
IsRequestFor (Err s) o peer c = IsRefusedAt s o peer c × (is_ok s ≡ false)

-- whether it is the set method of some class
abbrev pub sets_value : Method → Bool
sets_value method.SetState = true
sets_value method.SetPosition = true
sets_value method.SetSetting = true
sets_value _ = false

-- what a set method with these parameters sets an object of the class to
abbrev pub setting_in : Class → ℕ → List ℕ → Result Setting ValueFault
setting_in of count bytes = counted 1 count (value_in of bytes)

-- The command calls a set method, which the object has, and no lock keeps the peer from it.
pub record MaySet (o : Object) (peer : Peer) (c : CommandFields) : Type 0 where
  pub method : Method
  pub sets : sets_value method ≡ true
  pub may : MayCall method o peer c

-- A command is understood as one that sets the object, or it is refused whatever the tree.
abbrev pub IsSettingFor : Result Setting Status → Object → Peer → CommandFields → Type 0
IsSettingFor (Ok v) o peer c = IsAskedRightly (asked.Set v) o peer c
IsSettingFor (Err s) o peer c = IsRefusedAt s o peer c × (is_ok s ≡ false)

-- A command was carried out, or refused with nothing changed, as its execution says.
abbrev pub Executes : Result ℕ Status → List Object → List Object → List ℕ → Peer → CommandFields → Type 0
Executes (Ok count) old new out peer c =
    execution old peer c ≡ record { tree = new; status = status.Ok; count = count; parameters = out }
Executes (Err s) old new out peer c = (execution old peer c ≡ refused old s) × (new ≡ old) × (is_ok s ≡ false)

-- A value is made where it is in range.
abbrev pub MakesValue : Option Value → Value → Type 0
MakesValue None value = is_bad_value value ≡ true
MakesValue (Some v) value = (v ≡ value) × (is_bad_value value ≡ false) × IsSoundValue v × Each IsText (names_in v)

-- whether an object of the kind holds a reading: it is no block and no switch
abbrev pub holds_reading : Kind → Bool
holds_reading given.Block = false
holds_reading (given.Switch _ _) = false
holds_reading _ = true

-- An object of the kind reads so, by numbers of their types, and is no switch.
pub record HoldsReading (kind : Kind) (r : Reading) : Type 0 where
  pub value : value_of kind ≡ values.Reads r
  pub typed : IsReading r
  pub other : is_position_reading r ≡ false

-- An object was made for a place that is free, or the first line that applies refuses it.
abbrev pub Makes : Result Object AddFault → Store → ℕ → ℕ → Spec → Type 0
Makes (Ok o) old container ono spec =
    (add_fault old.room old.list container ono spec ≡ None) × (o ≡ object_of_spec container ono spec)
    × IsTree (old.list ++ o ∷ []) × IsSoundValue o.value
Makes (Err e) old container ono spec = add_fault old.room old.list container ono spec ≡ Some e

-- Flags of positions were put into a value, or are not as many as it has.
abbrev pub RestoresFlags : {X : Type 0} → Result X StartFault → Value → Value → List Bool → Type 0
RestoresFlags (Ok _) old new flags =
    (has_other_flags (Some flags) old ≡ false) × (new ≡ with_flags (Some flags) old) × IsSoundValue new
RestoresFlags (Err e) old new flags = (e ≡ BadFlags) × (has_other_flags (Some flags) old ≡ true)

-- What was stored was put into an object, or does not fit it.
abbrev pub Restores : {X : Type 0} → Result X StartFault → Object → Object → Start → Type 0
Restores (Ok _) old new start =
    (start_fault old.value start ≡ None) × (new ≡ restored start old) × IsSoundValue new.value × IsText start.label.now
Restores (Err e) old new start = start_fault old.value start ≡ Some e
