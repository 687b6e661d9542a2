-- What a panel asks of an object, and what comes of it (AES70-2).
use Rattle.std.specs.Prelude.{◌≡◌, Err, None, Ok, Option, Result, Some, ℕ}
use Rattle.oca_panel.specs.Words.{Class, ControlFault, Handle, IsCallFor, Method, Outcome, Reading, Request}
use Rattle.oca_panel.specs.Words.{RequestFields, value_without_limits}
use Rattle.oca_types.specs.declared.class.Class.TheVariants as class
use Rattle.oca_model.specs.declared.request.Request.TheVariants as requests
use Rattle.oca_model.specs.declared.value.Value.{Value}
use Rattle.oca_model.specs.Values.{get_method, class_of_value}
use Rattle.oca_panel.specs.declared.trouble.Trouble.{Trouble}
use Rattle.oca_panel.specs.declared.trouble.Trouble.TheVariants as trouble
use Rattle.oca_panel.specs.Panels.{PanelState, AsksIn, BeginsIn, FinishesIn}
use Rattle.oca_panel.specs.Outcomes.{on_ok, class_answered, reading_answered, done_answered}

-- The request asks this of the object with this number, by the method that its class has for it, with its parameters.
pub record IsRequestTo (target : ℕ) (of : Class) (asked : Request) (request : RequestFields) : Type 0 where
  pub object : request.target ≡ target
  pub call : IsCallFor of asked
      (record {
        method = record { level = request.level; index = request.index };
        count = request.count;
      }) request.params

-- THIS WAS ASKED of the object with this number, of this class, and came out so.
pub record AsksFor (target : ℕ) (of : Class) (asked : Request) (old new : PanelState) (outcome : Outcome) : Type 0 where
  pub request : RequestFields
  pub calls : IsRequestTo target of asked request
  pub asks : AsksIn request old new outcome

-- the same, and the result is what the answer says
abbrev pub Reads : {X : Type 0} → ℕ → Class → Request → (Outcome → Result X Trouble) → PanelState → PanelState
    → Result X Trouble → Type 0
Reads target of asked answered old new result = (o : Outcome) × AsksFor target of asked old new o
    × (result ≡ answered o)

-- THE CLASS of an object was asked, as every object is: as a block, whose methods of OcaRoot are those of all classes.
abbrev pub AsksClass : ℕ → PanelState → PanelState → Result Class Trouble → Type 0
AsksClass target old new result = Reads target class.Block requests.GetClassIdentification class_answered old new result

-- A READING of an object of the class was asked by its get method, where it has one.
abbrev pub ReadsBy : ℕ → Class → Option Method → PanelState → PanelState → Result Reading Trouble → Type 0
ReadsBy target of None old new result = (new ≡ old) × (result ≡ Err trouble.NoValue)
ReadsBy target of (Some method) old new result = Reads target of requests.Get (reading_answered of) old new result

abbrev pub ReadsFor : ℕ → Result Class Trouble → PanelState → PanelState → Result Reading Trouble → Type 0
ReadsFor target (Ok of) old new result = ReadsBy target of (get_method of) old new result
ReadsFor target (Err t) old new result = (new ≡ old) × (result ≡ Err t)

-- A READING of an object was asked: its class first, and then what the class's get method answers.
abbrev pub ReadsObject : ℕ → PanelState → PanelState → Result Reading Trouble → Type 0
ReadsObject target old new result = (s : PanelState) × (of : Result Class Trouble) × AsksClass target old s of
    × ReadsFor target of s new result

-- AN OBJECT WAS SET to a value, by the set method of the value's class, or it was not.
abbrev pub SetsValue : ℕ → Value → PanelState → PanelState → Result Unit Trouble → Type 0
SetsValue target value old new result = Reads target (class_of_value value)
    (requests.Set value) done_answered old new result

-- The command that sets an object to a value was begun.
pub record BeginsSetting (target : ℕ) (value : Value) (returned : Result Handle ControlFault)
    (old new : PanelState) : Type 0 where
  pub request : RequestFields
  pub calls : IsRequestTo target (class_of_value value) (requests.Set value) request
  pub begins : BeginsIn request returned old new

-- The command under a handle was waited for, and was carried out or not.
abbrev pub Finishes : ℕ → PanelState → PanelState → Result Unit Trouble → Type 0
Finishes handle old new result = (o : Outcome) × FinishesIn handle old new o × (result ≡ done_answered o)

-- A VALUE of an object was asked: its reading, without the limits.
abbrev pub GetsValue : ℕ → PanelState → PanelState → Result Value Trouble → Type 0
GetsValue target old new result = (read : Result Reading Trouble) × ReadsObject target old new read
    × (result ≡ on_ok value_without_limits read)
