-- What the body of a request that orders something says, in JSON.
use Rattle.std.specs.Prelude.{◌≡◌, ℕ, List, [], ◌∷◌, codes, decimal, true, Option, Some, None, option_and_then}
use Rattle.std.specs.Str.{bytes_eq}
use Rattle.serde_json.specs.Data.{Data, Items, no_items, item}
use Rattle.serde_json.specs.Find.{as_array, as_bool, as_number, as_str, as_u64, get}
use Rattle.serde_json.specs.Read.{read}
use Rattle.oca_types.specs.declared.class.Class.{Class}
use Rattle.oca_model.specs.declared.value.Value.{Value}
use Rattle.oca_model.specs.Words.{IsRead}
use Rattle.oca_web.specs.Labels.{is_label, label_bytes}
use Rattle.oca_web.specs.declared.order.Label.{Label}
use Rattle.oca_web.specs.declared.order.Action.{Action}
use Rattle.oca_web.specs.declared.order.Action.TheVariants as actions
use Rattle.oca_web.specs.declared.order.Identity.{Identity}
use Rattle.oca_web.specs.declared.order.NewOrder.{NewOrder}

-- the number of the object
abbrev pub ono_in : Data → Option ℕ
ono_in d = option_and_then as_u64 (option_and_then as_number (get (codes "ono") d))

-- the moment after which the order must not be submitted; none where it gives none
abbrev pub last_in : Data → Option ℕ
last_in d = option_and_then as_u64 (option_and_then as_number (get (codes "before") d))

-- the run of the program that it is for; none where it names none
abbrev pub run_in : Data → Option (List ℕ)
run_in d = option_and_then as_str (get (codes "run") d)

-- a value that the word is for, in an object of some class
abbrev pub IsForWord : List ℕ → Value → Type 0
IsForWord word value = (class : Class) × IsRead class word (Some value)

-- ---- many orders in one body

-- the label is the text that is given, which may be one
abbrev pub IsLabelFrom : Option (List ℕ) → Label → Type 0
IsLabelFrom None label = ⊥
IsLabelFrom (Some text) label = (label_bytes label ≡ text) × (is_label text ≡ true)

-- the action that one of many says
abbrev pub IsActionIn : Data → Action → Type 0
IsActionIn d (actions.Set value) = (word : List ℕ) × (option_and_then as_str (get (codes "set") d) ≡ Some word) × IsForWord word value
IsActionIn d actions.Lock = option_and_then as_bool (get (codes "lock") d) ≡ Some true
IsActionIn d actions.Unlock = option_and_then as_bool (get (codes "unlock") d) ≡ Some true
IsActionIn d (actions.Rename label) = IsLabelFrom (option_and_then as_str (get (codes "label") d)) label

-- this text is given under a name
abbrev pub IsGivenAs : Option (List ℕ) → Label → Type 0
IsGivenAs None label = ⊥
IsGivenAs (Some text) label = label_bytes label ≡ text

-- the name of the position to which a switch is set; the empty one where none is given
abbrev pub IsGivenOrEmpty : Option (List ℕ) → Label → Type 0
IsGivenOrEmpty None label = label_bytes label ≡ []
IsGivenOrEmpty (Some text) label = label_bytes label ≡ text

-- WHAT THE PAGE SHOWED of the object, as one of many says
pub record IsIdentityIn (d : Data) (r : Identity) : Type 0 where
  pub role : IsGivenAs (option_and_then as_str (get (codes "role") d)) r.role
  pub block : IsGivenAs (option_and_then as_str (get (codes "block") d)) r.block
  pub position : IsGivenOrEmpty (option_and_then as_str (get (codes "name") d)) r.position

-- one of many, of the object that it names and that the page showed
pub record IsWanted (d : Data) (w : NewOrder) : Type 0 where
  pub object : ono_in d ≡ Some w.ono.0
  pub read : IsIdentityIn d w.identity
  pub action : IsActionIn d w.action

-- all of many, in their order
unfoldable pub AreWanted : Items → List NewOrder → Type 0
AreWanted no_items [] = Unit {0}
AreWanted no_items (w ∷ ws) = ⊥
AreWanted (item d ds) [] = ⊥
AreWanted (item d ds) (w ∷ ws) = IsWanted d w × AreWanted ds ws

-- it names this very run
abbrev pub NamesThis : ℕ → Data → Type 0
NamesThis run d = (named : List ℕ) × (run_in d ≡ Some named) × (bytes_eq (decimal run) named ≡ true)

-- the orders that a value says
pub record AreOrdersOf (run : ℕ) (parsed : Data) (ws : List NewOrder) (given : Option ℕ) : Type 0 where
  pub this_run : NamesThis run parsed
  pub items : Items
  pub list : option_and_then as_array (get (codes "orders") parsed) ≡ Some items
  pub orders : AreWanted items ws
  pub last : given ≡ last_in parsed

-- THE ORDERS ARE THOSE THAT THE BODY SAYS, all of them in their order, with the last moment that it gives, where it
-- gives one; it names this very run.
pub record AreOrdersIn (run : ℕ) (body : List ℕ) (ws : List NewOrder) (given : Option ℕ) : Type 0 where
  pub parsed : Data
  pub text : read body ≡ Some parsed
  pub orders : AreOrdersOf run parsed ws given
