-- What is asked of an object to know it (AES70-2).
use Rattle.std.specs.Prelude.{◌≡◌, ℕ, Option, Some, None, Ok}
use Rattle.oca_types.specs.declared.class.Class.{Class}
use Rattle.oca_types.specs.declared.class.Class.TheVariants as class
use Rattle.oca_model.specs.declared.request.Request.{Request}
use Rattle.oca_model.specs.declared.request.Request.TheVariants as requests
use Rattle.oca_types.specs.declared.words.Handle.{Handle}
use Rattle.oca_panel.specs.Panels.{PanelState}
use Rattle.oca_panel.specs.Beginnings.{BeginsAsking}
use Rattle.oca_web.specs.declared.question.Property.{Property}
use Rattle.oca_web.specs.declared.question.Property.TheVariants as asks

-- what is asked: nothing that sets
abbrev pub request_for : Property → Request
request_for asks.Members = requests.GetMembers
request_for asks.Role = requests.GetRole
request_for asks.Label = requests.GetLabel
request_for asks.Lockable = requests.GetLockable
request_for asks.Enabled = requests.GetEnabled
request_for asks.Names = requests.GetPositionNames
request_for asks.Flags = requests.GetPositionEnableds
request_for asks.Value = requests.Get

-- the class by whose methods an object is asked
abbrev pub class_for : Option Class → Class
class_for None = class.Block
class_for (Some of) = of

-- ONE QUESTION WAS ASKED, where the link took it; else nothing was.
abbrev pub AsksOne : ℕ → Option Class → Property → Option Handle → PanelState → PanelState → Type 0
AsksOne ono of ask (Some handle) old new = BeginsAsking ono (class_for of) (request_for ask) (Ok handle) old new
AsksOne ono of ask None old new = new ≡ old
