-- A request as a device holds it: its texts lie still in the bytes of the command.
use Rattle.oca_model.specs.declared.asked.Asked.{Asked}
use Rattle.oca_model.specs.declared.asked.Asked.TheVariants as asked
use Rattle.oca_model.specs.declared.request.Request.{Request}
use Rattle.oca_model.specs.declared.request.Request.TheVariants as requests

-- the request that it is
unfoldable pub asked_by : Asked → Request
asked_by asked.GetClassIdentification = requests.GetClassIdentification
asked_by asked.GetLockable = requests.GetLockable
asked_by asked.LockTotal = requests.LockTotal
asked_by asked.LockReadonly = requests.LockReadonly
asked_by asked.Unlock = requests.Unlock
asked_by asked.GetRole = requests.GetRole
asked_by asked.GetEnabled = requests.GetEnabled
asked_by (asked.SetEnabled truth) = requests.SetEnabled truth
asked_by asked.GetLabel = requests.GetLabel
asked_by (asked.SetLabel label) = requests.SetLabel label
asked_by asked.GetOwner = requests.GetOwner
asked_by asked.GetMembers = requests.GetMembers
asked_by asked.GetMembersRecursive = requests.GetMembersRecursive
asked_by asked.Get = requests.Get
asked_by (asked.Set value) = requests.Set value
asked_by (asked.GetPositionName position) = requests.GetPositionName position
asked_by (asked.SetPositionName position name) = requests.SetPositionName position name
asked_by asked.GetPositionNames = requests.GetPositionNames
asked_by (asked.SetPositionNames names) = requests.SetPositionNames (record { items = names })
asked_by (asked.GetPositionEnabled position) = requests.GetPositionEnabled position
asked_by (asked.SetPositionEnabled position truth) = requests.SetPositionEnabled position truth
asked_by asked.GetPositionEnableds = requests.GetPositionEnableds
asked_by (asked.SetPositionEnableds flags) = requests.SetPositionEnableds flags
