-- What an object reads as, what it answers and what a request makes of it, in the words of both ends (AES70-2).
use Rattle.std.specs.Prelude.{ℕ, ◌-◌, Bool, false, List, [], length, map, slice_index_or, slice_set, Option, Some, None}
use Rattle.std.specs.Option.{option_map_or}
use Rattle.oca_types.specs.declared.words.Peer.{Peer}
use Rattle.oca_model.specs.declared.answer.Answer.{Answer}
use Rattle.oca_model.specs.declared.answer.Answer.TheVariants as answers
use Rattle.oca_model.specs.declared.member.Descendant.{Descendant}
use Rattle.oca_model.specs.declared.member.Member.{Member}
use Rattle.oca_model.specs.declared.reading.Reading.{Reading}
use Rattle.oca_model.specs.declared.reading.Reading.TheVariants as readings
use Rattle.oca_model.specs.declared.request.Request.{Request}
use Rattle.oca_model.specs.declared.request.Request.TheVariants as asked
use Rattle.oca_model.specs.declared.value.Value.{Value}
use Rattle.oca_model.specs.declared.value.Value.TheVariants as set
use Rattle.oca_model.specs.Settings.{reading_set_to}
use Rattle.oca_tree.specs.declared.object.LockKind.TheVariants.{Total, Readonly}
use Rattle.oca_tree.specs.declared.object.Object.{Object}
use Rattle.oca_tree.specs.declared.object.Switch.{Switch}
use Rattle.oca_tree.specs.declared.object.Value.{Value as Held}
use Rattle.oca_tree.specs.declared.object.Value.TheVariants as held
use Rattle.oca_tree.specs.Objects.{class_of, members, descendants}

-- ---- what it reads as

-- the current position, the first and the last
abbrev pub position_reading : Switch → Reading
position_reading switch =
    readings.Switch (record { setting = switch.position; least = 0; greatest = length switch.names.items - 1 })

-- WHAT A VALUE READS AS, with its limits; a block has nothing to read.
unfoldable pub reading_held : Held → Option Reading
reading_held held.Block = None
reading_held (held.Switch switch) = Some (position_reading switch)
reading_held (held.Reads r) = Some r

-- ---- what it answers

-- an object as it is listed of its block
abbrev pub member_of : Object → Member
member_of o = record { ono = o.ono; class = Some (class_of o.value) }

-- an object as it is listed of a block in which it lies, with the number of its container
abbrev pub descendant_of : Object → Descendant
descendant_of o = record { member = member_of o; container = o.container }

-- what is answered of the positions of a switch; no other value has positions
abbrev pub of_positions : Held → (Switch → Answer) → Answer
of_positions (held.Switch switch) answer = answer switch
of_positions _ answer = answers.Done

-- what a request for positions is answered; any other is answered that it was done
abbrev pub positions_answer : Held → Request → Answer
positions_answer value (asked.GetPositionName n) =
    of_positions value (λ switch. answers.Text (slice_index_or switch.names.items n []))
positions_answer value asked.GetPositionNames = of_positions value (λ switch. answers.Names switch.names)
positions_answer value (asked.GetPositionEnabled n) =
    of_positions value (λ switch. answers.Truth (slice_index_or switch.enableds.items n false))
positions_answer value asked.GetPositionEnableds = of_positions value (λ switch. answers.Flags switch.enableds)
positions_answer value _ = answers.Done

-- WHAT AN OBJECT ANSWERS to a request that is carried out; what sets or locks answers that it was done.
unfoldable pub answer_given : List Object → Object → Request → Answer
answer_given tree o asked.GetClassIdentification = answers.Class (class_of o.value)
answer_given tree o asked.GetLockable = answers.Truth o.lockable
answer_given tree o asked.GetRole = answers.Text o.role
answer_given tree o asked.GetEnabled = answers.Truth o.enabled
answer_given tree o asked.GetLabel = answers.Text o.label
answer_given tree o asked.GetOwner = answers.Owner o.container
answer_given tree o asked.GetMembers = answers.Members (record { items = map member_of (members tree o.ono.0) })
answer_given tree o asked.GetMembersRecursive =
    answers.Descendants (record { items = map descendant_of (descendants tree o.ono.0) })
answer_given tree o asked.Get = option_map_or answers.Reading (reading_held o.value) answers.Done
answer_given tree o request = positions_answer o.value request

-- ---- what a request makes of it

-- the value set to another one of its class; a value of another class sets nothing
abbrev pub held_set_to : Held → Value → Held
held_set_to (held.Switch switch) (set.Switch position) = held.Switch (record switch { position = position })
held_set_to (held.Reads r) value = held.Reads (reading_set_to r value)
held_set_to value _ = value

-- the value with the positions of a switch changed; no other value has positions
abbrev pub with_positions : (Switch → Switch) → Held → Held
with_positions change (held.Switch switch) = held.Switch (change switch)
with_positions change value = value

abbrev pub with_name : ℕ → List ℕ → Switch → Switch
with_name n name switch = record switch { names = record { items = slice_set switch.names.items n name } }

abbrev pub enabled_at : ℕ → Bool → Switch → Switch
enabled_at n truth switch = record switch { enableds = record { items = slice_set switch.enableds.items n truth } }

-- the value with what was set
abbrev pub value_changed_by : Held → Request → Held
value_changed_by value (asked.Set new) = held_set_to value new
value_changed_by value (asked.SetPositionName n name) = with_positions (with_name n name) value
value_changed_by value (asked.SetPositionNames names) = with_positions (λ switch. record switch { names = names }) value
value_changed_by value (asked.SetPositionEnabled n truth) = with_positions (enabled_at n truth) value
value_changed_by value (asked.SetPositionEnableds flags) =
    with_positions (λ switch. record switch { enableds = flags }) value
value_changed_by value _ = value

-- WHAT A REQUEST OF THIS PEER MAKES OF ITS OBJECT: its lock, its label or whether it is enabled, or else its value; one
-- that only reads leaves it as it is.
unfoldable pub changed_by : Object → Peer → Request → Object
changed_by o peer asked.LockTotal = record o { lock = Some (record { kind = Total; holder = peer }) }
changed_by o peer asked.LockReadonly = record o { lock = Some (record { kind = Readonly; holder = peer }) }
changed_by o peer asked.Unlock = record o { lock = None }
changed_by o peer (asked.SetEnabled truth) = record o { enabled = truth }
changed_by o peer (asked.SetLabel label) = record o { label = label }
changed_by o peer request = record o { value = value_changed_by o.value request }
