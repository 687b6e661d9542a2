-- What the definitions of this crate name of the crates below.
pub use Rattle.oca_control.specs.Answering.{IsAskedEvery, IsSentInTime}
pub use Rattle.oca_control.specs.Answers.{AnswerFields}
pub use Rattle.oca_control.specs.Links.{Decision, GivesCommand, GivesKeepAlive, GivesNothing, IsLost, LinkState}
pub use Rattle.oca_control.specs.Links.{Request, after_submission, command_under, decision, due_answer, due_bytes}
pub use Rattle.oca_control.specs.Links.{gone_on, late_at, new_link, present_moment, received, reception, submission}
pub use Rattle.oca_control.specs.Links.{taken}
pub use Rattle.oca_control.specs.Untaken.{Untaken, answer_under}
pub use Rattle.oca_control.specs.declared.fault.ControlFault.{ControlFault}
pub use Rattle.oca_device.specs.Answers.{packets, response, verdict}
pub use Rattle.oca_device.specs.Devices.{Represents}
pub use Rattle.oca_device.specs.Events.{Datagram, Event, Local, Tick}
pub use Rattle.oca_device.specs.Groups.{pdu_of}
pub use Rattle.oca_device.specs.LawByEvents.{Arrival, Change, EventsAreBytes, Executes, Happened, Happening, Passes}
pub use Rattle.oca_device.specs.LawByEvents.{Releases, Says, Sets, accepted_by, admitted, changes, clock, has_room}
pub use Rattle.oca_device.specs.LawByEvents.{last_moment, session}
pub use Rattle.oca_device.specs.States.{reply_of, state_after}
pub use Rattle.oca_model.specs.Answers.{answer_in}
pub use Rattle.oca_model.specs.Readings.{value_without_limits}
pub use Rattle.oca_model.specs.Requests.{AskedBy, IsCallFor, IsRequest}
pub use Rattle.oca_model.specs.Settings.{reading_set_to}
pub use Rattle.oca_model.specs.Values.{class_of_value}
pub use Rattle.oca_model.specs.declared.reading.Reading.{Reading}
pub use Rattle.oca_model.specs.declared.value.Value.{Value}
pub use Rattle.oca_pdu.specs.Encoding.{pdu_encoding}
pub use Rattle.oca_pdu.specs.Messages.{Commands, Msg}
pub use Rattle.oca_pdu.specs.Reading.{read_datagram}
pub use Rattle.oca_pdu.specs.declared.fault.PduFault.{PduFault}
pub use Rattle.oca_tree.specs.Execution.{execution, status_of}
pub use Rattle.oca_tree.specs.LocalChanges.{LocalChange, ToEnabled, ToFailing, ToLabel, ToUnlocked, ToValue}
pub use Rattle.oca_tree.specs.LocalChanges.{after_change, front_fault}
pub use Rattle.oca_tree.specs.Locks.{released}
pub use Rattle.oca_tree.specs.Objects.{class_of, object_of, with_object}
pub use Rattle.oca_tree.specs.Readers.{class_of_ono}
pub use Rattle.oca_tree.specs.Settings.{set_fault}
pub use Rattle.oca_tree.specs.Trees.{IsTree}
pub use Rattle.oca_tree.specs.Typed.{answer_given, changed_by, held_set_to, reading_held}
pub use Rattle.oca_tree.specs.TypedLaws.{IsOfItsTypes}
pub use Rattle.oca_tree.specs.declared.front.FrontFault.{FrontFault}
pub use Rattle.oca_tree.specs.declared.object.Object.{Object}
pub use Rattle.oca_tree.specs.declared.setting.SetFault.{SetFault}
pub use Rattle.oca_types.specs.Peers.{CommandFields, same_peer}
pub use Rattle.oca_types.specs.Replies.{Reply}
pub use Rattle.oca_types.specs.Sizes.{DeviceSizes, span_size}
pub use Rattle.oca_types.specs.Status.{status_number}
pub use Rattle.oca_types.specs.declared.class.Class.{Class}
pub use Rattle.oca_types.specs.declared.class.Method.{Method}
pub use Rattle.oca_types.specs.declared.words.Handle.{Handle}
pub use Rattle.oca_types.specs.declared.words.Peer.{Peer}
