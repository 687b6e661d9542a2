-- What the definitions of this crate name of the crates below.
pub use Rattle.oca_control.specs.Answers.{AnswerFields, answer_fields}
pub use Rattle.oca_control.specs.Links.{LinkState, Request, command_under, decision, gone_on, late_at, received}
pub use Rattle.oca_control.specs.Links.{submission, submitted, taken}
pub use Rattle.oca_control.specs.declared.answer.Answer.{Answer}
pub use Rattle.oca_control.specs.declared.fault.ControlFault.{ControlFault}
pub use Rattle.oca_control.specs.declared.outcome.Outcome.{Outcome}
pub use Rattle.oca_model.specs.Members.{class_with}
pub use Rattle.oca_model.specs.Readings.{value_without_limits}
pub use Rattle.oca_model.specs.Requests.{AskedBy, IsRequest}
pub use Rattle.oca_model.specs.Values.{IsOfItsType, class_of_value, get_method}
pub use Rattle.oca_model.specs.declared.reading.Reading.{Reading}
pub use Rattle.oca_model.specs.declared.value.Value.{Value}
pub use Rattle.oca_net.specs.EndStates.{EndState, IsPresent, Sends}
pub use Rattle.oca_pair.specs.InTime.{AreInTime, departures_in}
pub use Rattle.oca_pair.specs.Networks.{Network, Setup, opening, zero_of}
pub use Rattle.oca_pair.specs.Premises.{Fit, are_apart}
pub use Rattle.oca_pair.specs.Saying.{ChangedNothing, IsOfOneExecutionSince, ReadSo, SetsObject, is_of_every_class}
pub use Rattle.oca_pair.specs.Saying.{objects_left}
pub use Rattle.oca_pair.specs.Steps.{Beside, Due, Renew, Step, Submit, Take, ToLink, after_step, after_steps}
pub use Rattle.oca_pair.specs.Steps.{content_read, outcome_of_step}
pub use Rattle.oca_pair.specs.declared.start.Start.{Start}
pub use Rattle.oca_panel.specs.Outcomes.{model_answered}
pub use Rattle.oca_panel.specs.Objects.{AsksClass, GetsValue, IsRequestTo, Reads, ReadsBy, SetsValue}
pub use Rattle.oca_panel.specs.Outcomes.{done_answered, members_answered, reading_answered, text_answered}
pub use Rattle.oca_panel.specs.Panels.{AsksIn, BeginsIn, FinishesIn, PanelState, SettlesIn, TurnsOnce}
pub use Rattle.oca_panel.specs.Walks.{Describes}
pub use Rattle.oca_tree.specs.Objects.{members, object_of, with_object}
pub use Rattle.oca_tree.specs.Readers.{class_of_ono}
pub use Rattle.oca_tree.specs.Trees.{IsTree}
pub use Rattle.oca_tree.specs.Typed.{answer_given, changed_by}
pub use Rattle.oca_tree.specs.TypedLaws.{IsOfItsTypes}
pub use Rattle.oca_tree.specs.declared.object.LockKind.TheVariants.{Total}
pub use Rattle.oca_tree.specs.declared.object.Object.{Object}
pub use Rattle.oca_types.specs.Peers.{CommandFields, RequestFields}
pub use Rattle.oca_types.specs.Sizes.{DeviceSizes}
pub use Rattle.oca_types.specs.declared.class.Class.{Class}
pub use Rattle.oca_types.specs.declared.class.Method.{Method}
pub use Rattle.oca_types.specs.declared.words.Handle.{Handle}
pub use Rattle.oca_types.specs.declared.words.Peer.{Peer}
