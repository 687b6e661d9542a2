-- What the definitions of this crate name of the crates below.
pub use Rattle.oca_control.specs.Asking.{Begins, Waits}
pub use Rattle.oca_control.specs.Links.{LinkState, late_at, new_link, submitted}
pub use Rattle.oca_control.specs.Turning.{Turns}
pub use Rattle.oca_control.specs.Untaken.{answer_under}
pub use Rattle.oca_control.specs.declared.fault.ControlFault.{ControlFault}
pub use Rattle.oca_control.specs.declared.outcome.Outcome.{Outcome}
pub use Rattle.oca_control.specs.declared.report.DriveReport.{DriveReport}
pub use Rattle.oca_model.specs.Answers.{answer_in, switch_names_in}
pub use Rattle.oca_model.specs.Members.{class_id_in, class_with, members_in}
pub use Rattle.oca_model.specs.Readings.{reading_in, value_without_limits}
pub use Rattle.oca_model.specs.Requests.{IsCallFor, IsRefusedCall}
pub use Rattle.oca_model.specs.declared.answer.Answer.{Answer}
pub use Rattle.oca_model.specs.declared.reading.Reading.{Reading}
pub use Rattle.oca_model.specs.declared.request.Request.{Request}
pub use Rattle.oca_model.specs.declared.request.RequestFault.{RequestFault}
pub use Rattle.oca_net.specs.EndStates.{EndState, IsPresent, Receives, Sends}
pub use Rattle.oca_net.specs.declared.end.Heard.{Heard}
pub use Rattle.oca_types.specs.Peers.{RequestFields, same_peer}
pub use Rattle.oca_types.specs.declared.class.Class.{Class}
pub use Rattle.oca_types.specs.declared.class.Method.{Method}
pub use Rattle.oca_types.specs.declared.words.Handle.{Handle}
pub use Rattle.oca_types.specs.declared.words.Ono.{Ono}
pub use Rattle.oca_types.specs.declared.words.Peer.{Peer}
