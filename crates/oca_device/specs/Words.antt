-- What the definitions of this crate name of the crates below.
pub use Rattle.oca_net.specs.Deliveries.{Datagram, Delivery, Failed, Quiet, Sent}
pub use Rattle.oca_net.specs.EndStates.{EndState, Receives, SendsAllBut}
pub use Rattle.oca_net.specs.Ends.{TakesAllBut, largest_datagram, last_u64, one_more}
pub use Rattle.oca_pdu.specs.Encoding.{IsDatagram, pdu_encoding}
pub use Rattle.oca_pdu.specs.FirstFault.{IsFirstFault}
pub use Rattle.oca_pdu.specs.Laws.{AreBytes}
pub use Rattle.oca_pdu.specs.Messages.{Command, Commands, KeepAlive, Msg, OneKeepAlive, Pdu, Response, ResponseFields}
pub use Rattle.oca_pdu.specs.Messages.{Responses, messages_of}
pub use Rattle.oca_pdu.specs.Reading.{read_datagram}
pub use Rattle.oca_pdu.specs.declared.fault.PduFault.{PduFault}
pub use Rattle.oca_pdu.specs.declared.message.Form.TheVariants.{Millis, Seconds}
pub use Rattle.oca_session.specs.Accepted.{Duplicate, Entry, Fresh, Judgement, Old, Reused, asks_the_same, higher_of}
pub use Rattle.oca_session.specs.Accepted.{judgement, outside, retained_of, window}
pub use Rattle.oca_session.specs.Limits.{first_heartbeat, longest_silence, within_heartbeats}
pub use Rattle.oca_session.specs.Table.{Session}
pub use Rattle.oca_tree.specs.Execution.{execution}
pub use Rattle.oca_tree.specs.LocalChanges.{LocalChange, after_change}
pub use Rattle.oca_tree.specs.Locks.{released}
pub use Rattle.oca_tree.specs.Written.{wrote}
pub use Rattle.oca_tree.specs.declared.object.Object.{Object}
pub use Rattle.oca_types.specs.Peers.{CommandFields, same_peer}
pub use Rattle.oca_types.specs.Replies.{Reply}
pub use Rattle.oca_types.specs.Sizes.{DeviceSizes, most_command_parameter_bytes, most_parameter_bytes}
pub use Rattle.oca_types.specs.Status.{status_number}
pub use Rattle.oca_types.specs.declared.words.Peer.{Peer}
