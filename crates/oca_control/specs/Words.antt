-- What the definitions of this crate name of the crates below.
pub use Rattle.oca_net.specs.Deliveries.{Datagram, Delivery, Failed, Quiet, Sent}
pub use Rattle.oca_net.specs.EndStates.{DeliversAndTakes, EndState, IsPresent, Receives, SendsAllBut}
pub use Rattle.oca_net.specs.Ends.{largest_datagram, last_u64, one_more}
pub use Rattle.oca_pdu.specs.Encoding.{IsDatagram, pdu_encoding}
pub use Rattle.oca_pdu.specs.Messages.{Command, Commands, KeepAlive, Msg, OneKeepAlive, Pdu, Response, ResponseFields}
pub use Rattle.oca_pdu.specs.Messages.{messages_of}
pub use Rattle.oca_pdu.specs.declared.message.Form.TheVariants.{Seconds}
pub use Rattle.oca_types.specs.Peers.{CommandFields, RequestFields, same_peer}
pub use Rattle.oca_types.specs.Sizes.{most_command_parameter_bytes, most_parameter_bytes}
pub use Rattle.oca_types.specs.declared.words.Handle.{Handle}
pub use Rattle.oca_types.specs.declared.words.Peer.{Peer}
