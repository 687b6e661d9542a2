-- What the proofs of this crate name: of std, of the crates below, and of its own definitions.
pub use Rattle.oca_pdu.specs.Checking.{behind}
pub use Rattle.oca_pdu.specs.Datagrams.{read_or_none}
pub use Rattle.oca_pdu.specs.Encoding.{response_encoding, pdu_encoding, CommandFits, ResponseFits, PduFits, IsDatagram, command_encoding, pdu_frame, command_type}
pub use Rattle.oca_pdu.specs.FirstFault.{MessagesFail, MessagesMissing, MessageCutOff, MessageOfWrongSize, BytesLeft, BeginsWithFrame, PduFails, WrongSync, VersionCutOff, WrongVersion, SizeCutOff, SizeTooSmall, PduCutOff, WrongType, NoMessages, WrongKeepAliveCount, WrongKeepAliveSize, InCommands, InResponses, IsFirstFault, NoBytes, TooManyBytes, InPdu}
pub use Rattle.oca_pdu.specs.Limits.{IsWithinLimits}
pub use Rattle.oca_pdu.specs.Messages.{ResponseFields, Pdu, Commands, Responses, Msg, Command, Response, OneKeepAlive, KeepAlive, messages_of, response_with}
pub use Rattle.oca_pdu.specs.Reading.{number_at, ◌>>=◌, least_size, message_in, content_of, fault}
pub use Rattle.oca_pdu.specs.declared.fault.PduFault.{PduFault}
pub use Rattle.oca_pdu.specs.declared.fault.PduFaultKind.{PduFaultKind}
pub use Rattle.oca_pdu.specs.declared.fault.PduFaultKind.TheVariants.{Empty, TooLong, Sync, Version, PduSize, PduType, Count, MessageSize, Truncated}
pub use Rattle.oca_pdu.specs.declared.message.Content.{Content}
pub use Rattle.oca_pdu.specs.declared.message.Form.{Form}
pub use Rattle.oca_pdu.specs.declared.message.Form.TheVariants.{Seconds, Millis}
pub use Rattle.oca_pdu.specs.declared.message.Kind.{Kind}
pub use Rattle.oca_types.specs.Peers.{CommandFields}
pub use Rattle.std.proofs.Common.{◌≡◌, ℕ, ◌+◌, ◌*◌, ◌≤◌, ◌<◌, ◌^◌, Bool, List, [], ◌∷◌, ◌++◌, length, sym, ap, ◌∙◌, append_assoc, arith, length-append, Result, Ok, Err, true, refl, false, ltb, take, drop, inl, inr, drop-cons, zero, suc, ◌-◌, subst, ◌⊎◌, eqb, map, eq-eqb, cond}
pub use Rattle.std.proofs.Math.Facts.{Fits-lt-pow}
pub use Rattle.std.proofs.lemmas.Bool.{le-ltb, cases_lt, ne_eqb, eqb-true}
pub use Rattle.std.proofs.lemmas.Grind.{flat_map-append}
pub use Rattle.std.proofs.lemmas.List.{append-nil, take_at, drop_at, take-append-le, take-append-drop, length-take, length-drop, drop-drop}
pub use Rattle.std.proofs.lemmas.List.Concat.{flat_map-cons}
pub use Rattle.std.proofs.lemmas.Nat.{from_be_bytes-to_be_bytes_2, from_be_bytes-to_be_bytes_4, be_bytes_2, be_bytes_4}
pub use Rattle.std.proofs.lemmas.Result.{err_from_is_err_and}
pub use Rattle.std.specs.Int.{w16, w32, to_be_bytes, from_be_bytes}
pub use Rattle.std.specs.List.{flat_map, AllByRecursion}
pub use Rattle.std.specs.Prelude.{is_ok, slice_index, ◌≢◌, Some, not, ◌||◌, Option, None}
