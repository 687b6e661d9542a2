-- What the proofs of this crate name: of std, of the crates below, and of its own definitions.
pub use Rattle.std.proofs.Common.{◌≡◌, ℕ, ◌-◌, Bool, true, false, cond, List, [], ◌∷◌, ◌++◌, length, drop, refl, sym, ap, ◌∙◌, zero, suc, arith, subst, ◌+◌, ◌≤◌, ◌<◌, ◌^◌, rules}
pub use Rattle.std.proofs.Math.Bool.{or-false, and-true, or-true}
pub use Rattle.std.proofs.Math.Nat.{le-max_left, add-zero, zero-add, add_assoc}
pub use Rattle.std.proofs.lemmas.Bool.{or_parts, eqb-true, leb-true, le-leb, lt-ltb, le-ltb, ltb-true, ltb-false, lt-leb, and_parts, not-true, not-false}
pub use Rattle.std.proofs.lemmas.Bool.Decides.{nat_tests}
pub use Rattle.std.proofs.lemmas.Grind.{flat_map-append, take-set_at}
pub use Rattle.std.proofs.lemmas.List.{append_assoc, append-nil, length-map, length-append, map-append, take_more, take_all, take-append-le, length-take-le, get_or-map, take-map, drop-map}
pub use Rattle.std.proofs.lemmas.List.Sums.{sum_by-cons}
pub use Rattle.std.specs.List.{list_any, list_all, AllByRecursion, flat_map, slice_get}
pub use Rattle.std.specs.Prelude.{map, not, nat_eq, nat_lt, ◌&&◌, ◌||◌, Option, Some, None, is_some, count_by, nat_le, Ok, is_none, Result, Err, ⊤, ◌↔◌, slice_index_or, slice_set, take, IsOk, OnOk}
pub use Rattle.std.specs.Prelude.{OnErr, is_ok, IsTrue, ◌==◌, filter, max, min, ◌*◌, IsSome, option_map, if◌then◌else◌, IfSome}
pub use Rattle.arrayvec.specs.ArrayVec.{ArrayVec}
pub use Rattle.oca_device.specs.Words.{Datagram, Delivery, DeviceSizes, Failed, Object, PduFault, Peer, Quiet, Sent, most_parameter_bytes}
pub use Rattle.oca_device.specs.Answers.{response, answer_to_command, answers_to_messages, answer_to, answers_to_reading, packets_of, packets, verdict, counts, plus, count_of_command}
pub use Rattle.oca_device.specs.Answers.{counts_of_messages, answers_in, served, verdict_of_reading, count_of_message}
pub use Rattle.oca_device.specs.Devices.{DeviceState, Represents, session_within, table_within, table_of, IsIn, RepresentsWithin}
pub use Rattle.oca_device.specs.Effects.{effects_of_message, effects_of_messages, effects_of_reading, effect_with, outcome_of}
pub use Rattle.oca_device.specs.Events.{Event, Tick, Local}
pub use Rattle.oca_device.specs.Following.{Followed, ElectronicsState, Follows, handed, handed_of, ServesEndWith, ServesLongWith}
pub use Rattle.oca_device.specs.Groups.{last_with, from_with, with_answer, with_answers, encodings, IsAnswerMessage, IsGroup, IsFullBefore, AreGroups, pdu_of, with_response, groups_of}
pub use Rattle.oca_device.specs.Keeping.{KeepingState, Storing, StoreState, Group, is_writing, is_repeating, answers_wait, behind_after, behind_all, waiting, at_once, some_wait, behind_group}
pub use Rattle.oca_device.specs.Keeping.{storings_of, sent_for_group, all_deliveries, behind_groups, storings_in_all, sent_of_all, ServesKeeping, Stores}
pub use Rattle.oca_device.specs.LawByEvents.{accepts_handle, accepted_of, is_duplicate, is_reuse, with_command, Change, Executes, Releases, Sets, objects, reply, replies, ExecutionFor, executions}
pub use Rattle.oca_device.specs.LawByEvents.{executions_noted, written_of, Happening, Passes, Says, answers_by_events, changes, clock, admitted, accepted_by, served_of, heartbeat, counted_command}
pub use Rattle.oca_device.specs.LawByEvents.{all_counted, Arrival, session, is_open, messages_in, session_has_lapsed, lapsed_peers, has_room, Happened, nothing, tick, local, malformed, datagram}
pub use Rattle.oca_device.specs.LawByEvents.{EventsAreBytes, IsVerdict, Summary, summary_of, summary_by_events, greatest_handle}
pub use Rattle.oca_device.specs.Notes.{run, is_noted, accepted, Admitted, noted_peers, Heartbeat, Executed, Note, notes_of, heartbeat_noted, Noted, is_recent, unbroken, peers_except, noted_order}
pub use Rattle.oca_device.specs.Notes.{last_noted, has_lapsed}
pub use Rattle.oca_device.specs.Outboxes.{bytes_of_packets, KeptPackets, first_packets, may_be_answered}
pub use Rattle.oca_device.specs.PrivateKeeping.{packets_held, TakesExactly, TakesIn, SettlesGroup, StaysClosed}
pub use Rattle.oca_device.specs.PrivateLapses.{frees, releases}
pub use Rattle.oca_device.specs.PrivateServing.{IsShort, commands_of, all_commands, AreEncodings, AreGrouped, IsGrouped, Joins, JoinsLast, ServesMessage, ServesMessages, TakesDatagram}
pub use Rattle.oca_device.specs.PrivateTotals.{IsAtMostEach, ServesTurn, IsClosed}
pub use Rattle.oca_device.specs.Replies.{Serves, sent_for, sent_to, ServesEnd, sent_in_all}
pub use Rattle.oca_device.specs.Reports.{no_turns, one_turn, verdict_turn, added, capped, turn_report, events_after, events_after_all, report_of, receives_of}
pub use Rattle.oca_device.specs.Rooms.{is_short_enough, shortened_answers, is_too_long, shortened_reply, shortened_entry, shortened_entries, shortened_response, told, packets_within}
pub use Rattle.oca_device.specs.States.{State, judged_in, reply_of, after_command, after_messages, time_of, noted, admits, after_message, state_after, released_all, lapsed_at, moved_to, after_reading}
pub use Rattle.oca_device.specs.States.{after_local, known_after}
pub use Rattle.oca_device.specs.Written.{written_by_execution, written_by_command, written_by_messages, written_by_reading, written_by_message, numbers_of}
pub use Rattle.oca_device.specs.declared.counts.Counts.{Counts}
pub use Rattle.oca_device.specs.declared.effect.Effect.{Effect}
pub use Rattle.oca_device.specs.declared.keeping.HeldPacket.{HeldPacket}
pub use Rattle.oca_device.specs.declared.report.Report.{Report}
pub use Rattle.oca_device.specs.declared.verdict.Verdict.{Verdict}
pub use Rattle.oca_net.specs.EndStates.{EndState, Receives, Sends, SendsAllBut}
pub use Rattle.oca_net.specs.Ends.{is_failed, largest_datagram, last_u64, TakesAllBut}
pub use Rattle.oca_net.specs.declared.end.Heard.{Heard}
pub use Rattle.oca_pdu.specs.Datagrams.{datagram_messages, messages_left, read_or_none}
pub use Rattle.oca_pdu.specs.Encoding.{command_encoding, command_type, pdu_frame, pdu_encoding, IsDatagram, response_encoding}
pub use Rattle.oca_pdu.specs.Limits.{is_command, is_response, most_answered}
pub use Rattle.oca_pdu.specs.Messages.{Msg, Command, Response, KeepAlive, ResponseFields, Pdu, Commands, Responses, OneKeepAlive, messages_of, response_with}
pub use Rattle.oca_pdu.specs.Writing.{IsResponses, responses_size, is_of_responses}
pub use Rattle.oca_pdu.specs.declared.fault.PduFaultKind.TheVariants.{Empty, TooLong}
pub use Rattle.oca_session.specs.Accepted.{Entry, window, outside, has_handle, is_below, accepts, entry_under, asks_the_same, Fresh, Duplicate, Reused, judge_unaccepted, Judgement, Old, judgement}
pub use Rattle.oca_session.specs.Accepted.{retained_of, AgreesWithAccepted, greatest, higher_of}
pub use Rattle.oca_session.specs.Lapses.{forgets, lapses}
pub use Rattle.oca_session.specs.Table.{Session, Table, stays, staying, lapsed, is_of, session_of, with_changed, peers_of, is_lapsed, with_moment_and_sessions, opened_session, heard_at}
pub use Rattle.oca_session.specs.Table.{with_heartbeat, with_accepted, with_sessions, present, Hears, AgreesAt}
pub use Rattle.oca_tree.specs.LocalChanges.{after_change, LocalChange, ToValue, ToEnabled, front_fault_in, ToFailing, ToLabel, ToUnlocked}
pub use Rattle.oca_tree.specs.Locks.{is_held_by, without_lock_of, lock_of_one, lock_count}
pub use Rattle.oca_tree.specs.Objects.{object_of}
pub use Rattle.oca_types.specs.Moments.{HoldsFrom}
pub use Rattle.oca_types.specs.Peers.{CommandFields, same_peer, fields_of}
pub use Rattle.oca_types.specs.Replies.{Reply, reply_in}

-- What holds at true and at false holds of each test.
pub on_bool : (b : Bool) (P : Bool → Type 0) → P true → P false → P b
on_bool true P at_true at_false = at_true
on_bool false P at_true at_false = at_false
