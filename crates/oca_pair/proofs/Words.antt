-- What the proofs of this crate name: of std, of the crates below, and of its own definitions.
pub use Rattle.std.proofs.Common.{append-nil, ◌≡◌, ℕ, ◌+◌, ◌*◌, ◌<◌, ◌≤◌, ◌≢◌, Bool, true, false, cond, List, [], ◌∷◌, ◌++◌, length, Option, Some, None, refl, sym, ap, ◌∙◌, subst, arith, ◌⊎◌, inl}
pub use Rattle.std.proofs.Common.{inr, ◌-◌, append_assoc, take, zero, suc, ◌^◌, lit<, lit≤, ◌==◌, drop, get_or, take_all}
pub use Rattle.std.proofs.Math.Dec.{eqb}
pub use Rattle.std.proofs.Math.Nat.{le-max_left, le_refl}
pub use Rattle.std.proofs.lemmas.Bool.{eqb-true, or_parts, cases_lt, and_from, lt-ltb, and_parts, or_from, or_right, eq-eqb, or_left, not-true, leb-true, both_ways, eqb-false}
pub use Rattle.std.proofs.lemmas.Bool.Decides.{nat_tests}
pub use Rattle.std.proofs.lemmas.List.{take-append-drop, length-map, map-append, get_or_at, set_at, drop_more, drop_all, map_more, length-take-le, length-append}
pub use Rattle.std.proofs.lemmas.List.Elements.{filter-append, recursion_from_All}
pub use Rattle.std.proofs.lemmas.List.Folds.{list_any-append}
pub use Rattle.std.proofs.lemmas.Option.{slice_get-map, same_Some, slice_get-get_or, slice_get_read}
pub use Rattle.std.specs.List.{AllByRecursion, slice_get, flat_map, list_any, list_all, slice_set, Contains, All}
pub use Rattle.std.specs.Option.{option_map, option_or, option_map_or}
pub use Rattle.std.specs.Prelude.{nat_eq, nat_lt, nat_le, max, ◌&&◌, map, is_some, Result, Ok, Err, not, ◌||◌, filter, is_none, if◌then◌else◌}
pub use Rattle.oca_control.specs.Answering.{IsAskedEvery, IsWaiting}
pub use Rattle.oca_control.specs.Answers.{AnswerFields, answer_of_response}
pub use Rattle.oca_control.specs.Limits.{longest_life}
pub use Rattle.oca_control.specs.Links.{LinkState, Request, command_under, submission, after_submission, handle_after, Decision, GivesCommand, GivesKeepAlive, GivesNothing, IsLost, decision_among}
pub use Rattle.oca_control.specs.Links.{decision, after_due, gone_on, received, taken, present_moment, submission_under, submitted, hears_content, new_link, due_answer, due_bytes, reception, late_at}
pub use Rattle.oca_control.specs.Untaken.{Untaken, new_untaken, first_due, marked_sent, answer_under, without_handle, span_has_room, is_due, answered, holds, hears_all, is_late}
pub use Rattle.oca_device.specs.Answers.{response, answer_to_command, answers_to_messages, answers_to_reading, packets_of, packets, count_of_command, counts, plus, served, verdict_of_reading, verdict}
pub use Rattle.oca_device.specs.LawByEvents.{Arrival, Happening, Passes, clock, admitted, session, last_moment, has_room, Says, Happened, nothing, tick, local, malformed, datagram, EventsAreBytes}
pub use Rattle.oca_device.specs.LawByEvents.{changes, Sets, Change, Executes, Releases, lapsed_peers, accepts_handle, accepted_of, accepted_by, is_open, is_known, opened, known}
pub use Rattle.oca_device.specs.Notes.{Note, is_recent, Noted, Admitted, Heartbeat, Executed, notes_of, run, accepted, is_noted, unbroken, accepted_after, peers_except}
pub use Rattle.oca_device.specs.States.{State, moved_to, admits, after_reading, state_after, noted, judged_in, reply_of, after_command, after_message, after_messages, time_of}
pub use Rattle.oca_device.specs.declared.verdict.Verdict.{Verdict}
pub use Rattle.oca_model.specs.Answers.{answer_count, answer_encoding, answer_in, IsAnswer, AnswersAreRead}
pub use Rattle.oca_pair.specs.Words.{Class, CommandFields, ControlFault, Datagram, Event, Handle, Local, LocalChange, Object, PduFault, Peer, Reading, Reply, Tick}
pub use Rattle.oca_pair.specs.Words.{after_change, class_of, class_of_ono, object_of, read_datagram, released, same_peer, status_number, with_object}
pub use Rattle.oca_pair.specs.AnsweredInTime.{left_off, left_since, SpanFitsSince, AnswersUntakenInTime, RoundTripsInTime, ComesWithRoom, FewerMayStillCome, EveryRenewalIsNoted}
pub use Rattle.oca_pair.specs.GettingThrough.{calls_in, copy_of, GetsThrough, called, received_from, receiving, call_in, WasSent, WaitsInTime, ComesInSession}
pub use Rattle.oca_pair.specs.Happenings.{sayings, happenings}
pub use Rattle.oca_pair.specs.InTime.{Departure, leaving, leaving_beside, departures_in, clock_at, ArrivesInTime, longest_delay, StepIsInTime, AreInTime, IsAnswerOfOneExecution, accepted_in_session}
pub use Rattle.oca_pair.specs.Laws.{CarriesUntaken, Execution, answer_of, handles_of, EachToNext, IsAnswered, execution_of, executions_in, executions_for, executions_under, WasSubmitted, WasTaken}
pub use Rattle.oca_pair.specs.Laws.{IsAnswerOfItsCommand, AnswersItsCommands, AnswersUntaken, ExecutesOnce, OnlyRenewalsRenew, EveryFirstLinkIsAsSetUp, AreConsecutive, AreIncreasing, IsNoRenewal}
pub use Rattle.oca_pair.specs.Laws.{IsExecutedNow, WasExecuted}
pub use Rattle.oca_pair.specs.Networks.{Network, PeerLink, SentDatagram, Renewal, Setup, started, opening, zero_after, zero_of, left_by, all_left_out, device_zero_of, SubmittedCommand, TakenAnswer}
pub use Rattle.oca_pair.specs.Networks.{device_address, run_setup, left_behind, is_renewed, times_renewed}
pub use Rattle.oca_pair.specs.Premises.{are_apart, StepFits, Fit, FindsRoom, arrivals_of, RequestFits, KeepsItsSession, SpanFits, is_of_another_peer, StartFits, is_among_peers, SpeakLately}
pub use Rattle.oca_pair.specs.Premises.{FewFindRoom}
pub use Rattle.oca_pair.specs.PrivateRunning.{AreOfLinks, Shows, Took, in_its_place, is_of_peer, heard, first_heard}
pub use Rattle.oca_pair.specs.RoundTrip.{RenewsNothing, HoldsUntaken, HoldsItsAnswer, meanwhile, come_back, ComesBack, IsAnswerTo, GotItsAnswer, asked, RoundTrips}
pub use Rattle.oca_pair.specs.Saying.{objects_held, HappensWith, HappensIn, IsOfOneExecutionSince, RefusalsChangeNothing, ClassesStay, OfEachAnswer, objects_left, is_of_every_class, CommandAsks}
pub use Rattle.oca_pair.specs.Saying.{AnswersTyped, IsAnsweredByItsObject, OksSayWhatIsHeld, ReadingsWereHeld, SettingsWereMade, ClassesMetAreThoseAtFirst}
pub use Rattle.oca_pair.specs.Steps.{Step, Submit, Due, ToDevice, ToLink, Other, Take, Renew, Beside, has_link, given_by, on_link, submit_outcome, after_submit, after_due_step, after_delivery}
pub use Rattle.oca_pair.specs.Steps.{content_read, hears_datagram, after_reception, after_take, after_beside, with_link, is_no_lower, renewed_link, renewal_of, after_renewal, after_step, after_steps}
pub use Rattle.oca_pair.specs.Steps.{outcome_of_step, sendings_in, submitted_by, taken_by, unanswered, messages_read, due_outcome, delivery_outcome, reception_outcomes, reception_outcome}
pub use Rattle.oca_pair.specs.Steps.{take_outcome, renewal_outcome, outcomes_of, one_later, first_missing}
pub use Rattle.oca_pair.specs.Transcripts.{IsTranscript, step_of}
pub use Rattle.oca_pair.specs.declared.start.Start.{Start}
pub use Rattle.oca_pdu.specs.Encoding.{pdu_encoding, ResponseFits, CommandFits, PduFits}
pub use Rattle.oca_pdu.specs.Laws.{WrittenIsReadBack, ReadingIsExact, AreBytes, ReadsExactly}
pub use Rattle.oca_pdu.specs.Messages.{Msg, Command, KeepAlive, messages_of, Response, ResponseFields, Commands, OneKeepAlive, Pdu, Responses}
pub use Rattle.oca_pdu.specs.declared.message.Form.{Form}
pub use Rattle.oca_pdu.specs.declared.message.Form.TheVariants.{Seconds}
pub use Rattle.oca_session.specs.Accepted.{Entry, Judgement, Fresh, Duplicate, Reused, Old, window, outside, has_handle, entry_under, asks_the_same, duplicate_or_reused, judge_unaccepted, judgement}
pub use Rattle.oca_session.specs.Accepted.{is_below, accepts}
pub use Rattle.oca_session.specs.Limits.{longest_silence}
pub use Rattle.oca_tree.specs.Execution.{TreeAndReply, first_that_applies, status_lines, status_of, kind_at, asked_at, refused, by_status, carried_out}
pub use Rattle.oca_types.specs.Sizes.{DeviceSizes, most_command_parameter_bytes, sizes_of, span_size}
pub use Rattle.oca_types.specs.declared.status.Status.{Status}
pub use Rattle.oca_device.proofs.Peers.{same_self, same_is, same_turned}
pub use Rattle.oca_control.proofs.Following.{equal_self, unequal, each_map, each_both, each_append, end_of, end_after}
pub use Rattle.oca_control.proofs.Calls.{room_each, holds_marked_sent, holds_answered, holds_received}
pub use Rattle.oca_control.proofs.Words.{on_bool}
