-- What the proofs of this crate name: of std, of the crates below, and of its own definitions.
pub use Rattle.std.proofs.Common.{◌≡◌, ℕ, ◌<◌, ◌≤◌, Bool, true, false, cond, ◌&&◌, ◌||◌, max, List, [], ◌∷◌, Option, Some, None, Result, Ok, Err, is_some, refl, sym, ap, ◌∙◌, arith, subst, ◌⊎◌, suc}
pub use Rattle.std.proofs.Common.{◌+◌, ◌-◌, not, ◌++◌, length, is_none, inl, inr, zero, ◌*◌, map, append_assoc, append-nil, ◌^◌, min, length-append, ◌%◌, ◌≢◌, get_or, set, rules}
pub use Rattle.std.proofs.Math.Bool.{or-true, or-false, and-false, and-true}
pub use Rattle.std.proofs.Math.Dec.{eqb}
pub use Rattle.std.proofs.Math.Nat.{le_refl, add-zero, suc-mul, mul-le-mul_right, zero-add, add_assoc, zero-lt-suc}
pub use Rattle.std.proofs.lemmas.Bool.{and_from, and_parts, eqb-true, leb-true, leb-false, or_parts, ltb-true, or_right, or_from, le-leb, lt-leb, le-ltb, ne_eqb, lt-ltb, eq-eqb}
pub use Rattle.std.proofs.lemmas.Bool.Decides.{nat_tests}
pub use Rattle.std.proofs.lemmas.Grind.{flat_map-append}
pub use Rattle.std.proofs.lemmas.List.{get_or-set_same, get_or-set_other, get_or_default, map-append, length-set, set-get_or}
pub use Rattle.std.proofs.lemmas.List.Folds.{list_any-append, list_all-append}
pub use Rattle.std.specs.Prelude.{nat_eq, nat_le, filter, nat_lt, ◌==◌, IsTrue, count_by, IfSome}
pub use Rattle.oca_control.specs.Words.{CommandFields, Datagram, DeliversAndTakes, Delivery, EndState, Failed, Handle, Peer, Quiet, RequestFields}
pub use Rattle.oca_control.specs.Words.{SendsAllBut, Sent, most_command_parameter_bytes, same_peer}
pub use Rattle.std.specs.List.{AllByRecursion, flat_map, list_any}
pub use Rattle.oca_control.specs.Answering.{has_response, TakesNothingOf, CallsDueAt, is_given_in, is_among, last_asked, IsAskedEvery, IsWaiting, IsSentInTime, is_none_left}
pub use Rattle.oca_control.specs.Answers.{AnswerFields, answer_of_response}
pub use Rattle.oca_control.specs.Asking.{beginning, TakesATurn, TakesTurns, NoneTaken, OneTaken, Waits, ReceivesSoOften, Begins, Asks, refused_by, HasOutcome, IsPresent}
pub use Rattle.oca_control.specs.Contents.{IsContent}
pub use Rattle.oca_control.specs.Driving.{goes_on, HearsDelivery, DrivesTurn, given_to, all_given_to, answered_by, is_failed_delivery, drive_report_of, Drives, NoTurn, OneMore, DrivesEnd}
pub use Rattle.oca_control.specs.Driving.{decides_lost, HearsDatagram, gives_command, is_keep_alive, receives_driven, drive_report_sum, drive_report_capped}
pub use Rattle.oca_control.specs.Histories.{Call, Submits, SendsDue, Receives, TakesAnswer, IsHistory, clock_of_calls, answers_to, first_of, is_untaken, last_heard, IsFirstAnswered, AgreesWithCalls}
pub use Rattle.oca_control.specs.Histories.{commands, Sending, sendings, answers_among, answers_of, is_answered, may_be_sent, is_due_at, is_lost_answer, is_lost, IsDueAnswer, GivesWhatIsDue, IsCall}
pub use Rattle.oca_control.specs.Histories.{command_accepted, IsCopy, AreSendingsApart, sending_of, RiseFrom, last_given, TakesTheFirst, IsLowestDue, NoneIsDue, HasSpanRoom, IsFull, IsSubmitAnswer}
pub use Rattle.oca_control.specs.Histories.{AnswersSubmits, IsLawful}
pub use Rattle.oca_control.specs.Links.{LinkState, submission, after_submission, Decision, GivesCommand, GivesKeepAlive, GivesNothing, IsLost, decision, present_moment, after_due, late_at, submitted}
pub use Rattle.oca_control.specs.Links.{due_answer, due_bytes, taken, Request, command_under, submission_under, handle_after, decision_among, hears_content, received, new_link, gone_on, reception}
pub use Rattle.oca_control.specs.Links.{reception_of, reception_counted, IsNextDue, NeverIsDue}
pub use Rattle.oca_control.specs.PrivateAsking.{Settles, EndsWait}
pub use Rattle.oca_control.specs.PrivateDriving.{given_report, IsReportWithin, GivesOne, DrivesOnce, DriveFindsClosed}
pub use Rattle.oca_control.specs.PrivateSlots.{Held, held_at, held_is_due, held_is_late, held_answer, untaken_at, some_due, IsShortResponse, AreShortResponses, held_waits, TableState, new_held}
pub use Rattle.oca_control.specs.PrivateSlots.{IsSlotTable, held_given, held_answered, IsLowestDueSlot, decided, first_decided, after_decision, bytes_decided}
pub use Rattle.oca_control.specs.Running.{NothingIsLeft, HasTimeLeft, HaveTimeLeft, HasTimeAt, delivered_at, AreWithin, IsRun, NothingDone, DroveATurn, TookATurn, SentAllDue, SentAllInTime, Began}
pub use Rattle.oca_control.specs.Running.{Took, BecomesBy, IsAsked, CommandIsInTime, moments_delivered, ReturnsWithin, RunsOver, begun_at, EveryCallRuns, EveryOwnReceiveRuns, EveryRunGoesOn}
pub use Rattle.oca_control.specs.Running.{EveryScriptIsKept}
pub use Rattle.oca_control.specs.Shortening.{shortened_message, shortened}
pub use Rattle.oca_control.specs.Steps.{ReceivesDatagram, ReceivesWithin}
pub use Rattle.oca_control.specs.Turning.{TurnsInTime, GivesIf, SendsInTime, GivesAllInTime, GivesAfter, Turns, decisions_in_time, link_in_time, TurnsLinkOnce}
pub use Rattle.oca_control.specs.Untaken.{Untaken, first_answered, holds, answer_under, is_due, first_due, marked_sent, without_handle, new_untaken, span_has_room, answered, hears_all, is_late, waits}
pub use Rattle.oca_control.specs.Untaken.{answers_by_all, hears, answers_by}
pub use Rattle.oca_control.specs.Waiting.{TakesTurnsBefore, WaitsUntil, IsBefore, WaitsWhile, TakesATurnAndSees, OneTurn, ReceivesInAWait, most_turns_of_a_wait}
pub use Rattle.oca_control.specs.declared.due.Due.{Due}
pub use Rattle.oca_control.specs.declared.fault.ControlFault.{ControlFault}
pub use Rattle.oca_control.specs.declared.outcome.Outcome.{Outcome}
pub use Rattle.oca_control.specs.declared.reception.Reception.{Reception}
pub use Rattle.oca_control.specs.declared.report.DriveReport.{DriveReport}
pub use Rattle.oca_net.specs.Ends.{last_u64, is_failed}
pub use Rattle.oca_net.specs.declared.end.Heard.{Heard}
pub use Rattle.oca_pdu.specs.Datagrams.{datagram_messages, messages_left}
pub use Rattle.oca_pdu.specs.Encoding.{pdu_encoding, IsDatagram, response_encoding}
pub use Rattle.oca_pdu.specs.Messages.{Msg, Command, Response, KeepAlive, Commands, Pdu, Responses, OneKeepAlive, ResponseFields, messages_of, msg_of}
pub use Rattle.oca_pdu.specs.Reading.{read_datagram}
pub use Rattle.oca_types.specs.Moments.{HoldsFrom}

-- What holds at true and at false holds of each test.
pub on_bool : (b : Bool) (P : Bool → Type 0) → P true → P false → P b
on_bool true P at_true at_false = at_true
on_bool false P at_true at_false = at_false
