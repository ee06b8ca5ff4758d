pub mod Faults
pub mod Statuses
pub mod Answers
pub mod Places
pub mod Questions
pub mod WriteRequests
pub mod Wants
pub mod Hearing
pub mod HeardRows
pub mod RowAnswers
pub mod Calls
pub mod Told
pub mod Drivers
pub mod DriverSteps
pub mod DriverStates
-- the words of this crate, whatever module each is in
pub use Faults.{fault_number}
pub use Statuses.{AreStatuses, IsStatus, four_at, statuses_bytes}
pub use Answers.{AnswerFault, Came, CameFault, IsAnswer, NoCameToggle, NoToggle, WrongAnswerLength}
pub use Answers.{answer_record, came_data, came_number, came_toggle, said_length, toggle_number}
pub use Places.{padded, place_bytes}
pub use Questions.{FitsQuestion, attempt_flags, attempt_head, call_head, flag, flags_by, is_one}
pub use Questions.{question_bytes, question_record, row_head, sends_one, sent_bytes, token_number}
pub use WriteRequests.{IsWrite, Write}
pub use Wants.{IsReadAs, IsWant, IsWantOf, IsWantWith, WantFault, WrongWantKind, WrongWantLength}
pub use Wants.{endpoint_in, fields_in, has_data, head_bytes, nothing, read_request, want_by}
pub use Wants.{want_data, want_head, want_kind, want_numbers, want_place, want_record, want_setup}
pub use Wants.{want_to, want_with, write_request}
pub use Hearing.{Hears, IsQuestion, answer_for, asked_on, attempt_gives, attempts_in, begun_at}
pub use Hearing.{endpoint_of, failed_by, next_answer, no_world, outcome_by, pending, restart_of}
pub use Hearing.{spent_in, status_shown, waits, with_answer, within}
pub use HeardRows.{EndsHeard, FullHeard, HearsIns, row_asked}
pub use RowAnswers.{ArePackets, CameFirst, FillsRow, FirstFault, HasOddLength, IsNoRow}
pub use RowAnswers.{packet_answer, row_max}
pub use Calls.{Makes, Tells}
pub use Told.{body_told, bytes_told, call_told, cause_names, cause_number, config_records}
pub use Told.{device_body, device_records, done_status, entry_records, fault_status}
pub use Told.{finding_records, look_body, look_told, news_body, news_bytes, news_told, number_of}
pub use Told.{packet_told, poll_status, ports_number, record_of, refused_body, request_number}
pub use Told.{round_status, said_of, speed_number, status_by, string_records, transfer_number}
pub use Told.{tree_records, tree_told, units_bytes}
pub use Drivers.{AnswerRefused, AnswersQuestion, AnswersRow, Asks, AsksNone, Begins, Call}
pub use Drivers.{CallState, DriverState, EndsWith, Finishes, GoesTo, HasNoFirst, HasNoRoots}
pub use Drivers.{HasTooMuch, IsIdle, IsTold, IsUnderWay, MakesCall, NeedsAnswer, Opens, RowRefused}
pub use Drivers.{StepRefused, Steps, TakesAnswer, TakesRow, call_in, call_of, call_under_way}
pub use Drivers.{is_call, is_under_way, on_bus, opening}
pub use DriverSteps.{CallIs, StepOf, the_call}
pub use DriverStates.{driver_state}
pub use declared.answer.Answer.{Answer}
pub use declared.fault.DriverFault.{DriverFault}
pub use declared.fault.DriverFault.TheVariants.{Kind, Length, Memory, Number, OutOfTurn, Roots}
pub use declared.fault.DriverFault.TheVariants.{TooMuch}
pub use declared.question.Question.{Question}
pub use declared.want.Want.{Want}
