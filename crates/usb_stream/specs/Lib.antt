pub mod Stream
-- the words of this crate, wherever one stands
pub use Stream.{AnswerLinesRead, AskedWell, AsksCall, AsksNoMore, AsksNoQuestion, AsksOnce}
pub use Stream.{AttemptsBy, AttemptsByLine, BadLine, Calls, CauseOf, CauseOfHearing, CauseOfLine}
pub use Stream.{EndsEarly, FailsByLine, FailsOnce, FailsToRead, GivesAs, HeardTooMany, HeardUpTo}
pub use Stream.{IsAtLimit, IsUnheard, IsUnwritten, Kept, PushesRead, Restarts, SaidEnd, SaidLine}
pub use Stream.{Says, SaysHello, StatusesRead, StreamPipes, WritesLines, asking, attempts_in}
pub use Stream.{bus_fault, counted_on, data_for, endpoint_of, greeted, greeted_by, kept_of}
pub use Stream.{kept_status, no_world, outcome_for, question_for, questions, restart_of, roots_if}
pub use Stream.{streams, hubs_of, unasked, unread_of, written_of}
pub use Stream.{HeardMore, HearsMore, HearsNoMore, InsByLine, OutsByLine, RefusesRow, RowBy}
pub use Stream.{RowEndsBy, RowFails, RowHeard, RowPlan, RowStep, RowStops, StepBy, bytes_in}
pub use Stream.{ins_for, ins_plan, is_ack, more_answers, none_heard, one_heard, outs_for}
pub use Stream.{outs_plan, room_of, was_asked}
pub use declared.bus.StreamBus.{StreamBus}
pub use declared.fault.LiveFault.{LiveFault}
pub use declared.fault.LiveFault.TheVariants.{LimitReached, Write}
