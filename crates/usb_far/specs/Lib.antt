pub mod Sends
pub mod Requested
pub mod FarEnd
pub mod Told
pub mod Serving
-- the words of this crate, wherever one stands
pub use Sends.{ToSend, line_limit}
unfoldable pub use Sends.{fits_line}
pub use Requested.{alone, answer_in, asked_wanted, due_wanted, part_size, part_wanted, send_answer}
pub use Requested.{send_wanted, sending_in}
unfoldable pub use Requested.{write_wanted}
pub use FarEnd.{ChangesTold, Deed, Far, Follows, HasNoPort, HasNoReply, IsDone, IsEventGivenUp}
pub use FarEnd.{IsFaultless}
pub use FarEnd.{IsGivenUp, IsReplied, IsUnanswered, Played, PutsLine, Replies, SendsTooMuch}
pub use FarEnd.{attempt_of_in, attempt_of_out, attempt_of_setup, behind_first, bus_told, came_of}
pub use FarEnd.{destination_at, done, far_after, far_begun, far_done, far_of, is_first}
pub use FarEnd.{brings_nothing, is_damaged, is_in_token, is_poll, line_of, may_ask, may_ask_as}
pub use FarEnd.{outcome_answer, played_of, push_of}
pub use FarEnd.{reading_fault, status_lines, told_behind, unseen_in, wanted_done}
pub use FarEnd.{brings_full, ins_behind, is_taken, outs_behind, packet_of, rest_behind}
unfoldable pub use FarEnd.{attempt_done, call_done, hello_done, pushes, restart_done}
unfoldable pub use FarEnd.{statuses, wait_done}
pub use Told.{HasNoQuestion, HasQuestion, MayGoOn, Misread, OnlyReads, OnlyReadsLine, Reading}
pub use Told.{ReadsEnd, ReadsOn, ReadsQuestion, ReadsTold, TakesLine, begins_block, begins_with}
pub use Told.{is_report, is_told, phase_behind, reading}
pub use Serving.{AllReplied, CauseOf, InTurn, IsLastLine, IsUnwritten, LineReplied}
pub use Serving.{Passed, Passes, reading_in}
pub use Serving.{Scene, ServedAll, ServedNone, ServedOne, ServedSome, ServedUpTo, ServesHost}
pub use Serving.{ServesNext, and_then, passed}
pub use Serving.{scene, AllReplies, GoesOn, RepliesAll, RowEnds, RowFront, RowStops}
pub use Serving.{RowReplied}
pub use declared.far_end.Phase.{Phase}
pub use declared.fault.FarFault.{FarFault}
pub use declared.fault.FarFault.TheVariants.{LongSend}
pub use declared.reply.Came.{Came}
pub use declared.reply.Replied.{Replied}
pub use declared.told.HostLine.{HostLine}
pub use declared.wanted.Wanted.{Wanted}
