pub mod Exports
pub mod Slots
pub use Exports.{Answered, Answers, AnswersBytes, AnswersRead, AnswersRow, Asked, Asks, Begins}
pub use Exports.{BeginsBytes, BeginsRead, Begun, Closes, Copies, OpenFault, Opens, Puts}
pub use Exports.{PutsQuestion, ReadsAnswer, ReadsWant, RowAnswered, RowBytes, RowRead, StaysClosed}
pub use Exports.{done_number, filled, held_by, limit_in, options_in, put_number, statuses_in}
pub use Slots.{slot_owns}
