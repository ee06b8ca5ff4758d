pub mod Course
pub mod Wanted
-- the words of this crate, wherever one stands
pub use Course.{CourseTo, EndsBy, EndsLiveAs, IsOver, IsShown, ListsEntries, LiveCourse, LiveHost}
pub use Course.{Lives, MayHold, live_host}
pub use Course.{StandsAtStage, WantsEnd, fits, goes_on, is_count, is_nothing, is_wait}
pub use Course.{is_within, listed, owed_by, owed_left, owes, questions_in, same_choice, same_task}
pub use Course.{settles, stage_behind, stage_behind_answer, told_text}
pub use Wanted.{DoesWanted, IsOwed, Lists, ask_of}
pub use declared.end.LiveEnd.{LiveEnd}
pub use declared.end.LiveEnd.TheVariants.{Line, Memory, Rounds}
pub use declared.owed.EndOwed.{EndOwed}
pub use declared.owed.Owed.{Owed}
pub use declared.stage.Stage.{Stage}
pub use declared.stage.Stage.TheVariants.{Asks, EndWanted, Over}
