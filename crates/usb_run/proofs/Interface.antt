-- The lemmas that crates above cite. All others are for this crate alone.
pub use Rattle.usb_run.proofs.AskedCalls.{AskAnswered, Fits, silent, listed, called, news, answered}
pub use Rattle.usb_run.proofs.AskedCalls.{all_reported, same_item}
pub use Rattle.usb_run.proofs.endings.Causes.{at_fault, run_limit}
pub use Rattle.usb_run.proofs.endings.Ends.{answered_goes, knows_opened, limit_opened}
pub use Rattle.usb_run.proofs.courses.KnowledgeKept.{arrival_knows, came_running, came_still}
pub use Rattle.usb_run.proofs.courses.KnowledgeKept.{item_knows, knows_then, makes_knows}
pub use Rattle.usb_run.proofs.courses.KnowledgeKept.{puts_knows}
pub use Rattle.usb_run.proofs.items.Moments.{run_lists_right}
pub use Rattle.usb_run.proofs.courses.RunCourses.{RunsOnward, called_onward, comes_onward}
pub use Rattle.usb_run.proofs.courses.RunCourses.{puts_onward}
pub use Rattle.usb_run.proofs.courses.RunParts.{item_called, round_called}
pub use Rattle.usb_run.proofs.items.ToldTransfers.{count_done, done_told, no_bus_fault}
pub use Rattle.usb_run.proofs.items.ToldTransfers.{told_cleared, told_received, told_sent}
pub use Rattle.usb_run.proofs.items.ToldTransfers.{report_told, told_cleared_of, told_reported}
pub use Rattle.usb_run.proofs.items.ToldTransfers.{told_interface}
pub use Rattle.usb_run.proofs.items.Transcripts.{appends_no_text, cut_next, cuts_line}
pub use Rattle.usb_run.proofs.items.Transcripts.{flat_map-take, over_next, puts_line, stopped_next}
pub use Rattle.usb_run.proofs.items.Transcripts.{texts_split, told_next, unwritten_next}
pub use Rattle.usb_run.proofs.ledgers.Enough.{not_limited}
